use Rattle.slots.proofs.Lawful.{slab_laws}
use Rattle.slots.proofs.laws.ids_resolve_until_removal.Goals as goal

pub returns : goal.returns
returns g c = slab_laws g.row.T.Denot
