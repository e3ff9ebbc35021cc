use Rattle.tables.proofs.ListLawful.{list_laws}
use Rattle.tables.proofs.laws.lists_hold_what_was_put.Goals as goal

pub returns : goal.returns
returns g c = list_laws g.row.X.Denot
