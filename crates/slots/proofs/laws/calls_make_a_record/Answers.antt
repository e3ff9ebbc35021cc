use Rattle.slots.specs.Events.{Reached.inserts, Reached.sets, Reached.removes}
use Rattle.slots.proofs.Lawful.{slab_laws}
use Rattle.slots.proofs.laws.calls_make_a_record.Goals as goal

pub returns : goal.returns
returns g c slots h d =
    let a = inserts _ _ h c.args.x _ d c.insert-given.ensures.answer c.insert-given.ensures.after in
    let b = sets _ _ _ c.args.id c.args.x _ a c.set-live.ensures.answer c.set-live.ensures.after in
    let e = removes _ _ _ c.args.id _ b c.remove-taken.ensures.answer c.remove-taken.ensures.after in
    (e, slab_laws g.row.T.Denot slots _ _ e)
