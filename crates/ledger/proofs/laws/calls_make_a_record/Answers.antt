use Rattle.std.proofs.Common.{refl}
use Rattle.ledger.specs.Laws.{Told.begins, Told.goes_on}
use Rattle.ledger.specs.Notions.{Telling.refreshed, Telling.wrote, Telling.sync_ended, Telling.sync_failed}
use Rattle.ledger.proofs.laws.calls_make_a_record.Goals as goal

pub returns : goal.returns
returns g c =
    let a = goes_on _ (refreshed c.args.row) _ _ (begins _ refl) tt c.fresh.ensures in
    let b = goes_on _ (wrote c.args.row c.args.state c.args.res c.wrote-answer.result) _ _ a c.wrote-answer.ensures.answer c.wrote-answer.ensures.after in
    let d = goes_on _ (sync_ended c.args.row c.args.seen c.end_sync-ended.result) _ _ b c.end_sync-ended.ensures.answer c.end_sync-ended.ensures.after in
    goes_on _ (sync_failed c.args.row c.args.res) _ _ d tt c.sync_failed.ensures
