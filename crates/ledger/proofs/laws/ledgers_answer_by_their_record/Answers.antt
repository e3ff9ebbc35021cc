use Rattle.ledger.proofs.Recording.{ledger_laws}
use Rattle.ledger.proofs.laws.ledgers_answer_by_their_record.Goals as goal

pub returns : goal.returns
returns g c = ledger_laws g.L.Ledger.rows g.L.Ledger.peak
