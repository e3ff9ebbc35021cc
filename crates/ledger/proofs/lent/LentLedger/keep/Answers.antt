use Rattle.std.proofs.Common.{rules}
use Rattle.std.proofs.lemmas.List.{map-set}
use Rattle.ledger.proofs.lent.LentLedger.keep.Goals as goal

pub returns : goal.returns
returns g c = search (rules, map-set)
