use Rattle.std.proofs.Common.{rules}
use Rattle.ledger.proofs.Filling.{map_replicate}
use Rattle.ledger.proofs.lent.LentLedger.new.Goals as goal

pub returns : goal.returns
returns g c = search (rules, map_replicate)
