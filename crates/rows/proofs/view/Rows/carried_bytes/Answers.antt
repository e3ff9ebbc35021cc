use Rattle.std.proofs.Common.{rules}
use Rattle.rows.proofs.Walks.{bytes_none, bytes_first, bytes_rest, total_at, total_end}
use Rattle.rows.proofs.view.Rows.carried_bytes.Goals as goal

pub returns-in_default : goal.returns-in_default
returns-in_default c = search (rules, bytes_none)

pub loop-row-preserved : goal.loop-row-preserved
loop-row-preserved c = search (rules, total_at)

pub returns : goal.returns
returns c = search (rules, total_end, bytes_first, bytes_rest)
