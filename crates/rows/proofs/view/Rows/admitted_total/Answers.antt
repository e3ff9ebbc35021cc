use Rattle.std.proofs.Common.{rules}
use Rattle.rows.proofs.Walks.{good_at, good_end, total_at, total_end}
use Rattle.rows.proofs.view.Rows.admitted_total.Goals as goal

pub returns-then-not-is_within_limits : goal.returns-then-not-is_within_limits
returns-then-not-is_within_limits c = search (rules, good_at)

pub loop-row-preserved : goal.loop-row-preserved
loop-row-preserved c = search (rules, good_at, total_at)

pub returns : goal.returns
returns c = search (rules, good_end, total_end)
