use Rattle.std.proofs.Common.{rules}
use Rattle.marks.proofs.Walks.{completed_more, completed_all, covered_more, covered_all}
use Rattle.marks.proofs.mark.tally.Goals as goal

pub loop-mark-preserved : goal.loop-mark-preserved
loop-mark-preserved c = search (rules, completed_more, covered_more)

pub returns : goal.returns
returns c = search (rules, completed_all, covered_all)
