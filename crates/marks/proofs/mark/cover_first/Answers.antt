use Rattle.std.proofs.Common.{rules}
use Rattle.marks.proofs.Walks.{cover_more, cover_all}
use Rattle.marks.proofs.mark.cover_first.Goals as goal

pub loop-mark-preserved : goal.loop-mark-preserved
loop-mark-preserved c = search (rules, cover_more)

pub returns : goal.returns
returns c = search (rules, cover_all)
