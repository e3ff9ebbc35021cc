use Rattle.std.proofs.Common.{◌≡◌, ◌++◌, take, drop}
use Rattle.marks.specs.Marking.{cover_first}
use Rattle.marks.proofs.mark.cover_first.Given as goal

abbrev pub invariant-loop-mark : goal.invariant-loop-mark
invariant-loop-mark l = take l.mark-index l.marks ++ cover_first l.left (drop l.mark-index l.marks) ≡ cover_first l.count l.initial.marks
