use Rattle.std.proofs.Common.{◌≡◌, ◌+◌, ◌≤◌, drop}
use Rattle.marks.specs.Marking.{completed_marks, covered_marks}
use Rattle.marks.proofs.mark.tally.Given as goal

abbrev pub invariant-loop-mark : goal.invariant-loop-mark
invariant-loop-mark l = (l.completed + completed_marks (drop l.mark-index l.marks) ≡ completed_marks l.marks)
    × (l.covered + covered_marks (drop l.mark-index l.marks) ≡ covered_marks l.marks)
    × (l.completed ≤ l.mark-index) × (l.covered ≤ l.mark-index)
