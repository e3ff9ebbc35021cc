use Rattle.std.proofs.Common.{◌≡◌, ◌+◌, ◌*◌, ◌≤◌, drop}
use Rattle.rows.specs.Vectors.{range, all_within, total}
use Rattle.rows.proofs.view.Rows.admitted_total.Given as goal

abbrev pub invariant-loop-row : goal.invariant-loop-row
invariant-loop-row l =
    (all_within (drop l.row-index l.row-items) ≡ all_within (range l.table l.first l.count))
    × (l.bytes + total (drop l.row-index l.row-items) ≡ total (range l.table l.first l.count))
    × (l.bytes ≤ l.row-index * 1073741824)
