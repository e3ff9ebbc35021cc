use Rattle.std.proofs.Common.{◌≡◌, ◌+◌, ◌*◌, ◌≤◌, drop}
use Rattle.rows.specs.Vectors.{total}
use Rattle.rows.proofs.view.Rows.carried_bytes.Given as goal

abbrev pub invariant-loop-row : goal.invariant-loop-row
invariant-loop-row l =
    (l.bytes + total (drop l.row-index l.rest) ≡ l.initial.bytes + total l.rest)
    × (l.bytes ≤ (l.row-index + 1) * 18446744073709551616)
