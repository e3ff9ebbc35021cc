use Rattle.std.proofs.Common.{◌≡◌, ◌+◌, drop}
use Rattle.rows.specs.Vectors.{along, advanced_in}
use Rattle.rows.proofs.view.Rows.advance.Given as goal

abbrev pub invariant-loop-row : goal.invariant-loop-row
invariant-loop-row l =
    (l.at.row ≡ l.fn.cursor.row + l.row-index)
    × (along (drop l.row-index l.row-items) l.at.row l.at.within l.left ≡ advanced_in l.self l.fn.cursor l.fn.bytes)
