use Rattle.std.proofs.Common.{◌≡◌, ◌++◌, take, drop, length}
use Rattle.rows.specs.Vectors.{iovecs_of}
use Rattle.rows.proofs.view.Rows.fill_iovecs.Given as goal

abbrev pub invariant-loop-i : goal.invariant-loop-i
invariant-loop-i l =
    (take l.i l.iovecs ++ iovecs_of l.within (drop l.i l.carried) ≡ iovecs_of l.fn.cursor.within l.carried)
    × (drop (length l.carried) l.iovecs ≡ drop (length l.carried) l.initial.iovecs)
