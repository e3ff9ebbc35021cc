use Rattle.std.proofs.Common.{◌≡◌, take, replicate}
use Rattle.tables.proofs.slices.fill.Given as goal

abbrev pub invariant-loop-y : goal.invariant-loop-y
invariant-loop-y g l = take l.y-index l.xs ≡ replicate l.y-index l.fn.x
