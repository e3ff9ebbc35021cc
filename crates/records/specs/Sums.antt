-- Sums of 64-bit numbers.
use Rattle.std.specs.Prelude.{ℕ, ◌+◌, min}

-- a sum that stops at 2^64 - 1; the sums of an admitted request never come there
abbrev pub plus : ℕ → ℕ → ℕ
plus a b = min (a + b) 18446744073709551615
