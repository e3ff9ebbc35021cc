-- The laws' words for rows and the calls' words for them.
use Rattle.std.proofs.Common.{◌≡◌, ℕ, ◌+◌, ◌-◌, ◌≤◌, true, List, [], ◌∷◌, drop, refl, ap, arith}
use Rattle.std.proofs.lemmas.Bool.{and_parts}
use Rattle.std.proofs.lemmas.Bool.Decides.{nat_tests}
use Rattle.std.proofs.lemmas.List.{take-take, drop-take}
use Rattle.records.specs.Limits.{row_limits}
use Rattle.records.specs.declared.buffer.ChunkRow.{ChunkRow}
use Rattle.records.specs.declared.buffer.Iovec.{Iovec}
use Rattle.rows.specs.Laws.{Sound}
use Rattle.rows.specs.Vectors.{range, total, all_within, iovec_bytes}
use Rattle.runs.specs.Notions.{sum, rows_of, sizes}

pub range_is : (table : List ChunkRow) (first count : ℕ) → first + count ≤ 65536 → range table first count ≡ rows_of table first count
unfolding range
range_is table first count h =
    let e : first + (65536 - first) ≡ 65536 = omega arith in
    rw (← e, drop-take) (take-take count (65536 - first) (drop first table) (omega arith))

pub sum_is : (xs : List ChunkRow) → total xs ≡ sum xs
unfolding total
sum_is [] = refl
sum_is (x ∷ xs) = ap (λ n. x.length + n) (sum_is xs)

pub sizes_is : (vs : List Iovec) → iovec_bytes vs ≡ sizes vs
unfolding iovec_bytes
sizes_is [] = refl
sizes_is (v ∷ vs) = ap (λ n. v.length + n) (sizes_is vs)

pub within_is : (xs : List ChunkRow) → all_within xs ≡ true → Sound xs
unfolding all_within
within_is [] e = tt
within_is (x ∷ xs) e = (grind (arith, nat_tests), grind (arith, nat_tests), within_is xs (and_parts (row_limits x) (all_within xs) e).1)
