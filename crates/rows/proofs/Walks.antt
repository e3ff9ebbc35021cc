-- A step and the end of each walk over rows.
use Rattle.std.proofs.Common.{◌≡◌, ℕ, ◌+◌, ◌-◌, ◌<◌, ◌≤◌, min, true, cond, ◌&&◌, ltb, List, [], ◌∷◌, ◌++◌, length, take, drop, set, get_or, Some, None, refl, sym, ap, ◌∙◌, append_assoc, arith}
use Rattle.std.proofs.lemmas.List.{at_drop_more, at_drop_all, take_more_set, take-append-drop, append-nil, take_min, take-take, drop-take, length-take}
use Rattle.std.proofs.lemmas.Bool.Decides.{nat_tests}
use Rattle.std.proofs.lemmas.Option.{cond_some}
use Rattle.records.specs.Limits.{row_limits}
use Rattle.records.specs.declared.buffer.ChunkRow.{ChunkRow}
use Rattle.records.specs.declared.buffer.Iovec.{Iovec}
use Rattle.rows.specs.Vectors.{all_within, total, iovec_of, iovecs_of, iovec_bytes, stop_in, along}

-- what a walk reads at an index past the end
abbrev pub blank : ChunkRow
blank = record { place = 0; length = 0 }

-- a range of a table's front

front_of_front : (n m : ℕ) (xs : List ChunkRow) → take (min n m) xs ≡ take n (take m xs)
front_of_front n m xs =
    let e : min (min n m) (length xs) ≡ min n (min m (length xs)) = omega arith in
    sym (take_min (min n m) xs)
    ∙ ap (λ k. take k xs) e
    ∙ sym (take-take (min n (min m (length xs))) m xs (omega arith))
    ∙ ap (λ k. take (min n k) (take m xs)) (sym (length-take m xs))
    ∙ take_min n (take m xs)

pub range_front : (f n m : ℕ) (xs : List ChunkRow) → drop f (take (min (f + n) m) xs) ≡ take n (drop f (take m xs))
range_front f n m xs = ap (drop f) (front_of_front (f + n) m xs) ∙ drop-take f n (take m xs)

-- the sum of an admission

pub good_at : (v : List ChunkRow) (i : ℕ) → i < length v → all_within (drop i v) ≡ (row_limits (get_or v i blank) && all_within (drop (i + 1) v))
unfolding all_within
good_at v i h = at_drop_more all_within v i blank h

pub good_end : (v : List ChunkRow) (i : ℕ) → length v ≤ i → all_within (drop i v) ≡ true
unfolding all_within
good_end v i h = at_drop_all all_within v i h

pub total_at : (v : List ChunkRow) (i : ℕ) → i < length v → total (drop i v) ≡ (get_or v i blank).length + total (drop (i + 1) v)
unfolding total
total_at v i h = at_drop_more total v i blank h

pub total_end : (v : List ChunkRow) (i : ℕ) → length v ≤ i → total (drop i v) ≡ 0
unfolding total
total_end v i h = at_drop_all total v i h

-- a cursor's way

pub along_at : (v : List ChunkRow) (i c o n : ℕ) → i < length v →
    along (drop i v) c o n ≡ cond (ltb n ((get_or v i blank).length - o)) (record { row = c; within = o + n }) (along (drop (i + 1) v) (c + 1) 0 (n - ((get_or v i blank).length - o)))
unfolding along
along_at v i c o n h = at_drop_more (λ rs. along rs c o n) v i blank h

pub along_stops : (v : List ChunkRow) (i c o n w : ℕ) → i < length v → stop_in (get_or v i blank) o n ≡ Some w → along (drop i v) c o n ≡ record { row = c; within = w }
along_stops v i c o n w h s =
    let p = cond_some (ltb n ((get_or v i blank).length - o)) (o + n) w s in
    along_at v i c o n h ∙ rw (p.0, p.1) refl

pub along_passes : (v : List ChunkRow) (i c o n : ℕ) → i < length v → stop_in (get_or v i blank) o n ≡ None →
    along (drop i v) c o n ≡ along (drop (i + 1) v) (c + 1) 0 (n - ((get_or v i blank).length - o))
along_passes v i c o n h s = along_at v i c o n h ∙ grind (arith, nat_tests, s)

pub along_end : (v : List ChunkRow) (i c o n : ℕ) → length v ≤ i → along (drop i v) c o n ≡ record { row = c; within = o }
unfolding along
along_end v i c o n h = at_drop_all (λ rs. along rs c o n) v i h

-- iovecs written one by one

pub fill_more : (u : List ChunkRow) (xs : List Iovec) (i o : ℕ) (d : ChunkRow) → i < length u → i < length xs →
    take (i + 1) (set xs i (iovec_of (get_or u i d) o)) ++ iovecs_of 0 (drop (i + 1) u) ≡ take i xs ++ iovecs_of o (drop i u)
unfolding iovecs_of
fill_more u xs i o d h k =
    ap (λ l. l ++ iovecs_of 0 (drop (i + 1) u)) (take_more_set xs i (iovec_of (get_or u i d) o) k)
    ∙ append_assoc (take i xs) (iovec_of (get_or u i d) o ∷ []) (iovecs_of 0 (drop (i + 1) u))
    ∙ sym (ap (λ l. take i xs ++ l) (at_drop_more (iovecs_of o) u i d h))

-- the list behind the last row is as it was
pub fill_end : (u : List ChunkRow) (xs old : List Iovec) (i o : ℕ) → i ≡ length u → drop (length u) xs ≡ drop (length u) old →
    xs ≡ (take i xs ++ iovecs_of o (drop i u)) ++ drop (length u) old
unfolding iovecs_of
fill_end u xs old i o h e =
    rw (at_drop_all (iovecs_of o) u i (omega arith), append-nil, h, ← e) (sym (take-append-drop (length u) xs))

-- the bytes of a submission

pub bytes_none : (u : List ChunkRow) (o : ℕ) → length u ≡ 0 → 0 ≡ iovec_bytes (iovecs_of o u)
unfolding iovecs_of iovec_bytes
bytes_none [] o h = refl
bytes_none (r ∷ rs) o h = absurd (omega arith)

pub bytes_rest : (rs : List ChunkRow) → iovec_bytes (iovecs_of 0 rs) ≡ total rs
unfolding iovecs_of iovec_bytes total
bytes_rest [] = refl
bytes_rest (r ∷ rs) = let i = bytes_rest rs in omega (arith, i)

pub bytes_first : (r : ChunkRow) (u : List ChunkRow) (o : ℕ) → iovec_bytes (iovecs_of o (r ∷ u)) ≡ (r.length - o) + iovec_bytes (iovecs_of 0 u)
unfolding iovecs_of iovec_bytes
bytes_first r u o = refl
