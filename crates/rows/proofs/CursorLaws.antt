-- A cursor and the bytes before it.
use Rattle.std.proofs.Common.{◌≡◌, ℕ, zero, suc, ◌+◌, ◌-◌, ◌<◌, ◌≤◌, min, true, false, ltb, List, [], ◌∷◌, take, drop, sym, refl, ap, ◌∙◌, arith}
use Rattle.std.proofs.lemmas.Bool.{cond_both, ltb-true, ltb-false, lt-ltb, le-ltb}
use Rattle.std.proofs.lemmas.List.{drop-drop}
use Rattle.records.specs.declared.buffer.ChunkRow.{ChunkRow}
use Rattle.records.specs.declared.write.Cursor.{Cursor}
use Rattle.rows.specs.Vectors.{range, carried, carried_in, total, iovec_of, iovecs_of, iovec_bytes, along}
use Rattle.rows.proofs.Walks.{bytes_rest}
use Rattle.rows.specs.Laws.{Sound, before, Inside, Stands, left_after, CursorLaws}

total_split : (v : List ChunkRow) (c : ℕ) → total (take c v) + total (drop c v) ≡ total v
unfolding total
total_split v zero = omega arith
total_split [] (suc c) = refl
total_split (x ∷ xs) (suc c) = let i = total_split xs c in omega (arith, i)

pub sound_drop : (v : List ChunkRow) (c : ℕ) → Sound v → Sound (drop c v)
sound_drop v zero s = s
sound_drop [] (suc c) s = tt
sound_drop (x ∷ xs) (suc c) s = sound_drop xs c s.2

pub inside_none : (q : List ChunkRow) → Sound q → Inside q 0
inside_none [] s = refl
inside_none (x ∷ xs) s = s.0

-- the rows behind the first
next_rows : (v rs : List ChunkRow) (c : ℕ) (r : ChunkRow) → drop c v ≡ r ∷ rs → drop (c + 1) v ≡ rs
next_rows v rs c r d = sym (drop-drop 1 c v) ∙ ap (drop 1) d

moved : (v rs : List ChunkRow) (c o n : ℕ) → drop c v ≡ rs → Sound rs → Inside rs o → o + n ≤ total rs →
    before v (along rs c o n) ≡ total (take c v) + o + n
unfolding along total
moved v [] c o n d ok h b = omega (arith, h, b)
moved v (r ∷ rs) c o n d ok h b =
    cond_both (ltb n (r.length - o)) _ _ (λ k. before v k ≡ total (take c v) + o + n)
    (λ e. omega arith)
    (λ e. let l = ltb-false _ _ e in
    let u = next_rows v rs c r d in
    let w = ap total d in
    let w' = ap total u in
    let s = total_split v c in
    let t = total_split v (c + 1) in
    let i = moved v rs (c + 1) 0 (n - (r.length - o)) u ok.2 (inside_none rs ok.2) (omega (arith, l, h, b)) in
    omega (arith, i, s, t, w, w', l, h))

stays : (v rs : List ChunkRow) (c o n : ℕ) → drop c v ≡ rs → Sound rs → Inside rs o → Inside (drop (along rs c o n).row v) (along rs c o n).within
unfolding along
stays v [] c o n d ok h = rw d h
stays v (r ∷ rs) c o n d ok h =
    cond_both (ltb n (r.length - o)) _ _ (λ (k : Cursor). Inside (drop k.row v) k.within)
    (λ e. let l = ltb-true _ _ e in let g : Inside (r ∷ rs) (o + n) = omega (arith, l, h) in rw d g)
    (λ e. stays v rs (c + 1) 0 (n - (r.length - o)) (next_rows v rs c r d) ok.2 (inside_none rs ok.2))

-- iovecs of rows that hold their offset

short : (rs : List ChunkRow) (o : ℕ) → Inside rs o → iovec_bytes (iovecs_of o rs) + o ≡ total rs
unfolding iovec_bytes iovecs_of total
short [] o h = omega (arith, h)
short (r ∷ rs) o h = let i = bytes_rest rs in omega (arith, i, h)

total_take : (k : ℕ) (xs : List ChunkRow) → total (take k xs) ≤ total xs
unfolding total
total_take zero xs = omega arith
total_take (suc k) [] = omega arith
total_take (suc k) (x ∷ xs) = let i = total_take k xs in omega (arith, i)

inside_take : (k : ℕ) (xs : List ChunkRow) (o : ℕ) → Inside xs o → Inside (take (suc k) xs) o
inside_take k [] o h = h
inside_take k (x ∷ xs) o h = h

fits_in : (table : List ChunkRow) (f n : ℕ) (c : Cursor) → Stands (range table f n) c →
    before (range table f n) c + iovec_bytes (iovecs_of c.within (carried table f n c.row)) ≤ total (range table f n)
unfolding carried_in
fits_in table f n c h =
    let a = short (take 1024 (drop c.row (range table f n))) c.within (inside_take 1023 (drop c.row (range table f n)) c.within h) in
    let b = total_take 1024 (drop c.row (range table f n)) in
    let s = total_split (range table f n) c.row in
    omega (arith, a, b, s)

-- what is left of rows, cut to k pieces

piece : (r : ChunkRow) (o : ℕ) → o < r.length → r.place + r.length ≤ 140737488355328 →
    iovec_of r o ≡ record { base = r.place + o; length = r.length - o }
piece r o h t = let e : min (r.place + o) 18446744073709551615 ≡ r.place + o = omega arith in rw e

cut : (k : ℕ) (rs : List ChunkRow) (o : ℕ) → Sound rs → Inside rs o → iovecs_of o (take k rs) ≡ take k (left_after o rs)
unfolding iovecs_of
cut zero rs o ok h = refl
cut (suc k) [] o ok h = refl
cut (suc k) (r ∷ rs) o ok h =
    let e : ltb o r.length ≡ true = lt-ltb o r.length h in
    let p = piece r o h ok.1 in
    let i = cut k rs 0 ok.2 (inside_none rs ok.2) in
    rw (e, p, i) refl

past : (v : List ChunkRow) (c o : ℕ) → left_after (total (take c v) + o) v ≡ left_after o (drop c v)
unfolding total
past v zero o = let e : 0 + o ≡ o = omega arith in ap (λ n. left_after n v) e
past [] (suc c) o = refl
past (x ∷ xs) (suc c) o =
    let f : ltb (x.length + total (take c xs) + o) x.length ≡ false = le-ltb (x.length + total (take c xs) + o) x.length (omega arith) in
    let d : (x.length + total (take c xs) + o) - x.length ≡ total (take c xs) + o = omega arith in
    rw (f, d) (past xs c o)

carry : (table : List ChunkRow) (f n : ℕ) (c : Cursor) → Sound (range table f n) → Stands (range table f n) c →
    iovecs_of c.within (carried table f n c.row) ≡ take 1024 (left_after (before (range table f n) c) (range table f n))
unfolding carried_in
carry table f n c ok h =
    cut 1024 (drop c.row (range table f n)) c.within (sound_drop (range table f n) c.row ok) h
    ∙ sym (ap (take 1024) (past (range table f n) c.row c.within))

pub cursor_laws : CursorLaws
cursor_laws = record {
  moves = λ table first count c n ok h b.
      let s = total_split (range table first count) c.row in
      moved (range table first count) (drop c.row (range table first count)) c.row c.within n refl (sound_drop (range table first count) c.row ok) h (omega (arith, s, b));
  stands = λ table first count c n ok h.
      stays (range table first count) (drop c.row (range table first count)) c.row c.within n refl (sound_drop (range table first count) c.row ok) h;
  carries = λ table first count c ok h. carry table first count c ok h;
  within = λ table first count c ok h. fits_in table first count c h;
}
