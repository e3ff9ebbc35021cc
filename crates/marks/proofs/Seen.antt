-- What a row of marks says once marks are opened or covered.
use Rattle.std.proofs.Common.{◌≡◌, ℕ, zero, suc, ◌+◌, ◌-◌, ◌<◌, ◌≤◌, true, false, ltb, List, [], ◌∷◌, length, get_or, set, Some, None, refl, ap, ◌∙◌, arith}
use Rattle.std.proofs.lemmas.Bool.{lt-ltb, le-ltb}
use Rattle.std.proofs.lemmas.Bool.Decides.{nat_tests}
use Rattle.std.proofs.lemmas.List.Quantifiers.{position-Some}
use Rattle.std.proofs.lemmas.Option.{slice_get-get_or}
use Rattle.std.specs.List.{slice_get, position, position_or_len}
use Rattle.records.specs.declared.outcome.Outcome.TheVariants.{LedgerSpent}
use Rattle.marks.specs.declared.mark.Mark.{Mark}
use Rattle.marks.specs.declared.mark.Mark.TheVariants.{Unused, Open, Covered}
use Rattle.marks.specs.declared.mark.MarkRow.{MarkRow}
use Rattle.ledger.specs.Meaning.{tainted_row, counted, covers_now, ended_by}
use Rattle.marks.specs.Marking.{completed_marks, covered_marks, is_unused, opened_at, cover_first, covered_row, seen_row}

pub covered_le_completed : (ms : List Mark) → covered_marks ms ≤ completed_marks ms
unfolding completed_marks covered_marks
covered_le_completed [] = omega arith
covered_le_completed (Unused ∷ ms) = let h = covered_le_completed ms in omega arith
covered_le_completed (Open ∷ ms) = let h = covered_le_completed ms in omega arith
covered_le_completed (Covered ∷ ms) = let h = covered_le_completed ms in omega arith

completed_le_length : (ms : List Mark) → completed_marks ms ≤ length ms
unfolding completed_marks
completed_le_length [] = omega arith
completed_le_length (Unused ∷ ms) = let h = completed_le_length ms in omega arith
completed_le_length (Open ∷ ms) = let h = completed_le_length ms in omega arith
completed_le_length (Covered ∷ ms) = let h = completed_le_length ms in omega arith

-- an unused mark is opened

completed_opened : (ms : List Mark) (i : ℕ) → slice_get ms i ≡ Some Unused → completed_marks (set ms i Open) ≡ completed_marks ms + 1
unfolding completed_marks
completed_opened [] i e = absurd (cc)
completed_opened (Unused ∷ ms) zero e = omega arith
completed_opened (Open ∷ ms) zero e = absurd (cc)
completed_opened (Covered ∷ ms) zero e = absurd (cc)
completed_opened (m ∷ ms) (suc i) e = let h = completed_opened ms i e in omega arith

covered_opened : (ms : List Mark) (i : ℕ) → slice_get ms i ≡ Some Unused → covered_marks (set ms i Open) ≡ covered_marks ms
unfolding covered_marks
covered_opened [] i e = absurd (cc)
covered_opened (Unused ∷ ms) zero e = refl
covered_opened (Open ∷ ms) zero e = absurd (cc)
covered_opened (Covered ∷ ms) zero e = absurd (cc)
covered_opened (m ∷ ms) (suc i) e = let h = covered_opened ms i e in omega arith

unused_left : (ms : List Mark) (i : ℕ) → slice_get ms i ≡ Some Unused → completed_marks ms < length ms
unfolding completed_marks
unused_left [] i e = absurd (cc)
unused_left (Unused ∷ ms) i e = let k = completed_le_length ms in omega arith
unused_left (Open ∷ ms) zero e = absurd (cc)
unused_left (Covered ∷ ms) zero e = absurd (cc)
unused_left (Open ∷ ms) (suc i) e = let k = unused_left ms i e in omega arith
unused_left (Covered ∷ ms) (suc i) e = let k = unused_left ms i e in omega arith

none_left : (ms : List Mark) → length ms ≤ position_or_len is_unused ms → length ms ≤ completed_marks ms
unfolding completed_marks
none_left [] h = omega arith
none_left (Unused ∷ ms) h = absurd (omega arith)
none_left (Open ∷ ms) h = let k = none_left ms (omega arith) in omega arith
none_left (Covered ∷ ms) h = let k = none_left ms (omega arith) in omega arith

is_unused_only : (m : Mark) → is_unused m ≡ true → m ≡ Unused
is_unused_only m e = grind arith

-- a mark is opened where one is unused, and else the row is spent

pub seen_opened : (row : MarkRow) (i : ℕ) → length row.marks ≡ 256 → position is_unused row.marks ≡ Some i →
    seen_row (opened_at row (Some i)) ≡ counted 256 (seen_row row)
seen_opened row i n p =
    let at = position-Some is_unused row.marks i Unused p in
    let e : slice_get row.marks i ≡ Some Unused = slice_get-get_or row.marks i Unused at.0 ∙ ap Some (is_unused_only (get_or row.marks i Unused) at.1) in
    let c = completed_opened row.marks i e in
    let s = covered_opened row.marks i e in
    let t : ltb (completed_marks row.marks) 256 ≡ true = lt-ltb _ _ (let l = unused_left row.marks i e in omega (arith, l, n)) in
    rw (c, s, t) refl

pub seen_spent : (row : MarkRow) → length row.marks ≡ 256 → position is_unused row.marks ≡ None →
    tainted_row LedgerSpent (seen_row row) ≡ counted 256 (seen_row row)
seen_spent row n p =
    let h : length row.marks ≤ position_or_len is_unused row.marks = grind (arith, nat_tests) in
    let t : ltb (completed_marks row.marks) 256 ≡ false = le-ltb _ _ (let l = none_left row.marks h in omega (arith, l, n)) in
    rw t refl

-- open marks are covered

completed_covered : (n : ℕ) (ms : List Mark) → completed_marks (cover_first n ms) ≡ completed_marks ms
unfolding completed_marks cover_first
completed_covered n [] = refl
completed_covered n (Unused ∷ ms) = ap (λ k. 0 + k) (completed_covered n ms)
completed_covered n (Open ∷ ms) = let e = completed_covered (n - 1) ms in grind (arith, nat_tests)
completed_covered n (Covered ∷ ms) = ap (λ k. 1 + k) (completed_covered n ms)

covered_covered : (n : ℕ) (ms : List Mark) → covered_marks ms + n ≤ completed_marks ms → covered_marks (cover_first n ms) ≡ covered_marks ms + n
unfolding completed_marks covered_marks cover_first
covered_covered n [] h = omega arith
covered_covered n (Unused ∷ ms) h = let e = covered_covered n ms (omega arith) in omega arith
covered_covered n (Open ∷ ms) h =
    let e = covered_covered (n - 1) ms (omega (arith, covered_le_completed ms)) in
    grind (arith, nat_tests)
covered_covered n (Covered ∷ ms) h = let e = covered_covered n ms (omega arith) in omega arith

pub seen_covered : (row : MarkRow) (seen : ℕ) →
    seen_row (covered_row row (covers_now (completed_marks row.marks) (covered_marks row.marks) seen - covered_marks row.marks))
    ≡ ended_by None seen (seen_row row)
seen_covered row seen =
    let c = completed_marks row.marks in
    let s = covered_marks row.marks in
    let k : s ≤ c = covered_le_completed row.marks in
    let h : s + (covers_now c s seen - s) ≤ c = omega arith in
    let e : covered_marks (cover_first (covers_now c s seen - s) row.marks) ≡ covers_now c s seen = covered_covered (covers_now c s seen - s) row.marks h ∙ omega arith in
    cc (completed_covered (covers_now c s seen - s) row.marks, e)
