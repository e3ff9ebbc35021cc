-- A step and the end of each walk over marks.
use Rattle.std.proofs.Common.{◌≡◌, ℕ, ◌+◌, ◌<◌, ◌≤◌, List, ◌∷◌, ◌++◌, length, get_or, take, drop, set, refl, ap, ◌∙◌, sym, subst, arith}
use Rattle.std.proofs.lemmas.List.{append_assoc, append-nil, at_drop_more, at_drop_all, take_more_set, take_all, drop-set-lt, drop_all}
use Rattle.marks.specs.declared.mark.Mark.{Mark}
use Rattle.marks.specs.Marking.{completed_by, covered_by, completed_marks, covered_marks, covered_mark, left_after, cover_first}

pub completed_more : (ms : List Mark) (i : ℕ) (m : Mark) → i < length ms → m ≡ get_or ms i m → completed_marks (drop i ms) ≡ completed_by m + completed_marks (drop (i + 1) ms)
unfolding completed_marks
completed_more ms i m h e = at_drop_more completed_marks ms i m h ∙ ap (λ (x : Mark). completed_by x + completed_marks (drop (i + 1) ms)) (sym e)

pub completed_all : (ms : List Mark) (i : ℕ) → length ms ≤ i → completed_marks (drop i ms) ≡ 0
unfolding completed_marks
completed_all ms i h = at_drop_all completed_marks ms i h

pub covered_more : (ms : List Mark) (i : ℕ) (m : Mark) → i < length ms → m ≡ get_or ms i m → covered_marks (drop i ms) ≡ covered_by m + covered_marks (drop (i + 1) ms)
unfolding covered_marks
covered_more ms i m h e = at_drop_more covered_marks ms i m h ∙ ap (λ (x : Mark). covered_by x + covered_marks (drop (i + 1) ms)) (sym e)

pub covered_all : (ms : List Mark) (i : ℕ) → length ms ≤ i → covered_marks (drop i ms) ≡ 0
unfolding covered_marks
covered_all ms i h = at_drop_all covered_marks ms i h

pub cover_more : (ms : List Mark) (i n : ℕ) (m : Mark) → i < length ms → m ≡ get_or ms i m →
    take (i + 1) (set ms i (covered_mark n m)) ++ cover_first (left_after n m) (drop (i + 1) (set ms i (covered_mark n m)))
    ≡ take i ms ++ cover_first n (drop i ms)
unfolding cover_first
cover_more ms i n m h e =
    let k : i < i + 1 = omega arith in
    let f : cover_first n (drop i ms) ≡ covered_mark n m ∷ cover_first (left_after n m) (drop (i + 1) ms) =
    subst (λ (x : Mark). cover_first n (drop i ms) ≡ covered_mark n x ∷ cover_first (left_after n x) (drop (i + 1) ms)) (sym e) (at_drop_more (cover_first n) ms i m h) in
    rw (take_more_set ms i (covered_mark n m) h, drop-set-lt (i + 1) ms i (covered_mark n m) k, append_assoc, f) refl

pub cover_all : (ms : List Mark) (i n : ℕ) → length ms ≤ i → take i ms ++ cover_first n (drop i ms) ≡ ms
unfolding cover_first
cover_all ms i n h = rw (drop_all i ms h, append-nil, take_all i ms h) refl
