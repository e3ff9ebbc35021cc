-- Lists in the first places of a slice, and the first place of an element.
use Rattle.std.proofs.Common.{◌≡◌, ◌≢◌, ℕ, zero, suc, ◌+◌, ◌≤◌, true, List, [], ◌∷◌, ◌++◌, length, drop, set, ltb, ◌<◌, Some, None, Option, refl, ap, ◌∙◌, arith}
use Rattle.std.proofs.Math.Seq.{take-append_seam, drop-append_seam}
use Rattle.std.proofs.lemmas.Bool.{le-leb, ltb-true}
use Rattle.std.proofs.lemmas.List.{take-append-drop, drop_more, take_more_set, drop-set-lt}
use Rattle.std.proofs.lemmas.Option.{cond_some}
use Rattle.std.specs.List.{AllWithin, HoldsAt}
use Rattle.std.specs.Option.{MatchOption}
use Rattle.tables.specs.Listed.{Listed, longer, laid, appends, appended, writes, written, First}

module _ {X : Type 0} where
  -- places whose first ones were written hold what was written, and behind it what they had
  pub written_all : (l : Listed X) (len : ℕ) (places after xs : List X) → laid len places ≡ l → after ≡ xs ++ drop (length xs) places →
      length xs ≤ length l.held + length l.rest → laid (length xs) after ≡ written l xs
  written_all l len places after xs v a h =
      let p = take-append-drop len places in
      let t : writes (laid len places) xs ≡ true = ap (λ k. writes k xs) v ∙ le-leb _ _ h in
      rw (← v, a, t, p, take-append_seam xs (drop (length xs) places), drop-append_seam xs (drop (length xs) places)) refl

  -- places that took one element more behind the first ones
  pub took : (l : Listed X) (len n : ℕ) (places : List X) (x : X) → laid len places ≡ l → longer len (length places) ≡ Some n →
      (appends l ≡ true) × (laid n (set places len x) ≡ appended l x)
  took l len n places x v e =
      let p = cond_some (ltb len (length places)) (len + 1) n e in
      let h = ltb-true len (length places) p.0 in
      let k : len < len + 1 = omega arith in
      rw (← v, ← p.1, drop_more places len x h, take_more_set places len x h, drop-set-lt (len + 1) places len x k) (refl, refl)

  nowhere_of : (x : X) (xs : List X) → AllWithin (λ y. y ≢ x) xs 0 (length xs) → First x xs None
  nowhere_of x [] a = tt
  nowhere_of x (y ∷ ys) a = (a 0 y (omega arith) (omega arith), nowhere_of x ys (λ k d l h. a (suc k) d (omega arith) (omega arith)))

  place_of : (x : X) (xs : List X) (i : ℕ) → i < length xs → HoldsAt (λ y. y ≡ x) xs i → AllWithin (λ y. y ≢ x) xs 0 i → First x xs (Some i)
  place_of x [] i h p a = absurd (omega arith)
  place_of x (y ∷ ys) zero h p a = p y
  place_of x (y ∷ ys) (suc i) h p a =
      (a 0 y (omega arith) (omega arith), place_of x ys i (omega arith) p (λ k d l m. a (suc k) d (omega arith) (omega arith)))

  -- a place before which the element lies nowhere is its first
  pub first_of : (x : X) (xs : List X) (r : Option ℕ) →
      MatchOption r (AllWithin (λ y. y ≢ x) xs 0 (length xs)) (λ i. (i < length xs) × HoldsAt (λ y. y ≡ x) xs i × AllWithin (λ y. y ≢ x) xs 0 i) → First x xs r
  first_of x xs None m = nowhere_of x xs m
  first_of x xs (Some i) m = place_of x xs i m.0 m.1 m.2
