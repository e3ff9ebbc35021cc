-- Every list over lent places is lawful.
use Rattle.std.proofs.Common.{◌≡◌, ℕ, zero, suc, ◌<◌, ◌≤◌, true, false, List, [], ◌∷◌, ◌++◌, length, drop, Some, None, Option, sym, refl, ap, ◌∙◌, arith, length-append, length-drop}
use Rattle.std.proofs.lemmas.Bool.{leb-true, cond_both}
use Rattle.std.proofs.lemmas.List.{append_assoc, append-nil, take-append-drop}
use Rattle.std.specs.List.{slice_get}
use Rattle.tables.specs.Listed.{Listed, emptied, appended, appended_to, some_free, writes, written, First}
use Rattle.tables.specs.ListLaws.{memory, appended_each, ListLaws}

module _ {X : Type 0} where
  no_place : (l : Listed X) (x : X) (rest : List X) → rest ≡ [] → (some_free rest ≡ false) × (appended_to l x rest ≡ l)
  no_place l x [] e = (refl, refl)
  no_place l x (p ∷ ps) e = let z : ◌≡◌ {A = ℕ} 0 1 = cc in absurd (omega arith)

  a_place : (l : Listed X) (x : X) (rest : List X) → 0 < length rest → (some_free rest ≡ true) × ((appended_to l x rest).held ≡ l.held ++ (x ∷ []))
  a_place l x [] h = absurd (omega arith)
  a_place l x (p ∷ ps) h = (refl, refl)

  same_places : (held rest : List X) (x : X) → length (memory (appended (record { held = held; rest = rest }) x)) ≡ length (held ++ rest)
  same_places held [] x = refl
  same_places held (p ∷ ps) x =
      let a = length-append (held ++ (x ∷ [])) ps in
      let b = length-append held (x ∷ []) in
      let c = length-append held (p ∷ ps) in
      omega (arith, a, b, c)

  written_same : (l : Listed X) (xs : List X) → length (memory (written l xs)) ≡ length (memory l)
  written_same l xs =
      cond_both (writes l xs) (record { held = xs; rest = drop (length xs) (l.held ++ l.rest) }) l (λ (k : Listed X). length (memory k) ≡ length (memory l))
      (λ t.
      let b = leb-true _ _ t in
      let a = length-append xs (drop (length xs) (l.held ++ l.rest)) in
      let d = length-drop (length xs) (l.held ++ l.rest) in
      let c = length-append l.held l.rest in
      omega (arith, a, b, c, d))
      (λ t. refl)

  appending : (held rest xs : List X) → length xs ≤ length rest →
      appended_each (record { held = held; rest = rest }) xs ≡ record { held = held ++ xs; rest = drop (length xs) rest }
  appending held rest [] h = ap (λ ys. record { held = ys; rest = rest }) (sym (append-nil held))
  appending held [] (x ∷ xs) h = absurd (omega arith)
  appending held (p ∷ ps) (x ∷ xs) h =
      appending (held ++ (x ∷ [])) ps xs (omega arith) ∙ ap (λ ys. record { held = ys; rest = drop (length xs) ps }) (append_assoc held (x ∷ []) xs)

  by_each : (l : Listed X) (xs : List X) → writes l xs ≡ true → written l xs ≡ appended_each (emptied l) xs
  by_each l xs t =
      let a : length xs ≤ length (l.held ++ l.rest) = simp length-append (leb-true _ _ t) in
      rw t (sym (appending [] (l.held ++ l.rest) xs a))

  once : (x : X) (xs : List X) (a b : Option ℕ) → First x xs a → First x xs b → a ≡ b
  once x [] None None f g = refl
  once x [] None (Some j) f g = absurd g
  once x [] (Some i) None f g = absurd f
  once x [] (Some i) (Some j) f g = absurd f
  once x (y ∷ ys) None None f g = refl
  once x (y ∷ ys) None (Some zero) f g = absurd (f.0 g)
  once x (y ∷ ys) None (Some (suc j)) f g = let e = once x ys None (Some j) f.1 g.1 in cc
  once x (y ∷ ys) (Some zero) None f g = absurd (g.0 f)
  once x (y ∷ ys) (Some zero) (Some zero) f g = refl
  once x (y ∷ ys) (Some zero) (Some (suc j)) f g = absurd (g.0 f)
  once x (y ∷ ys) (Some (suc i)) None f g = let e = once x ys (Some i) None f.1 g.1 in cc
  once x (y ∷ ys) (Some (suc i)) (Some zero) f g = absurd (f.0 g)
  once x (y ∷ ys) (Some (suc i)) (Some (suc j)) f g =
      let e = once x ys (Some i) (Some j) f.1 g.1 in let n : i ≡ j = cc in ap (λ k. Some (suc k)) n

  holds : (x : X) (xs : List X) (i : ℕ) → First x xs (Some i) → slice_get xs i ≡ Some x
  holds x [] i f = absurd f
  holds x (y ∷ ys) zero f = ap Some f
  holds x (y ∷ ys) (suc i) f = holds x ys i f.1

  before : (x : X) (xs : List X) (i j : ℕ) → First x xs (Some i) → slice_get xs j ≡ Some x → i ≤ j
  before x [] i j f e = absurd f
  before x (y ∷ ys) zero j f e = omega arith
  before x (y ∷ ys) (suc i) zero f e = let q : y ≡ x = cc in absurd (f.0 q)
  before x (y ∷ ys) (suc i) (suc j) f e = let l = before x ys i j f.1 e in omega (arith, l)

  nowhere : (x : X) (xs : List X) (j : ℕ) → First x xs None → slice_get xs j ≡ Some x → ⊥
  nowhere x [] j f e = let z : ◌≡◌ {A = ℕ} 0 1 = cc in omega arith
  nowhere x (y ∷ ys) zero f e = let q : y ≡ x = cc in f.0 q
  nowhere x (y ∷ ys) (suc j) f e = nowhere x ys j f.1 e

pub list_laws : (X : Type 0) → ListLaws X
list_laws X = record {
  all_there = λ n places. take-append-drop n places;
  unfilled_is = λ places. refl;
  refused = λ l x e. no_place l x l.rest e;
  granted = λ l x h. a_place l x l.rest h;
  appended_places = λ l x. same_places l.held l.rest x;
  written_places = written_same;
  written_each = by_each;
  first_once = once;
  first_holds = holds;
  first_before = before;
  first_nowhere = nowhere;
}
