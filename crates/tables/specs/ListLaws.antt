-- What holds of every list over lent places.
use Rattle.std.specs.Prelude.{◌≡◌, ℕ, ◌<◌, ◌≤◌, true, false, List, [], ◌∷◌, ◌++◌, length, Some, None, Option, ◌≢◌}
use Rattle.std.specs.List.{slice_get}
use Rattle.tables.specs.Listed.{Listed, laid, unfilled, emptied, appended, appends, writes, written, First}

module _ {X : Type 0} where
  -- the places of a list, taken and free, in order: all that lies in the caller's memory
  abbrev pub memory : Listed X → List X
  memory l = l.held ++ l.rest

  abbrev pub appended_each : Listed X → List X → Listed X
  appended_each l [] = l
  appended_each l (x ∷ xs) = appended_each (appended l x) xs

pub record ListLaws (X : Type 0) : Type 0 where
  -- a list's places are the caller's, whatever number of them is taken
  pub all_there : (n : ℕ) (places : List X) → memory (laid n places) ≡ places
  pub unfilled_is : (places : List X) → unfilled places ≡ record { held = []; rest = places }
  -- an element is refused exactly when no place is free, and then nothing changes
  pub refused : (l : Listed X) (x : X) → l.rest ≡ [] → (appends l ≡ false) × (appended l x ≡ l)
  pub granted : (l : Listed X) (x : X) → 0 < length l.rest → (appends l ≡ true) × ((appended l x).held ≡ l.held ++ (x ∷ []))
  -- the number of places never changes
  pub appended_places : (l : Listed X) (x : X) → length (memory (appended l x)) ≡ length (memory l)
  pub written_places : (l : Listed X) (xs : List X) → length (memory (written l xs)) ≡ length (memory l)
  -- writing from the start is emptying and then appending each
  pub written_each : (l : Listed X) (xs : List X) → writes l xs ≡ true → written l xs ≡ appended_each (emptied l) xs
  -- the first place of an element is one place, it holds the element, and none before it does
  pub first_once : (x : X) (xs : List X) (a b : Option ℕ) → First x xs a → First x xs b → a ≡ b
  pub first_holds : (x : X) (xs : List X) (i : ℕ) → First x xs (Some i) → slice_get xs i ≡ Some x
  pub first_before : (x : X) (xs : List X) (i j : ℕ) → First x xs (Some i) → slice_get xs j ≡ Some x → i ≤ j
  pub first_nowhere : (x : X) (xs : List X) (j : ℕ) → First x xs None → slice_get xs j ≢ Some x
