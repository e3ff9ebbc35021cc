-- A list over lent places: what it holds, and what lies in its free places.
use Rattle.std.specs.Prelude.{◌≡◌, ℕ, zero, suc, ◌+◌, Bool, true, false, cond, List, [], ◌∷◌, ◌++◌, length, take, drop, Some, None, Option, ◌≢◌, nat_le, nat_lt}

pub record Listed (X : Type 0) : Type 0 where
  pub held : List X
  pub rest : List X

-- one more, where a place is left for it
abbrev pub longer : (len places : ℕ) → Option ℕ
longer len places = cond (nat_lt len places) (Some (len + 1)) None

module _ {X : Type 0} where
  -- the first places hold the list, in order
  abbrev pub laid : ℕ → List X → Listed X
  laid n places = record { held = take n places; rest = drop n places }

  -- no place is taken
  abbrev pub unfilled : List X → Listed X
  unfilled places = laid 0 places

  -- nothing is held, and the places keep what they have
  abbrev pub emptied : Listed X → Listed X
  emptied l = unfilled (l.held ++ l.rest)

  -- one element more takes the first free place; where there is none, nothing changes
  abbrev pub appended_to : Listed X → X → List X → Listed X
  appended_to l x [] = l
  appended_to l x (p ∷ ps) = record { held = l.held ++ (x ∷ []); rest = ps }

  abbrev pub appended : Listed X → X → Listed X
  appended l x = appended_to l x l.rest

  abbrev pub some_free : List X → Bool
  some_free [] = false
  some_free (p ∷ ps) = true

  abbrev pub appends : Listed X → Bool
  appends l = some_free l.rest

  -- elements written from the start take the place of what was held; more than there are places change nothing
  abbrev pub writes : Listed X → List X → Bool
  writes l xs = nat_le (length xs) (length l.held + length l.rest)

  abbrev pub written : Listed X → List X → Listed X
  written l xs = cond (writes l xs) (record { held = xs; rest = drop (length xs) (l.held ++ l.rest) }) l

  -- the first place of an element: it lies there and at no place before; none where it lies nowhere
  abbrev pub First : X → List X → Option ℕ → Type 0
  First x [] None = Unit {0}
  First x [] (Some i) = ⊥
  First x (y ∷ ys) None = (y ≢ x) × First x ys None
  First x (y ∷ ys) (Some zero) = y ≡ x
  First x (y ∷ ys) (Some (suc i)) = (y ≢ x) × First x ys (Some i)
