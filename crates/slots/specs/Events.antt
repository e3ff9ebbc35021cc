-- What was asked of a slab since it began, and what that alone tells.
use Rattle.std.specs.Prelude.{◌≡◌, ℕ, ◌+◌, min, Bool, true, false, cond, ◌&&◌, List, [], ◌∷◌, length, is_some, Some, None, Option, ◌==◌, nat_lt}
use Rattle.records.specs.declared.id.Id.{Id}
use Rattle.slots.specs.declared.slab.Slot.{Slot}
use Rattle.slots.specs.Slots.{Slots, fresh, found, next_id, inserted, replaced, removed}

-- a call that may change the slab, with its answer
pub data Event (T : Type 0) : Type 0 where
  insert : T → Option Id → Event T
  set : Id → T → Bool → Event T
  remove : Id → Option T → Event T

-- a slab and its record, the newest event first: new over any slots, then each call as its contract says
pub data Reached {T : Type 0} (slots : List (Slot T)) : Slots T → List (Event T) → Type 0 where
  begins : (s : Slots T) → s ≡ fresh slots → Reached slots s []
  inserts : (s after : Slots T) (h : List (Event T)) (x : T) (a : Option Id) → Reached slots s h →
      a ≡ next_id s → after ≡ inserted s x → Reached slots after (insert x a ∷ h)
  sets : (s after : Slots T) (h : List (Event T)) (id : Id) (x : T) (a : Bool) → Reached slots s h →
      a ≡ is_some (found s id) → after ≡ replaced s id x → Reached slots after (set id x a ∷ h)
  removes : (s after : Slots T) (h : List (Event T)) (id : Id) (a : Option T) → Reached slots s h →
      a ≡ found s id → after ≡ removed s id → Reached slots after (remove id a ∷ h)

abbrev pub same_id : Id → Id → Bool
same_id a b = a.index == b.index && a.generation == b.generation

abbrev pub rest : List ℕ → List ℕ
rest [] = []
rest (i ∷ is) = is

abbrev pub one_if_none : List ℕ → ℕ
one_if_none [] = 1
one_if_none (i ∷ is) = 0

module _ {T : Type 0} where
  -- what an id stands for: what was last stored under it, from its insertion to its removal
  abbrev pub standing : Id → List (Event T) → Option T
  standing id [] = None
  standing id (insert x (Some j) ∷ h) = cond (same_id id j) (Some x) (standing id h)
  standing id (insert x None ∷ h) = standing id h
  standing id (set j x true ∷ h) = cond (same_id id j) (Some x) (standing id h)
  standing id (set j x false ∷ h) = standing id h
  standing id (remove j (Some x) ∷ h) = cond (same_id id j) None (standing id h)
  standing id (remove j None ∷ h) = standing id h

  -- whether an insertion gave this id
  abbrev pub given : Id → List (Event T) → Bool
  given id [] = false
  given id (insert x (Some j) ∷ h) = cond (same_id id j) true (given id h)
  given id (insert x None ∷ h) = given id h
  given id (set j x a ∷ h) = given id h
  given id (remove j a ∷ h) = given id h

  -- how often an entry was taken out of the slot at an index
  abbrev pub removals : ℕ → List (Event T) → ℕ
  removals i [] = 0
  removals i (insert x a ∷ h) = removals i h
  removals i (set j x a ∷ h) = removals i h
  removals i (remove j (Some x) ∷ h) = cond (i == j.index) (removals i h + 1) (removals i h)
  removals i (remove j None ∷ h) = removals i h

  -- the free slots, the one freed last in front, where the next insertion takes it;
  -- a slot whose generation was the last of 64 bits is not among them again
  abbrev pub freed : List (Event T) → List ℕ
  freed [] = []
  freed (insert x (Some j) ∷ h) = rest (freed h)
  freed (insert x None ∷ h) = freed h
  freed (set j x a ∷ h) = freed h
  freed (remove j (Some x) ∷ h) = cond (j.generation == 18446744073709551615) (freed h) (j.index ∷ freed h)
  freed (remove j None ∷ h) = freed h

  -- the slots ever used: an insertion uses a new one where none is free
  abbrev pub touched : List (Event T) → ℕ
  touched [] = 0
  touched (insert x (Some j) ∷ h) = touched h + one_if_none (freed h)
  touched (insert x None ∷ h) = touched h
  touched (set j x a ∷ h) = touched h
  touched (remove j a ∷ h) = touched h

  -- insertions that were not refused, and removals of a live entry
  abbrev pub came : List (Event T) → ℕ
  came [] = 0
  came (insert x (Some j) ∷ h) = came h + 1
  came (insert x None ∷ h) = came h
  came (set j x a ∷ h) = came h
  came (remove j a ∷ h) = came h

  abbrev pub left : List (Event T) → ℕ
  left [] = 0
  left (insert x a ∷ h) = left h
  left (set j x a ∷ h) = left h
  left (remove j (Some x) ∷ h) = left h + 1
  left (remove j None ∷ h) = left h

  -- the id that comes next, by the record: the slot freed last, at the generation that counts its removals,
  -- else the next of the table's first 65,536 slots that was never used, at generation 0, else none
  abbrev pub due_from : List ℕ → ℕ → List (Event T) → Option Id
  due_from (i ∷ is) room h = Some (record { index = i; generation = removals i h })
  due_from [] room h = cond (nat_lt (touched h) room) (Some (record { index = touched h; generation = 0 })) None

  abbrev pub due : List (Slot T) → List (Event T) → Option Id
  due slots h = due_from (freed h) (min (length slots) 65536) h
