-- What holds of every slab, over every sequence of its calls.
use Rattle.std.specs.Prelude.{◌≡◌, ℕ, ◌+◌, ◌<◌, ◌≤◌, min, true, false, ◌⊎◌, List, [], ◌∷◌, ◌++◌, length, take, is_some, Some, None, Option, ◌≢◌}
use Rattle.std.specs.List.{slice_get}
use Rattle.records.specs.declared.id.Id.{Id}
use Rattle.slots.specs.declared.slab.Slot.{Slot}
use Rattle.slots.specs.Slots.{Slots, found, next_id, id_at}
use Rattle.slots.specs.Events.{Event, Event.remove, Reached, standing, given, freed, touched, came, left, due}

abbrev pub Among : ℕ → List ℕ → Type 0
Among i [] = ⊥
Among i (j ∷ js) = (i ≡ j) ⊎ Among i js

abbrev pub Apart : List ℕ → Type 0
Apart [] = Unit {0}
Apart (i ∷ is) = (Among i is → ⊥) × Apart is

module _ {T : Type 0} where
  -- the links in the slots lead from a first one through exactly these, and then end
  pub data Links (slots : List (Slot T)) : Option ℕ → List ℕ → Type 0 where
    end : Links slots None []
    link : (i : ℕ) (is : List ℕ) (slot : Slot T) → slice_get slots i ≡ Some slot → Links slots slot.next is → Links slots (Some i) (i ∷ is)

  -- how many slots hold an entry
  abbrev pub one_if_some : Option T → ℕ
  one_if_some (Some x) = 1
  one_if_some None = 0

  abbrev pub entries : List (Slot T) → ℕ
  entries [] = 0
  entries (slot ∷ slots) = one_if_some slot.value + entries slots

pub record Lawful {T : Type 0} (slots : List (Slot T)) (s : Slots T) (h : List (Event T)) : Type 0 where
  -- an id finds what was last stored under it, from its insertion to its removal
  pub resolves : (id : Id) → found s id ≡ standing id h
  -- and never again
  pub gone : (id : Id) (x : T) (later earlier : List (Event T)) → h ≡ later ++ (remove id (Some x) ∷ earlier) → found s id ≡ None
  -- the id that comes next was never given before
  pub once : (id : Id) → next_id s ≡ Some id → given id h ≡ false
  -- no two live entries share an index
  pub apart : (a b : Id) → is_some (found s a) ≡ true → is_some (found s b) ≡ true → a.index ≡ b.index → a ≡ b
  -- freed slots come back in the reverse of the order in which they were freed, then slots come in rising order;
  -- a slot's generation counts its removals, from 0 at its first use
  pub order : next_id s ≡ due slots h
  -- an insertion is refused exactly when no slot is free and none is unused
  pub refused : next_id s ≡ None → (freed h ≡ []) × (min (length slots) 65536 ≤ touched h)
  pub exact : freed h ≡ [] → min (length slots) 65536 ≤ touched h → next_id s ≡ None
  -- a slot removed at its last generation is not given again
  pub retired : (id next : Id) (x : T) (later earlier : List (Event T)) → h ≡ later ++ (remove id (Some x) ∷ earlier) →
      id.generation ≡ 18446744073709551615 → next_id s ≡ Some next → next.index ≢ id.index
  -- the free list in the slots' links is the record's: it lies in the part of the table that was used,
  -- holds no slot twice and none with an entry
  pub links : Links s.slots s.free (freed h)
  pub inside : (i : ℕ) → Among i (freed h) → i < touched h
  pub distinct : Apart (freed h)
  pub vacant : (id : Id) → Among id.index (freed h) → found s id ≡ None
  -- slots ever used, which are the table's
  pub used : s.used ≡ touched h
  pub bounded : touched h ≤ min (length slots) 65536
  -- the count is the number of live entries: of slots that hold one, and of insertions less removals
  pub count : s.len ≡ entries (take s.used s.slots)
  pub balance : s.len + left h ≡ came h
  -- so no count comes to where it would stop: it is at most the slots used, and one is left to take from where an entry is
  pub few : s.len ≤ touched h
  pub some : (id : Id) → is_some (found s id) ≡ true → 1 ≤ s.len
  -- and no lookup of a slot that the slab knows misses it
  pub there : (i : ℕ) → i < s.used → is_some (slice_get s.slots i) ≡ true
  -- the id at an index is that of the live entry there
  pub named : (i : ℕ) (id : Id) → id_at s i ≡ Some id → (id.index ≡ i) × (is_some (found s id) ≡ true)
  pub naming : (id : Id) → is_some (found s id) ≡ true → id_at s id.index ≡ Some id

abbrev pub SlabLaws : Type 0 → Type 0
SlabLaws T = (slots : List (Slot T)) (s : Slots T) (h : List (Event T)) → Reached slots s h → Lawful slots s h

-- whatever record a slab had, it and these events make one of the slab afterwards, and that is lawful
abbrev pub Carries : {T : Type 0} → (before after : Slots T) → List (Event T) → Type 0
Carries {T} before after events = (slots : List (Slot T)) (h : List (Event T)) → Reached slots before h →
    Reached slots after (events ++ h) × Lawful slots after (events ++ h)
