-- What a lookup finds after each call of a slab.
use Rattle.std.proofs.Common.{◌≡◌, ℕ, ◌+◌, ◌<◌, cond, List, length, set, Some, None, Option, refl, arith}
use Rattle.std.specs.List.{slice_get}
use Rattle.std.proofs.lemmas.Bool.Decides.{nat_tests}
use Rattle.records.specs.declared.id.Id.{Id}
use Rattle.slots.specs.declared.slab.Slot.{Slot}
use Rattle.slots.specs.Slots.{Slots, id_of, found, full, empty}
use Rattle.slots.specs.Events.{same_id}
use Rattle.slots.proofs.Setting.{nth_set_same, nth_set_other}

module _ {T : Type 0} where
  abbrev pub made : List (Slot T) → ℕ → Option ℕ → ℕ → Slots T
  made slots used free len = record { slots = slots; used = used; free = free; len = len }

  -- a live entry and its slot
  pub record Held (slots : List (Slot T)) (used : ℕ) (id : Id) (x : T) : Type 0 where
    pub slot : Slot T
    pub here : slice_get slots id.index ≡ Some slot
    pub below : id.index < used
    pub whole : slot.generation ≡ id.generation
    pub value : slot.value ≡ Some x

  held_in : (s : Slots T) (id : Id) (x : T) → found s id ≡ Some x → (o : Option (Slot T)) → slice_get s.slots id.index ≡ o → Held s.slots s.used id x
  held_in s id x e (Some slot) h =
      record { slot = slot; here = h; below = grind (arith, nat_tests); whole = grind (arith, nat_tests); value = grind (arith, nat_tests) }
  held_in s id x e None h = absurd (let z : ◌≡◌ {A = ℕ} 0 1 = grind (arith, nat_tests) in omega arith)

  pub held : (s : Slots T) (id : Id) (x : T) → found s id ≡ Some x → Held s.slots s.used id x
  held s id x e = held_in s id x e (slice_get s.slots id.index) refl

  pub finds : (slots : List (Slot T)) (used : ℕ) (f : Option ℕ) (n : ℕ) (id : Id) (x : T) → Held slots used id x → found (made slots used f n) id ≡ Some x
  finds slots used f n id x h =
      let a = h.here in let b = h.below in let c = h.whole in let d = h.value in grind (arith, nat_tests)

  -- a slot never used takes an entry at generation 0
  pub found_new : (slots : List (Slot T)) (used : ℕ) (f g : Option ℕ) (m n : ℕ) (x : T) (id : Id) → used < length slots →
      found (made (set slots used (full 0 x)) (used + 1) f m) id ≡ cond (same_id id (id_of used 0)) (Some x) (found (made slots used g n) id)
  found_new slots used f g m n x id h = grind (arith, nat_tests, nth_set_same, nth_set_other)

  -- a slot without an entry takes one at its generation
  pub found_again : (slots : List (Slot T)) (used i : ℕ) (slot : Slot T) (f g : Option ℕ) (m n : ℕ) (x : T) (id : Id) →
      slice_get slots i ≡ Some slot → i < used → i < length slots → slot.value ≡ None →
      found (made (set slots i (full slot.generation x)) used f m) id ≡ cond (same_id id (id_of i slot.generation)) (Some x) (found (made slots used g n) id)
  found_again slots used i slot f g m n x id e b l v = grind (arith, nat_tests, nth_set_same, nth_set_other)

  -- another value under a live id
  pub found_set : (slots : List (Slot T)) (used : ℕ) (j : Id) (slot : Slot T) (f g : Option ℕ) (m n : ℕ) (x : T) (id : Id) →
      slice_get slots j.index ≡ Some slot → j.index < used → j.index < length slots → slot.generation ≡ j.generation →
      found (made (set slots j.index (full j.generation x)) used f m) id ≡ cond (same_id id j) (Some x) (found (made slots used g n) id)
  found_set slots used j slot f g m n x id e b l w = grind (arith, nat_tests, nth_set_same, nth_set_other)

  -- an entry taken out, whatever its slot's generation is then
  pub found_out : (slots : List (Slot T)) (used : ℕ) (j : Id) (slot : Slot T) (f g next : Option ℕ) (m n k : ℕ) (id : Id) →
      slice_get slots j.index ≡ Some slot → j.index < used → j.index < length slots → slot.generation ≡ j.generation →
      found (made (set slots j.index (empty k next)) used f m) id ≡ cond (same_id id j) None (found (made slots used g n) id)
  found_out slots used j slot f g next m n k id e b l w = grind (arith, nat_tests, nth_set_same, nth_set_other)
