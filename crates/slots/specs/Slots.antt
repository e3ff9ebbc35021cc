-- A slab over the caller's slots, and what each call answers and leaves.
use Rattle.std.specs.Prelude.{ℕ, ◌+◌, ◌-◌, min, cond, List, length, Some, None, Option, ◌==◌, nat_lt, slice_set}
use Rattle.std.specs.List.{slice_get}
use Rattle.records.specs.declared.id.Id.{Id}
use Rattle.slots.specs.declared.slab.Slot.{Slot}

-- the slots from `used` on were never used; `free` is the slot freed last, whose `next` was freed before it, and so on
pub record Slots (T : Type 0) : Type 0 where
  pub slots : List (Slot T)
  pub used : ℕ
  pub free : Option ℕ
  pub len : ℕ

-- a generation has 64 bits; after the last one there is none
abbrev pub next_generation : ℕ → Option ℕ
next_generation g = cond (g == 18446744073709551615) None (Some (g + 1))

-- counts stop at 2^64 - 1; no slab that began empty comes there
abbrev pub one_more : ℕ → ℕ
one_more n = min (n + 1) 18446744073709551615

abbrev pub id_of : (index generation : ℕ) → Id
id_of i g = record { index = i; generation = g }

module _ {T : Type 0} where
  abbrev pub unused_slot : Slot T
  unused_slot = record { generation = 0; value = None; next = None }

  -- nothing is looked at in the caller's slots
  abbrev pub fresh : List (Slot T) → Slots T
  fresh slots = record { slots = slots; used = 0; free = None; len = 0 }

  -- the slots that a slab has of its caller's
  abbrev pub capacity : Slots T → ℕ
  capacity s = min (length s.slots) 65536

  -- an entry is found only by its whole generation
  abbrev pub resolves : Slot T → ℕ → Option T
  resolves slot g = cond (slot.generation == g) slot.value None

  abbrev pub resolves_in : Option (Slot T) → ℕ → Option T
  resolves_in (Some slot) g = resolves slot g
  resolves_in None g = None

  abbrev pub found : Slots T → Id → Option T
  found s id = cond (nat_lt id.index s.used) (resolves_in (slice_get s.slots id.index) id.generation) None

  abbrev pub id_of_value : ℕ → ℕ → Option T → Option Id
  id_of_value i g (Some x) = Some (id_of i g)
  id_of_value i g None = None

  abbrev pub id_in : ℕ → Option (Slot T) → Option Id
  id_in i (Some slot) = id_of_value i slot.generation slot.value
  id_in i None = None

  abbrev pub id_at : Slots T → ℕ → Option Id
  id_at s i = cond (nat_lt i s.used) (id_in i (slice_get s.slots i)) None

  -- the slot freed last in its generation, else the next one never used at generation 0, else none
  abbrev pub id_again : ℕ → Option (Slot T) → Option Id
  id_again i (Some slot) = Some (id_of i slot.generation)
  id_again i None = None

  abbrev pub next_id_from : Slots T → Option ℕ → Option Id
  next_id_from s (Some i) = id_again i (slice_get s.slots i)
  next_id_from s None = cond (nat_lt s.used (capacity s)) (Some (id_of s.used 0)) None

  abbrev pub next_id : Slots T → Option Id
  next_id s = next_id_from s s.free

  abbrev pub with_free : Slots T → Option ℕ → Slots T
  with_free s f = record { slots = s.slots; used = s.used; free = f; len = s.len }

  -- the free list loses its first slot, or one slot more is in use
  abbrev pub free_behind : Slots T → Option (Slot T) → Slots T
  free_behind s (Some slot) = with_free s slot.next
  free_behind s None = s

  abbrev pub advanced_from : Slots T → Option ℕ → Slots T
  advanced_from s (Some i) = free_behind s (slice_get s.slots i)
  advanced_from s None = record { slots = s.slots; used = one_more s.used; free = None; len = s.len }

  abbrev pub advanced : Slots T → Slots T
  advanced s = advanced_from s s.free

  abbrev pub full : ℕ → T → Slot T
  full g x = record { generation = g; value = Some x; next = None }

  abbrev pub empty : ℕ → Option ℕ → Slot T
  empty g next = record { generation = g; value = None; next = next }

  -- the same slab with another slot at an index
  abbrev pub with_slot : Slots T → ℕ → Slot T → Slots T
  with_slot s i slot = record { slots = slice_set s.slots i slot; used = s.used; free = s.free; len = s.len }

  abbrev pub with_len : Slots T → ℕ → Slots T
  with_len s n = record { slots = s.slots; used = s.used; free = s.free; len = n }

  -- the entry goes into the slot of the id that comes next; where there is none, nothing changes
  abbrev pub inserted_as : Slots T → T → Option Id → Slots T
  inserted_as s x (Some id) = with_len (with_slot (advanced s) id.index (full id.generation x)) (one_more s.len)
  inserted_as s x None = s

  abbrev pub inserted : Slots T → T → Slots T
  inserted s x = inserted_as s x (next_id s)

  -- of a live entry the slot takes the new value
  abbrev pub replaced_if : Option T → Slots T → Id → T → Slots T
  replaced_if (Some old) s id x = with_slot s id.index (full id.generation x)
  replaced_if None s id x = s

  abbrev pub replaced : Slots T → Id → T → Slots T
  replaced s id x = replaced_if (found s id) s id x

  -- a slot that has a generation left is the one freed last; one that has none is never free again
  abbrev pub vacated_to : Slots T → Id → Option ℕ → Slots T
  vacated_to s id (Some g) = with_free (with_slot s id.index (empty g s.free)) (Some id.index)
  vacated_to s id None = with_slot s id.index (empty id.generation None)

  abbrev pub vacated : Slots T → Id → Slots T
  vacated s id = vacated_to s id (next_generation id.generation)

  abbrev pub removed_if : Option T → Slots T → Id → Slots T
  removed_if (Some x) s id = with_len (vacated s id) (s.len - 1)
  removed_if None s id = s

  abbrev pub removed : Slots T → Id → Slots T
  removed s id = removed_if (found s id) s id
