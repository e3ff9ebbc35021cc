-- What holds of a slab and its record; a refused call keeps it.
use Rattle.std.proofs.Common.{◌≡◌, ℕ, ◌+◌, ◌<◌, ◌≤◌, min, Bool, true, false, cond, ◌&&◌, eqb, ltb, List, [], ◌∷◌, length, take, Some, None, Option, refl, arith}
use Rattle.std.specs.List.{slice_get}
use Rattle.std.proofs.lemmas.Bool.{and_parts, eqb-true, ne_eqb, and_left}
use Rattle.std.proofs.lemmas.Bool.Decides.{nat_tests}
use Rattle.records.specs.declared.id.Id.{Id}
use Rattle.slots.specs.declared.slab.Slot.{Slot}
use Rattle.slots.specs.Slots.{Slots, fresh, id_of, found}
use Rattle.slots.specs.Events.{Event, Event.insert, Event.set as put, Event.remove, same_id, standing, given, removals, freed, touched, came, left}
use Rattle.slots.specs.Laws.{Among, entries}
use Rattle.slots.proofs.Chains.{Chain, Chain.none}

-- ids

pub same_is : (a b : Id) → same_id a b ≡ true → a ≡ b
same_is a b e =
    let p = and_parts _ _ e in
    let i = eqb-true a.index b.index p.0 in
    let g = eqb-true a.generation b.generation p.1 in
    let f : id_of a.index a.generation ≡ id_of b.index b.generation = rw (i, g) refl in
    f

pub same_index : (a b : Id) → (a.index ≡ b.index → ⊥) → same_id a b ≡ false
same_index a b n = and_left _ _ (ne_eqb _ _ n)

module _ {T : Type 0} where
  -- whether a removal took this id's entry out
  abbrev pub taken : Id → List (Event T) → Bool
  taken id [] = false
  taken id (insert x a ∷ h) = taken id h
  taken id (put j x a ∷ h) = taken id h
  taken id (remove j (Some x) ∷ h) = cond (same_id id j) true (taken id h)
  taken id (remove j None ∷ h) = taken id h

  -- whether the slot at an index was removed at its last generation
  abbrev pub spent : ℕ → List (Event T) → Bool
  spent i [] = false
  spent i (insert x a ∷ h) = spent i h
  spent i (put j x a ∷ h) = spent i h
  spent i (remove j (Some x) ∷ h) = cond (eqb j.generation 18446744073709551615 && eqb i j.index) true (spent i h)
  spent i (remove j None ∷ h) = spent i h

  -- an id given before: its slot is at its generation or past it, and past it once it is free
  abbrev pub Old : List (Slot T) → ℕ → List ℕ → Id → Type 0
  Old slots used is id = (id.index < used)
      × ((slot : Slot T) → slice_get slots id.index ≡ Some slot → (id.generation ≤ slot.generation) × (Among id.index is → id.generation < slot.generation))

  -- a slot that is never free again
  abbrev pub Retired : List (Slot T) → ℕ → List ℕ → ℕ → Type 0
  Retired slots used is i = (i < used) × (Among i is → ⊥) × ((slot : Slot T) → slice_get slots i ≡ Some slot → slot.value ≡ None)

  -- of the record only these numbers and tests are used, so a refused call, which changes none, keeps it as it stands
  pub record KeptBy (table : List (Slot T)) (s : Slots T) (stands : Id → Option T) (gave takes : Id → Bool) (out : ℕ → ℕ) (ends : ℕ → Bool)
      (frees : List ℕ) (touches comes leaves : ℕ) : Type 0 where
    pub size : length s.slots ≡ length table
    pub used : s.used ≡ touches
    pub bounded : s.used ≤ min (length table) 65536
    pub resolves : (id : Id) → found s id ≡ stands id
    pub chain : Chain s.slots s.used out s.free frees
    pub times : (i : ℕ) (slot : Slot T) (x : T) → i < s.used → slice_get s.slots i ≡ Some slot → slot.value ≡ Some x → slot.generation ≡ out i
    pub unseen : (i : ℕ) → s.used ≤ i → out i ≡ 0
    pub old : (id : Id) → gave id ≡ true → Old s.slots s.used frees id
    pub known : (id : Id) (x : T) → stands id ≡ Some x → gave id ≡ true
    pub gone : (id : Id) → takes id ≡ true → (stands id ≡ None) × (gave id ≡ true)
    pub spends : (i : ℕ) → ends i ≡ true → Retired s.slots s.used frees i
    pub count : s.len ≡ entries (take s.used s.slots)
    pub balance : s.len + leaves ≡ comes

  abbrev pub Kept : List (Slot T) → Slots T → List (Event T) → Type 0
  Kept table s h = KeptBy table s (λ id. standing id h) (λ id. given id h) (λ id. taken id h) (λ i. removals i h) (λ i. spent i h)
      (freed h) (touched h) (came h) (left h)

  pub begun : (table : List (Slot T)) → Kept table (fresh table) []
  begun table = record {
    size = refl;
    used = refl;
    bounded = omega arith;
    resolves = λ id. let f : ltb id.index 0 ≡ false = grind (arith, nat_tests) in rw f refl;
    chain = none;
    times = λ i slot x b e v. absurd (omega arith);
    unseen = λ i b. refl;
    old = λ id e. let z : ◌≡◌ {A = ℕ} 0 1 = cc in absurd (omega arith);
    known = λ id x e. let z : ◌≡◌ {A = ℕ} 0 1 = cc in absurd (omega arith);
    gone = λ id e. let z : ◌≡◌ {A = ℕ} 0 1 = cc in absurd (omega arith);
    spends = λ i e. let z : ◌≡◌ {A = ℕ} 0 1 = cc in absurd (omega arith);
    count = refl;
    balance = refl;
  }
