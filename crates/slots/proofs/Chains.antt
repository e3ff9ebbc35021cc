-- The free slots of a slab, and the number of its entries.
use Rattle.std.proofs.Common.{◌≡◌, ℕ, zero, suc, ◌+◌, ◌<◌, ◌≤◌, List, [], ◌∷◌, length, take, set, Some, None, Option, sym, ap, ◌∙◌, inl, inr, arith}
use Rattle.std.proofs.lemmas.Option.{none-some}
use Rattle.std.specs.List.{slice_get}
use Rattle.slots.specs.declared.slab.Slot.{Slot}
use Rattle.slots.specs.Laws.{Among, Apart, Links, Links.end, Links.link, one_if_some, entries}

module _ {T : Type 0} where
  -- a free slot: it has no entry, and its generation counts its removals
  pub record Free (slots : List (Slot T)) (used : ℕ) (gen : ℕ → ℕ) (i : ℕ) (next : Option ℕ) : Type 0 where
    pub slot : Slot T
    pub here : slice_get slots i ≡ Some slot
    pub below : i < used
    pub empty : slot.value ≡ None
    pub after : slot.next ≡ next
    pub times : slot.generation ≡ gen i

  pub data Chain (slots : List (Slot T)) (used : ℕ) (gen : ℕ → ℕ) : Option ℕ → List ℕ → Type 0 where
    none : Chain slots used gen None []
    more : (i : ℕ) (next : Option ℕ) (is : List ℕ) → Free slots used gen i next → (Among i is → ⊥) → Chain slots used gen next is →
        Chain slots used gen (Some i) (i ∷ is)

  -- a slot off the chain may change
  pub chain_kept : (slots slots' : List (Slot T)) (used used' : ℕ) (gen gen' : ℕ → ℕ) (j : ℕ) →
      ((i : ℕ) → (i ≡ j → ⊥) → (slice_get slots' i ≡ slice_get slots i) × (gen' i ≡ gen i)) → used ≤ used' →
      {f : Option ℕ} {is : List ℕ} → Chain slots used gen f is → (Among j is → ⊥) → Chain slots' used' gen' f is
  chain_kept slots slots' used used' gen gen' j same le none off = none
  chain_kept slots slots' used used' gen gen' j same le (more i next is free apart rest) off =
      let ne : (i ≡ j → ⊥) = λ e. off (inl (sym e)) in
      let k = same i ne in
      more i next is
      (record {
        slot = free.slot;
        here = k.0 ∙ free.here;
        below = omega (arith, free.below);
        empty = free.empty;
        after = free.after;
        times = free.times ∙ sym k.1;
      }) apart (chain_kept slots slots' used used' gen gen' j same le rest (λ a. off (inr a)))

  -- each slot of the chain
  pub chain_at : (slots : List (Slot T)) (used : ℕ) (gen : ℕ → ℕ) {f : Option ℕ} {is : List ℕ} → Chain slots used gen f is →
      (i : ℕ) → Among i is → (next : Option ℕ) × Free slots used gen i next
  chain_at slots used gen none i a = absurd a
  chain_at slots used gen (more j next is free apart rest) i (inl e) = (next, rw e free)
  chain_at slots used gen (more j next is free apart rest) i (inr a) = chain_at slots used gen rest i a

  pub chain_apart : (slots : List (Slot T)) (used : ℕ) (gen : ℕ → ℕ) {f : Option ℕ} {is : List ℕ} → Chain slots used gen f is → Apart is
  chain_apart slots used gen none = tt
  chain_apart slots used gen (more j next is free apart rest) = (apart, chain_apart slots used gen rest)

  pub chain_links : (slots : List (Slot T)) (used : ℕ) (gen : ℕ → ℕ) {f : Option ℕ} {is : List ℕ} → Chain slots used gen f is → Links slots f is
  chain_links slots used gen none = end
  chain_links slots used gen (more j next is free apart rest) =
      link j is free.slot free.here (rw free.after (chain_links slots used gen rest))

  -- a slot with an entry, and one never used, are off the chain
  pub full_off : (slots : List (Slot T)) (used : ℕ) (gen : ℕ → ℕ) (f : Option ℕ) (is : List ℕ) → Chain slots used gen f is →
      (i : ℕ) (slot : Slot T) (x : T) → slice_get slots i ≡ Some slot → slot.value ≡ Some x → Among i is → ⊥
  full_off slots used gen f is c i slot x e v a =
      let p = chain_at slots used gen c i a in
      let same : Some p.1.slot ≡ Some slot = sym p.1.here ∙ e in
      let q : p.1.slot.value ≡ slot.value = cc in
      none-some x (sym p.1.empty ∙ q ∙ v)

  pub past_off : (slots : List (Slot T)) (used : ℕ) (gen : ℕ → ℕ) (f : Option ℕ) (is : List ℕ) → Chain slots used gen f is →
      (i : ℕ) → used ≤ i → Among i is → ⊥
  past_off slots used gen f is c i h a = let p = chain_at slots used gen c i a in let b = p.1.below in omega arith

  -- entries in the first slots

  pub entries_few : (n : ℕ) (xs : List (Slot T)) → entries (take n xs) ≤ n
  entries_few zero xs = omega arith
  entries_few (suc n) [] = omega arith
  entries_few (suc n) (x ∷ xs) = let i = entries_few n xs in let b = one_few x.value in omega (arith, i, b)
    where
      one_few : (o : Option T) → one_if_some o ≤ 1
      one_few (Some x) = omega arith
      one_few None = omega arith

  pub entries_set : (n : ℕ) (xs : List (Slot T)) (i : ℕ) (old new : Slot T) → i < n → slice_get xs i ≡ Some old →
      entries (take n (set xs i new)) + one_if_some old.value ≡ entries (take n xs) + one_if_some new.value
  entries_set zero xs i old new h e = absurd (omega arith)
  entries_set (suc n) [] i old new h e = let z : ◌≡◌ {A = ℕ} 0 1 = cc in absurd (omega arith)
  entries_set (suc n) (x ∷ xs) zero old new h e =
      let p : x ≡ old = cc in let q : one_if_some x.value ≡ one_if_some old.value = ap (λ (s : Slot T). one_if_some s.value) p in omega (arith, q)
  entries_set (suc n) (x ∷ xs) (suc i) old new h e = let k = entries_set n xs i old new (omega arith) e in omega (arith, k)

  pub entries_more : (n : ℕ) (xs : List (Slot T)) (new : Slot T) → n < length xs →
      entries (take (n + 1) (set xs n new)) ≡ entries (take n xs) + one_if_some new.value
  entries_more n xs new h = let s : n + 1 ≡ suc n = omega arith in rw s (next n xs new h)
    where
      next : (n : ℕ) (xs : List (Slot T)) (new : Slot T) → n < length xs → entries (take (suc n) (set xs n new)) ≡ entries (take n xs) + one_if_some new.value
      next n [] new h = absurd (omega arith)
      next zero (x ∷ xs) new h = omega arith
      next (suc n) (x ∷ xs) new h = let i = next n xs new (omega arith) in omega (arith, i)

  pub entries_some : (n : ℕ) (xs : List (Slot T)) (i : ℕ) (slot : Slot T) (x : T) → i < n → slice_get xs i ≡ Some slot → slot.value ≡ Some x → 1 ≤ entries (take n xs)
  entries_some zero xs i slot x h e v = absurd (omega arith)
  entries_some (suc n) [] i slot x h e v = let z : ◌≡◌ {A = ℕ} 0 1 = cc in absurd (omega arith)
  entries_some (suc n) (y ∷ ys) zero slot x h e v =
      let p : y.value ≡ Some x = cc in let q : one_if_some y.value ≡ 1 = ap one_if_some p in omega (arith, q)
  entries_some (suc n) (y ∷ ys) (suc i) slot x h e v = let k = entries_some n ys i slot x (omega arith) e v in omega (arith, k)
