-- An insertion keeps what holds of a slab and its record.
use Rattle.std.proofs.Common.{◌≡◌, ℕ, ◌+◌, ◌<◌, ◌≤◌, min, Bool, true, false, cond, ltb, ◌⊎◌, List, [], ◌∷◌, length, take, set, Some, None, Option, sym, refl, ap, ◌∙◌, subst, inl, inr, ⊎_elim, arith}
use Rattle.std.specs.List.{slice_get}
use Rattle.std.proofs.lemmas.List.{length-set}
use Rattle.std.proofs.lemmas.Bool.{ltb-true, cases_eq, cases_Bool, cond_both}
use Rattle.records.specs.declared.id.Id.{Id}
use Rattle.slots.specs.declared.slab.Slot.{Slot}
use Rattle.slots.specs.Slots.{Slots, id_of, found, id_again, next_id, advanced, free_behind, with_slot, with_len, inserted, inserted_as, full, one_more}
use Rattle.slots.specs.Events.{Event, Event.insert, same_id, rest, one_if_none, standing, given, removals, freed, touched}
use Rattle.slots.specs.Laws.{Among, one_if_some, entries}
use Rattle.slots.proofs.Setting.{nth_set_same, nth_set_other}
use Rattle.slots.proofs.Finds.{made, found_new, found_again}
use Rattle.slots.proofs.Chains.{Free, Chain, Chain.none, Chain.more, chain_kept, entries_few, entries_set, entries_more}
use Rattle.slots.proofs.Kept.{same_is, spent, Old, Retired, Kept}

module _ {T : Type 0} where
  -- an entry goes into the slot at i, at generation g, and the free list loses its first slot, if it has one
  module _ (table slots : List (Slot T)) (used after : ℕ) (f f' : Option ℕ) (len : ℕ) (h : List (Event T)) (x : T) (i g : ℕ) where
    pub record Taking : Type 0 where
      pub finds : (id : Id) → found (made (set slots i (full g x)) after f' (len + 1)) id ≡ cond (same_id id (id_of i g)) (Some x) (found (made slots used f len) id)
      pub used_is : after ≡ touched h + one_if_none (freed h)
      pub bound : after ≤ min (length table) 65536
      pub chain : Chain (set slots i (full g x)) after (λ k. removals k h) f' (rest (freed h))
      pub times : g ≡ removals i h
      pub below : i < after
      pub longer : used ≤ after
      pub else_below : (k : ℕ) → k < after → (k ≡ i → ⊥) → k < used
      pub there : i < length slots
      pub unknown : (id : Id) → given id h ≡ true → id.index ≡ i → id.generation < g
      pub off : Among i (rest (freed h)) → ⊥
      pub fewer : (k : ℕ) → Among k (rest (freed h)) → Among k (freed h)
      pub unspent : spent i h ≡ true → ⊥
      pub counted : len + 1 ≡ entries (take after (set slots i (full g x)))

    module _ (k : Kept table (made slots used f len) h) (t : Taking) where
      new_given : (id : Id) → given id h ≡ true → same_id id (id_of i g) ≡ false
      new_given id e = ⊎_elim
          (λ (p : same_id id (id_of i g) ≡ true).
          let q : id ≡ id_of i g = same_is id (id_of i g) p in
          let qi : id.index ≡ i = ap (λ (z : Id). z.index) q in
          let qg : id.generation ≡ g = ap (λ (z : Id). z.generation) q in
          let l = t.unknown id e qi in
          absurd (omega (arith, l, qg)))
          (λ p. p)
          (cases_Bool (same_id id (id_of i g)))

      live_times : (j : ℕ) (slot : Slot T) (y : T) → j < after → slice_get (set slots i (full g x)) j ≡ Some slot → slot.value ≡ Some y → (j ≡ i) ⊎ (j ≡ i → ⊥) → slot.generation ≡ removals j h
      live_times j slot y b e v (inl q) =
          let z : slice_get (set slots i (full g x)) i ≡ Some slot = sym (ap (slice_get (set slots i (full g x))) q) ∙ e in
          let w : Some (full g x) ≡ Some slot = sym (nth_set_same slots i (full g x) t.there) ∙ z in
          let u : g ≡ slot.generation = cc in
          rw q (sym u ∙ t.times)
      live_times j slot y b e v (inr n) = k.times j slot y (t.else_below j b n) (sym (nth_set_other slots i j (full g x) n) ∙ e) v

      old_in : (id : Id) → given id h ≡ true → (id.index ≡ i) ⊎ (id.index ≡ i → ⊥) → Old (set slots i (full g x)) after (rest (freed h)) id
      old_in id e (inl q) =
          let o = k.old id e in
          let lt = t.unknown id e q in (
            omega (arith, o.0, t.longer),
            λ slot w.
                let z : slice_get (set slots i (full g x)) i ≡ Some slot = sym (ap (slice_get (set slots i (full g x))) q) ∙ w in
                let p : Some (full g x) ≡ Some slot = sym (nth_set_same slots i (full g x) t.there) ∙ z in
                let u : g ≡ slot.generation = cc in
                (omega (arith, lt, u), λ a. omega (arith, lt, u)),
          )
      old_in id e (inr n) =
          let o = k.old id e in (
            omega (arith, o.0, t.longer),
            λ slot w.
                let p = o.1 slot (sym (nth_set_other slots i id.index (full g x) n) ∙ w) in
                (p.0, λ a. p.1 (t.fewer id.index a)),
          )

      old_new : Old (set slots i (full g x)) after (rest (freed h)) (id_of i g)
      old_new = (
        t.below,
        λ slot w.
            let p : Some (full g x) ≡ Some slot = sym (nth_set_same slots i (full g x) t.there) ∙ w in
            let u : g ≡ slot.generation = cc in
            (omega (arith, u), λ a. absurd (t.off a)),
      )

      old_of : (id : Id) (b : Bool) → same_id id (id_of i g) ≡ b → cond b true (given id h) ≡ true → Old (set slots i (full g x)) after (rest (freed h)) id
      old_of id true q e = subst (Old (set slots i (full g x)) after (rest (freed h))) (sym (same_is id (id_of i g) q)) old_new
      old_of id false q e = old_in id e (cases_eq id.index i)

      known_of : (id : Id) (y : T) (b : Bool) → cond b (Some x) (standing id h) ≡ Some y → cond b true (given id h) ≡ true
      known_of id y true e = refl
      known_of id y false e = k.known id y e

      spent_of : (j : ℕ) → spent j h ≡ true → Retired (set slots i (full g x)) after (rest (freed h)) j
      spent_of j e =
          let r = k.spends j e in
          let n : (j ≡ i → ⊥) = λ q. t.unspent (subst (λ a. spent a h ≡ true) q e) in
          (omega (arith, r.0, t.longer), (λ a. r.1 (t.fewer j a)), λ slot w. r.2 slot (sym (nth_set_other slots i j (full g x) n) ∙ w))

      pub took : Kept table (made (set slots i (full g x)) after f' (len + 1)) (insert x (Some (id_of i g)) ∷ h)
      took = record {
        size = length-set slots i (full g x) ∙ k.size;
        used = t.used_is;
        bounded = t.bound;
        resolves = λ id. t.finds id ∙ ap (λ o. cond (same_id id (id_of i g)) (Some x) o) (k.resolves id);
        chain = t.chain;
        times = λ j slot y b e v. live_times j slot y b e v (cases_eq j i);
        unseen = λ j b. k.unseen j (omega (arith, t.longer, b));
        old = λ id e. old_of id (same_id id (id_of i g)) refl e;
        known = λ id y e. known_of id y (same_id id (id_of i g)) e;
        gone = λ id e. let p = k.gone id e in let q = new_given id p.1 in rw q p;
        spends = spent_of;
        count = t.counted;
        balance = let b = k.balance in omega (arith, b);
      }

  -- insertion

  taking_new : (table slots : List (Slot T)) (used len : ℕ) (h : List (Event T)) (x : T) → Kept table (made slots used None len) h → freed h ≡ [] →
      used < min (length slots) 65536 → Taking table slots used (used + 1) None None len h x used 0
  taking_new table slots used len h x k e b =
      let u : used ≡ touched h = k.used in
      let one : one_if_none (freed h) ≡ 1 = ap one_if_none e in
      let n : length slots ≡ length table = k.size in
      record {
        finds = λ id. found_new slots used None None (len + 1) len x id (omega (arith, b));
        used_is = omega (arith, u, one);
        bound = omega (arith, b, n);
        chain = rw e none;
        times = sym (k.unseen used (omega arith));
        below = omega arith;
        longer = omega arith;
        else_below = λ j l ne. let d : (j ≡ used → ⊥) = ne in omega (arith, l, d);
        there = omega (arith, b);
        unknown = λ id g q. let o = k.old id g in absurd (omega (arith, o.0, q));
        off = rw e (λ a. a);
        fewer = rw e (λ j a. a);
        unspent = λ g. let r = k.spends used g in omega (arith, r.0);
        counted = let c = k.count in let m = entries_more used slots (full 0 x) (omega (arith, b)) in omega (arith, c, m);
      }

  taking_again : (table slots : List (Slot T)) (used len : ℕ) (h : List (Event T)) (x : T) (i : ℕ) (next : Option ℕ) (is : List ℕ) →
      Kept table (made slots used (Some i) len) h → freed h ≡ i ∷ is → (free : Free slots used (λ j. removals j h) i next) → (Among i is → ⊥) →
      Chain slots used (λ j. removals j h) next is →
      Taking table slots used used (Some i) next len h x i free.slot.generation
  taking_again table slots used len h x i next is k e free apart rest_of =
      let u : used ≡ touched h = k.used in
      let zero_more : one_if_none (freed h) ≡ 0 = ap one_if_none e in
      let n : length slots ≡ length table = k.size in
      let bd : used ≤ min (length table) 65536 = k.bounded in
      let there : i < length slots = omega (arith, free.below, bd, n) in
      let among : Among i (freed h) = subst (Among i) (sym e) (inl refl) in
      record {
        finds = λ id. found_again slots used i free.slot next (Some i) (len + 1) len x id free.here free.below there free.empty;
        used_is = omega (arith, u, zero_more);
        bound = bd;
        chain = rw e (chain_kept slots (set slots i (full free.slot.generation x)) used used (λ j. removals j h) (λ j. removals j h) i
            (λ j ne. (nth_set_other slots i j (full free.slot.generation x) ne, refl)) (omega arith) rest_of apart);
        times = free.times;
        below = free.below;
        longer = omega arith;
        else_below = λ j l ne. l;
        there = there;
        unknown = λ id g q.
            let o = k.old id g in
            let w : slice_get slots id.index ≡ Some free.slot = ap (slice_get slots) q ∙ free.here in
            (o.1 free.slot w).1 (subst (λ j. Among j (freed h)) (sym q) among);
        off = rw e apart;
        fewer = rw e (λ j a. inr a);
        unspent = λ g. (k.spends i g).1 among;
        counted =
            let c = k.count in
            let m = entries_set used slots i free.slot (full free.slot.generation x) free.below free.here in
            let z : one_if_some free.slot.value ≡ 0 = ap one_if_some free.empty in
            omega (arith, c, m, z);
      }

  inserting : (table slots : List (Slot T)) (used len : ℕ) (h : List (Event T)) (x : T) {f : Option ℕ} {is : List ℕ} →
      Chain slots used (λ j. removals j h) f is → freed h ≡ is → Kept table (made slots used f len) h →
      Kept table (inserted (made slots used f len) x) (insert x (next_id (made slots used f len)) ∷ h)
  inserting table slots used len h x none e k =
      cond_both (ltb used (min (length slots) 65536)) (Some (id_of used 0)) None (λ (o : Option Id). Kept table (inserted_as (made slots used None len) x o) (insert x o ∷ h))
      (λ t.
      let b : used < min (length slots) 65536 = ltb-true _ _ t in
      let few : len ≤ used = let c = k.count in let m = entries_few used slots in omega (arith, c, m) in
      let a : min (used + 1) 18446744073709551615 ≡ used + 1 = omega (arith, b) in
      let c : min (len + 1) 18446744073709551615 ≡ len + 1 = omega (arith, b, few) in
      rw (a, c) (took table slots used (used + 1) None None len h x used 0 k (taking_new table slots used len h x k e b)))
      (λ t. k)
  inserting table slots used len h x (more i next is free apart rest_of) e k =
      let bd : used ≤ min (length table) 65536 = k.bounded in
      let few : len ≤ used = let c = k.count in let m = entries_few used slots in omega (arith, c, m) in
      let c : min (len + 1) 18446744073709551615 ≡ len + 1 = omega (arith, bd, few) in
      let id : next_id (made slots used (Some i) len) ≡ Some (id_of i free.slot.generation) = ap (id_again i) free.here in
      let on : advanced (made slots used (Some i) len) ≡ made slots used next len =
      ap (free_behind (made slots used (Some i) len)) free.here ∙ ap (λ n. made slots used n len) free.after in
      subst (λ (o : Option Id). Kept table (inserted_as (made slots used (Some i) len) x o) (insert x o ∷ h)) (sym id)
      (subst (λ (a : Slots T). Kept table (with_len (with_slot a i (full free.slot.generation x)) (one_more len)) (insert x (Some (id_of i free.slot.generation)) ∷ h)) (sym on)
      (rw c (took table slots used used (Some i) next len h x i free.slot.generation k (taking_again table slots used len h x i next is k e free apart rest_of))))

  pub kept_insert : (table : List (Slot T)) (s : Slots T) (h : List (Event T)) (x : T) → Kept table s h → Kept table (inserted s x) (insert x (next_id s) ∷ h)
  kept_insert table s h x k = inserting table s.slots s.used s.len h x k.chain refl k
