-- What holds of a live id, and that another value under it keeps what holds of a slab and its record.
use Rattle.std.proofs.Common.{◌≡◌, ℕ, ◌<◌, Bool, true, false, cond, ◌⊎◌, List, ◌∷◌, length, set, is_some, Some, None, Option, sym, refl, ap, ◌∙◌, subst, inl, inr, ⊎_elim, arith}
use Rattle.std.specs.List.{slice_get}
use Rattle.std.proofs.lemmas.List.{length-set}
use Rattle.std.proofs.lemmas.Bool.{cases_eq, cases_Bool}
use Rattle.records.specs.declared.id.Id.{Id}
use Rattle.slots.specs.declared.slab.Slot.{Slot}
use Rattle.slots.specs.Slots.{Slots, found, replaced, replaced_if, full}
use Rattle.slots.specs.Events.{Event, Event.set as put, same_id, standing, given, removals, freed}
use Rattle.slots.specs.Laws.{Among, one_if_some}
use Rattle.slots.proofs.Setting.{nth_set_same, nth_set_other}
use Rattle.slots.proofs.Finds.{made, Held, held, found_set}
use Rattle.slots.proofs.Chains.{chain_kept, full_off, entries_set}
use Rattle.slots.proofs.Kept.{same_is, taken, spent, Old, Kept}

module _ {T : Type 0} where
  -- a live id and its slot

  module _ (table : List (Slot T)) (s : Slots T) (h : List (Event T)) (j : Id) (old : T) (k : Kept table s h) (e : found s j ≡ Some old) where
    pub at_hand : Held s.slots s.used j old
    at_hand = held s j old e

    pub here : j.index < length s.slots
    here = let b = k.bounded in let n = k.size in omega (arith, at_hand.below, b, n)

    pub off_chain : Among j.index (freed h) → ⊥
    off_chain = full_off s.slots s.used (λ i. removals i h) s.free (freed h) k.chain j.index at_hand.slot old at_hand.here at_hand.value

    -- an id that was taken out, and a slot that is never free again, are others
    pub lives : standing j h ≡ Some old
    lives = sym (k.resolves j) ∙ e

    pub other_id : (id : Id) → taken id h ≡ true → same_id id j ≡ false
    other_id id t = ⊎_elim
        (λ (p : same_id id j ≡ true).
        let q : standing id h ≡ Some old = subst (λ (i : Id). standing i h ≡ Some old) (sym (same_is id j p)) lives in
        let n : standing id h ≡ None = (k.gone id t).0 in
        let z : ◌≡◌ {A = ℕ} 0 1 = cc in absurd (omega arith))
        (λ p. p)
        (cases_Bool (same_id id j))

    pub other_index : (i : ℕ) → spent i h ≡ true → i ≡ j.index → ⊥
    other_index i t q =
        let w : slice_get s.slots i ≡ Some at_hand.slot = ap (slice_get s.slots) q ∙ at_hand.here in
        let n : at_hand.slot.value ≡ None = (k.spends i t).2 at_hand.slot w in
        let v : at_hand.slot.value ≡ Some old = at_hand.value in
        let z : ◌≡◌ {A = ℕ} 0 1 = cc in omega arith

    module _ (x : T) where
      abbrev stored : List (Slot T)
      stored = set s.slots j.index (full j.generation x)

      stored_here : slice_get stored j.index ≡ Some (full j.generation x)
      stored_here = nth_set_same s.slots j.index (full j.generation x) here

      set_times : (i : ℕ) (slot : Slot T) (y : T) → i < s.used → slice_get stored i ≡ Some slot → slot.value ≡ Some y → (i ≡ j.index) ⊎ (i ≡ j.index → ⊥) → slot.generation ≡ removals i h
      set_times i slot y b w v (inl q) =
          let p : Some (full j.generation x) ≡ Some slot = sym stored_here ∙ sym (ap (slice_get stored) q) ∙ w in
          let u : j.generation ≡ slot.generation = cc in
          let m : at_hand.slot.generation ≡ removals j.index h = k.times j.index at_hand.slot old at_hand.below at_hand.here at_hand.value in
          rw q (sym u ∙ sym at_hand.whole ∙ m)
      set_times i slot y b w v (inr n) = k.times i slot y b (sym (nth_set_other s.slots j.index i (full j.generation x) n) ∙ w) v

      set_old : (id : Id) → given id h ≡ true → (id.index ≡ j.index) ⊎ (id.index ≡ j.index → ⊥) → Old stored s.used (freed h) id
      set_old id t (inl q) =
          let o = k.old id t in
          let a = o.1 at_hand.slot (ap (slice_get s.slots) q ∙ at_hand.here) in (
            o.0,
            λ slot w.
                let p : Some (full j.generation x) ≡ Some slot = sym stored_here ∙ sym (ap (slice_get stored) q) ∙ w in
                let u : j.generation ≡ slot.generation = cc in
                let g : at_hand.slot.generation ≡ slot.generation = at_hand.whole ∙ u in
                (omega (arith, a.0, g), λ m. let l = a.1 m in omega (arith, l, g)),
          )
      set_old id t (inr n) = let o = k.old id t in (o.0, λ slot w. o.1 slot (sym (nth_set_other s.slots j.index id.index (full j.generation x) n) ∙ w))

      set_known : (id : Id) (y : T) (b : Bool) → same_id id j ≡ b → cond b (Some x) (standing id h) ≡ Some y → given id h ≡ true
      set_known id y true q w = k.known id old (subst (λ (i : Id). standing i h ≡ Some old) (sym (same_is id j q)) lives)
      set_known id y false q w = k.known id y w

      pub replaced_kept : Kept table (made stored s.used s.free s.len) (put j x true ∷ h)
      replaced_kept = record {
        size = length-set s.slots j.index (full j.generation x) ∙ k.size;
        used = k.used;
        bounded = k.bounded;
        resolves = λ id. found_set s.slots s.used j at_hand.slot s.free s.free s.len s.len x id at_hand.here at_hand.below here at_hand.whole
            ∙ ap (λ o. cond (same_id id j) (Some x) o) (k.resolves id);
        chain = chain_kept s.slots stored s.used s.used (λ i. removals i h) (λ i. removals i h) j.index
            (λ i n. (nth_set_other s.slots j.index i (full j.generation x) n, refl)) (omega arith) k.chain off_chain;
        times = λ i slot y b w v. set_times i slot y b w v (cases_eq i j.index);
        unseen = k.unseen;
        old = λ id t. set_old id t (cases_eq id.index j.index);
        known = λ id y w. set_known id y (same_id id j) refl w;
        gone = λ id t. let q = other_id id t in rw q (k.gone id t);
        spends = λ i t. let r = k.spends i t in
            (r.0, r.1, λ slot w. r.2 slot (sym (nth_set_other s.slots j.index i (full j.generation x) (other_index i t)) ∙ w));
        count =
            let c = k.count in
            let m = entries_set s.used s.slots j.index at_hand.slot (full j.generation x) at_hand.below at_hand.here in
            let v : one_if_some at_hand.slot.value ≡ 1 = ap one_if_some at_hand.value in
            omega (arith, c, m, v);
        balance = k.balance;
      }

  setting : (table : List (Slot T)) (s : Slots T) (h : List (Event T)) (j : Id) (x : T) → Kept table s h → (o : Option T) → found s j ≡ o →
      Kept table (replaced_if o s j x) (put j x (is_some o) ∷ h)
  setting table s h j x k (Some old) e = replaced_kept table s h j old k e x
  setting table s h j x k None e = k

  pub kept_set : (table : List (Slot T)) (s : Slots T) (h : List (Event T)) (j : Id) (x : T) → Kept table s h → Kept table (replaced s j x) (put j x (is_some (found s j)) ∷ h)
  kept_set table s h j x k = setting table s h j x k (found s j) refl
