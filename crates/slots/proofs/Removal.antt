-- A removal keeps what holds of a slab and its record.
use Rattle.std.proofs.Common.{◌≡◌, ℕ, ◌+◌, ◌-◌, ◌<◌, ◌≤◌, Bool, true, false, cond, ◌&&◌, eqb, ◌⊎◌, List, ◌∷◌, length, set, Some, None, Option, sym, refl, ap, ◌∙◌, subst, inl, inr, ⊎_elim, arith}
use Rattle.std.specs.List.{slice_get}
use Rattle.std.proofs.lemmas.List.{length-set}
use Rattle.std.proofs.lemmas.Bool.{and_parts, eqb-true, eq-eqb, ne_eqb, cases_eq, cond_both, cond-true, cond-false, and_left}
use Rattle.records.specs.declared.id.Id.{Id}
use Rattle.slots.specs.declared.slab.Slot.{Slot}
use Rattle.slots.specs.Slots.{Slots, found, with_len, removed, removed_if, vacated_to, empty}
use Rattle.slots.specs.Events.{Event, Event.remove, same_id, standing, given, removals, freed}
use Rattle.slots.specs.Laws.{Among, one_if_some}
use Rattle.slots.proofs.Setting.{nth_set_same, nth_set_other}
use Rattle.slots.proofs.Finds.{made, Held, found_out}
use Rattle.slots.proofs.Chains.{Chain, Chain.more, chain_kept, entries_set, entries_some}
use Rattle.slots.proofs.Kept.{same_is, taken, spent, Old, Retired, Kept}
use Rattle.slots.proofs.Live.{at_hand, here, off_chain, lives, other_index}

module _ {T : Type 0} where
  module _ (table : List (Slot T)) (s : Slots T) (h : List (Event T)) (j : Id) (x : T) (k : Kept table s h) (e : found s j ≡ Some x) where
    abbrev live : Held s.slots s.used j x
    live = at_hand table s h j x k e

    abbrev within : j.index < length s.slots
    within = here table s h j x k e

    abbrev away : Among j.index (freed h) → ⊥
    away = off_chain table s h j x k e

    -- removals after this one
    abbrev times_then : ℕ → ℕ
    times_then i = cond (eqb i j.index) (removals i h + 1) (removals i h)

    times_same : (i : ℕ) → (i ≡ j.index → ⊥) → times_then i ≡ removals i h
    times_same i n = cond-false _ _ _ (ne_eqb i j.index n)

    times_more : times_then j.index ≡ removals j.index h + 1
    times_more = cond-true _ _ _ (eq-eqb j.index j.index refl)

    times_now : j.generation ≡ removals j.index h
    times_now = sym live.whole ∙ k.times j.index live.slot x live.below live.here live.value

    -- the slot is left at a generation, with a link; some slots are free then
    module _ (g : ℕ) (next f : Option ℕ) (is : List ℕ) where
      abbrev then_slots : List (Slot T)
      then_slots = set s.slots j.index (empty g next)

      pub record Leaving : Type 0 where
        pub freed_is : freed (remove j (Some x) ∷ h) ≡ is
        pub chain : Chain then_slots s.used times_then f is
        pub later : (id : Id) → given id h ≡ true → id.generation ≤ j.generation → (id.generation ≤ g) × (Among j.index is → id.generation < g)
        pub others : (i : ℕ) → (i ≡ j.index → ⊥) → Among i is → Among i (freed h)
        pub ended : spent j.index (remove j (Some x) ∷ h) ≡ true → Among j.index is → ⊥

      module _ (v : Leaving) where
        then_here : slice_get then_slots j.index ≡ Some (empty g next)
        then_here = nth_set_same s.slots j.index (empty g next) within

        then_else : (i : ℕ) → (i ≡ j.index → ⊥) → slice_get then_slots i ≡ slice_get s.slots i
        then_else i n = nth_set_other s.slots j.index i (empty g next) n

        out_times : (i : ℕ) (slot : Slot T) (y : T) → i < s.used → slice_get then_slots i ≡ Some slot → slot.value ≡ Some y → (i ≡ j.index) ⊎ (i ≡ j.index → ⊥) → slot.generation ≡ times_then i
        out_times i slot y b w u (inl q) =
            let p : Some (empty g next) ≡ Some slot = sym then_here ∙ sym (ap (slice_get then_slots) q) ∙ w in
            let c : None ≡ slot.value = cc in
            let z : ◌≡◌ {A = ℕ} 0 1 = cc in absurd (omega arith)
        out_times i slot y b w u (inr n) = k.times i slot y b (sym (then_else i n) ∙ w) u ∙ sym (times_same i n)

        out_old : (id : Id) → given id h ≡ true → (id.index ≡ j.index) ⊎ (id.index ≡ j.index → ⊥) → Old then_slots s.used is id
        out_old id t (inl q) =
            let o = k.old id t in
            let a = o.1 live.slot (ap (slice_get s.slots) q ∙ live.here) in
            let w = live.whole in
            let l = v.later id t (omega (arith, a.0, w)) in (
              o.0,
              λ slot z.
                  let p : Some (empty g next) ≡ Some slot = sym then_here ∙ sym (ap (slice_get then_slots) q) ∙ z in
                  let u : g ≡ slot.generation = cc in
                  (omega (arith, l.0, u), λ m. let d = l.1 (subst (λ i. Among i is) q m) in omega (arith, d, u)),
            )
        out_old id t (inr n) =
            let o = k.old id t in
            (o.0, λ slot z. let a = o.1 slot (sym (then_else id.index n) ∙ z) in (a.0, λ m. a.1 (v.others id.index n m)))

        out_known : (id : Id) (y : T) (b : Bool) → cond b None (standing id h) ≡ Some y → given id h ≡ true
        out_known id y true w = let z : ◌≡◌ {A = ℕ} 0 1 = cc in absurd (omega arith)
        out_known id y false w = k.known id y w

        out_gone : (id : Id) (b : Bool) → same_id id j ≡ b → cond b true (taken id h) ≡ true → (cond b None (standing id h) ≡ None) × (given id h ≡ true)
        out_gone id true q w = (refl, subst (λ (i : Id). given i h ≡ true) (sym (same_is id j q)) (k.known j x (lives table s h j x k e)))
        out_gone id false q w = k.gone id w

        out_spent_else : (i : ℕ) → (i ≡ j.index → ⊥) → (b : Bool) → (eqb j.generation 18446744073709551615 && eqb i j.index) ≡ b → cond b true (spent i h) ≡ true → spent i h ≡ true
        out_spent_else i n true q w = absurd (n (eqb-true i j.index (and_parts _ _ q).1))
        out_spent_else i n false q w = w

        out_spends : (i : ℕ) → spent i (remove j (Some x) ∷ h) ≡ true → (i ≡ j.index) ⊎ (i ≡ j.index → ⊥) → Retired then_slots s.used is i
        out_spends i t (inl q) =
            let b = live.below in (
              omega (arith, b, q),
              (λ m. v.ended (subst (λ a. spent a (remove j (Some x) ∷ h) ≡ true) q t) (subst (λ a. Among a is) q m)),
              λ slot w.
                  let p : Some (empty g next) ≡ Some slot = sym then_here ∙ sym (ap (slice_get then_slots) q) ∙ w in
                  let c : slot.value ≡ None = cc in c,
            )
        out_spends i t (inr n) =
            let r = k.spends i (out_spent_else i n (eqb j.generation 18446744073709551615 && eqb i j.index) refl t) in
            (r.0, (λ m. r.1 (v.others i n m)), λ slot w. r.2 slot (sym (then_else i n) ∙ w))

        out_unseen : (i : ℕ) → s.used ≤ i → times_then i ≡ 0
        out_unseen i b =
            let l = live.below in
            let n : (i ≡ j.index → ⊥) = λ q. omega (arith, l, b, q) in
            times_same i n ∙ k.unseen i b

        pub left_kept : Kept table (made then_slots s.used f (s.len - 1)) (remove j (Some x) ∷ h)
        left_kept = record {
          size = length-set s.slots j.index (empty g next) ∙ k.size;
          used = k.used;
          bounded = k.bounded;
          resolves = λ id. found_out s.slots s.used j live.slot f s.free next (s.len - 1) s.len g id live.here live.below within live.whole
              ∙ ap (λ o. cond (same_id id j) None o) (k.resolves id);
          chain = subst (Chain then_slots s.used times_then f) (sym v.freed_is) v.chain;
          times = λ i slot y b w u. out_times i slot y b w u (cases_eq i j.index);
          unseen = out_unseen;
          old = λ id t. subst (λ z. Old then_slots s.used z id) (sym v.freed_is) (out_old id t (cases_eq id.index j.index));
          known = λ id y w. out_known id y (same_id id j) w;
          gone = λ id t. out_gone id (same_id id j) refl t;
          spends = λ i t. subst (λ z. Retired then_slots s.used z i) (sym v.freed_is) (out_spends i t (cases_eq i j.index));
          count =
              let c = k.count in
              let m = entries_set s.used s.slots j.index live.slot (empty g next) live.below live.here in
              let o : one_if_some live.slot.value ≡ 1 = ap one_if_some live.value in
              omega (arith, c, m, o);
          balance =
              let b = k.balance in
              let c = k.count in
              let m = entries_some s.used s.slots j.index live.slot x live.below live.here live.value in
              omega (arith, b, c, m);
        }

    -- the last generation is spent
    retiring : eqb j.generation 18446744073709551615 ≡ true → Leaving j.generation None s.free (freed h)
    retiring t = record {
      freed_is = cond-true _ _ _ t;
      chain = chain_kept s.slots (then_slots j.generation None s.free (freed h)) s.used s.used (λ i. removals i h) times_then j.index
          (λ i n. (nth_set_other s.slots j.index i (empty j.generation None) n, times_same i n)) (omega arith) k.chain away;
      later = λ id g l. (l, λ m. absurd (away m));
      others = λ i n m. m;
      ended = λ w m. away m;
    }

    unspent_here : eqb j.generation 18446744073709551615 ≡ false → spent j.index (remove j (Some x) ∷ h) ≡ true → spent j.index h ≡ true
    unspent_here t w = let f = and_left _ (eqb j.index j.index) t in sym (cond-false _ _ _ f) ∙ w

    -- the next generation is free
    freeing : eqb j.generation 18446744073709551615 ≡ false → Leaving (j.generation + 1) s.free (Some j.index) (j.index ∷ freed h)
    freeing t = record {
      freed_is = cond-false _ _ _ t;
      chain = more j.index s.free (freed h)
          (record {
            slot = empty (j.generation + 1) s.free;
            here = nth_set_same s.slots j.index (empty (j.generation + 1) s.free) within;
            below = live.below;
            empty = refl;
            after = refl;
            times = ap (λ n. n + 1) times_now ∙ sym times_more;
          })
          away
          (chain_kept s.slots (set s.slots j.index (empty (j.generation + 1) s.free)) s.used s.used (λ i. removals i h) times_then j.index
          (λ i n. (nth_set_other s.slots j.index i (empty (j.generation + 1) s.free) n, times_same i n)) (omega arith) k.chain away);
      later = λ id g l. (omega (arith, l), λ m. omega (arith, l));
      others = λ i n m. ⊎_elim (λ q. absurd (n q)) (λ a. a) m;
      ended = λ w m. other_index table s h j x k e j.index (unspent_here t w) refl;
    }

    pub removed_kept : Kept table (removed_if (Some x) s j) (remove j (Some x) ∷ h)
    removed_kept =
        cond_both (eqb j.generation 18446744073709551615) None (Some (j.generation + 1)) (λ (o : Option ℕ). Kept table (with_len (vacated_to s j o) (s.len - 1)) (remove j (Some x) ∷ h))
        (λ t. left_kept j.generation None s.free (freed h) (retiring t))
        (λ t. left_kept (j.generation + 1) s.free (Some j.index) (j.index ∷ freed h) (freeing t))

  removing : (table : List (Slot T)) (s : Slots T) (h : List (Event T)) (j : Id) → Kept table s h → (o : Option T) → found s j ≡ o →
      Kept table (removed_if o s j) (remove j o ∷ h)
  removing table s h j k (Some x) e = removed_kept table s h j x k e
  removing table s h j k None e = k

  pub kept_remove : (table : List (Slot T)) (s : Slots T) (h : List (Event T)) (j : Id) → Kept table s h → Kept table (removed s j) (remove j (found s j) ∷ h)
  kept_remove table s h j k = removing table s h j k (found s j) refl
