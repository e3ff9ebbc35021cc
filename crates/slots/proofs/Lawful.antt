-- Every slab is lawful, over every sequence of its calls.
use Rattle.std.proofs.Common.{◌≡◌, ℕ, ◌<◌, ◌≤◌, min, Bool, true, false, cond, ◌&&◌, eqb, ◌⊎◌, List, [], ◌∷◌, ◌++◌, length, is_some, Some, None, Option, sym, refl, ap, ◌∙◌, subst, inl, inr, ⊎_elim, arith}
use Rattle.std.specs.List.{slice_get}
use Rattle.std.proofs.lemmas.Bool.{and_from, eq-eqb, le-ltb, cases_Bool, cond-true, cond-false}
use Rattle.std.proofs.lemmas.Bool.Decides.{nat_tests}
use Rattle.std.proofs.lemmas.Grind.{common_steps}
use Rattle.std.proofs.lemmas.Option.{gets}
use Rattle.records.specs.declared.id.Id.{Id}
use Rattle.slots.specs.declared.slab.Slot.{Slot}
use Rattle.slots.specs.Slots.{Slots, id_of, id_again, id_at, found, next_id, inserted, replaced, removed}
use Rattle.slots.specs.Events.{Event, Event.insert, Event.set as put, Event.remove, Reached, Reached.begins, Reached.inserts, Reached.sets, Reached.removes, same_id, given, removals, freed, touched, due_from}
use Rattle.slots.specs.Laws.{Among, Lawful, SlabLaws}
use Rattle.slots.proofs.Finds.{made, Held, held}
use Rattle.slots.proofs.Chains.{Chain, Chain.none, Chain.more, chain_at, chain_apart, chain_links, entries_few, entries_some}
use Rattle.slots.proofs.Kept.{Kept, taken, spent, begun}
use Rattle.slots.proofs.Insertion.{kept_insert}
use Rattle.slots.proofs.Live.{kept_set}
use Rattle.slots.proofs.Removal.{kept_remove}

same_self : (id : Id) → same_id id id ≡ true
same_self id = and_from _ _ (eq-eqb id.index id.index refl) (eq-eqb id.generation id.generation refl)

always : (b c : Bool) → c ≡ true → cond b true c ≡ true
always true c e = refl
always false c e = e

module _ {T : Type 0} where
  kept_all : (table : List (Slot T)) {s : Slots T} {h : List (Event T)} → Reached table s h → Kept table s h
  kept_all table (begins s e) = subst (λ (z : Slots T). Kept table z []) (sym e) (begun table)
  kept_all table (inserts s after h x a r e f) =
      subst (λ (z : Slots T). Kept table z (insert x a ∷ h)) (sym f)
      (subst (λ (z : Option Id). Kept table (inserted s x) (insert x z ∷ h)) (sym e) (kept_insert table s h x (kept_all table r)))
  kept_all table (sets s after h id x a r e f) =
      subst (λ (z : Slots T). Kept table z (put id x a ∷ h)) (sym f)
      (subst (λ (z : Bool). Kept table (replaced s id x) (put id x z ∷ h)) (sym e) (kept_set table s h id x (kept_all table r)))
  kept_all table (removes s after h id a r e f) =
      subst (λ (z : Slots T). Kept table z (remove id a ∷ h)) (sym f)
      (subst (λ (z : Option T). Kept table (removed s id) (remove id z ∷ h)) (sym e) (kept_remove table s h id (kept_all table r)))

  -- a removal in the record

  taken_in : (id : Id) (x : T) (later earlier : List (Event T)) → taken id (later ++ (remove id (Some x) ∷ earlier)) ≡ true
  taken_in id x [] earlier = cond-true _ _ _ (same_self id)
  taken_in id x (insert y a ∷ later) earlier = taken_in id x later earlier
  taken_in id x (put j y a ∷ later) earlier = taken_in id x later earlier
  taken_in id x (remove j (Some y) ∷ later) earlier = always (same_id id j) _ (taken_in id x later earlier)
  taken_in id x (remove j None ∷ later) earlier = taken_in id x later earlier

  spent_in : (id : Id) (x : T) (later earlier : List (Event T)) → id.generation ≡ 18446744073709551615 → spent id.index (later ++ (remove id (Some x) ∷ earlier)) ≡ true
  spent_in id x [] earlier g = cond-true _ _ _ (and_from _ _ (eq-eqb id.generation 18446744073709551615 g) (eq-eqb id.index id.index refl))
  spent_in id x (insert y a ∷ later) earlier g = spent_in id x later earlier g
  spent_in id x (put j y a ∷ later) earlier g = spent_in id x later earlier g
  spent_in id x (remove j (Some y) ∷ later) earlier g = always (eqb j.generation 18446744073709551615 && eqb id.index j.index) _ (spent_in id x later earlier g)
  spent_in id x (remove j None ∷ later) earlier g = spent_in id x later earlier g

  -- the id that comes next: of a free slot, or past the slots used
  pub record Coming (slots : List (Slot T)) (used : ℕ) (gen : ℕ → ℕ) (is : List ℕ) (id : Id) : Type 0 where
    pub which : (Among id.index is × ((slot : Slot T) → slice_get slots id.index ≡ Some slot → slot.generation ≡ id.generation)) ⊎ (id.index ≡ used)

  coming : (slots : List (Slot T)) (used len : ℕ) (gen : ℕ → ℕ) {f : Option ℕ} {is : List ℕ} → Chain slots used gen f is → (id : Id) →
      next_id (made slots used f len) ≡ Some id → Coming slots used gen is id
  coming slots used len gen none id e = record { which = inr (grind (arith, nat_tests)) }
  coming slots used len gen (more i next is free apart rest) id e =
      let a : Some (id_of i free.slot.generation) ≡ Some id = sym (ap (id_again i) free.here) ∙ e in
      let b : id_of i free.slot.generation ≡ id = cc in
      let bi : i ≡ id.index = ap (λ (z : Id). z.index) b in
      let bg : free.slot.generation ≡ id.generation = ap (λ (z : Id). z.generation) b in
      record {
        which = inl (
          inl (sym bi),
          λ slot w.
              let c : Some free.slot ≡ Some slot = sym free.here ∙ ap (slice_get slots) bi ∙ w in
              let d : free.slot.generation ≡ slot.generation = cc in
              sym d ∙ bg,
        );
      }

  in_order : (table slots : List (Slot T)) (used len : ℕ) (h : List (Event T)) {f : Option ℕ} {is : List ℕ} → Chain slots used (λ i. removals i h) f is →
      length slots ≡ length table → used ≡ touched h → next_id (made slots used f len) ≡ due_from is (min (length table) 65536) h
  in_order table slots used len h none n u = rw (n, u) refl
  in_order table slots used len h (more i next is free apart rest) n u =
      ap (id_again i) free.here ∙ ap (λ g. Some (id_of i g)) free.times

  none_due : (is : List ℕ) (room : ℕ) (h : List (Event T)) → due_from is room h ≡ None → (is ≡ []) × (room ≤ touched h)
  none_due [] room h e = (refl, grind (arith, nat_tests))
  none_due (i ∷ is) room h e = let z : ◌≡◌ {A = ℕ} 0 1 = cc in absurd (omega arith)

  no_due : (is : List ℕ) (room : ℕ) (h : List (Event T)) → is ≡ [] → room ≤ touched h → due_from is room h ≡ None
  no_due [] room h e b = cond-false _ _ _ (le-ltb (touched h) room b)
  no_due (i ∷ is) room h e b = cc

  some_of : (o : Option T) → is_some o ≡ true → (x : T) × (o ≡ Some x)
  some_of (Some x) e = (x, refl)
  some_of None e = let z : ◌≡◌ {A = ℕ} 0 1 = cc in absurd (omega arith)

  module _ (table : List (Slot T)) (s : Slots T) (h : List (Event T)) (k : Kept table s h) where
    comes : (id : Id) → next_id s ≡ Some id → Coming s.slots s.used (λ i. removals i h) (freed h) id
    comes id e = coming s.slots s.used s.len (λ i. removals i h) k.chain id e

    there_in : (i : ℕ) → i < s.used → is_some (slice_get s.slots i) ≡ true
    there_in i b = let n = k.size in let u = k.bounded in let l : i < length s.slots = omega (arith, b, n, u) in grind (arith, common_steps, gets)

    slot_of : (i : ℕ) → i < s.used → (o : Option (Slot T)) → slice_get s.slots i ≡ o → (slot : Slot T) × (slice_get s.slots i ≡ Some slot)
    slot_of i b (Some slot) e = (slot, e)
    slot_of i b None e =
        let t = there_in i b in
        let f : is_some (slice_get s.slots i) ≡ false = ap is_some e in
        let z : ◌≡◌ {A = ℕ} 0 1 = cc in absurd (omega arith)

    once_in : (id : Id) → next_id s ≡ Some id → given id h ≡ true → ⊥
    once_in id e g =
        let o = k.old id g in
        ⊎_elim
        (λ (p : Among id.index (freed h) × ((slot : Slot T) → slice_get s.slots id.index ≡ Some slot → slot.generation ≡ id.generation)).
        let q = slot_of id.index o.0 (slice_get s.slots id.index) refl in
        let l = (o.1 q.0 q.1).1 p.0 in
        let m = p.1 q.0 q.1 in
        omega (arith, l, m))
        (λ (p : id.index ≡ s.used). omega (arith, o.0, p))
        (comes id e).which

    apart_in : (a b : Id) → is_some (found s a) ≡ true → is_some (found s b) ≡ true → a.index ≡ b.index → a ≡ b
    apart_in a b ea eb q =
        let pa = some_of (found s a) ea in
        let pb = some_of (found s b) eb in
        let ha = held s a pa.0 pa.1 in
        let hb = held s b pb.0 pb.1 in
        let c : Some ha.slot ≡ Some hb.slot = sym ha.here ∙ ap (slice_get s.slots) q ∙ hb.here in
        let d : ha.slot.generation ≡ hb.slot.generation = cc in
        let g : a.generation ≡ b.generation = sym ha.whole ∙ d ∙ hb.whole in
        let r : id_of a.index a.generation ≡ id_of b.index b.generation = rw (q, g) refl in
        r

    retired_in : (id next : Id) → spent id.index h ≡ true → next_id s ≡ Some next → next.index ≡ id.index → ⊥
    retired_in id next t e q =
        let r = k.spends id.index t in
        ⊎_elim
        (λ (p : Among next.index (freed h) × ((slot : Slot T) → slice_get s.slots next.index ≡ Some slot → slot.generation ≡ next.generation)).
        r.1 (subst (λ i. Among i (freed h)) q p.0))
        (λ (p : next.index ≡ s.used). omega (arith, r.0, p, q))
        (comes next e).which

    vacant_in : (id : Id) → Among id.index (freed h) → found s id ≡ None
    vacant_in id a =
        let p = chain_at s.slots s.used (λ i. removals i h) k.chain id.index a in
        let e = p.1.here in
        let v = p.1.empty in
        grind (arith, nat_tests)

    named_by : (i : ℕ) (id : Id) → id_at s i ≡ Some id → (o : Option (Slot T)) → slice_get s.slots i ≡ o → (id.index ≡ i) × (is_some (found s id) ≡ true)
    named_by i id e (Some slot) w = (grind (arith, nat_tests), grind (arith, nat_tests))
    named_by i id e None w = let z : ◌≡◌ {A = ℕ} 0 1 = grind (arith, nat_tests) in absurd (omega arith)

    naming_by : (id : Id) (x : T) → Held s.slots s.used id x → id_at s id.index ≡ Some id
    naming_by id x d = let a = d.here in let b = d.below in let c = d.whole in let v = d.value in grind (arith, nat_tests)

    lawful : Lawful table s h
    lawful = record {
      resolves = k.resolves;
      gone = λ id x later earlier e. k.resolves id ∙ (k.gone id (subst (λ (z : List (Event T)). taken id z ≡ true) (sym e) (taken_in id x later earlier))).0;
      once = λ id e. ⊎_elim (λ g. absurd (once_in id e g)) (λ g. g) (cases_Bool (given id h));
      apart = apart_in;
      order = in_order table s.slots s.used s.len h k.chain k.size k.used;
      refused = λ e. none_due (freed h) (min (length table) 65536) h (sym (in_order table s.slots s.used s.len h k.chain k.size k.used) ∙ e);
      exact = λ e b. in_order table s.slots s.used s.len h k.chain k.size k.used ∙ no_due (freed h) (min (length table) 65536) h e b;
      retired = λ id next x later earlier e g n q. retired_in id next (subst (λ (z : List (Event T)). spent id.index z ≡ true) (sym e) (spent_in id x later earlier g)) n q;
      links = chain_links s.slots s.used (λ i. removals i h) k.chain;
      inside = λ i a. let p = chain_at s.slots s.used (λ j. removals j h) k.chain i a in let b = p.1.below in let u = k.used in omega (arith, b, u);
      distinct = chain_apart s.slots s.used (λ i. removals i h) k.chain;
      vacant = vacant_in;
      used = k.used;
      bounded = let b = k.bounded in let u = k.used in omega (arith, b, u);
      count = k.count;
      balance = k.balance;
      few = let c = k.count in let m = entries_few s.used s.slots in let u = k.used in omega (arith, c, m, u);
      some = λ id e.
          let p = some_of (found s id) e in
          let d = held s id p.0 p.1 in
          let m = entries_some s.used s.slots id.index d.slot p.0 d.below d.here d.value in
          let c = k.count in
          omega (arith, m, c);
      there = there_in;
      named = λ i id e. named_by i id e (slice_get s.slots i) refl;
      naming = λ id e. let p = some_of (found s id) e in naming_by id p.0 (held s id p.0 p.1);
    }

pub slab_laws : (T : Type 0) → SlabLaws T
slab_laws T table s h r = lawful table s h (kept_all table r)
