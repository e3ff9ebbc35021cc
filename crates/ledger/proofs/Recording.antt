-- The laws, by induction on what a ledger was told.
use Rattle.std.proofs.Common.{◌≡◌, ℕ, ◌+◌, ◌<◌, ◌≤◌, Bool, true, false, cond, eqb, ltb, List, [], ◌∷◌, length, is_some, Some, None, sym, refl, ap, ◌∙◌, subst, arith}
use Rattle.std.proofs.lemmas.Bool.{eqb-true, eqb-false, ltb-true, ltb-false, or_parts}
use Rattle.std.specs.declared.result.Result.TheVariants as result
use Rattle.records.specs.declared.outcome.Outcome.{Outcome}
use Rattle.records.specs.declared.outcome.Outcome.TheVariants.{Ok}
use Rattle.ledger.specs.declared.row.Row.{Row}
use Rattle.ledger.specs.Meaning.{fresh_row, row_at, on_row, ended_row, completed_at, taint_at, sync_wanted_at, sync_wanted, sync_answer}
use Rattle.ledger.specs.Notions.{Telling, Telling.wrote, Telling.sync_ended, row_of, freshens, counts, ever_freshened, ever_told, writes_counted}
use Rattle.ledger.specs.Laws.{Told, Told.begins, Told.goes_on, does, Answered, LedgerLaws, covered_at}
use Rattle.ledger.proofs.Changing.{Fits, fits_same, fits_other, row_same, row_other, row_past, row_kept, as_many, told_as, taint_kept, covered_kept, completed_kept, taint_ok, first_fair, does_fair, untainted, nothing_left, passed_state, passed_result, durable_answer}

-- the row of one number, after one call

fits_next : (most i : ℕ) (t : Telling) (r : List Telling) (rows rows' : List Row) (b : Bool) → eqb i (row_of t) ≡ b → rows' ≡ on_row rows (row_of t) (does most t) → i < length rows →
    (ever_freshened i r ≡ true → Fits most i r (row_at rows i)) → ever_freshened i (t ∷ r) ≡ true → Fits most i (t ∷ r) (row_at rows' i)
fits_next most i t r rows rows' true is e h before again =
    let p = ap (λ rs. row_at rs i) e ∙ row_same rows (row_of t) i (does most t) (eqb-true i (row_of t) is) h in
    subst (Fits most i (t ∷ r)) (sym p) (fits_same most i t r (row_at rows i) is before again)
fits_next most i t r rows rows' false is e h before again =
    let p = ap (λ rs. row_at rs i) e ∙ row_other rows (row_of t) i (does most t) (eqb-false i (row_of t) is) in
    subst (Fits most i (t ∷ r)) (sym p) (fits_other most i t r (row_at rows i) is before again)

-- no write counted, in the newest call and before
no_counts : (b : Bool) (w : ℕ) → cond b 1 0 + w ≡ 0 → (b ≡ false) × (w ≡ 0)
no_counts true w e = absurd (omega arith)
no_counts false w e = (refl, omega arith)

module _ {Λ : Type 0} (rows : Λ → List Row) (most : ℕ) where
  many : {from : Λ} {r : List Telling} {l : Λ} → Told rows most from r l → length (rows l) ≡ length (rows from)
  many (begins l e) = ap (λ k. length (rows k)) e
  many (goes_on r t l l' before a e) = ap length e ∙ as_many (rows l) (row_of t) (does most t) ∙ many before

  fits : {from : Λ} {r : List Telling} {l : Λ} (i : ℕ) → Told rows most from r l → i < length (rows l) → ever_freshened i r ≡ true → Fits most i r (row_at (rows l) i)
  fits i (begins l e) h again = let z : ◌≡◌ {A = ℕ} 0 1 = cc in absurd (omega arith)
  fits i (goes_on r t l l' before a e) h again =
      let k : i < length (rows l) = subst (λ n. i < n) (ap length e ∙ as_many (rows l) (row_of t) (does most t)) h in
      fits_next most i t r (rows l) (rows l') (eqb i (row_of t)) refl e k (fits i before k) again

  stays : {from : Λ} {r : List Telling} {l : Λ} (i : ℕ) (error : Outcome) → Told rows most from r l → ever_freshened i r ≡ false → taint_at (rows from) i ≡ Some error → taint_at (rows l) i ≡ Some error
  stays i error (begins l e) f h = ap (λ k. taint_at (rows k) i) e ∙ h
  stays i error (goes_on r t l l' before a e) f h =
      let p = or_parts (freshens i t) (ever_freshened i r) f in
      rw e (row_kept (λ row. row.taint ≡ Some error) (rows l) (row_of t) i (does most t) (taint_kept most i t error (row_at (rows l) i) p.0) (stays i error before p.1 h))

  grows : {from : Λ} {r : List Telling} {l : Λ} (i n : ℕ) → Told rows most from r l → ever_freshened i r ≡ false → n ≤ covered_at (rows from) i → n ≤ covered_at (rows l) i
  grows i n (begins l e) f h = subst (λ k. n ≤ covered_at (rows k) i) (sym e) h
  grows i n (goes_on r t l l' before a e) f h =
      let p = or_parts (freshens i t) (ever_freshened i r) f in
      rw e (row_kept (λ row. n ≤ row.covered) (rows l) (row_of t) i (does most t) (covered_kept most i t n (row_at (rows l) i) p.0) (grows i n before p.1 h))

  quiet : {from : Λ} {r : List Telling} {l : Λ} (i n : ℕ) → Told rows most from r l → writes_counted i r ≡ 0 → ever_freshened i r ≡ false → completed_at (rows from) i ≡ n → completed_at (rows l) i ≡ n
  quiet i n (begins l e) w f h = ap (λ k. completed_at (rows k) i) e ∙ h
  quiet i n (goes_on r t l l' before a e) w f h =
      let p = or_parts (freshens i t) (ever_freshened i r) f in
      let q = no_counts (counts i t) (writes_counted i r) (rw p.0 at w) in
      rw e (row_kept (λ row. row.completed ≡ n) (rows l) (row_of t) i (does most t) (completed_kept most i t n (row_at (rows l) i) p.0 q.0) (quiet i n before q.1 p.1 h))

  others : {from : Λ} {r : List Telling} {l : Λ} (i : ℕ) → Told rows most from r l → ever_told i r ≡ false → row_at (rows l) i ≡ row_at (rows from) i
  others i (begins l e) f = ap (λ k. row_at (rows k) i) e
  others i (goes_on r t l l' before a e) f =
      let p = or_parts (eqb i (row_of t)) (ever_told i r) f in
      ap (λ rs. row_at rs i) e ∙ row_other (rows l) (row_of t) i (does most t) (eqb-false i (row_of t) p.0) ∙ others i before p.1

  under : {from : Λ} {r : List Telling} {l : Λ} (i : ℕ) (there : Bool) → ltb i (length (rows l)) ≡ there → Told rows most from r l → ever_freshened i r ≡ true →
      covered_at (rows l) i ≤ completed_at (rows l) i
  under i true h told f = (fits i told (ltb-true i (length (rows _)) h) f).covered
  under {l = l} i false h told f = subst (λ (row : Row). row.covered ≤ row.completed) (sym (row_past (rows l) i (ltb-false i (length (rows l)) h))) (omega arith)

  lacking : {from : Λ} {r : List Telling} {l : Λ} (i : ℕ) → Told rows most from r l → length (rows from) ≤ i → row_at (rows l) i ≡ fresh_row
  lacking {l = l} i told h = let e = many told in row_past (rows l) i (omega arith)

  -- the newest call, and the ledger before it
  record Newest (from : Λ) (t : Telling) (r : List Telling) (l' : Λ) : Type 0 where
    last : Λ
    told : Told rows most from r last
    answers : Answered t (row_at (rows last) (row_of t))
    after : rows l' ≡ on_row (rows last) (row_of t) (does most t)

  newest : {from : Λ} {q : List Telling} {l : Λ} (t : Telling) (r : List Telling) → Told rows most from q l → q ≡ t ∷ r → Newest from t r l
  newest t r (begins l e) p = let z : ◌≡◌ {A = ℕ} 0 1 = cc in absurd (omega arith)
  newest {from = from} t r (goes_on r' t' l l' before a e) p =
      let u : t' ≡ t = cc in
      let v : r' ≡ r = cc in
      subst (λ x. Newest from x r l') u (subst (λ y. Newest from t' y l') v (record { last = l; told = before; answers = a; after = e }))

  untold : {from : Λ} {q : List Telling} {l : Λ} → Told rows most from q l → q ≡ [] → l ≡ from
  untold (begins l e) p = e
  untold (goes_on r t l l' before a e) p = let z : ◌≡◌ {A = ℕ} 0 1 = cc in absurd (omega arith)

  fair : {from : Λ} {r : List Telling} {l : Λ} (i : ℕ) → Told rows most from r l → taint_ok (taint_at (rows from) i) ≡ false → taint_ok (taint_at (rows l) i) ≡ false
  fair i (begins l e) h = ap (λ k. taint_ok (taint_at (rows k) i)) e ∙ h
  fair i (goes_on r t l l' before a e) h =
      rw e (row_kept (λ row. taint_ok row.taint ≡ false) (rows l) (row_of t) i (does most t) (λ s. does_fair most t (row_at (rows l) i)) (fair i before h))

  fair_once : {from : Λ} {r : List Telling} {l : Λ} (i : ℕ) (there : Bool) → ltb i (length (rows l)) ≡ there → Told rows most from r l → ever_freshened i r ≡ true →
      taint_ok (taint_at (rows l) i) ≡ false
  fair_once {r = r} i true h told f = ap taint_ok (fits i told (ltb-true i (length (rows _)) h) f).taint ∙ first_fair most i r
  fair_once {l = l} i false h told f = ap (λ row. taint_ok row.taint) (row_past (rows l) i (ltb-false i (length (rows l)) h))

  -- the sync's own call
  wants_none : (i seen : ℕ) (l l' : Λ) (there : Bool) → ltb i (length (rows l)) ≡ there → rows l' ≡ on_row (rows l) i (ended_row seen) →
      taint_at (rows l) i ≡ None → completed_at (rows l) i ≡ seen → sync_wanted_at (rows l') i ≡ result.Ok false
  wants_none i seen l l' true h e t c =
      ap (λ rs. sync_wanted_at rs i) e ∙ ap sync_wanted (row_same (rows l) i i (ended_row seen) refl (ltb-true i (length (rows l)) h)) ∙ nothing_left seen (row_at (rows l) i) t c
  wants_none i seen l l' false h e t c =
      let k : length (rows l) ≤ i = ltb-false i (length (rows l)) h in
      let m : length (rows l') ≡ length (rows l) = ap length e ∙ as_many (rows l) i (ended_row seen) in
      ap sync_wanted (row_past (rows l') i (omega arith))

  synced : {origin from l : Λ} {earlier r : List Telling} (i : ℕ) → Told rows most origin earlier from → ever_freshened i earlier ≡ true →
      Told rows most from (sync_ended i (completed_at (rows from) i) Ok ∷ r) l → writes_counted i r ≡ 0 → ever_freshened i r ≡ false → sync_wanted_at (rows l) i ≡ result.Ok false
  synced {from = from} {l = l} {r = r} i first f told w g =
      let n = newest (sync_ended i (completed_at (rows from) i) Ok) r told refl in
      let ok = fair i n.told (fair_once i (ltb i (length (rows from))) refl first f) in
      wants_none i (completed_at (rows from) i) n.last l (ltb i (length (rows n.last))) refl n.after
      (untainted (taint_at (rows n.last) i) ok n.answers) (quiet i (completed_at (rows from) i) n.told w g refl)

  -- one call

  answered : {from l : Λ} (t : Telling) → Told rows most from (t ∷ []) l → Answered t (row_at (rows from) (row_of t))
  answered {from = from} {l = l} t told =
      let n = newest t [] told refl in
      subst (λ k. Answered t (row_at (rows k) (row_of t))) (untold n.told refl) n.answers

  taint_or_ok : (i : ℕ) (from : Λ) (answer : Outcome) → answer ≡ sync_answer (taint_at (rows from) i) →
      ((error : Outcome) → taint_at (rows from) i ≡ Some error → answer ≡ error) × (taint_at (rows from) i ≡ None → answer ≡ Ok)
  taint_or_ok i from answer a = (λ error e. a ∙ ap sync_answer e, λ e. a ∙ ap sync_answer e)

  pub ledger_laws : LedgerLaws rows most
  ledger_laws = record {
    completed = λ from l r i told h f. (fits i told h f).completed;
    tainted = λ from l r i told h f. ap is_some (fits i told h f).taint ∙ told_as most i r;
    first = λ from l r i told h f. (fits i told h f).taint;
    stays = λ from l r i error told f h. stays i error told f h;
    covered = λ from l r i told f. under i (ltb i (length (rows l))) refl told f;
    grows = λ from l r i told f. grows i (covered_at (rows from) i) told f (omega arith);
    others = λ from l r i told f. others i told f;
    many = λ from l r told. many told;
    lacking = λ from l r i told h. let e = lacking i told h in (ap (λ row. row.completed) e, ap (λ row. row.taint) e, ap sync_wanted e);
    synced = λ origin from l earlier r i first f told w g. synced i first f told w g;
    passed_on = λ from l i state result answer told. (
      λ d. answered (wrote i state result answer) told ∙ passed_state (taint_at (rows from) i) state result d,
      λ d. answered (wrote i state result answer) told ∙ passed_result (taint_at (rows from) i) state result d,
    );
    durably = λ from l i state answer told d. taint_or_ok i from answer (answered (wrote i state Ok answer) told ∙ durable_answer (taint_at (rows from) i) state d);
    ended = λ from l i seen answer told. taint_or_ok i from answer (answered (sync_ended i seen answer) told);
  }
