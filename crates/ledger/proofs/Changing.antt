-- One call: which row it changes, and what that row says of the record then.
use Rattle.std.proofs.Common.{◌≡◌, ℕ, ◌+◌, ◌<◌, ◌≤◌, min, Bool, true, false, cond, not, ◌||◌, eqb, ltb, List, [], ◌∷◌, length, set, is_some, Some, None, Option, sym, refl, ap, ◌∙◌, subst, arith}
use Rattle.std.proofs.lemmas.List.{length-set}
use Rattle.std.proofs.lemmas.Option.{slice_get_past, gets}
use Rattle.std.proofs.lemmas.Grind.{common_steps}
use Rattle.std.specs.List.{slice_get}
use Rattle.std.proofs.lemmas.Bool.{eqb-true, eqb-false, ltb-true, ltb-false}
use Rattle.std.proofs.lemmas.Bool.Decides.{nat_tests}
use Rattle.std.specs.declared.result.Result.TheVariants as result
use Rattle.records.specs.declared.mode.WriteAtState.{WriteAtState}
use Rattle.records.specs.declared.outcome.Outcome.{Outcome}
use Rattle.records.specs.declared.outcome.Outcome.TheVariants.{Ok}
use Rattle.ledger.specs.declared.row.Row.{Row}
use Rattle.ledger.specs.Meaning.{fresh_row, row_or_fresh, row_at, on_row, io_error, with_taint, counted, counts_write, write_error, ended_by, ended_row, sync_answer, write_answer, sync_wanted}
use Rattle.ledger.specs.Notions.{Telling, Telling.refreshed, Telling.wrote, Telling.sync_ended, Telling.sync_failed, row_of, is_ok, io_in, is_durable, freshens, counts, io_told, ever_freshened, writes_counted, io_ever_told, earlier, spent, first_told}
use Rattle.ledger.specs.Laws.{does}

-- the row that a call changes

set_here : (rows : List Row) (i : ℕ) (row : Row) → i < length rows → slice_get (set rows i row) i ≡ Some row
set_here rows i row h = grind (arith, common_steps, gets)

pub row_same : (rows : List Row) (j i : ℕ) (f : Row → Row) → i ≡ j → i < length rows → row_at (on_row rows j f) i ≡ f (row_at rows i)
row_same rows j i f e h = rw (← e) (ap row_or_fresh (set_here rows i (f (row_at rows i)) h))

set_elsewhere : (rows : List Row) (j i : ℕ) (row : Row) → (i ≡ j → ⊥) → slice_get (set rows j row) i ≡ slice_get rows i
set_elsewhere rows j i row h = grind (arith, common_steps, gets)

pub row_other : (rows : List Row) (j i : ℕ) (f : Row → Row) → (i ≡ j → ⊥) → row_at (on_row rows j f) i ≡ row_at rows i
row_other rows j i f h = ap row_or_fresh (set_elsewhere rows j i (f (row_at rows j)) h)

pub row_past : (rows : List Row) (i : ℕ) → length rows ≤ i → row_at rows i ≡ fresh_row
row_past rows i h = ap row_or_fresh (slice_get_past rows i h)

pub as_many : (rows : List Row) (j : ℕ) (f : Row → Row) → length (on_row rows j f) ≡ length rows
as_many rows j f = length-set rows j (f (row_at rows j))

-- a property of a row that the calls on it keep
kept_if : (P : Row → Type 0) (rows : List Row) (j i : ℕ) (f : Row → Row) (same there : Bool) → eqb i j ≡ same → ltb i (length rows) ≡ there →
    (i ≡ j → P (row_at rows i) → P (f (row_at rows i))) → P (row_at rows i) → P (row_at (on_row rows j f) i)
kept_if P rows j i f false there s t keeps p = subst P (sym (row_other rows j i f (eqb-false i j s))) p
kept_if P rows j i f true true s t keeps p =
    subst P (sym (row_same rows j i f (eqb-true i j s) (ltb-true i (length rows) t))) (keeps (eqb-true i j s) p)
kept_if P rows j i f true false s t keeps p =
    let h : length rows ≤ i = ltb-false i (length rows) t in
    let k : length (on_row rows j f) ≤ i = omega (arith, as_many rows j f) in
    subst P (row_past rows i h ∙ sym (row_past (on_row rows j f) i k)) p

pub row_kept : (P : Row → Type 0) (rows : List Row) (j i : ℕ) (f : Row → Row) →
    (i ≡ j → P (row_at rows i) → P (f (row_at rows i))) → P (row_at rows i) → P (row_at (on_row rows j f) i)
row_kept P rows j i f keeps p = kept_if P rows j i f (eqb i j) (ltb i (length rows)) refl refl keeps p

-- the same tests and errors in both sets of words

counts_as : (state : WriteAtState) (o : Outcome) → counts_write state o ≡ (not (is_durable state) || not (is_ok o))
counts_as state o = grind (arith, nat_tests)

earlier_none : (taint : Option Outcome) → taint ≡ earlier taint None
earlier_none taint = grind (arith, nat_tests)

io_as : (taint : Option Outcome) (o : Outcome) → io_error taint o ≡ earlier taint (io_in o)
io_as taint o = grind (arith, nat_tests)

write_as : (taint : Option Outcome) (state : WriteAtState) (o : Outcome) → write_error taint state o ≡ earlier taint (cond (is_durable state) (io_in o) None)
write_as taint state o = grind (arith, nat_tests)

-- an error was told exactly when Io was, or more writes were counted than the most

told_step : (b c : Bool) (f e : Option Outcome) (h : Bool) (most w : ℕ) → is_some f ≡ (h || ltb most w) →
    is_some (cond b None (earlier f (earlier e (spent most (cond b 0 (cond c 1 0 + w)))))) ≡ (cond b false (is_some e || h) || ltb most (cond b 0 (cond c 1 0 + w)))
told_step b c f e h most w is = grind (arith, nat_tests)

pub told_as : (most i : ℕ) (r : List Telling) → is_some (first_told most i r) ≡ (io_ever_told i r || ltb most (writes_counted i r))
told_as most i [] = grind (arith, nat_tests)
told_as most i (t ∷ r) = told_step (freshens i t) (counts i t) (first_told most i r) (io_told i t) (io_ever_told i r) most (writes_counted i r) (told_as most i r)

-- a row that says what was told of it

pub record Fits (most i : ℕ) (r : List Telling) (row : Row) : Type 0 where
  pub completed : row.completed ≡ min (writes_counted i r) most
  pub taint : row.taint ≡ first_told most i r
  pub covered : row.covered ≤ row.completed

-- after a count or none, and an error or none
wrote_completed : (b : Bool) (most w : ℕ) (row : Row) (taint : Option Outcome) → row.completed ≡ min w most →
    (cond b (counted most (with_taint row taint)) (with_taint row taint)).completed ≡ min (cond b 1 0 + w) most
wrote_completed b most w row taint c = grind (arith, nat_tests)

wrote_taint : (b h : Bool) (most w : ℕ) (row : Row) (f e : Option Outcome) → row.completed ≡ min w most → is_some f ≡ (h || ltb most w) →
    (cond b (counted most (with_taint row (earlier f e))) (with_taint row (earlier f e))).taint ≡ earlier f (earlier e (spent most (cond b 1 0 + w)))
wrote_taint b h most w row f e c is = grind (arith, nat_tests)

wrote_covered : (b : Bool) (most : ℕ) (row : Row) (taint : Option Outcome) → row.covered ≤ row.completed →
    (cond b (counted most (with_taint row taint)) (with_taint row taint)).covered ≤ (cond b (counted most (with_taint row taint)) (with_taint row taint)).completed
wrote_covered b most row taint c = grind (arith, nat_tests)

-- a call that leaves the count, and tells an error or none
same_completed : (most w n : ℕ) → n ≡ min w most → n ≡ min (0 + w) most
same_completed most w n c = omega arith

same_taint : (h : Bool) (most w : ℕ) (f e : Option Outcome) → is_some f ≡ (h || ltb most w) → earlier f e ≡ earlier f (earlier e (spent most (0 + w)))
same_taint h most w f e is = grind (arith, nat_tests)

ended_completed : (taint : Option Outcome) (seen : ℕ) (row : Row) → (ended_by taint seen row).completed ≡ row.completed
ended_completed taint seen row = grind (arith, nat_tests)

ended_taint : (taint : Option Outcome) (seen : ℕ) (row : Row) → (ended_by taint seen row).taint ≡ row.taint
ended_taint taint seen row = grind (arith, nat_tests)

ended_under : (taint : Option Outcome) (seen : ℕ) (row : Row) → row.covered ≤ row.completed → (ended_by taint seen row).covered ≤ row.completed
ended_under taint seen row below = grind (arith, nat_tests)

still_taint : (most i : ℕ) (r : List Telling) (row : Row) → Fits most i r row → row.taint ≡ earlier (first_told most i r) (earlier None (spent most (0 + writes_counted i r)))
still_taint most i r row old =
    old.taint ∙ earlier_none (first_told most i r) ∙ same_taint (io_ever_told i r) most (writes_counted i r) (first_told most i r) None (told_as most i r)

-- a call on the row
pub fits_same : (most i : ℕ) (t : Telling) (r : List Telling) (row : Row) → eqb i (row_of t) ≡ true → (ever_freshened i r ≡ true → Fits most i r row) →
    ever_freshened i (t ∷ r) ≡ true → Fits most i (t ∷ r) (does most t row)
fits_same most i (refreshed j) r row is before again = record { completed = rw is (omega arith); taint = rw is refl; covered = omega arith }
fits_same most i (wrote j state result answer) r row is before again =
    let old = before again in
    record {
      completed = rw (is, counts_as state result) (wrote_completed (not (is_durable state) || not (is_ok result)) most (writes_counted i r) row (write_error row.taint state result) old.completed);
      taint = rw (is, counts_as state result, write_as row.taint state result, old.taint)
          (wrote_taint (not (is_durable state) || not (is_ok result)) (io_ever_told i r) most (writes_counted i r) row (first_told most i r) (cond (is_durable state) (io_in result) None) old.completed (told_as most i r));
      covered = wrote_covered (counts_write state result) most row (write_error row.taint state result) old.covered;
    }
fits_same most i (sync_ended j seen answer) r row is before again =
    let old = before again in
    record {
      completed = ended_completed row.taint seen row ∙ same_completed most (writes_counted i r) row.completed old.completed;
      taint = ended_taint row.taint seen row ∙ still_taint most i r row old;
      covered = rw (ended_completed row.taint seen row) (ended_under row.taint seen row old.covered);
    }
fits_same most i (sync_failed j result) r row is before again =
    let old = before again in
    record {
      completed = same_completed most (writes_counted i r) row.completed old.completed;
      taint = rw (is, io_as row.taint result, old.taint) (same_taint (io_ever_told i r) most (writes_counted i r) (first_told most i r) (io_in result) (told_as most i r));
      covered = old.covered;
    }

-- a call on another row says nothing of this one
told_elsewhere : (i : ℕ) (t : Telling) → eqb i (row_of t) ≡ false → (freshens i t ≡ false) × (counts i t ≡ false) × (io_told i t ≡ None)
told_elsewhere i t is = grind (arith, nat_tests)

pub fits_other : (most i : ℕ) (t : Telling) (r : List Telling) (row : Row) → eqb i (row_of t) ≡ false → (ever_freshened i r ≡ true → Fits most i r row) →
    ever_freshened i (t ∷ r) ≡ true → Fits most i (t ∷ r) row
fits_other most i t r row is before again =
    let q = told_elsewhere i t is in
    let old = before (rw q.0 at again) in
    record {
      completed = rw (q.0, q.1) (same_completed most (writes_counted i r) row.completed old.completed);
      taint = rw (q.0, q.1, q.2) (still_taint most i r row old);
      covered = old.covered;
    }

-- what a call on a row leaves of it, unless it makes it fresh

pub taint_kept : (most i : ℕ) (t : Telling) (error : Outcome) (row : Row) → freshens i t ≡ false → i ≡ row_of t → row.taint ≡ Some error → (does most t row).taint ≡ Some error
taint_kept most i t error row stale same tainted = grind (arith, nat_tests)

pub covered_kept : (most i : ℕ) (t : Telling) (n : ℕ) (row : Row) → freshens i t ≡ false → i ≡ row_of t → n ≤ row.covered → n ≤ (does most t row).covered
covered_kept most i t n row stale same below = grind (arith, nat_tests)

pub completed_kept : (most i : ℕ) (t : Telling) (n : ℕ) (row : Row) → freshens i t ≡ false → counts i t ≡ false → i ≡ row_of t → row.completed ≡ n → (does most t row).completed ≡ n
completed_kept most i t n row stale uncounted same completed = grind (arith, nat_tests)

-- a taint is never Ok

abbrev pub taint_ok : Option Outcome → Bool
taint_ok None = false
taint_ok (Some error) = is_ok error

fair_step : (b : Bool) (f e : Option Outcome) (most w : ℕ) → taint_ok f ≡ false → taint_ok e ≡ false → taint_ok (cond b None (earlier f (earlier e (spent most w)))) ≡ false
fair_step b f e most w first told = grind (arith, nat_tests)

told_fair : (i : ℕ) (t : Telling) → taint_ok (io_told i t) ≡ false
told_fair i t = grind (arith, nat_tests)

pub first_fair : (most i : ℕ) (r : List Telling) → taint_ok (first_told most i r) ≡ false
first_fair most i [] = refl
first_fair most i (t ∷ r) = fair_step (freshens i t) (first_told most i r) (io_told i t) most (writes_counted i (t ∷ r)) (first_fair most i r) (told_fair i t)

pub does_fair : (most : ℕ) (t : Telling) (row : Row) → taint_ok row.taint ≡ false → taint_ok (does most t row).taint ≡ false
does_fair most t row fair = grind (arith, nat_tests)

-- answers

pub untainted : (taint : Option Outcome) → taint_ok taint ≡ false → Ok ≡ sync_answer taint → taint ≡ None
untainted taint fair ok = grind (arith, nat_tests)

pub nothing_left : (seen : ℕ) (row : Row) → row.taint ≡ None → row.completed ≡ seen → sync_wanted (ended_row seen row) ≡ result.Ok false
nothing_left seen row t c = grind (arith, nat_tests)

pub passed_state : (taint : Option Outcome) (state : WriteAtState) (o : Outcome) → is_durable state ≡ false → write_answer taint state o ≡ o
passed_state taint state o plain = grind (arith, nat_tests)

pub passed_result : (taint : Option Outcome) (state : WriteAtState) (o : Outcome) → is_ok o ≡ false → write_answer taint state o ≡ o
passed_result taint state o failed = grind (arith, nat_tests)

pub durable_answer : (taint : Option Outcome) (state : WriteAtState) → is_durable state ≡ true → write_answer taint state Ok ≡ sync_answer taint
durable_answer taint state durable = grind (arith, nat_tests)
