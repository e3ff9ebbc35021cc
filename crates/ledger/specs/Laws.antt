-- The laws of a ledger, over every record of what it was told.
use Rattle.std.specs.Prelude.{◌≡◌, ℕ, ◌<◌, ◌≤◌, min, true, false, ◌||◌, List, [], ◌∷◌, length, is_some, Some, None, nat_lt}
use Rattle.std.specs.declared.result.Result.TheVariants as result
use Rattle.records.specs.declared.mode.WriteAtState.{WriteAtState}
use Rattle.records.specs.declared.outcome.Outcome.{Outcome}
use Rattle.records.specs.declared.outcome.Outcome.TheVariants.{Ok}
use Rattle.ledger.specs.declared.row.Row.{Row}
use Rattle.ledger.specs.Meaning.{row_at, on_row, fresh_row, wrote_row, write_answer, ended_row, sync_answer, failed_row, completed_at, taint_at, sync_wanted_at}
use Rattle.ledger.specs.Notions.{Telling, Telling.refreshed, Telling.wrote, Telling.sync_ended, Telling.sync_failed, row_of, is_ok, is_durable, ever_freshened, ever_told, writes_counted, io_ever_told, first_told}

-- what a call does to its row, as its contract says
abbrev pub does : (most : ℕ) → Telling → Row → Row
does most (refreshed j) row = fresh_row
does most (wrote j state result answer) row = wrote_row most state result row
does most (sync_ended j seen answer) row = ended_row seen row
does most (sync_failed j result) row = failed_row result row

-- and what it answers
abbrev pub Answered : Telling → Row → Type 0
Answered (refreshed j) row = Unit {0}
Answered (wrote j state result answer) row = answer ≡ write_answer row.taint state result
Answered (sync_ended j seen answer) row = answer ≡ sync_answer row.taint
Answered (sync_failed j result) row = Unit {0}

-- a ledger that comes of another one by these calls; any ledger may be the first
pub data Told {Λ : Type 0} (rows : Λ → List Row) (most : ℕ) (from : Λ) : List Telling → Λ → Type 0 where
  begins : (l : Λ) → l ≡ from → Told rows most from [] l
  goes_on : (r : List Telling) (t : Telling) (l l' : Λ) → Told rows most from r l →
      Answered t (row_at (rows l) (row_of t)) → rows l' ≡ on_row (rows l) (row_of t) (does most t) →
      Told rows most from (t ∷ r) l'

abbrev pub covered_at : List Row → ℕ → ℕ
covered_at rows i = (row_at rows i).covered

pub record LedgerLaws {Λ : Type 0} (rows : Λ → List Row) (most : ℕ) : Type 0 where
  -- of a row that the ledger has, begin_sync answers the writes counted since it was made fresh, up to the most
  pub completed : (from l : Λ) (r : List Telling) (i : ℕ) → Told rows most from r l → i < length (rows l) → ever_freshened i r ≡ true →
      completed_at (rows l) i ≡ min (writes_counted i r) most
  -- it is tainted exactly when since then Io was told or more writes were counted than the most
  pub tainted : (from l : Λ) (r : List Telling) (i : ℕ) → Told rows most from r l → i < length (rows l) → ever_freshened i r ≡ true →
      is_some (taint_at (rows l) i) ≡ (io_ever_told i r || nat_lt most (writes_counted i r))
  -- its taint is the first of these errors
  pub first : (from l : Λ) (r : List Telling) (i : ℕ) → Told rows most from r l → i < length (rows l) → ever_freshened i r ≡ true →
      taint_at (rows l) i ≡ first_told most i r
  -- a taint stays until the row is made fresh
  pub stays : (from l : Λ) (r : List Telling) (i : ℕ) (error : Outcome) → Told rows most from r l → ever_freshened i r ≡ false →
      taint_at (rows from) i ≡ Some error → taint_at (rows l) i ≡ Some error
  -- of a row made fresh, no more writes are covered than completed
  pub covered : (from l : Λ) (r : List Telling) (i : ℕ) → Told rows most from r l → ever_freshened i r ≡ true →
      covered_at (rows l) i ≤ completed_at (rows l) i
  -- covered writes stay covered until the row is made fresh
  pub grows : (from l : Λ) (r : List Telling) (i : ℕ) → Told rows most from r l → ever_freshened i r ≡ false →
      covered_at (rows from) i ≤ covered_at (rows l) i
  -- calls on other rows leave a row as it is
  pub others : (from l : Λ) (r : List Telling) (i : ℕ) → Told rows most from r l → ever_told i r ≡ false →
      row_at (rows l) i ≡ row_at (rows from) i
  -- the number of rows never changes
  pub many : (from l : Λ) (r : List Telling) → Told rows most from r l → length (rows l) ≡ length (rows from)
  -- a row that the ledger lacks has no completed write and no taint, and needs no sync
  pub lacking : (from l : Λ) (r : List Telling) (i : ℕ) → Told rows most from r l → length (rows from) ≤ i →
      (completed_at (rows l) i ≡ 0) × (taint_at (rows l) i ≡ None) × (sync_wanted_at (rows l) i ≡ result.Ok false)
  -- of a row once made fresh: a sync that ends Ok with what begin_sync had answered leaves nothing to sync,
  -- where between the two no write of the row was counted and it was not made fresh again
  pub synced : (origin from l : Λ) (earlier r : List Telling) (i : ℕ) → Told rows most origin earlier from → ever_freshened i earlier ≡ true →
      Told rows most from (sync_ended i (completed_at (rows from) i) Ok ∷ r) l → writes_counted i r ≡ 0 → ever_freshened i r ≡ false →
      sync_wanted_at (rows l) i ≡ result.Ok false
  -- wrote answers the result that it was given, but for Ok in WritingSync and Syncing
  pub passed_on : (from l : Λ) (i : ℕ) (state : WriteAtState) (result answer : Outcome) → Told rows most from (wrote i state result answer ∷ []) l →
      (is_durable state ≡ false → answer ≡ result) × (is_ok result ≡ false → answer ≡ result)
  -- where it answers the taint of a tainted row, and Ok of another
  pub durably : (from l : Λ) (i : ℕ) (state : WriteAtState) (answer : Outcome) → Told rows most from (wrote i state Ok answer ∷ []) l → is_durable state ≡ true →
      ((error : Outcome) → taint_at (rows from) i ≡ Some error → answer ≡ error) × (taint_at (rows from) i ≡ None → answer ≡ Ok)
  -- end_sync answers the taint, else Ok
  pub ended : (from l : Λ) (i seen : ℕ) (answer : Outcome) → Told rows most from (sync_ended i seen answer ∷ []) l →
      ((error : Outcome) → taint_at (rows from) i ≡ Some error → answer ≡ error) × (taint_at (rows from) i ≡ None → answer ≡ Ok)
