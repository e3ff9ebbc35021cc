-- What a ledger was told, and the words of its laws over that alone.
use Rattle.std.specs.Prelude.{ℕ, ◌+◌, Bool, true, false, cond, not, ◌&&◌, ◌||◌, List, [], ◌∷◌, is_some, Some, None, Option, ◌==◌, nat_lt}
use Rattle.records.specs.declared.mode.WriteAtState.{WriteAtState}
use Rattle.records.specs.declared.mode.WriteAtState.TheVariants.{Writing, WritingSync, WritingBeforeSync, Syncing}
use Rattle.records.specs.declared.outcome.Outcome.{Outcome}
use Rattle.records.specs.declared.outcome.Outcome.TheVariants.{Ok, Timeout, SendFailed, RecvFailed, ReadFailed, WriteFailed, BlobInsufficientLength, Closed, Io, LedgerSpent}

-- a call that changes a ledger, with what it answered; a record has the newest first
pub data Telling : Type 0 where
  refreshed : (row : ℕ) → Telling
  wrote : (row : ℕ) → (state : WriteAtState) → (result answer : Outcome) → Telling
  sync_ended : (row seen : ℕ) → (answer : Outcome) → Telling
  sync_failed : (row : ℕ) → (result : Outcome) → Telling

abbrev pub row_of : Telling → ℕ
row_of (refreshed j) = j
row_of (wrote j state result answer) = j
row_of (sync_ended j seen answer) = j
row_of (sync_failed j result) = j

abbrev pub is_ok : Outcome → Bool
is_ok Ok = true
is_ok Timeout = false
is_ok SendFailed = false
is_ok RecvFailed = false
is_ok ReadFailed = false
is_ok WriteFailed = false
is_ok BlobInsufficientLength = false
is_ok Closed = false
is_ok (Io code) = false
is_ok LedgerSpent = false

-- the device's error
abbrev pub io_in : Outcome → Option Outcome
io_in Ok = None
io_in Timeout = None
io_in SendFailed = None
io_in RecvFailed = None
io_in ReadFailed = None
io_in WriteFailed = None
io_in BlobInsufficientLength = None
io_in Closed = None
io_in (Io code) = Some (Io code)
io_in LedgerSpent = None

-- a write in this state ends with a sync of its own
abbrev pub is_durable : WriteAtState → Bool
is_durable Writing = false
is_durable WritingSync = true
is_durable WritingBeforeSync = false
is_durable Syncing = true

-- what one telling says of row i

abbrev pub freshens : ℕ → Telling → Bool
freshens i (refreshed j) = i == j
freshens i (wrote j state result answer) = false
freshens i (sync_ended j seen answer) = false
freshens i (sync_failed j result) = false

-- a counted write: not durable by itself, or told with another result than Ok
abbrev pub counts : ℕ → Telling → Bool
counts i (refreshed j) = false
counts i (wrote j state result answer) = i == j && (not (is_durable state) || not (is_ok result))
counts i (sync_ended j seen answer) = false
counts i (sync_failed j result) = false

-- Io in WritingSync or Syncing, or of a failed sync
abbrev pub io_told : ℕ → Telling → Option Outcome
io_told i (refreshed j) = None
io_told i (wrote j state result answer) = cond (i == j && is_durable state) (io_in result) None
io_told i (sync_ended j seen answer) = None
io_told i (sync_failed j result) = cond (i == j) (io_in result) None

-- what a record says of row i

abbrev pub ever_freshened : ℕ → List Telling → Bool
ever_freshened i [] = false
ever_freshened i (t ∷ r) = freshens i t || ever_freshened i r

-- some call was on the row
abbrev pub ever_told : ℕ → List Telling → Bool
ever_told i [] = false
ever_told i (t ∷ r) = i == row_of t || ever_told i r

-- and since the row was last made fresh:

-- the number of writes counted
abbrev pub writes_counted : ℕ → List Telling → ℕ
writes_counted i [] = 0
writes_counted i (t ∷ r) = cond (freshens i t) 0 (cond (counts i t) 1 0 + writes_counted i r)

-- whether Io was told
abbrev pub io_ever_told : ℕ → List Telling → Bool
io_ever_told i [] = false
io_ever_told i (t ∷ r) = cond (freshens i t) false (is_some (io_told i t) || io_ever_told i r)

abbrev pub earlier : Option Outcome → Option Outcome → Option Outcome
earlier (Some error) later = Some error
earlier None later = later

-- more writes are counted than the most
abbrev pub spent : (most writes : ℕ) → Option Outcome
spent most writes = cond (nat_lt most writes) (Some LedgerSpent) None

-- the first error: the first Io told, or LedgerSpent, whichever came first; Io where one call brings both
abbrev pub first_told : (most : ℕ) → ℕ → List Telling → Option Outcome
first_told most i [] = None
first_told most i (t ∷ r) = cond (freshens i t) None
    (earlier (first_told most i r) (earlier (io_told i t) (spent most (writes_counted i (t ∷ r)))))
