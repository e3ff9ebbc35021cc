-- What a ledger's calls do to a row, and what they answer of it.
use Rattle.std.specs.Prelude.{ℕ, ◌+◌, min, max, Bool, true, false, cond, List, Some, None, Option, Result, nat_lt, slice_set}
use Rattle.std.specs.List.{slice_get}
use Rattle.std.specs.declared.result.Result.TheVariants as result
use Rattle.records.specs.declared.mode.WriteAtState.{WriteAtState}
use Rattle.records.specs.declared.mode.WriteAtState.TheVariants.{Writing, WritingSync, WritingBeforeSync, Syncing}
use Rattle.records.specs.declared.outcome.Outcome.{Outcome}
use Rattle.records.specs.declared.outcome.Outcome.TheVariants.{Ok, Timeout, SendFailed, RecvFailed, ReadFailed, WriteFailed, BlobInsufficientLength, Closed, Io, LedgerSpent}
use Rattle.ledger.specs.declared.row.Row.{Row}

-- nothing completed, nothing covered, no taint
abbrev pub fresh_row : Row
fresh_row = record { completed = 0; covered = 0; taint = None }

abbrev pub row_or_fresh : Option Row → Row
row_or_fresh (Some row) = row
row_or_fresh None = fresh_row

-- a row that the ledger lacks reads as fresh
abbrev pub row_at : List Row → ℕ → Row
row_at rows i = row_or_fresh (slice_get rows i)

-- a call changes one row, and none where the ledger lacks it
abbrev pub on_row : List Row → ℕ → (Row → Row) → List Row
on_row rows i f = slice_set rows i (f (row_at rows i))

-- a tainted row keeps its taint
abbrev pub first_error : Option Outcome → Outcome → Option Outcome
first_error (Some earlier) error = Some earlier
first_error None error = Some error

-- Io taints an untainted row, any other result does not
abbrev pub io_error : Option Outcome → Outcome → Option Outcome
io_error taint Ok = taint
io_error taint Timeout = taint
io_error taint SendFailed = taint
io_error taint RecvFailed = taint
io_error taint ReadFailed = taint
io_error taint WriteFailed = taint
io_error taint BlobInsufficientLength = taint
io_error taint Closed = taint
io_error taint (Io code) = first_error taint (Io code)
io_error taint LedgerSpent = taint

abbrev pub with_taint : Row → Option Outcome → Row
with_taint row taint = record { completed = row.completed; covered = row.covered; taint = taint }

-- told an error, an untainted row has it as its taint
abbrev pub tainted_row : Outcome → Row → Row
tainted_row error row = with_taint row (first_error row.taint error)

-- counting raises the completed writes by 1; at the most they stay, and the row is tainted LedgerSpent
abbrev pub counted : (most : ℕ) → Row → Row
counted most row = cond (nat_lt row.completed most)
    (record { completed = row.completed + 1; covered = row.covered; taint = row.taint })
    (with_taint row (first_error row.taint LedgerSpent))

-- only a write told Ok that is durable by itself is not counted
abbrev pub counts_unless_ok : Outcome → Bool
counts_unless_ok Ok = false
counts_unless_ok Timeout = true
counts_unless_ok SendFailed = true
counts_unless_ok RecvFailed = true
counts_unless_ok ReadFailed = true
counts_unless_ok WriteFailed = true
counts_unless_ok BlobInsufficientLength = true
counts_unless_ok Closed = true
counts_unless_ok (Io code) = true
counts_unless_ok LedgerSpent = true

abbrev pub counts_write : WriteAtState → Outcome → Bool
counts_write Writing result = true
counts_write WritingBeforeSync result = true
counts_write WritingSync result = counts_unless_ok result
counts_write Syncing result = counts_unless_ok result

-- Io taints in WritingSync and Syncing
abbrev pub write_error : Option Outcome → WriteAtState → Outcome → Option Outcome
write_error taint Writing result = taint
write_error taint WritingBeforeSync result = taint
write_error taint WritingSync result = io_error taint result
write_error taint Syncing result = io_error taint result

-- wrote: the taint first, then the count
abbrev pub wrote_row : (most : ℕ) → WriteAtState → Outcome → Row → Row
wrote_row most state result row = cond (counts_write state result)
    (counted most (with_taint row (write_error row.taint state result))) (with_taint row (write_error row.taint state result))

-- the taint, else Ok
abbrev pub sync_answer : Option Outcome → Outcome
sync_answer (Some error) = error
sync_answer None = Ok

abbrev pub taint_if_ok : Option Outcome → Outcome → Outcome
taint_if_ok taint Ok = sync_answer taint
taint_if_ok taint Timeout = Timeout
taint_if_ok taint SendFailed = SendFailed
taint_if_ok taint RecvFailed = RecvFailed
taint_if_ok taint ReadFailed = ReadFailed
taint_if_ok taint WriteFailed = WriteFailed
taint_if_ok taint BlobInsufficientLength = BlobInsufficientLength
taint_if_ok taint Closed = Closed
taint_if_ok taint (Io code) = Io code
taint_if_ok taint LedgerSpent = LedgerSpent

-- wrote answers the result it was given, but for Ok in WritingSync and Syncing
abbrev pub write_answer : Option Outcome → WriteAtState → Outcome → Outcome
write_answer taint Writing result = result
write_answer taint WritingBeforeSync result = result
write_answer taint WritingSync result = taint_if_ok taint result
write_answer taint Syncing result = taint_if_ok taint result

abbrev pub covers_now : (completed covered seen : ℕ) → ℕ
covers_now completed covered seen = max covered (min seen completed)

abbrev pub ended_by : Option Outcome → ℕ → Row → Row
ended_by (Some error) seen row = row
ended_by None seen row = record { completed = row.completed; covered = covers_now row.completed row.covered seen; taint = row.taint }

-- end_sync: a tainted row stays as it is
abbrev pub ended_row : (seen : ℕ) → Row → Row
ended_row seen row = ended_by row.taint seen row

-- sync_failed
abbrev pub failed_row : Outcome → Row → Row
failed_row result row = with_taint row (io_error row.taint result)

-- the taint, else whether fewer writes are covered than completed
abbrev pub wanted_by : Option Outcome → Row → Result Bool Outcome
wanted_by (Some error) row = result.Err error
wanted_by None row = result.Ok (nat_lt row.covered row.completed)

abbrev pub sync_wanted : Row → Result Bool Outcome
sync_wanted row = wanted_by row.taint row

-- begin_sync
abbrev pub completed_at : List Row → ℕ → ℕ
completed_at rows i = (row_at rows i).completed

-- failure
abbrev pub taint_at : List Row → ℕ → Option Outcome
taint_at rows i = (row_at rows i).taint

-- needs_sync
abbrev pub sync_wanted_at : List Row → ℕ → Result Bool Outcome
sync_wanted_at rows i = sync_wanted (row_at rows i)
