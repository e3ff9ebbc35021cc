-- A completion's result against the request that it answers.
use Rattle.std.specs.Prelude.{ℕ, min, Bool, true, false, cond, ◌||◌, List, ℤ, Some, None, Ok, Err, Option, Result, ◌==◌, nat_le}
use Rattle.records.specs.declared.buffer.ChunkRow.{ChunkRow}
use Rattle.records.specs.declared.denial.Denial.{Denial}
use Rattle.records.specs.declared.denial.Denial.TheVariants.{CompletionMisfit}
use Rattle.records.specs.declared.mode.WriteAtState.{WriteAtState}
use Rattle.records.specs.declared.mode.WriteAtState.TheVariants.{Writing, WritingSync, WritingBeforeSync, Syncing}
use Rattle.records.specs.declared.waiter.WaiterState.{WaiterState}
use Rattle.records.specs.States.{cancel_granted}
use Rattle.request.specs.declared.kinds.Request.{Request}
use Rattle.request.specs.declared.kinds.Request.TheVariants as request
use Rattle.request.specs.Progress.{bytes_to_move, bytes_submitted}
use Rattle.cqe.specs.declared.result.CqeResult.{CqeResult}
use Rattle.cqe.specs.declared.result.CqeResult.TheVariants.{Retry, Cancelled, Error, Zero, Count}
use Rattle.cqe.specs.declared.step.Step.{Step}
use Rattle.cqe.specs.Classes.{classified}
use Rattle.cqe.specs.Steps.{stepped, settled}
use Rattle.cqe.specs.Reads.{recv_step, read_step}
use Rattle.cqe.specs.Writes.{send_step, write_step, sync_outcome}

abbrev pub syncs_in : WriteAtState → Bool
syncs_in Writing = false
syncs_in WritingSync = false
syncs_in WritingBeforeSync = false
syncs_in Syncing = true

-- the next submission is a data sync
abbrev pub is_sync : Request → Bool
is_sync (request.Send q) = false
is_sync (request.Recv q) = false
is_sync (request.ReadAt q) = false
is_sync (request.WriteAt q) = syncs_in q.state
is_sync (request.Sync q) = true

-- a result has 31 bits for a count, and counts no more than was asked for; a sync's may be any
abbrev pub largest : List ChunkRow → Request → ℕ
largest table q = cond (is_sync q) 2147483647 (min (bytes_submitted table q) 2147483647)

abbrev pub fits : List ChunkRow → Request → CqeResult → Bool
fits table q Retry = true
fits table q Cancelled = true
fits table q (Error code) = true
fits table q Zero = true
fits table q (Count n) = is_sync q || nat_le n (bytes_submitted table q)

abbrev pub reacted : List ChunkRow → Request → CqeResult → Step
reacted table (request.Send q) k = send_step table q k
reacted table (request.Recv q) k = recv_step q k
reacted table (request.ReadAt q) k = read_step q k
reacted table (request.WriteAt q) k = write_step table q k
reacted table (request.Sync q) k = stepped (request.Sync q) (sync_outcome k)

-- a result below every error code fits no more than a count of more bytes than were asked for
abbrev pub read_as : List ChunkRow → Request → (cancelled : Bool) → Option CqeResult → Result Step Denial
read_as table q cancelled (Some k) = cond (fits table q k) (Ok (settled cancelled (reacted table q k))) (Err (CompletionMisfit (largest table q)))
read_as table q cancelled None = Err (CompletionMisfit (largest table q))

abbrev pub on_cqe : List ChunkRow → Request → WaiterState → ℤ → Result Step Denial
on_cqe table q state r = read_as table q (cancel_granted state) (classified r (cancel_granted state) (bytes_to_move q == 0))
