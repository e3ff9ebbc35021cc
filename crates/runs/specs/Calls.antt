-- What the calls on a transfer answer, and where they leave it.
use Rattle.std.specs.Prelude.{List, ℤ, Ok, Err, Result}
use Rattle.records.specs.declared.buffer.ChunkRow.{ChunkRow}
use Rattle.records.specs.declared.buffer.Iovec.{Iovec}
use Rattle.records.specs.declared.denial.Denial.{Denial}
use Rattle.records.specs.declared.denial.Denial.TheVariants as denial
use Rattle.records.specs.declared.submission.Submission.{Submission}
use Rattle.records.specs.declared.waiter.WaiterState.{WaiterState}
use Rattle.request.specs.declared.kinds.Request.{Request}
use Rattle.request.specs.declared.kinds.Wanted.{Wanted}
use Rattle.request.specs.Admission.{admitted}
use Rattle.cqe.specs.declared.step.Step.{Step}
use Rattle.cqe.specs.Cqe.{on_cqe}
use Rattle.sqe.specs.declared.Setting.{Setting}
use Rattle.sqe.specs.declared.Staged.{Staged}
use Rattle.sqe.specs.Building.{built, built_list}
use Rattle.runs.specs.declared.transfer.Standing.{Standing}
use Rattle.runs.specs.declared.transfer.Standing.TheVariants.{Queued, InFlight, Ended}
use Rattle.runs.specs.declared.transfer.Transfer.{Transfer}
use Rattle.runs.specs.Runs.{stands}

abbrev pub standing_request : Standing → Request
standing_request (Queued q) = q
standing_request (InFlight q) = q
standing_request (Ended q o) = q

-- the same transfer, standing elsewhere
abbrev pub left_at : Transfer → Standing → Transfer
left_at t p = record { wanted = t.wanted; standing = p }

abbrev pub begun_as : Wanted → Result Request Denial → Result Transfer Denial
begun_as w (Ok q) = Ok (record { wanted = w; standing = Queued q })
begun_as w (Err d) = Err d

abbrev pub begin_answer : List ChunkRow → Wanted → Result Transfer Denial
begin_answer table w = begun_as w (admitted table w)

abbrev pub submission_of : Result Staged Denial → Result Submission Denial
submission_of (Ok s) = Ok s.submission
submission_of (Err d) = Err d

-- one submission at a time, and none once it ended
abbrev pub submit_answer : List ChunkRow → Standing → Setting → List Iovec → Result Submission Denial
submit_answer table (Queued q) g list = submission_of (built table q g list)
submit_answer table (InFlight q) g list = Err denial.InFlight
submit_answer table (Ended q o) g list = Err denial.SettledOtherwise

abbrev pub flown : Request → Result Staged Denial → Standing
flown q (Ok s) = InFlight s.request
flown q (Err d) = Queued q

abbrev pub submit_after : List ChunkRow → Standing → Setting → List Iovec → Standing
submit_after table (Queued q) g list = flown q (built table q g list)
submit_after table (InFlight q) g list = InFlight q
submit_after table (Ended q o) g list = Ended q o

abbrev pub submit_list : List ChunkRow → Standing → List Iovec → List Iovec
submit_list table (Queued q) list = built_list table q list
submit_list table (InFlight q) list = list
submit_list table (Ended q o) list = list

-- a completion is of a submission in flight
abbrev pub complete_answer : List ChunkRow → Standing → WaiterState → ℤ → Result Step Denial
complete_answer table (Queued q) state r = Err denial.UnknownToken
complete_answer table (InFlight q) state r = on_cqe table q state r
complete_answer table (Ended q o) state r = Err denial.UnknownToken

abbrev pub landed : Request → Result Step Denial → Standing
landed q (Ok s) = stands s.outcome s.request
landed q (Err d) = InFlight q

abbrev pub complete_after : List ChunkRow → Standing → WaiterState → ℤ → Standing
complete_after table (Queued q) state r = Queued q
complete_after table (InFlight q) state r = landed q (on_cqe table q state r)
complete_after table (Ended q o) state r = Ended q o
