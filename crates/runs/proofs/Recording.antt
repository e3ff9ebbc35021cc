-- A call's answer and what it leaves make the record grow.
use Rattle.std.proofs.Common.{◌≡◌, List, ℤ, Ok, Err, Result, refl}
use Rattle.records.specs.declared.buffer.ChunkRow.{ChunkRow}
use Rattle.records.specs.declared.buffer.Iovec.{Iovec}
use Rattle.records.specs.declared.denial.Denial.{Denial}
use Rattle.records.specs.declared.waiter.WaiterState.{WaiterState}
use Rattle.request.specs.declared.kinds.Request.{Request}
use Rattle.request.specs.declared.kinds.Wanted.{Wanted}
use Rattle.request.specs.Admission.{admitted}
use Rattle.cqe.specs.declared.step.Step.{Step}
use Rattle.cqe.specs.Cqe.{on_cqe}
use Rattle.sqe.specs.declared.Setting.{Setting}
use Rattle.sqe.specs.declared.Staged.{Staged}
use Rattle.sqe.specs.Building.{built, built_list}
use Rattle.runs.specs.declared.transfer.Standing.{Standing}
use Rattle.runs.specs.declared.transfer.Standing.TheVariants.{Queued, InFlight, Ended}
use Rattle.runs.specs.Calls.{begin_answer, begun_as, submit_answer, submit_after, submit_list, submission_of, flown, complete_answer, complete_after, landed}
use Rattle.runs.specs.Recorded.{BeginRecorded, SubmitRecorded, CompleteRecorded}
use Rattle.runs.specs.Runs.{stands, Run.begins, Run.submits, Run.completes}
use Rattle.runs.proofs.Keeping.{every_run}

begin_as : (table : List ChunkRow) (w : Wanted) (r : Result Request Denial) → admitted table w ≡ r → BeginRecorded table w (begun_as w r)
begin_as table w (Ok q) e = begins (Queued q) q e refl
begin_as table w (Err d) e = tt

pub begin_recorded : (table : List ChunkRow) (w : Wanted) → BeginRecorded table w (begin_answer table w)
begin_recorded table w = begin_as table w (admitted table w) refl

submit_as : (table : List ChunkRow) (w : Wanted) (q : Request) (g : Setting) (list : List Iovec) (r : Result Staged Denial) → built table q g list ≡ r →
    SubmitRecorded table w (Queued q) (flown q r) (submission_of r) (built_list table q list)
submit_as table w q g list (Ok s) e =
    λ h run. let n = submits (InFlight s.request) q g list (built_list table q list) s h run e refl refl in (n, λ z. every_run table w _ _ n z)
submit_as table w q g list (Err d) e = refl

pub submit_recorded : (table : List ChunkRow) (w : Wanted) (p : Standing) (g : Setting) (list : List Iovec) →
    SubmitRecorded table w p (submit_after table p g list) (submit_answer table p g list) (submit_list table p list)
submit_recorded table w (Queued q) g list = submit_as table w q g list (built table q g list) refl
submit_recorded table w (InFlight q) g list = refl
submit_recorded table w (Ended q o) g list = refl

complete_as : (table : List ChunkRow) (w : Wanted) (q : Request) (state : WaiterState) (n : ℤ) (r : Result Step Denial) → on_cqe table q state n ≡ r →
    CompleteRecorded table w (InFlight q) (landed q r) r state n
complete_as table w q state n (Ok s) e =
    λ h run. let m = completes (stands s.outcome s.request) q state n s h run e refl in (m, λ z. every_run table w _ _ m z)
complete_as table w q state n (Err d) e = refl

pub complete_recorded : (table : List ChunkRow) (w : Wanted) (p : Standing) (state : WaiterState) (n : ℤ) →
    CompleteRecorded table w p (complete_after table p state n) (complete_answer table p state n) state n
complete_recorded table w (Queued q) state n = refl
complete_recorded table w (InFlight q) state n = complete_as table w q state n (on_cqe table q state n) refl
complete_recorded table w (Ended q o) state n = refl
