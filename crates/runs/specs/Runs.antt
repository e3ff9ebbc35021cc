-- A run of one transfer: admitted, then submitted and completed in turn, each as the calls' contracts say.
use Rattle.std.specs.Prelude.{◌≡◌, List, [], ◌∷◌, ℤ, Ok, Some, None, Option}
use Rattle.records.specs.declared.buffer.ChunkRow.{ChunkRow}
use Rattle.records.specs.declared.buffer.Iovec.{Iovec}
use Rattle.records.specs.declared.waiter.WaiterState.{WaiterState}
use Rattle.records.specs.declared.outcome.Outcome.{Outcome}
use Rattle.records.specs.States.{cancel_granted}
use Rattle.request.specs.declared.kinds.Request.{Request}
use Rattle.request.specs.declared.kinds.Wanted.{Wanted}
use Rattle.request.specs.Admission.{admitted}
use Rattle.cqe.specs.declared.step.Step.{Step}
use Rattle.cqe.specs.Cqe.{on_cqe}
use Rattle.sqe.specs.declared.Setting.{Setting}
use Rattle.sqe.specs.declared.Staged.{Staged}
use Rattle.sqe.specs.Building.{built, built_list}
use Rattle.runs.specs.declared.transfer.Standing.{Standing}
use Rattle.runs.specs.declared.transfer.Standing.TheVariants.{Queued, InFlight, Ended}
use Rattle.runs.specs.Notions.{Event, Event.submitted, Event.completed}

abbrev pub stands : Option Outcome → Request → Standing
stands None q = Queued q
stands (Some o) q = Ended q o

pub data Run (table : List ChunkRow) (w : Wanted) : Standing → List Event → Type 0 where
  begins : (p : Standing) (q : Request) → admitted table w ≡ Ok q → p ≡ Queued q → Run table w p []
  submits : (p : Standing) (q : Request) (setting : Setting) (list after : List Iovec) (s : Staged) (h : List Event) →
      Run table w (Queued q) h →
      built table q setting list ≡ Ok s → after ≡ built_list table q list → p ≡ InFlight s.request →
      Run table w p (submitted s.submission after ∷ h)
  completes : (p : Standing) (q : Request) (state : WaiterState) (r : ℤ) (s : Step) (h : List Event) →
      Run table w (InFlight q) h →
      on_cqe table q state r ≡ Ok s → p ≡ stands s.outcome s.request →
      Run table w p (completed (cancel_granted state) r ∷ h)
