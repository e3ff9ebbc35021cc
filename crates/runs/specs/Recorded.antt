-- A call on a transfer adds its event to the transfer's record, and the laws hold of that; a refusal changes nothing.
use Rattle.std.specs.Prelude.{◌≡◌, List, [], ◌∷◌, ℤ, Ok, Err, Result}
use Rattle.records.specs.declared.buffer.ChunkRow.{ChunkRow}
use Rattle.records.specs.declared.buffer.Iovec.{Iovec}
use Rattle.records.specs.declared.denial.Denial.{Denial}
use Rattle.records.specs.declared.submission.Submission.{Submission}
use Rattle.records.specs.declared.waiter.WaiterState.{WaiterState}
use Rattle.records.specs.States.{cancel_granted}
use Rattle.request.specs.declared.kinds.Wanted.{Wanted}
use Rattle.cqe.specs.declared.step.Step.{Step}
use Rattle.runs.specs.declared.transfer.Standing.{Standing}
use Rattle.runs.specs.declared.transfer.Transfer.{Transfer}
use Rattle.runs.specs.Laws.{Nonempty, Lawful}
use Rattle.runs.specs.Notions.{Event, Event.submitted, Event.completed}
use Rattle.runs.specs.Runs.{Run}

abbrev pub BeginRecorded : List ChunkRow → Wanted → Result Transfer Denial → Type 0
BeginRecorded table w (Ok t) = Run table w t.standing []
BeginRecorded table w (Err d) = Unit {0}

-- the record with one event more is a run, and lawful
abbrev pub Grows : List ChunkRow → Wanted → Standing → Standing → Event → Type 0
Grows table w before after e = (h : List Event) → Run table w before h → Run table w after (e ∷ h) × (Nonempty table w → Lawful table w after (e ∷ h))

abbrev pub SubmitRecorded : List ChunkRow → Wanted → Standing → Standing → Result Submission Denial → List Iovec → Type 0
SubmitRecorded table w before after (Ok s) list = Grows table w before after (submitted s list)
SubmitRecorded table w before after (Err d) list = after ≡ before

abbrev pub CompleteRecorded : List ChunkRow → Wanted → Standing → Standing → Result Step Denial → WaiterState → ℤ → Type 0
CompleteRecorded table w before after (Ok s) state r = Grows table w before after (completed (cancel_granted state) r)
CompleteRecorded table w before after (Err d) state r = after ≡ before
