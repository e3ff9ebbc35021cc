-- The words in which refusals, results and what they carry are told.
use Rattle.std.specs.Prelude.{ℕ, List, ◌++◌, Some, None, codes}
use Rattle.std.specs.Fmt.{decimal}
use Rattle.records.specs.declared.buffer.Buffer.{Buffer}
use Rattle.records.specs.declared.buffer.Iovec.{Iovec}
use Rattle.records.specs.declared.denial.Denial.{Denial}
use Rattle.records.specs.declared.denial.Denial.TheVariants.{FileNotLive, LimitBroken, UnfitForDirect, WrongObserver, NoFreeSlot, NoSuchWaiter, InFlight, CancelGranted, SettledOtherwise, PermitConflict, UnknownToken, CompletionMisfit, FileInUse, ListTooShort}
use Rattle.records.specs.declared.id.Id.{Id}
use Rattle.records.specs.declared.id.FileId.{FileId}
use Rattle.records.specs.declared.mode.WriteAtState.{WriteAtState}
use Rattle.records.specs.declared.mode.WriteAtState.TheVariants as state
use Rattle.records.specs.declared.outcome.Outcome.{Outcome}
use Rattle.records.specs.declared.outcome.Outcome.TheVariants as outcome
use Rattle.records.specs.declared.output.RequestOutput.{RequestOutput}
use Rattle.records.specs.declared.output.RequestOutput.TheVariants as output
use Rattle.records.specs.declared.output.RetiredResources.{RetiredResources}
use Rattle.records.specs.declared.output.RetiredResources.TheVariants as retired
use Rattle.records.specs.declared.submission.Submission.{Submission}
use Rattle.records.specs.declared.write.WriteBuffers.{WriteBuffers}
use Rattle.records.specs.declared.write.WriteBuffers.TheVariants.{Single, Rows}

-- words, then a number
abbrev pub told : List ℕ → ℕ → List ℕ
told words n = words ++ decimal n

abbrev pub denial_text : Denial → List ℕ
denial_text FileNotLive = codes "file not live"
denial_text LimitBroken = codes "limit broken"
denial_text UnfitForDirect = codes "unfit for direct reading"
denial_text WrongObserver = codes "wrong observer"
denial_text NoFreeSlot = codes "no free slot"
denial_text NoSuchWaiter = codes "no such waiter"
denial_text InFlight = codes "in flight"
denial_text CancelGranted = codes "cancel granted"
denial_text SettledOtherwise = codes "settled otherwise"
denial_text PermitConflict = codes "permit conflict"
denial_text UnknownToken = codes "unknown token"
denial_text (CompletionMisfit largest) = told (codes "at most ") largest
denial_text FileInUse = codes "file in use"
denial_text (ListTooShort needed) = told (codes "list too short, ") needed ++ codes " places needed"

abbrev pub outcome_text : Outcome → List ℕ
outcome_text outcome.Ok = codes "ok"
outcome_text outcome.Timeout = codes "timeout"
outcome_text outcome.SendFailed = codes "send-failed"
outcome_text outcome.RecvFailed = codes "recv-failed"
outcome_text outcome.ReadFailed = codes "read-failed"
outcome_text outcome.WriteFailed = codes "write-failed"
outcome_text outcome.BlobInsufficientLength = codes "short-blob"
outcome_text outcome.Closed = codes "closed"
outcome_text (outcome.Io code) = told (codes "io ") code
outcome_text outcome.LedgerSpent = codes "ledger-spent"

abbrev pub state_text : WriteAtState → List ℕ
state_text state.Writing = codes "writing"
state_text state.WritingSync = codes "writing-sync"
state_text state.WritingBeforeSync = codes "writing-before-sync"
state_text state.Syncing = codes "syncing"

abbrev pub buffer_text : Buffer → List ℕ
buffer_text b = told (codes "buffer place ") b.place ++ (told (codes " capacity ") b.capacity ++ told (codes " length ") b.length)

abbrev pub iovec_text : Iovec → List ℕ
iovec_text v = decimal v.base ++ told (codes " ") v.length

abbrev pub id_text : Id → List ℕ
id_text id = decimal id.index ++ told (codes " ") id.generation

abbrev pub file_text : FileId → List ℕ
file_text file = codes "file " ++ id_text file.0

abbrev pub write_text : WriteBuffers → List ℕ
write_text (Single s) = told (codes "single place ") s.place ++ (told (codes " length ") s.length ++ told (codes " done ") s.done)
write_text (Rows r) = told (codes "rows first ") r.first ++ (told (codes " count ") r.count
    ++ (told (codes " at row ") r.cursor.row ++ (told (codes " within ") r.cursor.within
    ++ (told (codes " done ") r.done ++ told (codes " of ") r.length))))

abbrev pub output_text : RequestOutput → List ℕ
output_text (output.Send o) = codes "send " ++ outcome_text o
output_text (output.Recv o b (Some n)) = codes "recv " ++ (outcome_text o ++ (codes ", " ++ (buffer_text b ++ told (codes ", count ") n)))
output_text (output.Recv o b None) = codes "recv " ++ (outcome_text o ++ (codes ", " ++ buffer_text b))
output_text (output.ReadAt o b) = codes "read " ++ (outcome_text o ++ (codes ", " ++ buffer_text b))
output_text (output.WriteAt o) = codes "write " ++ outcome_text o
output_text (output.Sync o) = codes "sync " ++ outcome_text o

abbrev pub resources_text : RetiredResources → List ℕ
resources_text (retired.Socket d) = told (codes "socket ") d
resources_text (retired.Send d w) = told (codes "socket ") d ++ (codes ", " ++ write_text w)
resources_text (retired.File f (Some w)) = file_text f ++ (codes ", " ++ write_text w)
resources_text (retired.File f None) = file_text f

abbrev pub submission_text : Submission → List ℕ
submission_text s = told (codes "opcode ") s.opcode ++ (told (codes " descriptor ") s.descriptor
    ++ (told (codes " offset ") s.offset ++ (told (codes " place ") s.place
    ++ (told (codes " length ") s.length ++ (told (codes " flags ") s.flags ++ told (codes " token ") s.token)))))
