-- What a request leaves, and what its durability asks.
use Rattle.std.specs.Prelude.{ℕ, Bool, true, false, Some, None, Option}
use Rattle.records.specs.declared.buffer.Buffer.{Buffer}
use Rattle.records.specs.declared.id.FileId.{FileId}
use Rattle.records.specs.declared.mode.WriteAtState.{WriteAtState}
use Rattle.records.specs.declared.mode.WriteAtState.TheVariants.{Writing, WritingSync, WritingBeforeSync, Syncing}
use Rattle.records.specs.declared.outcome.Outcome.{Outcome}
use Rattle.records.specs.declared.outcome.Outcome.TheVariants as outcome
use Rattle.records.specs.declared.output.RequestOutput.{RequestOutput}
use Rattle.records.specs.declared.output.RequestOutput.TheVariants as output
use Rattle.records.specs.declared.output.RetiredResources.{RetiredResources}
use Rattle.records.specs.declared.output.RetiredResources.TheVariants as resources
use Rattle.request.specs.declared.kinds.Request.{Request}
use Rattle.request.specs.declared.kinds.Request.TheVariants as request

abbrev pub ended_well : Outcome → Bool
ended_well outcome.Ok = true
ended_well outcome.Timeout = false
ended_well outcome.SendFailed = false
ended_well outcome.RecvFailed = false
ended_well outcome.ReadFailed = false
ended_well outcome.WriteFailed = false
ended_well outcome.BlobInsufficientLength = false
ended_well outcome.Closed = false
ended_well (outcome.Io code) = false
ended_well outcome.LedgerSpent = false

-- a failed read shows nothing: the kernel may have left part of the buffer unwritten
abbrev pub shown_if : Bool → Buffer → Buffer
shown_if true b = b
shown_if false b = record { place = b.place; capacity = b.capacity; length = 0 }

abbrev pub shown : Buffer → Outcome → Buffer
shown b o = shown_if (ended_well o) b

abbrev pub counted_if : Bool → ℕ → Option ℕ
counted_if true n = Some n
counted_if false n = None

-- a receive tells its count beside Ok
abbrev pub counted : ℕ → Outcome → Option ℕ
counted n o = counted_if (ended_well o) n

abbrev pub output_of : Request → Outcome → RequestOutput
output_of (request.Send q) o = output.Send o
output_of (request.Recv q) o = output.Recv o q.buffer (counted q.received o)
output_of (request.ReadAt q) o = output.ReadAt o (shown q.buffer o)
output_of (request.WriteAt q) o = output.WriteAt o
output_of (request.Sync q) o = output.Sync o

abbrev pub resources_of : Request → RetiredResources
resources_of (request.Send q) = resources.Send q.descriptor q.write
resources_of (request.Recv q) = resources.Socket q.descriptor
resources_of (request.ReadAt q) = resources.File q.file None
resources_of (request.WriteAt q) = resources.File q.file (Some q.write)
resources_of (request.Sync q) = resources.File q.file None

abbrev pub durable_write : WriteAtState → FileId → Option FileId
durable_write Writing file = None
durable_write WritingSync file = Some file
durable_write WritingBeforeSync file = Some file
durable_write Syncing file = Some file

-- a permit is due for a sync, and for a write that is to be durable
abbrev pub durable_file : Request → Option FileId
durable_file (request.Send q) = None
durable_file (request.Recv q) = None
durable_file (request.ReadAt q) = None
durable_file (request.WriteAt q) = durable_write q.state q.file
durable_file (request.Sync q) = Some q.file

-- what changes a file goes on without its observer
abbrev pub kept_running : Request → Bool
kept_running (request.Send q) = false
kept_running (request.Recv q) = false
kept_running (request.ReadAt q) = false
kept_running (request.WriteAt q) = true
kept_running (request.Sync q) = true
