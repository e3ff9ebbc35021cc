-- The laws of a transfer's run.
use Rattle.std.specs.Prelude.{◌≡◌, ℕ, ◌+◌, ◌-◌, ◌/◌, ◌<◌, ◌≤◌, Bool, true, false, List, ◌∷◌, ◌++◌, take}
use Rattle.records.specs.declared.buffer.ChunkRow.{ChunkRow}
use Rattle.records.specs.declared.buffer.Iovec.{Iovec}
use Rattle.records.specs.declared.mode.WriteMode.{WriteMode}
use Rattle.records.specs.declared.mode.WriteMode.TheVariants.{Writing, WritingSync, WritingBeforeSync}
use Rattle.records.specs.declared.outcome.Outcome.{Outcome}
use Rattle.records.specs.declared.outcome.Outcome.TheVariants as outcome
use Rattle.records.specs.declared.submission.Submission.{Submission}
use Rattle.records.specs.declared.write.Source.{Source}
use Rattle.records.specs.declared.write.Source.TheVariants as source
use Rattle.request.specs.declared.kinds.Wanted.{Wanted}
use Rattle.request.specs.declared.kinds.Wanted.TheVariants as wanted
use Rattle.request.specs.Progress.{bytes_submitted}
use Rattle.rows.specs.Laws.{left_after}
use Rattle.runs.specs.Notions.{Event, Event.submitted, Event.completed, Heard, Heard.retry, Heard.failed, Heard.moved, Tried, Tried.directly, Tried.plainly, bytes_wanted, source_bytes, rows_of, lead, pages, heard, takes, tried, synced, is_fsync, fsync_last, asked_last, cancelled_last}
use Rattle.runs.specs.declared.transfer.Standing.{Standing}
use Rattle.runs.specs.declared.transfer.Standing.TheVariants.{Queued, InFlight, Ended}
use Rattle.runs.specs.Runs.{Run}

abbrev pub Nonempty : List ChunkRow → Wanted → Type 0
Nonempty table w = 0 < bytes_wanted table w

-- the bytes reported stay inside the range, those of a direct attempt inside the pages that hold it
abbrev pub Within : List ChunkRow → Wanted → Tried → Type 0
Within table (wanted.Send descriptor s) (plainly d) = d ≤ source_bytes table s
Within table (wanted.Send descriptor s) (directly d) = ⊥
Within table (wanted.Recv descriptor b n exact) (plainly d) = d ≤ n
Within table (wanted.Recv descriptor b n exact) (directly d) = ⊥
Within table (wanted.ReadAt file offset b cache) (plainly d) = d ≤ b.length
Within table (wanted.ReadAt file offset b cache) (directly d) = ⊥
Within table (wanted.DirectReadAt file descriptor offset n place capacity) (plainly d) = d ≤ n
Within table (wanted.DirectReadAt file descriptor offset n place capacity) (directly d) = d ≤ pages (lead offset + n)
Within table (wanted.WriteAt file offset s mode cache) (plainly d) = d ≤ source_bytes table s
Within table (wanted.WriteAt file offset s mode cache) (directly d) = ⊥
Within table (wanted.Sync file) t = Unit {0}

-- a submission of a source begins at its byte d: at its place, or with the pieces of the rows behind d bytes, at most 1,024
abbrev pub FromByte : List ChunkRow → Source → ℕ → Submission → List Iovec → Type 0
FromByte table (source.Single place n) d s iovecs = s.place ≡ place + d
FromByte table (source.Rows first count) d s iovecs = take s.length iovecs ≡ take 1024 (left_after d (rows_of table first count))

-- each submission begins at the first byte not reported in its attempt, and some byte is left there
abbrev pub BytesBegin : List ChunkRow → Wanted → Tried → Submission → List Iovec → Type 0
BytesBegin table (wanted.Send descriptor src) (plainly d) s iovecs = FromByte table src d s iovecs × (d < source_bytes table src)
BytesBegin table (wanted.Send descriptor src) (directly d) s iovecs = ⊥
BytesBegin table (wanted.Recv descriptor b n exact) (plainly d) s iovecs = (s.place ≡ b.place + d) × (d < n)
BytesBegin table (wanted.Recv descriptor b n exact) (directly d) s iovecs = ⊥
BytesBegin table (wanted.ReadAt file offset b cache) (plainly d) s iovecs =
    (s.offset ≡ offset + d) × (s.place ≡ b.place + d) × (d < b.length)
BytesBegin table (wanted.ReadAt file offset b cache) (directly d) s iovecs = ⊥
BytesBegin table (wanted.DirectReadAt file descriptor offset n place capacity) (plainly d) s iovecs =
    (s.offset ≡ offset + d) × (s.place ≡ place + lead offset + d) × (d < n)
BytesBegin table (wanted.DirectReadAt file descriptor offset n place capacity) (directly d) s iovecs =
    (s.offset ≡ (offset - lead offset) + d) × (s.place ≡ place + d) × (s.descriptor ≡ descriptor) × (d < lead offset + n)
BytesBegin table (wanted.WriteAt file offset src mode cache) (plainly d) s iovecs =
    (s.offset ≡ offset + d) × FromByte table src d s iovecs × (d < source_bytes table src)
BytesBegin table (wanted.WriteAt file offset src mode cache) (directly d) s iovecs = ⊥
BytesBegin table (wanted.Sync file) t s iovecs = Unit {0}

-- with no byte left it is the trailing sync of a write made as WritingBeforeSync
abbrev pub SyncBegins : List ChunkRow → Wanted → Tried → Type 0
SyncBegins table (wanted.Send descriptor s) t = ⊥
SyncBegins table (wanted.Recv descriptor b n exact) t = ⊥
SyncBegins table (wanted.ReadAt file offset b cache) t = ⊥
SyncBegins table (wanted.DirectReadAt file descriptor offset n place capacity) t = ⊥
SyncBegins table (wanted.WriteAt file offset s mode cache) t = (mode ≡ WritingBeforeSync) × (t ≡ plainly (source_bytes table s))
SyncBegins table (wanted.Sync file) t = Unit {0}

abbrev pub Begins : (fsync : Bool) → List ChunkRow → Wanted → Tried → Submission → List Iovec → Type 0
Begins true table w t s iovecs = SyncBegins table w t
Begins false table w t s iovecs = BytesBegin table w t s iovecs

-- a completion reports no more than its submission asked for
abbrev pub FitsAsked : (fsync : Bool) → ℕ → Heard → Type 0
FitsAsked true asked e = Unit {0}
FitsAsked false asked retry = Unit {0}
FitsAsked false asked (failed code) = Unit {0}
FitsAsked false asked (moved n) = n ≤ asked

-- a submission begins right and comes after no granted cancel; a completion fits
abbrev pub Good : List ChunkRow → Wanted → Event → List Event → Type 0
Good table w (submitted s iovecs) earlier = Begins (is_fsync s) table w (tried w earlier) s iovecs × (cancelled_last earlier ≡ false)
Good table w (completed cancelled r) earlier = FitsAsked (fsync_last earlier) (asked_last earlier) (heard r)

-- a bound on completions besides retries
abbrev pub extra : Wanted → ℕ
extra (wanted.Send descriptor s) = 0
extra (wanted.Recv descriptor b n exact) = 0
extra (wanted.ReadAt file offset b cache) = 0
extra (wanted.DirectReadAt file descriptor offset n place capacity) = (lead offset + n - 1) / 4096
extra (wanted.WriteAt file offset s mode cache) = 0
extra (wanted.Sync file) = 0

abbrev pub most_completions : List ChunkRow → Wanted → ℕ
most_completions table w = bytes_wanted table w + 2 + extra w

-- the bytes reported in the last attempt cover the range
abbrev pub Covers : List ChunkRow → Wanted → Tried → Type 0
Covers table w (plainly d) = bytes_wanted table w ≤ d
Covers table (wanted.Send descriptor s) (directly d) = ⊥
Covers table (wanted.Recv descriptor b n exact) (directly d) = ⊥
Covers table (wanted.ReadAt file offset b cache) (directly d) = ⊥
Covers table (wanted.DirectReadAt file descriptor offset n place capacity) (directly d) = lead offset + n ≤ d
Covers table (wanted.WriteAt file offset s mode cache) (directly d) = ⊥
Covers table (wanted.Sync file) (directly d) = ⊥

-- some byte came
abbrev pub Something : Tried → Type 0
Something (plainly d) = 0 < d
Something (directly d) = 0 < d

abbrev pub SyncedIf : WriteMode → Bool → Type 0
SyncedIf Writing b = Unit {0}
SyncedIf WritingSync b = Unit {0}
SyncedIf WritingBeforeSync b = b ≡ true

-- what an end means: Ok says that the range is covered, and the trailing sync, where one was owed, reported zero or more;
-- of a file transfer, that alone is Ok. A receive that need not be exact says that something came.
abbrev pub Means : List ChunkRow → Wanted → Tried → (synced : Bool) → Outcome → Type 0
Means table (wanted.Send descriptor s) t b o = o ≡ outcome.Ok → Covers table (wanted.Send descriptor s) t
Means table (wanted.Recv descriptor buffer n true) t b o = o ≡ outcome.Ok → Covers table (wanted.Recv descriptor buffer n true) t
Means table (wanted.Recv descriptor buffer n false) t b o = o ≡ outcome.Ok → Something t
Means table (wanted.ReadAt file offset buffer cache) t b o =
    (o ≡ outcome.Ok → Covers table (wanted.ReadAt file offset buffer cache) t) × (Covers table (wanted.ReadAt file offset buffer cache) t → o ≡ outcome.Ok)
Means table (wanted.DirectReadAt file descriptor offset n place capacity) t b o =
    (o ≡ outcome.Ok → Covers table (wanted.DirectReadAt file descriptor offset n place capacity) t)
    × (Covers table (wanted.DirectReadAt file descriptor offset n place capacity) t → o ≡ outcome.Ok)
Means table (wanted.WriteAt file offset s mode cache) t b o =
    (o ≡ outcome.Ok → Covers table (wanted.WriteAt file offset s mode cache) t × SyncedIf mode b)
    × (Covers table (wanted.WriteAt file offset s mode cache) t → SyncedIf mode b → o ≡ outcome.Ok)
Means table (wanted.Sync file) t b o = Unit {0}

abbrev pub EndsRightly : List ChunkRow → Wanted → List Event → Standing → Type 0
EndsRightly table w h (Queued q) = Unit {0}
EndsRightly table w h (InFlight q) = Unit {0}
EndsRightly table w h (Ended q o) = Means table w (tried w h) (synced h) o

-- a request in flight says of itself (`bytes_submitted`) what its submission asks for
abbrev pub AsksAsTold : List ChunkRow → List Event → Standing → Type 0
AsksAsTold table h (Queued q) = Unit {0}
AsksAsTold table h (InFlight q) = fsync_last h ≡ false → bytes_submitted table q ≡ asked_last h
AsksAsTold table h (Ended q o) = Unit {0}

pub record Lawful (table : List ChunkRow) (w : Wanted) (p : Standing) (h : List Event) : Type 0 where
  pub within : Within table w (tried w h)
  pub each : (later earlier : List Event) (e : Event) → h ≡ later ++ (e ∷ earlier) → Good table w e earlier
  pub bound : takes h ≤ most_completions table w
  pub asked : AsksAsTold table h p
  pub ending : EndsRightly table w h p

abbrev pub EveryRunIsLawful : Type 0
EveryRunIsLawful = (table : List ChunkRow) (w : Wanted) (p : Standing) (h : List Event) → Run table w p h → Nonempty table w → Lawful table w p h
