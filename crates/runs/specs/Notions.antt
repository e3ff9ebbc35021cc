-- The words of the laws, over what was wanted and over what was submitted and completed.
-- They are written from the pages and share nothing with the definitions of the calls.
use Rattle.std.specs.Prelude.{ℕ, ◌+◌, ◌*◌, ◌/◌, ◌%◌, Bool, true, false, cond, ◌&&◌, ◌||◌, List, [], ◌∷◌, take, drop, ℤ, pos, negsuc, ◌==◌, nat_le, nat_lt}
use Rattle.records.specs.declared.buffer.ChunkRow.{ChunkRow}
use Rattle.records.specs.declared.buffer.Iovec.{Iovec}
use Rattle.records.specs.declared.submission.Submission.{Submission}
use Rattle.records.specs.declared.write.Source.{Source}
use Rattle.records.specs.declared.write.Source.TheVariants as source
use Rattle.request.specs.declared.kinds.Wanted.{Wanted}
use Rattle.request.specs.declared.kinds.Wanted.TheVariants as wanted

-- what happened to a transfer, the newest first

pub data Event : Type 0 where
  -- a submission, with the iovecs that lie in its list
  submitted : Submission → List Iovec → Event
  -- a completion's result, and whether a cancel was granted before it
  completed : (cancelled : Bool) → ℤ → Event

-- bytes wanted

abbrev pub sum : List ChunkRow → ℕ
sum [] = 0
sum (r ∷ rs) = r.length + sum rs

abbrev pub rows_of : List ChunkRow → (first count : ℕ) → List ChunkRow
rows_of table first count = take count (drop first table)

abbrev pub source_bytes : List ChunkRow → Source → ℕ
source_bytes table (source.Single place n) = n
source_bytes table (source.Rows first count) = sum (rows_of table first count)

abbrev pub bytes_wanted : List ChunkRow → Wanted → ℕ
bytes_wanted table (wanted.Send descriptor s) = source_bytes table s
bytes_wanted table (wanted.Recv descriptor b n exact) = n
bytes_wanted table (wanted.ReadAt file offset b cache) = b.length
bytes_wanted table (wanted.DirectReadAt file descriptor offset n place capacity) = n
bytes_wanted table (wanted.WriteAt file offset s mode cache) = source_bytes table s
bytes_wanted table (wanted.Sync file) = 0

-- direct reads go by whole pages of 4,096 bytes: what lies before the range in its first page, and the pages that hold it

abbrev pub lead : ℕ → ℕ
lead offset = offset % 4096

abbrev pub pages : ℕ → ℕ
pages n = (n + 4095) / 4096 * 4096

abbrev pub whole_pages : ℕ → Bool
whole_pages n = nat_lt 0 n && n % 4096 == 0

-- what a result says: try again (EAGAIN 11, EINTR 4), an error by its code, or bytes moved

pub data Heard : Type 0 where
  retry : Heard
  failed : ℕ → Heard
  moved : ℕ → Heard

abbrev pub heard : ℤ → Heard
heard (pos n) = moved n
heard (negsuc k) = cond (k + 1 == 11 || k + 1 == 4) retry (failed (k + 1))

abbrev pub besides_retry : Heard → ℕ
besides_retry retry = 0
besides_retry (failed code) = 1
besides_retry (moved n) = 1

-- completions besides retries
abbrev pub takes : List Event → ℕ
takes [] = 0
takes (submitted s iovecs ∷ h) = takes h
takes (completed cancelled r ∷ h) = besides_retry (heard r) + takes h

-- the newest submission is a data sync (IORING_OP_FSYNC, 3)
abbrev pub is_fsync : Submission → Bool
is_fsync s = s.opcode == 3

abbrev pub fsync_last : List Event → Bool
fsync_last [] = false
fsync_last (submitted s iovecs ∷ h) = is_fsync s
fsync_last (completed cancelled r ∷ h) = fsync_last h

-- the bytes that a submission asks for: a vectored one (IORING_OP_WRITEV, 2) by its iovecs

abbrev pub sizes : List Iovec → ℕ
sizes [] = 0
sizes (v ∷ vs) = v.length + sizes vs

abbrev pub asks_for : Submission → List Iovec → ℕ
asks_for s iovecs = cond (s.opcode == 2) (sizes (take s.length iovecs)) s.length

abbrev pub asked_last : List Event → ℕ
asked_last [] = 0
asked_last (submitted s iovecs ∷ h) = asks_for s iovecs
asked_last (completed cancelled r ∷ h) = asked_last h

-- the newest completion came after a granted cancel
abbrev pub cancelled_last : List Event → Bool
cancelled_last [] = false
cancelled_last (submitted s iovecs ∷ h) = cancelled_last h
cancelled_last (completed cancelled r ∷ h) = cancelled

-- the present attempt, and the bytes reported in it

pub data Tried : Type 0 where
  directly : ℕ → Tried
  plainly : ℕ → Tried

abbrev pub first_attempt : Wanted → Tried
first_attempt (wanted.Send descriptor s) = plainly 0
first_attempt (wanted.Recv descriptor b n exact) = plainly 0
first_attempt (wanted.ReadAt file offset b cache) = plainly 0
first_attempt (wanted.DirectReadAt file descriptor offset n place capacity) = directly 0
first_attempt (wanted.WriteAt file offset s mode cache) = plainly 0
first_attempt (wanted.Sync file) = plainly 0

-- the end of the range, counted from where the superset begins
abbrev pub range_end : Wanted → ℕ
range_end (wanted.Send descriptor s) = 0
range_end (wanted.Recv descriptor b n exact) = 0
range_end (wanted.ReadAt file offset b cache) = 0
range_end (wanted.DirectReadAt file descriptor offset n place capacity) = lead offset + n
range_end (wanted.WriteAt file offset s mode cache) = 0
range_end (wanted.Sync file) = 0

-- direct reading is given up by a count that neither covers the range nor is whole pages, by no bytes,
-- and by an error other than a cancellation's (ECANCELED, 125); a new attempt then begins at the range's start
abbrev pub counted_directly : (covers whole : Bool) → ℕ → Tried
counted_directly true whole d = directly d
counted_directly false true d = directly d
counted_directly false false d = plainly 0

abbrev pub reports : (end : ℕ) → Tried → Heard → Tried
reports end (plainly d) retry = plainly d
reports end (plainly d) (failed code) = plainly d
reports end (plainly d) (moved n) = plainly (d + n)
reports end (directly d) retry = directly d
reports end (directly d) (failed code) = cond (code == 125) (directly d) (plainly 0)
reports end (directly d) (moved n) = counted_directly (nat_le end (d + n)) (whole_pages n) (d + n)

-- a sync's completion reports no bytes
abbrev pub told : (fsync : Bool) → (end : ℕ) → Tried → Heard → Tried
told true end t e = t
told false end t e = reports end t e

abbrev pub tried : Wanted → List Event → Tried
tried w [] = first_attempt w
tried w (submitted s iovecs ∷ h) = tried w h
tried w (completed cancelled r ∷ h) = told (fsync_last h) (range_end w) (tried w h) (heard r)

-- a data sync reported zero or more
abbrev pub synced_by : (fsync : Bool) → Heard → Bool → Bool
synced_by false e b = b
synced_by true retry b = b
synced_by true (failed code) b = b
synced_by true (moved n) b = true

abbrev pub synced : List Event → Bool
synced [] = false
synced (submitted s iovecs ∷ h) = synced h
synced (completed cancelled r ∷ h) = synced_by (fsync_last h) (heard r) (synced h)
