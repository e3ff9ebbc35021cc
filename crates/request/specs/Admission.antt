-- Which requests are taken, and in which state they begin.
use Rattle.std.specs.Prelude.{ℕ, ◌+◌, ◌-◌, ◌*◌, ◌/◌, ◌%◌, Bool, true, false, cond, ◌&&◌, List, Some, None, Ok, Err, Option, Result, ◌==◌, nat_le, nat_lt}
use Rattle.records.specs.declared.buffer.Buffer.{Buffer}
use Rattle.records.specs.declared.buffer.ChunkRow.{ChunkRow}
use Rattle.records.specs.declared.denial.Denial.{Denial}
use Rattle.records.specs.declared.denial.Denial.TheVariants.{LimitBroken, UnfitForDirect}
use Rattle.records.specs.declared.id.FileId.{FileId}
use Rattle.records.specs.declared.mode.Cache.{Cache}
use Rattle.records.specs.declared.mode.Cache.TheVariants.{Disabled}
use Rattle.records.specs.declared.mode.WriteMode.{WriteMode}
use Rattle.records.specs.declared.write.Source.{Source}
use Rattle.records.specs.declared.write.Source.TheVariants as source
use Rattle.records.specs.declared.write.WriteBuffers.{WriteBuffers}
use Rattle.records.specs.declared.write.WriteBuffers.TheVariants as buffers
use Rattle.records.specs.Limits.{below_top, few_bytes, buffer_limits, descriptor_limits}
use Rattle.records.specs.Modes.{started}
use Rattle.records.specs.Writes.{write_length}
use Rattle.rows.specs.Vectors.{admitted_total}
use Rattle.request.specs.declared.kinds.Request.{Request}
use Rattle.request.specs.declared.kinds.Request.TheVariants as request
use Rattle.request.specs.declared.kinds.Wanted.{Wanted}
use Rattle.request.specs.declared.kinds.Wanted.TheVariants as wanted

-- rows whose bytes are known, with nothing reported
abbrev pub rows_begun : (first count : ℕ) → Option ℕ → Option WriteBuffers
rows_begun first count (Some n) = Some (buffers.Rows (record { first = first; count = count; cursor = record { row = 0; within = 0 }; length = n; done = 0 }))
rows_begun first count None = None

-- a source with nothing reported; none where a limit is broken
abbrev pub begun : List ChunkRow → Source → Option WriteBuffers
begun table (source.Single place n) = cond (below_top place n && few_bytes n) (Some (buffers.Single (record { place = place; length = n; done = 0 }))) None
begun table (source.Rows first count) = rows_begun first count (admitted_total table first count)

-- off_t is signed, 64 bits: a file's bytes end at 2^63 - 1 at most
abbrev pub range_limits : (offset bytes : ℕ) → Bool
range_limits offset n = few_bytes n && nat_le (offset + n) 9223372036854775807

-- open(2), O_DIRECT: it may restrict the alignment of length, address and file offset, and how varies; the rule is 4,096 for all three.
-- The superset of a range is the whole pages that hold it.
abbrev pub skip : ℕ → ℕ
skip offset = offset % 4096

abbrev pub superset_start : ℕ → ℕ
superset_start offset = offset - skip offset

abbrev pub superset_length : (offset bytes : ℕ) → ℕ
superset_length offset n = (skip offset + n + 4095) / 4096 * 4096

abbrev pub aligned_end : (offset bytes : ℕ) → ℕ
aligned_end offset n = superset_start offset + superset_length offset n

-- a range that can be read directly into a place
abbrev pub direct_limits : (offset bytes place capacity : ℕ) → Bool
direct_limits offset n place capacity =
    nat_lt 0 n && (nat_le (aligned_end offset n) 9223372036854775807 && (place % 4096 == 0 && nat_le (superset_length offset n) capacity))

abbrev pub send_begun : ℕ → Bool → Option WriteBuffers → Result Request Denial
send_begun descriptor true (Some w) = Ok (request.Send (record { descriptor = descriptor; write = w }))
send_begun descriptor true None = Err LimitBroken
send_begun descriptor false w = Err LimitBroken

abbrev pub recv_begun : ℕ → Buffer → ℕ → Bool → Result Request Denial
recv_begun descriptor b n exact =
    cond (descriptor_limits descriptor && (buffer_limits b && (nat_le n b.capacity && few_bytes n)))
    (Ok (request.Recv (record { descriptor = descriptor; buffer = b; length = n; received = 0; exact = exact })))
    (Err LimitBroken)

abbrev pub read_begun : FileId → ℕ → Buffer → Cache → Result Request Denial
read_begun file offset b cache =
    cond (buffer_limits b && range_limits offset b.length)
    (Ok (request.ReadAt (record { file = file; offset = offset; read = 0; buffer = b; cache = cache; direct = None })))
    (Err LimitBroken)

-- a direct read begins over its superset, whose length its buffer takes on
abbrev pub direct_begun : FileId → (descriptor offset bytes place capacity : ℕ) → Result Request Denial
direct_begun file descriptor offset n place capacity =
    cond (descriptor_limits descriptor && (below_top place capacity && range_limits offset n))
    (cond (direct_limits offset n place capacity)
    (Ok (request.ReadAt (record {
      file = file;
      offset = superset_start offset;
      read = 0;
      buffer = record { place = place; capacity = capacity; length = superset_length offset n };
      cache = Disabled;
      direct = Some (record { descriptor = descriptor; skip = skip offset; length = n });
    })))
    (Err UnfitForDirect))
    (Err LimitBroken)

abbrev pub write_begun : FileId → ℕ → WriteMode → Cache → Option WriteBuffers → Result Request Denial
write_begun file offset mode cache (Some w) =
    cond (range_limits offset (write_length w))
    (Ok (request.WriteAt (record { file = file; offset = offset; write = w; state = started mode; cache = cache })))
    (Err LimitBroken)
write_begun file offset mode cache None = Err LimitBroken

abbrev pub admitted : List ChunkRow → Wanted → Result Request Denial
admitted table (wanted.Send descriptor s) = send_begun descriptor (descriptor_limits descriptor) (begun table s)
admitted table (wanted.Recv descriptor b n exact) = recv_begun descriptor b n exact
admitted table (wanted.ReadAt file offset b cache) = read_begun file offset b cache
admitted table (wanted.DirectReadAt file descriptor offset n place capacity) = direct_begun file descriptor offset n place capacity
admitted table (wanted.WriteAt file offset s mode cache) = write_begun file offset mode cache (begun table s)
admitted table (wanted.Sync file) = Ok (request.Sync (record { file = file }))
