-- How much a request moves, and how much its next submission asks for.
use Rattle.std.specs.Prelude.{ℕ, ◌-◌, min, List, Some, None, Option}
use Rattle.records.specs.declared.buffer.ChunkRow.{ChunkRow}
use Rattle.records.specs.declared.mode.WriteAtState.{WriteAtState}
use Rattle.records.specs.declared.mode.WriteAtState.TheVariants.{Writing, WritingSync, WritingBeforeSync, Syncing}
use Rattle.records.specs.declared.write.WriteBuffers.{WriteBuffers}
use Rattle.records.specs.declared.write.WriteBuffers.TheVariants.{Single, Rows}
use Rattle.records.specs.Writes.{write_length}
use Rattle.rows.specs.Vectors.{carried, iovecs_of, iovec_bytes}
use Rattle.request.specs.declared.kinds.Direct.{Direct}
use Rattle.request.specs.declared.kinds.ReadAtRequest.{ReadAtRequest}
use Rattle.request.specs.declared.kinds.RecvRequest.{RecvRequest}
use Rattle.request.specs.declared.kinds.Request.{Request}
use Rattle.request.specs.declared.kinds.Request.TheVariants as request

abbrev pub range_of_read : ℕ → Option Direct → ℕ
range_of_read buffered None = buffered
range_of_read buffered (Some d) = d.length

-- the bytes to move in all
abbrev pub bytes_to_move : Request → ℕ
bytes_to_move (request.Send q) = write_length q.write
bytes_to_move (request.Recv q) = q.length
bytes_to_move (request.ReadAt q) = range_of_read q.buffer.length q.direct
bytes_to_move (request.WriteAt q) = write_length q.write
bytes_to_move (request.Sync q) = 0

-- a submission's length has 32 bits; rows are counted by what their iovecs hold (64 bits)
abbrev pub write_submitted : List ChunkRow → WriteBuffers → ℕ
write_submitted table (Single s) = min (s.length - s.done) 4294967295
write_submitted table (Rows r) =
    min (iovec_bytes (iovecs_of r.cursor.within (carried table r.first r.count r.cursor.row))) 18446744073709551615

-- read(2) moves 0x7ffff000 bytes at most, a whole number of pages
abbrev pub most_of_read : Option Direct → ℕ
most_of_read None = 4294967295
most_of_read (Some d) = 2147479552

abbrev pub read_submitted : ReadAtRequest → ℕ
read_submitted q = min (q.buffer.length - q.read) (most_of_read q.direct)

abbrev pub recv_submitted : RecvRequest → ℕ
recv_submitted q = min (q.length - q.received) 4294967295

abbrev pub written_in : WriteAtState → ℕ → ℕ
written_in Writing n = n
written_in WritingSync n = n
written_in WritingBeforeSync n = n
written_in Syncing n = 0

-- the bytes that the next submission asks for; a sync asks for none
abbrev pub bytes_submitted : List ChunkRow → Request → ℕ
bytes_submitted table (request.Send q) = write_submitted table q.write
bytes_submitted table (request.Recv q) = recv_submitted q
bytes_submitted table (request.ReadAt q) = read_submitted q
bytes_submitted table (request.WriteAt q) = written_in q.state (write_submitted table q.write)
bytes_submitted table (request.Sync q) = 0
