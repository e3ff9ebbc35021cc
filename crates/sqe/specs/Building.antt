-- The next submission of a request: the fields of io_uring_enter(2)'s submission entry, by opcode.
-- Flags have the numbers of the kernel's headers, as opcodes have (`opcode_number`); the pages have their names alone.
use Rattle.std.specs.Prelude.{ℕ, ◌+◌, ◌-◌, min, Bool, true, false, List, Some, None, Ok, Err, Option, Result}
use Rattle.records.specs.declared.buffer.ChunkRow.{ChunkRow}
use Rattle.records.specs.declared.buffer.Iovec.{Iovec}
use Rattle.records.specs.declared.denial.Denial.{Denial}
use Rattle.records.specs.declared.mode.Cache.{Cache}
use Rattle.records.specs.declared.mode.Cache.TheVariants.{Enabled, Disabled}
use Rattle.records.specs.declared.mode.WriteAtState.{WriteAtState}
use Rattle.records.specs.declared.mode.WriteAtState.TheVariants.{Writing, WritingSync, WritingBeforeSync, Syncing}
use Rattle.records.specs.declared.submission.Opcode.{Opcode}
use Rattle.records.specs.declared.submission.Opcode.TheVariants as op
use Rattle.records.specs.declared.submission.Submission.{Submission}
use Rattle.records.specs.declared.write.WriteBuffers.{WriteBuffers}
use Rattle.records.specs.declared.write.WriteBuffers.TheVariants.{Single, Rows}
use Rattle.records.specs.Bytes.{opcode_number}
use Rattle.records.specs.Sums.{plus}
use Rattle.records.specs.Writes.{write_done}
use Rattle.rows.specs.Vectors.{filled_answer, filled_list}
use Rattle.request.specs.declared.kinds.Direct.{Direct}
use Rattle.request.specs.declared.kinds.ReadAtRequest.{ReadAtRequest}
use Rattle.request.specs.declared.kinds.RecvRequest.{RecvRequest}
use Rattle.request.specs.declared.kinds.SendRequest.{SendRequest}
use Rattle.request.specs.declared.kinds.WriteAtRequest.{WriteAtRequest}
use Rattle.request.specs.declared.kinds.Request.{Request}
use Rattle.request.specs.declared.kinds.Request.TheVariants as request
use Rattle.sqe.specs.declared.Part.{Part}
use Rattle.sqe.specs.declared.Setting.{Setting}
use Rattle.sqe.specs.declared.Staged.{Staged}

-- a hint is dropped on a file that is known not to support it
abbrev pub kept_hint : Cache → (hints : Bool) → Cache
kept_hint Enabled hints = Enabled
kept_hint Disabled true = Disabled
kept_hint Disabled false = Enabled

-- RWF_DONTCACHE is 0x80
abbrev pub hint_flag : Cache → ℕ
hint_flag Enabled = 0
hint_flag Disabled = 128

-- RWF_DSYNC is 0x2
abbrev pub sync_flag : WriteAtState → ℕ
sync_flag Writing = 0
sync_flag WritingSync = 2
sync_flag WritingBeforeSync = 0
sync_flag Syncing = 0

-- IORING_OP_WRITEV: its address is the list's, its length the number of iovecs
abbrev pub rows_part : (list : ℕ) → Result ℕ Denial → Result Part Denial
rows_part list (Ok count) = Ok (record { opcode = op.Writev; place = list; length = count })
rows_part list (Err d) = Err d

-- one place from its first unreported byte on, or the iovecs of rows
abbrev pub part_of : List ChunkRow → WriteBuffers → (plain : Opcode) → (list : ℕ) → List Iovec → Result Part Denial
part_of table (Single s) plain list iovecs =
    Ok (record { opcode = plain; place = plus s.place s.done; length = min (s.length - s.done) 4294967295 })
part_of table (Rows r) plain list iovecs = rows_part list (filled_answer table r.first r.count r.cursor iovecs)

abbrev pub part_list : List ChunkRow → WriteBuffers → List Iovec → List Iovec
part_list table (Single s) iovecs = iovecs
part_list table (Rows r) iovecs = filled_list table r.first r.count r.cursor iovecs

-- IORING_FSYNC_DATASYNC is 1; a sync has no range
abbrev pub datasync : Setting → Submission
datasync s = record { opcode = opcode_number op.Fsync; descriptor = s.descriptor; offset = 0; place = 0; length = 0; flags = 1; token = s.token }

-- a socket has no offset and no flags
abbrev pub send_built : SendRequest → Setting → Result Part Denial → Result Staged Denial
send_built q s (Ok p) = Ok (record {
  request = request.Send q;
  submission = record {
    opcode = opcode_number p.opcode;
    descriptor = q.descriptor;
    offset = 0;
    place = p.place;
    length = p.length;
    flags = 0;
    token = s.token;
  };
})
send_built q s (Err d) = Err d

abbrev pub recv_built : RecvRequest → Setting → Staged
recv_built q s = record {
  request = request.Recv q;
  submission = record {
    opcode = opcode_number op.Recv;
    descriptor = q.descriptor;
    offset = 0;
    place = plus q.buffer.place q.received;
    length = min (q.length - q.received) 4294967295;
    flags = 0;
    token = s.token;
  };
}

abbrev pub read_with : ReadAtRequest → Cache → ReadAtRequest
read_with q c = record { file = q.file; offset = q.offset; read = q.read; buffer = q.buffer; cache = c; direct = q.direct }

-- a direct read asks for whole pages, 0x7ffff000 bytes at most, of its own descriptor
abbrev pub direct_built : ReadAtRequest → Direct → Setting → Staged
direct_built q d s = record {
  request = request.ReadAt q;
  submission = record {
    opcode = opcode_number op.Read;
    descriptor = d.descriptor;
    offset = plus q.offset q.read;
    place = plus q.buffer.place q.read;
    length = min (q.buffer.length - q.read) 2147479552;
    flags = 0;
    token = s.token;
  };
}

abbrev pub buffered_built : ReadAtRequest → Setting → Staged
buffered_built q s = record {
  request = request.ReadAt (read_with q (kept_hint q.cache s.hints));
  submission = record {
    opcode = opcode_number op.Read;
    descriptor = s.descriptor;
    offset = plus q.offset q.read;
    place = plus q.buffer.place q.read;
    length = min (q.buffer.length - q.read) 4294967295;
    flags = hint_flag (kept_hint q.cache s.hints);
    token = s.token;
  };
}

abbrev pub read_built_in : Option Direct → ReadAtRequest → Setting → Staged
read_built_in (Some d) q s = direct_built q d s
read_built_in None q s = buffered_built q s

abbrev pub read_built : ReadAtRequest → Setting → Staged
read_built q s = read_built_in q.direct q s

abbrev pub write_with : WriteAtRequest → Cache → WriteAtRequest
write_with q c = record { file = q.file; offset = q.offset; write = q.write; state = q.state; cache = c }

abbrev pub bytes_built : WriteAtRequest → Setting → Result Part Denial → Result Staged Denial
bytes_built q s (Ok p) = Ok (record {
  request = request.WriteAt (write_with q (kept_hint q.cache s.hints));
  submission = record {
    opcode = opcode_number p.opcode;
    descriptor = s.descriptor;
    offset = plus q.offset (write_done q.write);
    place = p.place;
    length = p.length;
    flags = sync_flag q.state + hint_flag (kept_hint q.cache s.hints);
    token = s.token;
  };
})
bytes_built q s (Err d) = Err d

abbrev pub write_built : WriteAtState → List ChunkRow → WriteAtRequest → Setting → List Iovec → Result Staged Denial
write_built Syncing table q s iovecs = Ok (record { request = request.WriteAt q; submission = datasync s })
write_built Writing table q s iovecs = bytes_built q s (part_of table q.write op.Write s.list iovecs)
write_built WritingSync table q s iovecs = bytes_built q s (part_of table q.write op.Write s.list iovecs)
write_built WritingBeforeSync table q s iovecs = bytes_built q s (part_of table q.write op.Write s.list iovecs)

abbrev pub write_list : WriteAtState → List ChunkRow → WriteAtRequest → List Iovec → List Iovec
write_list Syncing table q iovecs = iovecs
write_list Writing table q iovecs = part_list table q.write iovecs
write_list WritingSync table q iovecs = part_list table q.write iovecs
write_list WritingBeforeSync table q iovecs = part_list table q.write iovecs

abbrev pub built : List ChunkRow → Request → Setting → List Iovec → Result Staged Denial
built table (request.Send q) s iovecs = send_built q s (part_of table q.write op.Send s.list iovecs)
built table (request.Recv q) s iovecs = Ok (recv_built q s)
built table (request.ReadAt q) s iovecs = Ok (read_built q s)
built table (request.WriteAt q) s iovecs = write_built q.state table q s iovecs
built table (request.Sync q) s iovecs = Ok (record { request = request.Sync q; submission = datasync s })

abbrev pub built_list : List ChunkRow → Request → List Iovec → List Iovec
built_list table (request.Send q) iovecs = part_list table q.write iovecs
built_list table (request.Recv q) iovecs = iovecs
built_list table (request.ReadAt q) iovecs = iovecs
built_list table (request.WriteAt q) iovecs = write_list q.state table q iovecs
built_list table (request.Sync q) iovecs = iovecs
