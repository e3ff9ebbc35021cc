-- Completions of sends, writes and syncs, by the state of the request and the result together.
use Rattle.std.specs.Prelude.{ℕ, cond, ◌&&◌, List, ◌==◌, nat_lt, Some, None, Option}
use Rattle.records.specs.declared.buffer.ChunkRow.{ChunkRow}
use Rattle.records.specs.declared.mode.Cache.TheVariants.{Enabled}
use Rattle.records.specs.declared.mode.WriteAtState.{WriteAtState}
use Rattle.records.specs.declared.mode.WriteAtState.TheVariants.{Writing, WritingSync, WritingBeforeSync, Syncing}
use Rattle.records.specs.declared.outcome.Outcome.{Outcome}
use Rattle.records.specs.declared.outcome.Outcome.TheVariants.{Ok, Timeout, SendFailed, WriteFailed, Io}
use Rattle.records.specs.declared.write.WriteBuffers.{WriteBuffers}
use Rattle.records.specs.declared.write.WriteBuffers.TheVariants.{Single, Rows}
use Rattle.records.specs.Modes.{hinting}
use Rattle.records.specs.Sums.{plus}
use Rattle.records.specs.Writes.{write_left}
use Rattle.rows.specs.Vectors.{advanced}
use Rattle.request.specs.declared.kinds.SendRequest.{SendRequest}
use Rattle.request.specs.declared.kinds.WriteAtRequest.{WriteAtRequest}
use Rattle.request.specs.declared.kinds.Request.TheVariants.{Send, WriteAt}
use Rattle.cqe.specs.declared.result.CqeResult.{CqeResult}
use Rattle.cqe.specs.declared.result.CqeResult.TheVariants.{Retry, Cancelled, Error, Zero, Count}
use Rattle.cqe.specs.declared.step.Step.{Step}
use Rattle.cqe.specs.Steps.{stepped, unhinted, goes_on, ends}

-- a write with n more bytes reported
abbrev pub write_moved : List ChunkRow → WriteBuffers → ℕ → WriteBuffers
write_moved table (Single s) n = Single (record { place = s.place; length = s.length; done = plus s.done n })
write_moved table (Rows r) n = Rows (record {
  first = r.first;
  count = r.count;
  cursor = advanced table r.first r.count r.cursor n;
  length = r.length;
  done = plus r.done n;
})

abbrev pub send_with : SendRequest → WriteBuffers → SendRequest
send_with q w = record { descriptor = q.descriptor; write = w }

abbrev pub send_step : List ChunkRow → SendRequest → CqeResult → Step
send_step table q Retry = goes_on (Send q)
send_step table q Cancelled = ends (Send q) Timeout
send_step table q (Error code) = ends (Send q) SendFailed
send_step table q Zero = ends (Send q) SendFailed
send_step table q (Count n) = stepped (Send (send_with q (write_moved table q.write n)))
    (cond (nat_lt 0 (write_left (write_moved table q.write n))) None (Some Ok))

-- fsync(2): zero on success, else an error; by the rule a positive result, which it does not give, is success too
abbrev pub sync_outcome : CqeResult → Option Outcome
sync_outcome Retry = None
sync_outcome Cancelled = Some (Io 125)
sync_outcome (Error code) = Some (Io code)
sync_outcome Zero = Some Ok
sync_outcome (Count n) = Some Ok

abbrev pub write_with : WriteAtRequest → WriteBuffers → WriteAtState → WriteAtRequest
write_with q w s = record { file = q.file; offset = q.offset; write = w; state = s; cache = q.cache }

abbrev pub without_hint : WriteAtRequest → WriteAtRequest
without_hint q = record { file = q.file; offset = q.offset; write = q.write; state = q.state; cache = Enabled }

-- no byte is left: the trailing sync is owed, or the write is done
abbrev pub write_whole : WriteAtState → WriteAtRequest → WriteBuffers → Step
write_whole WritingBeforeSync q w = goes_on (WriteAt (write_with q w Syncing))
write_whole Writing q w = ends (WriteAt (write_with q w Writing)) Ok
write_whole WritingSync q w = ends (WriteAt (write_with q w WritingSync)) Ok
write_whole Syncing q w = ends (WriteAt (write_with q w Syncing)) Ok

abbrev pub write_count : List ChunkRow → WriteAtRequest → ℕ → Step
write_count table q n =
    cond (nat_lt 0 (write_left (write_moved table q.write n))) (goes_on (WriteAt (write_with q (write_moved table q.write n) q.state)))
    (write_whole q.state q (write_moved table q.write n))

-- pwritev2(2): RWF_DSYNC is O_DSYNC for one write, so by the rule its error may be one of durability, and the code is told
abbrev pub write_error : WriteAtState → ℕ → Outcome
write_error WritingSync code = Io code
write_error Writing code = WriteFailed
write_error WritingBeforeSync code = WriteFailed
write_error Syncing code = Io code

-- pwritev2(2): EOPNOTSUPP, 95, says that an unknown flag was specified; the rule blames the hint, once
abbrev pub bytes_error : WriteAtRequest → ℕ → Step
bytes_error q code = cond (code == 95 && hinting q.cache) (unhinted (WriteAt (without_hint q))) (ends (WriteAt q) (write_error q.state code))

abbrev pub bytes_step : List ChunkRow → WriteAtRequest → CqeResult → Step
bytes_step table q Retry = goes_on (WriteAt q)
bytes_step table q Cancelled = ends (WriteAt q) WriteFailed
bytes_step table q (Error code) = bytes_error q code
bytes_step table q Zero = ends (WriteAt q) WriteFailed
bytes_step table q (Count n) = write_count table q n

abbrev pub write_step_in : WriteAtState → List ChunkRow → WriteAtRequest → CqeResult → Step
write_step_in Syncing table q k = stepped (WriteAt q) (sync_outcome k)
write_step_in Writing table q k = bytes_step table q k
write_step_in WritingSync table q k = bytes_step table q k
write_step_in WritingBeforeSync table q k = bytes_step table q k

abbrev pub write_step : List ChunkRow → WriteAtRequest → CqeResult → Step
write_step table q k = write_step_in q.state table q k
