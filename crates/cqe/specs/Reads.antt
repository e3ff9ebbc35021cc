-- Completions of receives and reads, by the state of the request and the result together.
use Rattle.std.specs.Prelude.{ℕ, ◌-◌, ◌%◌, cond, ◌&&◌, Some, None, Option, ◌==◌, nat_le, nat_lt}
use Rattle.records.specs.declared.buffer.Buffer.{Buffer}
use Rattle.records.specs.declared.mode.Cache.TheVariants.{Enabled, Disabled}
use Rattle.records.specs.declared.outcome.Outcome.TheVariants.{Ok, Timeout, RecvFailed, ReadFailed, BlobInsufficientLength}
use Rattle.records.specs.Modes.{hinting}
use Rattle.records.specs.Sums.{plus}
use Rattle.request.specs.declared.kinds.Direct.{Direct}
use Rattle.request.specs.declared.kinds.ReadAtRequest.{ReadAtRequest}
use Rattle.request.specs.declared.kinds.RecvRequest.{RecvRequest}
use Rattle.request.specs.declared.kinds.Request.TheVariants.{Recv, ReadAt}
use Rattle.cqe.specs.declared.result.CqeResult.{CqeResult}
use Rattle.cqe.specs.declared.result.CqeResult.TheVariants.{Retry, Cancelled, Error, Zero, Count}
use Rattle.cqe.specs.declared.step.Step.{Step}
use Rattle.cqe.specs.Steps.{stepped, unhinted, goes_on, ends}

abbrev pub received_more : RecvRequest → ℕ → RecvRequest
received_more q n = record { descriptor = q.descriptor; buffer = q.buffer; length = q.length; received = plus q.received n; exact = q.exact }

-- recv(2): no bytes are the end of the stream
abbrev pub recv_step : RecvRequest → CqeResult → Step
recv_step q Retry = goes_on (Recv q)
recv_step q Cancelled = ends (Recv q) Timeout
recv_step q (Error code) = ends (Recv q) RecvFailed
recv_step q Zero = ends (Recv q) RecvFailed
recv_step q (Count n) = stepped (Recv (received_more q n)) (cond (q.exact && nat_lt (plus q.received n) q.length) None (Some Ok))

-- the part of a superset's buffer that holds the range
abbrev pub narrowed : Buffer → Direct → Buffer
narrowed b d = record { place = plus b.place d.skip; capacity = b.capacity - d.skip; length = d.length }

-- direct reading given up: a hinting buffered read of the whole range, from its start
abbrev pub given_up : ReadAtRequest → Direct → ReadAtRequest
given_up q d = record { file = q.file; offset = plus q.offset d.skip; read = 0; buffer = narrowed q.buffer d; cache = Disabled; direct = None }

abbrev pub read_more : ReadAtRequest → ℕ → ReadAtRequest
read_more q n = record { file = q.file; offset = q.offset; read = plus q.read n; buffer = q.buffer; cache = q.cache; direct = q.direct }

abbrev pub read_whole : ReadAtRequest → Direct → ℕ → ReadAtRequest
read_whole q d n = record { file = q.file; offset = q.offset; read = plus q.read n; buffer = narrowed q.buffer d; cache = q.cache; direct = q.direct }

abbrev pub without_hint : ReadAtRequest → ReadAtRequest
without_hint q = record { file = q.file; offset = q.offset; read = q.read; buffer = q.buffer; cache = Enabled; direct = q.direct }

-- the range is covered, or whole pages came, or direct reading is given up
abbrev pub direct_count : ReadAtRequest → Direct → ℕ → Step
direct_count q d n =
    cond (nat_le (plus d.skip d.length) (plus q.read n)) (ends (ReadAt (read_whole q d n)) Ok)
    (cond (n % 4096 == 0) (goes_on (ReadAt (read_more q n)))
    (goes_on (ReadAt (given_up q d))))

-- a cancellation ends a direct read, granted or not; any other error gives direct reading up
abbrev pub direct_error : ReadAtRequest → Direct → ℕ → Step
direct_error q d code = cond (code == 125) (ends (ReadAt q) ReadFailed) (goes_on (ReadAt (given_up q d)))

abbrev pub direct_step : ReadAtRequest → Direct → CqeResult → Step
direct_step q d Retry = goes_on (ReadAt q)
direct_step q d Cancelled = ends (ReadAt q) ReadFailed
direct_step q d (Error code) = direct_error q d code
direct_step q d Zero = goes_on (ReadAt (given_up q d))
direct_step q d (Count n) = direct_count q d n

abbrev pub buffered_count : ReadAtRequest → ℕ → Step
buffered_count q n = stepped (ReadAt (read_more q n)) (cond (nat_lt (plus q.read n) q.buffer.length) None (Some Ok))

-- preadv2(2): EOPNOTSUPP, 95, says that an unknown flag was specified; the rule blames the hint, once
abbrev pub buffered_error : ReadAtRequest → ℕ → Step
buffered_error q code = cond (code == 95 && hinting q.cache) (unhinted (ReadAt (without_hint q))) (ends (ReadAt q) ReadFailed)

-- read(2): no bytes are the file's end
abbrev pub buffered_step : ReadAtRequest → CqeResult → Step
buffered_step q Retry = goes_on (ReadAt q)
buffered_step q Cancelled = ends (ReadAt q) ReadFailed
buffered_step q (Error code) = buffered_error q code
buffered_step q Zero = ends (ReadAt q) BlobInsufficientLength
buffered_step q (Count n) = buffered_count q n

abbrev pub read_step_in : Option Direct → ReadAtRequest → CqeResult → Step
read_step_in (Some d) q k = direct_step q d k
read_step_in None q k = buffered_step q k

abbrev pub read_step : ReadAtRequest → CqeResult → Step
read_step q k = read_step_in q.direct q k
