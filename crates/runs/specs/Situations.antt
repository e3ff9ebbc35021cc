-- Worked situations: what a request and its completions come to, number by number.
use Rattle.std.specs.Prelude.{◌≡◌, ℕ, true, List, [], ◌∷◌, replicate, ℤ, pos, negsuc, Some, None, Ok, Err, Option, Result}
use Rattle.records.specs.Answers.{denial_number, denial_value}
use Rattle.records.specs.Tokens.{token}
use Rattle.records.specs.declared.buffer.ChunkRow.{ChunkRow}
use Rattle.records.specs.declared.denial.Denial.{Denial}
use Rattle.records.specs.declared.id.FileId.{FileId}
use Rattle.records.specs.declared.mode.Cache.TheVariants.{Enabled}
use Rattle.records.specs.declared.mode.WriteMode.TheVariants.{Writing, WritingBeforeSync}
use Rattle.records.specs.declared.outcome.Outcome.{Outcome}
use Rattle.records.specs.declared.outcome.Outcome.TheVariants as outcome
use Rattle.records.specs.declared.output.RequestOutput.{RequestOutput}
use Rattle.records.specs.declared.output.RequestOutput.TheVariants as output
use Rattle.records.specs.declared.waiter.WaiterState.{WaiterState}
use Rattle.records.specs.declared.waiter.WaiterState.TheVariants.{Active, CancelRequested}
use Rattle.records.specs.declared.write.Source.TheVariants.{Single, Rows}
use Rattle.request.specs.declared.kinds.Request.{Request}
use Rattle.request.specs.declared.kinds.Wanted.{Wanted}
use Rattle.request.specs.declared.kinds.Wanted.TheVariants as wanted
use Rattle.request.specs.Admission.{admitted, skip, superset_start, aligned_end}
use Rattle.request.specs.Completing.{output_of}
use Rattle.cqe.specs.declared.step.Step.{Step}
use Rattle.cqe.specs.Cqe.{on_cqe}
use Rattle.sqe.specs.declared.Staged.{Staged}
use Rattle.sqe.specs.Building.{built}
use Rattle.runs.specs.Laws.{most_completions}

-- a transfer that is to be submitted, one that ended with its output, or the number and value of a refusal
pub data Shown : Type 0 where
  asks_next : (opcode descriptor offset place length : ℕ) → Shown
  ends : RequestOutput → Shown
  refused : ℕ → Option ℕ → Shown

pub data Played : Type 0 where
  running : Request → Played
  over : Request → Outcome → Played
  denied : Denial → Played

abbrev pub began : Result Request Denial → Played
began (Ok q) = running q
began (Err d) = denied d

abbrev pub judged : Option Outcome → Request → Played
judged None q = running q
judged (Some o) q = over q o

abbrev pub heard_by : Result Step Denial → Played
heard_by (Ok s) = judged s.outcome s.request
heard_by (Err d) = denied d

abbrev pub completed_with : List ChunkRow → WaiterState → Played → ℤ → Played
completed_with table state (running q) r = heard_by (on_cqe table q state r)
completed_with table state (over q o) r = over q o
completed_with table state (denied d) r = denied d

-- results one after the other, with no cancel
abbrev pub results : List ChunkRow → Played → List ℤ → Played
results table p [] = p
results table p (r ∷ rs) = results table (completed_with table (Active None) p r) rs

abbrev pub asked : Result Staged Denial → Shown
asked (Ok s) = asks_next s.submission.opcode s.submission.descriptor s.submission.offset s.submission.place s.submission.length
asked (Err d) = refused (denial_number d) (denial_value d)

-- on a file with descriptor 3, with no iovec list
abbrev pub shown : List ChunkRow → Played → Shown
shown table (running q) = asked (built table q (record { descriptor = 3; hints = true; token = 0; list = 0 }) [])
shown table (over q o) = ends (output_of q o)
shown table (denied d) = refused (denial_number d) (denial_value d)

abbrev pub file : FileId
file = record { 0 = record { index = 0; generation = 0 } }

abbrev pub direct_at : (offset bytes : ℕ) → Wanted
direct_at offset n = wanted.DirectReadAt file 4 offset n 4096 12288

abbrev pub read_at : (offset bytes : ℕ) → Wanted
read_at offset n = wanted.ReadAt file offset (record { place = 4096; capacity = 12288; length = n }) Enabled

-- three bytes at place 100, then a data sync
abbrev pub three : Wanted
three = wanted.WriteAt file 7 (Single 100 3) WritingBeforeSync Enabled

abbrev pub many : List ChunkRow
many = replicate 1025 (record { place = 4096; length = 1 })

abbrev pub write_many : Wanted
write_many = wanted.WriteAt file 0 (Rows 0 1025) Writing Enabled

abbrev pub write_nothing : Wanted
write_nothing = wanted.WriteAt file 0 (Single 100 0) Writing Enabled

pub record Situations : Type 0 where
  -- index 5, generation 4,294,967,299
  pub token_packs : token (record { 0 = record { index = 5; generation = 4294967299 } }) ≡ 12884901893
  -- 10,000 bytes at 5,000: the pages from 4,096 to 16,384
  pub direct_skip : skip 5000 ≡ 904
  pub direct_start : superset_start 5000 ≡ 4096
  pub direct_end : aligned_end 5000 10000 ≡ 16384
  pub direct_begins : shown [] (began (admitted [] (direct_at 5000 10000))) ≡ asks_next 22 4 4096 4096 12288
  pub direct_goes_on : shown [] (results [] (began (admitted [] (direct_at 5000 10000))) (pos 8192 ∷ [])) ≡ asks_next 22 4 12288 12288 4096
  pub direct_covers : shown [] (results [] (began (admitted [] (direct_at 5000 10000))) (pos 8192 ∷ pos 2712 ∷ []))
      ≡ ends (output.ReadAt outcome.Ok (record { place = 5000; capacity = 11384; length = 10000 }))
  -- one byte less gives direct reading up: the whole range, buffered
  pub direct_given_up : shown [] (results [] (began (admitted [] (direct_at 5000 10000))) (pos 8192 ∷ pos 2711 ∷ [])) ≡ asks_next 22 3 5000 5000 10000
  pub direct_bound : most_completions [] (direct_at 5000 10000) ≡ 10004
  -- 2^63 - 4,096 with 1 byte: its page ends at 2^63
  pub last_page_direct : shown [] (began (admitted [] (direct_at 9223372036854771712 1))) ≡ refused 3 None
  pub last_page_buffered : shown [] (began (admitted [] (read_at 9223372036854771712 1))) ≡ asks_next 22 3 9223372036854771712 4096 1
  pub page_before_direct : shown [] (began (admitted [] (direct_at 9223372036854771711 1))) ≡ asks_next 22 4 9223372036854767616 4096 4096
  -- 2^63 - 2 with 1 byte and with 2
  pub last_byte : shown [] (began (admitted [] (read_at 9223372036854775806 1))) ≡ asks_next 22 3 9223372036854775806 4096 1
  pub past_last_byte : shown [] (began (admitted [] (read_at 9223372036854775806 2))) ≡ refused 2 None
  -- 2, -11, 1, 0
  pub write_goes_on : shown [] (results [] (began (admitted [] three)) (pos 2 ∷ negsuc 10 ∷ [])) ≡ asks_next 23 3 9 102 1
  pub write_owes_sync : shown [] (results [] (began (admitted [] three)) (pos 2 ∷ negsuc 10 ∷ pos 1 ∷ [])) ≡ asks_next 3 3 0 0 0
  pub write_ends : shown [] (results [] (began (admitted [] three)) (pos 2 ∷ negsuc 10 ∷ pos 1 ∷ pos 0 ∷ [])) ≡ ends (output.WriteAt outcome.Ok)
  -- the same with a cancel before the 1: no sync
  pub write_cancelled : shown [] (completed_with [] CancelRequested (results [] (began (admitted [] three)) (pos 2 ∷ negsuc 10 ∷ [])) (pos 1)) ≡ ends (output.WriteAt outcome.Timeout)
  -- -4,095 and -4,096
  pub lowest_fits : shown [] (results [] (began (admitted [] (read_at 0 10))) (negsuc 4094 ∷ [])) ≡ ends (output.ReadAt outcome.ReadFailed (record { place = 4096; capacity = 12288; length = 0 }))
  pub below_lowest : shown [] (results [] (began (admitted [] (read_at 0 10))) (negsuc 4095 ∷ [])) ≡ refused 12 (Some 10)
  pub lowest_of_sync : shown [] (results [] (began (admitted [] (wanted.Sync file))) (negsuc 4094 ∷ [])) ≡ ends (output.Sync (outcome.Io 4095))
  pub below_lowest_of_sync : shown [] (results [] (began (admitted [] (wanted.Sync file))) (negsuc 4095 ∷ [])) ≡ refused 12 (Some 2147483647)
  -- 1,025 rows of one byte
  pub batch_fits : shown many (results many (began (admitted many write_many)) (pos 1024 ∷ pos 1 ∷ [])) ≡ ends (output.WriteAt outcome.Ok)
  pub past_batch : shown many (results many (began (admitted many write_many)) (pos 1025 ∷ [])) ≡ refused 12 (Some 1024)
  -- nothing to write
  pub empty_write : shown [] (results [] (began (admitted [] write_nothing)) (pos 0 ∷ [])) ≡ ends (output.WriteAt outcome.Ok)
  pub empty_write_misfit : shown [] (results [] (began (admitted [] write_nothing)) (pos 1 ∷ [])) ≡ refused 12 (Some 0)
