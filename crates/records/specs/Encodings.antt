-- What the encodings keep: the bytes of a submission, and its token.
use Rattle.std.specs.Prelude.{◌≡◌, ◌%◌, ◌<◌}
use Rattle.records.specs.declared.id.WaiterId.{WaiterId}
use Rattle.records.specs.declared.submission.Submission.{Submission}
use Rattle.records.specs.Bytes.{laid_out}
use Rattle.records.specs.Tokens.{token, token_index, token_generation}

-- each field fits its width
pub record Fits (s : Submission) : Type 0 where
  pub opcode : s.opcode < 256
  pub descriptor : s.descriptor < 4294967296
  pub offset : s.offset < 18446744073709551616
  pub place : s.place < 18446744073709551616
  pub length : s.length < 4294967296
  pub flags : s.flags < 4294967296
  pub token : s.token < 18446744073709551616

pub record Encodings : Type 0 where
  -- two submissions with the same bytes are the same
  pub told_apart : (s t : Submission) → Fits s → Fits t → laid_out s ≡ laid_out t → s ≡ t
  -- a token gives back the index and the low half of the generation, and is a 64-bit number
  pub index_back : (w : WaiterId) → w.0.index < 4294967296 → token_index (token w) ≡ w.0.index
  pub generation_back : (w : WaiterId) → w.0.index < 4294967296 → token_generation (token w) ≡ w.0.generation % 4294967296
  pub fits : (w : WaiterId) → w.0.index < 4294967296 → token w < 18446744073709551616
