-- The bytes of a write, and how many of them are reported.
use Rattle.std.specs.Prelude.{ℕ, ◌-◌}
use Rattle.records.specs.declared.write.SingleWrite.{SingleWrite}
use Rattle.records.specs.declared.write.WriteBuffers.{WriteBuffers}
use Rattle.records.specs.declared.write.WriteBuffers.TheVariants.{Single, Rows}
use Rattle.records.specs.Bytes.{length_of_submission}

abbrev pub write_length : WriteBuffers → ℕ
write_length (Single s) = s.length
write_length (Rows r) = r.length

abbrev pub write_done : WriteBuffers → ℕ
write_done (Single s) = s.done
write_done (Rows r) = r.done

abbrev pub write_left : WriteBuffers → ℕ
write_left w = write_length w - write_done w

-- the bytes that the next submission asks for
abbrev pub single_submitted : SingleWrite → ℕ
single_submitted s = length_of_submission (s.length - s.done)
