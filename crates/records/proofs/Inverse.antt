-- The encodings can be undone.
use Rattle.std.proofs.Common.{◌≡◌, ℕ, ◌<◌, get_or, drop, sym, ap, ◌∙◌, arith}
use Rattle.std.proofs.lemmas.Nat.{from_le_bytes-to_le_bytes_4, from_le_bytes-to_le_bytes_8}
use Rattle.std.specs.Int.{from_le_bytes, w32, w64}
use Rattle.records.specs.Bytes.{four, eight, laid_out}
use Rattle.records.specs.Encodings.{Fits, Encodings}
use Rattle.records.specs.declared.submission.Submission.{Submission}

-- equal bytes are of equal numbers

same_four : (x y : ℕ) → x < 4294967296 → y < 4294967296 → from_le_bytes w32 (four x) ≡ from_le_bytes w32 (four y) → x ≡ y
same_four x y hx hy e = sym (from_le_bytes-to_le_bytes_4 x hx) ∙ e ∙ from_le_bytes-to_le_bytes_4 y hy

same_eight : (x y : ℕ) → x < 18446744073709551616 → y < 18446744073709551616 → from_le_bytes w64 (eight x) ≡ from_le_bytes w64 (eight y) → x ≡ y
same_eight x y hx hy e = sym (from_le_bytes-to_le_bytes_8 x hx) ∙ e ∙ from_le_bytes-to_le_bytes_8 y hy

told_apart : (s t : Submission) → Fits s → Fits t → laid_out s ≡ laid_out t → s ≡ t
told_apart s t fs ft e =
    let a : s.opcode ≡ t.opcode = ap (λ l. get_or l 0 0) e in
    let b : s.descriptor ≡ t.descriptor = same_four _ _ fs.descriptor ft.descriptor (ap (λ l. from_le_bytes w32 (drop 4 l)) e) in
    let c : s.offset ≡ t.offset = same_eight _ _ fs.offset ft.offset (ap (λ l. from_le_bytes w64 (drop 8 l)) e) in
    let d : s.place ≡ t.place = same_eight _ _ fs.place ft.place (ap (λ l. from_le_bytes w64 (drop 16 l)) e) in
    let f : s.length ≡ t.length = same_four _ _ fs.length ft.length (ap (λ l. from_le_bytes w32 (drop 24 l)) e) in
    let g : s.flags ≡ t.flags = same_four _ _ fs.flags ft.flags (ap (λ l. from_le_bytes w32 (drop 28 l)) e) in
    let h : s.token ≡ t.token = same_eight _ _ fs.token ft.token (ap (λ l. from_le_bytes w64 (drop 32 l)) e) in
    grind arith

pub encodings : Encodings
encodings = record { told_apart = told_apart; index_back = λ w h. omega arith; generation_back = λ w h. omega arith; fits = λ w h. omega arith }
