-- The 64 bytes of a submission, offset by offset: the kernel's struct io_uring_sqe, little-endian.
use Rattle.std.specs.Prelude.{ℕ, min, ◌/◌, ◌%◌, List, [], ◌∷◌, ◌++◌, slice_index}
use Rattle.records.specs.declared.submission.Opcode.{Opcode}
use Rattle.records.specs.declared.submission.Opcode.TheVariants.{Writev, Fsync, Read, Write, Send, Recv}
use Rattle.records.specs.declared.submission.Submission.{Submission}

-- the kernel's numbers of operations (io_uring_enter(2), IORING_OP_*)
abbrev pub opcode_number : Opcode → ℕ
opcode_number Writev = 2
opcode_number Fsync = 3
opcode_number Read = 22
opcode_number Write = 23
opcode_number Send = 26
opcode_number Recv = 27

-- a submission's length has 32 bits
abbrev pub length_of_submission : ℕ → ℕ
length_of_submission left = min left 4294967295

-- a 32-bit field, the lowest byte first
abbrev pub four : ℕ → List ℕ
four x = x % 256 ∷ x / 256 % 256 ∷ x / 65536 % 256 ∷ x / 16777216 % 256 ∷ []

-- a 64-bit field
abbrev pub eight : ℕ → List ℕ
eight x = four x ++ (x / 4294967296 % 256 ∷ x / 1099511627776 % 256 ∷ x / 281474976710656 % 256 ∷ x / 72057594037927936 % 256 ∷ [])

-- opcode at 0, flags and ioprio 0, descriptor at 4, offset at 8, address at 16, length at 24,
-- the operation's flags at 28, user_data at 32, and zeros from 40 to 63
abbrev pub laid_out : Submission → List ℕ
laid_out s = (s.opcode ∷ 0 ∷ 0 ∷ 0 ∷ []) ++ (four s.descriptor ++ (eight s.offset ++ (eight s.place
    ++ (four s.length ++ (four s.flags ++ (eight s.token ++ (eight 0 ++ (eight 0 ++ eight 0))))))))

-- the same, from the bytes of each field
abbrev pub in_place : ℕ → (d o p l f t : List ℕ) → List ℕ
in_place opcode d o p l f t =
    opcode ∷ 0 ∷ 0 ∷ 0 ∷ slice_index d 0 ∷ slice_index d 1 ∷ slice_index d 2 ∷ slice_index d 3
    ∷ slice_index o 0 ∷ slice_index o 1 ∷ slice_index o 2 ∷ slice_index o 3 ∷ slice_index o 4 ∷ slice_index o 5 ∷ slice_index o 6 ∷ slice_index o 7
    ∷ slice_index p 0 ∷ slice_index p 1 ∷ slice_index p 2 ∷ slice_index p 3 ∷ slice_index p 4 ∷ slice_index p 5 ∷ slice_index p 6 ∷ slice_index p 7
    ∷ slice_index l 0 ∷ slice_index l 1 ∷ slice_index l 2 ∷ slice_index l 3 ∷ slice_index f 0 ∷ slice_index f 1 ∷ slice_index f 2 ∷ slice_index f 3
    ∷ slice_index t 0 ∷ slice_index t 1 ∷ slice_index t 2 ∷ slice_index t 3 ∷ slice_index t 4 ∷ slice_index t 5 ∷ slice_index t 6 ∷ slice_index t 7
    ∷ 0 ∷ 0 ∷ 0 ∷ 0 ∷ 0 ∷ 0 ∷ 0 ∷ 0 ∷ 0 ∷ 0 ∷ 0 ∷ 0 ∷ 0 ∷ 0 ∷ 0 ∷ 0 ∷ 0 ∷ 0 ∷ 0 ∷ 0 ∷ 0 ∷ 0 ∷ 0 ∷ 0 ∷ []
