-- The rows of a vectored write, their bytes, their cursor and their iovecs.
use Rattle.std.specs.Prelude.{ℕ, ◌+◌, ◌-◌, min, Bool, true, false, cond, ◌&&◌, List, [], ◌∷◌, ◌++◌, length, take, drop, Some, None, Ok, Err, Option, Result, nat_le, nat_lt}
use Rattle.records.specs.declared.buffer.ChunkRow.{ChunkRow}
use Rattle.records.specs.declared.buffer.Iovec.{Iovec}
use Rattle.records.specs.declared.denial.Denial.{Denial}
use Rattle.records.specs.declared.denial.Denial.TheVariants.{ListTooShort}
use Rattle.records.specs.declared.write.Cursor.{Cursor}
use Rattle.records.specs.Limits.{few_bytes, row_limits}
use Rattle.records.specs.Sums.{plus}

-- the rows of a write; a table has its first 65,536 rows
unfoldable pub range : List ChunkRow → (first count : ℕ) → List ChunkRow
range table first count = take count (drop first (take 65536 table))

unfoldable pub all_within : List ChunkRow → Bool
all_within [] = true
all_within (r ∷ rs) = row_limits r && all_within rs

unfoldable pub total : List ChunkRow → ℕ
total [] = 0
total (r ∷ rs) = r.length + total rs

-- two rows or more, inside the table
abbrev pub inside_table : (rows first count : ℕ) → Bool
inside_table rows first count = nat_le 2 count && nat_le (first + count) (min rows 65536)

-- each row within its limits
abbrev pub limited : Bool → ℕ → Option ℕ
limited true n = cond (few_bytes n) (Some n) None
limited false n = None

abbrev pub admitted_total : List ChunkRow → (first count : ℕ) → Option ℕ
admitted_total table first count =
    cond (inside_table (length table) first count) (limited (all_within (range table first count)) (total (range table first count))) None

-- a row from an offset on
abbrev pub iovec_of : ChunkRow → ℕ → Iovec
iovec_of r within = record { base = plus r.place within; length = r.length - within }

-- rows become iovecs, the first one shortened
unfoldable pub iovecs_of : ℕ → List ChunkRow → List Iovec
iovecs_of within [] = []
iovecs_of within (r ∷ rs) = iovec_of r within ∷ iovecs_of 0 rs

unfoldable pub iovec_bytes : List Iovec → ℕ
iovec_bytes [] = 0
iovec_bytes (v ∷ vs) = v.length + iovec_bytes vs

-- the rows that one submission carries: writev(2) takes 1,024 at most (IOV_MAX)
unfoldable pub carried_in : List ChunkRow → (row : ℕ) → List ChunkRow
carried_in rows row = take 1024 (drop row rows)

-- a list that is too short is refused with the places needed
abbrev pub filled_answer_in : List ChunkRow → Cursor → List Iovec → Result ℕ Denial
filled_answer_in rows cursor list =
    cond (nat_lt (length list) (length (carried_in rows cursor.row)))
    (Err (ListTooShort (length (carried_in rows cursor.row))))
    (Ok (length (carried_in rows cursor.row)))

abbrev pub filled_list_in : List ChunkRow → Cursor → List Iovec → List Iovec
filled_list_in rows cursor list =
    cond (nat_lt (length list) (length (carried_in rows cursor.row))) list
    (iovecs_of cursor.within (carried_in rows cursor.row) ++ drop (length (carried_in rows cursor.row)) list)

-- the offset at which so many bytes end, where they end before the row does
abbrev pub stop_in : ChunkRow → (within bytes : ℕ) → Option ℕ
stop_in r within n = cond (nat_lt n (r.length - within)) (Some (within + n)) None

-- from a row on, with some of its bytes done, so many bytes further
unfoldable pub along : List ChunkRow → (row within bytes : ℕ) → Cursor
along [] row within bytes = record { row = row; within = within }
along (r ∷ rs) row within bytes = cond (nat_lt bytes (r.length - within)) (record { row = row; within = within + bytes })
    (along rs (row + 1) 0 (bytes - (r.length - within)))

abbrev pub advanced_in : List ChunkRow → Cursor → (bytes : ℕ) → Cursor
advanced_in rows cursor bytes = along (drop cursor.row rows) cursor.row cursor.within bytes

-- the same, of a range of the table

abbrev pub carried : List ChunkRow → (first count row : ℕ) → List ChunkRow
carried table first count row = carried_in (range table first count) row

abbrev pub filled_answer : List ChunkRow → (first count : ℕ) → Cursor → List Iovec → Result ℕ Denial
filled_answer table first count cursor list = filled_answer_in (range table first count) cursor list

abbrev pub filled_list : List ChunkRow → (first count : ℕ) → Cursor → List Iovec → List Iovec
filled_list table first count cursor list = filled_list_in (range table first count) cursor list

abbrev pub advanced : List ChunkRow → (first count : ℕ) → Cursor → ℕ → Cursor
advanced table first count cursor bytes = advanced_in (range table first count) cursor bytes
