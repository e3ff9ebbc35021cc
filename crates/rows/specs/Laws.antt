-- What a cursor and a submission's iovecs mean, in bytes.
use Rattle.std.specs.Prelude.{◌≡◌, ℕ, ◌+◌, ◌-◌, ◌<◌, ◌≤◌, cond, List, [], ◌∷◌, take, drop, nat_lt}
use Rattle.records.specs.declared.buffer.ChunkRow.{ChunkRow}
use Rattle.records.specs.declared.buffer.Iovec.{Iovec}
use Rattle.records.specs.declared.write.Cursor.{Cursor}
use Rattle.rows.specs.Vectors.{carried, range, total, advanced, iovecs_of, iovec_bytes}

-- rows of one byte or more, that end where memory does
abbrev pub Sound : List ChunkRow → Type 0
Sound [] = Unit {0}
Sound (r ∷ rs) = (1 ≤ r.length) × (r.place + r.length ≤ 140737488355328) × Sound rs

-- the bytes before a cursor
abbrev pub before : List ChunkRow → Cursor → ℕ
before rows c = total (take c.row rows) + c.within

-- bytes done in the row reached are fewer than it has, and none where no row is left
abbrev pub Inside : List ChunkRow → ℕ → Type 0
Inside [] within = within ≡ 0
Inside (r ∷ rs) within = within < r.length

-- the row that a cursor has reached holds it
abbrev pub Stands : List ChunkRow → Cursor → Type 0
Stands rows c = Inside (drop c.row rows) c.within

-- what is left of rows once so many bytes are taken from their front
abbrev pub left_after : ℕ → List ChunkRow → List Iovec
left_after n [] = []
left_after n (r ∷ rs) = cond (nat_lt n r.length) (record { base = r.place + n; length = r.length - n } ∷ left_after 0 rs) (left_after (n - r.length) rs)

pub record CursorLaws : Type 0 where
  -- a cursor that moves n bytes has n bytes more before it
  pub moves : (table : List ChunkRow) (first count : ℕ) (c : Cursor) (n : ℕ) → Sound (range table first count) → Stands (range table first count) c →
      before (range table first count) c + n ≤ total (range table first count) →
      before (range table first count) (advanced table first count c n) ≡ before (range table first count) c + n
  -- and stands inside its row again
  pub stands : (table : List ChunkRow) (first count : ℕ) (c : Cursor) (n : ℕ) → Sound (range table first count) → Stands (range table first count) c →
      Stands (range table first count) (advanced table first count c n)
  -- a submission's iovecs are the first 1,024 pieces of what is left behind the cursor
  pub carries : (table : List ChunkRow) (first count : ℕ) (c : Cursor) → Sound (range table first count) → Stands (range table first count) c →
      iovecs_of c.within (carried table first count c.row) ≡ take 1024 (left_after (before (range table first count) c) (range table first count))
  -- and have no more bytes than are left
  pub within : (table : List ChunkRow) (first count : ℕ) (c : Cursor) → Sound (range table first count) → Stands (range table first count) c →
      before (range table first count) c + iovec_bytes (iovecs_of c.within (carried table first count c.row)) ≤ total (range table first count)
