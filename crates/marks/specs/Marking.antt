-- What a row of marks says, and how its marks change.
use Rattle.std.specs.Prelude.{ℕ, ◌+◌, ◌-◌, Bool, true, false, cond, List, [], ◌∷◌, replicate, Some, None, Option, nat_lt, slice_set}
use Rattle.records.specs.declared.outcome.Outcome.TheVariants.{LedgerSpent}
use Rattle.ledger.specs.declared.row.Row.{Row}
use Rattle.marks.specs.declared.mark.Mark.{Mark}
use Rattle.marks.specs.declared.mark.Mark.TheVariants.{Unused, Open, Covered}
use Rattle.marks.specs.declared.mark.MarkRow.{MarkRow}
use Rattle.ledger.specs.Meaning.{first_error}

-- a mark that is not unused is a completed write
abbrev pub completed_by : Mark → ℕ
completed_by Unused = 0
completed_by Open = 1
completed_by Covered = 1

abbrev pub covered_by : Mark → ℕ
covered_by Unused = 0
covered_by Open = 0
covered_by Covered = 1

unfoldable pub completed_marks : List Mark → ℕ
completed_marks [] = 0
completed_marks (m ∷ ms) = completed_by m + completed_marks ms

unfoldable pub covered_marks : List Mark → ℕ
covered_marks [] = 0
covered_marks (m ∷ ms) = covered_by m + covered_marks ms

-- what a row of marks says of its file
abbrev pub seen_row : MarkRow → Row
seen_row row = record { completed = completed_marks row.marks; covered = covered_marks row.marks; taint = row.taint }

abbrev pub is_unused : Mark → Bool
is_unused Unused = true
is_unused Open = false
is_unused Covered = false

-- a counted write has the first unused mark; with none left the row is tainted
abbrev pub opened_at : MarkRow → (place : Option ℕ) → MarkRow
opened_at row (Some place) = record { marks = slice_set row.marks place Open; taint = row.taint }
opened_at row None = record { marks = row.marks; taint = first_error row.taint LedgerSpent }

-- an open mark is covered while some are left to cover
abbrev pub covered_mark : ℕ → Mark → Mark
covered_mark n Unused = Unused
covered_mark n Open = cond (nat_lt 0 n) Covered Open
covered_mark n Covered = Covered

abbrev pub left_after : ℕ → Mark → ℕ
left_after n Unused = n
left_after n Open = n - 1
left_after n Covered = n

-- the first n open marks, from the row's start, are covered
unfoldable pub cover_first : ℕ → List Mark → List Mark
cover_first n [] = []
cover_first n (m ∷ ms) = covered_mark n m ∷ cover_first (left_after n m) ms

abbrev pub covered_row : MarkRow → ℕ → MarkRow
covered_row row n = record { marks = cover_first n row.marks; taint = row.taint }

-- no mark is in use
abbrev pub fresh_marks : MarkRow
fresh_marks = record { marks = replicate 256 Unused; taint = None }
