-- What the exported function of marks returns and leaves: the marks as a table of bytes, 1 where a row is marked and
-- else 0. A table of fewer than 1,024 bytes is a lent buffer too small: number 3, unless the text has number 1 or 2.
use Rattle.std.specs.Prelude.{ℕ, Bool, cond, List, ◌++◌, ltb, length, drop}
use Rattle.scan.specs.Lists.{build}
use Rattle.ir.specs.declared.RowNumber.{RowNumber}
use Rattle.answers.specs.Numbers.{Refused, error_values}
use Rattle.text.specs.declared.AnswerRoom.TheVariants.{NotLent}
use Rattle.text.specs.Room.{short_read}
use Rattle.rule_file.specs.File.{frames_after}
use Rattle.law_cut.specs.Marks.{max_marks, is_marked}
use Rattle.law_cut.specs.File.{smallest_part, part_marks, part_said}

abbrev pub mark_byte : List Bool → ℕ → ℕ
mark_byte marks k = cond (is_marked marks k) 1 0

abbrev pub mark_bytes : List Bool → List ℕ
mark_bytes marks = build (mark_byte marks) max_marks

-- what holds of a table that is too small, else what holds of one that has room
abbrev pub by_table : {A : Type 0} → List ℕ → A → A → A
by_table table short enough = cond (ltb (length table) max_marks) short enough

-- the number that is returned, and its frame
unfoldable pub part_exported : ℕ → List ℕ → ℕ → RowNumber → List ℕ → Refused
part_exported limit t f n table =
    by_table table (error_values (short_read limit t)) (part_said (smallest_part limit t f n))

-- the frame buffer and the table after it: with any number of the file or the row the table is all 0
unfoldable pub frames_marked : ℕ → List ℕ → List ℕ → List ℕ → List ℕ
frames_marked limit t fr table = by_table table fr (frames_after limit t fr NotLent)

unfoldable pub table_after : ℕ → List ℕ → ℕ → RowNumber → List ℕ → List ℕ
table_after limit t f n table = by_table table table (mark_bytes (part_marks limit t f n) ++ drop max_marks table)
