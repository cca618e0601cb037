-- Least and greatest size of a type of a file, over the file's text (document 02, request 6): the file is checked
-- first, and one that is not accepted gives its number and place.
use Rattle.rule_ranges.specs.declared.RangeError.TheVariants as Ge
use Rattle.std.specs.Prelude.{ℕ, Bool, cond, ◌||◌, List, ltb, length, Option, Some, None, Err}
use Rattle.ir.specs.declared.TypeNumber.{TypeNumber}
use Rattle.answers.specs.Numbers.{SaidOne, instead, at, not_there}
use Rattle.text.specs.declared.AnswerRoom.TheVariants.{NotLent}
use Rattle.text.specs.Room.{short_read}
use Rattle.archive.specs.Starts.{starts_of}
use Rattle.archive.specs.Names.{is_type}
use Rattle.rule_ranges.specs.TypeRange.{TypeRange, range_error}
use Rattle.rule_ranges.specs.Counts.{Counts}
use Rattle.rule_ranges.specs.Ranges.{counts_of, range_in, faulty_span, type_range_in, SizeRange, range_said}
use Rattle.rule_file.specs.File.{over_file, read_file, frames_after}
use Rattle.rule_file_sizes.specs.Sizes.{file_instead}

-- A TABLE OF FEWER THAN 1,024 COUNTS is a lent buffer too small: number 3, unless the text has number 1 or 2
abbrev pub tables_short : List ℕ → List ℕ → Bool
tables_short least greatest = ltb (length least) 1024 || ltb (length greatest) 1024

-- what holds where a table is too small, else what holds where both have room
abbrev pub by_tables : {A : Type 0} → List ℕ → List ℕ → A → A → A
by_tables least greatest short enough = cond (tables_short least greatest) short enough

-- alignment, least and greatest size of type n; 42, 43 or 44 with the lowest faulty type, 45 with the lowest override
-- at fault, or 6
unfoldable pub size_range : ℕ → List ℕ → ℕ → List ℕ → List ℕ → TypeNumber → TypeRange
size_range limit t f least greatest n =
    by_tables least greatest (Err (Ge.NotAccepted (short_read limit t)))
    (over_file range_error
    (λ (fr : List ℕ). type_range_in fr (starts_of fr) (counts_of least) (counts_of greatest) n) t
    (read_file limit t f NotLent))

-- IN THE DOCUMENT'S NUMBERS: alignment, least and greatest size in bytes; 45 and the lowest override at fault, before
-- 42, 43 or 44 and the lowest faulty type; number 6, place 0, where there is no such type; or the file's own number and
-- place

abbrev pub span_first : Option ℕ → SaidOne SizeRange → SaidOne SizeRange
span_first (Some o) r = instead (at 45 o)
span_first None r = r

-- of a file whose frames these are
abbrev pub range_values : Counts → Counts → TypeNumber → List ℕ → SaidOne SizeRange
range_values least greatest n fr =
    cond (is_type (starts_of fr) n)
    (span_first (faulty_span (starts_of fr) least greatest) (range_said (range_in fr (starts_of fr) least greatest n)))
    (instead not_there)

-- of a text and two tables
unfoldable pub size_range_said : ℕ → List ℕ → ℕ → List ℕ → List ℕ → TypeNumber → SaidOne SizeRange
size_range_said limit t f least greatest n =
    by_tables least greatest (file_instead (short_read limit t))
    (over_file file_instead (range_values (counts_of least) (counts_of greatest) n) t (read_file limit t f NotLent))

-- the frame buffer after it: as it was where a table is too small
unfoldable pub frames_ranged : ℕ → List ℕ → List ℕ → List ℕ → List ℕ → List ℕ
frames_ranged limit t fr least greatest = by_tables least greatest fr (frames_after limit t fr NotLent)
