-- What asking for the smallest part of a file gives, over its text (document 02, request 12). The file is checked
-- first, and one that is not accepted gives its number and place; then a row that it does not have is number 6, and a
-- row that has a type number 48, both with place 0; else the row is refused, 22 too, and its part is marked. With any
-- number no mark is set. The rules are the first pass's.
use Rattle.std.specs.Prelude.{ℕ, Bool, cond, List, Option, Some, None}
use Rattle.ir.specs.declared.RowNumber.{RowNumber}
use Rattle.answers.specs.declared.FileError.{FileError}
use Rattle.answers.specs.declared.FileError.TheVariants as Fe
use Rattle.answers.specs.Numbers.{Refused, at, no_refusal, not_there, error_values}
use Rattle.text.specs.declared.AnswerRoom.TheVariants.{NotLent}
use Rattle.text.specs.Lines.{text_of}
use Rattle.frames.specs.Bytes.{frame_count}
use Rattle.archive.specs.Starts.{starts_of}
use Rattle.archive.specs.Names.{is_row}
use Rattle.rule.specs.Answers.{Typed, given, refused, chosen_refusal, Result, told, newer}
use Rattle.rule.specs.Things.{see}
use Rattle.rule_rows.specs.declared.Pass.TheVariants as Pa
use Rattle.rule_answers.specs.Outputs.{row_answer}
use Rattle.rule_file.specs.File.{over_file, read_file}
use Rattle.rule_file.specs.Printed.{printed, printed_after}
use Rattle.law_cut.specs.declared.PartOutcome.{PartOutcome}
use Rattle.law_cut.specs.declared.PartOutcome.TheVariants as Po
use Rattle.law_cut.specs.declared.CutText.{CutText}
use Rattle.law_cut.specs.declared.CutText.TheVariants as Ct
use Rattle.law_cut.specs.Marks.{no_marks, marks_of}
use Rattle.law_cut.specs.Cut.{cut_file}

-- SMALLEST_PART

abbrev pub of_answer : Result Typed → PartOutcome
of_answer (told (given a)) = Po.Sound
of_answer (told (refused e)) = Po.Marked
of_answer (told (chosen_refusal f)) = Po.Marked
of_answer (newer p) = Po.Marked

-- of row n of an accepted file, whose frames these are
abbrev pub part_in : RowNumber → List ℕ → PartOutcome
part_in n fr = cond (is_row (starts_of fr) n) (of_answer (row_answer Pa.First (see fr) n.0)) Po.Index

unfoldable pub smallest_part : ℕ → List ℕ → ℕ → RowNumber → PartOutcome
smallest_part limit t f n = over_file Po.NotAccepted (part_in n) t (read_file limit t f NotLent)

-- what holds where a part is marked, else what holds without one
abbrev pub if_marked : {A : Type 0} → A → A → PartOutcome → A
if_marked a b Po.Marked = a
if_marked a b Po.Sound = b
if_marked a b Po.Index = b
if_marked a b (Po.NotAccepted o) = b

-- the marks
unfoldable pub part_marks : ℕ → List ℕ → ℕ → RowNumber → List Bool
part_marks limit t f n =
    over_file (λ (e : FileError). no_marks)
    (λ (fr : List ℕ). if_marked (marks_of Pa.First fr n.0) no_marks (part_in n fr)) t (read_file limit t f NotLent)

-- in the documents' numbers
abbrev pub part_said : PartOutcome → Refused
part_said Po.Marked = no_refusal
part_said Po.Sound = at 48 0
part_said Po.Index = not_there
part_said (Po.NotAccepted e) = error_values e

-- CUT_TEXT: the lines of the cut in a lent buffer, all of them, or number 3 with the buffer unchanged

-- the cut that row n of a file marks, and its lines
abbrev pub part_file : RowNumber → List ℕ → List ℕ
part_file n fr = cut_file (marks_of Pa.First fr n.0) fr

abbrev pub part_text : RowNumber → List ℕ → List ℕ
part_text n fr = text_of (part_file n fr) (frame_count (part_file n fr))

abbrev pub as_lines : ℕ → Option ℕ → CutText
as_lines lines (Some n) = Ct.Lines lines
as_lines lines None = Ct.Short

abbrev pub or_number : CutText → PartOutcome → CutText
or_number c Po.Marked = c
or_number c Po.Sound = Ct.Sound
or_number c Po.Index = Ct.Index
or_number c (Po.NotAccepted o) = Ct.NotAccepted o

-- with a buffer of o bytes
abbrev pub cut_in : RowNumber → ℕ → List ℕ → CutText
cut_in n o fr = or_number (as_lines (frame_count (part_file n fr)) (printed (part_text n fr) o)) (part_in n fr)

unfoldable pub cut_text : ℕ → List ℕ → ℕ → RowNumber → ℕ → CutText
cut_text limit t f n o = over_file Ct.NotAccepted (cut_in n o) t (read_file limit t f NotLent)

-- the buffer after it
unfoldable pub cut_after : ℕ → List ℕ → ℕ → RowNumber → List ℕ → List ℕ
cut_after limit t f n out =
    over_file (λ (e : FileError). out)
    (λ (fr : List ℕ). if_marked (printed_after (part_text n fr) out) out (part_in n fr)) t (read_file limit t f NotLent)

-- in the documents' numbers: 0 with, as place, how many lines are written (docs/DECISIONS.md)
abbrev pub cut_said : CutText → Refused
cut_said (Ct.Lines n) = at 0 n
cut_said Ct.Short = error_values Fe.Short
cut_said Ct.Sound = at 48 0
cut_said Ct.Index = not_there
cut_said (Ct.NotAccepted e) = error_values e
