-- Not part of any public statement: for proofs and code only. A row's part as the code holds it, and the frames of the
-- cut as they are made.
use Rattle.std.specs.Prelude.{ℕ, ◌*◌, ◌≡◌, Bool, cond, List, length, take, Ok, Err}
use Rattle.ir.specs.declared.RowNumber.{RowNumber}
use Rattle.answers.specs.Answer.{Answer}
use Rattle.frames.specs.declared.Frame.{Frame}
use Rattle.frames.specs.Bytes.{frame_count}
use Rattle.text.specs.Lines.{text_of}
use Rattle.archive.specs.Starts.{starts_of}
use Rattle.archive.specs.Names.{is_row}
use Rattle.rule.specs.Answers.{Typed, given, refused, chosen_refusal, Result, told, newer}
use Rattle.rule.specs.Things.{see}
use Rattle.rule_rows.specs.declared.Pass.TheVariants as Pa
use Rattle.rule_answers.specs.Outputs.{row_answer, frames_bytes}
use Rattle.law_cut.specs.Marks.{no_marks, marks_of}
use Rattle.law_cut.specs.declared.PartOutcome.{PartOutcome}
use Rattle.law_cut.specs.declared.PartOutcome.TheVariants as Po
use Rattle.file_cut.specs.declared.RowOutcome.{RowOutcome}
use Rattle.file_cut.specs.declared.RowOutcome.TheVariants as Ro
use Rattle.file_cut.specs.declared.RowPart.{RowPart}

abbrev pub marked : List Bool → RowPart
marked marks = record { outcome = Ro.Marked; marks = marks }

abbrev pub unmarked : RowOutcome → RowPart
unmarked o = record { outcome = o; marks = no_marks }

-- by the answer that the code holds, and by that of the rules
abbrev pub answered_part : Answer → List Bool → RowPart
answered_part (Ok t) marks = unmarked Ro.Sound
answered_part (Err e) marks = marked marks

abbrev pub typed_part : Result Typed → List Bool → RowPart
typed_part (told (given a)) marks = unmarked Ro.Sound
typed_part (told (refused e)) marks = marked marks
typed_part (told (chosen_refusal f)) marks = marked marks
typed_part (newer p) marks = marked marks

abbrev pub part_over : RowNumber → List ℕ → RowPart
part_over n fr =
    cond (is_row (starts_of fr) n) (typed_part (row_answer Pa.First (see fr) n.0) (marks_of Pa.First fr n.0))
    (unmarked Ro.Index)

-- as it is handed back
abbrev pub outcome_of : RowOutcome → PartOutcome
outcome_of Ro.Marked = Po.Marked
outcome_of Ro.Sound = Po.Sound
outcome_of Ro.Index = Po.Index

-- n frames stand at the front of a buffer: those of a list
pub record Pushed (l : List Frame) (n : ℕ) (buffer : List ℕ) : Type 0 where
  pub count : n ≡ length l
  pub front : take (16 * n) buffer ≡ frames_bytes l

-- the lines of a file's frames
abbrev pub file_text : List ℕ → List ℕ
file_text fr = text_of fr (frame_count fr)
