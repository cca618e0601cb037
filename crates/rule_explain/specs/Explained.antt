-- A file explained to people (docs/EXPLAIN.md): as the typing program prints (document 01, "Cases"), a line for each
-- row and one more after a compose, and one line for a file that is not accepted, in words.
use Rattle.std.specs.Prelude.{ℕ, zero, suc, ◌+◌, ◌*◌, cond, List, [], ◌++◌, eqb, leb, length, Err}
use Rattle.ir.specs.declared.RowNumber.{RowNumber}
use Rattle.answers.specs.declared.FileError.{FileError}
use Rattle.answers.specs.Limit.{max_frames, max_frame_bytes, max_answer_bytes}
use Rattle.answers.specs.Numbers.{SaidOne, asked, instead, at}
use Rattle.text.specs.declared.AnswerRoom.TheVariants.{Lent}
use Rattle.frames.specs.declared.Frame.{Frame}
use Rattle.frames.specs.Bytes.{frame_count, frame_at}
use Rattle.frames.specs.Out.{outcome_frame}
use Rattle.rule_rows.specs.declared.Pass.{Pass}
use Rattle.rule_answers.specs.Outputs.{output_bytes}
use Rattle.rule_file.specs.File.{over_file, read_file}
use Rattle.rule_explain.specs.Answers.{line_of, fault_line}

-- LINES, by their places

-- how many, and each
pub record Lines : Type 0 where
  pub count : ℕ
  pub line : ℕ → List ℕ

-- the first n lines, one after the other
unfoldable pub joined : (ℕ → List ℕ) → ℕ → List ℕ
joined f zero = []
joined f (suc n) = joined f n ++ f n

-- all of them, one after the other
abbrev pub all_of : Lines → List ℕ
all_of l = joined l.line l.count

-- A FILE'S LINES

-- the next row, after an answer or a verdict
unfoldable pub next_row : RowNumber → Frame → RowNumber
next_row row f = cond (eqb f.b0 11) row (record { 0 = row.0 + 1 })

-- the next row before frame k of what is handed back
unfoldable pub row_at : List ℕ → ℕ → RowNumber
row_at an zero = record { 0 = 0 }
row_at an (suc k) = next_row (row_at an k) (frame_at an k)

-- line k: of frame k of what is handed back, `an`, in a file whose frames are `fr`
abbrev pub line_at : List ℕ → List ℕ → ℕ → List ℕ
line_at fr an k = line_of fr (row_at an k) (frame_at an k)

-- a line for each frame handed back
abbrev pub answer_lines : List ℕ → List ℕ → Lines
answer_lines fr an = record { count = frame_count an; line = line_at fr an }

-- those of an accepted file, whose frames these are, by a pass
abbrev pub file_lines : Pass → List ℕ → Lines
file_lines pass fr = answer_lines fr (output_bytes pass fr)

-- that of a file that is not accepted
abbrev pub fault_lines : FileError → Lines
fault_lines e = record { count = 1; line = λ (k : ℕ). fault_line (outcome_frame (Err e)) }

-- those of a text by a pass and within a limit, with buffers of the largest sizes that a file asks for
unfoldable pub lines_of : Pass → (limit : ℕ) → List ℕ → Lines
lines_of pass limit t =
    over_file fault_lines (file_lines pass) t (read_file limit t max_frame_bytes (Lent max_answer_bytes))

-- THE TEXT for people
abbrev pub explained : Pass → (limit : ℕ) → List ℕ → List ℕ
explained pass limit t = all_of (lines_of pass limit t)

-- the bytes that it fits into, whatever the file: two lines for each frame, of at most 142 bytes each
abbrev pub max_explained_bytes : ℕ
max_explained_bytes = 2 * 142 * max_frames

-- IN THE DOCUMENT'S NUMBERS, with a buffer of o bytes: how many bytes the lines have, or number 3, place 0, where there
-- is no room for all of them
abbrev pub lines_said : List ℕ → ℕ → SaidOne ℕ
lines_said lines o = cond (leb (length lines) o) (asked (length lines)) (instead (at 3 0))
