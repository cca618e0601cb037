-- Typing the rows of a file, over its text (document 01, the end of "The file", "Numbers handed back" and "Cases"): the
-- file is checked first, with the answer buffer's length; one that is not accepted gives its number and place and
-- leaves the answer buffer unchanged.
use Rattle.answers.specs.declared.VerdictError.TheVariants as Ve
use Rattle.answers.specs.declared.QueryError.TheVariants as Qe
use Rattle.std.specs.Prelude.{ℕ, ◌≡◌, cond, List, ◌++◌, length, drop, Err, Ok}
use Rattle.std.proofs.Math.Option.{Option, none, some}
use Rattle.ir.specs.declared.RowNumber.{RowNumber}
use Rattle.answers.specs.declared.FileError.{FileError}
use Rattle.answers.specs.Asked.{RowType}
use Rattle.answers.specs.Asked.{ComposeVerdict}
use Rattle.answers.specs.Limit.{max_frame_bytes, max_answer_bytes}
use Rattle.answers.specs.Numbers.{not_there, outcome_values, error_values, SaidOne, asked, instead}
use Rattle.text.specs.declared.AnswerRoom.TheVariants.{Lent}
use Rattle.text.specs.Lines.{text_of}
use Rattle.frames.specs.declared.Frame.{Frame}
use Rattle.frames.specs.Bytes.{bytes_of, frame_count}
use Rattle.frames.specs.Out.{outcome_frame}
use Rattle.archive.specs.Starts.{starts_of, row_count}
use Rattle.archive.specs.Names.{is_row}
use Rattle.rule.specs.Answers.{Typed, Judgement, Result, row_frame, verdict_frame}
use Rattle.rule.specs.Things.{see}
use Rattle.rule_rows.specs.declared.Pass.{Pass}
use Rattle.rule_rows.specs.Answered.{to_result}
use Rattle.rule_compose.specs.Rows.{verdict_of}
use Rattle.rule_compose.specs.Judged.{to_judged}
use Rattle.rule_answers.specs.Outputs.{row_answer, output_bytes}
use Rattle.rule_file.specs.Typed.{TypeOutcome, outcome_in, outputs_in}
use Rattle.rule_file.specs.File.{over_file, read_file, file_said, frames_after}

-- TYPE_ROWS, TYPE_FILE

-- an answer buffer with the answers and verdicts of a file at its front, whose frames these are; its bytes past them
-- stay
abbrev pub answers_written : Pass → List ℕ → List ℕ → List ℕ
answers_written pass an fr = output_bytes pass fr ++ drop (length (output_bytes pass fr)) an

-- the answer buffer `an` after `type_rows`, with a frame buffer of f bytes
unfoldable pub answers_after : Pass → ℕ → List ℕ → ℕ → List ℕ → List ℕ
answers_after pass limit t f an = over_file (λ (e : FileError). an) (λ (fr : List ℕ). answers_written pass an fr) t
    (read_file limit t f (Lent (length an)))

-- how many frames are handed back, with an answer buffer of a bytes: as many as a file's answers and verdicts; of a
-- file that is not accepted, none
unfoldable pub output_count : Pass → ℕ → List ℕ → ℕ → ℕ → ℕ
output_count pass limit t f a = over_file (λ (e : FileError). 0) (λ (fr : List ℕ). frame_count (output_bytes pass fr)) t
    (read_file limit t f (Lent a))

-- what `type_file` gives, r, and leaves: fr and an are the frame buffer and the answer buffer before it, `last` and
-- `out` after it
pub record HandsBack (pass : Pass) (limit : ℕ) (t fr an : List ℕ) (r : TypeOutcome) (last out : List ℕ) : Type 0 where
  pub outcome : outcome_in r ≡ read_file limit t (length fr) (Lent (length an))
  pub said : outcome_values (outcome_in r) ≡ file_said limit t (length fr) (Lent (length an))
  pub outputs : outputs_in r ≡ output_count pass limit t (length fr) (length an)
  pub frames : last ≡ frames_after limit t fr (Lent (length an))
  pub answers : out ≡ answers_after pass limit t (length fr) an

-- ROW_TYPE

-- what is given: the row's answer; number 6, place 0, for a row that the file does not have; or the file's own number
pub data RowGiven : Type 0 where
  answer : Result Typed → RowGiven
  no_row : RowGiven
  not_accepted : FileError → RowGiven

-- what the code gives: no two are the same
abbrev pub to_given : RowType → RowGiven
to_given (Ok a) = answer (to_result a)
to_given (Err Qe.Index) = no_row
to_given (Err (Qe.NotAccepted e)) = not_accepted e

abbrev pub row_given : Pass → RowNumber → List ℕ → RowGiven
row_given pass n fr = cond (is_row (starts_of fr) n) (answer (row_answer pass (see fr) n.0)) no_row

-- with a frame buffer of f bytes and an answer buffer of a bytes
unfoldable pub row_type : Pass → ℕ → List ℕ → ℕ → ℕ → RowNumber → RowGiven
row_type pass limit t f a n = over_file not_accepted (row_given pass n) t (read_file limit t f (Lent a))

-- in document 01's numbers, as `row_type_said` has it of what the code gives
abbrev pub row_said : RowGiven → SaidOne Frame
row_said (answer a) = asked (row_frame a)
row_said no_row = instead not_there
row_said (not_accepted e) = instead (error_values e)

-- the answer buffer after it: as after `type_rows`, and unchanged where the file does not have the row
unfoldable pub answers_after_row : Pass → ℕ → List ℕ → ℕ → List ℕ → RowNumber → List ℕ
answers_after_row pass limit t f an n =
    over_file (λ (e : FileError). an) (λ (fr : List ℕ). cond (is_row (starts_of fr) n)
    (answers_written pass an fr) an) t
    (read_file limit t f (Lent (length an)))

-- COMPOSE_VERDICT

-- what is given: the compose's verdict; that the row is no compose, number 6, place 0 (docs/DECISIONS.md); the same for
-- a row that the file does not have; or the file's own number
pub data VerdictGiven : Type 0 where
  verdict : Result Judgement → VerdictGiven
  no_compose : VerdictGiven
  no_row : VerdictGiven
  not_accepted : FileError → VerdictGiven

abbrev pub to_verdict : ComposeVerdict → VerdictGiven
to_verdict (Ok v) = verdict (to_judged v)
to_verdict (Err Ve.NotCompose) = no_compose
to_verdict (Err Ve.Index) = no_row
to_verdict (Err (Ve.NotAccepted e)) = not_accepted e

abbrev pub or_no_compose : Option (Result Judgement) → VerdictGiven
or_no_compose (some j) = verdict j
or_no_compose none = no_compose

abbrev pub verdict_given : Pass → RowNumber → List ℕ → VerdictGiven
verdict_given pass n fr = cond (is_row (starts_of fr) n) (or_no_compose (verdict_of pass (see fr) n.0)) no_row

unfoldable pub compose_verdict : Pass → ℕ → List ℕ → ℕ → ℕ → RowNumber → VerdictGiven
compose_verdict pass limit t f a n = over_file not_accepted (verdict_given pass n) t (read_file limit t f (Lent a))

-- in document 01's numbers, as `compose_verdict_said` has it of what the code gives
abbrev pub verdict_said : RowNumber → VerdictGiven → SaidOne Frame
verdict_said n (verdict j) = asked (verdict_frame n j)
verdict_said n no_compose = instead not_there
verdict_said n no_row = instead not_there
verdict_said n (not_accepted e) = instead (error_values e)

-- the answer buffer after it: as after `type_rows` where a verdict is given, else unchanged
abbrev pub if_judged : List ℕ → List ℕ → VerdictGiven → List ℕ
if_judged written an (verdict j) = written
if_judged written an no_compose = an
if_judged written an no_row = an
if_judged written an (not_accepted e) = an

unfoldable pub answers_after_verdict : Pass → ℕ → List ℕ → ℕ → List ℕ → RowNumber → List ℕ
answers_after_verdict pass limit t f an n =
    over_file (λ (e : FileError). an)
    (λ (fr : List ℕ). if_judged (answers_written pass an fr) an (verdict_given pass n fr)) t
    (read_file limit t f (Lent (length an)))

-- AS LINES, what the typing program prints

-- one line of family 10 for a file that is not accepted
abbrev pub error_text : FileError → List ℕ
error_text e = text_of (bytes_of (outcome_frame (Err e))) 1

-- a line for each frame handed back; none for a file without rows
abbrev pub output_text : Pass → List ℕ → List ℕ
output_text pass fr = text_of (output_bytes pass fr) (frame_count (output_bytes pass fr))

-- with buffers of the largest sizes that a file asks for
unfoldable pub typed_text : Pass → ℕ → List ℕ → List ℕ
typed_text pass limit t =
    over_file error_text (output_text pass) t (read_file limit t max_frame_bytes (Lent max_answer_bytes))
