-- A FILE WITHIN TWO LIMITS (document 02, request 7): whatever is asked of it is given alike at either, and every lent
-- byte is left alike. From `read_alike`, since each outcome is what follows on reading the file.
use Rattle.answers.specs.Asked.{sameness_error}
use Rattle.answers.specs.declared.FileError.{FileError}
use Prim.Native.Nat.{ℕ, ◌*◌, ◌≤◌}
use mathlib.Core.Path.{◌≡◌, ap}
use mathlib.Core.Bool.{cond}
use mathlib.Core.List.{List}
use lib.ListN.{length}
use Rattle.ir.specs.declared.RowNumber.{RowNumber}
use Rattle.answers.specs.Outcome.{Outcome}
use Rattle.answers.specs.Limit.{max_frame_bytes, max_answer_bytes}
use Rattle.text.specs.declared.AnswerRoom.{AnswerRoom}
use Rattle.text.specs.declared.AnswerRoom.TheVariants.{NotLent, Lent}
use Rattle.text.specs.Reading.{most_frames}
use Rattle.frames.specs.declared.Frame.{Frame}
use Rattle.frames.specs.Bytes.{frame_count}
use Rattle.archive.specs.Starts.{starts_of}
use Rattle.archive.specs.Names.{is_row}
use Rattle.rule_types.specs.Comparison.{sameness_of, same_type}
use Rattle.rule_rows.specs.declared.Pass.{Pass}
use Rattle.rule_answers.specs.Outputs.{output_bytes}
use Rattle.rule_file.specs.File.{over_file, read_file}
use Rattle.rule_file.specs.Types.{same_types}
use Rattle.rule_file.specs.Typing.{answers_written, answers_after, output_count, RowGiven, row_given, row_type}
use Rattle.rule_file.specs.Typing.{answers_after_row, VerdictGiven, verdict_given, compose_verdict, if_judged}
use Rattle.rule_file.specs.Typing.{answers_after_verdict, error_text, output_text, typed_text}
use Rattle.law_file.proofs.Laws.{read_alike}

module _ (limit other : ℕ) (t : List ℕ) (a : length t ≤ 33 * most_frames limit)
    (b : length t ≤ 33 * most_frames other) where
  -- whatever follows on reading it
  pub over-alike : {A : Type 0} (refused : FileError → A) (given : List ℕ → A) (f : ℕ) (room : AnswerRoom)
      → over_file refused given t (read_file limit t f room) ≡ over_file refused given t (read_file other t f room)
  over-alike refused given f room = ap (over_file refused given t) (read_alike limit other t a b room f)

  pub same_alike : (f : ℕ) (l r : Frame) → same_types limit t f l r ≡ same_types other t f l r
  unfolding same_types
  same_alike f l r = over-alike sameness_error (λ (fr : List ℕ). sameness_of (same_type fr l r)) f NotLent

  module _ (pass : Pass) (f : ℕ) where
    pub answers-alike : (an : List ℕ) → answers_after pass limit t f an ≡ answers_after pass other t f an
    unfolding answers_after
    answers-alike an = over-alike (λ (e : FileError). an) (λ (fr : List ℕ). answers_written pass an fr) f
        (Lent (length an))

    pub count-alike : (n : ℕ) → output_count pass limit t f n ≡ output_count pass other t f n
    unfolding output_count
    count-alike n = over-alike (λ (e : FileError). 0) (λ (fr : List ℕ). frame_count (output_bytes pass fr)) f (Lent n)

    pub row-alike : (n : ℕ) (row : RowNumber) → row_type pass limit t f n row ≡ row_type pass other t f n row
    unfolding row_type
    row-alike n row = over-alike RowGiven.not_accepted (row_given pass row) f (Lent n)

    pub row-answers-alike : (an : List ℕ) (row : RowNumber) → answers_after_row pass limit t f an row
        ≡ answers_after_row pass other t f an row
    unfolding answers_after_row
    row-answers-alike an row =
        over-alike (λ (e : FileError). an)
        (λ (fr : List ℕ). cond (is_row (starts_of fr) row) (answers_written pass an fr) an) f (Lent (length an))

    pub verdict-alike : (n : ℕ) (row : RowNumber) → compose_verdict pass limit t f n row
        ≡ compose_verdict pass other t f n row
    unfolding compose_verdict
    verdict-alike n row = over-alike VerdictGiven.not_accepted (verdict_given pass row) f (Lent n)

    pub verdict-answers-alike : (an : List ℕ) (row : RowNumber)
        → answers_after_verdict pass limit t f an row ≡ answers_after_verdict pass other t f an row
    unfolding answers_after_verdict
    verdict-answers-alike an row =
        over-alike (λ (e : FileError). an)
        (λ (fr : List ℕ). if_judged (answers_written pass an fr) an (verdict_given pass row fr)) f (Lent (length an))

  pub text-alike : (pass : Pass) → typed_text pass limit t ≡ typed_text pass other t
  unfolding typed_text
  text-alike pass = over-alike error_text (output_text pass) max_frame_bytes (Lent max_answer_bytes)
