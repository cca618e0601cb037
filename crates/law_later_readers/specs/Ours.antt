-- Our readers, of whom document 01's claim is made ("A row's type", last paragraphs): what the contracts of
-- `type_rows`, `row_type`, `compose_verdict` and `same_type` fix (rule_file/specs), as bytes. The buffers that are lent
-- are any functions of the text.
use Rattle.std.specs.Prelude.{ℕ, ◌+◌, ◌*◌, ◌≤◌, List, length, replicate}
use Rattle.answers.specs.Numbers.{sameness_said}
use Rattle.text.specs.Lines.{line_count, decoded}
use Rattle.text.specs.Reading.{answer_bytes}
use Rattle.frames.specs.Bytes.{bytes_of, frame_at}
use Rattle.frames.specs.Out.{one_frame}
use Rattle.rule_rows.specs.declared.Pass.{Pass}
use Rattle.law_verdicts.specs.Each.{composes_below}
use Rattle.rule_file.specs.Types.{same_types}
use Rattle.rule_file.specs.Typing.{answers_after, RowGiven, row_type, row_said, VerdictGiven, compose_verdict}
use Rattle.rule_file.specs.Typing.{verdict_said}
use Rattle.law_later_readers.specs.Reader.{Reader, said_bytes}

-- the buffers suffice for every text ("Numbers handed back": 16 bytes a frame, and 16 a row with 16 more a compose)
pub record Suffice (frames answers : List ℕ → List ℕ) : Type 0 where
  pub for-frames : (t : List ℕ) → 16 * line_count t ≤ length (frames t)
  pub for-answers : (t : List ℕ) → answer_bytes t ≤ length (answers t)

-- buffers of just that size, all zeros
abbrev pub frames_for : List ℕ → List ℕ
frames_for t = replicate (16 * line_count t) 0

abbrev pub answers_for : List ℕ → List ℕ
answers_for t = replicate (answer_bytes t) 0

-- BY THE ANSWER BUFFER that `type_rows` leaves

-- at which of its frames row m's answer stands: one frame for each earlier row, and one more for each earlier compose,
-- by the bytes of the text
abbrev pub stands_at : List ℕ → ℕ → ℕ
stands_at t m = m + composes_below (decoded t (line_count t)) m

-- a row's answer stands there, and a compose's verdict after it
abbrev pub by_buffer : Pass → ℕ → (frames answers : List ℕ → List ℕ) → Reader
by_buffer pass limit frames answers =
    record {
      row = λ t m. bytes_of (frame_at (answers_after pass limit t (length (frames t)) (answers t)) (stands_at t m));
      verdict = λ t m. bytes_of
          (frame_at (answers_after pass limit t (length (frames t)) (answers t)) (stands_at t m + 1));
      same = λ t a b. said_bytes (sameness_said (same_types limit t (length (frames t)) a b));
    }

-- BY WHAT `row_type` AND `compose_verdict` GIVE; a row that the file does not have, or that is no compose, is number 6,
-- place 0

abbrev pub row_given_bytes : RowGiven → List ℕ
row_given_bytes g = bytes_of (one_frame (row_said g))

abbrev pub verdict_given_bytes : ℕ → VerdictGiven → List ℕ
verdict_given_bytes m g = bytes_of (one_frame (verdict_said (record { 0 = m }) g))

abbrev pub by_row : Pass → ℕ → (frames answers : List ℕ → List ℕ) → Reader
by_row pass limit frames answers =
    record {
      row = λ t m. row_given_bytes (row_type pass limit t (length (frames t)) (length (answers t)) (record { 0 = m }));
      verdict = λ t m. verdict_given_bytes m
          (compose_verdict pass limit t (length (frames t)) (length (answers t)) (record { 0 = m }));
      same = λ t a b. said_bytes (sameness_said (same_types limit t (length (frames t)) a b));
    }
