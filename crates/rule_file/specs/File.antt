-- Reading a file (document 01, "Numbers handed back"): checks 1 to 6, each over the whole file, in order.
use Rattle.std.specs.Prelude.{ℕ, List, length, Ok, Err}
use Rattle.answers.specs.Outcome.{Outcome}
use Rattle.answers.specs.declared.FileError.{FileError}
use Rattle.answers.specs.Numbers.{Refused, outcome_values}
use Rattle.text.specs.declared.AnswerRoom.{AnswerRoom}
use Rattle.text.specs.Lines.{decoded}
use Rattle.text.specs.Reading.{read_text, frames_read}
use Rattle.archive.specs.Checks.{check_frames}

-- what follows on the frames of a text that was accepted; where it was not, why is handed on
abbrev pub over_file : {A : Type 0} → (FileError → A) → (List ℕ → A) → List ℕ → Outcome → A
over_file refused given t (Ok n) = given (decoded t n)
over_file refused given t (Err e) = refused e

-- checks 4 to 6 follow on the frames where checks 1 to 3 pass
abbrev pub then_frames : List ℕ → Outcome → Outcome
then_frames t o = over_file Err check_frames t o

-- what reading a text gives within a limit of frames, with a frame buffer of f bytes, and an answer buffer where one is
-- lent
unfoldable pub read_file : ℕ → List ℕ → ℕ → AnswerRoom → Outcome
read_file limit t f room = then_frames t (read_text limit t f room)

-- in document 01's numbers
abbrev pub file_said : ℕ → List ℕ → ℕ → AnswerRoom → Refused
file_said limit t f room = outcome_values (read_file limit t f room)

-- the frame buffer after it: as it was after numbers 1 to 3, else the frames at its front, also after numbers 4 to 6
unfoldable pub frames_after : ℕ → List ℕ → List ℕ → AnswerRoom → List ℕ
frames_after limit t fr room = frames_read (read_text limit t (length fr) room) t fr
