-- Not part of any public statement: for proofs and code only. What the code asks for before it answers.
use Rattle.std.specs.Prelude.{ℕ, ◌*◌, ◌≤◌, ◌<◌, ◌≡◌, List, ◌++◌, length, take, drop, Ok}
use Rattle.ir.specs.declared.RowNumber.{RowNumber}
use Rattle.answers.specs.Limit.{max_frames}
use Rattle.frames.specs.Bytes.{frame_count}
use Rattle.archive.specs.declared.Starts.{Starts}
use Rattle.archive.specs.Starts.{starts_of, row_count}
use Rattle.archive.specs.Checks.{check_frames}
use Rattle.rule.specs.Things.{see}
use Rattle.rule_rows.specs.declared.Pass.{Pass}
use Rattle.rule_answers.specs.Outputs.{outputs, frames_bytes, output_bytes}
use Rattle.rule_answers.specs.ForProofs.{places_of, AllHeld}

-- no more frames than a file may have, and an answer buffer of a bytes that has room for what is handed back
pub record Room (pass : Pass) (fr : List ℕ) (a : ℕ) : Type 0 where
  pub few : frame_count fr ≤ max_frames
  pub answers : length (output_bytes pass fr) ≤ a

-- the frames of an accepted file, and such a buffer
abbrev pub Ready : Pass → List ℕ → ℕ → Type 0
Ready pass fr a = (check_frames fr ≡ Ok (frame_count fr)) × Room pass fr a

-- WHAT THE CODE THAT ANSWERS ROWS KNOWS at each row

-- the rows before `row` are answered, each by what the code can hold: their frames stand at the front of the answer
-- buffer `an`, frame `at` is the next, and the table of places has theirs
pub record Turn (pass : Pass) (fr an places : List ℕ) (s : Starts) (row : RowNumber) (at : ℕ) : Type 0 where
  pub room : Room pass fr (length an)
  pub starts : s ≡ starts_of fr
  pub below : row.0 < row_count s
  pub next : at ≡ length (outputs pass (see fr) row.0)
  pub front : take (16 * at) an ≡ frames_bytes (outputs pass (see fr) row.0)
  pub table : places ≡ places_of pass fr row.0
  pub held : AllHeld pass fr row.0

-- the rows before row n are answered, each by what the code can hold: frame `at` is the next, and `an` is the answer
-- buffer that was `lent`
pub record Written (pass : Pass) (fr lent an : List ℕ) (n at : ℕ) : Type 0 where
  pub next : at ≡ length (outputs pass (see fr) n)
  pub bytes : an ≡ frames_bytes (outputs pass (see fr) n) ++ drop (16 * at) lent
  pub held : AllHeld pass fr n
