-- One answer for each row, and one verdict for each compose (document 01, the end of "The file" and "Cases": one line a
-- row, and one more after a compose).
use Rattle.std.specs.Prelude.{ℕ, ◌+◌, ◌≡◌, cond, List, [], ◌∷◌, eqb}
use Rattle.scan.specs.Lists.{sum_below}
use Rattle.frames.specs.declared.Frame.{Frame}
use Rattle.frames.specs.Bytes.{byte, half, frame_at}
use Rattle.archive.specs.Starts.{starts_of}
use Rattle.rule.specs.Things.{see}
use Rattle.rule_rows.specs.declared.Pass.{Pass}
use Rattle.rule_answers.specs.Outputs.{row_frames}

-- the families of a row's answer: a type number, a value, a refusal
pub data AnswerFamily : ℕ → Type 0 where
  type_number : AnswerFamily 8
  value : AnswerFamily 9
  refusal : AnswerFamily 10

-- the kind of row n, in byte 1 of its frame: 5 is a compose
abbrev pub row_kind : List ℕ → ℕ → ℕ
row_kind fr n = byte (frame_at fr ((starts_of fr).rows + n)) 1

-- what row n hands back, where it is a compose: its answer, and then one verdict, which names row n
pub record ThenVerdict (pass : Pass) (fr : List ℕ) (n : ℕ) (answer : Frame) : Type 0 where
  pub verdict : Frame
  pub family : byte verdict 0 ≡ 11
  pub row : half verdict 2 ≡ n
  pub frames : row_frames pass (see fr) n ≡ answer ∷ verdict ∷ []

-- what row n hands back: one answer; after it one verdict where the row is a compose, and nothing where it is not
pub record OneEach (pass : Pass) (fr : List ℕ) (n : ℕ) : Type 0 where
  pub answer : Frame
  pub family : AnswerFamily (byte answer 0)
  pub compose : row_kind fr n ≡ 5 → ThenVerdict pass fr n answer
  pub other : (row_kind fr n ≡ 5 → ⊥) → row_frames pass (see fr) n ≡ answer ∷ []

-- how many of the first n rows are composes, by their bytes
abbrev pub composes_below : List ℕ → ℕ → ℕ
composes_below fr n = sum_below (λ (m : ℕ). cond (eqb (row_kind fr m) 5) 1 0) n
