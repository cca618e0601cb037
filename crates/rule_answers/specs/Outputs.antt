-- What typing a whole file hands back (document 01, the end of "The file" and "Cases"): for each row in order its
-- answer, and after a compose its verdict.
use Rattle.std.specs.Prelude.{ℕ, zero, suc, List, [], ◌∷◌, ◌++◌}
use Rattle.std.proofs.Math.Option.{Option, none, some}
use Rattle.frames.specs.declared.Frame.{Frame}
use Rattle.frames.specs.Bytes.{bytes_of}
use Rattle.archive.specs.Starts.{starts_of, row_count}
use Rattle.rule.specs.Answers.{Typed, Judgement, Result, row_frame, verdict_frame}
use Rattle.rule.specs.Things.{Sight, see}
use Rattle.rule.specs.InOrder.{ours}
use Rattle.rule_rows.specs.declared.Pass.{Pass}
use Rattle.rule_rows.specs.Typed.{typing}
use Rattle.rule_compose.specs.Rows.{verdict_of}

-- our answer of row n, over the answers of the rows before it
abbrev pub row_answer : Pass → Sight → ℕ → Result Typed
row_answer pass sight n = ours sight (typing pass) n (typing pass n)

abbrev pub verdict_frames : ℕ → Option (Result Judgement) → List Frame
verdict_frames n (some j) = verdict_frame (record { 0 = n }) j ∷ []
verdict_frames n none = []

-- row n's answer, and its verdict where it is a compose
abbrev pub row_frames : Pass → Sight → ℕ → List Frame
row_frames pass sight n = row_frame (row_answer pass sight n) ∷ verdict_frames n (verdict_of pass sight n)

-- those of the first n rows, in order
unfoldable pub outputs : Pass → Sight → ℕ → List Frame
outputs pass sight zero = []
outputs pass sight (suc n) = outputs pass sight n ++ row_frames pass sight n

-- frames as bytes, one after the other
unfoldable pub frames_bytes : List Frame → List ℕ
frames_bytes [] = []
frames_bytes (f ∷ l) = bytes_of f ++ frames_bytes l

-- the bytes handed back of a file, whose frames these are
abbrev pub output_bytes : Pass → List ℕ → List ℕ
output_bytes pass fr = frames_bytes (outputs pass (see fr) (row_count (starts_of fr)))
