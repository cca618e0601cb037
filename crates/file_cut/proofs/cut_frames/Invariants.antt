-- `cut_frames`: the rows passed stand after the front, those that are marked.
use Rattle.std.proofs.Common.{ℕ, Bool, ◌+◌, ◌≤◌, List, ◌++◌}
use Rattle.frames.specs.Bytes.{frame_at}
use Rattle.archive.specs.Starts.{starts_of}
use Rattle.rule.specs.Things.{listed}
use Rattle.law_cut.specs.Cut.{cut_rows}
use Rattle.file_cut.specs.ForProofs.{Pushed}
use Rattle.file_cut.proofs.cut_frames.Given as goal

-- k rows are passed, and the first `at` frames are those before the rows and the rows that are marked
pub record Inv (fr : List ℕ) (marks : List Bool) (cut : List ℕ) (first k at : ℕ) : Type 0 where
  pub most : at ≤ first + k
  pub put : Pushed
      (listed (frame_at fr) (starts_of fr).rows
      ++ cut_rows marks (λ (i : ℕ). frame_at fr ((starts_of fr).rows + i)) k)
      at cut

abbrev pub invariant-loop-k : goal.invariant-loop-k
invariant-loop-k l = Inv l.frames l.marks l.cut l.first l.k l.at
