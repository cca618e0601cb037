-- `joins`: ok is whether the k frames passed may be joined.
use Rattle.std.proofs.Common.{◌≡◌, ℕ}
use Rattle.scan.specs.Lowest.{all_below}
use Rattle.frames.specs.Bytes.{frame_at}
use Rattle.law_join.specs.Joinable.{frame_joins}
use Rattle.frames_join.proofs.joinable.joins.Given as goal

abbrev pub invariant-loop-k : goal.invariant-loop-k
invariant-loop-k l = l.ok ≡ all_below (λ (i : ℕ). frame_joins l.s (frame_at l.frames i)) l.k
