-- `all_hand_back`: k is what the rows passed hand back, at most two each.
use Rattle.std.proofs.Common.{◌≡◌, ℕ, List, ◌+◌, ◌*◌, ◌≤◌}
use Rattle.scan.specs.Lists.{sum_below}
use Rattle.frames.specs.Bytes.{frame_at}
use Rattle.file_answers.specs.ForProofs.{hands_back}
use Rattle.file_answers.proofs.all_hand_back.Given as goal

-- what each frame from `first` on hands back
abbrev pub from : List ℕ → ℕ → ℕ → ℕ
from fr first j = hands_back (frame_at fr (first + j))

abbrev pub invariant-loop-m : goal.invariant-loop-m
invariant-loop-m l = (l.k ≡ sum_below (from l.frames l.first) l.m) × (l.k ≤ 2 * l.m)
