-- Not part of any public statement: for proofs and code only. How many frames rows hand back, counted by the bytes of
-- their frames.
use Rattle.std.specs.Prelude.{ℕ, ◌+◌, cond, List, eqb}
use Rattle.scan.specs.Lists.{sum_below}
use Rattle.frames.specs.declared.Frame.{Frame}
use Rattle.frames.specs.Bytes.{frame_at}
use Rattle.archive.specs.Starts.{starts_of}

-- a compose hands back two
abbrev pub hands_back : Frame → ℕ
hands_back f = cond (eqb f.b1 5) 2 1

-- what the first n rows hand back
abbrev pub all_hand_back : List ℕ → ℕ → ℕ
all_hand_back fr n = sum_below (λ (m : ℕ). hands_back (frame_at fr ((starts_of fr).rows + m))) n
