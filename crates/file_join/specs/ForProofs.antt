-- Not part of any public statement: for proofs and code only. Frames written one after the other, and what the code
-- asks of two files before it joins them.
use Rattle.std.specs.Prelude.{ℕ, ◌+◌, ◌≤◌, ◌<◌, ◌≡◌, List, [], ◌∷◌, Ok}
use Rattle.answers.specs.Limit.{max_frames}
use Rattle.frames.specs.declared.Frame.{Frame}
use Rattle.frames.specs.Bytes.{frame_at, frame_count, put_frame}
use Rattle.archive.specs.declared.Starts.{Starts}
use Rattle.archive.specs.Checks.{check_frames}
use Rattle.law_moved.specs.Frames.{numbers_of}
use Rattle.law_moved.proofs.Written.{AllFit}
use Rattle.law_join.specs.Join.{join_moves}

-- a buffer with frames written one after the other, from its frame k on
unfoldable pub put_all : List ℕ → ℕ → List Frame → List ℕ
put_all b k [] = b
put_all b k (f ∷ l) = put_all (put_frame b k f) (k + 1) l

-- the frames of an accepted file
pub record Checked (fr : List ℕ) : Type 0 where
  pub accepted : check_frames fr ≡ Ok (frame_count fr)
  pub few : frame_count fr ≤ max_frames

-- the numbers of each frame, moved past those of a first file, fit their bytes
pub record Fitting (s : Starts) (gr : List ℕ) : Type 0 where
  pub at : (k : ℕ) → k < frame_count gr → AllFit (join_moves s) (numbers_of (frame_at gr k)) (frame_at gr k)
