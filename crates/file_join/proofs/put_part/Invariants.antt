-- `put_part`: the frames passed are put, each as a call gives it.
use Rattle.std.proofs.Common.{◌≡◌, ℕ, ◌<◌}
use Rattle.frames.specs.declared.Frame.{Frame}
use Rattle.frames.specs.Bytes.{frame_at}
use Rattle.file_join.proofs.Put.{PutTo}
use Rattle.file_join.proofs.put_part.Given as goal

abbrev pub invariant-loop-k : goal.invariant-loop-k
invariant-loop-k g l =
    (h : ℕ → Frame) → ((k : ℕ) (f : Frame) → k < l.to → goal.F-post g l.moved (frame_at l.frames k) f → f ≡ h k)
    → PutTo h l.from l.to l.past l.fn.joined l.joined l.k
