-- `put_frames`: the parts passed are put.
use mathlib.Core.Path.{◌≡◌}
use Rattle.file_join.specs.ForProofs.{put_all}
use Rattle.file_join.proofs.Parts.{parts_to}
use Rattle.file_join.proofs.put_frames.Given as goal

abbrev pub invariant-loop-i : goal.invariant-loop-i
invariant-loop-i l = l.joined ≡ put_all l.fn.joined 0 (parts_to l.frames l.more l.i)
