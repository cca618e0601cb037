-- `put_front`: the frames passed stand at the front.
use Rattle.frames.specs.Bytes.{frame_at}
use Rattle.rule.specs.Things.{listed}
use Rattle.file_cut.specs.ForProofs.{Pushed}
use Rattle.file_cut.proofs.put_front.Given as goal

abbrev pub invariant-loop-k : goal.invariant-loop-k
invariant-loop-k l = Pushed (listed (frame_at l.frames) l.k) l.k l.cut
