-- `put_front`: a frame put after those at the front joins them.
use Rattle.std.proofs.Common.{◌+◌, ◌*◌, ◌≤◌, length, arith}
use Rattle.file_cut.proofs.Laws.{front-none, front-more}
use Rattle.file_cut.proofs.put_front.Goals as goal

pub loop-k-init : goal.loop-k-init
loop-k-init c = front-none _ _

pub loop-k-preserved : goal.loop-k-preserved
loop-k-preserved c =
    let l = c.loop-k in
    let e = c.put_frame.ensures in
    let room : 16 * l.k + 16 ≤ length l.cut = omega (arith, c.requires) in
    front-more _ l.k l.invariant c.frame_at.ensures e room
