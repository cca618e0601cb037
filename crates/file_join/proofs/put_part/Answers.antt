-- `put_part`: a turn puts one more frame, as the call gives it.
use Rattle.file_join.proofs.Put.{put-none, put_one, put-all}
use Rattle.file_join.proofs.put_part.Goals as goal

pub loop-k-init : goal.loop-k-init
loop-k-init g c = λ h p.
    let a = c.args in put-none h a.from a.to a.past a.joined.now c.requires.bounds.0

pub loop-k-preserved : goal.loop-k-preserved
loop-k-preserved g c = λ h p.
    put_one (c.loop-k.invariant h p) c.loop-k-test.true
    (p c.loop-k.k c.moved.result c.loop-k-test.true (rw (← c.frame_at.ensures) c.moved.ensures)) c.put_frame.ensures

pub returns : goal.returns
returns g c = λ h p. put-all (c.loop-k.invariant h p) c.loop-k-test.false
