-- A turn writes one byte more; sixteen are the whole buffer.
use Rattle.std.proofs.Common.{arith}
use Rattle.scan.proofs.Fill.{build-zero, build-turn}
use Rattle.text_decode.proofs.decode_line.Goals as goal

pub loop-j-init : goal.loop-j-init
loop-j-init c = build-zero _ _

pub loop-j-preserved : goal.loop-j-preserved
loop-j-preserved c = build-turn _ _ c.loop-j.line _ _ c.loop-j.invariant (omega arith) c.frame_byte.ensures
