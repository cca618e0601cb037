-- A turn adds the answer frames of one line more.
use Rattle.std.proofs.Common.{arith}
use Rattle.scan.proofs.Laws.{none-all}
use Rattle.scan.proofs.Fill.{sum-zero, sum_more}
use Rattle.text.specs.Lines.{line_ok}
use Rattle.text.proofs.Line.{line-in}
use Rattle.text_decode.proofs.answer_frames.Goals as goal

pub loop-k-init : goal.loop-k-init
loop-k-init c = (sum-zero _, omega arith)

pub line_answers-sum-requires : goal.line_answers-sum-requires
line_answers-sum-requires c =
    let whole = none-all (line_ok c.args.text.now) _ _ c.requires.0 c.loop-k-test.true in (whole, line-in _ _ whole)

pub loop-k-preserved : goal.loop-k-preserved
loop-k-preserved c = (sum_more _ _ c.loop-k.invariant.0 c.line_answers-sum.ensures.0, omega arith)
