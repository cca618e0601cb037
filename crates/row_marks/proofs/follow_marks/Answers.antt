-- `follow_marks`: a turn is one step of the sweep, and after the last none is left.
use Rattle.std.proofs.Common.{◌-◌, sym, ap, ◌∙◌}
use Rattle.law_cut.specs.Marks.{sweep}
use Rattle.row_marks.specs.Reads.{reads_in}
use Rattle.row_marks.proofs.Laws.{sweep-first, sweep-last, sweep-yes, sweep-no, read_is}
use Rattle.row_marks.proofs.follow_marks.Goals as goal

pub loop-i-preserved-then-marks-i : goal.loop-i-preserved-then-marks-i
loop-i-preserved-then-marks-i c =
    let r = reads_in c.args.ctx.now.frames.now c.args.ctx.now.starts c.args.ctx.now.answers.now
    c.args.ctx.now.places.now in
    ap (sweep r (c.loop-i.i - 1)) c.set_marks-marks.ensures
    ∙ sweep-yes r c.loop-i.i c.loop-i.marks c.loop-i-test.true c.if-marks-i.true
    (read_is c.args.ctx.now.frames.now c.args.ctx.now.starts c.args.ctx.now.answers.now c.args.ctx.now.places.now
    (c.loop-i.i - 1)
    c.row_operands-o.ensures c.read.ensures) ∙ c.loop-i.invariant

pub loop-i-preserved : goal.loop-i-preserved
loop-i-preserved c =
    let r = reads_in c.args.ctx.now.frames.now c.args.ctx.now.starts c.args.ctx.now.answers.now
    c.args.ctx.now.places.now in
    sweep-no r c.loop-i.i c.loop-i.marks c.loop-i-test.true c.if-marks-i.false ∙ c.loop-i.invariant

pub returns : goal.returns
returns c =
    let r = reads_in c.args.ctx.now.frames.now c.args.ctx.now.starts c.args.ctx.now.answers.now
    c.args.ctx.now.places.now in
    sym (sweep-last r c.loop-i.marks c.loop-i.i c.loop-i-test.false) ∙ c.loop-i.invariant
    ∙ sweep-first r c.args.row.0 c.set_mark-marks.ensures
