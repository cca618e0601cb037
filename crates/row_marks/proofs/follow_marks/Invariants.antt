-- `follow_marks`: after each turn the rest of the sweep makes up the marks.
use Rattle.std.proofs.Common.{◌≡◌}
use Rattle.law_cut.specs.Marks.{sweep}
use Rattle.row_marks.specs.Reads.{reads_in}
use Rattle.row_marks.proofs.follow_marks.Given as goal

abbrev pub invariant-loop-i : goal.invariant-loop-i
invariant-loop-i l =
    sweep (reads_in l.ctx.frames.now l.ctx.starts l.ctx.answers.now l.ctx.places.now) l.i l.marks
    ≡ sweep (reads_in l.ctx.frames.now l.ctx.starts l.ctx.answers.now l.ctx.places.now) 1024 l.initial.marks
