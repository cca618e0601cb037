-- `look_both`: the left is seen, or shows no form.
use mathlib.Core.Path.{sym, ◌∙◌}
use Rattle.rule_rows.specs.Operators.{wgsl_of}
use Rattle.row_operands.proofs.TwoOperands.{left-unseen}
use Rattle.row_wgsl.proofs.reads.look_both.Goals as goal

pub returns-in-Err : goal.returns-in-Err
returns-in-Err c =
    let g = c.args in
    c.left_end.ensures
    ∙ left-unseen (wgsl_of g.op) g.ctx.now.frames.now g.ctx.now.starts g.here g.ctx.now.answers.now
    g.ctx.now.places.now g.left
    g.right
    (sym c.look_into.ensures ∙ c.in-Err.is)
