-- `look_right`: both are seen, or the row ends with what ended the look into the right.
use Rattle.std.proofs.lemmas.Result.{err_from_is_err_and}
use Rattle.row_operands.proofs.Ended.{ended-is}
use mathlib.Core.Path.{sym, ◌∙◌}
use Rattle.rule_rows.specs.Operators.{product}
use Rattle.row_operands.proofs.TwoOperands.{right-unseen}
use Rattle.row_multiply.proofs.Seen.{times-seen}
use Rattle.row_multiply.proofs.reads.look_right.Goals as goal

pub returns : goal.returns
returns c =
    let g = c.args in
    c.times.ensures
    ∙ times-seen g.ctx.now.frames.now g.ctx.now.starts g.here g.ctx.now.answers.now g.ctx.now.places.now g.left g.right
    c.requires
    (sym c.look_into.ensures ∙ c.in_ok-y.was)
    c.product.result c.product.ensures

pub returns-in_err-y : goal.returns-in_err-y
returns-in_err-y c =
    let g = c.args in
    let p = err_from_is_err_and c.from_residual.result c.from_residual.ensures.1 in
    rw (p.1, p.2)
    (ended-is c.in_err-y.field-0.0
    ∙ right-unseen product g.ctx.now.frames.now g.ctx.now.starts g.here g.ctx.now.answers.now g.ctx.now.places.now
    g.left g.right
    c.requires
    (sym c.look_into.ensures ∙ c.in_err-y.was))
