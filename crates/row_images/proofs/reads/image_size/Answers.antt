-- `image_size`: its operand is seen, or the row ends with what ended the look.
use Rattle.std.proofs.lemmas.Result.{err_from_is_err_and}
use Rattle.row_operands.proofs.Ended.{ended-is}
use mathlib.Core.Path.{sym, ◌∙◌}
use Rattle.rule_rows.specs.Images.{image_size_of}
use Rattle.row_operands.proofs.Steps.{type-seen, type-ended}
use Rattle.row_images.proofs.reads.image_size.Goals as goal

pub returns : goal.returns
returns c =
    let g = c.args in
    c.image_size_of.ensures
    ∙ type-seen g.ctx.now.frames.now g.ctx.now.starts g.ctx.now.answers.now g.ctx.now.places.now g.here g.image
    (image_size_of g.image)
    (sym c.look_into.ensures ∙ c.in_ok-inner.was)

pub returns-in_err-inner : goal.returns-in_err-inner
returns-in_err-inner c =
    let g = c.args in
    let p = err_from_is_err_and c.from_residual.result c.from_residual.ensures.1 in
    rw (p.1, p.2)
    (ended-is c.in_err-inner.field-0.0
    ∙ type-ended g.ctx.now.frames.now g.ctx.now.starts g.ctx.now.answers.now g.ctx.now.places.now g.here g.image
    (image_size_of g.image)
    (sym c.look_into.ensures ∙ c.in_err-inner.was))
