-- `multiply`: the frames of both answers show forms, or both are looked into.
use mathlib.Core.Path.{◌∙◌}
use Rattle.row_operands.proofs.ByFrame.{shown-seen}
use Rattle.row_multiply.proofs.Seen.{times-seen}
use Rattle.row_multiply.proofs.reads.multiply.Goals as goal

pub returns-in-Some-plain_form : goal.returns-in-Some-plain_form
returns-in-Some-plain_form c =
    let g = c.args in
    c.times.ensures
    ∙ times-seen g.ctx.now.frames.now g.ctx.now.starts g.here g.ctx.now.answers.now g.ctx.now.places.now g.left g.right
    (shown-seen g.ctx.now.frames.now g.ctx.now.starts g.here g.ctx.now.answers.now g.ctx.now.places.now g.left
    c.past_frame-f.ensures
    c.typed_frame.ensures
    c.plain_form.ensures
    c.in-Some.is)
    (shown-seen g.ctx.now.frames.now g.ctx.now.starts g.here g.ctx.now.answers.now g.ctx.now.places.now g.right
    c.past_frame-g.ensures
    c.typed_frame-in-Some.ensures
    c.plain_form-in-Some.ensures c.in-Some-plain_form.is)
    c.product.result c.product.ensures
