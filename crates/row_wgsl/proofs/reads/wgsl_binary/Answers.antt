-- `wgsl_binary`: the frames of both answers show forms; or one shows none, so no line has its type, and both are looked
-- into.
use mathlib.Core.Path.{◌∙◌}
use Rattle.rule_rows.specs.Operators.{wgsl_of}
use Rattle.rule_rows.specs.Wgsl.{shape_of}
use Rattle.row_operands.proofs.TwoOperands.{both-seen}
use Rattle.row_operands.proofs.ByFrame.{shown-seen}
use Rattle.row_wgsl.proofs.Unshown.{unshown, left_other, right-other}
use Rattle.row_wgsl.proofs.reads.wgsl_binary.Goals as goal

pub look_both-requires : goal.look_both-requires
look_both-requires c =
    λ x y p q.
    let g = c.args in
    right-other g.op (shape_of x) (shape_of y)
    (unshown g.ctx.now.frames.now g.ctx.now.starts g.here g.ctx.now.answers.now g.ctx.now.places.now g.right y
    c.past_frame-g.ensures
    c.typed_frame-in-Some.ensures c.plain_form-in-Some.ensures
    c.in-None-plain_form.is q)

pub look_both-requires-in-None : goal.look_both-requires-in-None
look_both-requires-in-None c =
    λ x y p q.
    let g = c.args in
    left_other g.op (shape_of x) (shape_of y)
    (unshown g.ctx.now.frames.now g.ctx.now.starts g.here g.ctx.now.answers.now g.ctx.now.places.now g.left x
    c.past_frame-f.ensures
    c.typed_frame.ensures c.plain_form.ensures
    c.in-None.is p)

pub returns-in-Some-plain_form : goal.returns-in-Some-plain_form
returns-in-Some-plain_form c =
    let g = c.args in
    c.shapes_result.ensures
    ∙ both-seen (wgsl_of g.op) g.ctx.now.frames.now g.ctx.now.starts g.here g.ctx.now.answers.now g.ctx.now.places.now
    g.left
    g.right
    (shown-seen g.ctx.now.frames.now g.ctx.now.starts g.here g.ctx.now.answers.now g.ctx.now.places.now g.left
    c.past_frame-f.ensures
    c.typed_frame.ensures
    c.plain_form.ensures
    c.in-Some.is)
    (shown-seen g.ctx.now.frames.now g.ctx.now.starts g.here g.ctx.now.answers.now g.ctx.now.places.now g.right
    c.past_frame-g.ensures c.typed_frame-in-Some.ensures
    c.plain_form-in-Some.ensures
    c.in-Some-plain_form.is) _
    (λ a b u v. rw (c.shape_of-in-Some-plain_form.ensures, c.shape_of.ensures))
