-- `added_by`: a refusal has no type; else each arm knows the kind of the frame, which shows the form.
use mathlib.Core.Path.{refl, ◌∙◌}
use Rattle.row_operands.proofs.ByFrame.{shown-seen}
use Rattle.rule.specs.Answers.{resolved}
use Rattle.rule.specs.Things.{form_in}
use Rattle.rule_compose.specs.Verdict.{adds}
use Rattle.verdict_compose.specs.Decided.{count_decides, form_decides}
use Rattle.verdict_compose.proofs.OneComponent.{looked-is, refused-is}
use Rattle.verdict_compose.proofs.EqualForms.{plain-scalar, plain-vector}
use Rattle.verdict_compose.proofs.vector.added_by.Goals as goal

pub returns-then-f-eq10 : goal.returns-then-f-eq10
returns-then-f-eq10 c =
    let g = c.args in
    c.without_type.ensures
    ∙ refused-is g.i
    (λ t. form_decides g.i (λ u. count_decides g.i (adds g.scalar u))
    (form_in g.ctx.now.frames.now g.ctx.now.starts (resolved t))) g.ctx.now.answers.now g.ctx.now.places.now g.n
    c.past_frame-f.ensures c.if-f-eq10.true

pub returns-in-1 : goal.returns-in-1
returns-in-1 c =
    let g = c.args in
    let f = c.typed_frame-g.result in
    rw (c.adds_if.ensures, c.scalar_is.ensures)
    (looked-is g.ctx.now.frames.now g.ctx.now.starts g.n g.i (λ t. count_decides g.i
    (adds g.scalar t)) g.ctx.now.answers.now
    g.ctx.now.places.now g.n
    (shown-seen g.ctx.now.frames.now g.ctx.now.starts g.n g.ctx.now.answers.now g.ctx.now.places.now g.n
    c.past_frame-f.ensures
    c.typed_frame-g.ensures refl (plain-scalar f c.in-1.is)))

pub returns-in-2 : goal.returns-in-2
returns-in-2 c =
    let g = c.args in
    let f = c.typed_frame-g.result in
    rw (
      c.adds_if-in-2.ensures,
      c.from.ensures,
      c.scalar_is-in-2.ensures,
      c.from-size.ensures,
    )
    (looked-is g.ctx.now.frames.now g.ctx.now.starts g.n g.i (λ t. count_decides g.i
    (adds g.scalar t)) g.ctx.now.answers.now
    g.ctx.now.places.now g.n
    (shown-seen g.ctx.now.frames.now g.ctx.now.starts g.n g.ctx.now.answers.now g.ctx.now.places.now g.n
    c.past_frame-f.ensures
    c.typed_frame-g.ensures refl
    (plain-vector f c.in-2.is)))
