-- `judge_column`: a refusal has no type; else the frame shows the form, or it is looked into.
use mathlib.Core.Path.{ap, ◌∙◌}
use mathlib.Core.Bool.{Bool}
use Rattle.rule_types.proofs.Derived.{types_equal}
use Rattle.ir.specs.declared.TypeInner.TheVariants as Ti
use Rattle.rule.specs.Answers.{resolved}
use Rattle.rule_types.specs.Canonical.{equal_types}
use Rattle.row_operands.proofs.ByFrame.{shown-seen}
use Rattle.verdict_compose.specs.declared.Part.TheVariants as Pa
use Rattle.verdict_compose.specs.Decided.{adds_if, part_decides}
use Rattle.verdict_compose.proofs.OneComponent.{looked-is, refused-is}
use Rattle.verdict_compose.proofs.counted.judge_column.Goals as goal

pub returns-then-f-eq10 : goal.returns-then-f-eq10
returns-then-f-eq10 c =
    let g = c.args in
    c.without_type.ensures
    ∙ refused-is g.i (λ t. part_decides g.ctx.now.frames.now g.ctx.now.starts (Pa.Column g.rows g.scalar) g.i
    (resolved t))
    g.ctx.now.answers.now g.ctx.now.places.now g.n c.past_frame-f.ensures c.if-f-eq10.true

pub returns-in-Some : goal.returns-in-Some
returns-in-Some c =
    let g = c.args in
    c.adds_if.ensures
    ∙ ap (λ (b : Bool). adds_if g.i b 1) (c.eq.ensures ∙ types_equal c.in-Some.t (Ti.Vector g.rows g.scalar))
    ∙ looked-is g.ctx.now.frames.now g.ctx.now.starts g.n g.i
    (λ t. adds_if g.i (equal_types t (Ti.Vector g.rows g.scalar)) 1) g.ctx.now.answers.now g.ctx.now.places.now g.n
    (shown-seen g.ctx.now.frames.now g.ctx.now.starts g.n g.ctx.now.answers.now g.ctx.now.places.now g.n
    c.past_frame-f.ensures
    c.typed_frame.ensures
    c.plain_form.ensures c.in-Some.is)
