-- `look_column`: the look sees a form, or ends.
use mathlib.Core.Path.{sym, ap, ◌∙◌}
use mathlib.Core.Bool.{Bool}
use Rattle.rule_types.proofs.Derived.{types_equal}
use Rattle.ir.specs.declared.TypeInner.TheVariants as Ti
use Rattle.rule_types.specs.Canonical.{equal_types}
use Rattle.verdict_compose.specs.Decided.{adds_if}
use Rattle.verdict_compose.proofs.OneComponent.{looked-is}
use Rattle.verdict_compose.proofs.counted.look_column.Goals as goal

pub returns-in-Ok : goal.returns-in-Ok
returns-in-Ok c =
    let g = c.args in
    c.adds_if.ensures
    ∙ ap (λ (b : Bool). adds_if g.i b 1) (c.eq.ensures ∙ types_equal c.in-Ok.t (Ti.Vector g.rows g.scalar))
    ∙ looked-is g.ctx.now.frames.now g.ctx.now.starts g.n g.i
    (λ t. adds_if g.i (equal_types t (Ti.Vector g.rows g.scalar)) 1) g.ctx.now.answers.now g.ctx.now.places.now g.n
    (sym c.look_component.ensures ∙ c.in-Ok.is)

pub returns-in-Err : goal.returns-in-Err
returns-in-Err c =
    let g = c.args in
    c.by_end.ensures
    ∙ looked-is g.ctx.now.frames.now g.ctx.now.starts g.n g.i
    (λ t. adds_if g.i (equal_types t (Ti.Vector g.rows g.scalar)) 1) g.ctx.now.answers.now g.ctx.now.places.now g.n
    (sym c.look_component.ensures ∙ c.in-Err.is)
