-- `look_added`: the look sees a form, or ends.
use mathlib.Core.Path.{sym, ◌∙◌}
use Rattle.rule_compose.specs.Verdict.{adds}
use Rattle.verdict_compose.specs.Decided.{count_decides}
use Rattle.verdict_compose.proofs.OneComponent.{looked-is}
use Rattle.verdict_compose.proofs.vector.look_added.Goals as goal

pub returns-in-Ok : goal.returns-in-Ok
returns-in-Ok c =
    let g = c.args in
    c.count_added.ensures
    ∙ looked-is g.ctx.now.frames.now g.ctx.now.starts g.n g.i (λ t. count_decides g.i (adds g.scalar t))
    g.ctx.now.answers.now g.ctx.now.places.now g.n
    (sym c.look_component.ensures ∙ c.in-Ok.is)

pub returns-in-Err : goal.returns-in-Err
returns-in-Err c =
    let g = c.args in
    c.by_end.ensures
    ∙ looked-is g.ctx.now.frames.now g.ctx.now.starts g.n g.i (λ t. count_decides g.i (adds g.scalar t))
    g.ctx.now.answers.now g.ctx.now.places.now g.n
    (sym c.look_component.ensures ∙ c.in-Err.is)
