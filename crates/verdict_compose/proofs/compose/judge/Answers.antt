-- `judge`: the composed type's form, or newer.
use mathlib.Core.Path.{sym, ◌∙◌}
use Rattle.verdict_compose.proofs.Runs.{composed-known, composed-unknown}
use Rattle.verdict_compose.proofs.compose.judge.Goals as goal

pub returns-in-Some : goal.returns-in-Some
returns-in-Some c =
    let g = c.args in
    c.by_form.ensures
    ∙ sym
    (composed-known g.ctx.now.frames.now g.ctx.now.starts g.ctx.now.answers.now g.ctx.now.places.now g.ty _ _
    (sym c.type_at.ensures ∙ c.in-Some.is))

pub returns-in-None : goal.returns-in-None
returns-in-None c =
    let g = c.args in
    sym
    (composed-unknown g.ctx.now.frames.now g.ctx.now.starts g.ctx.now.answers.now g.ctx.now.places.now g.ty _
    (sym c.type_at.ensures ∙ c.in-None.is))
