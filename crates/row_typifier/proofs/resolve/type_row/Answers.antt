-- `type_row`: the row is of a known kind, or newer.
use Rattle.std.specs.Prelude.{Option}
use Rattle.ir.specs.declared.Expression.{Expression}
use mathlib.Core.Path.{sym, ap, ◌∙◌}
use Rattle.rule.specs.Things.{see_row}
use Rattle.row_operands.specs.Past.{ruled_shown}
use Rattle.row_operands.proofs.Steps.{row-run}
use Rattle.row_typifier.proofs.resolve.type_row.Goals as goal

pub returns-in-Some : goal.returns-in-Some
returns-in-Some c =
    let g = c.args in
    c.resolve.ensures
    ∙ sym
    (row-run g.ctx.now.frames.now g.ctx.now.starts g.ctx.now.answers.now g.ctx.now.places.now g.pass g.row
    ∙ ap
    (λ (o : Option Expression).
    ruled_shown g.pass g.ctx.now.frames.now g.ctx.now.starts g.ctx.now.answers.now g.ctx.now.places.now g.row
    (see_row g.ctx.now.frames.now g.ctx.now.starts o))
    (sym c.row_at.ensures ∙ c.in-Some.is))

pub returns-in-None : goal.returns-in-None
returns-in-None c =
    let g = c.args in
    sym
    (row-run g.ctx.now.frames.now g.ctx.now.starts g.ctx.now.answers.now g.ctx.now.places.now g.pass g.row
    ∙ ap
    (λ (o : Option Expression).
    ruled_shown g.pass g.ctx.now.frames.now g.ctx.now.starts g.ctx.now.answers.now g.ctx.now.places.now g.row
    (see_row g.ctx.now.frames.now g.ctx.now.starts o))
    (sym c.row_at.ensures ∙ c.in-None.is))
