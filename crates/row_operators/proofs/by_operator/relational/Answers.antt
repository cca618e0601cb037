-- `relational`: an arm of two functions function by function.
use mathlib.Core.Path.{◌≡◌, sym, ap, ◌∙◌}
use mathlib.Core.Logic.{◌⊎◌, inl, inr}
use Rattle.ir.specs.declared.RowNumber.{RowNumber}
use Rattle.ir.specs.declared.RelationalFunction.{RelationalFunction}
use Rattle.ir.specs.declared.RelationalFunction.TheVariants.{All, Any}
use Rattle.rule_rows.specs.Operators.{relational}
use Rattle.rule_rows.specs.OverBuffer.{ruled}
use Rattle.row_operands.proofs.Steps.{done-run}
use Rattle.row_operators.proofs.by_operator.relational.Goals as goal

-- one of the functions whose rule reads nothing
as-bool : (here argument : RowNumber) (f : RelationalFunction) → (f ≡ All) ⊎ (f ≡ Any)
    → relational here All argument ≡ relational here f argument
as-bool here argument f (inl e) = ap (λ h. relational here h argument) (sym e)
as-bool here argument f (inr e) = ap (λ h. relational here h argument) (sym e)

pub returns-in-All : goal.returns-in-All
returns-in-All c =
    let g = c.args in
    c.scalar_type.ensures ∙ sym (done-run g.ctx.now.frames.now g.ctx.now.starts g.ctx.now.answers.now
    g.ctx.now.places.now _)
    ∙ ap (ruled g.ctx.now.frames.now g.ctx.now.starts g.ctx.now.answers.now g.ctx.now.places.now)
    (as-bool g.here g.argument g.fun c.in-All.is)
