-- `binary`: each operator has its rule; an arm of several operators operator by operator.
use mathlib.Core.Path.{◌≡◌, sym, ap, ◌∙◌}
use mathlib.Core.Logic.{◌⊎◌, inl, inr}
use Rattle.ir.specs.declared.RowNumber.{RowNumber}
use Rattle.ir.specs.declared.BinaryOperator.{BinaryOperator}
use Rattle.ir.specs.declared.BinaryOperator.TheVariants.{Add, Subtract, Divide, Modulo, And, ExclusiveOr}
use Rattle.ir.specs.declared.BinaryOperator.TheVariants.{InclusiveOr, ShiftLeft, ShiftRight}
use Rattle.rule_rows.specs.Operators.{binary}
use Rattle.rule_rows.specs.Answered.{to_result}
use Rattle.rule_rows.specs.OverBuffer.{ruled}
use Rattle.row_operands.proofs.Steps.{same-run}
use Rattle.row_operators.proofs.by_operator.binary.Goals as goal

-- one of the operators whose rule is the left answer
abbrev OfLeft : BinaryOperator → Type 0
OfLeft op =
    ((op ≡ Add) ⊎ ((op ≡ Subtract) ⊎ ((op ≡ Divide) ⊎ ((op ≡ Modulo) ⊎ ((op ≡ And)
    ⊎ ((op ≡ ExclusiveOr) ⊎ ((op ≡ InclusiveOr) ⊎ ((op ≡ ShiftLeft) ⊎ (op ≡ ShiftRight)))))))))

as-left : (here left right : RowNumber) (op : BinaryOperator) → OfLeft op
    → binary here Add left right ≡ binary here op left right
as-left here left right op (inl e) = ap (λ o. binary here o left right) (sym e)
as-left here left right op (inr (inl e)) = ap (λ o. binary here o left right) (sym e)
as-left here left right op (inr (inr (inl e))) = ap (λ o. binary here o left right) (sym e)
as-left here left right op (inr (inr (inr (inl e)))) = ap (λ o. binary here o left right) (sym e)
as-left here left right op (inr (inr (inr (inr (inl e))))) = ap (λ o. binary here o left right) (sym e)
as-left here left right op (inr (inr (inr (inr (inr (inl e)))))) = ap (λ o. binary here o left right) (sym e)
as-left here left right op (inr (inr (inr (inr (inr (inr (inl e))))))) = ap (λ o. binary here o left right) (sym e)
as-left here left right op (inr (inr (inr (inr (inr (inr (inr (inl e)))))))) =
    ap (λ o. binary here o left right) (sym e)
as-left here left right op (inr (inr (inr (inr (inr (inr (inr (inr e)))))))) =
    ap (λ o. binary here o left right) (sym e)

pub returns-in-Add : goal.returns-in-Add
returns-in-Add c =
    let g = c.args in
    ap to_result c.past.ensures ∙ sym (same-run g.ctx.now.frames.now g.ctx.now.starts g.ctx.now.answers.now
    g.ctx.now.places.now g.left)
    ∙ ap (ruled g.ctx.now.frames.now g.ctx.now.starts g.ctx.now.answers.now g.ctx.now.places.now)
    (as-left g.here g.left g.right g.op c.in-Add.is)
