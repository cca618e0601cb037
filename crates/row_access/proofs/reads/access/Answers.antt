-- `access`: its operand is a pointer whose base is seen or unknown, or another type, or the row ends with what ended
-- the look.
use Rattle.std.proofs.lemmas.Result.{err_from_is_err_and}
use Rattle.row_operands.proofs.Ended.{ended-is}
use Rattle.std.specs.Prelude.{Ok}
use mathlib.Core.Path.{sym, ap, ◌∙◌}
use Rattle.rule_rows.specs.Access.{access_through, access_into}
use Rattle.row_operands.proofs.NotKind.{not-pointer}
use Rattle.row_operands.proofs.Steps.{base-into, base-through, base-unknown, base-ended}
use Rattle.row_access.proofs.reads.access.Goals as goal

pub returns-in-Some : goal.returns-in-Some
returns-in-Some c =
    let g =
    c.args in
    c.access_through.ensures
    ∙ base-through g.ctx.now.frames.now g.ctx.now.starts g.ctx.now.answers.now g.ctx.now.places.now g.here g.base
    (λ b p x. access_through b p x.inner)
    (λ x. access_into g.base x.inner)
    (sym c.look_into.ensures
    ∙ c.in_ok-t.was
    ∙ ap Ok c.in-Pointer.is)
    (sym c.type_at.ensures ∙ c.in-Some.is)

pub returns-in-None : goal.returns-in-None
returns-in-None c =
    let g = c.args in
    base-unknown g.ctx.now.frames.now g.ctx.now.starts g.ctx.now.answers.now g.ctx.now.places.now g.here g.base
    (λ b p x. access_through b p x.inner)
    (λ x. access_into g.base x.inner)
    (sym c.look_into.ensures
    ∙ c.in_ok-t.was
    ∙ ap Ok c.in-Pointer.is)
    (sym c.type_at.ensures ∙ c.in-None.is)

pub returns-in_default : goal.returns-in_default
returns-in_default c =
    let g = c.args in
    c.access_into.ensures
    ∙ base-into g.ctx.now.frames.now g.ctx.now.starts g.ctx.now.answers.now g.ctx.now.places.now g.here g.base
    (λ b p x. access_through b p x.inner)
    (λ x. access_into g.base x.inner)
    (sym c.look_into.ensures ∙ c.in_ok-t.was)
    (not-pointer _ c.in_default.not-Pointer)

pub returns-in_err-t : goal.returns-in_err-t
returns-in_err-t c =
    let g = c.args in
    let p = err_from_is_err_and c.from_residual.result c.from_residual.ensures.1 in
    rw (p.1, p.2)
    (ended-is c.in_err-t.field-0.0
    ∙ base-ended g.ctx.now.frames.now g.ctx.now.starts g.ctx.now.answers.now g.ctx.now.places.now g.here g.base
    (λ b p x. access_through b p x.inner)
    (λ x. access_into g.base x.inner)
    (sym c.look_into.ensures ∙ c.in_err-t.was))
