-- `look_right`: both are seen, and no line has their types; or the row ends with what ended the look into the right.
use Rattle.std.proofs.lemmas.Result.{err_from_is_err_and}
use Rattle.row_operands.proofs.Ended.{ended-is}
use mathlib.Core.Path.{sym, ap, ◌∙◌}
use Rattle.rule.specs.Answers.{told}
use Rattle.rule_rows.specs.Operators.{or_mismatch, wgsl_of}
use Rattle.row_operands.proofs.TwoOperands.{both-seen, right-unseen}
use Rattle.row_wgsl.proofs.reads.look_right.Goals as goal

pub returns : goal.returns
returns c =
    let g = c.args in
    let p = c.requires in
    let q = sym c.look_into.ensures ∙ c.in_ok-look_into.was in
    c.mismatch.ensures
    ∙ both-seen (wgsl_of g.op) g.ctx.now.frames.now g.ctx.now.starts g.here g.ctx.now.answers.now g.ctx.now.places.now
    g.left
    g.right p.seen q _
    (λ a b u v. sym (ap (λ t. told (or_mismatch t)) (p.other _ _ p.seen q)))

pub returns-in_err-look_into : goal.returns-in_err-look_into
returns-in_err-look_into c =
    let g = c.args in
    let p = err_from_is_err_and c.from_residual.result c.from_residual.ensures.1 in
    rw (p.1, p.2)
    (ended-is c.in_err-look_into.field-0.0
    ∙ right-unseen (wgsl_of g.op) g.ctx.now.frames.now g.ctx.now.starts g.here g.ctx.now.answers.now
    g.ctx.now.places.now g.left
    g.right
    c.requires.seen
    (sym c.look_into.ensures ∙ c.in_err-look_into.was))
