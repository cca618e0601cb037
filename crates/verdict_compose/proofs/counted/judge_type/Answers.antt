-- `judge_type`: the frame shows it, or it is a refusal, or both frames show the forms, or the answer is compared.
use Rattle.rule_types.proofs.Derived.{types_equal}
use Rattle.std.specs.Prelude.{Some}
use mathlib.Core.Path.{◌≡◌, sym, ap, ◌∙◌}
use mathlib.Core.Bool.{Bool}
use Rattle.frames.specs.ForProofs.{answer_of}
use Rattle.row_operands.specs.Plain.{type_frame_in, typed_frame, plain_of}
use Rattle.row_operands.proofs.ByFrame.{past-frame}
use Rattle.rule.specs.Answers.{resolved}
use Rattle.verdict_compose.specs.declared.Part.TheVariants as Pa
use Rattle.verdict_compose.specs.Decided.{adds_if, part_decides, part_by}
use Rattle.verdict_compose.proofs.OneComponent.{refused-is}
use Rattle.verdict_compose.proofs.Shown.{type-shown}
use Rattle.verdict_compose.proofs.BothShown.{both-shown}
use Rattle.verdict_compose.proofs.counted.judge_type.Goals as goal

pub returns-then-type_shown : goal.returns-then-type_shown
returns-then-type_shown c =
    let g = c.args in
    let f = c.past_frame-f.result in
    rw (past-frame g.ctx.now.answers.now g.ctx.now.places.now g.n, ← c.past_frame-f.ensures)
    (sym (type-shown g.ctx.now.frames.now g.ctx.now.starts g.ty g.i f (sym c.type_shown.ensures
    ∙ c.if-type_shown.true)))

pub returns-then-f-eq10 : goal.returns-then-f-eq10
returns-then-f-eq10 c =
    let g = c.args in
    c.without_type.ensures
    ∙ refused-is g.i (λ t. part_decides g.ctx.now.frames.now g.ctx.now.starts (Pa.Element g.ty) g.i (resolved t))
    g.ctx.now.answers.now g.ctx.now.places.now g.n c.past_frame-f.ensures
    c.if-f-eq10.true

pub returns-in-Some-plain_form : goal.returns-in-Some-plain_form
returns-in-Some-plain_form c =
    let g = c.args in
    let past = c.past_frame-f in
    let p : plain_of (type_frame_in g.ctx.now.frames.now g.ctx.now.starts g.ty) ≡ Some c.in-Some.t =
    ap plain_of (sym c.type_frame.ensures)
    ∙ sym c.plain_form.ensures
    ∙ c.in-Some.is in
    let q : plain_of (typed_frame g.ctx.now.frames.now g.ctx.now.starts past.result) ≡ Some c.in-Some-plain_form.u =
    ap plain_of (sym c.typed_frame.ensures)
    ∙ sym c.plain_form-in-Some.ensures ∙ c.in-Some-plain_form.is in
    rw (past-frame g.ctx.now.answers.now g.ctx.now.places.now g.n, ← past.ensures)
    (c.adds_if.ensures
    ∙ ap (λ (b : Bool). adds_if g.i b 1) (c.eq.ensures ∙ types_equal c.in-Some.t c.in-Some-plain_form.u)
    ∙ sym (both-shown g.ctx.now.frames.now g.ctx.now.starts g.ty g.i past.result _ _ p q))

pub returns : goal.returns
returns c =
    let g = c.args in
    c.by_answer.ensures
    ∙ ap (part_by g.ctx.now.frames.now g.ctx.now.starts (Pa.Element g.ty) g.i)
    (ap answer_of c.past_frame-f.ensures
    ∙ sym (past-frame g.ctx.now.answers.now g.ctx.now.places.now g.n))
