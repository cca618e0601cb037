-- `by_value`: each arm knows the form.
use Rattle.rule.specs.Answers.{number, value}
use Rattle.rule_types.specs.ForProofs.{likeness}
use Rattle.rule_types.proofs.Handed.{optional-is}
use Rattle.verdict_compose.proofs.OneComponent.{like-said}
use Rattle.verdict_compose.proofs.counted.by_value.Goals as goal

pub returns-in-Some : goal.returns-in-Some
returns-in-Some c =
    let g = c.args in
    let t = c.in-Some.t in
    rw (
      c.in-Some.is,
      c.by_likeness.ensures,
      c.compare_types.ensures,
      optional-is g.frames.now g.s (number g.ty) (value t),
    )
    (like-said g.i (likeness g.frames.now g.s (number g.ty) (value t)))
