-- `by_answer`: each arm knows the family, and what its calls ensure.
use Rattle.frames.specs.Bytes.{half}
use Rattle.frames.specs.ForProofs.{answer_of}
use Rattle.rule.specs.Answers.{number}
use Rattle.rule_types.specs.ForProofs.{likeness}
use Rattle.rule_types.proofs.Handed.{optional-is}
use Rattle.verdict_compose.proofs.OneComponent.{like-said}
use Rattle.verdict_compose.proofs.counted.by_answer.Goals as goal

pub returns-in-8 : goal.returns-in-8
unfolding answer_of
returns-in-8 c =
    let g = c.args in
    rw (
      c.by_likeness.ensures,
      c.compare_types.ensures,
      optional-is g.frames.now g.s (number g.ty) (number (record { 0 = c.named-n.result })),
      c.named-n.ensures,
      c.in-8.is,
    )
    (like-said g.i (likeness g.frames.now g.s (number g.ty) (number (record { 0 = half g.f 2 }))))
