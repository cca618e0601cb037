-- `gelmusko_canonical_form`: where the out-slice has room, the number handed on gives what the number handed in
-- asks for.
use Rattle.std.proofs.Common.{[], ap, ◌∙◌}
use Rattle.answers.specs.Numbers.{canonical_said}
use Rattle.rule_file.specs.Exported.{type_said_number, type_said_frame}
use Rattle.gelmusko.proofs.Laws.{canonical-clamped}
use Rattle.gelmusko.proofs.Room.{not-put, handed}
use Rattle.gelmusko.proofs.types.gelmusko_canonical_form.Goals as goal

pub returns-then-out-lt16-clause-out : goal.returns-then-out-lt16-clause-out
returns-then-out-lt16-clause-out c = not-put _ _ c.if-out-lt16.true

pub returns-clause-outcome : goal.returns-clause-outcome
returns-clause-outcome c =
    (handed type_said_number type_said_frame _ (c.put_canonical.ensures.outcome, c.put_canonical.ensures.out)
    (c.canonical_form-given.ensures.said ∙ ap canonical_said (canonical-clamped _ _ _ _ _ c.clamped.ensures))
    c.canonical_form-given.ensures.frames c.if-out-lt16.false
    _ []).0

pub returns-clause-out : goal.returns-clause-out
returns-clause-out c =
    (handed type_said_number type_said_frame _ (c.put_canonical.ensures.outcome, c.put_canonical.ensures.out)
    (c.canonical_form-given.ensures.said ∙ ap canonical_said (canonical-clamped _ _ _ _ _ c.clamped.ensures))
    c.canonical_form-given.ensures.frames c.if-out-lt16.false
    0 []).1.1
