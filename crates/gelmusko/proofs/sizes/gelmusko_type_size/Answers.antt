-- `gelmusko_type_size`: where the out-slice has room, the number handed on gives what the number handed in asks for.
use Rattle.std.proofs.Common.{[], ap, ◌∙◌}
use Rattle.rule_file.specs.Exported.{one_number}
use Rattle.rule_sizes.specs.Sizes.{size_said, size_said_frame}
use Rattle.gelmusko.proofs.Laws.{size-clamped}
use Rattle.gelmusko.proofs.Room.{not-put, handed}
use Rattle.gelmusko.proofs.sizes.gelmusko_type_size.Goals as goal

pub returns-then-out-lt16-clause-out : goal.returns-then-out-lt16-clause-out
returns-then-out-lt16-clause-out c = not-put _ _ c.if-out-lt16.true

pub returns-clause-outcome : goal.returns-clause-outcome
returns-clause-outcome c =
    (handed one_number size_said_frame _ (c.put_size.ensures.outcome, c.put_size.ensures.out)
    (ap size_said (c.type_size-given.ensures.outcome ∙ size-clamped _ _ _ _ _ c.clamped.ensures))
    c.type_size-given.ensures.frames c.if-out-lt16.false
    _ []).0

pub returns-clause-out : goal.returns-clause-out
returns-clause-out c =
    (handed one_number size_said_frame _ (c.put_size.ensures.outcome, c.put_size.ensures.out)
    (ap size_said (c.type_size-given.ensures.outcome ∙ size-clamped _ _ _ _ _ c.clamped.ensures))
    c.type_size-given.ensures.frames c.if-out-lt16.false
    0 []).1.1
