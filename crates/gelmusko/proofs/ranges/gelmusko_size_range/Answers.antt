-- `gelmusko_size_range`: where the out-slice has room, the number handed on gives what the number handed in asks for.
use Rattle.std.proofs.Common.{[], ap, ◌∙◌}
use Rattle.rule_file.specs.Exported.{one_number}
use Rattle.rule_ranges.specs.Ranges.{type_range_said, range_said_frame}
use Rattle.gelmusko.proofs.Laws.{range-clamped}
use Rattle.gelmusko.proofs.Room.{not-put, handed}
use Rattle.gelmusko.proofs.ranges.gelmusko_size_range.Goals as goal

pub returns-then-out-lt16-clause-out : goal.returns-then-out-lt16-clause-out
returns-then-out-lt16-clause-out c = not-put _ _ c.if-out-lt16.true

pub returns-clause-outcome : goal.returns-clause-outcome
returns-clause-outcome c =
    (handed one_number range_said_frame _ (c.put_range.ensures.outcome, c.put_range.ensures.out)
    (ap type_range_said (c.size_range-given.ensures.outcome
    ∙ range-clamped _ _ _ _ _ _ _ c.clamped.ensures))
    c.size_range-given.ensures.frames c.if-out-lt16.false
    _ []).0

pub returns-clause-out : goal.returns-clause-out
returns-clause-out c =
    (handed one_number range_said_frame _ (c.put_range.ensures.outcome, c.put_range.ensures.out)
    (ap type_range_said (c.size_range-given.ensures.outcome
    ∙ range-clamped _ _ _ _ _ _ _ c.clamped.ensures))
    c.size_range-given.ensures.frames c.if-out-lt16.false
    0 []).1.1
