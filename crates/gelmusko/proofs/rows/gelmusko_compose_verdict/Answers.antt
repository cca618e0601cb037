-- `gelmusko_compose_verdict`: where the out-slice has room, the number handed on gives what the number handed in
-- asks for.
use Rattle.std.proofs.Common.{[], ◌∙◌}
use Rattle.frames.specs.Out.{one_frame}
use Rattle.rule_file.specs.Exported.{one_number}
use Rattle.gelmusko.proofs.Laws.{judged-clamped, said-clamped}
use Rattle.gelmusko.proofs.Room.{not-put, handed-rows}
use Rattle.gelmusko.proofs.rows.gelmusko_compose_verdict.Goals as goal

pub returns-then-out-lt16-clause-out : goal.returns-then-out-lt16-clause-out
returns-then-out-lt16-clause-out c = not-put _ _ c.if-out-lt16.true

pub returns-clause-outcome : goal.returns-clause-outcome
returns-clause-outcome c =
    (handed-rows one_number one_frame _ (c.put_verdict.ensures.outcome, c.put_verdict.ensures.out)
    (rw c.pass_of.ensures at c.compose_verdict-given.ensures.said ∙ said-clamped _ _ _ _ _ _ _ c.clamped-n.ensures)
    (c.compose_verdict-given.ensures.frames)
    (rw c.pass_of.ensures at c.compose_verdict-given.ensures.answers ∙ judged-clamped _ _ _ _ _ _ _ c.clamped-n.ensures)
    c.if-out-lt16.false _ [] []).0

pub returns-clause-answers : goal.returns-clause-answers
returns-clause-answers c =
    (handed-rows one_number one_frame _ (c.put_verdict.ensures.outcome, c.put_verdict.ensures.out)
    (rw c.pass_of.ensures at c.compose_verdict-given.ensures.said ∙ said-clamped _ _ _ _ _ _ _ c.clamped-n.ensures)
    (c.compose_verdict-given.ensures.frames)
    (rw c.pass_of.ensures at c.compose_verdict-given.ensures.answers ∙ judged-clamped _ _ _ _ _ _ _ c.clamped-n.ensures)
    c.if-out-lt16.false 0 [] _).1.1.0

pub returns-clause-out : goal.returns-clause-out
returns-clause-out c =
    (handed-rows one_number one_frame _ (c.put_verdict.ensures.outcome, c.put_verdict.ensures.out)
    (rw c.pass_of.ensures at c.compose_verdict-given.ensures.said ∙ said-clamped _ _ _ _ _ _ _ c.clamped-n.ensures)
    (c.compose_verdict-given.ensures.frames)
    (rw c.pass_of.ensures at c.compose_verdict-given.ensures.answers ∙ judged-clamped _ _ _ _ _ _ _ c.clamped-n.ensures)
    c.if-out-lt16.false 0 [] []).1.1.1
