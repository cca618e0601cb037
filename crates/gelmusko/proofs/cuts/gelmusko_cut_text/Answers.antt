-- `gelmusko_cut_text`: where the out-slice has room, the number handed on gives what the number handed in asks for.
use Rattle.std.proofs.Common.{[], ap, ◌∙◌}
use Rattle.answers.specs.Numbers.{Refused}
use Rattle.frames.specs.Out.{refused_frame}
use Rattle.law_cut.specs.File.{cut_said}
use Rattle.gelmusko.proofs.Marked.{cut-clamped, lines-clamped}
use Rattle.gelmusko.proofs.Room.{not-put, handed-rows}
use Rattle.gelmusko.proofs.cuts.gelmusko_cut_text.Goals as goal

pub returns-then-out-lt16-clause-out : goal.returns-then-out-lt16-clause-out
returns-then-out-lt16-clause-out c = not-put _ _ c.if-out-lt16.true

pub returns-clause-outcome : goal.returns-clause-outcome
returns-clause-outcome c =
    (handed-rows (λ (r : Refused). r.number) refused_frame _ (c.put_cut.ensures.outcome, c.put_cut.ensures.out)
    (ap cut_said (c.cut_text-given.ensures.outcome ∙ cut-clamped _ _ _ _ _ _ c.clamped.ensures))
    c.cut_text-given.ensures.frames
    (c.cut_text-given.ensures.cut ∙ lines-clamped _ _ _ _ _ _ c.clamped.ensures)
    c.if-out-lt16.false _ [] []).0

pub returns-clause-cut : goal.returns-clause-cut
returns-clause-cut c =
    (handed-rows (λ (r : Refused). r.number) refused_frame _ (c.put_cut.ensures.outcome, c.put_cut.ensures.out)
    (ap cut_said (c.cut_text-given.ensures.outcome ∙ cut-clamped _ _ _ _ _ _ c.clamped.ensures))
    c.cut_text-given.ensures.frames
    (c.cut_text-given.ensures.cut ∙ lines-clamped _ _ _ _ _ _ c.clamped.ensures)
    c.if-out-lt16.false 0 [] _).1.1.0

pub returns-clause-out : goal.returns-clause-out
returns-clause-out c =
    (handed-rows (λ (r : Refused). r.number) refused_frame _ (c.put_cut.ensures.outcome, c.put_cut.ensures.out)
    (ap cut_said (c.cut_text-given.ensures.outcome ∙ cut-clamped _ _ _ _ _ _ c.clamped.ensures))
    c.cut_text-given.ensures.frames
    (c.cut_text-given.ensures.cut ∙ lines-clamped _ _ _ _ _ _ c.clamped.ensures)
    c.if-out-lt16.false 0 [] []).1.1.1
