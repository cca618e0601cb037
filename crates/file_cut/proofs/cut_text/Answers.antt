-- `cut_text`: what is asked of the frames is asked of the text.
use Rattle.answers.specs.declared.FileError.{FileError}
use Rattle.std.proofs.Common.{ℕ, List, length, ap}
use Rattle.answers.specs.Outcome.{Outcome}
use Rattle.rule_file.specs.Printed.{printed_after}
use Rattle.law_cut.specs.declared.CutText.TheVariants as Ct
use Rattle.law_cut.specs.File.{cut_text, cut_after, cut_said, cut_in, if_marked, part_text, part_in}
use Rattle.law_file.proofs.Over.{given}
use Rattle.file_cut.proofs.Part.{ready-most}
use Rattle.file_cut.proofs.cut_text.Goals as goal

pub cut_part-requires : goal.cut_part-requires
cut_part-requires c =
    let w = c.read_file.ensures in
    ready-most _ _ _ _ _ (w.outcome, (w.said, w.frames)) c.in-Ok.is c.first_frames.ensures

pub returns-in-Ok-clause-outcome : goal.returns-in-Ok-clause-outcome
unfolding cut_text
returns-in-Ok-clause-outcome c =
    let g = c.args in
    let w = c.read_file.ensures in
    given _ _ _ _ _ _ (w.outcome, (w.said, w.frames)) c.in-Ok.is c.first_frames.ensures
    Ct.NotAccepted (cut_in g.row (length g.cut.now)) c.cut_part.ensures.outcome

pub returns-in-Ok-clause-said : goal.returns-in-Ok-clause-said
returns-in-Ok-clause-said c = ap cut_said (returns-in-Ok-clause-outcome c)

pub returns-in-Ok-clause-cut : goal.returns-in-Ok-clause-cut
unfolding cut_after
returns-in-Ok-clause-cut c =
    let g = c.args in
    let w = c.read_file.ensures in
    given _ _ _ _ _ _ (w.outcome, (w.said, w.frames)) c.in-Ok.is c.first_frames.ensures
    (λ (e : FileError). g.cut.now)
    (λ (x : List ℕ). if_marked (printed_after (part_text g.row x) g.cut.now) g.cut.now (part_in g.row x))
    c.cut_part.ensures.out
