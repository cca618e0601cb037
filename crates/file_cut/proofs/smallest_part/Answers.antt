-- `smallest_part`: what is asked of the frames is asked of the text.
use Rattle.answers.specs.declared.FileError.{FileError}
use Rattle.std.proofs.Common.{ℕ, List, ap, ◌∙◌}
use Rattle.answers.specs.Outcome.{Outcome}
use Rattle.rule_rows.specs.declared.Pass.TheVariants as Pa
use Rattle.law_cut.specs.declared.PartOutcome.TheVariants as Po
use Rattle.law_cut.specs.Marks.{no_marks, marks_of}
use Rattle.law_cut.specs.File.{smallest_part, part_marks, part_said, part_in, if_marked}
use Rattle.law_file.proofs.Over.{refused, given}
use Rattle.file_cut.specs.declared.RowPart.{RowPart}
use Rattle.file_cut.specs.ForProofs.{outcome_of}
use Rattle.file_cut.proofs.Part.{ready-most, part-outcome, part-marks}
use Rattle.file_cut.proofs.smallest_part.Goals as goal

pub mark_part-requires : goal.mark_part-requires
mark_part-requires c =
    let w = c.read_file.ensures in
    ready-most _ _ _ _ _ (w.outcome, (w.said, w.frames)) c.in-Ok.is c.first_frames.ensures

pub returns-in-Err-clause-marks : goal.returns-in-Err-clause-marks
unfolding part_marks
returns-in-Err-clause-marks c =
    let g = c.args in
    let w = c.read_file.ensures in
    refused _ _ _ _ _ _ (w.outcome, (w.said, w.frames)) c.in-Err.is
    (λ (e : FileError). no_marks)
    (λ (x : List ℕ). if_marked (marks_of Pa.First x g.row.0) no_marks (part_in g.row x))

pub returns-in-Ok-clause-outcome : goal.returns-in-Ok-clause-outcome
unfolding smallest_part
returns-in-Ok-clause-outcome c =
    let g = c.args in
    let w = c.read_file.ensures in
    given _ _ _ _ _ _ (w.outcome, (w.said, w.frames)) c.in-Ok.is c.first_frames.ensures
    Po.NotAccepted (part_in g.row)
    (c.handed.ensures.0 ∙ ap (λ (x : RowPart). outcome_of x.outcome) c.mark_part.ensures ∙ part-outcome g.row _)

pub returns-in-Ok-clause-said : goal.returns-in-Ok-clause-said
returns-in-Ok-clause-said c = ap part_said (returns-in-Ok-clause-outcome c)

pub returns-in-Ok-clause-marks : goal.returns-in-Ok-clause-marks
unfolding part_marks
returns-in-Ok-clause-marks c =
    let g = c.args in
    let w = c.read_file.ensures in
    given _ _ _ _ _ _ (w.outcome, (w.said, w.frames)) c.in-Ok.is c.first_frames.ensures
    (λ (e : FileError). no_marks)
    (λ (x : List ℕ). if_marked (marks_of Pa.First x g.row.0) no_marks (part_in g.row x))
    (c.handed.ensures.1 ∙ ap (λ (x : RowPart). x.marks) c.mark_part.ensures ∙ part-marks g.row _)
