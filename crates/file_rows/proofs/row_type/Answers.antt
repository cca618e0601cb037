-- `row_type`: what is asked of the frames is asked of the text.
use Rattle.std.proofs.lemmas.Result.{err_from_is_err_and}
use Rattle.answers.specs.declared.FileError.{FileError}
use Rattle.std.proofs.Common.{◌≡◌, ℕ, List, length, cond, ap}
use Rattle.answers.specs.Outcome.{Outcome}
use Rattle.archive.specs.Names.{is_row}
use Rattle.archive.specs.Starts.{starts_of}
use Rattle.rule_file.specs.Typing.{row_said, row_type, to_given, not_accepted, answers_written, row_given}
use Rattle.rule_file.specs.Typing.{answers_after_row}
use Rattle.law_file.proofs.Over.{refused, given}
use Rattle.law_file.proofs.Ready.{ready-part}
use Rattle.law_file.proofs.Said.{with_row}
use Rattle.file_rows.proofs.row_type.Goals as goal

pub answer_one-requires : goal.answer_one-requires
answer_one-requires c =
    let w = c.read_with.ensures in
    ready-part _ _ _ _ _ _ _ (w.outcome, (w.said, w.frames)) c.in_ok-n.was
    c.first_frames.ensures

pub returns-in_err-n : goal.returns-in_err-n
unfolding row_type answers_after_row
returns-in_err-n c =
    let g = c.args in
    let w = c.read_with.ensures in
    let en = c.in_err-n.was in
    let p = err_from_is_err_and c.from_residual.result c.from_residual.ensures.1 in
    let o = refused _ _ _ _ _ _ (w.outcome, (w.said, w.frames)) en not_accepted (row_given g.pass g.row) in
    rw (p.1, p.2)
    (record {
      outcome = o;
      said = ap (row_said) o;
      frames = w.frames;
      answers = refused _ _ _ _ _ _ (w.outcome, (w.said, w.frames)) en (λ (e : FileError). g.answers.now)
          (λ (x : List ℕ). cond (is_row (starts_of x) g.row) (answers_written g.pass g.answers.now x) g.answers.now);
    })

pub returns : goal.returns
unfolding row_type answers_after_row
returns c =
    let g = c.args in
    let w = c.read_with.ensures in
    let en = c.in_ok-n.was in
    let ex = c.first_frames.ensures in
    let a = c.answer_one in
    let o : to_given a.result
    ≡ row_type g.pass g.limit g.text.now (length g.frames.now) (length g.answers.now) g.row =
    given _ _ _ _ _ _ (w.outcome, (w.said, w.frames)) en ex not_accepted (row_given g.pass g.row)
    a.ensures.outcome in
    record {
      outcome = o;
      said = (with_row {B = Unit} a.result o tt).1.0;
      frames = w.frames;
      answers = given _ _ _ _ _ _ (w.outcome, (w.said, w.frames)) en ex (λ (e : FileError). g.answers.now)
          (λ (x : List ℕ). cond (is_row (starts_of x) g.row) (answers_written g.pass g.answers.now x) g.answers.now)
          a.ensures.answers;
    }
