-- `compose_verdict`: what is asked of the frames is asked of the text.
use Rattle.std.proofs.lemmas.Result.{err_from_is_err_and}
use Rattle.answers.specs.declared.FileError.{FileError}
use Rattle.std.proofs.Common.{◌≡◌, ℕ, List, length, ap}
use Rattle.answers.specs.Outcome.{Outcome}
use Rattle.rule_file.specs.Typing.{verdict_said, compose_verdict, to_verdict, not_accepted, verdict_given}
use Rattle.rule_file.specs.Typing.{answers_written, if_judged, answers_after_verdict}
use Rattle.law_file.proofs.Over.{refused, given}
use Rattle.law_file.proofs.Ready.{ready-part}
use Rattle.law_file.proofs.Said.{with-verdict}
use Rattle.file_rows.proofs.compose_verdict.Goals as goal

pub judge_one-requires : goal.judge_one-requires
judge_one-requires c =
    let w = c.read_with.ensures in
    ready-part _ _ _ _ _ _ _ (w.outcome, (w.said, w.frames)) c.in_ok-n.was
    c.first_frames.ensures

pub returns-in_err-n : goal.returns-in_err-n
unfolding compose_verdict answers_after_verdict
returns-in_err-n c =
    let g = c.args in
    let w = c.read_with.ensures in
    let en = c.in_err-n.was in
    let p = err_from_is_err_and c.from_residual.result c.from_residual.ensures.1 in
    let o = refused _ _ _ _ _ _ (w.outcome, (w.said, w.frames)) en not_accepted (verdict_given g.pass g.row) in
    rw (p.1, p.2)
    (record {
      outcome = o;
      said = ap (verdict_said g.row) o;
      frames = w.frames;
      answers = refused _ _ _ _ _ _ (w.outcome, (w.said, w.frames)) en (λ (e : FileError). g.answers.now)
          (λ (x : List ℕ). if_judged (answers_written g.pass g.answers.now x) g.answers.now
          (verdict_given g.pass g.row x));
    })

pub returns : goal.returns
unfolding compose_verdict answers_after_verdict
returns c =
    let g = c.args in
    let w = c.read_with.ensures in
    let en = c.in_ok-n.was in
    let ex = c.first_frames.ensures in
    let a = c.judge_one in
    let o : to_verdict a.result
    ≡ compose_verdict g.pass g.limit g.text.now (length g.frames.now) (length g.answers.now) g.row =
    given _ _ _ _ _ _ (w.outcome, (w.said, w.frames)) en ex not_accepted (verdict_given g.pass g.row)
    a.ensures.outcome in
    record {
      outcome = o;
      said = (with-verdict {B = Unit} c.args.row a.result o tt).1.0;
      frames = w.frames;
      answers = given _ _ _ _ _ _ (w.outcome, (w.said, w.frames)) en ex (λ (e : FileError). g.answers.now)
          (λ (x : List ℕ). if_judged (answers_written g.pass g.answers.now x) g.answers.now
          (verdict_given g.pass g.row x))
          a.ensures.answers;
    }
