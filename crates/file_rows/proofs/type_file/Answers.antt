-- `type_file`: what is asked of the frames is asked of the text.
use Rattle.std.proofs.lemmas.Result.{err_from_is_err_and}
use Rattle.answers.specs.Numbers.{outcome_values}
use Rattle.answers.specs.declared.FileError.{FileError}
use Rattle.std.proofs.Common.{◌≡◌, ℕ, List, arith, sym, ap, ◌∙◌}
use Rattle.answers.specs.Outcome.{Outcome}
use Rattle.frames.specs.Bytes.{frame_count}
use Rattle.rule_answers.specs.Outputs.{output_bytes}
use Rattle.rule_file.specs.Typing.{answers_after, answers_written, output_count}
use Rattle.law_file.proofs.Over.{refused, given}
use Rattle.law_file.proofs.Ready.{ready-part}
use Rattle.law_file.proofs.Typed.{whole-frames}
use Rattle.file_rows.proofs.type_file.Goals as goal

pub answer_all-outputs-requires : goal.answer_all-outputs-requires
answer_all-outputs-requires c =
    let w = c.read_with.ensures in
    ready-part _ _ _ _ _ _ _ (w.outcome, (w.said, w.frames)) c.in_ok-n.was
    c.first_frames.ensures

pub returns-in_err-n : goal.returns-in_err-n
unfolding answers_after output_count
returns-in_err-n c =
    let w = c.read_with.ensures in
    let en = c.in_err-n.was in
    let p = err_from_is_err_and c.from_residual.result c.from_residual.ensures.1 in
    rw (p.1, p.2)
    (record {
      outcome = sym en ∙ w.outcome;
      said = ap outcome_values (sym en) ∙ w.said;
      outputs = refused _ _ _ _ _ _ (w.outcome, (w.said, w.frames)) en (λ (e : FileError). 0)
          (λ (x : List ℕ). frame_count (output_bytes c.args.pass x));
      frames = w.frames;
      answers = refused _ _ _ _ _ _ (w.outcome, (w.said, w.frames)) en (λ (e : FileError). c.args.answers.now)
          (λ (x : List ℕ). answers_written c.args.pass c.args.answers.now x);
    })

pub returns : goal.returns
unfolding answers_after output_count
returns c =
    let w = c.read_with.ensures in
    let en = c.in_ok-n.was in
    let ex = c.first_frames.ensures in
    let a = c.answer_all-outputs in
    let counted : a.result ≡ frame_count (output_bytes c.args.pass c.first_frames.result.now) =
    omega (arith, a.ensures.count, whole-frames c.args.pass c.first_frames.result.now) in
    record {
      outcome = sym c.in_ok-n.was ∙ w.outcome;
      said = ap outcome_values (sym c.in_ok-n.was) ∙ w.said;
      outputs = given _ _ _ _ _ _ (w.outcome, (w.said, w.frames)) en ex (λ (e : FileError). 0)
          (λ (x : List ℕ). frame_count (output_bytes c.args.pass x)) counted;
      frames = w.frames;
      answers = given _ _ _ _ _ _ (w.outcome, (w.said, w.frames)) en ex (λ (e : FileError). c.args.answers.now)
          (λ (x : List ℕ). answers_written c.args.pass c.args.answers.now x) a.ensures.answers;
    }
