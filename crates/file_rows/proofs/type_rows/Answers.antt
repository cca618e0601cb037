-- `type_rows`: the outcome is that of `type_file`.
use Rattle.std.proofs.lemmas.Result.{err_from_is_err_and}
use Rattle.std.proofs.Common.{sym, ap, ◌∙◌}
use Rattle.answers.specs.Numbers.{outcome_values}
use Rattle.rule_file.specs.Typed.{outcome_in}
use Rattle.file_rows.proofs.type_rows.Goals as goal

pub returns-in_err-typed : goal.returns-in_err-typed
returns-in_err-typed c =
    let h = c.type_file.ensures in
    let en = ap outcome_in (sym c.in_err-typed.was) in
    let p = err_from_is_err_and c.from_residual.result c.from_residual.ensures.1 in
    rw (p.1, p.2)
    (record {
      outcome = en ∙ h.outcome;
      said = ap outcome_values en ∙ h.said;
      frames = h.frames;
      answers = h.answers;
    })

pub returns : goal.returns
returns c =
    let h = c.type_file.ensures in
    let en = ap outcome_in (sym c.in_ok-typed.was) in
    record {
      outcome = en ∙ h.outcome;
      said = ap outcome_values en ∙ h.said;
      frames = h.frames;
      answers = h.answers;
    }
