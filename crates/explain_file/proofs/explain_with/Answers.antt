-- The line of a fault, or those of all that is handed back.
use Rattle.std.specs.Prelude.{ℕ, ◌*◌, take}
use Rattle.std.proofs.Common.{ap, sym, ◌∙◌, subst}
use Rattle.rule_explain.specs.Explained.{Lines, answer_lines}
use Rattle.rule_file.specs.Typed.{outcome_in, outputs_in}
use Rattle.explain_file.specs.ForProofs.{Shown}
use Rattle.explain_file.proofs.File.{refused-lines, accepted-lines}
use Rattle.explain_file.proofs.explain_with.Goals as goal

pub returns-in-Err : goal.returns-in-Err
returns-in-Err c =
    let s = c.requires in
    let q = c.explain_fault in
    subst (λ (l : Lines). Shown l c.args.out.now q.result q.new.out)
    (refused-lines c.type_file.ensures s.frames s.answers (ap outcome_in c.in-Err.is)) q.ensures

pub returns-in-Ok : goal.returns-in-Ok
returns-in-Ok c =
    let s = c.requires in
    let q = c.explain_answers in
    let t = c.type_file in
    subst (λ (l : Lines). Shown l c.args.out.now q.result q.new.out)
    (ap (λ (k : ℕ). answer_lines (take (16 * c.in-Ok.typed.frames) t.new.frames) (take (16 * k) t.new.answers))
    (sym (ap outputs_in c.in-Ok.is))
    ∙ accepted-lines t.ensures s.frames s.answers (ap outcome_in c.in-Ok.is))
    (rw (c.first_frames-fr.ensures, c.first_frames.ensures) at q.ensures)
