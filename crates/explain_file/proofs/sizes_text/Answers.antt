-- The lines stand at the front of their buffer, and are copied to the other.
use Rattle.std.proofs.Common.{ap, ◌∙◌, ℕ, List, length}
use Rattle.answers.specs.Numbers.{printed_said}
use Rattle.rule_file.specs.Printed.{printed, printed_after}
use Rattle.rule_explain.specs.Sized.{sizes_of}
use Rattle.explain_file.proofs.Fitting.{lines_are}
use Rattle.explain_file.proofs.Said.{lines-said}
use Rattle.explain_file.proofs.sizes_text.Goals as goal

pub returns : goal.returns
returns c =
    let g = c.args in
    let q = c.sizes_with-m in
    let p = c.print in
    let e = lines_are (sizes_of g.limit g.text.now) _ q.new.out q.result q.ensures in
    let o = p.ensures.outcome ∙ ap (λ (x : List ℕ). printed x (length g.out.now)) e in
    record {
      outcome = o;
      said = ap printed_said o ∙ lines-said _ _;
      out = p.ensures.out ∙ ap (λ (x : List ℕ). printed_after x g.out.now) e;
    }
