-- A table that is too short is seen first; else what is printed.
use Rattle.std.specs.Prelude.{ℕ, Option}
use Rattle.std.proofs.Common.{◌≡◌, ap, ◌∙◌, ℕ, Bool, false, cond, List, length}
use Rattle.answers.specs.Numbers.{instead, at, printed_said}
use Rattle.rule_file.specs.Printed.{printed}
use Rattle.rule_ranges.specs.Ranges.{counts_of}
use Rattle.rule_explain.specs.Explained.{lines_said}
use Rattle.rule_explain.specs.Sized.{ranged}
use Rattle.rule_file_sizes.specs.Ranges.{tables_short}
use Rattle.explain_file.proofs.Said.{lines-said}
use Rattle.explain_file.proofs.ranges_text.Goals as goal

enough : (b : Bool) (lines o : List ℕ) (r : Option ℕ) → b ≡ false → r ≡ printed lines (length o)
    → printed_said r ≡ cond b (instead (at 3 0)) (lines_said lines (length o))
enough b lines o r h e = rw h (ap printed_said e ∙ lines-said lines (length o))

pub returns-clause-said : goal.returns-clause-said
returns-clause-said c =
    let g = c.args in
    enough (tables_short g.least.now g.greatest.now)
    (ranged g.limit (counts_of g.least.now) (counts_of g.greatest.now) g.text.now) g.out.now _
    c.if-least-greatest.false c.print_ranges.ensures.outcome
