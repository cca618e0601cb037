-- What is lent to be written is a part of the buffer: the lines are within it, where no table is too short.
use Rattle.std.proofs.Common.{◌≡◌, ◌≤◌, sym, ◌∙◌, ℕ, Bool, true, false, cond, List, length, arith}
use lib.Seq.{length-take-le}
use Rattle.std.specs.Prelude.{Option, Some, None}
use Rattle.rule_file.specs.Printed.{printed, printed_after}
use Rattle.rule_ranges.specs.Ranges.{counts_of}
use Rattle.rule_file_sizes.specs.Ranges.{tables_short}
use Rattle.rule_explain.specs.Sized.{ranged}
use Rattle.law_file.proofs.Printed.{bytes-within}
use Rattle.program_sizes.proofs.list_ranges.Goals as goal

-- lines are within their buffer, where no table is too short
or_short : (b : Bool) (l o last : List ℕ) (r : Option ℕ) (n : ℕ) → r ≡ cond b None (printed l (length o))
    → last ≡ cond b o (printed_after l o) → r ≡ Some n → n ≤ length last
or_short true l o last r n e q h =
    let z : ◌≡◌ {A = Option ℕ} None (Some n) = sym e ∙ h in
    let w : ◌≡◌ {A = ℕ} 0 1 = cc in absurd (omega arith)
or_short false l o last r n e q h = bytes-within l o last r n e q h

pub slice_bounds-lines-end : goal.slice_bounds-lines-end
slice_bounds-lines-end g c =
    let t = c.ranges_text in
    let a = c.args in
    or_short (tables_short a.least.now a.greatest.now)
    (ranged a.limit (counts_of a.least.now) (counts_of a.greatest.now) a.text.now) _ _ _ _ t.ensures.outcome
    t.ensures.out c.in-Some.is

pub slice_bounds-write_all-end : goal.slice_bounds-write_all-end
slice_bounds-write_all-end g c =
    let t = c.ranges_text in
    let a = c.args in
    sym (length-take-le _ _
    (or_short (tables_short a.least.now a.greatest.now)
    (ranged a.limit (counts_of a.least.now) (counts_of a.greatest.now) a.text.now) _ _ _ _ t.ensures.outcome
    t.ensures.out c.in-Some.is))
