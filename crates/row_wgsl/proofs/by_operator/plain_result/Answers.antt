-- `plain_result`: the three parts make the result.
use mathlib.Core.Path.{ap}
use Rattle.rule.specs.Answers.{told}
use Rattle.rule_rows.specs.Operators.{or_mismatch}
use Rattle.row_wgsl.proofs.Parts.{in_parts}
use Rattle.row_wgsl.proofs.by_operator.plain_result.Goals as goal

pub returns : goal.returns
returns c =
    let g = c.args in
    rw (
      c.plain_when.ensures,
      c.plain_scalar.ensures,
      c.plain_size.ensures,
      c.plain_test.ensures,
    )
    (ap (λ t. told (or_mismatch t)) (in_parts g.op g.n g.s g.m g.r))
