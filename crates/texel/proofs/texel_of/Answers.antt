-- The nearest texel up to 10,000, which fits (`rounded-within`), and `Range` over it.
use Rattle.std.specs.Prelude.{Some}
use Rattle.std.proofs.Common.{◌*◌, sym, ap, ◌∙◌, arith}
use Rattle.texel.proofs.Laws.{rounded-within, is-given, is-range}
use Rattle.texel.proofs.texel_of.Goals as goal

pub overflow_cast-result : goal.overflow_cast-result
overflow_cast-result c =
    omega (arith, rounded-within (c.args.density * 65535) (omega arith))

pub returns-then-within-clause-outcome : goal.returns-then-within-clause-outcome
returns-then-within-clause-outcome c =
    ap Some c.nearest.ensures ∙ sym (is-given c.args.density (omega arith))

pub returns-else-within-clause-outcome : goal.returns-else-within-clause-outcome
returns-else-within-clause-outcome c = sym (is-range c.args.density (omega arith))
