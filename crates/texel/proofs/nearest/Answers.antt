-- By quotient and remainder, as `rounded` has it.
use Rattle.std.proofs.Common.{sym, ◌∙◌, arith}
use Rattle.texel.proofs.Laws.{below_half, above_half, at-half}
use Rattle.texel.proofs.nearest.Goals as goal

pub returns-then-below : goal.returns-then-below
returns-then-below c = sym (below_half c.args.n (omega arith))

pub returns-then-twice-gt10000 : goal.returns-then-twice-gt10000
returns-then-twice-gt10000 c = sym (above_half c.args.n (omega arith))

pub returns-else-twice-gt10000 : goal.returns-else-twice-gt10000
returns-else-twice-gt10000 c =
    c.tied_at.ensures ∙ sym (at-half c.args.n (omega arith))
