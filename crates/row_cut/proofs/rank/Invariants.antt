-- `rank`: the marks before the place that was come to are counted, at most one at each.
use Rattle.std.proofs.Common.{◌≡◌, ◌≤◌}
use Rattle.law_cut.specs.Cut.{rank}
use Rattle.row_cut.proofs.rank.Given as goal

abbrev pub invariant-loop-marked : goal.invariant-loop-marked
invariant-loop-marked l = (l.n ≤ l.marked-index) × (l.n ≡ rank l.marks l.marked-index)
