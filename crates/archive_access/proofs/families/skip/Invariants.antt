-- `skip`: every frame passed is of a lower rank.
use Rattle.std.specs.Prelude.{None}
use Rattle.std.proofs.Common.{◌≡◌, ℕ}
use lib.Dec.{ltb}
use Rattle.scan.specs.Lowest.{lowest}
use Rattle.archive.specs.Order.{rank_at}
use Rattle.archive_access.proofs.families.skip.Given as goal

abbrev pub invariant-loop-k : goal.invariant-loop-k
invariant-loop-k l = lowest (λ (j : ℕ). ltb (rank_at l.frames j) l.rank) l.k ≡ None
