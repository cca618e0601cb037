-- `measure_all`: what the types passed fill stands at the front of the buffer, and the table holds what was found.
use Rattle.std.proofs.Common.{◌≡◌, ℕ, ◌*◌, List, [], ◌++◌, drop}
use Rattle.archive.specs.declared.Starts.{Starts}
use Rattle.rule_sizes.specs.Sizes.{size_frames}
use Rattle.rule_ranges.specs.ForProofs.{KnownMarked}
use Rattle.type_sizes.proofs.measure_all.Given as goal

-- k frames are written; the other bytes of the buffer are as they were
pub record Inv (fr : List ℕ) (s : Starts) (out₀ out table : List ℕ) (k : ℕ) : Type 0 where
  pub written : out ≡ size_frames fr s k ++ drop (16 * k) out₀
  pub known : KnownMarked fr s [] [] table

abbrev pub invariant-loop-k : goal.invariant-loop-k
invariant-loop-k l = Inv l.frames l.s l.initial.out l.out l.table l.k
