-- `range_all`: the ranges of the types passed stand at the front of the buffer, and each table holds what was found.
use Rattle.std.proofs.Common.{◌≡◌, ℕ, ◌*◌, List, Bool, ◌++◌, drop}
use Rattle.archive.specs.declared.Starts.{Starts}
use Rattle.rule_sizes.specs.Sizes.{frames_of}
use Rattle.rule_ranges.specs.Ranges.{counts_of, range_frame}
use Rattle.rule_ranges.specs.ForProofs.{KnownMarked}
use Rattle.type_sizes.proofs.range_all.Given as goal

-- k frames are written; the other bytes of the buffer are as they were
pub record Inv (fr : List ℕ) (s : Starts) (marks : List Bool) (least greatest out₀ out lows highs : List ℕ)
    (k : ℕ) : Type 0 where
  pub written : out ≡ frames_of (range_frame fr s (counts_of least) (counts_of greatest)) k ++ drop (16 * k) out₀
  pub low : KnownMarked fr s marks least lows
  pub high : KnownMarked fr s marks greatest highs

abbrev pub invariant-loop-k : goal.invariant-loop-k
invariant-loop-k l = Inv l.frames l.s l.marks l.least l.greatest l.initial.out l.out l.lows l.highs l.k
