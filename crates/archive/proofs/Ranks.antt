-- Where a family begins: every frame before it is of a lower rank, since it is the lowest that is not.
use Rattle.std.specs.Prelude.{ℕ, Option, Some, None}
use Prim.Native.Nat.{ℕ, ◌≤◌, ◌<◌}
use native.Mathlib.Omega.{arith}
use mathlib.Core.Path.{◌≡◌, refl, sym, ap, ◌∙◌}
use mathlib.Core.Bool.{true, false}
use mathlib.Core.List.{List}
use lib.Dec.{ltb}
use borrow.Author.Tests.{ltb-true, lt-ltb, ltb-false}
use Rattle.scan.specs.Lowest.{lowest}
use Rattle.scan.proofs.Laws.{lowest-all, none-all, found_at}
use Rattle.frames.specs.Bytes.{frame_count}
use Rattle.archive.specs.Order.{rank_at}
use Rattle.archive.specs.Starts.{place_or, start}

-- what a start says: it is within the file, what stands before it is lower, and what stands there is not
pub record Begins (fr : List ℕ) (rank p : ℕ) : Type 0 where
  pub within : p ≤ frame_count fr
  pub lower : (k : ℕ) → k < p → rank_at fr k < rank
  pub there : p < frame_count fr → rank ≤ rank_at fr p

pub begins : (fr : List ℕ) (rank : ℕ) → Begins fr rank (start fr rank)
unfolding start
begins fr rank = go (lowest (λ (k : ℕ). ltb (rank_at fr k) rank) (frame_count fr)) refl
  where
    go : (f : Option ℕ) → lowest (λ (k : ℕ). ltb (rank_at fr k) rank) (frame_count fr) ≡ f
        → Begins fr rank (place_or (frame_count fr) f)
    go (Some p) e =
        let a = found_at (λ (k : ℕ). ltb (rank_at fr k) rank) (frame_count fr) p e in
        record {
          within = omega (arith, a.inside);
          lower = λ k h. ltb-true (rank_at fr k) rank (a.before k h);
          there = λ _. ltb-false (rank_at fr p) rank a.fails;
        }
    go None e =
        record {
          within = omega arith;
          lower = λ k h. ltb-true (rank_at fr k) rank
              (none-all (λ (j : ℕ). ltb (rank_at fr j) rank) (frame_count fr) k e h);
          there = λ h. absurd (omega arith);
        }

-- before the start of a rank nothing is of a higher rank
pub skipped : (fr : List ℕ) (rank higher : ℕ) → rank ≤ higher
    → lowest (λ (k : ℕ). ltb (rank_at fr k) higher) (start fr rank) ≡ None
skipped fr rank higher l =
    lowest-all (λ (k : ℕ). ltb (rank_at fr k) higher) (start fr rank)
    (λ k h. lt-ltb (rank_at fr k) higher (omega (arith, (begins fr rank).lower k h)))
