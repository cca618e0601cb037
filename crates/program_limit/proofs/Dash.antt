-- The first `-` of a word is the lowest byte that is one.
use Rattle.std.specs.Prelude.{ℕ, ◌≡◌, ◌≢◌, ◌<◌, Bool, false, true, cond, List, length, Option, Some, None}
use Rattle.std.specs.Prelude.{slice_index, EachIndex, MatchOption}
use mathlib.Core.Path.{sym, ap}
use borrow.Author.Tests.{eq-eqb, ne_eqb}
use Rattle.scan.specs.Lowest.{lowest}
use Rattle.scan.proofs.Laws.{lowest-all, at-found}
use Rattle.program_limit.specs.Counts.{no_dash}

pub dash-found : (w : List ℕ) (r : Option ℕ)
    → MatchOption r (EachIndex w (λ k. slice_index w k ≢ 45))
    (λ i. (i < length w) × (slice_index w i ≡ 45) × ((k : ℕ) → k < i → slice_index w k ≢ 45))
    → r ≡ lowest (no_dash w) (length w)
dash-found w None h =
    sym (lowest-all (no_dash w) (length w) (λ k l. ap (λ (b : Bool). cond b false true) (ne_eqb _ 45 (h k l))))
dash-found w (Some i) h =
    sym (at-found (no_dash w) (length w) i (record {
      inside = h.0;
      fails = ap (λ (b : Bool). cond b false true) (eq-eqb _ 45 h.1);
      before = λ k l. ap (λ (b : Bool). cond b false true) (ne_eqb _ 45 (h.2 k l));
    }))
