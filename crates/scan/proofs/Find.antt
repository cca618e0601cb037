-- The lowest index that fails a test, looked for by `find` over a range.
use Prim.Native.Nat.{ℕ, ◌≤◌, ◌<◌}
use native.Mathlib.Omega.{arith}
use mathlib.Core.Path.{◌≡◌, sym}
use mathlib.Core.Bool.{Bool, true, false}
use mathlib.Core.List.{List}
use denote.Param.Members.{Mut}
use denote.Ref.{Bor}
use Rattle.std.specs.Prelude.{Option, Some, None}
use Rattle.std.specs.declared.ops.Range.{Range}
use Rattle.std.specs.Bool.{⊤}
use Rattle.std.specs.Fn.{CalledAt}
use Rattle.std.specs.Iterator.{YieldsThen}
use Rattle.std.specs.List.{FoldsTo}
use Rattle.std.specs.Option.{MatchOption}
use Rattle.std.proofs.iter.Yields.{nat_range_steps}
use Rattle.std.proofs.lemmas.Iterator.{first_from_Range}
use Rattle.scan.specs.Lowest.{lowest}
use Rattle.scan.proofs.Laws.{lowest-all, at-found}

-- the first below n that fails, else none, is the lowest
pub lowest_first : (ok : ℕ → Bool) (n : ℕ) (r : Option ℕ)
    → MatchOption r ((k : ℕ) → 0 ≤ k → k < n → ok k ≡ true)
    (λ i. (0 ≤ i) × (i < n) × (ok i ≡ false) × ((k : ℕ) → 0 ≤ k → k < i → ok k ≡ true))
    → r ≡ lowest ok n
lowest_first ok n None h = sym (lowest-all ok n (λ k l. h k (omega arith) l))
lowest_first ok n (Some i) h =
    sym (at-found ok n i (record { inside = h.1; fails = h.2; before = λ k l. h.3 k (omega arith) l }))

-- the same, by the clause `ran` of `find` over the range from 0 to n, whose closure asks for an index that fails
pub lowest_find : (ok : ℕ → Bool) (n : ℕ) {F : Type 0} {g : Mut F (Bor ℕ × Unit {0}) Bool} (s u : Range ℕ) (f : F)
    (r : Option ℕ)
    → s ≡ record { start = 0; end = n }
    → (xs : List ℕ) × (j : F) × YieldsThen nat_range_steps s xs r u × FoldsTo (λ p x q. CalledAt g p x false q) f xs j
    × MatchOption r ⊤ (λ x. (h : F) × CalledAt g j x true h)
    → ((x : ℕ) (q : F) → CalledAt g f x true q → ok x ≡ false)
    → ((x : ℕ) (q : F) → CalledAt g f x false q → (q ≡ f) × (ok x ≡ true))
    → r ≡ lowest ok n
lowest_find ok n s u f r e ran hit miss =
    lowest_first ok n r
    (rw e at (first_from_Range s u f r (λ k. ok k ≡ false) (λ k. ok k ≡ true) ran hit miss))
