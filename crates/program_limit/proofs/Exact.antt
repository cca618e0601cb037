-- A count read digit by digit: the number so far is what the digits spell, and more digits spell no less.
use Rattle.std.specs.Prelude.{Some, None}
use Prim.Native.Nat.{ℕ, zero, suc, ◌+◌, ◌*◌, ◌-◌, ◌≤◌, ◌<◌}
use native.Mathlib.Decide.{dec_le}
use native.Mathlib.Numerals.{add-one}
use native.Mathlib.Omega.{arith}
use mathlib.Core.Path.{◌≡◌, refl, sym, ap, ◌∙◌}
use mathlib.Core.Bool.{Bool, true, false, cond, ◌&&◌, and-false}
use mathlib.Core.List.{List}
use lib.Dec.{ltb}
use lib.ListN.{length, get_or}
use borrow.Author.Tests.{lt-ltb, le-ltb}
use Rattle.scan.specs.Lowest.{all_below}
use Rattle.scan.proofs.Laws.{all-each}
use Rattle.program_limit.specs.Word.{is_digit, spells}
use Rattle.program_limit.specs.Counts.{count_of}

-- the first k bytes are digits, and n is what they spell
pub record Exact (w : List ℕ) (n k : ℕ) : Type 0 where
  pub few : k ≤ length w
  pub digits : all_below (is_digit w) k ≡ true
  pub small : n ≤ 4294967295
  pub exact : n ≡ spells w k

pub begin : (w : List ℕ) → Exact w 0 0
unfolding all_below spells
begin w = record { few = omega arith; digits = refl; small = omega arith; exact = refl }

-- one digit more spells this
pub one-digit : (w : List ℕ) (n k d : ℕ) → n ≡ spells w k → d ≡ get_or w k 0 - 48 → 10 * n + d ≡ spells w (k + 1)
unfolding spells
one-digit w n k d e ed = rw add-one (omega (arith, e, ed))

pub step : (w : List ℕ) (n k d : ℕ) → Exact w n k → k < length w → is_digit w k ≡ true → d ≡ get_or w k 0 - 48
    → 10 * n + d ≤ 4294967295
    → Exact w (10 * n + d) (k + 1)
unfolding all_below
step w n k d i h dg ed s =
    record {
      few = omega (arith, h);
      digits = rw (add-one, i.digits, dg);
      small = s;
      exact = one-digit w n k d
          i.exact ed;
    }

spells-more : (w : List ℕ) (k m : ℕ) → k ≤ m → spells w k ≤ spells w m
unfolding spells
spells-more w k zero h = let e : k ≡ 0 = omega arith in rw e (omega arith)
spells-more w k (suc m) h = go (λ l. spells-more w k m l) (dec_le k m)
  where
    go : (k ≤ m → spells w k ≤ spells w m) → Dec (k ≤ m) → spells w k ≤ spells w (suc m)
    go ih (yes l) = omega (arith, ih l)
    go ih (no l) = let e : k ≡ suc m = omega arith in rw e (omega arith)

-- a byte that is no digit
pub no_number : (w : List ℕ) (k : ℕ) → k < length w → is_digit w k ≡ false → None ≡ count_of w
unfolding count_of
no_number w k h e = go (all_below (is_digit w) (length w)) refl
  where
    go : (b : Bool) → all_below (is_digit w) (length w) ≡ b
        → None ≡ cond (ltb 0 (length w) && (b && ltb (spells w (length w)) 4294967296))
        (Some (spells w (length w))) None
    go true p = let t = all-each (is_digit w) (length w) k p h in let z : ◌≡◌ {A = Bool} true false = sym t ∙ e in
        let y : ◌≡◌ {A = ℕ} 0 1 = cc in absurd (omega arith)
    go false p = rw (and-false (ltb 0 (length w)))

-- a number that is too large
pub too_large : (w : List ℕ) (n k : ℕ) → n ≡ spells w k → k ≤ length w → 4294967295 < n → None ≡ count_of w
unfolding count_of
too_large w n k e h l =
    rw (
      le-ltb (spells w (length w)) 4294967296 (omega (arith, spells-more w k (length w) h)),
      and-false (all_below (is_digit w) (length w)),
      and-false (ltb 0 (length w)),
    )

-- no byte at all
pub no_word : (w : List ℕ) → length w ≡ 0 → None ≡ count_of w
unfolding count_of
no_word w e = rw (le-ltb 0 (length w) (omega (arith, e)))

-- all of it
pub whole : (w : List ℕ) (n k : ℕ) → Exact w n k → k ≡ length w → 0 < k → Some n ≡ count_of w
unfolding count_of
whole w n k i ek h =
    let e : n ≡ spells w (length w) = i.exact ∙ ap (spells w) ek in
    rw (
      lt-ltb 0 (length w) (omega (arith, ek, h)),
      ← ek,
      i.digits,
      ← i.exact,
      lt-ltb n 4294967296 (omega (arith, i.small)),
    )
