-- Laws of the lowest index that fails a test, by induction on how many indexes there are.
use Rattle.std.specs.Prelude.{ℕ, Option, Some, None}
use mathlib.Core.Path.{◌≡◌, refl, sym, ap, ◌∙◌}
use mathlib.Core.Bool.{Bool, true, false, cond, ◌&&◌}
use mathlib.Core.Logic.{⊎_elim}
use Prim.Native.Nat.{ℕ, zero, suc, ◌+◌, ◌≤◌, ◌<◌}
use native.Mathlib.Nat.{le_of_suc-le-suc, eq-or-lt_of_le, le_antisymm}
use native.Mathlib.Numerals.{add-one}
use native.Mathlib.Omega.{arith}
use lib.Dec.{leb}
use borrow.Author.Tests.{le-leb, lt-leb}
use Rattle.scan.specs.Lowest.{or_else, lowest, all_below}
use Rattle.scan.specs.ForProofs.{lower_of}

-- what holds in each case of a test holds of the choice
pub by-test {ℓ} : {A : Type ℓ} (P : A → Type 0) (b : Bool) {x y : A} → (b ≡ true → P x) → (b ≡ false → P y)
    → P (cond b x y)
by-test P true f g = f refl
by-test P false f g = g refl

pub and_first : (a b : Bool) → (a && b) ≡ true → a ≡ true
and_first true b e = refl
and_first false b e = e

pub and_second : (a b : Bool) → (a && b) ≡ true → b ≡ true
and_second true b e = e
and_second false b e = absurd (let z : ◌≡◌ {A = ℕ} 0 1 = cc in omega arith)

-- ---- turns of a loop that looks for the lowest. r is what the code's own test answered at i.
module _ (ok : ℕ → Bool) where
  pub lowest-zero : lowest ok 0 ≡ None
  unfolding lowest
  lowest-zero = refl

  -- none below i and none at i: none below i + 1
  pub lowest-more : (i : ℕ) {r : Bool} → lowest ok i ≡ None → r ≡ ok i → r ≡ true → lowest ok (i + 1) ≡ None
  unfolding lowest
  lowest-more i none is t = rw (add-one, none, ← is, t)

  -- none below i, and i fails: i is the lowest, below any n above i
  pub lowest-hit : (i n : ℕ) {r : Bool} → i < n → lowest ok i ≡ None → r ≡ ok i → r ≡ false → Some i ≡ lowest ok n
  unfolding lowest
  lowest-hit i zero l none is f = absurd (omega arith)
  lowest-hit i (suc n) l none is f =
      ⊎_elim (λ e. rw (← e, none, ← is, f)) (λ lt. rw (← lowest-hit i n lt none is f))
      (eq-or-lt_of_le (le_of_suc-le-suc l))

  -- at the end none was found
  pub lowest-none : (i n : ℕ) → i ≤ n → n ≤ i → lowest ok i ≡ None → None ≡ lowest ok n
  lowest-none i n l m none = rw (← le_antisymm l m, none)

  -- all pass: none is found
  pub lowest-all : (n : ℕ) → ((k : ℕ) → k < n → ok k ≡ true) → lowest ok n ≡ None
  unfolding lowest
  lowest-all zero h = refl
  lowest-all (suc n) h = rw (lowest-all n (λ k l. h k (omega arith)), h n (omega arith))

-- ---- what the lowest says of the test, both ways
pub record LowestAt (ok : ℕ → Bool) (n p : ℕ) : Type 0 where
  pub inside : p < n
  pub fails : ok p ≡ false
  pub before : (k : ℕ) → k < p → ok k ≡ true

module _ (ok : ℕ → Bool) where
  -- nothing is found: all pass
  pub none-all : (n k : ℕ) → lowest ok n ≡ None → k < n → ok k ≡ true
  unfolding lowest
  none-all zero k none l = absurd (omega arith)
  none-all (suc n) k none l = go (lowest ok n) (ok n) (λ e lt. none-all n k e lt) refl none
    where
      go : (f : Option ℕ) (b : Bool) → (f ≡ None → k < n → ok k ≡ true) → ok n ≡ b → or_else f (cond b None (Some n))
          ≡ None
          → ok k ≡ true
      go (Some j) b below eb e = absurd (let z : ◌≡◌ {A = ℕ} 0 1 = cc in omega arith)
      go None false below eb e = absurd (let z : ◌≡◌ {A = ℕ} 0 1 = cc in omega arith)
      go None true below eb e =
          ⊎_elim (λ q. ap ok q ∙ eb) (λ lt. below refl lt) (eq-or-lt_of_le (le_of_suc-le-suc l))

  -- a place is found: it fails, and all before it pass
  pub found_at : (n p : ℕ) → lowest ok n ≡ Some p → LowestAt ok n p
  unfolding lowest
  found_at zero p e = absurd (let z : ◌≡◌ {A = ℕ} 0 1 = cc in omega arith)
  found_at (suc n) p e = go (lowest ok n) (ok n) (λ h. found_at n p h) refl refl e
    where
      go : (f : Option ℕ) (b : Bool) → (lowest ok n ≡ Some p → LowestAt ok n p) → lowest ok n ≡ f → ok n ≡ b
          → or_else f (cond b None (Some n)) ≡ Some p → LowestAt ok (suc n) p
      go (Some j) b below ef eb h =
          let q : j ≡ p = cc in
          let r = below (ef ∙ ap Some q) in
          record { inside = omega (arith, r.inside); fails = r.fails; before = r.before }
      go None true below ef eb h = absurd (let z : ◌≡◌ {A = ℕ} 0 1 = cc in omega arith)
      go None false below ef eb h =
          let q : n ≡ p = cc in
          record { inside = omega arith; fails = ap ok (sym q) ∙ eb; before = λ k l. none-all n k ef (omega arith) }

  -- a place that fails, with all before it passing, is found
  pub at-found : (n p : ℕ) → LowestAt ok n p → lowest ok n ≡ Some p
  at-found n p r = sym (lowest-hit ok p n r.inside (lowest-all ok p r.before) refl r.fails)

-- ---- two tests at once, and many
lower-nothing : (f : Option ℕ) → lower_of f None ≡ f
lower-nothing (Some k) = refl
lower-nothing None = refl

-- one index more, of the lower of two: the places found so far are below it
step_both : (n : ℕ) (f g : Option ℕ) (a b : Bool) → ((k : ℕ) → f ≡ Some k → k < n) → ((k : ℕ) → g ≡ Some k → k < n)
    → or_else (lower_of f g) (cond (a && b) None (Some n))
    ≡ lower_of (or_else f (cond a None (Some n))) (or_else g (cond b None (Some n)))
step_both n (Some i) (Some j) a b p q = by-test (λ x. or_else x (cond (a && b) None (Some n)) ≡ x) (leb i j) (λ _. refl)
    (λ _. refl)
step_both n (Some i) None a true p q = refl
step_both n (Some i) None a false p q = rw (le-leb i n (omega (arith, p i refl)))
step_both n None (Some j) true b p q = refl
step_both n None (Some j) false b p q = rw (lt-leb n j (q j refl))
step_both n None None true true p q = refl
step_both n None None true false p q = refl
step_both n None None false true p q = refl
step_both n None None false false p q = rw (le-leb n n (omega arith))

-- the lowest that fails one of two tests is the lower of the lowest of each
pub lowest-both : (ok also : ℕ → Bool) (n : ℕ) → lowest (λ k. ok k && also k) n ≡ lower_of (lowest ok n) (lowest also n)
unfolding lowest
lowest-both ok also zero = refl
lowest-both ok also (suc n) =
    rw (lowest-both ok also n)
    (step_both n (lowest ok n) (lowest also n) (ok n) (also n) (λ k e. (found_at ok n k e).inside)
    (λ k e. (found_at also n k e).inside))

-- a turn of a loop over the tests: f is the lowest that fails one of the first i, g the lowest that fails test i
pub lowest-tests : (ok : ℕ → ℕ → Bool) (n i : ℕ) {f g : Option ℕ} → f ≡ lowest (λ k. all_below (λ j. ok j k) i) n → g
    ≡ lowest (ok i) n
    → lower_of f g ≡ lowest (λ k. all_below (λ j. ok j k) (i + 1)) n
unfolding all_below
lowest-tests ok n i ef eg = rw (add-one, ef, eg) (sym (lowest-both (λ k. all_below (λ j. ok j k) i) (ok i) n))

-- ---- a test of every index
module _ (ok : ℕ → Bool) where
  pub all-each : (n k : ℕ) → all_below ok n ≡ true → k < n → ok k ≡ true
  unfolding all_below
  all-each zero k e l = absurd (omega arith)
  all-each (suc n) k e l =
      ⊎_elim (λ q. ap ok q ∙ and_second (all_below ok n) (ok n) e)
      (λ lt. all-each n k (and_first (all_below ok n) (ok n) e) lt)
      (eq-or-lt_of_le (le_of_suc-le-suc l))

  pub each_all : (n : ℕ) → ((k : ℕ) → k < n → ok k ≡ true) → all_below ok n ≡ true
  unfolding all_below
  each_all zero h = refl
  each_all (suc n) h = rw (each_all n (λ k l. h k (omega arith)), h n (omega arith))

  -- a turn of a loop that tests every index
  pub all-and : (i : ℕ) {a r : Bool} → a ≡ all_below ok i → r ≡ ok i → (a && r) ≡ all_below ok (i + 1)
  unfolding all_below
  all-and i e d = rw (add-one, e, d)
