-- How long pieces are: a number has at most ten bytes, a word no more than the longest of those that it is one of. By
-- the laws of lists.
use Prim.Native.Nat.{ℕ, zero, suc, ◌+◌, ◌-◌, ◌/◌, ◌%◌, ◌≤◌, ◌<◌, max}
use native.Mathlib.Decide.{dec_lt}
use native.Mathlib.Omega.{arith}
use mathlib.Core.Path.{◌≡◌, refl}
use mathlib.Core.Bool.{Bool, true, false, cond}
use mathlib.Core.List.{List, [], ◌∷◌, ◌++◌}
use lib.Dec.{ltb}
use lib.ListN.{length, length-append}
use borrow.Author.Tests.{le-ltb}
use Rattle.rule_explain.specs.Lines.{num, digits, piece_bytes, spelled}

digits_long : (k n : ℕ) → length (digits k n) ≤ k
unfolding digits
digits_long zero n = omega arith
digits_long (suc k) n = either (ltb n 10) (digits_long k (n / 10))
  where
    either : (b : Bool) → length (digits k (n / 10)) ≤ k
        → length (cond b [] (digits k (n / 10)) ++ (48 + n % 10) ∷ []) ≤ suc k
    either true ih = omega arith
    either false ih = omega (arith, length-append (digits k (n / 10)) ((48 + n % 10) ∷ []))

pub number-long : (n : ℕ) → length (piece_bytes (num n)) ≤ 10
unfolding piece_bytes
number-long n = rw (le-ltb (4096 + n) 4096 (omega arith)) (digits_long 10 (4096 + n - 4096))

-- pieces, one by one
pub none-long : length (spelled []) ≡ 0
unfolding spelled
none-long = refl

pub piece-long : (p : ℕ) (l : List ℕ) → length (spelled (p ∷ l)) ≡ length (piece_bytes p) + length (spelled l)
unfolding spelled
piece-long p l = length-append (piece_bytes p) (spelled l)

-- the longest of n pieces
unfoldable pub longest : (ℕ → ℕ) → ℕ → ℕ
longest f zero = 0
longest f (suc n) = max (longest f n) (length (piece_bytes (f n)))

pub no_longer : (f : ℕ → ℕ) (n i : ℕ) → i < n → length (piece_bytes (f i)) ≤ longest f n
unfolding longest
no_longer f zero i h = absurd (omega arith)
no_longer f (suc n) i h = go (dec_lt i n) (no_longer f n i)
  where
    go : Dec (i < n) → (i < n → length (piece_bytes (f i)) ≤ longest f n)
        → length (piece_bytes (f i)) ≤ max (longest f n) (length (piece_bytes (f n)))
    go (yes l) ih = omega (arith, ih l)
    go (no l) ih = let e : i ≡ n = omega arith in rw e (omega arith)
