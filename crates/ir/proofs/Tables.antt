-- Laws of a table of cases, for every table: what stands past its end, and which number each case has.
use Prim.Native.Nat.{ℕ, zero, suc, ◌+◌, ◌-◌, ◌≤◌, ◌<◌, zero-le}
use native.Mathlib.Decide.{dec_le}
use native.Mathlib.Nat.{add-zero}
use native.Mathlib.Omega.{arith}
use mathlib.Core.Path.{◌≡◌, refl, sym, ap, ◌∙◌}
use mathlib.Core.Bool.{cond}
use mathlib.Core.List.{List, [], ◌∷◌, map}
use lib.Dec.{leb}
use lib.ListN.{length, get_or, get_or-eq_default}
use borrow.Author.Tests.{le-leb, lt-leb}

-- what the last arm of a `match` on a number knows, whose other arms are b to b + n - 1
abbrev pub Rest : ℕ → ℕ → ℕ → Type 0
Rest b k zero = Unit
Rest b k (suc n) = Rest b k n × (k ≡ b + n → ⊥)

-- past its numbers from b on
pub above : (b n k : ℕ) → b ≤ k → Rest b k n → b + n ≤ k
above b zero k l r = omega arith
above b (suc n) k l r = let h : b + n ≤ k = above b n k l r.0 in let d : k ≡ b + n → ⊥ = r.1 in omega arith

-- past the end of a table whose first case has number 0 stands its default
pub past {ℓ} : {A : Type ℓ} (l : List A) (d : A) (k : ℕ) → Rest 0 k (length l) → d ≡ get_or l k d
past l d k r =
    let h : 0 + length l ≤ k = above 0 (length l) k zero-le r in
    sym (get_or-eq_default l d {n = k} (omega arith))

-- outside a table whose first case, its default, has number b
pub outside {ℓ} : {A : Type ℓ} (b : ℕ) (l : List A) (d : A) (k : ℕ) → get_or l 0 d ≡ d → Rest b k (length l) → d
    ≡ get_or l (k - b) d
outside b l d k e r = go (dec_le b k)
  where
    go : Dec (b ≤ k) → d ≡ get_or l (k - b) d
    go (yes le) = let h : b + length l ≤ k = above b (length l) k le r in
        sym (get_or-eq_default l d {n = k - b} (omega arith))
    go (no nle) = let z : k - b ≡ 0 = omega arith in rw z (sym e)

-- outside a table whose first case has number b, and whose default is given below b too
pub past-from {ℓ} : {A : Type ℓ} (b : ℕ) (l : List A) (d : A) (k : ℕ) → Rest b k (length l) → d
    ≡ cond (leb b k) (get_or l (k - b) d) d
past-from b l d k r = go (dec_le b k)
  where
    go : Dec (b ≤ k) → d ≡ cond (leb b k) (get_or l (k - b) d) d
    go (yes le) =
        let h : b + length l ≤ k = above b (length l) k le r in
        rw (le-leb b k le) (sym (get_or-eq_default l d {n = k - b} (omega arith)))
    go (no nle) = rw (lt-leb b k (omega arith))

-- the numbers from b on, n of them
abbrev pub up_from : ℕ → ℕ → List ℕ
up_from b zero = []
up_from b (suc n) = b ∷ up_from (suc b) n

-- a table whose cases are numbered from b on, as one computed test shows, has at place i the case with number b + i
pub at_place : {A : Type 0} (num : A → ℕ) (d : A) (l : List A) (b : ℕ) → map num l ≡ up_from b (length l) → (i : ℕ)
    → i < length l
    → num (get_or l i d) ≡ b + i
at_place num d [] b e i h = let g : i < 0 = h in absurd (omega arith)
at_place num d (x ∷ l) b e zero h = let q : num x ≡ b = cc in rw (add-zero b) q
at_place num d (x ∷ l) b e (suc i) h =
    let q : map num l ≡ up_from (suc b) (length l) = cc in
    let g : suc i < suc (length l) = h in
    at_place num d l (suc b) q i (omega arith) ∙ omega arith
