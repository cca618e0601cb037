-- Rows taken in order, each made from those before it: there are as many as are asked for, what is not among them is
-- never come to, and what holds of each made from such before it holds of all. By induction on how many there are.
use Prim.Native.Nat.{ℕ, zero, suc, ◌+◌, ◌≤◌, ◌<◌}
use native.Mathlib.Decide.{dec_lt}
use native.Mathlib.Omega.{arith}
use mathlib.Core.Path.{◌≡◌, refl, sym, ap, ◌∙◌}
use mathlib.Core.List.{List, [], ◌∷◌, ◌++◌}
use lib.ListN.{length, get_or, length-append, get_or-append}
use lib.Seq.{get_or-append_seam}
use Rattle.rule.specs.InOrder.{in_order}

-- the first n
pub in-order-length : {B : Type 0} (next : List B → ℕ → B) (n : ℕ) → length (in_order next n) ≡ n
in-order-length next zero = refl
in-order-length next (suc n) =
    length-append (in_order next n) (next (in_order next n) n ∷ []) ∙ ap (λ (k : ℕ). k + 1) (in-order-length next n)
    ∙ omega arith

-- what holds of each made from such before it holds of all
pub in-order-all : {B : Type 0} (P : ℕ → B → Type 0) (next : List B → ℕ → B) (d : B) (limit : ℕ)
    → ((n : ℕ) (l : List B) → n < limit → ((m : ℕ) → m < n → P m (get_or l m d)) → P n (next l n)) → (n : ℕ) → n ≤ limit
    → (m : ℕ) → m < n → P m (get_or (in_order next n) m d)
in-order-all P next d limit h zero w m l = absurd (omega arith)
in-order-all P next d limit h (suc n) w m l = go (dec_lt m n) (λ j q. in-order-all P next d limit h n (omega arith) j q)
  where
    go : Dec (m < n) → ((j : ℕ) → j < n → P j (get_or (in_order next n) j d))
        → P m (get_or (in_order next n ++ (next (in_order next n) n ∷ [])) m d)
    go (yes q) ih = rw (get_or-append (in_order next n) (next (in_order next n) n ∷ []) d m
        (rw (in-order-length next n) q)) (ih m q)
    go (no q) ih =
        let e : m ≡ n = omega arith in
        let last : get_or (in_order next n ++ (next (in_order next n) n ∷ [])) n d ≡ next (in_order next n) n =
        ap (λ (k : ℕ). get_or (in_order next n ++ (next (in_order next n) n ∷ [])) k d) (sym (in-order-length next n))
        ∙ get_or-append_seam (in_order next n) (next (in_order next n) n) [] d in
        rw (e, last) (h n (in_order next n) (omega arith) ih)

-- within a list, what stands for an item that is not there does not matter
pub at-within : {B : Type 0} (l : List B) (i : ℕ) (d e : B) → i < length l → get_or l i d ≡ get_or l i e
at-within [] i d e h = absurd (omega arith)
at-within (x ∷ l) zero d e h = refl
at-within (x ∷ l) (suc i) d e h = at-within l i d e (omega arith)

pub in-order-there : {B : Type 0} (next : List B → ℕ → B) (n m : ℕ) → m < n → (d e : B)
    → get_or (in_order next n) m d ≡ get_or (in_order next n) m e
in-order-there next n m l d e = at-within (in_order next n) m d e (rw (in-order-length next n) l)

-- row m among the first n is made from those before it
pub in-order-at : {B : Type 0} (next : List B → ℕ → B) (d : B) (n m : ℕ) → m < n → get_or (in_order next n) m d
    ≡ next (in_order next m) m
in-order-at next d zero m h = absurd (omega arith)
in-order-at next d (suc n) m h = go (dec_lt m n) (in-order-at next d n m)
  where
    go : Dec (m < n) → (m < n → get_or (in_order next n) m d ≡ next (in_order next m) m)
        → get_or (in_order next n ++ (next (in_order next n) n ∷ [])) m d ≡ next (in_order next m) m
    go (yes l) ih = get_or-append (in_order next n) (next (in_order next n) n ∷ []) d m (rw (in-order-length next n) l)
        ∙ ih l
    go (no l) ih =
        let e : m ≡ n = omega arith in
        rw e
        (ap (λ (k : ℕ). get_or (in_order next n ++ (next (in_order next n) n ∷ [])) k d) (sym (in-order-length next n))
        ∙ get_or-append_seam (in_order next n) (next (in_order next n) n) [] d)
