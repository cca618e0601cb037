-- Laws of a list made index by index, and of a sum: a turn of a loop that fills a buffer, or adds up.
use mathlib.Core.Path.{◌≡◌, refl, sym, ◌∙◌}
use mathlib.Core.List.{List, [], ◌∷◌, ◌++◌}
use mathlib.Core.Logic.{⊎_elim}
use Prim.Native.Nat.{ℕ, zero, suc, ◌+◌, ◌<◌}
use native.Mathlib.Nat.{le_of_suc-le-suc, eq-or-lt_of_le}
use native.Mathlib.Numerals.{add-one}
use native.Mathlib.Omega.{arith}
use lib.ListN.{length, drop, set, get_or, length-append, get_or-append}
use lib.Seq.{drop-cons, set_at, append_snoc, get_or_at}
use Rattle.scan.specs.Lists.{build, sum_below}

module _ (f : ℕ → ℕ) where
  pub build-zero : (d : List ℕ) → d ≡ build f 0 ++ drop 0 d
  unfolding build
  build-zero d = refl

  pub length-build : (n : ℕ) → length (build f n) ≡ n
  unfolding build
  length-build zero = refl
  length-build (suc n) = simp length-append (omega (arith, length-build n))

  pub get_d-build : (n i : ℕ) → i < n → get_or (build f n) i 0 ≡ f i
  unfolding build
  get_d-build zero i l = absurd (omega arith)
  get_d-build (suc n) i l =
      ⊎_elim (λ e. rw e (get_or_at (build f n) (f n) [] 0 n (length-build n)))
      (λ lt. get_or-append (build f n) (f n ∷ []) 0 i (rw length-build lt) ∙ get_d-build n i lt)
      (eq-or-lt_of_le (le_of_suc-le-suc l))

  -- a store at n of `f n` takes a buffer whose first n bytes are made to one whose first n + 1 are
  pub build-more : (n : ℕ) (d : List ℕ) → n < length d → set (build f n ++ drop n d) n (f n) ≡ build f (n + 1)
      ++ drop (n + 1) d
  unfolding build
  build-more n d l =
      rw (add-one, drop-cons d n 0)
      (set_at (build f n) (get_or d n 0) (drop (suc n) d) (f n) n (length-build n)
      ∙ sym (append_snoc (build f n) (f n) (drop (suc n) d)))

  -- a turn of a loop that fills a buffer: d₀ is the buffer where the loop begins, d as the turn begins
  pub build-turn : (d₀ d : List ℕ) (i v : ℕ) → d ≡ build f i ++ drop i d₀ → i < length d₀ → v ≡ f i
      → set d i v ≡ build f (i + 1) ++ drop (i + 1) d₀
  build-turn d₀ d i v e l ev = rw (e, ev) (build-more i d₀ l)

  pub sum-zero : 0 ≡ sum_below f 0
  unfolding sum_below
  sum-zero = refl

  -- a turn of a loop that adds up
  pub sum_more : (i : ℕ) {s v : ℕ} → s ≡ sum_below f i → v ≡ f i → s + v ≡ sum_below f (i + 1)
  unfolding sum_below
  sum_more i e ev = rw (add-one, e, ev)

-- the same numbers make the same list
pub build-same : (f g : ℕ → ℕ) (n : ℕ) → ((i : ℕ) → i < n → f i ≡ g i) → build f n ≡ build g n
unfolding build
build-same f g zero h = refl
build-same f g (suc n) h = rw (build-same f g n (λ i l. h i (omega arith)), h n (omega arith))
