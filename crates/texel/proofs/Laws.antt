-- What holds of the texel of a density. Of a half the laws but `tie-even` and those on what moved know only that it
-- goes to one of its two neighbours (`tied-near`), so that 10,000 times the texel is at most 5,000 away from d times
-- 65,535 (`close`); from that alone follow the nearest texel, the range, the order and the ends.
use Rattle.std.specs.Prelude.{Some, None}
use Prim.Native.Nat.{ℕ, ◌+◌, ◌*◌, ◌-◌, ◌/◌, ◌%◌, ◌≤◌, ◌<◌}
use native.Mathlib.Decide.{dec_lt, dec_le}
use native.Mathlib.Omega.{arith}
use mathlib.Core.Path.{◌≡◌, refl, sym, ap, ◌∙◌}
use mathlib.Core.Bool.{Bool, true, false, ◌||◌}
use mathlib.Core.Logic.{◌↔◌}
use lib.Dec.{eqb}
use borrow.Author.Tests.{lt-ltb, le-ltb, le-leb, lt-leb, eqb-true}
use Rattle.scan.specs.Lowest.{all_below}
use Rattle.scan.proofs.Laws.{all-each}
use Rattle.texel.specs.Texel.{tied, rounded, texel_of}

-- how far texel t is from density d, in 10,000ths of a texel
abbrev pub distance : ℕ → ℕ → ℕ
distance d t = (t * 10000 - d * 65535) + (d * 65535 - t * 10000)

-- ROUNDING

-- a half goes to one of its two neighbours
pub tied-near : (q : ℕ) → (q ≤ tied q) × (tied q ≤ q + 1)
unfolding tied
tied-near q = (omega arith, omega arith)

pub below_half : (n : ℕ) → n % 10000 * 2 < 10000 → rounded n ≡ n / 10000
unfolding rounded
below_half n h = rw (lt-ltb (n % 10000 * 2) 10000 h)

pub above_half : (n : ℕ) → 10000 < n % 10000 * 2 → rounded n ≡ n / 10000 + 1
unfolding rounded
above_half n h =
    let l : 10000 ≤ n % 10000 * 2 = omega arith in
    rw (le-ltb (n % 10000 * 2) 10000 l, lt-ltb 10000 (n % 10000 * 2) h)

pub at-half : (n : ℕ) → n % 10000 * 2 ≡ 10000 → rounded n ≡ tied (n / 10000)
unfolding rounded
at-half n h =
    let l : 10000 ≤ n % 10000 * 2 = omega arith in
    let g : n % 10000 * 2 ≤ 10000 = omega arith in
    rw (le-ltb (n % 10000 * 2) 10000 l, le-ltb 10000 (n % 10000 * 2) g)

-- at most a half away
pub close : (n : ℕ) → (n ≤ rounded n * 10000 + 5000) × (rounded n * 10000 ≤ n + 5000)
close n = go (dec_lt (n % 10000 * 2) 10000) (dec_lt 10000 (n % 10000 * 2))
  where
    go : Dec (n % 10000 * 2 < 10000) → Dec (10000 < n % 10000 * 2) → (n ≤ rounded n * 10000 + 5000)
        × (rounded n * 10000 ≤ n + 5000)
    go (yes b) a = let e = below_half n b in (omega arith, omega arith)
    go (no b) (yes a) = let e = above_half n a in (omega arith, omega arith)
    go (no b) (no a) =
        let h : n % 10000 * 2 ≡ 10000 = omega arith in
        let e = at-half n h in
        let t = tied-near (n / 10000) in (omega arith, omega arith)

-- the greatest n is 10,000 times 65,535
pub rounded-within : (n : ℕ) → n ≤ 655350000 → rounded n ≤ 65535
rounded-within n h = omega (arith, close n)

rounded-order : (m n : ℕ) → m ≤ n → rounded m ≤ rounded n
rounded-order m n h = go (dec_le n m)
  where
    go : Dec (n ≤ m) → rounded m ≤ rounded n
    go (yes l) = let e : m ≡ n = omega arith in omega (arith, ap rounded e)
    go (no l) = omega (arith, close m, close n)

-- THE TEXEL

pub is-given : (d : ℕ) → d ≤ 10000 → texel_of d ≡ Some (rounded (d * 65535))
unfolding texel_of
is-given d h = rw (le-leb d 10000 h)

pub is-range : (d : ℕ) → 10000 < d → texel_of d ≡ None
unfolding texel_of
is-range d h = rw (lt-leb d 10000 h)

-- a texel is given exactly up to 10,000, and then it is the rounded one
pub given-when : (d t : ℕ) → (texel_of d ≡ Some t) ↔ ((d ≤ 10000) × (t ≡ rounded (d * 65535)))
given-when d t = (go (dec_le d 10000), λ h. is-given d h.0 ∙ ap Some (sym h.1))
  where
    go : Dec (d ≤ 10000) → texel_of d ≡ Some t → (d ≤ 10000) × (t ≡ rounded (d * 65535))
    go (yes l) e = let g = is-given d l in (l, cc)
    go (no l) e =
        let g = is-range d (omega arith) in
        let z : ◌≡◌ {A = ℕ} 0 1 = cc in (omega arith, omega arith)

-- and number 40 exactly over it
pub range-when : (d : ℕ) → (texel_of d ≡ None) ↔ (10000 < d)
range-when d = (go (dec_le d 10000), is-range d)
  where
    go : Dec (d ≤ 10000) → texel_of d ≡ None → 10000 < d
    go (yes l) e =
        let g = is-given d l in
        let z : ◌≡◌ {A = ℕ} 0 1 = cc in omega arith
    go (no l) e = omega arith

-- no texel is nearer
pub nearest : (d t n : ℕ) → texel_of d ≡ Some t → distance d t ≤ distance d n
nearest d t n e = go (dec_lt n t) (dec_lt t n)
  where
    go : Dec (n < t) → Dec (t < n) → distance d t ≤ distance d n
    go (yes l) g = omega (arith, ((given-when d t).0 e).1, close (d * 65535))
    go (no l) (yes g) = omega (arith, ((given-when d t).0 e).1, close (d * 65535))
    go (no l) (no g) = let s : t ≡ n = omega arith in omega arith

pub within : (d t : ℕ) → texel_of d ≡ Some t → t ≤ 65535
within d t e =
    let g = (given-when d t).0 e in
    let h : d * 65535 ≤ 655350000 = omega arith in
    omega (arith, rounded-within (d * 65535) h)

-- never falling as d rises
pub order : (d e t u : ℕ) → d ≤ e → texel_of d ≡ Some t → texel_of e ≡ Some u → t ≤ u
order d e t u l f g =
    let h : d * 65535 ≤ e * 65535 = omega arith in
    omega (arith, ((given-when d t).0 f).1, ((given-when e u).0 g).1, rounded-order (d * 65535) (e * 65535) h)

-- the ends
pub least : texel_of 0 ≡ Some 0
least =
    let z : rounded 0 ≡ 0 = omega (arith, close 0) in
    is-given 0 (omega arith) ∙ ap Some z

pub greatest : texel_of 10000 ≡ Some 65535
greatest =
    let z : rounded 655350000 ≡ 65535 = omega (arith, close 655350000) in
    is-given 10000 (omega arith) ∙ ap Some z

-- HALVES, where they go: of two texels that are equally near the even one is given
pub tie-even : (d t n : ℕ) → texel_of d ≡ Some t → distance d n ≡ distance d t → (n ≡ t → ⊥) → t % 2 ≡ 0
unfolding tied
tie-even d t n e h other = go (dec_lt (d * 65535 % 10000 * 2) 10000) (dec_lt 10000 (d * 65535 % 10000 * 2))
  where
    r : t ≡ rounded (d * 65535)
    r = ((given-when d t).0 e).1

    go : Dec (d * 65535 % 10000 * 2 < 10000) → Dec (10000 < d * 65535 % 10000 * 2) → t % 2 ≡ 0
    go (yes b) a = absurd (other (omega (arith, r, below_half (d * 65535) b)))
    go (no b) (yes a) = absurd (other (omega (arith, r, above_half (d * 65535) a)))
    go (no b) (no a) =
        let m : d * 65535 % 10000 * 2 ≡ 10000 = omega arith in
        omega (arith, r, at-half (d * 65535) m)

-- WHAT MOVED when halves stopped going up: the texels of 3,000 and 7,000, each by one, and no other

-- the texel with halves going up (document 02, request 1): a half more, rounded down
abbrev pub up_texel : ℕ → ℕ
up_texel d = (d * 65535 + 5000) / 10000

-- the texel is the one with halves going up, or the density is one of the two: computed, over all 10,001
abbrev same_or : ℕ → Bool
same_or d = eqb d 3000 || (eqb d 7000 || eqb (rounded (d * 65535)) (up_texel d))

all_same : all_below same_or 10001 ≡ true
unfolding all_below rounded tied
all_same = refl

pub stayed : (d t : ℕ) → texel_of d ≡ Some t → (d ≡ 3000 → ⊥) → (d ≡ 7000 → ⊥) → t ≡ up_texel d
stayed d t e three seven =
    let g = (given-when d t).0 e in
    g.1 ∙ eqb-true (rounded (d * 65535)) (up_texel d)
    (go (eqb d 3000) (eqb d 7000) refl refl (all-each same_or 10001 d all_same (omega (arith, g.0))))
  where
    go : (a b : Bool) → eqb d 3000 ≡ a → eqb d 7000 ≡ b → (a || (b || eqb (rounded (d * 65535)) (up_texel d))) ≡ true
        → eqb (rounded (d * 65535)) (up_texel d) ≡ true
    go true b p q h = absurd (three (eqb-true d 3000 p))
    go false true p q h = absurd (seven (eqb-true d 7000 q))
    go false false p q h = h

pub three-thousand : (texel_of 3000 ≡ Some 19660) × (up_texel 3000 ≡ 19661)
unfolding texel_of rounded tied
three-thousand = (refl, refl)

pub seven-thousand : (texel_of 7000 ≡ Some 45874) × (up_texel 7000 ≡ 45875)
unfolding texel_of rounded tied
seven-thousand = (refl, refl)

-- a half that was even already did not move
pub one-thousand : (texel_of 1000 ≡ Some 6554) × (up_texel 1000 ≡ 6554)
unfolding texel_of rounded tied
one-thousand = (refl, refl)
