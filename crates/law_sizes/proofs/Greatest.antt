-- The alignment of a struct, worked out member by member, is the greatest of its members' alignments. By the members
-- in order.
use Prim.Native.Nat.{ℕ, zero, suc, ◌≤◌, ◌<◌}
use native.Mathlib.Decide.{dec_lt}
use native.Mathlib.Omega.{arith}
use mathlib.Core.Path.{◌≡◌, refl, sym, ap, ◌∙◌}
use lib.Dec.{ltb}
use borrow.Author.Tests.{ltb-true, ltb-false}
use Rattle.scan.proofs.Laws.{by-test}
use Rattle.rule_sizes.specs.declared.Alignment.{Alignment}
use Rattle.rule_sizes.specs.declared.Alignment.TheVariants.{Two, Four, Eight, Sixteen}
use Rattle.rule_sizes.specs.Wgsl.{bytes, alignment_of, greater}
use Rattle.rule_sizes.specs.Meaning.{Greatest}

-- the greatest of the first k, and at least 2
abbrev pub top_of : (ℕ → Alignment) → ℕ → Alignment
top_of aligns zero = Two
top_of aligns (suc k) = greater (top_of aligns k) (aligns k)

pub alignment-back : (a : Alignment) → alignment_of (bytes a) ≡ a
alignment-back Two = refl
alignment-back Four = refl
alignment-back Eight = refl
alignment-back Sixteen = refl

same_bytes : (a b : Alignment) → bytes a ≡ bytes b → a ≡ b
same_bytes a b e = sym (alignment-back a) ∙ ap alignment_of e ∙ alignment-back b

pub greater-left : (b a : Alignment) → bytes b ≤ bytes (greater b a)
greater-left b a =
    by-test (λ (x : Alignment). bytes b ≤ bytes x) (ltb (bytes b) (bytes a))
    (λ q. omega (arith, ltb-true (bytes b) (bytes a) q)) (λ q. omega arith)

pub greater-right : (b a : Alignment) → bytes a ≤ bytes (greater b a)
greater-right b a =
    by-test (λ (x : Alignment). bytes a ≤ bytes x) (ltb (bytes b) (bytes a)) (λ q. omega arith)
    (λ q. ltb-false (bytes b) (bytes a) q)

greater-two : (a : Alignment) → greater Two a ≡ a
greater-two Two = refl
greater-two Four = refl
greater-two Eight = refl
greater-two Sixteen = refl

module _ (aligns : ℕ → Alignment) where
  top-bound : (k i : ℕ) → i < k → bytes (aligns i) ≤ bytes (top_of aligns k)
  top-bound zero i l = absurd (omega arith)
  top-bound (suc k) i l = go (dec_lt i k) (top-bound k i)
    where
      go : Dec (i < k) → (i < k → bytes (aligns i) ≤ bytes (top_of aligns k))
          → bytes (aligns i) ≤ bytes (top_of aligns (suc k))
      go (yes m) ih = omega (arith, ih m, greater-left (top_of aligns k) (aligns k))
      go (no m) ih = let e : i ≡ k = omega arith in rw e (greater-right (top_of aligns k) (aligns k))

  -- one of the first k has it
  pub record Reached (k : ℕ) (a : Alignment) : Type 0 where
    pub one : ℕ
    pub there : one < k
    pub is : aligns one ≡ a

  reached-more : (k : ℕ) (a : Alignment) → Reached k a → Reached (suc k) a
  reached-more k a r = record { one = r.one; there = omega (arith, r.there); is = r.is }

  top_reached : (k : ℕ) → Reached (suc k) (top_of aligns (suc k))
  top_reached zero = record { one = 0; there = omega arith; is = sym (greater-two (aligns 0)) }
  top_reached (suc k) =
      by-test (Reached (suc (suc k))) (ltb (bytes (top_of aligns (suc k))) (bytes (aligns (suc k))))
      (λ q. record { one = suc k; there = omega arith; is = refl }) (λ q. reached-more (suc k) _ (top_reached k))

  pub top-greatest : (k : ℕ) → 0 < k → Greatest aligns k (top_of aligns k)
  top-greatest zero h = absurd (omega arith)
  top-greatest (suc k) h = let r = top_reached k in
      record { one = r.one; there = r.there; is = r.is; bound = top-bound (suc k) }

  pub greatest-top : (k : ℕ) (a : Alignment) → Greatest aligns k a → top_of aligns k ≡ a
  greatest-top zero a g = absurd (omega (arith, g.there))
  greatest-top (suc k) a g =
      let r = top_reached k in
      let up : bytes a ≤ bytes (top_of aligns (suc k)) = rw g.is at (top-bound (suc k) g.one g.there) in
      let down : bytes (top_of aligns (suc k)) ≤ bytes a = rw r.is at (g.bound r.one r.there) in
      same_bytes (top_of aligns (suc k)) a (omega (arith, up, down))
