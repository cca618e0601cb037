-- A struct's members, taken in order: either all have sizes, and then the struct's alignment, its last end and
-- whether all stand well are what its members' alignments and sizes say; or the lowest of their faults is passed on.
-- By the members in order, for any measures of types.
use Prim.Native.Nat.{ℕ, zero, suc, ◌+◌, ◌≤◌, ◌<◌}
use native.Mathlib.Decide.{dec_lt}
use native.Mathlib.Omega.{arith}
use mathlib.Core.Path.{◌≡◌, refl, sym, ◌∙◌}
use mathlib.Core.Bool.{Bool, true, false, ◌&&◌}
use mathlib.Core.List.{List}
use lib.Dec.{leb}
use borrow.Author.Tests.{leb-true, leb-false, le-leb}
use Rattle.scan.proofs.Laws.{and_first, and_second}
use Rattle.ir.specs.declared.TypeNumber.{TypeNumber}
use Rattle.ir.specs.declared.MemberNumber.{MemberNumber}
use Rattle.archive.specs.Starts.{starts_of}
use Rattle.rule_sizes.specs.declared.Alignment.{Alignment}
use Rattle.rule_sizes.specs.declared.Alignment.TheVariants.{Two}
use Rattle.rule_sizes.specs.declared.SizeFault.{SizeFault}
use Rattle.rule_sizes.specs.declared.Measure.{Measure}
use Rattle.rule_sizes.specs.declared.Measure.TheVariants.{Fills, Faulty}
use Rattle.rule_sizes.specs.Wgsl.{is_multiple}
use Rattle.rule_sizes.specs.Sizes.{Laid, Broken, joined, parts_of}
use Rattle.rule_sizes.specs.Meaning.{struct_member, Placed}
use Rattle.law_sizes.proofs.Greatest.{top_of}

pub never : {X : Type 0} → ◌≡◌ {A = ℕ} 0 1 → X
never z = absurd (omega arith)

false-true : {X : Type 0} → false ≡ true → X
false-true e = never (cc)

and_both : (a b : Bool) → a ≡ true → b ≡ true → (a && b) ≡ true
and_both true b e h = h
and_both false b e h = false-true e

-- alignment and size where there are such
abbrev pub align_in : Measure → Alignment
align_in (Fills a z) = a
align_in (Faulty k p) = Two

abbrev pub size_in : Measure → ℕ
size_in (Fills a z) = z
size_in (Faulty k p) = 0

-- PLACES, by the alignments and sizes of members
module _ (fr : List ℕ) (first : MemberNumber) (aligns : ℕ → Alignment) (sizes : ℕ → ℕ) where
  abbrev pub offset : ℕ → ℕ
  offset i = (struct_member fr first i).offset

  -- where the first k members end
  abbrev pub end_of : ℕ → ℕ
  end_of zero = 0
  end_of (suc k) = (struct_member fr first k).offset + sizes k

  -- whether they stand well
  abbrev pub placed_of : ℕ → Bool
  placed_of zero = true
  placed_of (suc k) = placed_of k
      && (is_multiple (aligns k) (struct_member fr first k).offset && leb (end_of k) (struct_member fr first k).offset)

  multiples-of : (k : ℕ) → placed_of k ≡ true → (i : ℕ) → i < k → is_multiple (aligns i) (offset i) ≡ true
  multiples-of zero e i l = absurd (omega arith)
  multiples-of (suc k) e i l = go (dec_lt i k) (multiples-of k (and_first (placed_of k) _ e) i)
    where
      go : Dec (i < k) → (i < k → is_multiple (aligns i) (offset i) ≡ true) → is_multiple (aligns i) (offset i) ≡ true
      go (yes m) ih = ih m
      go (no m) ih = let q : i ≡ k = omega arith in
          rw q (and_first (is_multiple (aligns k) (offset k)) _ (and_second (placed_of k) _ e))

  apart_of : (k : ℕ) → placed_of k ≡ true → (i : ℕ) → suc i < k → offset i + sizes i ≤ offset (suc i)
  apart_of zero e i l = absurd (omega arith)
  apart_of (suc k) e i l = go (dec_lt (suc i) k) (apart_of k (and_first (placed_of k) _ e) i)
    where
      last : leb (end_of k) (offset k) ≡ true
      last = and_second (is_multiple (aligns k) (offset k)) _ (and_second (placed_of k) _ e)

      go : Dec (suc i < k) → (suc i < k → offset i + sizes i ≤ offset (suc i)) → offset i + sizes i ≤ offset (suc i)
      go (yes m) ih = ih m
      go (no m) ih =
          let q : k ≡ suc i = omega arith in
          let h : leb (end_of (suc i)) (offset (suc i)) ≡ true = rw q at last in
          leb-true (end_of (suc i)) (offset (suc i)) h

  placed-all : (k : ℕ) → ((i : ℕ) → i < k → is_multiple (aligns i) (offset i) ≡ true)
      → ((i : ℕ) → suc i < k → offset i + sizes i ≤ offset (suc i)) → placed_of k ≡ true
  placed-all zero m a = refl
  placed-all (suc k) m a =
      and_both (placed_of k) _ (placed-all k (λ i l. m i (omega arith)) (λ i l. a i (omega arith)))
      (and_both (is_multiple (aligns k) (offset k)) _ (m k (omega arith)) (after k (λ i l. a i (omega arith))))
    where
      after : (k : ℕ) → ((i : ℕ) → suc i ≡ k → offset i + sizes i ≤ offset (suc i)) → leb (end_of k) (offset k) ≡ true
      after zero h = le-leb 0 (offset 0) (omega arith)
      after (suc j) h = le-leb (end_of (suc j)) (offset (suc j)) (h j refl)

  holds_of : (k span : ℕ) → end_of k ≤ span → (i : ℕ) → suc i ≡ k → offset i + sizes i ≤ span
  holds_of k span h i e = rw (sym e) at h

  ends-within : (k span : ℕ) → ((i : ℕ) → suc i ≡ k → offset i + sizes i ≤ span) → end_of k ≤ span
  ends-within zero span h = omega arith
  ends-within (suc k) span h = h k refl

  -- the test of a struct, both ways
  abbrev pub stands : ℕ → Alignment → ℕ → Bool
  stands k a span = placed_of k && (leb (end_of k) span && is_multiple a span)

  pub stands-placed : (k : ℕ) (a : Alignment) (span : ℕ) → stands k a span ≡ true
      → Placed fr first k aligns sizes a span
  stands-placed k a span e =
      let p = and_first (placed_of k) _ e in
      let q = and_second (placed_of k) _ e in
      record {
        multiples = multiples-of k p;
        apart = apart_of k p;
        holds = holds_of k span (leb-true (end_of k) span (and_first (leb (end_of k) span) _ q));
        whole = and_second (leb (end_of k) span) _ q;
      }

  pub placed-stands : (k : ℕ) (a : Alignment) (span : ℕ) → Placed fr first k aligns sizes a span → stands k a span
      ≡ true
  placed-stands k a span p =
      and_both (placed_of k) _ (placed-all k p.multiples p.apart)
      (and_both (leb (end_of k) span) _ (le-leb (end_of k) span (ends-within k span p.holds)) p.whole)

-- THE MEMBERS IN ORDER, by what each type fills
module _ (fr : List ℕ) (f : TypeNumber → Measure) (first : MemberNumber) where
  -- what member i fills
  abbrev pub fills : ℕ → Measure
  fills i = f (struct_member fr first i).ty

  -- where the first k members have these alignments and sizes
  pub laid : (aligns : ℕ → Alignment) (sizes : ℕ → ℕ) (k : ℕ)
      → ((i : ℕ) → i < k → f (struct_member fr first i).ty ≡ Fills (aligns i) (sizes i))
      → parts_of fr (starts_of fr) f first k
      ≡ Laid (top_of aligns k) (end_of fr first aligns sizes k) (placed_of fr first aligns sizes k)
  unfolding parts_of joined
  laid aligns sizes zero h = refl
  laid aligns sizes (suc k) h = rw (laid aligns sizes k (λ i l. h i (omega arith)), h k (omega arith))

  -- all of the first k have sizes
  abbrev pub AllFill : ℕ → Type 0
  AllFill k = (i : ℕ) → i < k → f (struct_member fr first i).ty
      ≡ Fills (align_in (f (struct_member fr first i).ty)) (size_in (f (struct_member fr first i).ty))

  -- one of the first k has this fault, and none has a lower one
  pub record FirstLow (k : ℕ) (j : SizeFault) (p : TypeNumber) : Type 0 where
    pub one : ℕ
    pub there : one < k
    pub is : f (struct_member fr first one).ty ≡ Faulty j p
    pub low : (i : ℕ) (l : SizeFault) (q : TypeNumber) → i < k → f (struct_member fr first i).ty ≡ Faulty l q
        → p.0 ≤ q.0

  pub data Folded (k : ℕ) : Type 0 where
    filled : AllFill k → Folded k
    broken : (j : SizeFault) (p : TypeNumber) → parts_of fr (starts_of fr) f first k ≡ Broken j p → FirstLow k j p
        → Folded k

  all_more : (k : ℕ) (a : Alignment) (z : ℕ) → AllFill k → fills k ≡ Fills a z → AllFill (suc k)
  all_more k a z h e i l = go (dec_lt i k)
    where
      go : Dec (i < k) → fills i ≡ Fills (align_in (fills i)) (size_in (fills i))
      go (yes m) = h i m
      go (no m) = let q : i ≡ k = omega arith in rw (q, e)

  -- a bound of the first k holds of one more
  low-more : (k : ℕ) (p : TypeNumber)
      → ((i : ℕ) (l : SizeFault) (q : TypeNumber) → i < k → fills i ≡ Faulty l q → p.0 ≤ q.0)
      → ((l : SizeFault) (q : TypeNumber) → fills k ≡ Faulty l q → p.0 ≤ q.0)
      → (i : ℕ) (l : SizeFault) (q : TypeNumber) → i < suc k → fills i ≡ Faulty l q → p.0 ≤ q.0
  low-more k p h last i l q m e = go (dec_lt i k)
    where
      go : Dec (i < k) → p.0 ≤ q.0
      go (yes n) = h i l q n e
      go (no n) = let s : i ≡ k = omega arith in last l q (rw s at e)

  same_place : (j l : SizeFault) (p q : TypeNumber) → Faulty j p ≡ Faulty l q → p.0 ≤ q.0
  same_place j l p q e = let s : p ≡ q = cc in rw s (omega arith)

  more : (k : ℕ) (m : Measure) → Folded k → f (struct_member fr first k).ty ≡ m → Folded (suc k)
  unfolding parts_of joined
  more k (Fills a z) (filled h) e = filled (all_more k a z h e)
  more k (Faulty j q) (filled h) e =
      broken j q (rw (laid (λ i. align_in (fills i)) (λ i. size_in (fills i)) k h, e))
      (record {
        one = k;
        there = omega arith;
        is = e;
        low = low-more k q (λ i l r m d. never (let x = sym (h i m) ∙ d in cc))
            (λ l r d. same_place j l q r (sym e ∙ d));
      })
  more k (Fills a z) (broken j p b o) e =
      broken j p (rw (b, e))
      (record {
        one = o.one;
        there = omega (arith, o.there);
        is = o.is;
        low = low-more k p o.low (λ l r d. never (let x = sym e ∙ d in cc));
      })
  more k (Faulty l q) (broken j p b o) e = go (leb p.0 q.0) refl
    where
      go : (t : Bool) → leb p.0 q.0 ≡ t → Folded (suc k)
      go true h =
          broken j p (rw (b, e, h))
          (record {
            one = o.one;
            there = omega (arith, o.there);
            is = o.is;
            low = low-more k p o.low
                (λ i r d. omega (arith, leb-true p.0 q.0 h, same_place l i q r (sym e ∙ d)));
          })
      go false h =
          broken l q (rw (b, e, h))
          (record {
            one = k;
            there = omega arith;
            is = e;
            low =
                low-more k q (λ i r x m d. omega (arith, leb-false p.0 q.0 h, o.low i r x m d))
                (λ i r d. same_place l i q r (sym e ∙ d));
          })

  pub folded : (k : ℕ) → Folded k
  folded zero = filled (λ i l. absurd (omega arith))
  folded (suc k) = more k (f (struct_member fr first k).ty) (folded k) refl
