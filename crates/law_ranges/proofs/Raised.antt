-- One entry of a table of counts raised by one, in what is said of a type's range. From the steps of a size: the other
-- end stays as it was, and a least count that is raised past its greatest is number 45 at that override, since every
-- other override had a good span.
use Rattle.rule_ranges.specs.declared.RangeError.TheVariants as Ge
use Rattle.std.specs.Prelude.{Some, Ok, Err}
use Prim.Native.Nat.{ℕ, ◌+◌, ◌≤◌, ◌<◌}
use native.Mathlib.Decide.{dec_lt}
use native.Mathlib.Omega.{arith}
use mathlib.Core.Path.{◌≡◌, refl, sym, ap, ◌∙◌}
use mathlib.Core.Bool.{Bool, true, false, cond}
use mathlib.Core.List.{List}
use lib.Dec.{ltb}
use borrow.Author.Tests.{ltb-true, ltb-false, le-leb, lt-leb}
use Rattle.ir.specs.declared.TypeNumber.{TypeNumber}
use Rattle.ir.specs.declared.ItemNumber.{ItemNumber}
use Rattle.ir.specs.declared.MemberNumber.{MemberNumber}
use Rattle.ir.specs.declared.ArraySize.TheVariants as As
use Rattle.ir.specs.declared.TypeInner.TheVariants as Ti
use Rattle.archive.specs.Starts.{starts_of, override_count}
use Rattle.archive.specs.Access.{type_at}
use Rattle.law_rows.proofs.Good.{Good}
use Rattle.rule_sizes.specs.declared.Alignment.{Alignment}
use Rattle.rule_sizes.specs.declared.SizeFault.TheVariants.{Huge}
use Rattle.rule_sizes.specs.declared.Measure.{Measure}
use Rattle.rule_sizes.specs.declared.Measure.TheVariants as Me
use Rattle.rule_sizes.specs.Wgsl.{round_up}
use Rattle.rule_sizes.specs.Meaning.{struct_member}
use Rattle.rule_ranges.specs.declared.Range.TheVariants.{Spans, Faulty}
use Rattle.rule_ranges.specs.Counts.{Counts, measure_at}
use Rattle.rule_ranges.specs.Ranges.{range_of, range_in, span_ok, type_range_in}
use Rattle.rule_ranges.specs.Meaning.{Over, AllSpan, Asked, Raised, Beside, sum, Steps, StepsTo, spans_or_huge}
use Rattle.rule_ranges.specs.Meaning.{GreatestSteps, LeastSteps}
use Rattle.law_ranges.proofs.Grow.{Smaller, fills_below}
use Rattle.law_ranges.proofs.Ranges.{asked-when, range-when, span-when}
use Rattle.law_ranges.proofs.Steps.{item-is, raised-above, or-huge-is, array_steps, struct-steps}
use Rattle.law_ranges.proofs.Free.{over-there}

-- two items are the same or not
item-or : {X : Type 0} (p o : ItemNumber) → (p ≡ o → X) → ((p.0 ≡ o.0 → ⊥) → X) → X
item-or {X} p o same apart = go (dec_lt p.0 o.0) (dec_lt o.0 p.0)
  where
    go : Dec (p.0 < o.0) → Dec (o.0 < p.0) → X
    go (yes l) m = apart (λ q. omega (arith, l, q))
    go (no l) (yes m) = apart (λ q. omega (arith, m, q))
    go (no l) (no m) = same (item-is p o (omega arith))

module _ (fr : List ℕ) (good : Good fr) (o : ItemNumber) (least greatest : Counts) (n : TypeNumber) (a : Alignment)
    (y z : ℕ) (e : type_range_in fr (starts_of fr) least greatest n ≡ Ok (Spans a y z)) where
  asks : Asked fr least greatest n (Spans a y z)
  asks = (asked-when fr least greatest n (Spans a y z)).0 e

  sizes : (measure_at fr (starts_of fr) least n ≡ Me.Fills a y)
      × (measure_at fr (starts_of fr) greatest n ≡ Me.Fills a z)
  sizes = (range-when fr least greatest good (λ p l. (asks.spans p l).1) n a y z).0 asks.is

  -- at other counts, where each override has a good span
  said_at : (low high : Counts) → AllSpan fr low high → type_range_in fr (starts_of fr) low high n
      ≡ Ok (range_of (measure_at fr (starts_of fr) low n) (measure_at fr (starts_of fr) high n))
  unfolding range_in
  said_at low high h = (asked-when fr low high n _).1 (record { there = asks.there; spans = h; is = refl })

  -- THE GREATEST COUNT of override o raised
  module _ (high : Counts) (raised : Raised fr o greatest high) where
    above : AllSpan fr least high
    above p l =
        let h = asks.spans p l in
        let r = raised-above fr o greatest high raised p l in (h.0, omega (arith, h.1, r))

    to_high : type_range_in fr (starts_of fr) least high n
        ≡ Ok (range_of (Me.Fills a y) (measure_at fr (starts_of fr) high n))
    to_high = said_at least high above ∙ rw sizes.0

    pub greatest-array : (b : TypeNumber) (stride : ℕ) → type_at fr n ≡ Some (Ti.Array b (As.Pending o) stride)
        → type_range_in fr (starts_of fr) least high n ≡ Ok (spans_or_huge n a y (z + stride))
    greatest-array b stride f =
        to_high
        ∙ rw (array_steps fr good o greatest high raised n b stride f a z sizes.1)
        (ap Ok (go (ltb (z + stride) 4294967296)))
      where
        go : (t : Bool) → range_of (Me.Fills a y) (cond t (Me.Fills a (z + stride)) (Me.Faulty Huge n))
            ≡ cond t (Spans a y (z + stride)) (Faulty Huge n)
        go true = refl
        go false = refl

    pub greatest-struct : (first : MemberNumber) (count span : ℕ)
        → type_at fr n ≡ Some (Ti.Struct first count span) → (strides : ℕ → ℕ)
        → ((i : ℕ) → i < count → Beside fr o (struct_member fr first i).ty (strides i))
        → GreatestSteps a y z (sum (λ i. round_up a (strides i)) count) (type_range_in fr (starts_of fr) least high n)
    greatest-struct first count span f strides each =
        rw to_high
        (go (measure_at fr (starts_of fr) high n)
        (struct-steps fr good o greatest high raised n first count span f strides each a z sizes.1))
      where
        total : ℕ
        total = sum (λ i. round_up a (strides i)) count

        go : (m : Measure) → StepsTo a z total m → GreatestSteps a y z total (Ok (range_of (Me.Fills a y) m))
        go (Me.Fills b w) h = rw (sym h.same) (GreatestSteps.moves w h.kept h.most)
        go (Me.Faulty k p) h = rw h (GreatestSteps.huge p)

  -- THE LEAST COUNT of override o raised
  module _ (low : Counts) (raised : Raised fr o least low) where
    -- by one below the greatest: each override still has a good span
    within : least o < greatest o → AllSpan fr low greatest
    within l p i =
        item-or p o
        (λ q. rw q (let r = raised.one in (omega (arith, r), omega (arith, r, l))))
        (λ q.
        let r = raised.others p i (λ w. q (ap (λ (x : ItemNumber). x.0) w)) in
        let h = asks.spans p i in (omega (arith, r, h.0), omega (arith, r, h.1)))

    to_low : AllSpan fr low greatest → type_range_in fr (starts_of fr) low greatest n
        ≡ Ok (range_of (measure_at fr (starts_of fr) low n) (Me.Fills a z))
    to_low h = said_at low greatest h ∙ rw sizes.1

    has-low : AllSpan fr low greatest → Smaller (measure_at fr (starts_of fr) low n) a z
    has-low h = fills_below fr good low greatest (λ p l. (h p l).1) n a z sizes.1

    -- past the greatest: 45
    past : greatest o ≤ least o → o.0 < override_count (starts_of fr)
        → type_range_in fr (starts_of fr) low greatest n ≡ Err (Ge.Span o.0)
    past l i =
        (span-when fr low greatest n o.0).1
        (asks.there, record { inside = i; fails = fails; before = before })
      where
        fails : span_ok low greatest o ≡ false
        fails =
            let r = raised.one in
            rw (le-leb 1 (low o) (omega (arith, r)), lt-leb (low o) (greatest o) (omega (arith, r, l)))

        before : (k : ℕ) → k < o.0 → span_ok low greatest (record { 0 = k }) ≡ true
        before k m =
            let p : ItemNumber = record { 0 = k } in
            let j : k < override_count (starts_of fr) = omega (arith, m, i) in
            let r =
            raised.others p j (λ w. let q : k ≡ o.0 = ap (λ (x : ItemNumber). x.0) w in omega (arith, q, m)) in
            let h = asks.spans p j in
            rw (
              le-leb 1 (low p) (omega (arith, r, h.0)),
              le-leb (low p) (greatest p) (omega (arith, r, h.1)),
            )

    pub least-array : (b : TypeNumber) (stride : ℕ) → type_at fr n ≡ Some (Ti.Array b (As.Pending o) stride)
        → type_range_in fr (starts_of fr) low greatest n
        ≡ cond (ltb (least o) (greatest o)) (Ok (Spans a (y + stride) z)) (Err (Ge.Span o.0))
    least-array b stride f = go (ltb (least o) (greatest o)) refl
      where
        go : (t : Bool) → ltb (least o) (greatest o) ≡ t → type_range_in fr (starts_of fr) low greatest n
            ≡ cond t (Ok (Spans a (y + stride) z)) (Err (Ge.Span o.0))
        go true q =
            let h = within (ltb-true (least o) (greatest o) q) in
            let s = has-low h in
            let w = array_steps fr good o least low raised n b stride f a y sizes.0 in
            let u : y + stride ≡ s.size = or-huge-is n a a (y + stride) s.size (sym w ∙ s.is) in
            to_low h ∙ rw (s.is, u)
        go false q = past (ltb-false (least o) (greatest o) q) (over-there fr good o n (Over.pending o n b stride f))

    pub least-struct : o.0 < override_count (starts_of fr) → (first : MemberNumber) (count span : ℕ)
        → type_at fr n ≡ Some (Ti.Struct first count span) → (strides : ℕ → ℕ)
        → ((i : ℕ) → i < count → Beside fr o (struct_member fr first i).ty (strides i))
        → LeastSteps o a y z (sum (λ i. round_up a (strides i)) count) (type_range_in fr (starts_of fr) low greatest n)
    least-struct i first count span f strides each = go (ltb (least o) (greatest o)) refl
      where
        total : ℕ
        total = sum (λ i. round_up a (strides i)) count

        go : (t : Bool) → ltb (least o) (greatest o) ≡ t
            → LeastSteps o a y z total (type_range_in fr (starts_of fr) low greatest n)
        go true q =
            let h = within (ltb-true (least o) (greatest o) q) in
            let s = has-low h in
            let w : Steps a a y s.size total =
            rw s.is at (struct-steps fr good o least low raised n first count span f strides each a y sizes.0) in
            rw (to_low h, s.is) (LeastSteps.moves s.size w.kept w.most)
        go false q = rw (past (ltb-false (least o) (greatest o) q) i) LeastSteps.span
