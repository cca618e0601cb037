-- What is said of a type's range, for every accepted file and all counts. `span-when`: number 45. `range-when`,
-- `refused-when`: a range and a refusal, both ways. `range-reached`: least and greatest are reached by some choice of
-- counts. `range-within`: every choice gives a size between them, and nothing faults there that does not at the
-- greatest counts. `range-fixed`: a type that holds no pending array has request 5's size twice, or its refusal.
use Rattle.rule_ranges.specs.TypeRange.{TypeRange}
use Rattle.rule_ranges.specs.declared.RangeError.TheVariants as Ge
use Rattle.std.specs.Prelude.{ℕ, Option, Some, None, Ok, Err}
use Prim.Native.Nat.{ℕ, ◌≤◌}
use native.Mathlib.Omega.{arith}
use mathlib.Core.Path.{◌≡◌, refl, sym, ◌∙◌}
use mathlib.Core.Bool.{Bool, true, false}
use mathlib.Core.List.{List}
use mathlib.Core.Logic.{◌↔◌}
use lib.Dec.{leb}
use borrow.Author.Tests.{leb-true, le-leb}
use Rattle.scan.proofs.Laws.{and_first, and_second, lowest-all, none-all, LowestAt, found_at, at-found}
use Rattle.ir.specs.declared.TypeNumber.{TypeNumber}
use Rattle.ir.specs.declared.ItemNumber.{ItemNumber}
use Rattle.archive.specs.Starts.{starts_of, override_count}
use Rattle.archive.specs.Names.{is_type}
use Rattle.law_rows.proofs.Good.{Good}
use Rattle.rule_sizes.specs.declared.Alignment.{Alignment}
use Rattle.rule_sizes.specs.declared.SizeFault.{SizeFault}
use Rattle.rule_sizes.specs.declared.Measure.{Measure}
use Rattle.rule_sizes.specs.declared.Measure.TheVariants as Me
use Rattle.rule_sizes.specs.Sizes.{measure_in}
use Rattle.law_sizes.proofs.Folded.{never}
use Rattle.rule_ranges.specs.declared.Range.{Range}
use Rattle.rule_ranges.specs.declared.Range.TheVariants.{Spans, Faulty}
use Rattle.rule_ranges.specs.Pending.{holds_pending}
use Rattle.rule_ranges.specs.Counts.{Counts, measure_at}
use Rattle.rule_ranges.specs.Ranges.{range_of, range_in, span_ok, faulty_span, type_range_in}
use Rattle.rule_ranges.specs.Meaning.{AtMost, Choice, AllSpan, Reached, Between, Asked, once}
use Rattle.law_ranges.proofs.Same.{fixed_same}
use Rattle.law_ranges.proofs.Grow.{Grows, grows, fills_below}

module _ (fr : List ℕ) (least greatest : Counts) where
  abbrev ok : ℕ → Bool
  ok o = span_ok least greatest (record { 0 = o })

  ok-span : (o : ℕ) → ok o ≡ true
      → (1 ≤ least (record { 0 = o })) × (least (record { 0 = o }) ≤ greatest (record { 0 = o }))
  ok-span o e = (
    leb-true 1 (least (record { 0 = o })) (and_first _ _ e),
    leb-true _ (greatest (record { 0 = o }))
        (and_second (leb 1 (least (record { 0 = o }))) _ e),
  )

  span-ok : (o : ℕ) → (1 ≤ least (record { 0 = o })) × (least (record { 0 = o }) ≤ greatest (record { 0 = o }))
      → ok o ≡ true
  span-ok o h =
      rw (
        le-leb 1 (least (record { 0 = o })) h.0,
        le-leb (least (record { 0 = o })) (greatest (record { 0 = o }))
            h.1,
      )

  -- NUMBER 45

  data Said (n : TypeNumber) : Type 0 where
    none : is_type (starts_of fr) n ≡ false → type_range_in fr (starts_of fr) least greatest n ≡ Err Ge.Index → Said n
    span : (o : ℕ) → is_type (starts_of fr) n ≡ true → LowestAt ok (override_count (starts_of fr)) o
        → type_range_in fr (starts_of fr) least greatest n ≡ Err (Ge.Span o) → Said n
    range : is_type (starts_of fr) n ≡ true → AllSpan fr least greatest
        → type_range_in fr (starts_of fr) least greatest n ≡ Ok (range_in fr (starts_of fr) least greatest n)
        → Said n

  said : (n : TypeNumber) → Said n
  unfolding type_range_in faulty_span
  said n = go (is_type (starts_of fr) n) refl (faulty_span (starts_of fr) least greatest) refl
    where
      go : (b : Bool) → is_type (starts_of fr) n ≡ b → (f : Option ℕ) → faulty_span (starts_of fr) least greatest ≡ f
          → Said n
      go false e f q = Said.none e (rw e)
      go true e (Some o) q = Said.span o e (found_at ok (override_count (starts_of fr)) o q) (rw (e, q))
      go true e None q =
          Said.range e (λ o l. ok-span o.0 (none-all ok (override_count (starts_of fr)) o.0 q l)) (rw (e, q))

  abbrev span_error : ℕ → TypeRange
  span_error o = Err (Ge.Span o)

  pub span-when : (n : TypeNumber) (o : ℕ)
      → (type_range_in fr (starts_of fr) least greatest n ≡ Err (Ge.Span o))
      ↔ ((is_type (starts_of fr) n ≡ true) × LowestAt (λ (k : ℕ). span_ok least greatest (record { 0 = k }))
      (override_count (starts_of fr)) o)
  unfolding type_range_in faulty_span
  span-when n o = (λ e. go e (said n), λ h. rw (h.0, at-found ok (override_count (starts_of fr)) o h.1))
    where
      go : type_range_in fr (starts_of fr) least greatest n ≡ Err (Ge.Span o) → Said n
          → (is_type (starts_of fr) n ≡ true) × LowestAt ok (override_count (starts_of fr)) o
      go e (Said.none t q) = never (let x = sym q ∙ e in cc)
      go e (Said.span p t l q) =
          let x : span_error p ≡ span_error o = sym q ∙ e in let y : p ≡ o = cc in (t, rw (sym y) l)
      go e (Said.range t s q) = never (let x = sym q ∙ e in cc)

  pub index-when : (n : TypeNumber)
      → (type_range_in fr (starts_of fr) least greatest n ≡ Err Ge.Index) ↔ (is_type (starts_of fr) n ≡ false)
  unfolding type_range_in
  index-when n = (λ e. go e (said n), λ e. rw e)
    where
      go : type_range_in fr (starts_of fr) least greatest n ≡ Err Ge.Index → Said n → is_type (starts_of fr) n ≡ false
      go e (Said.none t q) = t
      go e (Said.span p t l q) = never (let x = sym q ∙ e in cc)
      go e (Said.range t s q) = never (let x = sym q ∙ e in cc)

  pub asked-when : (n : TypeNumber) (r : Range)
      → (type_range_in fr (starts_of fr) least greatest n ≡ Ok r) ↔ Asked fr least greatest n r
  unfolding type_range_in faulty_span
  asked-when n r = (
    λ e. go e (said n),
    λ h. rw (
      h.there,
      lowest-all ok (override_count (starts_of fr))
          (λ k l. span-ok k (h.spans (record { 0 = k }) l)),
      h.is,
    ),
  )
    where
      go : type_range_in fr (starts_of fr) least greatest n ≡ Ok r → Said n → Asked fr least greatest n r
      go e (Said.none t q) = never (let x = sym q ∙ e in cc)
      go e (Said.span p t l q) = never (let x = sym q ∙ e in cc)
      go e (Said.range t s q) =
          let x : Ok (range_in fr (starts_of fr) least greatest n) ≡ Ok r = sym q
          ∙ e in record { there = t; spans = s; is = cc }

  -- THE RANGE
  module _ (good : Good fr) (most : AtMost fr least greatest) where
    two-measures : (m k : Measure) → Grows m k → (a : Alignment) (y z : ℕ) → range_of m k ≡ Spans a y z
        → (m ≡ Me.Fills a y) × (k ≡ Me.Fills a z)
    two-measures (Me.Fills b x) (Me.Fills c w) g a y z e =
        let p : x ≡ y = cc in
        let q : w ≡ z = cc in
        let r : c ≡ a = cc in
        (rw (p, g.0, r), rw (q, r))
    two-measures (Me.Faulty j q) (Me.Fills c w) g a y z e = absurd g
    two-measures (Me.Fills b x) (Me.Faulty k p) g a y z e = never (cc)
    two-measures (Me.Faulty j q) (Me.Faulty k p) g a y z e = never (cc)

    one-fault : (m k : Measure) → Grows m k → (j : SizeFault) (p : TypeNumber) → range_of m k ≡ Faulty j p
        → k ≡ Me.Faulty j p
    one-fault (Me.Fills b x) (Me.Fills c w) g j p e = never (cc)
    one-fault (Me.Faulty i q) (Me.Fills c w) g j p e = absurd g
    one-fault (Me.Fills b x) (Me.Faulty i q) g j p e = let r : i ≡ j = cc in let s : q ≡ p = cc in rw (r, s)
    one-fault (Me.Faulty h r) (Me.Faulty i q) g j p e = let r : i ≡ j = cc in let s : q ≡ p = cc in rw (r, s)

    is-fault : (m : Measure) (j : SizeFault) (p : TypeNumber) → range_of m (Me.Faulty j p) ≡ Faulty j p
    is-fault (Me.Fills b x) j p = refl
    is-fault (Me.Faulty i q) j p = refl

    -- least and greatest are the sizes at the least and at the greatest counts
    pub range-when : (n : TypeNumber) (a : Alignment) (y z : ℕ)
        → (range_in fr (starts_of fr) least greatest n ≡ Spans a y z)
        ↔ ((measure_at fr (starts_of fr) least n ≡ Me.Fills a y)
        × (measure_at fr (starts_of fr) greatest n ≡ Me.Fills a z))
    unfolding range_in
    range-when n a y z = (λ e. two-measures _ _ (grows fr good least greatest most n) a y z e, λ h. rw (h.0, h.1))

    -- a refusal is the one at the greatest counts
    pub refused-when : (n : TypeNumber) (k : SizeFault) (p : TypeNumber)
        → (range_in fr (starts_of fr) least greatest n ≡ Faulty k p)
        ↔ (measure_at fr (starts_of fr) greatest n ≡ Me.Faulty k p)
    unfolding range_in
    refused-when n k p = (
      λ e. one-fault (measure_at fr (starts_of fr) least n) (measure_at fr (starts_of fr) greatest n)
          (grows fr good least greatest most n) k p e,
      λ h. rw h (is-fault (measure_at fr (starts_of fr) least n) k p),
    )

  module _ (good : Good fr) where
    at_most : AllSpan fr least greatest → AtMost fr least greatest
    at_most h o l = (h o l).1

    pub range-reached : (n : TypeNumber) (a : Alignment) (y z : ℕ)
        → type_range_in fr (starts_of fr) least greatest n ≡ Ok (Spans a y z)
        → Reached fr least greatest n a y × Reached fr least greatest n a z
    range-reached n a y z e =
        let h = (asked-when n (Spans a y z)).0 e in
        let m = at_most h.spans in
        let s = (range-when good m n a y z).0 h.is in (
          record { counts = least; choice = record { above = λ o l. omega arith; below = m }; is = s.0 },
          record { counts = greatest; choice = record { above = m; below = λ o l. omega arith }; is = s.1 },
        )

    pub range-within : (n : TypeNumber) (a : Alignment) (y z : ℕ)
        → type_range_in fr (starts_of fr) least greatest n ≡ Ok (Spans a y z)
        → (c : Counts) → Choice fr least greatest c → Between (measure_at fr (starts_of fr) c n) a y z
    range-within n a y z e c k =
        let h = (asked-when n (Spans a y z)).0 e in
        let s = (range-when good (at_most h.spans) n a y z).0 h.is in
        let up = fills_below fr good c greatest k.below n a z s.1 in
        let down = fills_below fr good least c k.above n a up.size up.is in
        let same : Me.Fills a down.size ≡ Me.Fills a y = sym down.is ∙ s.0 in
        let q : down.size ≡ y = cc in
        record { size = up.size; is = up.is; low = omega (arith, q, down.most); high = up.most }

    -- what faults at some choice faults at the greatest counts
    pub faults-at-greatest : (n : TypeNumber) (c : Counts) → Choice fr least greatest c
        → (k : SizeFault) (p : TypeNumber)
        → measure_at fr (starts_of fr) c n ≡ Me.Faulty k p
        → (j : SizeFault) × ((q : TypeNumber) × (measure_at fr (starts_of fr) greatest n ≡ Me.Faulty j q))
    faults-at-greatest n c h k p e = go (measure_at fr (starts_of fr) greatest n) refl
      where
        go : (m : Measure) → measure_at fr (starts_of fr) greatest n ≡ m
            → (j : SizeFault) × ((q : TypeNumber) × (measure_at fr (starts_of fr) greatest n ≡ Me.Faulty j q))
        go (Me.Fills a z) q = never (let x = sym e ∙ (fills_below fr good c greatest h.below n a z q).is in cc)
        go (Me.Faulty j q) r = (j, (q, r))

    -- FIXED TYPES
    once-both : (m : Measure) → range_of m m ≡ once m
    once-both (Me.Fills a z) = refl
    once-both (Me.Faulty k p) = refl

    pub range-fixed : (n : TypeNumber) → holds_pending fr (starts_of fr) n ≡ false
        → range_in fr (starts_of fr) least greatest n ≡ once (measure_in fr (starts_of fr) n)
    unfolding range_in
    range-fixed n e =
        rw (fixed_same fr good least n e, fixed_same fr good greatest n e) (once-both (measure_in fr (starts_of fr) n))
