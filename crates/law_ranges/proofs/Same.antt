-- `holds-when`: a type is a pending array or holds one exactly where it is over some count. `fixed_same`: a type that
-- is not, and holds none, has request 5's size or refusal. `same-counts`: what a type fills hangs on the counts that
-- it is over, and on no other. By the parts of a type.
use Rattle.std.specs.Prelude.{Option, Some}
use Rattle.ir.specs.declared.TypeInner.{TypeInner}
use Prim.Native.Nat.{ℕ, zero, suc, ◌<◌}
use native.Mathlib.Decide.{dec_lt}
use native.Mathlib.Omega.{arith}
use mathlib.Core.Path.{◌≡◌, refl, sym, ◌∙◌}
use mathlib.Core.Bool.{Bool, true, false, ◌||◌}
use mathlib.Core.List.{List}
use mathlib.Core.Logic.{◌↔◌}
use Rattle.ir.specs.declared.TypeNumber.{TypeNumber}
use Rattle.ir.specs.declared.ItemNumber.{ItemNumber}
use Rattle.ir.specs.declared.MemberNumber.{MemberNumber}
use Rattle.ir.specs.declared.ArraySize.TheVariants as As
use Rattle.ir.specs.declared.TypeInner.TheVariants as Ti
use Rattle.archive.specs.Starts.{starts_of}
use Rattle.archive.specs.Access.{type_at}
use Rattle.law_rows.proofs.Good.{Good}
use Rattle.rule_sizes.specs.Sizes.{of_form, measure_in}
use Rattle.rule_sizes.specs.Meaning.{struct_member}
use Rattle.law_sizes.proofs.Folded.{never}
use Rattle.law_sizes.proofs.Fixed.{PartOf, form-alike, fixed}
use Rattle.rule_ranges.specs.Pending.{member_holds, form_holds, holds_pending}
use Rattle.rule_ranges.specs.Counts.{Counts, measure_at}
use Rattle.rule_ranges.specs.Meaning.{Over}
use Rattle.law_ranges.proofs.Shapes.{Shape, shape, cond-alike, counted-alike, by_parts, holds-fixed, by-fixed}

true-false : {X : Type 0} → true ≡ false → X
true-false e = never (cc)

or-first : (a b : Bool) → (a || b) ≡ false → a ≡ false
or-first true b e = e
or-first false b e = refl

or-second : (a b : Bool) → (a || b) ≡ false → b ≡ false
or-second true b e = true-false e
or-second false b e = e

module _ (fr : List ℕ) where
  -- A PART OF WHAT HOLDS NONE holds none

  member-free : (h : TypeNumber → Bool) (first : MemberNumber) (k : ℕ)
      → member_holds fr (starts_of fr) h first k ≡ false → (i : ℕ) → i < k
      → h (struct_member fr first i).ty ≡ false
  unfolding member_holds
  member-free h first zero e i l = absurd (omega arith)
  member-free h first (suc k) e i l =
      go (dec_lt i k) (member-free h first k (or-first (member_holds fr (starts_of fr) h first k) _ e) i)
    where
      go : Dec (i < k) → (i < k → h (struct_member fr first i).ty ≡ false) → h (struct_member fr first i).ty ≡ false
      go (yes m) ih = ih m
      go (no m) ih = let q : i ≡ k = omega arith in rw q (or-second (member_holds fr (starts_of fr) h first k) _ e)

  part_free : (h : TypeNumber → Bool) (t : Option TypeInner) → form_holds fr (starts_of fr) h t ≡ false
      → (b : TypeNumber)
      → PartOf fr t b → h b ≡ false
  part_free h t e b (PartOf.element x (As.Constant c) stride) = e
  part_free h t e b (PartOf.element x (As.Pending o) stride) = true-false e
  part_free h t e b (PartOf.element x As.Dynamic stride) = e
  part_free h t e b (PartOf.part first count span i l) = member-free h first count e i l

  module _ (good : Good fr) where
    abbrev holds : TypeNumber → Bool
    holds = holds_pending fr (starts_of fr)

    -- FIXED TYPES

    by-request-5 : (c : Counts) (n : TypeNumber) → holds n ≡ false
        → measure_at fr (starts_of fr) c n ≡ of_form fr (starts_of fr) (measure_at fr (starts_of fr) c) n (type_at fr n)
    by-request-5 c n e = by-fixed fr good n holds c ∙ rw e

    pub fixed_same : (c : Counts) (n : TypeNumber) → holds_pending fr (starts_of fr) n ≡ false
        → measure_at fr (starts_of fr) c n ≡ measure_in fr (starts_of fr) n
    fixed_same c =
        by_parts fr good (λ n. holds n ≡ false → measure_at fr (starts_of fr) c n ≡ measure_in fr (starts_of fr) n)
        (λ n ih e. by-request-5 c n e
        ∙ form-alike fr _ _ n (type_at fr n)
        (λ b p. ih b p (part_free holds (type_at fr n) (sym (holds-fixed fr good n) ∙ e) b p))
        ∙ sym (fixed fr good n))

    -- OVER COUNTS

    over-part : (o : ItemNumber) (n : TypeNumber) (t : Option TypeInner) → type_at fr n ≡ t → (b : TypeNumber)
        → PartOf fr t b
        → Over fr o b → Over fr o n
    over-part o n t e b (PartOf.element x z stride) h = Over.element o n b z stride e h
    over-part o n t e b (PartOf.part first count span i l) h = Over.part o n first count span i e l h

    pub same-counts : (c d : Counts) (n : TypeNumber) → ((o : ItemNumber) → Over fr o n → c o ≡ d o)
        → measure_at fr (starts_of fr) c n ≡ measure_at fr (starts_of fr) d n
    same-counts c d =
        by_parts fr good (λ n. ((o : ItemNumber) → Over fr o n → c o ≡ d o)
        → measure_at fr (starts_of fr) c n ≡ measure_at fr (starts_of fr) d n)
        (λ n ih same.
        let parts : (b : TypeNumber) → PartOf fr (type_at fr n) b
        → measure_at fr (starts_of fr) c b ≡ measure_at fr (starts_of fr) d b =
        λ b p. ih b p (λ o h. same o (over-part o n (type_at fr n) refl b p h)) in
        by-fixed fr good n holds c
        ∙ cond-alike (holds n)
        (counted-alike fr holds c d _ _ n (type_at fr n) (shape fr (type_at fr n)) parts
        (λ o b stride e. same o (Over.pending o n b stride e)))
        (form-alike fr _ _ n (type_at fr n) parts)
        ∙ sym (by-fixed fr good n holds d))

    -- WHAT HOLDS is over some count

    abbrev SomeCount : TypeNumber → Type 0
    SomeCount n = (o : ItemNumber) × Over fr o n

    member-over : (n : TypeNumber) (first : MemberNumber) (count span : ℕ)
        → type_at fr n ≡ Some (Ti.Struct first count span)
        → ((i : ℕ) → i < count → holds (struct_member fr first i).ty ≡ true → SomeCount (struct_member fr first i).ty)
        → (k : ℕ) → ((i : ℕ) → i < k → i < count) → member_holds fr (starts_of fr) holds first k ≡ true → SomeCount n
    unfolding member_holds
    member-over n first count span e ih zero w h = never (cc)
    member-over n first count span e ih (suc k) w h =
        go (member_holds fr (starts_of fr) holds first k) refl
        (member-over n first count span e ih k (λ i l. w i (omega arith)))
      where
        go : (x : Bool) → member_holds fr (starts_of fr) holds first k ≡ x
            → (member_holds fr (starts_of fr) holds first k ≡ true → SomeCount n) → SomeCount n
        go true q r = r q
        go false q r =
            let l : k < count = w k (omega arith) in
            let x = ih k l (rw q at h) in (x.0, Over.part x.0 n first count span k e l x.1)

    form-over : (n : TypeNumber) (t : Option TypeInner) → type_at fr n ≡ t → Shape fr t
        → ((b : TypeNumber) → PartOf fr t b → holds b ≡ true → SomeCount b)
        → form_holds fr (starts_of fr) holds t ≡ true → SomeCount n
    form-over n t e (Shape.array b (As.Constant c) stride) ih h =
        let x =
        ih b (PartOf.element b (As.Constant c) stride) h in
        (x.0, Over.element x.0 n b (As.Constant c) stride e x.1)
    form-over n t e (Shape.array b (As.Pending o) stride) ih h = (o, Over.pending o n b stride e)
    form-over n t e (Shape.array b As.Dynamic stride) ih h =
        let x =
        ih b (PartOf.element b As.Dynamic stride) h in (x.0, Over.element x.0 n b As.Dynamic stride e x.1)
    form-over n t e (Shape.struct first count span) ih h =
        member-over n first count span e (λ i l. ih _ (PartOf.part first count span i l)) count (λ i l. l) h
    form-over n t e (Shape.other u o) ih h = true-false (sym h ∙ o.free holds)

    holds-over : (n : TypeNumber) → holds n ≡ true → SomeCount n
    holds-over =
        by_parts fr good (λ n. holds n ≡ true → SomeCount n)
        (λ n ih h. form-over n (type_at fr n) refl (shape fr (type_at fr n)) ih (sym (holds-fixed fr good n) ∙ h))

    over-holds : (o : ItemNumber) (n : TypeNumber) → Over fr o n → (x : Bool) → holds n ≡ x → x ≡ true
    over-holds o n h true e = refl
    over-holds o n (Over.pending p m b stride f) false e =
        let q : form_holds fr (starts_of fr) holds (Some (Ti.Array b (As.Pending o) stride)) ≡ false =
        rw f at (sym (holds-fixed fr good n) ∙ e) in true-false q
    over-holds o n (Over.element p m b z stride f h) false e =
        let q : form_holds fr (starts_of fr) holds (Some (Ti.Array b z stride)) ≡ false =
        rw f at (sym (holds-fixed fr good n) ∙ e) in
        over-holds o b h false (part_free holds _ q b (PartOf.element b z stride))
    over-holds o n (Over.part p m first count span i f l h) false e =
        let q : form_holds fr (starts_of fr) holds (Some (Ti.Struct first count span)) ≡ false =
        rw f at (sym (holds-fixed fr good n) ∙ e) in
        over-holds o _ h false (part_free holds _ q _ (PartOf.part first count span i l))

    pub holds-when : (n : TypeNumber) → (holds_pending fr (starts_of fr) n ≡ true) ↔ ((o : ItemNumber) × Over fr o n)
    holds-when n = (holds-over n, λ x. over-holds x.0 n x.1 (holds n) refl)
