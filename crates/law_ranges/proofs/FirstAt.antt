-- `fault-at-ordered`: the first of the three causes that holds at given counts is the one that the tests find. A type
-- that holds no pending array has request 5's causes alone; a pending array over an element that holds none has no
-- more than one alignment and size of it.
use Rattle.std.specs.Prelude.{Some}
use Prim.Native.Nat.{ℕ}
use native.Mathlib.Omega.{arith}
use mathlib.Core.Path.{◌≡◌, refl, sym, ◌∙◌}
use mathlib.Core.Bool.{Bool, true, false, ◌&&◌}
use mathlib.Core.List.{List}
use mathlib.Core.Logic.{◌↔◌}
use lib.Dec.{leb}
use Rattle.ir.specs.declared.TypeNumber.{TypeNumber}
use Rattle.ir.specs.declared.MemberNumber.{MemberNumber}
use Rattle.ir.specs.declared.ItemNumber.{ItemNumber}
use Rattle.ir.specs.declared.ArraySize.TheVariants as As
use Rattle.ir.specs.declared.TypeInner.TheVariants as Ti
use Rattle.archive.specs.Access.{type_at}
use Rattle.law_rows.proofs.Good.{Good}
use Rattle.rule_sizes.specs.declared.Alignment.{Alignment}
use Rattle.rule_sizes.specs.declared.SizeFault.{SizeFault}
use Rattle.rule_sizes.specs.declared.SizeFault.TheVariants.{Unmeasured, Misplaced, Huge}
use Rattle.rule_sizes.specs.declared.Measure.TheVariants.{Fills}
use Rattle.rule_sizes.specs.Wgsl.{is_multiple}
use Rattle.rule_sizes.specs.Meaning.{Strided, Has, Outside, Breaks, Cause, Fault}
use Rattle.law_sizes.proofs.Folded.{never}
use Rattle.law_sizes.proofs.Meant.{strided, strided-is}
use Rattle.law_sizes.proofs.First.{before-42, before-43, before-44}
use Rattle.rule_ranges.specs.Counts.{Counts}
use Rattle.rule_ranges.specs.Meaning.{Over}
use Rattle.rule_ranges.specs.MeaningAt.{Holds, HasAt, OutsideAt, BreaksAt, ExceedsAt, CauseAt, FaultAt}
use Rattle.law_ranges.proofs.Ordered.{OrderedAt}
use Rattle.law_ranges.proofs.Own.{has-at-is}

module _ (fr : List ℕ) (good : Good fr) (c : Counts) where
  pending-holds : (n b : TypeNumber) (o : ItemNumber) (stride : ℕ)
      → type_at fr n ≡ Some (Ti.Array b (As.Pending o) stride) → Holds fr n
  pending-holds n b o stride e = (o, Over.pending o n b stride e)

  -- A TYPE THAT HOLDS NONE has request 5's causes alone
  outside-fixed : (n : TypeNumber) → (Holds fr n → ⊥) → OutsideAt fr n → Outside fr n
  outside-fixed n f (OutsideAt.fixed m g o) = o
  outside-fixed n f (OutsideAt.over m b z stride e h) =
      absurd (f (h.0, Over.element h.0 n b z stride e h.1))

  breaks-fixed : (n : TypeNumber) → (Holds fr n → ⊥) → BreaksAt fr c n → Breaks fr n
  breaks-fixed n f (BreaksAt.fixed m g b) = b
  breaks-fixed n f (BreaksAt.stride m b o stride a z e h s) = absurd (f (pending-holds n b o stride e))

  fixed_has : (n : TypeNumber) (a : Alignment) (z : ℕ) → (Holds fr n → ⊥) → HasAt fr c n a z → Has fr n a z
  fixed_has n a z f (HasAt.fixed m k y g h) = h
  fixed_has n a z f (HasAt.array m b o stride k y e g h s l) = absurd (f (pending-holds n b o stride e))
  fixed_has n a z f (HasAt.struct m first count span aligns sizes offsets k y e held h g q l) = absurd (f held)

  fixed-first : (n : TypeNumber) (k : SizeFault) → (Holds fr n → ⊥) → Fault fr n k → FaultAt fr c n k
  fixed-first n Unmeasured f h =
      record { cause = OutsideAt.fixed n f h.cause; first = before-42 (CauseAt fr c n) }
  fixed-first n Misplaced f h = record {
    cause = BreaksAt.fixed n f h.cause;
    first = before-43 (CauseAt fr c n) (λ o. h.first Unmeasured (omega arith) (outside-fixed n f o));
  }
  fixed-first n Huge f h = record {
    cause = ExceedsAt.fixed n f h.cause;
    first = before-44 (CauseAt fr c n) (λ o. h.first Unmeasured (omega arith) (outside-fixed n f o))
        (λ b. h.first Misplaced (omega arith) (breaks-fixed n f b));
  }

  -- A PENDING ARRAY over an element that holds none is in the list, and a stride that stands well breaks no rule
  outside-pending : (n b : TypeNumber) (o : ItemNumber) (stride : ℕ)
      → type_at fr n ≡ Some (Ti.Array b (As.Pending o) stride) → (Holds fr b → ⊥) → OutsideAt fr n → ⊥
  outside-pending n b o stride e f (OutsideAt.fixed m g x) = g (pending-holds n b o stride e)
  outside-pending n b o stride e f (OutsideAt.over m b' z stride' e' h) =
      let q : Some (Ti.Array b (As.Pending o) stride) ≡ Some (Ti.Array b' z stride') = sym e ∙ e' in
      let p : b ≡ b' = cc in f (rw p h)

  breaks-pending : (n b : TypeNumber) (o : ItemNumber) (stride : ℕ) (a : Alignment) (z : ℕ)
      → type_at fr n ≡ Some (Ti.Array b (As.Pending o) stride) → (Holds fr b → ⊥) → Has fr b a z
      → Strided a z stride → BreaksAt fr c n → ⊥
  breaks-pending n b o stride a z e f h s (BreaksAt.fixed m g x) = g (pending-holds n b o stride e)
  breaks-pending n b o stride a z e f h s (BreaksAt.stride m b' o' stride' a' z' e' h' s') =
      let q : Some (Ti.Array b (As.Pending o) stride) ≡ Some (Ti.Array b' (As.Pending o') stride') = sym e
      ∙ e' in
      let p : b ≡ b' = cc in
      let r : stride ≡ stride' = cc in
      let k : HasAt fr c b a' z' = rw p h' in
      let w : Fills a z ≡ Fills a' z' = sym (has-at-is fr good c b a z (HasAt.fixed b a z f h))
      ∙ has-at-is fr good c b a' z' k in
      let u : a ≡ a' = cc in
      let v : z ≡ z' = cc in
      s' (rw (sym u, sym v, sym r) s)

  -- A STRUCT that holds a pending array
  outside-struct : (n : TypeNumber) (first : MemberNumber) (count span : ℕ)
      → type_at fr n ≡ Some (Ti.Struct first count span) → Holds fr n → OutsideAt fr n → ⊥
  outside-struct n first count span e held (OutsideAt.fixed m g x) = g held
  outside-struct n first count span e held (OutsideAt.over m b z stride e' h) = never (let x = sym e ∙ e' in cc)

  breaks-struct : (n : TypeNumber) (first : MemberNumber) (count span : ℕ)
      → type_at fr n ≡ Some (Ti.Struct first count span) → Holds fr n → BreaksAt fr c n → ⊥
  breaks-struct n first count span e held (BreaksAt.fixed m g x) = g held
  breaks-struct n first count span e held (BreaksAt.stride m b o stride a z e' h s) =
      never (let x = sym e ∙ e' in cc)

  is-first : (n : TypeNumber) (k : SizeFault) → OrderedAt fr c n k → FaultAt fr c n k
  is-first n k (OrderedAt.fixed m j f h) = fixed-first n k f h
  is-first n k (OrderedAt.over m b z stride e h) =
      record { cause = OutsideAt.over n b z stride e h; first = before-42 (CauseAt fr c n) }
  is-first n k (OrderedAt.stride m b o stride a z e f h s) = record {
    cause = BreaksAt.stride n b o stride a z e (HasAt.fixed b a z f h) s;
    first = before-43 (CauseAt fr c n) (outside-pending n b o stride e f);
  }
  is-first n k (OrderedAt.array m b o stride a z e f h s l) = record {
    cause = ExceedsAt.array n b o stride a z e (HasAt.fixed b a z f h) l;
    first = before-44 (CauseAt fr c n) (outside-pending n b o stride e f) (breaks-pending n b o stride a z e f h s);
  }
  is-first n k (OrderedAt.struct m first count span aligns sizes offsets a z e held h g q l) = record {
    cause = ExceedsAt.struct n first count span aligns sizes offsets a z e held h g q l;
    first = before-44 (CauseAt fr c n) (outside-struct n first count span e held)
        (breaks-struct n first count span e held);
  }

  -- AND BACK
  outside-is : (n : TypeNumber) → OutsideAt fr n → OrderedAt fr c n Unmeasured
  outside-is n (OutsideAt.fixed m f o) =
      OrderedAt.fixed n Unmeasured f (record { cause = o; first = before-42 (Cause fr n) })
  outside-is n (OutsideAt.over m b z stride e h) = OrderedAt.over n b z stride e h

  breaks-is : (n : TypeNumber) → BreaksAt fr c n → (OutsideAt fr n → ⊥) → OrderedAt fr c n Misplaced
  breaks-is n (BreaksAt.fixed m f b) out =
      OrderedAt.fixed n Misplaced f
      (record { cause = b; first = before-43 (Cause fr n) (λ x. out (OutsideAt.fixed n f x)) })
  breaks-is n (BreaksAt.stride m b o stride a z e h s) out =
      let f : Holds fr b → ⊥ = λ x. out (OutsideAt.over n b (As.Pending o) stride e x) in
      OrderedAt.stride n b o stride a z e f (fixed_has b a z f h) s

  exceeds-is : (n : TypeNumber) → ExceedsAt fr c n → (OutsideAt fr n → ⊥) → (BreaksAt fr c n → ⊥)
      → OrderedAt fr c n Huge
  exceeds-is n (ExceedsAt.fixed m f x) out breaks = OrderedAt.fixed n Huge f (record {
    cause = x;
    first = before-44 (Cause fr n) (λ y. out (OutsideAt.fixed n f y)) (λ y. breaks (BreaksAt.fixed n f y));
  })
  exceeds-is n (ExceedsAt.array m b o stride a z e h l) out breaks =
      go (λ x. out (OutsideAt.over n b (As.Pending o) stride e x)) (is_multiple a stride && leb z stride) refl
    where
      go : (Holds fr b → ⊥) → (t : Bool) → (is_multiple a stride && leb z stride) ≡ t → OrderedAt fr c n Huge
      go f true q = OrderedAt.array n b o stride a z e f (fixed_has b a z f h) (strided fr a z stride q) l
      go f false q =
          absurd
          (breaks
          (BreaksAt.stride n b o stride a z e h (λ s. never (let x = sym q ∙ strided-is fr a z stride s in cc))))
  exceeds-is n (ExceedsAt.struct m first count span aligns sizes offsets a z e held h g q l) out breaks =
      OrderedAt.struct n first count span aligns sizes offsets a z e held h g q l

  first-is : (n : TypeNumber) (k : SizeFault) → FaultAt fr c n k → OrderedAt fr c n k
  first-is n Unmeasured f = outside-is n f.cause
  first-is n Misplaced f = breaks-is n f.cause (f.first Unmeasured (omega arith))
  first-is n Huge f = exceeds-is n f.cause (f.first Unmeasured (omega arith)) (f.first Misplaced (omega arith))

  pub fault-at-ordered : (n : TypeNumber) (k : SizeFault) → FaultAt fr c n k ↔ OrderedAt fr c n k
  fault-at-ordered n k = (first-is n k, is-first n k)
