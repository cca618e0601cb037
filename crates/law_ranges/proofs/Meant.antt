-- What is worked out of a type at given counts means what it says: it has that alignment and size; or it rests on the
-- named type, and the fault is that type's own. By the parts of a type, and request 5's laws for types that hold no
-- pending array.
use Rattle.std.specs.Prelude.{Option, Some}
use Rattle.ir.specs.declared.TypeInner.{TypeInner}
use Prim.Native.Nat.{ℕ, ◌*◌, ◌<◌}
use native.Mathlib.Omega.{arith}
use mathlib.Core.Path.{◌≡◌, refl, sym, ◌∙◌}
use mathlib.Core.Bool.{Bool, true, false, cond, ◌&&◌}
use mathlib.Core.List.{List}
use lib.Dec.{ltb, leb}
use borrow.Author.Tests.{ltb-true, ltb-false}
use Rattle.scan.proofs.Laws.{by-test}
use Rattle.ir.specs.declared.TypeNumber.{TypeNumber}
use Rattle.ir.specs.declared.ItemNumber.{ItemNumber}
use Rattle.ir.specs.declared.MemberNumber.{MemberNumber}
use Rattle.ir.specs.declared.ArraySize.TheVariants as As
use Rattle.ir.specs.declared.TypeInner.TheVariants as Ti
use Rattle.archive.specs.Starts.{starts_of}
use Rattle.archive.specs.Access.{type_at}
use Rattle.law_rows.proofs.Good.{Good}
use Rattle.rule_sizes.specs.declared.Alignment.{Alignment}
use Rattle.rule_sizes.specs.declared.SizeFault.{SizeFault}
use Rattle.rule_sizes.specs.declared.SizeFault.TheVariants.{Unmeasured, Misplaced, Huge}
use Rattle.rule_sizes.specs.declared.Measure.{Measure}
use Rattle.rule_sizes.specs.declared.Measure.TheVariants.{Fills, Faulty}
use Rattle.rule_sizes.specs.Wgsl.{is_multiple, round_up}
use Rattle.rule_sizes.specs.Sizes.{array_of, measure_in}
use Rattle.rule_sizes.specs.Meaning.{struct_member, RestsOn}
use Rattle.law_sizes.proofs.Greatest.{top_of, top-greatest}
use Rattle.law_sizes.proofs.Folded.{never, align_in, size_in, Folded, folded}
use Rattle.law_sizes.proofs.Meant.{Meant, strided, strided-is, meant}
use Rattle.law_sizes.proofs.Own.{untrue}
use Rattle.law_sizes.proofs.First.{fault-ordered}
use Rattle.law_sizes.proofs.Fixed.{PartOf}
use Rattle.rule_ranges.specs.Pending.{holds_pending}
use Rattle.rule_ranges.specs.Counts.{Counts, fresh_parts, fresh_struct, counted_form, measure_at}
use Rattle.rule_ranges.specs.Meaning.{Over}
use Rattle.rule_ranges.specs.MeaningAt.{Holds, HasAt, RestsOnAt}
use Rattle.law_ranges.proofs.Ordered.{OrderedAt}
use Rattle.law_ranges.proofs.Shapes.{Shape, shape, by_parts, holds-fixed}
use Rattle.law_ranges.proofs.Same.{fixed_same, holds-when}
use Rattle.law_ranges.proofs.Grow.{by-counts}
use Rattle.law_ranges.proofs.Laid.{fresh_end, offset_of, fresh-is, fresh-laid, fresh-broken}

true-false : {X : Type 0} → true ≡ false → X
true-false e = never (cc)

module _ (fr : List ℕ) (good : Good fr) (c : Counts) where
  abbrev holds : TypeNumber → Bool
  holds = holds_pending fr (starts_of fr)

  abbrev at : TypeNumber → Measure
  at n = measure_at fr (starts_of fr) c n

  -- HOLDING, by the test

  free : (n : TypeNumber) → holds n ≡ false → Holds fr n → ⊥
  free n e h = true-false (sym ((holds-when fr good n).1 h) ∙ e)

  pub is_free : (n : TypeNumber) → (Holds fr n → ⊥) → holds n ≡ false
  is_free n h = untrue (holds n) (λ e. h ((holds-when fr good n).0 e))

  -- what a fixed type rests on is fixed
  rests-over : (o : ItemNumber) (n m : TypeNumber) → RestsOn fr n m → Over fr o m → Over fr o n
  rests-over o n m (RestsOn.itself x) h = h
  rests-over o n m (RestsOn.element x b y count stride e r) h =
      Over.element o n b (As.Constant count) stride e (rests-over o b m r h)
  rests-over o n m (RestsOn.part x y first count span i e l r) h =
      Over.part o n first count span i e l (rests-over o _ m r h)

  pub rests-free : (n m : TypeNumber) → RestsOn fr n m → (Holds fr n → ⊥) → Holds fr m → ⊥
  rests-free n m r f h = f (h.0, rests-over h.0 n m r h.1)

  -- WHAT A MEASURE OF TYPE n MEANS
  abbrev pub MeantAt : TypeNumber → Measure → Type 0
  MeantAt n (Fills a z) = HasAt fr c n a z
  MeantAt n (Faulty k p) = RestsOnAt fr n p × OrderedAt fr c p k

  own : (n : TypeNumber) (k : SizeFault) → OrderedAt fr c n k → RestsOnAt fr n n × OrderedAt fr c n k
  own n k h = (RestsOnAt.itself n, h)

  fixed-meant : (n : TypeNumber) → (Holds fr n → ⊥) → (m : Measure) → Meant fr n m → MeantAt n m
  fixed-meant n f (Fills a z) h = HasAt.fixed n a z f h
  fixed-meant n f (Faulty k p) h = (
    RestsOnAt.fixed n p f h.0,
    OrderedAt.fixed p k (rests-free n p h.0 f) ((fault-ordered fr good p k).1 h.1),
  )

  -- AN ARRAY
  array-meant : (n b : TypeNumber) (o : ItemNumber) (stride : ℕ)
      → type_at fr n ≡ Some (Ti.Array b (As.Pending o) stride) → (Holds fr b → ⊥) → (m : Measure)
      → Meant fr b m → MeantAt n (array_of n m (c o) stride)
  unfolding array_of
  array-meant n b o stride e f (Faulty k p) h = (
    RestsOnAt.element n b p o stride e f h.0,
    OrderedAt.fixed p k (rests-free b p h.0 f) ((fault-ordered fr good p k).1 h.1),
  )
  array-meant n b o stride e f (Fills a z) h =
      by-test (MeantAt n) (is_multiple a stride && leb z stride)
      (λ q. by-test (MeantAt n) (ltb (c o * stride) 4294967296)
      (λ l. HasAt.array n b o stride a z e f h (strided fr a z stride q) (ltb-true (c o * stride) 4294967296 l))
      (λ l. own n Huge
      (OrderedAt.array n b o stride a z e f h (strided fr a z stride q) (ltb-false (c o * stride) 4294967296 l))))
      (λ q. own n Misplaced (OrderedAt.stride n b o stride a z e f h (λ s. true-false (sym (strided-is fr a z stride s)
      ∙ q))))

  -- A STRUCT
  module _ (n : TypeNumber) (first : MemberNumber) (count span : ℕ)
      (e : type_at fr n ≡ Some (Ti.Struct first count span)) (held : Holds fr n) where
    abbrev aligns : ℕ → Alignment
    aligns i = align_in (at (struct_member fr first i).ty)

    abbrev sizes : ℕ → ℕ
    sizes i = size_in (at (struct_member fr first i).ty)

    struct-meant : 0 < count
        → ((i : ℕ) → i < count → MeantAt (struct_member fr first i).ty (at (struct_member fr first i).ty))
        → Folded fr at first count
        → MeantAt n (fresh_struct n (fresh_parts fr (starts_of fr) at first count))
    unfolding fresh_struct
    struct-meant some h (Folded.filled all) =
        let p = fresh-laid fr at first aligns sizes count all in
        let a = top_of aligns count in
        let g = top-greatest aligns count some in
        let each : (i : ℕ) → i < count
        → HasAt fr c (struct_member fr first i).ty (aligns i) (sizes i) = λ i l. rw (all i l) at (h i l) in
        let f = fresh-is aligns sizes count a in
        let z = round_up a (fresh_end aligns sizes count) in
        rw p.is
        (by-test (MeantAt n) (ltb z 4294967296)
        (λ l. HasAt.struct n first count span aligns sizes (offset_of aligns sizes) a z e held each g f
        (ltb-true z 4294967296 l))
        (λ l. own n Huge
        (OrderedAt.struct n first count span aligns sizes (offset_of aligns sizes) a z e held each g f
        (ltb-false z 4294967296 l))))
    struct-meant some h (Folded.broken k p b o) =
        let q : MeantAt (struct_member fr first o.one).ty (Faulty k p) = rw o.is at (h o.one o.there) in
        rw (fresh-broken fr at first count k p b)
        (RestsOnAt.part n p first count span o.one e held o.there q.0, q.1)

  -- a struct that holds a pending array has members
  some-member : (n : TypeNumber) (first : MemberNumber) (count span : ℕ)
      → type_at fr n ≡ Some (Ti.Struct first count span) → Holds fr n → 0 < count
  some-member n first count span e h = go h.1
    where
      go : Over fr h.0 n → 0 < count
      go (Over.pending o m b stride f) = never (let x = sym e ∙ f in cc)
      go (Over.element o m b z stride f g) = never (let x = sym e ∙ f in cc)
      go (Over.part o m x y s i f l g) =
          let q : Some (Ti.Struct x y s) ≡ Some (Ti.Struct first count span) = sym f ∙ e in
          let r : y ≡ count = cc in omega (arith, l, r)

  -- ANY TYPE that holds a pending array
  form-meant : (n : TypeNumber) (t : Option TypeInner) → type_at fr n ≡ t → Shape fr t → holds n ≡ true
      → ((b : TypeNumber) → PartOf fr t b → MeantAt b (at b))
      → MeantAt n (counted_form fr (starts_of fr) holds c at n t)
  form-meant n t e (Shape.array b (As.Constant x) stride) h ih =
      let q : holds b ≡ true = (rw e at (sym (holds-fixed fr good n)))
      ∙ h in own n Unmeasured (OrderedAt.over n b _ stride e ((holds-when fr good b).0 q))
  form-meant n t e (Shape.array b (As.Pending o) stride) h ih = go (holds b) refl
    where
      go : (x : Bool) → holds b ≡ x → MeantAt n (cond x (Faulty Unmeasured n) (array_of n (at b) (c o) stride))
      go true q = own n Unmeasured (OrderedAt.over n b _ stride e ((holds-when fr good b).0 q))
      go false q =
          rw (fixed_same fr good c b q)
          (array-meant n b o stride e (free b q) (measure_in fr (starts_of fr) b) (meant fr good b))
  form-meant n t e (Shape.array b As.Dynamic stride) h ih =
      let q : holds b ≡ true = (rw e at (sym (holds-fixed fr good n)))
      ∙ h in own n Unmeasured (OrderedAt.over n b _ stride e ((holds-when fr good b).0 q))
  form-meant n t e (Shape.struct first count span) h ih =
      let held = (holds-when fr good n).0 h in
      struct-meant n first count span e held (some-member n first count span e held)
      (λ i l. ih _ (PartOf.part first count span i l)) (folded fr at first count)
  form-meant n t e (Shape.other u o) h ih = true-false (sym h ∙ holds-fixed fr good n ∙ rw e (o.free holds))

  pub meant-at : (n : TypeNumber) → MeantAt n (measure_at fr (starts_of fr) c n)
  meant-at = by_parts fr good (λ n. MeantAt n (at n)) (λ n ih. go n ih (holds n) refl)
    where
      go : (n : TypeNumber) → ((b : TypeNumber) → PartOf fr (type_at fr n) b → MeantAt b (at b)) → (x : Bool)
          → holds n ≡ x → MeantAt n (at n)
      go n ih true e =
          rw (by-counts fr good c n (type_at fr n) refl e)
          (form-meant n (type_at fr n) refl (shape fr (type_at fr n)) e ih)
      go n ih false e =
          rw (fixed_same fr good c n e) (fixed-meant n (free n e) (measure_in fr (starts_of fr) n) (meant fr good n))
