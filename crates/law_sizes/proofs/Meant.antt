-- What is worked out means what it says: a type has the alignment and size that it is given; the fault that it is
-- given is the named type's own, and the type rests on that type. By the form of the type, over the earlier types.
use Rattle.std.specs.Prelude.{Option, Some, None}
use Prim.Native.Nat.{ℕ, zero, suc, ◌*◌, ◌<◌}
use native.Mathlib.Omega.{arith}
use mathlib.Core.Path.{◌≡◌, refl, sym, ◌∙◌}
use mathlib.Core.Bool.{true, ◌&&◌}
use mathlib.Core.List.{List}
use lib.Dec.{eqb, ltb, leb}
use borrow.Author.Tests.{eqb-true, eqb-false, ltb-true, ltb-false, leb-true, le-leb}
use Rattle.scan.proofs.Laws.{by-test, and_first, and_second}
use Rattle.ir.specs.declared.TypeNumber.{TypeNumber}
use Rattle.ir.specs.declared.MemberNumber.{MemberNumber}
use Rattle.ir.specs.declared.VectorSize.{VectorSize}
use Rattle.ir.specs.declared.Scalar.{Scalar}
use Rattle.ir.specs.declared.ArraySize.{ArraySize}
use Rattle.ir.specs.declared.ArraySize.TheVariants as As
use Rattle.ir.specs.declared.TypeInner.{TypeInner}
use Rattle.ir.specs.declared.TypeInner.TheVariants as Ti
use Rattle.archive.specs.Starts.{starts_of}
use Rattle.archive.specs.Access.{type_at}
use Rattle.law_rows.proofs.Good.{Good}
use Rattle.law_rows.proofs.There.{TypeThere, InnerThere}
use Rattle.rule_sizes.specs.declared.Alignment.{Alignment}
use Rattle.rule_sizes.specs.declared.SizeFault.{SizeFault}
use Rattle.rule_sizes.specs.declared.SizeFault.TheVariants.{Unmeasured, Misplaced, Huge}
use Rattle.rule_sizes.specs.declared.Measure.{Measure}
use Rattle.rule_sizes.specs.declared.Measure.TheVariants.{Fills, Faulty}
use Rattle.rule_sizes.specs.Wgsl.{is_multiple, integer_align, float_align, number_align}
use Rattle.rule_sizes.specs.Sizes.{scalar_measure, vector_measure, matrix_measure, array_of, parts_of, spanned}
use Rattle.rule_sizes.specs.Sizes.{struct_of}
use Rattle.rule_sizes.specs.Sizes.{sized_array, of_inner, of_form, measure_in}
use Rattle.rule_sizes.specs.Meaning.{Integer, Float, Number, Listed, struct_member, Strided, Has, RestsOn}
use Rattle.law_sizes.proofs.Scalars.{Given, integer-given, float-given, number-given, integer-has, float-has}
use Rattle.law_sizes.proofs.Scalars.{number-has}
use Rattle.law_sizes.proofs.Greatest.{top_of, top-greatest}
use Rattle.law_sizes.proofs.Folded.{never, align_in, size_in, stands, stands-placed, placed-stands, laid, AllFill}
use Rattle.law_sizes.proofs.Folded.{FirstLow, Folded, folded}
use Rattle.law_sizes.proofs.Fixed.{there, fixed}
use Rattle.law_sizes.proofs.Ordered.{Ordered}

-- WHAT IS IN THE LIST, by each form that may be outside it

abbrev IsListed : Option TypeInner → Type 0
IsListed (Some (Ti.Scalar k)) = (a : Alignment) × Number k a
IsListed (Some (Ti.Vector z k)) = (a : Alignment) × Number k a
IsListed (Some (Ti.Matrix c r k)) = (a : Alignment) × Float k a
IsListed (Some (Ti.CooperativeMatrix c r k o)) = ⊥
IsListed (Some (Ti.Atomic k)) = (a : Alignment) × Integer k a
IsListed (Some (Ti.Pointer b p)) = ⊥
IsListed (Some (Ti.ValuePointer z k p)) = ⊥
IsListed (Some (Ti.Array b (As.Constant c) t)) = Unit {0}
IsListed (Some (Ti.Array b (As.Pending o) t)) = ⊥
IsListed (Some (Ti.Array b As.Dynamic t)) = ⊥
IsListed (Some (Ti.Struct m j t)) = 0 < j
IsListed (Some (Ti.Image d a c)) = ⊥
IsListed (Some (Ti.Sampler q)) = ⊥
IsListed (Some (Ti.AccelerationStructure q)) = ⊥
IsListed (Some (Ti.RayQuery q)) = ⊥
IsListed (Some (Ti.BindingArray b z)) = ⊥
IsListed None = ⊥

pub is-listed : (t : Option TypeInner) → Listed t → IsListed t
is-listed t (Listed.scalar k a h) = (a, h)
is-listed t (Listed.vector z k a h) = (a, h)
is-listed t (Listed.matrix c r k a h) = (a, h)
is-listed t (Listed.atomic k a h) = (a, h)
is-listed t (Listed.array b c s) = tt
is-listed t (Listed.struct m j s h) = h

none-some : {X : Type 0} (a : Alignment) → None ≡ Some a → X
none-some a e = never (cc)

module _ (fr : List ℕ) where
  -- what a measure of type n means
  abbrev pub Meant : TypeNumber → Measure → Type 0
  Meant n (Fills a z) = Has fr n a z
  Meant n (Faulty k p) = RestsOn fr n p × Ordered fr p k

  -- a fault of its own
  own : (n : TypeNumber) (k : SizeFault) → Ordered fr n k → RestsOn fr n n × Ordered fr n k
  own n k h = (RestsOn.itself n, h)

  -- outside the list
  out : (n : TypeNumber) (t : Option TypeInner) → type_at fr n ≡ t → (IsListed t → ⊥)
      → RestsOn fr n n × Ordered fr n Unmeasured
  out n t e h = own n Unmeasured (Ordered.outside n (λ l. h (rw e at (is-listed (type_at fr n) l))))

  -- TYPES THAT NAME NONE

  scalar-meant : (n : TypeNumber) (k : Scalar) → type_at fr n ≡ Some (Ti.Scalar k) → (o : Option Alignment)
      → number_align k ≡ o → Given Number k o
      → Meant n (scalar_measure n o)
  scalar-meant n k e (Some a) q h = Has.scalar n k a e h
  scalar-meant n k e None q h = out n _ e (λ l. none-some l.0 (sym q ∙ number-has k l.0 l.1))

  vector-meant : (n : TypeNumber) (z : VectorSize) (k : Scalar) → type_at fr n ≡ Some (Ti.Vector z k)
      → (o : Option Alignment) → number_align k ≡ o
      → Given Number k o → Meant n (vector_measure n z o)
  vector-meant n z k e (Some a) q h = Has.vector n z k a e h
  vector-meant n z k e None q h = out n _ e (λ l. none-some l.0 (sym q ∙ number-has k l.0 l.1))

  matrix-meant : (n : TypeNumber) (c r : VectorSize) (k : Scalar) → type_at fr n ≡ Some (Ti.Matrix c r k)
      → (o : Option Alignment)
      → float_align k ≡ o → Given Float k o → Meant n (matrix_measure n c r o)
  matrix-meant n c r k e (Some a) q h = Has.matrix n c r k a e h
  matrix-meant n c r k e None q h = out n _ e (λ l. none-some l.0 (sym q ∙ float-has k l.0 l.1))

  atomic-meant : (n : TypeNumber) (k : Scalar) → type_at fr n ≡ Some (Ti.Atomic k) → (o : Option Alignment)
      → integer_align k ≡ o → Given Integer k o
      → Meant n (scalar_measure n o)
  atomic-meant n k e (Some a) q h = Has.atomic n k a e h
  atomic-meant n k e None q h = out n _ e (λ l. none-some l.0 (sym q ∙ integer-has k l.0 l.1))

  -- AN ARRAY

  pub strided : (a : Alignment) (z stride : ℕ) → (is_multiple a stride && leb z stride) ≡ true → Strided a z stride
  strided a z stride e =
      record {
        multiple = and_first (is_multiple a stride) _ e;
        holds = leb-true z stride
            (and_second (is_multiple a stride) _ e);
      }

  pub strided-is : (a : Alignment) (z stride : ℕ) → Strided a z stride → (is_multiple a stride && leb z stride) ≡ true
  strided-is a z stride s = rw (s.multiple, le-leb z stride s.holds)

  array-meant : (n b : TypeNumber) (count stride : ℕ) → type_at fr n ≡ Some (Ti.Array b (As.Constant count) stride)
      → (m : Measure) → Meant b m
      → Meant n (array_of n m count stride)
  unfolding array_of
  array-meant n b count stride e (Faulty k p) h = (RestsOn.element n b p count stride e h.0, h.1)
  array-meant n b count stride e (Fills a z) h =
      by-test (Meant n) (is_multiple a stride && leb z stride)
      (λ q. by-test (Meant n) (ltb (count * stride) 4294967296)
      (λ l. Has.array n b count stride a z e h (strided a z stride q) (ltb-true (count * stride) 4294967296 l))
      (λ l. own n Huge (Ordered.huge n b count stride a z e h (strided a z stride q)
      (ltb-false (count * stride) 4294967296 l))))
      (λ q. own n Misplaced
      (Ordered.stride n b count stride a z e h (λ s. never (let x = sym q ∙ strided-is a z stride s in cc))))

  sized-meant : (n b : TypeNumber) (z : ArraySize) (stride : ℕ) (f : TypeNumber → Measure)
      → type_at fr n ≡ Some (Ti.Array b z stride) → Meant b (f b)
      → Meant n (sized_array n f b z stride)
  sized-meant n b (As.Constant c) stride f e h = array-meant n b c stride e (f b) h
  sized-meant n b (As.Pending o) stride f e h = out n _ e (λ l. l)
  sized-meant n b As.Dynamic stride f e h = out n _ e (λ l. l)

  -- A STRUCT
  module _ (n : TypeNumber) (first : MemberNumber) (count span : ℕ)
      (e : type_at fr n ≡ Some (Ti.Struct first count span))
      (f : TypeNumber → Measure)
      (h : (i : ℕ) → i < count → Meant (struct_member fr first i).ty (f (struct_member fr first i).ty)) where
    abbrev aligns : ℕ → Alignment
    aligns i = align_in (f (struct_member fr first i).ty)

    abbrev sizes : ℕ → ℕ
    sizes i = size_in (f (struct_member fr first i).ty)

    filled-meant : 0 < count → AllFill fr f first count
        → Meant n (spanned n (parts_of fr (starts_of fr) f first count) span)
    unfolding spanned
    filled-meant some all =
        let g = top-greatest aligns count some in
        let each : (i : ℕ) → i < count
        → Has fr (struct_member fr first i).ty (aligns i) (sizes i) = λ i l. rw (all i l) at (h i l) in
        rw (laid fr f first aligns sizes count all)
        (by-test (Meant n) (stands fr first aligns sizes count (top_of aligns count) span)
        (λ q. Has.struct n first count span aligns sizes (top_of aligns count) e each g
        (stands-placed fr first aligns sizes count (top_of aligns count) span q))
        (λ q. own n Misplaced (Ordered.members n first count span aligns sizes (top_of aligns count) e each g
        (λ p. never (let x = sym q ∙ placed-stands fr first aligns sizes count (top_of aligns count) span p in cc)))))

    broken-meant : (k : SizeFault) (p : TypeNumber) → FirstLow fr f first count k p → Meant n (Faulty k p)
    broken-meant k p o =
        let q : Meant (struct_member fr first o.one).ty (Faulty k p) = rw o.is at (h o.one o.there) in
        (RestsOn.part n p first count span o.one e o.there q.0, q.1)

    parts-meant : 0 < count → Folded fr f first count
        → Meant n (spanned n (parts_of fr (starts_of fr) f first count) span)
    unfolding spanned
    parts-meant some (Folded.filled all) = filled-meant some all
    parts-meant some (Folded.broken k p b o) = rw b (broken-meant k p o)

    struct-meant : Meant n (struct_of n (parts_of fr (starts_of fr) f first count) count span)
    unfolding struct_of
    struct-meant =
        by-test (Meant n) (eqb count 0) (λ q. out n _ e (λ l. omega (arith, eqb-true count 0 q)))
        (λ q. parts-meant (positive count (eqb-false count 0 q)) (folded fr f first count))
      where
        positive : (c : ℕ) → (c ≡ 0 → ⊥) → 0 < c
        positive zero d = absurd (d refl)
        positive (suc c) d = omega arith

  -- ANY TYPE
  inner-meant : (n : TypeNumber) (t : TypeInner) (f : TypeNumber → Measure) → type_at fr n ≡ Some t
      → InnerThere fr n t
      → ((b : TypeNumber) → b.0 < n.0 → Meant b (f b)) → Meant n (of_inner fr (starts_of fr) f n t)
  inner-meant n (Ti.Scalar k) f e h ih = scalar-meant n k e (number_align k) refl (number-given k)
  inner-meant n (Ti.Vector z k) f e h ih = vector-meant n z k e (number_align k) refl (number-given k)
  inner-meant n (Ti.Matrix c r k) f e h ih = matrix-meant n c r k e (float_align k) refl (float-given k)
  inner-meant n (Ti.CooperativeMatrix c r k o) f e h ih = out n _ e (λ l. l)
  inner-meant n (Ti.Atomic k) f e h ih = atomic-meant n k e (integer_align k) refl (integer-given k)
  inner-meant n (Ti.Pointer b p) f e h ih = out n _ e (λ l. l)
  inner-meant n (Ti.ValuePointer z k p) f e h ih = out n _ e (λ l. l)
  inner-meant n (Ti.Array b z t) f e h ih = sized-meant n b z t f e (ih b h.0)
  inner-meant n (Ti.Struct m j t) f e h ih = struct-meant n m j t e f (λ i l. ih _ (h i l).early)
  inner-meant n (Ti.Image d a c) f e h ih = out n _ e (λ l. l)
  inner-meant n (Ti.Sampler q) f e h ih = out n _ e (λ l. l)
  inner-meant n (Ti.AccelerationStructure q) f e h ih = out n _ e (λ l. l)
  inner-meant n (Ti.RayQuery q) f e h ih = out n _ e (λ l. l)
  inner-meant n (Ti.BindingArray b z) f e h ih = out n _ e (λ l. l)

  form-meant : (n : TypeNumber) (t : Option TypeInner) (f : TypeNumber → Measure) → type_at fr n ≡ t → TypeThere fr n t
      → ((b : TypeNumber) → b.0 < n.0 → Meant b (f b)) → Meant n (of_form fr (starts_of fr) f n t)
  form-meant n (Some t) f e h ih = inner-meant n t f e h ih
  form-meant n None f e h ih = out n None e (λ l. l)

  module _ (good : Good fr) where
    below : (limit : ℕ) (n : TypeNumber) → n.0 < limit → Meant n (measure_in fr (starts_of fr) n)
    below zero n l = absurd (omega arith)
    below (suc limit) n l =
        rw (fixed fr good n) (form-meant n (type_at fr n) (measure_in fr (starts_of fr)) refl (there fr good n)
        (λ b m. below limit b (omega arith)))

    pub meant : (n : TypeNumber) → Meant n (measure_in fr (starts_of fr) n)
    meant n = below (suc n.0) n (omega arith)
