-- What a type has, and a number of its own, is what is worked out of it; and where it rests on a type with a number of
-- its own, it is refused there or at a lower one. By the form of the type.
use Rattle.std.specs.Prelude.{Option, Some, None}
use Prim.Native.Nat.{ℕ, zero, suc, ◌*◌, ◌≤◌, ◌<◌}
use native.Mathlib.Omega.{arith}
use mathlib.Core.Path.{◌≡◌, refl, ap, ◌∙◌}
use mathlib.Core.Bool.{Bool, true, false, cond}
use mathlib.Core.List.{List}
use lib.Dec.{eqb}
use borrow.Author.Tests.{ne_eqb, lt-ltb, le-ltb}
use Rattle.ir.specs.declared.TypeNumber.{TypeNumber}
use Rattle.ir.specs.declared.MemberNumber.{MemberNumber}
use Rattle.ir.specs.declared.VectorSize.{VectorSize}
use Rattle.ir.specs.declared.Scalar.{Scalar}
use Rattle.ir.specs.declared.ArraySize.TheVariants as As
use Rattle.ir.specs.declared.TypeInner.{TypeInner}
use Rattle.ir.specs.declared.TypeInner.TheVariants as Ti
use Rattle.archive.specs.Starts.{starts_of}
use Rattle.archive.specs.Access.{type_at}
use Rattle.law_rows.proofs.Good.{Good}
use Rattle.rule_sizes.specs.declared.Alignment.{Alignment}
use Rattle.rule_sizes.specs.declared.SizeFault.{SizeFault}
use Rattle.rule_sizes.specs.declared.SizeFault.TheVariants.{Unmeasured, Misplaced}
use Rattle.rule_sizes.specs.declared.Measure.{Measure}
use Rattle.rule_sizes.specs.declared.Measure.TheVariants.{Fills, Faulty}
use Rattle.rule_sizes.specs.Wgsl.{integer_align, float_align, number_align}
use Rattle.rule_sizes.specs.Sizes.{scalar_measure, vector_measure, matrix_measure, array_of, parts_of, spanned}
use Rattle.rule_sizes.specs.Sizes.{struct_of}
use Rattle.rule_sizes.specs.Sizes.{of_inner, of_form, measure_in}
use Rattle.rule_sizes.specs.Meaning.{Integer, Float, Number, Listed, struct_member, Greatest, Has, RestsOn}
use Rattle.law_sizes.proofs.Scalars.{Given, integer-given, float-given, number-given, integer-has, float-has}
use Rattle.law_sizes.proofs.Scalars.{number-has}
use Rattle.law_sizes.proofs.Greatest.{greatest-top}
use Rattle.law_sizes.proofs.Folded.{stands, stands-placed, placed-stands, laid, Folded, folded}
use Rattle.law_sizes.proofs.Fixed.{fixed}
use Rattle.law_sizes.proofs.Ordered.{Ordered}
use Rattle.law_sizes.proofs.Meant.{strided, strided-is}

-- a test whose truth is refuted
pub untrue : (b : Bool) → (b ≡ true → ⊥) → b ≡ false
untrue true h = absurd (h refl)
untrue false h = refl

-- OUTSIDE THE LIST is number 42

scalar-out : (n : TypeNumber) (k : Scalar) (o : Option Alignment) → Given Number k o
    → (Listed (Some (Ti.Scalar k)) → ⊥)
    → scalar_measure n o ≡ Faulty Unmeasured n
scalar-out n k (Some a) g h = absurd (h (Listed.scalar k a g))
scalar-out n k None g h = refl

vector-out : (n : TypeNumber) (z : VectorSize) (k : Scalar) (o : Option Alignment) → Given Number k o
    → (Listed (Some (Ti.Vector z k)) → ⊥)
    → vector_measure n z o ≡ Faulty Unmeasured n
vector-out n z k (Some a) g h = absurd (h (Listed.vector z k a g))
vector-out n z k None g h = refl

matrix-out : (n : TypeNumber) (c r : VectorSize) (k : Scalar) (o : Option Alignment) → Given Float k o
    → (Listed (Some (Ti.Matrix c r k)) → ⊥)
    → matrix_measure n c r o ≡ Faulty Unmeasured n
matrix-out n c r k (Some a) g h = absurd (h (Listed.matrix c r k a g))
matrix-out n c r k None g h = refl

atomic-out : (n : TypeNumber) (k : Scalar) (o : Option Alignment) → Given Integer k o
    → (Listed (Some (Ti.Atomic k)) → ⊥)
    → scalar_measure n o ≡ Faulty Unmeasured n
atomic-out n k (Some a) g h = absurd (h (Listed.atomic k a g))
atomic-out n k None g h = refl

module _ (fr : List ℕ) (f : TypeNumber → Measure) (n : TypeNumber) where
  struct-out : (m : MemberNumber) (j t : ℕ) → (Listed (Some (Ti.Struct m j t)) → ⊥)
      → struct_of n (parts_of fr (starts_of fr) f m j) j t ≡ Faulty Unmeasured n
  unfolding struct_of
  struct-out m zero t h = refl
  struct-out m (suc j) t h = absurd (h (Listed.struct m (suc j) t (omega arith)))

  inner_out : (t : TypeInner) → (Listed (Some t) → ⊥) → of_inner fr (starts_of fr) f n t ≡ Faulty Unmeasured n
  inner_out (Ti.Scalar k) h = scalar-out n k (number_align k) (number-given k) h
  inner_out (Ti.Vector z k) h = vector-out n z k (number_align k) (number-given k) h
  inner_out (Ti.Matrix c r k) h = matrix-out n c r k (float_align k) (float-given k) h
  inner_out (Ti.CooperativeMatrix c r k o) h = refl
  inner_out (Ti.Atomic k) h = atomic-out n k (integer_align k) (integer-given k) h
  inner_out (Ti.Pointer b p) h = refl
  inner_out (Ti.ValuePointer z k p) h = refl
  inner_out (Ti.Array b (As.Constant c) t) h = absurd (h (Listed.array b c t))
  inner_out (Ti.Array b (As.Pending o) t) h = refl
  inner_out (Ti.Array b As.Dynamic t) h = refl
  inner_out (Ti.Struct m j t) h = struct-out m j t h
  inner_out (Ti.Image d a c) h = refl
  inner_out (Ti.Sampler q) h = refl
  inner_out (Ti.AccelerationStructure q) h = refl
  inner_out (Ti.RayQuery q) h = refl
  inner_out (Ti.BindingArray b z) h = refl

  form-out : (t : Option TypeInner) → (Listed t → ⊥) → of_form fr (starts_of fr) f n t ≡ Faulty Unmeasured n
  form-out (Some t) h = inner_out t h
  form-out None h = refl

module _ (fr : List ℕ) (good : Good fr) where
  -- a type of this form
  of-form : (n : TypeNumber) (t : Option TypeInner) → type_at fr n ≡ t
      → measure_in fr (starts_of fr) n ≡ of_form fr (starts_of fr) (measure_in fr (starts_of fr)) n t
  of-form n t e = fixed fr good n ∙ ap (of_form fr (starts_of fr) (measure_in fr (starts_of fr)) n) e

  of_array : (n b : TypeNumber) (count stride : ℕ) → type_at fr n ≡ Some (Ti.Array b (As.Constant count) stride)
      → (m : Measure)
      → measure_in fr (starts_of fr) b ≡ m → measure_in fr (starts_of fr) n ≡ array_of n m count stride
  of_array n b count stride e m h = of-form n _ e ∙ ap (λ (x : Measure). array_of n x count stride) h

  positive : (count : ℕ) → 0 < count → eqb count 0 ≡ false
  positive count l = ne_eqb count 0 (λ e. omega arith)

  of_struct : (n : TypeNumber) (first : MemberNumber) (count span : ℕ)
      → type_at fr n ≡ Some (Ti.Struct first count span) → 0 < count
      → measure_in fr (starts_of fr) n
      ≡ spanned n (parts_of fr (starts_of fr) (measure_in fr (starts_of fr)) first count) span
  unfolding struct_of
  of_struct n first count span e l = of-form n _ e ∙ rw (positive count l)

  -- a struct whose members have sizes, by the test of their places
  of_members : (n : TypeNumber) (first : MemberNumber) (count span : ℕ) (aligns : ℕ → Alignment) (sizes : ℕ → ℕ)
      (a : Alignment)
      → type_at fr n ≡ Some (Ti.Struct first count span)
      → ((i : ℕ) → i < count → measure_in fr (starts_of fr) (struct_member fr first i).ty ≡ Fills (aligns i) (sizes i))
      → Greatest aligns count a
      → measure_in fr (starts_of fr) n
      ≡ cond (stands fr first aligns sizes count a span) (Fills a span) (Faulty Misplaced n)
  unfolding spanned
  of_members n first count span aligns sizes a e h g =
      of_struct n first count span e (omega (arith, g.there))
      ∙ rw (laid fr (measure_in fr (starts_of fr)) first aligns sizes count h, greatest-top aligns count a g)

  -- WHAT A TYPE HAS is worked out of it
  pub has-is : (n : TypeNumber) (a : Alignment) (z : ℕ) → Has fr n a z → measure_in fr (starts_of fr) n ≡ Fills a z
  unfolding array_of
  has-is n a z (Has.scalar m k b e h) = of-form n _ e ∙ ap (scalar_measure n) (number-has k b h)
  has-is n a z (Has.vector m s k b e h) = of-form n _ e ∙ ap (vector_measure n s) (number-has k b h)
  has-is n a z (Has.matrix m c r k b e h) = of-form n _ e ∙ ap (matrix_measure n c r) (float-has k b h)
  has-is n a z (Has.atomic m k b e h) = of-form n _ e ∙ ap (scalar_measure n) (integer-has k b h)
  has-is n a z (Has.array m b count stride c y e h s l) =
      of_array n b count stride e (Fills c y) (has-is b c y h)
      ∙ rw (strided-is fr c y stride s, lt-ltb (count * stride) 4294967296 l)
  has-is n a z (Has.struct m first count span aligns sizes c e h g p) =
      of_members n first count span aligns sizes c e
      (λ i l. has-is (struct_member fr first i).ty (aligns i) (sizes i) (h i l)) g
      ∙ rw (placed-stands fr first aligns sizes count c span p)

  -- A FAULT OF ITS OWN is worked out of it
  pub own_is : (n : TypeNumber) (k : SizeFault) → Ordered fr n k → measure_in fr (starts_of fr) n ≡ Faulty k n
  unfolding array_of
  own_is n k (Ordered.outside m h) = fixed fr good n ∙ form-out fr (measure_in fr (starts_of fr)) n (type_at fr n) h
  own_is n k (Ordered.stride m b count stride a z e h s) =
      of_array n b count stride e (Fills a z) (has-is b a z h) ∙ rw (untrue _ (λ q. s (strided fr a z stride q)))
  own_is n k (Ordered.members m first count span aligns sizes a e h g p) =
      of_members n first count span aligns sizes a e
      (λ i l. has-is (struct_member fr first i).ty (aligns i) (sizes i) (h i l)) g
      ∙ rw (untrue _ (λ q. p (stands-placed fr first aligns sizes count a span q)))
  own_is n k (Ordered.huge m b count stride a z e h s l) =
      of_array n b count stride e (Fills a z) (has-is b a z h)
      ∙ rw (strided-is fr a z stride s, le-ltb (count * stride) 4294967296 l)

  -- NO LOWER FAULT: where a type rests on one with a fault of its own, it has no size, and the fault that it is given
  -- is at that type or a lower one
  abbrev pub Low : TypeNumber → Measure → Type 0
  Low j (Fills a z) = ⊥
  Low j (Faulty k m) = m.0 ≤ j.0

  pub array-low : (j n : TypeNumber) (m : Measure) (count stride : ℕ) → Low j m → Low j (array_of n m count stride)
  unfolding array_of
  array-low j n (Fills a z) count stride h = absurd h
  array-low j n (Faulty k p) count stride h = h

  pub lower-yet : (j p : TypeNumber) (m : Measure) → ((l : SizeFault) (q : TypeNumber) → m ≡ Faulty l q → p.0 ≤ q.0)
      → Low j m → p.0 ≤ j.0
  lower-yet j p (Fills a z) h l = absurd l
  lower-yet j p (Faulty k q) h l = omega (arith, h k q refl)

  members-low : (j n : TypeNumber) (first : MemberNumber) (count span i : ℕ) (f : TypeNumber → Measure) → i < count
      → Folded fr f first count
      → Low j (f (struct_member fr first i).ty) → Low j (spanned n (parts_of fr (starts_of fr) f first count) span)
  unfolding spanned
  members-low j n first count span i f l (Folded.filled all) h = absurd (rw (all i l) at h)
  members-low j n first count span i f l (Folded.broken k p b o) h = rw b
      (lower-yet j p (f (struct_member fr first i).ty) (λ r q e. o.low i r q l e) h)

  pub own-low : (n j : TypeNumber) (l : SizeFault) → RestsOn fr n j → Ordered fr j l
      → Low j (measure_in fr (starts_of fr) n)
  own-low n j l (RestsOn.itself m) h = rw (own_is n l h) (omega arith)
  own-low n j l (RestsOn.element m b i count stride e r) h =
      rw (of_array n b count stride e (measure_in fr (starts_of fr) b) refl)
      (array-low j n (measure_in fr (starts_of fr) b) count stride (own-low b j l r h))
  own-low n j l (RestsOn.part m i first count span p e q r) h =
      rw (of_struct n first count span e (omega (arith, q)))
      (members-low j n first count span p (measure_in fr (starts_of fr)) q
      (folded fr (measure_in fr (starts_of fr)) first count)
      (own-low (struct_member fr first p).ty j l r h))
