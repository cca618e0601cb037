-- In an accepted file a type names earlier types only, so what a type fills is worked out from what the types it
-- names fill.
use Rattle.std.specs.Prelude.{Option, Some, None}
use Rattle.ir.specs.declared.TypeInner.{TypeInner}
use Prim.Native.Nat.{ℕ, zero, suc, ◌<◌}
use native.Mathlib.Omega.{arith}
use mathlib.Core.Path.{◌≡◌, refl, sym, ap}
use mathlib.Core.Bool.{Bool, true, false}
use mathlib.Core.List.{List}
use Rattle.ir.specs.declared.TypeNumber.{TypeNumber}
use Rattle.ir.specs.declared.MemberNumber.{MemberNumber}
use Rattle.ir.specs.declared.ArraySize.{ArraySize}
use Rattle.ir.specs.declared.ArraySize.TheVariants as As
use Rattle.ir.specs.declared.TypeInner.TheVariants as Ti
use Rattle.archive.specs.Starts.{starts_of}
use Rattle.archive.specs.Names.{is_type}
use Rattle.archive.specs.Access.{type_in, type_at}
use Rattle.law_rows.proofs.Good.{Good}
use Rattle.law_rows.proofs.There.{TypeThere}
use Rattle.law_rows.proofs.Named.{type-named}
use Rattle.rule_sizes.specs.declared.Measure.{Measure}
use Rattle.rule_sizes.specs.Sizes.{Parts, array_of, parts_of, struct_of, sized_array, of_form, measure_in}
use Rattle.rule_sizes.specs.Meaning.{struct_member}
use Rattle.rule_sizes.proofs.Laws.{look-earlier}

module _ (fr : List ℕ) where
  -- THE PARTS of a type: the element of an array, the members of a struct
  pub data PartOf : Option TypeInner → TypeNumber → Type 0 where
    element : (b : TypeNumber) (z : ArraySize) (stride : ℕ) → PartOf (Some (Ti.Array b z stride)) b
    part : (first : MemberNumber) (count span i : ℕ) → i < count
        → PartOf (Some (Ti.Struct first count span)) (struct_member fr first i).ty

  part-early : (n : TypeNumber) (t : Option TypeInner) (b : TypeNumber) → TypeThere fr n t → PartOf t b → b.0 < n.0
  part-early n t b h (PartOf.element e z stride) = h.0
  part-early n t b h (PartOf.part first count span i l) = (h i l).early

  -- PARTS THAT FILL ALIKE: so does the type
  module _ (f g : TypeNumber → Measure) where
    parts-alike : (first : MemberNumber) (k : ℕ)
        → ((i : ℕ) → i < k → f (struct_member fr first i).ty ≡ g (struct_member fr first i).ty)
        → parts_of fr (starts_of fr) f first k ≡ parts_of fr (starts_of fr) g first k
    unfolding parts_of
    parts-alike first zero h = refl
    parts-alike first (suc k) h = rw (parts-alike first k (λ i l. h i (omega arith)), h k (omega arith))

    array-alike : (n b : TypeNumber) (z : ArraySize) (t : ℕ) → f b ≡ g b → sized_array n f b z t ≡ sized_array n g b z t
    array-alike n b (As.Constant c) t e = ap (λ (m : Measure). array_of n m c t) e
    array-alike n b (As.Pending o) t e = refl
    array-alike n b As.Dynamic t e = refl

    pub form-alike : (n : TypeNumber) (t : Option TypeInner) → ((b : TypeNumber) → PartOf t b → f b ≡ g b)
        → of_form fr (starts_of fr) f n t ≡ of_form fr (starts_of fr) g n t
    form-alike n (Some (Ti.Scalar k)) h = refl
    form-alike n (Some (Ti.Vector z k)) h = refl
    form-alike n (Some (Ti.Matrix c r k)) h = refl
    form-alike n (Some (Ti.CooperativeMatrix c r k o)) h = refl
    form-alike n (Some (Ti.Atomic k)) h = refl
    form-alike n (Some (Ti.Pointer b p)) h = refl
    form-alike n (Some (Ti.ValuePointer z k p)) h = refl
    form-alike n (Some (Ti.Array b z t)) h = array-alike n b z t (h b (PartOf.element b z t))
    form-alike n (Some (Ti.Struct m j t)) h =
        ap (λ (p : Parts). struct_of n p j t) (parts-alike m j (λ i l. h _ (PartOf.part m j t i l)))
    form-alike n (Some (Ti.Image d a c)) h = refl
    form-alike n (Some (Ti.Sampler q)) h = refl
    form-alike n (Some (Ti.AccelerationStructure q)) h = refl
    form-alike n (Some (Ti.RayQuery q)) h = refl
    form-alike n (Some (Ti.BindingArray b z)) h = refl
    form-alike n None h = refl

module _ (fr : List ℕ) (good : Good fr) where
  -- what type n fills
  abbrev pub fill : TypeNumber → Measure
  fill n = measure_in fr (starts_of fr) n

  -- what a type names is there and earlier; of a number past the types nothing is asked

  none : (n : TypeNumber) → is_type (starts_of fr) n ≡ false → type_at fr n ≡ None
  unfolding type_in
  none n e = rw e

  pub there : (n : TypeNumber) → TypeThere fr n (type_at fr n)
  there n = go (is_type (starts_of fr) n) refl
    where
      go : (b : Bool) → is_type (starts_of fr) n ≡ b → TypeThere fr n (type_at fr n)
      go true e = type-named fr good n e
      go false e = rw (none n e) tt

  pub early : (n b : TypeNumber) → PartOf fr (type_at fr n) b → b.0 < n.0
  early n b p = part-early fr n (type_at fr n) b (there n) p

  -- by the form of the type, over what all types fill
  pub fixed : (n : TypeNumber)
      → measure_in fr (starts_of fr) n ≡ of_form fr (starts_of fr) (measure_in fr (starts_of fr)) n (type_at fr n)
  unfolding measure_in
  fixed n =
      form-alike fr _ (measure_in fr (starts_of fr)) n (type_at fr n)
      (λ b p. sym (look-earlier fr (starts_of fr) n b (early n b p)))
