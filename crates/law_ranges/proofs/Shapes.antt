-- A type is an array, a struct, or names no part. What is said of a type in an accepted file is said over its parts,
-- which are earlier; so what follows for a type from its parts holds of every type.
use Rattle.std.specs.Prelude.{Option, Some, None}
use Rattle.ir.specs.declared.TypeInner.{TypeInner}
use Prim.Native.Nat.{ℕ, zero, suc, ◌<◌}
use native.Mathlib.Omega.{arith}
use mathlib.Core.Path.{◌≡◌, refl, sym, ap, ◌∙◌}
use mathlib.Core.Bool.{Bool, true, false, cond}
use mathlib.Core.List.{List}
use Rattle.ir.specs.declared.TypeNumber.{TypeNumber}
use Rattle.ir.specs.declared.MemberNumber.{MemberNumber}
use Rattle.ir.specs.declared.ItemNumber.{ItemNumber}
use Rattle.ir.specs.declared.ArraySize.{ArraySize}
use Rattle.ir.specs.declared.ArraySize.TheVariants as As
use Rattle.ir.specs.declared.TypeInner.TheVariants as Ti
use Rattle.archive.specs.Starts.{starts_of}
use Rattle.archive.specs.Access.{type_at}
use Rattle.law_rows.proofs.Good.{Good}
use Rattle.rule_sizes.specs.declared.SizeFault.TheVariants.{Unmeasured}
use Rattle.rule_sizes.specs.declared.Measure.{Measure}
use Rattle.rule_sizes.specs.declared.Measure.TheVariants.{Faulty}
use Rattle.rule_sizes.specs.Meaning.{struct_member}
use Rattle.law_sizes.proofs.Fixed.{PartOf, form-alike, early}
use Rattle.rule_ranges.specs.Pending.{size_holds, member_holds, form_holds, holds_pending}
use Rattle.rule_ranges.specs.Counts.{Counts, fresh_parts, fresh_struct, counted_array, counted_form, form_by}
use Rattle.rule_ranges.specs.Counts.{measure_by}
use Rattle.rule_ranges.proofs.Laws.{holds-earlier, by-earlier}

-- a choice between likes
pub cond-alike : (x : Bool) {p q r t : Measure} → p ≡ q → r ≡ t → cond x p r ≡ cond x q t
cond-alike true a b = a
cond-alike false a b = b

module _ (fr : List ℕ) where
  -- a type without parts is measured alike whatever other types fill, and holds no pending array
  pub record Other (t : Option TypeInner) : Type 0 where
    pub out : (h : TypeNumber → Bool) (c : Counts) (f : TypeNumber → Measure) (n : TypeNumber)
        → counted_form fr (starts_of fr) h c f n t ≡ Faulty Unmeasured n
    pub free : (h : TypeNumber → Bool) → form_holds fr (starts_of fr) h t ≡ false

  pub data Shape : Option TypeInner → Type 0 where
    array : (b : TypeNumber) (z : ArraySize) (stride : ℕ) → Shape (Some (Ti.Array b z stride))
    struct : (first : MemberNumber) (count span : ℕ) → Shape (Some (Ti.Struct first count span))
    other : (t : Option TypeInner) → Other t → Shape t

  pub shape : (t : Option TypeInner) → Shape t
  shape (Some (Ti.Array b z t)) = Shape.array b z t
  shape (Some (Ti.Struct m j t)) = Shape.struct m j t
  shape (Some (Ti.Scalar k)) =
      Shape.other _ (record { out = λ h x f n. refl; free = λ h. refl })
  shape (Some (Ti.Vector z k)) =
      Shape.other _ (record { out = λ h x f n. refl; free = λ h. refl })
  shape (Some (Ti.Matrix c r k)) =
      Shape.other _ (record { out = λ h x f n. refl; free = λ h. refl })
  shape (Some (Ti.CooperativeMatrix c r k o)) =
      Shape.other _ (record { out = λ h x f n. refl; free = λ h. refl })
  shape (Some (Ti.Atomic k)) =
      Shape.other _ (record { out = λ h x f n. refl; free = λ h. refl })
  shape (Some (Ti.Pointer b p)) =
      Shape.other _ (record { out = λ h x f n. refl; free = λ h. refl })
  shape (Some (Ti.ValuePointer z k p)) =
      Shape.other _ (record { out = λ h x f n. refl; free = λ h. refl })
  shape (Some (Ti.Image d a c)) =
      Shape.other _ (record { out = λ h x f n. refl; free = λ h. refl })
  shape (Some (Ti.Sampler q)) =
      Shape.other _ (record { out = λ h x f n. refl; free = λ h. refl })
  shape (Some (Ti.AccelerationStructure q)) =
      Shape.other _ (record { out = λ h x f n. refl; free = λ h. refl })
  shape (Some (Ti.RayQuery q)) =
      Shape.other _ (record { out = λ h x f n. refl; free = λ h. refl })
  shape (Some (Ti.BindingArray b z)) =
      Shape.other _ (record { out = λ h x f n. refl; free = λ h. refl })
  shape None = Shape.other _ (record { out = λ h x f n. refl; free = λ h. refl })

  -- PARTS ALIKE: the same is said of the type

  fresh-alike : (f g : TypeNumber → Measure) (first : MemberNumber) (k : ℕ)
      → ((i : ℕ) → i < k → f (struct_member fr first i).ty ≡ g (struct_member fr first i).ty)
      → fresh_parts fr (starts_of fr) f first k ≡ fresh_parts fr (starts_of fr) g first k
  unfolding fresh_parts
  fresh-alike f g first zero h = refl
  fresh-alike f g first (suc k) h = rw (fresh-alike f g first k (λ i l. h i (omega arith)), h k (omega arith))

  members_alike : (f g : TypeNumber → Bool) (first : MemberNumber) (k : ℕ)
      → ((i : ℕ) → i < k → f (struct_member fr first i).ty ≡ g (struct_member fr first i).ty)
      → member_holds fr (starts_of fr) f first k ≡ member_holds fr (starts_of fr) g first k
  unfolding member_holds
  members_alike f g first zero h = refl
  members_alike f g first (suc k) h = rw (members_alike f g first k (λ i l. h i (omega arith)), h k (omega arith))

  size-holds-alike : (f g : TypeNumber → Bool) (b : TypeNumber) (z : ArraySize) → f b ≡ g b
      → size_holds f b z ≡ size_holds g b z
  size-holds-alike f g b (As.Constant c) e = e
  size-holds-alike f g b (As.Pending o) e = refl
  size-holds-alike f g b As.Dynamic e = e

  holds-alike : (f g : TypeNumber → Bool) (t : Option TypeInner) → Shape t → ((b : TypeNumber) → PartOf fr t b
      → f b ≡ g b)
      → form_holds fr (starts_of fr) f t ≡ form_holds fr (starts_of fr) g t
  holds-alike f g t (Shape.array b z stride) h = size-holds-alike f g b z (h b (PartOf.element b z stride))
  holds-alike f g t (Shape.struct first count span) h =
      members_alike f g first count (λ i l. h _ (PartOf.part first count span i l))
  holds-alike f g t (Shape.other u o) h = o.free f ∙ sym (o.free g)

  array-alike : (h : TypeNumber → Bool) (c d : Counts) (f g : TypeNumber
      → Measure) (n b : TypeNumber) (z : ArraySize) (stride : ℕ) → f b ≡ g b
      → ((o : ItemNumber) → z ≡ As.Pending o → c o ≡ d o)
      → counted_array h c f n b z stride ≡ counted_array h d g n b z stride
  array-alike h c d f g n b (As.Constant x) stride e k = refl
  array-alike h c d f g n b (As.Pending o) stride e k = rw (e, k o refl)
  array-alike h c d f g n b As.Dynamic stride e k = refl

  -- the rule by counts
  pub counted-alike : (h : TypeNumber → Bool) (c d : Counts) (f g : TypeNumber
      → Measure) (n : TypeNumber) (t : Option TypeInner) → Shape t
      → ((b : TypeNumber) → PartOf fr t b → f b ≡ g b)
      → ((o : ItemNumber) (b : TypeNumber) (stride : ℕ) → t ≡ Some (Ti.Array b (As.Pending o) stride) → c o ≡ d o)
      → counted_form fr (starts_of fr) h c f n t ≡ counted_form fr (starts_of fr) h d g n t
  counted-alike h c d f g n t (Shape.array b z stride) e k =
      array-alike h c d f g n b z stride (e b (PartOf.element b z stride))
      (λ o q. k o b stride (ap (λ (x : ArraySize). Some (Ti.Array b x stride)) q))
  counted-alike h c d f g n t (Shape.struct first count span) e k =
      ap (fresh_struct n) (fresh-alike f g first count (λ i l. e _ (PartOf.part first count span i l)))
  counted-alike h c d f g n t (Shape.other u o) e k = o.out h c f n ∙ sym (o.out h d g n)

  module _ (good : Good fr) where
    -- what follows for a type from its parts holds of every type
    pub by_parts : (P : TypeNumber → Type 0)
        → ((n : TypeNumber) → ((b : TypeNumber) → PartOf fr (type_at fr n) b → P b) → P n) → (n : TypeNumber) → P n
    by_parts P step n = below (suc n.0) n (omega arith)
      where
        below : (limit : ℕ) (m : TypeNumber) → m.0 < limit → P m
        below zero m l = absurd (omega arith)
        below (suc limit) m l = step m (λ b p. below limit b (omega (arith, early fr good m b p)))

    module _ (n : TypeNumber) where
      pub holds-fixed : holds_pending fr (starts_of fr) n
          ≡ form_holds fr (starts_of fr) (holds_pending fr (starts_of fr)) (type_at fr n)
      unfolding holds_pending
      holds-fixed =
          holds-alike _ (holds_pending fr (starts_of fr)) (type_at fr n) (shape (type_at fr n))
          (λ b p. holds-earlier fr (starts_of fr) n b (early fr good n b p))

      pub by-fixed : (h : TypeNumber → Bool) (c : Counts)
          → measure_by fr (starts_of fr) h c n ≡ form_by fr (starts_of fr) h c (measure_by fr (starts_of fr) h c) n
          (type_at fr n)
      unfolding measure_by
      by-fixed h c =
          cond-alike (h n)
          (counted-alike h c c _ (measure_by fr (starts_of fr) h c) n (type_at fr n) (shape (type_at fr n))
          (λ b p. by-earlier fr (starts_of fr) h c n b (early fr good n b p)) (λ o b stride e. refl))
          (form-alike fr _ (measure_by fr (starts_of fr) h c) n (type_at fr n)
          (λ b p. by-earlier fr (starts_of fr) h c n b (early fr good n b p)))
