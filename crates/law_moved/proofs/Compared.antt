-- Comparisons take the same steps with their numbers moved, where moves can be undone: then equal types and identical
-- answers stay so.
use Rattle.std.specs.Prelude.{Ok}
use Prim.Native.Nat.{ℕ}
use mathlib.Core.Path.{◌≡◌, refl, sym, ap, ◌∙◌, subst}
use mathlib.Core.Bool.{Bool, true, false, ◌||◌}
use Rattle.ir.specs.declared.Scalar.{Scalar}
use Rattle.ir.specs.declared.AddressSpace.{AddressSpace}
use Rattle.ir.specs.declared.ArraySize.{ArraySize}
use Rattle.ir.specs.declared.ArraySize.TheVariants as As
use Rattle.ir.specs.declared.TypeInner.{TypeInner}
use Rattle.ir.specs.declared.TypeInner.TheVariants as Ti
use Rattle.ir.specs.declared.TypeResolution.TheVariants as Tr
use Rattle.frames.specs.ForProofs.{answer_of}
use Rattle.frames.proofs.ReadBack.{answer_back}
use Rattle.rule.specs.declared.Fault.{Fault}
use Rattle.rule.specs.declared.Fault.TheVariants as Fa
use Rattle.rule.specs.Answers.{TypeAnswer, number, value, malformed, Place, nowhere, Compared}
use Rattle.rule.specs.Things.{form}
use Rattle.rule.specs.Rule.{Rule, come}
use Rattle.rule_types.specs.Canonical.{canonical, equal_types, identical}
use Rattle.rule_types.specs.Comparison.{in_form, in_forms, by_struct, by_identical, compare, answered, tested}
use Rattle.rule_types.specs.Comparison.{right_tested}
use Rattle.rule_types.specs.Comparison.{handed}
use Rattle.rule_types.proofs.Equality.{equal-types, identical-frames, identical-self}
use Rattle.law_moved.specs.Moves.{Moves, size_to, inner_to, answer_to, place_to}
use Rattle.law_moved.proofs.Alike.{PlainType, Alike, ends, comes}
use Rattle.law_moved.proofs.Selected.{to-pointer}

both_true : (a b : Bool) → (a ≡ true → b ≡ true) → (b ≡ true → a ≡ true) → a ≡ b
both_true true b f g = sym (f refl)
both_true false true f g = g refl
both_true false false f g = refl

-- i undoes m, on the numbers that types hold
pub record Undone (m i : Moves) : Type 0 where
  pub types : (n : ℕ) → i.types (m.types n) ≡ n
  pub members : (n : ℕ) → i.members (m.members n) ≡ n
  pub overrides : (n : ℕ) → i.overrides (m.overrides n) ≡ n

module _ (m i : Moves) (u : Undone m i) where
  size_back : (z : ArraySize) → size_to i (size_to m z) ≡ z
  size_back (As.Constant n) = refl
  size_back (As.Pending o) = ap (λ (x : ℕ). As.Pending (record { 0 = x })) (u.overrides o.0)
  size_back As.Dynamic = refl

  inner_back : (t : TypeInner) → inner_to i (inner_to m t) ≡ t
  inner_back (Ti.Scalar k) = refl
  inner_back (Ti.Vector z k) = refl
  inner_back (Ti.Matrix c j k) = refl
  inner_back (Ti.CooperativeMatrix c j k o) = refl
  inner_back (Ti.Atomic k) = refl
  inner_back (Ti.Pointer b p) = ap (λ (x : ℕ). Ti.Pointer (record { 0 = x }) p) (u.types b.0)
  inner_back (Ti.ValuePointer z k p) = refl
  inner_back (Ti.Array b z t) = rw (u.types b.0, size_back z)
  inner_back (Ti.Struct f n t) = ap (λ (x : ℕ). Ti.Struct (record { 0 = x }) n t) (u.members f.0)
  inner_back (Ti.Image d a c) = refl
  inner_back (Ti.Sampler q) = refl
  inner_back (Ti.AccelerationStructure q) = refl
  inner_back (Ti.RayQuery q) = refl
  inner_back (Ti.BindingArray b z) = rw (u.types b.0, size_back z)

  answer-back-to : (a : TypeAnswer) → answer_to i (answer_to m a) ≡ a
  answer-back-to (number n) = ap (λ (x : ℕ). number (record { 0 = x })) (u.types n.0)
  answer-back-to (value t) = ap value (inner_back t)
  answer-back-to (malformed f) = refl

  -- EQUALITY stays

  plain-is : (a b : TypeAnswer) → PlainType a → PlainType b → identical a b ≡ true → a ≡ b
  plain-is (number x) (number y) p q e =
      let h : Ok (Tr.Handle x) ≡ Ok (Tr.Handle y) = sym (answer_back (Ok (Tr.Handle x)))
      ∙ ap answer_of ((identical-frames (number x) (number y)).0 e) ∙ answer_back (Ok (Tr.Handle y)) in
      cc
  plain-is (number x) (value y) p q e =
      let h : Ok (Tr.Handle x) ≡ Ok (Tr.Value y) = sym (answer_back (Ok (Tr.Handle x)))
      ∙ ap answer_of ((identical-frames (number x) (value y)).0 e) ∙ answer_back (Ok (Tr.Value y)) in
      cc
  plain-is (value x) (number y) p q e =
      let h : Ok (Tr.Value x) ≡ Ok (Tr.Handle y) = sym (answer_back (Ok (Tr.Value x)))
      ∙ ap answer_of ((identical-frames (value x) (number y)).0 e) ∙ answer_back (Ok (Tr.Handle y)) in
      cc
  plain-is (value x) (value y) p q e =
      let h : Ok (Tr.Value x) ≡ Ok (Tr.Value y) = sym (answer_back (Ok (Tr.Value x)))
      ∙ ap answer_of ((identical-frames (value x) (value y)).0 e) ∙ answer_back (Ok (Tr.Value y)) in
      cc
  plain-is (malformed f) b p q e = absurd p
  plain-is (number x) (malformed f) p q e = absurd q
  plain-is (value x) (malformed f) p q e = absurd q

  plain-to : (a : TypeAnswer) → PlainType a → PlainType (answer_to m a)
  plain-to (number n) p = p
  plain-to (value t) p = p
  plain-to (malformed f) p = p

  identical-moved : (a b : TypeAnswer) → PlainType a → PlainType b → identical (answer_to m a) (answer_to m b)
      ≡ identical a b
  identical-moved a b p q =
      both_true _ _
      (λ e. let h : answer_to m a
      ≡ answer_to m b = plain-is (answer_to m a) (answer_to m b) (plain-to a p) (plain-to b q) e in
      let k : a ≡ b = sym (answer-back-to a) ∙ ap (answer_to i) h ∙ answer-back-to b in
      subst (λ (x : TypeAnswer). identical a x ≡ true) k (identical-self a))
      (λ e. let k : a ≡ b = plain-is a b p q e in
      subst (λ (x : TypeAnswer). identical (answer_to m a) (answer_to m x) ≡ true) k (identical-self (answer_to m a)))

  pub equal-moved : (s t : TypeInner) → equal_types (inner_to m s) (inner_to m t) ≡ equal_types s t
  equal-moved s t =
      both_true _ _
      (λ e. (equal-types s t).1
      (sym (inner_back s) ∙ ap (inner_to i) ((equal-types (inner_to m s) (inner_to m t)).0 e) ∙ inner_back t))
      (λ e. (equal-types (inner_to m s) (inner_to m t)).1 (ap (inner_to m) ((equal-types s t).0 e)))

  canonical-moved : (t : TypeInner) (p : AddressSpace) (base : TypeInner) → canonical (inner_to m t) p (inner_to m base)
      ≡ inner_to m (canonical t p base)
  canonical-moved t p (Ti.Scalar k) = refl
  canonical-moved t p (Ti.Vector z k) = refl
  canonical-moved t p (Ti.Matrix c j k) = refl
  canonical-moved t p (Ti.CooperativeMatrix c j k o) = refl
  canonical-moved t p (Ti.Atomic k) = refl
  canonical-moved t p (Ti.Pointer b q) = refl
  canonical-moved t p (Ti.ValuePointer z k q) = refl
  canonical-moved t p (Ti.Array b z x) = refl
  canonical-moved t p (Ti.Struct f n x) = refl
  canonical-moved t p (Ti.Image d a c) = refl
  canonical-moved t p (Ti.Sampler q) = refl
  canonical-moved t p (Ti.AccelerationStructure q) = refl
  canonical-moved t p (Ti.RayQuery q) = refl
  canonical-moved t p (Ti.BindingArray b z) = refl

  -- COMPARISON

  module _ {A B : Type 0} (to : A → B) where
    abbrev Like : Rule A → Rule B → Type 0
    Like = Alike m to

    form-alike : (p : Place) (k : TypeInner → Rule A) (j : TypeInner → Rule B)
        → ((t : TypeInner) → Like (k t) (j (inner_to m t))) → (t : TypeInner)
        → Like (in_form p k t) (in_form (place_to m p) j (inner_to m t))
    form-alike p k j h t =
        to-pointer m Like t _
        (λ b s. comes (λ x. subst (λ (z : TypeInner). Like (k (canonical t s x.inner)) (j z))
        (sym (canonical-moved t s x.inner)) (h (canonical t s x.inner)))) (h t)

    pub compare_alike : (p : Place) (a b : TypeAnswer) (k : Bool → Rule A) (j : Bool → Rule B) → PlainType a
        → PlainType b
        → ((x : Bool) → Like (k x) (j x))
        → Like (compare p a b k) (compare (place_to m p) (answer_to m a) (answer_to m b) j)
    compare_alike p a b k j pa pb h =
        subst (λ (x : Bool). Like (by_identical p a b k (identical a b))
        (by_identical (place_to m p) (answer_to m a) (answer_to m b) j x)) (sym (identical-moved a b pa pb))
        (go (identical a b))
      where
        second : (s : TypeInner)
            → Like (come p (form b) (λ y. in_form p (λ v. k (equal_types s v)) y.inner))
            (come (place_to m p) (form (answer_to m b))
            (λ y. in_form (place_to m p) (λ v. j (equal_types (inner_to m s) v)) y.inner))
        second s =
            comes {c = form b} (λ y. form-alike p (λ v. k (equal_types s v)) (λ v. j (equal_types (inner_to m s) v))
            (λ t. subst (λ (z : Bool). Like (k (equal_types s t)) (j z)) (sym (equal-moved s t)) (h (equal_types s t)))
            y.inner)

        forms : Like (in_forms p a b k) (in_forms (place_to m p) (answer_to m a) (answer_to m b) j)
        forms =
            comes {c = form a} (λ x. form-alike p
            (λ u. come p (form b) (λ y. in_form p (λ v. k (equal_types u v)) y.inner))
            (λ u. come (place_to m p) (form (answer_to m b))
            (λ y. in_form (place_to m p) (λ v. j (equal_types u v)) y.inner)) second x.inner)

        structs : (x : Bool) → Like (by_struct p a b k x) (by_struct (place_to m p) (answer_to m a) (answer_to m b) j x)
        structs true = h false
        structs false = forms

        go : (x : Bool) → Like (by_identical p a b k x)
            (by_identical (place_to m p) (answer_to m a) (answer_to m b) j x)
        go true = h true
        go false = comes (λ s. comes (λ t. structs (s || t)))

  -- two answers handed in
  pub handed-alike : (a b : TypeAnswer) → PlainType a → PlainType b
      → Alike m (λ (c : Compared). c) (handed a b) (handed (answer_to m a) (answer_to m b))
  handed-alike a b pa pb = comes left
    where
      same : (x : Bool) → Alike m (λ (c : Compared). c) (answered x) (answered x)
      same true = ends refl
      same false = ends refl

      right : (f : Fault) → Alike m (λ (c : Compared). c) (tested (compare nowhere a b answered) f)
          (tested (compare nowhere (answer_to m a) (answer_to m b) answered) f)
      right Fa.Sound = compare_alike (λ (c : Compared). c) nowhere a b answered answered pa pb same
      right Fa.Field = ends refl
      right Fa.Index = ends refl

      left : (f : Fault) → Alike m (λ (c : Compared). c) (tested (right_tested a b) f)
          (tested (right_tested (answer_to m a) (answer_to m b)) f)
      left Fa.Sound = comes right
      left Fa.Field = ends refl
      left Fa.Index = ends refl
