-- What a comparison gives, by the canonical forms of both; and what follows for two answers that get neither 5 nor 6:
-- each equals itself, either order gives the same, a pointer to a scalar or vector equals its value pointer, and a
-- struct's number equals itself alone. For any frames and any places where their families begin; a file's are a case.
use Rattle.std.specs.Prelude.{Option as CodeOption, Some, None}
use Prim.Native.Nat.{ℕ}
use mathlib.Core.Path.{◌≡◌, refl, sym, ap, ◌∙◌}
use mathlib.Core.Bool.{Bool, true, false, cond, ◌||◌}
use mathlib.Core.List.{List, []}
use mathlib.Core.Logic.{◌⊎◌, inl, inr, ◌↔◌}
use mathlib.Core.Option.{Option, none, some}
use Rattle.ir.specs.declared.TypeNumber.{TypeNumber}
use Rattle.ir.specs.declared.AddressSpace.{AddressSpace}
use Rattle.ir.specs.declared.Scalar.{Scalar}
use Rattle.ir.specs.declared.VectorSize.{VectorSize}
use Rattle.ir.specs.declared.TypeInner.{TypeInner}
use Rattle.ir.specs.declared.TypeInner.TheVariants as Ti
use Rattle.frames.specs.declared.Frame.{Frame}
use Rattle.frames.specs.Bytes.{half}
use Rattle.frames.specs.Out.{number_frame}
use Rattle.frames.proofs.ReadBack.{half_back}
use Rattle.archive.specs.declared.Starts.{Starts}
use Rattle.archive.specs.Access.{type_in}
use Rattle.rule.specs.declared.Fault.TheVariants as Fa
use Rattle.rule.specs.Answers.{TypeAnswer, number, value, malformed, type_answer_frame, Place, nowhere, Result, told}
use Rattle.rule.specs.Answers.{newer, Compared, alike, unlike, field, index}
use Rattle.rule.specs.Things.{form, fault_of, form_in, see_in, is_struct_form, is_struct}
use Rattle.rule.specs.Rule.{Rule, come, Answers, run}
use Rattle.rule.specs.InOrder.{among}
use Rattle.rule_types.specs.Canonical.{value_pointer, or_own, canonical, form_found, through_base, canonical_form_in}
use Rattle.rule_types.specs.Canonical.{equal_types, identical}
use Rattle.rule_types.specs.Comparison.{in_form, in_forms, by_struct, by_identical, compare, answered, Sound, handed}
use Rattle.rule_types.specs.Comparison.{given}
use Rattle.rule_types.specs.ForProofs.{or_self, canonical_through, canonical_of, by_forms, by_answers, likeness, Equal}
use Rattle.rule_types.proofs.Equality.{equal-types, equal-sym, identical-frames, identical-self, identical-sym}
use Rattle.rule_types.proofs.Seen.{never}

-- with a form, or where it is unknown
abbrev pub on_form : {X : Type 0} → CodeOption TypeInner → (TypeInner → X) → X → X
on_form (Some t) f rest = f t
on_form None f rest = rest

-- with yes or no, or newer
abbrev pub on_bool : {X : Type 0} → Option Bool → (Bool → X) → X → X
on_bool (some b) f rest = f b
on_bool none f rest = rest

module _ (fr : List ℕ) (s : Starts) where
  -- RUNNING THE COMPARISON, for any rest: its outcome is the rest's at the likeness of the two answers, or newer
  module _ {A : Type 0} (earlier : Answers) (new : Place → Result A) (p : Place) where
    abbrev ran : Rule A → Result A
    ran r = run (see_in fr s) earlier new r

    own : (k : TypeInner → Rule A) (t : TypeInner) (o : Option TypeInner)
        → ran (k (or_own t o)) ≡ on_form (or_self t (form_found o)) (λ u. ran (k u)) (new p)
    own k t none = refl
    own k t (some u) = refl

    through-base : (k : TypeInner → Rule A) (t : TypeInner) (q : AddressSpace) (b : TypeNumber)
        (c : CodeOption TypeInner)
        → type_in fr s b ≡ c
        → ran (come p (form (number b)) (λ x. k (canonical t q x.inner)))
        ≡ on_form (or_self t (through_base q c)) (λ u. ran (k u)) (new p)
    through-base k t q b (Some c) e = rw (e, ran, run) (own k t (value_pointer q c))
    through-base k t q b None e = rw (e, ran, run)

    in-form : (k : TypeInner → Rule A) (t : TypeInner)
        → ran (in_form p k t) ≡ on_form (or_self t (canonical_form_in fr s t)) (λ u. ran (k u)) (new p)
    in-form k (Ti.Pointer b q) = through-base k (Ti.Pointer b q) q b (type_in fr s b) refl
    in-form k (Ti.Scalar x0) = refl
    in-form k (Ti.Vector x0 x1) = refl
    in-form k (Ti.Matrix x0 x1 x2) = refl
    in-form k (Ti.CooperativeMatrix x0 x1 x2 x3) = refl
    in-form k (Ti.Atomic x0) = refl
    in-form k (Ti.ValuePointer x0 x1 x2) = refl
    in-form k (Ti.Array x0 x1 x2) = refl
    in-form k (Ti.Struct x0 x1 x2) = refl
    in-form k (Ti.Image x0 x1 x2) = refl
    in-form k (Ti.Sampler x0) = refl
    in-form k (Ti.AccelerationStructure x0) = refl
    in-form k (Ti.RayQuery x0) = refl
    in-form k (Ti.BindingArray x0 x1) = refl

    look : (k : TypeInner → Rule A) (a : TypeAnswer) (f : CodeOption TypeInner) → form_in fr s a ≡ f
        → ran (come p (form a) (λ y. in_form p k y.inner)) ≡ on_form (canonical_through fr s f) (λ u. ran (k u)) (new p)
    look k a (Some t) e = rw (e, ran, run) (in-form k t)
    look k a None e = rw (e, ran, run)

    both : (u v : CodeOption TypeInner) (h : TypeInner → Result A) (f : Bool → Result A)
        → ((t : TypeInner) → h t ≡ on_form v (λ x. f (equal_types t x)) (new p))
        → on_form u h (new p) ≡ on_bool (by_forms u v) f (new p)
    both None v h f e = refl
    both (Some x) None h f e = e x
    both (Some x) (Some y) h f e = e x

    by-forms : (a b : TypeAnswer) (k : Bool → Rule A)
        → ran (in_forms p a b k)
        ≡ on_bool (by_forms (canonical_of fr s a) (canonical_of fr s b)) (λ x. ran (k x)) (new p)
    by-forms a b k =
        look (λ u. come p (form b) (λ y. in_form p (λ v. k (equal_types u v)) y.inner)) a (form_in fr s a) refl
        ∙ both (canonical_of fr s a) (canonical_of fr s b) _ (λ x. ran (k x))
        (λ t. look (λ v. k (equal_types t v)) b (form_in fr s b) refl)

    by-struct : (a b : TypeAnswer) (k : Bool → Rule A) (q : Bool)
        → ran (by_struct p a b k q)
        ≡ on_bool (by_answers false q (canonical_of fr s a) (canonical_of fr s b)) (λ x. ran (k x)) (new p)
    by-struct a b k true = refl
    by-struct a b k false = by-forms a b k

    by-identical : (a b : TypeAnswer) (k : Bool → Rule A) (i : Bool)
        → ran (by_identical p a b k i)
        ≡ on_bool (by_answers i (is_struct fr s a || is_struct fr s b) (canonical_of fr s a) (canonical_of fr s b))
        (λ x. ran (k x)) (new p)
    by-identical a b k true = refl
    by-identical a b k false = by-struct a b k (is_struct fr s a || is_struct fr s b)

    pub compare-run : (a b : TypeAnswer) (k : Bool → Rule A) → ran (compare p a b k)
        ≡ on_bool (likeness fr s a b) (λ x. ran (k x)) (new p)
    compare-run a b k = by-identical a b k (identical a b)

  -- what our reader gives for two answers handed in
  abbrev compared : TypeAnswer → TypeAnswer → Result Compared
  compared a b = given fr s (handed a b)

  -- yes, no, or newer
  abbrev pub told_of : Option Bool → Result Compared
  told_of (some b) = told (cond b alike unlike)
  told_of none = newer nowhere

  pub answer-told : (o : Option Bool) → on_bool o (λ x. given fr s (answered x)) (newer nowhere) ≡ told_of o
  answer-told (some true) = refl
  answer-told (some false) = refl
  answer-told none = refl

  -- WHAT A COMPARISON GIVES

  pub compared_is : (a b : TypeAnswer) → Sound s a → Sound s b → compared a b ≡ told_of (likeness fr s a b)
  compared_is a b p q = rw (p, q, given, run)
      (compare-run (among []) newer nowhere a b answered ∙ answer-told (likeness fr s a b))

  -- each equals itself, also where its kind is unknown
  pub same_self : (a : TypeAnswer) → Sound s a → compared a a ≡ told alike
  same_self a p =
      compared_is a a p p
      ∙ ap (λ (i : Bool). told_of
      (by_answers i (is_struct fr s a || is_struct fr s a) (canonical_of fr s a) (canonical_of fr s a)))
      (identical-self a)

  -- either order gives the same
  or-sym : (a b : Bool) → (a || b) ≡ (b || a)
  or-sym true true = refl
  or-sym true false = refl
  or-sym false true = refl
  or-sym false false = refl

  forms-sym : (u v : CodeOption TypeInner) → by_forms u v ≡ by_forms v u
  forms-sym None None = refl
  forms-sym None (Some v) = refl
  forms-sym (Some u) None = refl
  forms-sym (Some u) (Some v) = ap some (equal-sym u v)

  answers-sym : (i q : Bool) (u v : CodeOption TypeInner) → by_answers i q u v ≡ by_answers i q v u
  answers-sym true q u v = refl
  answers-sym false true u v = refl
  answers-sym false false u v = forms-sym u v

  pub likeness-sym : (a b : TypeAnswer) → likeness fr s a b ≡ likeness fr s b a
  likeness-sym a b =
      let u = canonical_of fr s a in
      let v = canonical_of fr s b in
      ap (λ (i : Bool). by_answers i (is_struct fr s a || is_struct fr s b) u v) (identical-sym a b)
      ∙ ap (λ (q : Bool). by_answers (identical b a) q u v) (or-sym (is_struct fr s a) (is_struct fr s b))
      ∙ answers-sym (identical b a) (is_struct fr s b || is_struct fr s a) u v

  pub either_order : (a b : TypeAnswer) → Sound s a → Sound s b → compared a b ≡ compared b a
  either_order a b p q = compared_is a b p q ∙ ap told_of (likeness-sym a b) ∙ sym (compared_is b a q p)

  -- YES, exactly when the frames are identical, or neither is a struct's number and the canonical forms are equal as
  -- data

  yes-when : (a b : TypeAnswer) (i q : Bool) (u v : CodeOption TypeInner) → identical a b ≡ i
      → (is_struct fr s a || is_struct fr s b)
      ≡ q
      → canonical_of fr s a ≡ u
      → canonical_of fr s b ≡ v → told_of (by_answers i q u v) ≡ told alike
      → (type_answer_frame a ≡ type_answer_frame b)
      ⊎ Equal fr s a b
  yes-when a b true q u v qi qs qu qv e = inl ((identical-frames a b).0 qi)
  yes-when a b false true u v qi qs qu qv e = never (cc)
  yes-when a b false false None None qi qs qu qv e = never (cc)
  yes-when a b false false None (Some y) qi qs qu qv e = never (cc)
  yes-when a b false false (Some x) None qi qs qu qv e = never (cc)
  yes-when a b false false (Some x) (Some y) qi qs qu qv e = go (equal_types x y) refl e
    where
      go : (t : Bool) → equal_types x y ≡ t → told (cond t alike unlike) ≡ told alike
          → (type_answer_frame a ≡ type_answer_frame b) ⊎ Equal fr s a b
      go true h w = let q : x ≡ y = (equal-types x y).0 h in
          inr (record { shape = y; unnamed = qs; left = qu ∙ ap Some q; right = qv })
      go false h w = never (cc)

  when-equal : (a b : TypeAnswer) (i : Bool) (h : Equal fr s a b)
      → told_of (by_answers i (is_struct fr s a || is_struct fr s b) (canonical_of fr s a) (canonical_of fr s b))
      ≡ told alike
  when-equal a b true h = refl
  when-equal a b false h = rw (h.unnamed, h.left, h.right, (equal-types h.shape h.shape).1 refl)

  pub alike-when : (a b : TypeAnswer) → Sound s a → Sound s b
      → (compared a b ≡ told alike) ↔ ((type_answer_frame a ≡ type_answer_frame b) ⊎ Equal fr s a b)
  alike-when a b p q = (
    λ e.
        yes-when a b (identical a b) (is_struct fr s a || is_struct fr s b) _ _ refl refl refl refl
        (sym (compared_is a b p q) ∙ e),
    λ h.
        compared_is a b p q
        ∙ back h,
  )
    where
      back : (type_answer_frame a ≡ type_answer_frame b) ⊎ Equal fr s a b → told_of (likeness fr s a b) ≡ told alike
      back (inl e) =
          ap (λ (i : Bool). told_of
          (by_answers i (is_struct fr s a || is_struct fr s b) (canonical_of fr s a) (canonical_of fr s b)))
          ((identical-frames a b).1 e)
      back (inr h) = when-equal a b (identical a b) h

  -- A STRUCT'S NUMBER differs from every other answer, of an alike struct too

  number_same : (n m : TypeNumber) → number_frame n ≡ number_frame m → n.0 ≡ m.0
  number_same n m e = sym (half_back n.0) ∙ ap (λ (f : Frame). half f 2) e ∙ half_back m.0

  pub structs-differ : (n m : TypeNumber) → Sound s (number n) → Sound s (number m) → is_struct fr s (number n) ≡ true
      → (n.0 ≡ m.0 → ⊥)
      → compared (number n) (number m) ≡ told unlike
  structs-differ n m p q h d = compared_is (number n) (number m) p q ∙ go (identical (number n) (number m)) refl
    where
      go : (i : Bool) → identical (number n) (number m) ≡ i
          → told_of (by_answers i (is_struct fr s (number n) || is_struct fr s (number m))
          (canonical_of fr s (number n))
          (canonical_of fr s (number m))) ≡ told unlike
      go true e = absurd (d (number_same n m ((identical-frames (number n) (number m)).0 e)))
      go false e = rw h

  -- A POINTER TO A SCALAR OR A VECTOR equals its value pointer

  pointer-form : (b : TypeNumber) (q : AddressSpace) (t : CodeOption TypeInner) → t ≡ Some (Ti.Pointer b q)
      → is_struct_form t
      ≡ false
  pointer-form b q t e = rw e

  pointer-unnamed : (b : TypeNumber) (q : AddressSpace) (a : TypeAnswer) → form_in fr s a ≡ Some (Ti.Pointer b q)
      → is_struct fr s a ≡ false
  pointer-unnamed b q (number n) e = pointer-form b q (type_in fr s n) e
  pointer-unnamed b q (value t) e = refl
  pointer-unnamed b q (malformed f) e = refl

  pub pointer-to : (b : TypeNumber) (q : AddressSpace) (z : CodeOption VectorSize) (k : Scalar) (a : TypeAnswer)
      (c : TypeInner) → Sound s a
      → form_in fr s a ≡ Some (Ti.Pointer b q) → type_in fr s b ≡ Some c → value_pointer q c
      ≡ some (Ti.ValuePointer z k q)
      → compared a (value (Ti.ValuePointer z k q)) ≡ told alike
  pointer-to b q z k a c p e g h =
      (alike-when a (value (Ti.ValuePointer z k q)) p refl).1 (inr (record {
        shape = Ti.ValuePointer z k q;
        unnamed = rw (pointer-unnamed b q a e);
        left =
            ap (canonical_through fr s) e ∙ ap (λ (f : CodeOption TypeInner). or_self (Ti.Pointer b q)
            (through_base q f)) g
            ∙ ap (λ (o : Option TypeInner). or_self (Ti.Pointer b q) (form_found o)) h;
        right = refl;
      }))

  pub pointer-to-scalar : (b : TypeNumber) (q : AddressSpace) (k : Scalar) (a : TypeAnswer) → Sound s a
      → form_in fr s a ≡ Some (Ti.Pointer b q)
      → type_in fr s b ≡ Some (Ti.Scalar k) → compared a (value (Ti.ValuePointer None k q)) ≡ told alike
  pointer-to-scalar b q k a p e g = pointer-to b q None k a (Ti.Scalar k) p e g refl

  pub pointer-to-vector : (b : TypeNumber) (q : AddressSpace) (z : VectorSize) (k : Scalar) (a : TypeAnswer) → Sound s a
      → form_in fr s a ≡ Some (Ti.Pointer b q)
      → type_in fr s b ≡ Some (Ti.Vector z k) → compared a (value (Ti.ValuePointer (Some z) k q)) ≡ told alike
  pointer-to-vector b q z k a p e g = pointer-to b q (Some z) k a (Ti.Vector z k) p e g refl

  -- FIVE AND SIX come before any look, the left answer's first

  pub left-five : (a b : TypeAnswer) → fault_of s a ≡ Fa.Field → compared a b ≡ told field
  left-five a b p = rw (p, given, run)

  pub left-six : (a b : TypeAnswer) → fault_of s a ≡ Fa.Index → compared a b ≡ told index
  left-six a b p = rw (p, given, run)

  pub right-five : (a b : TypeAnswer) → Sound s a → fault_of s b ≡ Fa.Field → compared a b ≡ told field
  right-five a b p q = rw (p, q, given, run)

  pub right-six : (a b : TypeAnswer) → Sound s a → fault_of s b ≡ Fa.Index → compared a b ≡ told index
  right-six a b p q = rw (p, q, given, run)
