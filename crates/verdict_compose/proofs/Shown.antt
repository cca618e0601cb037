-- What the frame of a component's answer shows of its type is what its comparison gives: a type's own number, or a
-- value whose bytes are that type's. By the cases of the answer's family and of the kind.
use Rattle.std.specs.Prelude.{Option as CodeOption, Some, None, Ok}
use Prim.Native.Nat.{ℕ, ◌+◌, ◌*◌}
use mathlib.Core.Path.{◌≡◌, refl, sym, ap, ◌∙◌}
use mathlib.Core.Bool.{Bool, true, false, cond, ◌&&◌, ◌||◌}
use mathlib.Core.List.{List}
use mathlib.Core.Option.{Option, none, some}
use lib.Dec.{eqb}
use borrow.Author.Tests.{eqb-true}
use Rattle.scan.proofs.Laws.{and_first, and_second}
use Rattle.ir.specs.declared.TypeNumber.{TypeNumber}
use Rattle.ir.specs.declared.ScalarKind.{ScalarKind}
use Rattle.ir.specs.declared.Scalar.{Scalar}
use Rattle.ir.specs.declared.Width.{Width}
use Rattle.ir.specs.declared.TypeInner.{TypeInner}
use Rattle.ir.specs.declared.TypeInner.TheVariants as Ti
use Rattle.ir.specs.Numbers.{type_kind_of, space_of, scalar_kind_of, width_of, vector_size_of}
use Rattle.frames.specs.declared.Frame.{Frame}
use Rattle.frames.specs.Bytes.{byte, half, frame_at}
use Rattle.frames.specs.Fields.{read, scalar}
use Rattle.frames.specs.Forms.{type_as, type_of}
use Rattle.frames.specs.ForProofs.{answer_of}
use Rattle.archive.specs.declared.Starts.{Starts}
use Rattle.archive.specs.Names.{is_type}
use Rattle.archive.specs.Access.{type_in}
use Rattle.rule.specs.declared.Fault.TheVariants as Fa
use Rattle.rule.specs.Answers.{TypeAnswer, number, value, resolved}
use Rattle.rule.specs.Things.{in_range, value_fault, is_struct_inner, is_struct}
use Rattle.rule_types.specs.Canonical.{value_pointer, or_own, form_found, through_base, canonical_form_in, identical}
use Rattle.rule_types.specs.ForProofs.{or_self, canonical_of, by_answers, likeness}
use Rattle.rule_types.proofs.Equality.{equal-types, identical-self}
use Rattle.rule_types.proofs.Seen.{never}
use Rattle.verdict_compose.specs.Decided.{like_decides, answer_decides}
use Rattle.row_operands.specs.Plain.{type_frame_in}
use Rattle.row_operands.proofs.ByFrame.{type-frame, scalar-form, vector-form, matrix-form}
use Rattle.verdict_compose.specs.Shown.{is_scalar_to_matrix, same_form, same_pointer, value_shown, type_shown}

-- the scalar in bytes 4 and 5
abbrev scalar_shown : Frame → Scalar
scalar_shown f = read scalar f

pub pointer-form : (f : Frame) → byte f 1 ≡ 6 → type_of f
    ≡ Some (Ti.Pointer (record { 0 = half f 2 }) (space_of (byte f 6) (byte f 7)))
unfolding type_of
pointer-form f e = ap (λ (k : ℕ). type_as (type_kind_of k) f) e

pub record Formed (x : CodeOption TypeInner) : Type 0 where
  pub inner : TypeInner
  pub is : x ≡ Some inner

pub plain_form : (f : Frame) → is_scalar_to_matrix f ≡ true → Formed (type_of f)
plain_form f h = go (eqb (byte f 1) 1) (eqb (byte f 1) 2) (eqb (byte f 1) 3) refl refl refl h
  where
    go : (x y z : Bool) → eqb (byte f 1) 1 ≡ x → eqb (byte f 1) 2 ≡ y → eqb (byte f 1) 3 ≡ z → (x || (y || z)) ≡ true
        → Formed (type_of f)
    go true y z p q r o = record { inner = _; is = scalar-form f (eqb-true _ _ p) }
    go false true z p q r o = record { inner = _; is = vector-form f (eqb-true _ _ q) }
    go false false true p q r o = record { inner = _; is = matrix-form f (eqb-true _ _ r) }
    go false false false p q r o = never (cc)

abbrev made : ScalarKind → Width → Scalar
made k w = record { kind = k; width = w }

module _ (fr : List ℕ) (s : Starts) where
  -- a pointer's base that is a type is in range
  pub in-range : (b : TypeNumber) (c : TypeInner) → type_in fr s b ≡ Some c → in_range (is_type s b) ≡ Fa.Sound
  unfolding type_in
  in-range b c e = go (is_type s b) e
    where
      go : (q : Bool) → cond q (type_of (frame_at fr b.0)) None ≡ Some c → in_range q ≡ Fa.Sound
      go true h = refl
      go false h = never (cc)

  -- THE SAME TYPE

  like-self : (a : TypeAnswer) → likeness fr s a a ≡ some true
  like-self a =
      ap (λ (b : Bool). by_answers b (is_struct fr s a || is_struct fr s a) (canonical_of fr s a) (canonical_of fr s a))
      (identical-self a)

  -- a number and a value of the same form, of which no struct is
  like-value : (n : TypeNumber) (t u : TypeInner) → type_in fr s n ≡ Some t → value_fault s t ≡ Fa.Sound
      → is_struct_inner t ≡ false
      → or_self t (canonical_form_in fr s t) ≡ Some u → likeness fr s (number n) (value t) ≡ some true
  like-value n t u e sound unnamed own = go (identical (number n) (value t))
    where
      go : (i : Bool)
          → by_answers i (is_struct fr s (number n) || is_struct fr s (value t)) (canonical_of fr s (number n))
          (canonical_of fr s (value t)) ≡ some true
      go true = refl
      go false = rw (e, unnamed, sound, own, (equal-types u u).1 refl)

  -- the value that a frame reads as is the same as type n
  record Valued (n : TypeNumber) (f : Frame) : Type 0 where
    pub inner : TypeInner
    pub form : type_of f ≡ Some inner
    pub alike : likeness fr s (number n) (value inner) ≡ some true

  valued : (n : TypeNumber) (f g : Frame) → type_in fr s n ≡ type_of g → same_form f g ≡ true → Valued n f
  valued n f g e0 h = go (eqb (byte f 1) 1) (eqb (byte f 1) 2) (eqb (byte f 1) 3) refl refl refl (and_first _ _ h)
    where
      h1 : (eqb (byte f 1) (byte g 1)
          && (eqb (byte f 2) (byte g 2)
          && (eqb (byte f 3) (byte g 3) && (eqb (byte f 4) (byte g 4) && eqb (byte f 5) (byte g 5))))) ≡ true
      h1 = and_second (eqb (byte f 1) 1 || (eqb (byte f 1) 2 || eqb (byte f 1) 3)) _ h

      h2 : (eqb (byte f 2) (byte g 2)
          && (eqb (byte f 3) (byte g 3) && (eqb (byte f 4) (byte g 4) && eqb (byte f 5) (byte g 5)))) ≡ true
      h2 = and_second (eqb (byte f 1) (byte g 1)) _ h1

      h3 : (eqb (byte f 3) (byte g 3) && (eqb (byte f 4) (byte g 4) && eqb (byte f 5) (byte g 5))) ≡ true
      h3 = and_second (eqb (byte f 2) (byte g 2)) _ h2

      h4 : (eqb (byte f 4) (byte g 4) && eqb (byte f 5) (byte g 5)) ≡ true
      h4 = and_second (eqb (byte f 3) (byte g 3)) _ h3

      e1 : byte f 1 ≡ byte g 1
      e1 = eqb-true _ _ (and_first _ _ h1)

      e2 : byte f 2 ≡ byte g 2
      e2 = eqb-true _ _ (and_first _ _ h2)

      e3 : byte f 3 ≡ byte g 3
      e3 = eqb-true _ _ (and_first _ _ h3)

      e4 : byte f 4 ≡ byte g 4
      e4 = eqb-true _ _ (and_first _ _ h4)

      e5 : byte f 5 ≡ byte g 5
      e5 = eqb-true _ _ (and_second (eqb (byte f 4) (byte g 4)) _ h4)

      scalars : scalar_shown g ≡ scalar_shown f
      scalars = sym (ap (λ (b : ℕ). made (scalar_kind_of b) (width_of (byte f 5))) e4
          ∙ ap (λ (b : ℕ). made (scalar_kind_of (byte g 4)) (width_of b)) e5)

      go : (x y z : Bool) → eqb (byte f 1) 1 ≡ x → eqb (byte f 1) 2 ≡ y → eqb (byte f 1) 3 ≡ z → (x || (y || z)) ≡ true
          → Valued n f
      go true y z p q r o =
          let t = Ti.Scalar (scalar_shown f) in
          let k : byte f 1 ≡ 1 = eqb-true _ _ p in
          let e : type_in fr s n ≡ Some t = e0 ∙ scalar-form g (sym e1 ∙ k)
          ∙ ap (λ (j : Scalar). Some (Ti.Scalar j)) scalars in
          record { inner = t; form = scalar-form f k; alike = like-value n t t e refl refl refl }
      go false true z p q r o =
          let t = Ti.Vector (vector_size_of (byte f 2)) (scalar_shown f) in
          let k : byte f 1 ≡ 2 = eqb-true _ _ q in
          let e : type_in fr s n ≡ Some t =
          e0 ∙ vector-form g (sym e1 ∙ k)
          ∙ ap (λ (j : Scalar). Some (Ti.Vector (vector_size_of (byte g 2)) j)) scalars
          ∙ ap (λ (b : ℕ). Some (Ti.Vector (vector_size_of b) (scalar_shown f))) (sym e2) in
          record { inner = t; form = vector-form f k; alike = like-value n t t e refl refl refl }
      go false false true p q r o =
          let t = Ti.Matrix (vector_size_of (byte f 2)) (vector_size_of (byte f 3)) (scalar_shown f) in
          let k : byte f 1 ≡ 3 = eqb-true _ _ r in
          let e : type_in fr s n ≡ Some t =
          e0 ∙ matrix-form g (sym e1 ∙ k)
          ∙ ap (λ (j : Scalar). Some (Ti.Matrix (vector_size_of (byte g 2)) (vector_size_of (byte g 3)) j)) scalars
          ∙ ap (λ (b : ℕ). Some (Ti.Matrix (vector_size_of b) (vector_size_of (byte g 3)) (scalar_shown f)))
          (sym e2)
          ∙ ap (λ (b : ℕ). Some (Ti.Matrix (vector_size_of (byte f 2)) (vector_size_of b) (scalar_shown f)))
          (sym e3) in
          record { inner = t; form = matrix-form f k; alike = like-value n t t e refl refl refl }
      go false false false p q r o = never (cc)

  own-form : (t : TypeInner) (o : Option TypeInner) → or_self t (form_found o) ≡ Some (or_own t o)
  own-form t none = refl
  own-form t (some u) = refl

  valued-pointer : (n : TypeNumber) (f g : Frame) → type_in fr s n ≡ type_of g → byte f 1 ≡ 6 → same_pointer fr s f g
      ≡ true → Valued n f
  valued-pointer n f g e0 k h =
      go (eqb (byte g 1) 6 &&
      (eqb (byte f 2) (byte g 2)
      && (eqb (byte f 3) (byte g 3) && (eqb (byte f 6) (byte g 6) && eqb (byte f 7) (byte g 7))))) refl h
    where
      go : (q : Bool)
          → (eqb (byte g 1) 6 &&
          (eqb (byte f 2) (byte g 2)
          && (eqb (byte f 3) (byte g 3) && (eqb (byte f 6) (byte g 6) && eqb (byte f 7) (byte g 7))))) ≡ q
          → cond q (is_scalar_to_matrix (type_frame_in fr s (record { 0 = half f 2 }))) false ≡ true → Valued n f
      go true h1 plain =
          let b : TypeNumber = record { 0 = half f 2 } in
          let p = space_of (byte f 6) (byte f 7) in
          let t = Ti.Pointer b p in
          let w = plain_form (type_frame_in fr s b) plain in
          let base : type_in fr s b ≡ Some w.inner = type-frame fr s b ∙ w.is in
          let k1 : byte g 1 ≡ 6 = eqb-true _ _ (and_first _ _ h1) in
          let h2 = and_second (eqb (byte g 1) 6) _ h1 in
          let e2 : byte f 2 ≡ byte g 2 = eqb-true _ _ (and_first _ _ h2) in
          let h3 = and_second (eqb (byte f 2) (byte g 2)) _ h2 in
          let e3 : byte f 3 ≡ byte g 3 = eqb-true _ _ (and_first _ _ h3) in
          let h4 = and_second (eqb (byte f 3) (byte g 3)) _ h3 in
          let e6 : byte f 6 ≡ byte g 6 = eqb-true _ _ (and_first _ _ h4) in
          let e7 : byte f 7 ≡ byte g 7 = eqb-true _ _ (and_second (eqb (byte f 6) (byte g 6)) _ h4) in
          let e : type_in fr s n ≡ Some t =
          e0 ∙ pointer-form g k1
          ∙ ap (λ (x : ℕ). Some (Ti.Pointer (record { 0 = x + byte g 3 * 256 }) (space_of (byte g 6) (byte g 7))))
          (sym e2)
          ∙ ap (λ (x : ℕ). Some (Ti.Pointer (record { 0 = byte f 2 + x * 256 }) (space_of (byte g 6) (byte g 7))))
          (sym e3)
          ∙ ap (λ (x : ℕ). Some (Ti.Pointer b (space_of x (byte g 7)))) (sym e6)
          ∙ ap (λ (x : ℕ). Some (Ti.Pointer b (space_of (byte f 6) x))) (sym e7) in
          let own : or_self t (canonical_form_in fr s t) ≡ Some (or_own t (value_pointer p w.inner)) =
          ap (λ (x : CodeOption TypeInner). or_self t (through_base p x)) base ∙ own-form t (value_pointer p w.inner) in
          record {
            inner = t;
            form = pointer-form f k;
            alike = like-value n t (or_own t (value_pointer p w.inner)) e (in-range b w.inner base) refl own;
          }
      go false h1 plain = never (cc)

  valued-shown : (n : TypeNumber) (f g : Frame) → type_in fr s n ≡ type_of g → value_shown fr s f g ≡ true → Valued n f
  valued-shown n f g e0 h = go (eqb (byte f 1) 6) refl h
    where
      go : (q : Bool) → eqb (byte f 1) 6 ≡ q → cond q (same_pointer fr s f g) (same_form f g) ≡ true → Valued n f
      go true e r = valued-pointer n f g e0 (eqb-true _ _ e) r
      go false e r = valued n f g e0 r

  pub type-shown : (n : TypeNumber) (i : ℕ) (f : Frame) → type_shown fr s n f ≡ true
      → answer_decides i (λ t. like_decides i (likeness fr s (number n) (resolved t))) (answer_of f) ≡ Ok 1
  unfolding answer_of
  type-shown n i f h = go (eqb (byte f 0) 8) (eqb (byte f 0) 9) refl refl h
    where
      go : (a b : Bool) → eqb (byte f 0) 8 ≡ a → eqb (byte f 0) 9 ≡ b
          → cond a (eqb (half f 2) n.0) (cond b (value_shown fr s f (type_frame_in fr s n)) false) ≡ true
          → answer_decides i (λ t. like_decides i (likeness fr s (number n) (resolved t))) (answer_of f) ≡ Ok 1
      go true b p q h =
          rw p
          (ap (λ (m : ℕ). like_decides i (likeness fr s (number n) (number (record { 0 = m }))))
          (eqb-true (half f 2) n.0 h)
          ∙ ap (like_decides i) (like-self (number n)))
      go false true p q h =
          let w = valued-shown n f (type_frame_in fr s n) (type-frame fr s n) h in
          rw (p, q, w.form) (ap (like_decides i) w.alike)
      go false false p q h = never (cc)
