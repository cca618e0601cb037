-- What both frames show: where the frames of a part's type and of a component's show a form, the comparison is that of
-- the two forms, since each is its own canonical form and no struct's. By the cases of the answer's family and of the
-- kind.
use Rattle.std.specs.Prelude.{Some, None}
use Prim.Native.Nat.{ℕ, ◌+◌, ◌*◌, ◌/◌, ◌%◌}
use native.Mathlib.Omega.{arith}
use mathlib.Core.Path.{◌≡◌, refl, sym, ap, subst, ◌∙◌}
use mathlib.Core.Bool.{Bool, true, false, cond, ◌||◌}
use mathlib.Core.List.{List}
use mathlib.Core.Option.{some}
use lib.Dec.{eqb}
use borrow.Author.Tests.{eqb-true}
use Rattle.ir.specs.declared.TypeNumber.{TypeNumber}
use Rattle.ir.specs.declared.TypeInner.{TypeInner}
use Rattle.ir.specs.declared.TypeInner.TheVariants as Ti
use Rattle.frames.specs.declared.Frame.{Frame}
use Rattle.frames.specs.Bytes.{byte, half, zero_frame}
use Rattle.frames.specs.Forms.{type_of}
use Rattle.frames.specs.Out.{type_frame}
use Rattle.frames.specs.ForProofs.{answer_of}
use Rattle.archive.specs.declared.Starts.{Starts}
use Rattle.archive.specs.Access.{type_in}
use Rattle.rule.specs.declared.Fault.TheVariants as Fa
use Rattle.rule.specs.Answers.{number, value, resolved}
use Rattle.rule.specs.Things.{value_fault, is_struct_inner, is_struct}
use Rattle.rule_types.specs.Canonical.{canonical_form_in, identical}
use Rattle.rule_types.specs.Canonical.{equal_types}
use Rattle.rule_types.specs.ForProofs.{or_self, canonical_of, by_answers, likeness}
use Rattle.rule_types.proofs.Equality.{equal-types, identical-frames}
use Rattle.rule_types.proofs.Seen.{never}
use Rattle.verdict_compose.specs.Decided.{like_decides, answer_decides}
use Rattle.row_operands.specs.Plain.{type_frame_in, typed_frame, plain_of}
use Rattle.row_operands.proofs.ByFrame.{type-frame, plain-shown, scalar-form, vector-form, matrix-form}
use Rattle.row_operands.proofs.ByFrame.{cooperative-form}

-- a value's frame is of family 9, and no number's
value-number : {X : Type 0} (t : TypeInner) → 8 ≡ byte (type_frame 9 t) 0 → X
value-number (Ti.Scalar k) e = absurd (omega (arith, e))
value-number (Ti.Vector z k) e = absurd (omega (arith, e))
value-number (Ti.Matrix c r k) e = absurd (omega (arith, e))
value-number (Ti.CooperativeMatrix c r k o) e = absurd (omega (arith, e))
value-number (Ti.Atomic k) e = absurd (omega (arith, e))
value-number (Ti.Pointer b p) e = absurd (omega (arith, e))
value-number (Ti.ValuePointer z k p) e = absurd (omega (arith, e))
value-number (Ti.Array b z n) e = absurd (omega (arith, e))
value-number (Ti.Struct m n z) e = absurd (omega (arith, e))
value-number (Ti.Image d a c) e = absurd (omega (arith, e))
value-number (Ti.Sampler q) e = absurd (omega (arith, e))
value-number (Ti.AccelerationStructure q) e = absurd (omega (arith, e))
value-number (Ti.RayQuery q) e = absurd (omega (arith, e))
value-number (Ti.BindingArray b z) e = absurd (omega (arith, e))

zero-shown : (t : TypeInner) → plain_of zero_frame ≡ Some t → ⊥
unfolding plain_of
zero-shown t e = never (cc)

module _ (fr : List ℕ) (s : Starts) where
  record Own (t : TypeInner) : Type 0 where
    pub sound : value_fault s t ≡ Fa.Sound
    pub unnamed : is_struct_inner t ≡ false
    pub own : or_self t (canonical_form_in fr s t) ≡ Some t

  own-kind : (f : Frame) (t : TypeInner) → plain_of f ≡ Some t → Own t
  unfolding plain_of
  own-kind f t e = go (eqb (byte f 1) 1) (eqb (byte f 1) 2) (eqb (byte f 1) 3) (eqb (byte f 1) 4) refl refl refl refl e
    where
      of-form : (u : TypeInner) → type_of f ≡ Some u → type_of f ≡ Some t → Own u → Own t
      of-form u p q w = subst Own (let h : Some u ≡ Some t = sym p ∙ q in cc) w

      go : (x y z v : Bool) → eqb (byte f 1) 1 ≡ x → eqb (byte f 1) 2 ≡ y → eqb (byte f 1) 3 ≡ z → eqb (byte f 1) 4 ≡ v
          → cond (x || (y || (z || v))) (type_of f) None ≡ Some t → Own t
      go true y z v p q r o h = of-form _ (scalar-form f (eqb-true _ _ p)) h
          (record { sound = refl; unnamed = refl; own = refl })
      go false true z v p q r o h = of-form _ (vector-form f (eqb-true _ _ q)) h
          (record { sound = refl; unnamed = refl; own = refl })
      go false false true v p q r o h = of-form _ (matrix-form f (eqb-true _ _ r)) h
          (record { sound = refl; unnamed = refl; own = refl })
      go false false false true p q r o h = of-form _ (cooperative-form f (eqb-true _ _ o)) h
          (record { sound = refl; unnamed = refl; own = refl })
      go false false false false p q r o h = never (cc)

  -- two numbers: where they are one, the forms are the same
  like-numbers : (n m : TypeNumber) (t u : TypeInner) → type_in fr s n ≡ Some t → type_in fr s m ≡ Some u
      → Own t
      → Own u
      → likeness fr s (number n) (number m) ≡ some (equal_types t u)
  like-numbers n m t u p q v w = go (identical (number n) (number m)) refl
    where
      go : (i : Bool) → identical (number n) (number m) ≡ i
          → by_answers i (is_struct fr s (number n) || is_struct fr s (number m)) (canonical_of fr s (number n))
          (canonical_of fr s (number m))
          ≡ some (equal_types t u)
      go true e =
          let a : n.0 % 256 + n.0 / 256 * 256 ≡ m.0 % 256 + m.0 / 256 * 256 =
          ap (λ (f : Frame). half f 2) ((identical-frames (number n) (number m)).0 e) in
          let b : n.0 ≡ m.0 = omega (arith, a) in
          let c : Some t ≡ Some u = sym p ∙ ap (λ (k : ℕ). type_in fr s (record { 0 = k })) b ∙ q in
          let d : t ≡ u = cc in
          ap some (sym ((equal-types t u).1 d))
      go false e = rw (p, q, v.unnamed, w.unnamed, v.own, w.own)

  -- a number and a value, which are never one answer
  like-values : (n : TypeNumber) (t u : TypeInner) → type_in fr s n ≡ Some t → Own t → Own u
      → likeness fr s (number n) (value u) ≡ some (equal_types t u)
  like-values n t u p v w = go (identical (number n) (value u)) refl
    where
      go : (i : Bool) → identical (number n) (value u) ≡ i
          → by_answers i (is_struct fr s (number n) || is_struct fr s (value u)) (canonical_of fr s (number n))
          (canonical_of fr s (value u))
          ≡ some (equal_types t u)
      go true e = value-number u (ap (λ (f : Frame). byte f 0) ((identical-frames (number n) (value u)).0 e))
      go false e = rw (p, v.unnamed, w.sound, v.own, w.own)

  pub both-shown : (n : TypeNumber) (i : ℕ) (f : Frame) (t u : TypeInner) → plain_of (type_frame_in fr s n) ≡ Some t
      → plain_of (typed_frame fr s f) ≡ Some u
      → answer_decides i (λ x. like_decides i (likeness fr s (number n) (resolved x))) (answer_of f)
      ≡ like_decides i (some (equal_types t u))
  unfolding answer_of
  both-shown n i f t u e h = go (eqb (byte f 0) 8) (eqb (byte f 0) 9) refl refl h
    where
      g : type_in fr s n ≡ Some t
      g = type-frame fr s n ∙ (plain-shown s (type_frame_in fr s n) t e).is

      v : Own t
      v = own-kind (type_frame_in fr s n) t e

      go : (a b : Bool) → eqb (byte f 0) 8 ≡ a → eqb (byte f 0) 9 ≡ b
          → plain_of (cond a (type_frame_in fr s (record { 0 = half f 2 })) (cond b f zero_frame)) ≡ Some u
          → answer_decides i (λ x. like_decides i (likeness fr s (number n) (resolved x))) (answer_of f)
          ≡ like_decides i (some (equal_types t u))
      go true b p q k =
          let m : TypeNumber = record { 0 = half f 2 } in
          rw p
          (ap (like_decides i)
          (like-numbers n m t u g (type-frame fr s m ∙ (plain-shown s (type_frame_in fr s m) u k).is) v
          (own-kind (type_frame_in fr s m) u k)))
      go false true p q k =
          rw (p, q, (plain-shown s f u k).is) (ap (like_decides i) (like-values n t u g v (own-kind f u k)))
      go false false p q k = absurd (zero-shown u k)
