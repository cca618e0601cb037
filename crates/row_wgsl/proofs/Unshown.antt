-- Where the frame of an operand's answer shows no scalar, vector, matrix or cooperative matrix, a look sees no scalar,
-- vector or matrix, so no line of WGSL's tables has its type. By the cases of the answer's family and of the kind.
use Rattle.std.specs.Prelude.{Option, Some, None, Ok, Err}
use Prim.Native.Nat.{ℕ, ◌≤◌}
use native.Mathlib.Omega.{arith}
use native.Mathlib.Decide.{dec_le}
use mathlib.Core.Path.{◌≡◌, refl, sym, ap, ◌∙◌}
use mathlib.Core.Bool.{Bool, true, false, cond, ◌||◌}
use mathlib.Core.List.{List}
use mathlib.Core.Logic.{inr}
use mathlib.Core.Option.{none}
use lib.Dec.{eqb}
use Rattle.ir.specs.declared.TypeNumber.{TypeNumber}
use Rattle.ir.specs.declared.RowNumber.{RowNumber}
use Rattle.ir.specs.declared.BinaryOperator.{BinaryOperator}
use Rattle.ir.specs.declared.TypeKind.{TypeKind}
use Rattle.ir.specs.declared.TypeKind.TheVariants as Tk
use Rattle.ir.specs.declared.TypeInner.{TypeInner}
use Rattle.ir.specs.Numbers.{type_kind_of, type_kind_number}
use Rattle.ir.proofs.Numbered.{type_kind-number, unknown-type}
use Rattle.answers.specs.declared.Unresolved.{Unresolved}
use Rattle.answers.specs.declared.Unresolved.TheVariants as Un
use Rattle.answers.specs.ForProofs.{answered}
use Rattle.ir.specs.declared.TypeResolution.TheVariants as Tr
use Rattle.frames.specs.declared.Frame.{Frame}
use Rattle.frames.specs.Bytes.{byte, half, zero_frame}
use Rattle.frames.specs.Forms.{type_as, type_of}
use Rattle.frames.specs.ForProofs.{unresolved_of, answer_of, value_of}
use Rattle.archive.specs.declared.Starts.{Starts}
use Rattle.archive.specs.Access.{type_in}
use Rattle.rule.specs.declared.Fault.{Fault}
use Rattle.rule.specs.declared.Fault.TheVariants as Fa
use Rattle.rule.specs.Things.{sound_form, value_fault}
use Rattle.rule_rows.specs.declared.Shape.{Shape}
use Rattle.rule_rows.specs.declared.Shape.TheVariants as Sh
use Rattle.rule_rows.specs.Wgsl.{shape_of, shapes_result}
use Rattle.row_operands.specs.Looked.{Looked}
use Rattle.row_operands.specs.Past.{looked_at, looked_by, looked_in}
use Rattle.row_operands.specs.Plain.{past_frame, type_frame_in, typed_frame, is_plain, plain_of}
use Rattle.row_operands.proofs.ByFrame.{past-frame, type-frame}

never : {X : Type 0} → ◌≡◌ {A = ℕ} 0 1 → X
never z = absurd (omega arith)

-- BY THE KIND

abbrev form_shape : Option TypeInner → Shape
form_shape (Some t) = shape_of t
form_shape None = Sh.Other

-- a kind that is known has its number
number_of : (n : ℕ) (k : TypeKind) → type_kind_of n ≡ k → 1 ≤ type_kind_number k → n ≡ type_kind_number k
number_of n k e l = go (dec_le 15 n)
  where
    go : Dec (15 ≤ n) → n ≡ type_kind_number k
    go (yes h) = absurd (let z : 0 ≡ type_kind_number k = ap type_kind_number (sym ((unknown-type n).1 (inr h)) ∙ e) in
        omega (arith, z, l))
    go (no h) = sym (type_kind-number n (omega (arith, h))) ∙ ap type_kind_number e

abbrev shows : ℕ → Bool
shows k = eqb k 1 || (eqb k 2 || (eqb k 3 || eqb k 4))

module _ (g : Frame) (h : is_plain g ≡ false) where
  by_kind : (k : TypeKind) → type_kind_of (byte g 1) ≡ k → form_shape (type_as k g) ≡ Sh.Other
  by_kind Tk.Unknown e = refl
  by_kind Tk.Scalar e = let q : shows (byte g 1) ≡ true = ap shows (number_of (byte g 1) Tk.Scalar e (omega arith)) in
      never (cc)
  by_kind Tk.Vector e = let q : shows (byte g 1) ≡ true = ap shows (number_of (byte g 1) Tk.Vector e (omega arith)) in
      never (cc)
  by_kind Tk.Matrix e = let q : shows (byte g 1) ≡ true = ap shows (number_of (byte g 1) Tk.Matrix e (omega arith)) in
      never (cc)
  by_kind Tk.CooperativeMatrix e = refl
  by_kind Tk.Atomic e = refl
  by_kind Tk.Pointer e = refl
  by_kind Tk.ValuePointer e = refl
  by_kind Tk.Array e = refl
  by_kind Tk.Struct e = refl
  by_kind Tk.Image e = refl
  by_kind Tk.Sampler e = refl
  by_kind Tk.AccelerationStructure e = refl
  by_kind Tk.RayQuery e = refl
  by_kind Tk.BindingArray e = refl

-- a frame that shows nothing, and the type that it is of
other-shape : (g : Frame) (t : TypeInner) → plain_of g ≡ None → type_of g ≡ Some t → shape_of t ≡ Sh.Other
unfolding plain_of type_of
other-shape g t u e = go (is_plain g) refl u
  where
    go : (b : Bool) → is_plain g ≡ b → cond b (type_of g) None ≡ None → shape_of t ≡ Sh.Other
    go true p q = never (cc)
    go false p q = ap form_shape (sym e) ∙ by_kind g p (type_kind_of (byte g 1)) refl

-- BY THE FAMILY

abbrev seen_or : TypeInner → Looked → TypeInner
seen_or x (Ok i) = i
seen_or x (Err u) = x

known : (here : RowNumber) (x : Option TypeInner) {t : TypeInner} → looked_at here x ≡ Ok t → x ≡ Some t
known here (Some i) {t} p = ap Some (ap (seen_or t) p)
known here None p = never (cc)

sound-known : (x : Fault) {u t : TypeInner} → sound_form u x ≡ Some t → Some u ≡ Some t
sound-known Fa.Sound p = p
sound-known Fa.Field p = never (cc)
sound-known Fa.Index p = never (cc)

module _ (fr : List ℕ) (s : Starts) (here : RowNumber) where
  of-value : (f : Frame) (t : TypeInner) → plain_of f ≡ None → (x : Option TypeInner) → type_of f ≡ x
      → looked_by fr s here (value_of x) ≡ Ok t → shape_of t ≡ Sh.Other
  of-value f t u (Some i) e q = other-shape f t u
      (e ∙ sound-known (value_fault s i) (known here (sound_form i (value_fault s i)) q))
  of-value f t u None e q = never (cc)

  of_end : (u : Unresolved) (t : TypeInner) → looked_by fr s here (answered u) ≡ Ok t → shape_of t ≡ Sh.Other
  of_end (Un.Refused e) t q = never (cc)
  of_end (Un.Newer r) t q = never (cc)

  of-frame : (f : Frame) (t : TypeInner) → plain_of (typed_frame fr s f) ≡ None
      → looked_by fr s here (answer_of f)
      ≡ Ok t
      → shape_of t ≡ Sh.Other
  unfolding answer_of
  of-frame f t u e = go (eqb (byte f 0) 8) (eqb (byte f 0) 9) u e
    where
      n : TypeNumber
      n = record { 0 = half f 2 }

      go : (a b : Bool) → plain_of (cond a (type_frame_in fr s n) (cond b f zero_frame)) ≡ None
          → looked_by fr s here (cond a (Ok (Tr.Handle n))
          (cond b (value_of (type_of f)) (answered (unresolved_of f)))) ≡ Ok t
          → shape_of t ≡ Sh.Other
      go true b h q = other-shape (type_frame_in fr s n) t h (sym (type-frame fr s n) ∙ known here (type_in fr s n) q)
      go false true h q = of-value f t h (type_of f) refl q
      go false false h q = of_end (unresolved_of f) t q

  unseen : (an pl : List ℕ) (n : RowNumber) (t : TypeInner)
      → plain_of (typed_frame fr s (past_frame an pl n)) ≡ None
      → looked_in fr s an pl here n ≡ Ok t → shape_of t ≡ Sh.Other
  unfolding looked_in
  unseen an pl n t u e = of-frame (past_frame an pl n) t u (sym (ap (looked_by fr s here) (past-frame an pl n)) ∙ e)

  -- the same where the code has these frames and this form
  pub unshown : (an pl : List ℕ) (n : RowNumber) {f g : Frame} {p : Option TypeInner} (t : TypeInner)
      → f ≡ past_frame an pl n
      → g ≡ typed_frame fr s f
      → p ≡ plain_of g → p ≡ None → looked_in fr s an pl here n ≡ Ok t → shape_of t ≡ Sh.Other
  unshown an pl n {f} {g} {p} t a b c e =
      unseen an pl n t (ap (λ x. plain_of (typed_frame fr s x)) (sym a) ∙ ap plain_of (sym b) ∙ sym c ∙ e)

-- NO LINE has a type of another shape

pub left_other : (op : BinaryOperator) (x y : Shape) → x ≡ Sh.Other → shapes_result op x y ≡ none
left_other op x y e = rw e

pub right-other : (op : BinaryOperator) (x y : Shape) → y ≡ Sh.Other → shapes_result op x y ≡ none
right-other op (Sh.Plain n k) y e = rw e
right-other op (Sh.Matrix c r k) y e = rw e
right-other op Sh.Other y e = refl
