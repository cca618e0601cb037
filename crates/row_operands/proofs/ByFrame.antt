-- What the frame of an operand's answer shows of its type, before any look, is what a look sees. By the cases of the
-- answer's family and of the kind. And a look goes by three of the places where families begin.
use Rattle.answers.specs.declared.Unresolved.TheVariants as Un
use Rattle.std.specs.Prelude.{Option, Some, None, Ok, Err}
use Prim.Native.Nat.{ℕ}
use mathlib.Core.Path.{◌≡◌, refl, sym, ap, ◌∙◌}
use mathlib.Core.Bool.{Bool, true, false, cond, ◌||◌}
use mathlib.Core.List.{List}
use lib.Dec.{ltb, eqb}
use lib.ListN.{length, get_or}
use borrow.Author.Tests.{eqb-true}
use Rattle.ir.specs.declared.TypeNumber.{TypeNumber}
use Rattle.ir.specs.declared.RowNumber.{RowNumber}
use Rattle.ir.specs.declared.ArraySize.TheVariants as As
use Rattle.ir.specs.declared.TypeInner.{TypeInner}
use Rattle.ir.specs.declared.TypeInner.TheVariants as Ti
use Rattle.ir.specs.declared.TypeResolution.TheVariants as Tr
use Rattle.ir.specs.Numbers.{type_kind_of, vector_size_of, cooperative_size_of, cooperative_role_of}
use Rattle.answers.specs.Answer.{Answer}
use Rattle.answers.specs.declared.Refusal.TheVariants.{MissingSpecialType}
use Rattle.frames.specs.declared.Frame.{Frame}
use Rattle.frames.specs.Bytes.{byte, half, zero_frame, frame_at}
use Rattle.frames.specs.Fields.{read, scalar}
use Rattle.frames.specs.Forms.{type_as, type_of}
use Rattle.frames.specs.ForProofs.{unresolved_of, answer_of}
use Rattle.archive.specs.declared.Starts.{Starts}
use Rattle.archive.specs.Names.{is_type}
use Rattle.archive.specs.Access.{type_in}
use Rattle.rule.specs.declared.Fault.TheVariants as Fa
use Rattle.rule.specs.Things.{sound_form, value_fault}
use Rattle.rule_types.proofs.Seen.{never}
use Rattle.rule_rows.specs.OverBuffer.{answer_in}
use Rattle.row_operands.specs.Past.{looked_at, looked_by, looked_in, look_starts}
use Rattle.row_operands.specs.Plain.{past_frame, type_frame_in, typed_frame, is_plain, plain_of}

-- a row's answer is that of its frame
pub past-frame : (an pl : List ℕ) (n : RowNumber) → answer_in an pl n ≡ answer_of (past_frame an pl n)
unfolding answer_in answer_of unresolved_of
past-frame an pl n = go (ltb n.0 (length pl))
  where
    go : (b : Bool)
        → cond b (answer_of (frame_at an (get_or pl n.0 0))) (Err (Un.Refused MissingSpecialType))
        ≡ answer_of (cond b (frame_at an (get_or pl n.0 0)) zero_frame)
    go true = refl
    go false = refl

-- a type is that of its frame
pub type-frame : (fr : List ℕ) (s : Starts) (n : TypeNumber) → type_in fr s n ≡ type_of (type_frame_in fr s n)
unfolding type_in type_of
type-frame fr s n = go (is_type s n)
  where
    go : (b : Bool) → cond b (type_of (frame_at fr n.0)) None ≡ type_of (cond b (frame_at fr n.0) zero_frame)
    go true = refl
    go false = refl

-- SCALARS, VECTORS AND MATRICES

pub scalar-form : (f : Frame) → byte f 1 ≡ 1 → type_of f ≡ Some (Ti.Scalar (read scalar f))
unfolding type_of
scalar-form f e = ap (λ (k : ℕ). type_as (type_kind_of k) f) e

pub vector-form : (f : Frame) → byte f 1 ≡ 2
    → type_of f ≡ Some (Ti.Vector (vector_size_of (byte f 2)) (read scalar f))
unfolding type_of
vector-form f e = ap (λ (k : ℕ). type_as (type_kind_of k) f) e

pub matrix-form : (f : Frame) → byte f 1 ≡ 3
    → type_of f ≡ Some (Ti.Matrix (vector_size_of (byte f 2)) (vector_size_of (byte f 3)) (read scalar f))
unfolding type_of
matrix-form f e = ap (λ (k : ℕ). type_as (type_kind_of k) f) e

pub cooperative-form : (f : Frame) → byte f 1 ≡ 4
    → type_of f
    ≡ Some (Ti.CooperativeMatrix (cooperative_size_of (byte f 2)) (cooperative_size_of (byte f 3)) (read scalar f)
    (cooperative_role_of (byte f 6)))
unfolding type_of
cooperative-form f e = ap (λ (k : ℕ). type_as (type_kind_of k) f) e

-- a form that holds no number: it is sound as a value
pub record Plain (s : Starts) (f : Frame) : Type 0 where
  pub inner : TypeInner
  pub is : type_of f ≡ Some inner
  pub sound : value_fault s inner ≡ Fa.Sound

plain-kind : (s : Starts) (f : Frame) → is_plain f ≡ true → Plain s f
plain-kind s f h = go (eqb (byte f 1) 1) (eqb (byte f 1) 2) (eqb (byte f 1) 3) (eqb (byte f 1) 4) refl refl refl refl h
  where
    go : (x y z w : Bool) → eqb (byte f 1) 1 ≡ x → eqb (byte f 1) 2 ≡ y → eqb (byte f 1) 3 ≡ z → eqb (byte f 1) 4 ≡ w
        → (x || (y || (z || w))) ≡ true → Plain s f
    go true y z w p q r t o = record { inner = _; is = scalar-form f (eqb-true _ _ p); sound = refl }
    go false true z w p q r t o = record { inner = _; is = vector-form f (eqb-true _ _ q); sound = refl }
    go false false true w p q r t o = record { inner = _; is = matrix-form f (eqb-true _ _ r); sound = refl }
    go false false false true p q r t o = record { inner = _; is = cooperative-form f (eqb-true _ _ t); sound = refl }
    go false false false false p q r t o = never (cc)

-- what a frame shows is the type that it is of, and sound as a value
pub record Shown (s : Starts) (f : Frame) (t : TypeInner) : Type 0 where
  pub is : type_of f ≡ Some t
  pub sound : value_fault s t ≡ Fa.Sound

abbrev inner_or : TypeInner → Option TypeInner → TypeInner
inner_or x (Some t) = t
inner_or x None = x

pub plain-shown : (s : Starts) (f : Frame) (t : TypeInner) → plain_of f ≡ Some t → Shown s f t
unfolding plain_of
plain-shown s f t e = go (is_plain f) refl e
  where
    go : (b : Bool) → is_plain f ≡ b → cond b (type_of f) None ≡ Some t → Shown s f t
    go true p q =
        let w = plain-kind s f p in
        let same : w.inner ≡ t = ap (inner_or t) (sym w.is ∙ q) in
        record { is = q; sound = ap (value_fault s) (sym same) ∙ w.sound }
    go false p q = never (cc)

zero-plain : (t : TypeInner) {X : Type 0} → plain_of zero_frame ≡ Some t → X
unfolding plain_of
zero-plain t e = never (cc)

module _ (fr : List ℕ) (s : Starts) (here : RowNumber) where
  shown_by : (f : Frame) (t : TypeInner) → plain_of (typed_frame fr s f) ≡ Some t
      → looked_by fr s here (answer_of f)
      ≡ Ok t
  unfolding answer_of
  shown_by f t e = go (eqb (byte f 0) 8) (eqb (byte f 0) 9) refl refl e
    where
      go : (a b : Bool) → eqb (byte f 0) 8 ≡ a → eqb (byte f 0) 9 ≡ b
          → plain_of (cond a (type_frame_in fr s (record { 0 = half f 2 })) (cond b f zero_frame)) ≡ Some t
          → looked_by fr s here (answer_of f) ≡ Ok t
      go true b p q h =
          let n : TypeNumber = record { 0 = half f 2 } in
          rw p (ap (looked_at here) (type-frame fr s n ∙ (plain-shown s (type_frame_in fr s n) t h).is))
      go false true p q h =
          let w = plain-shown s f t h in
          rw (p, q, w.is) (ap (λ x. looked_at here (sound_form t x)) w.sound)
      go false false p q h = zero-plain t h

  -- where the frame of row n's answer shows a form, a look sees it
  pub plain-seen : (an pl : List ℕ) (n : RowNumber) (t : TypeInner) → plain_of (typed_frame fr s (past_frame an pl n))
      ≡ Some t
      → looked_in fr s an pl here n ≡ Ok t
  unfolding looked_in
  plain-seen an pl n t e = ap (looked_by fr s here) (past-frame an pl n) ∙ shown_by (past_frame an pl n) t e

  -- and so it does where the code has these frames and this form
  pub shown-seen : (an pl : List ℕ) (n : RowNumber) {f g : Frame} {p : Option TypeInner} {t : TypeInner}
      → f ≡ past_frame an pl n
      → g ≡ typed_frame fr s f
      → p ≡ plain_of g → p ≡ Some t → looked_in fr s an pl here n ≡ Ok t
  shown-seen an pl n {f} {g} {p} {t} a b c e =
      plain-seen an pl n t (ap (λ x. plain_of (typed_frame fr s x)) (sym a) ∙ ap plain_of (sym b) ∙ sym c ∙ e)

-- A LOOK GOES BY THREE PLACES

module _ (fr : List ℕ) (s : Starts) where
  abbrev few : Starts
  few = look_starts s.members s.overrides s.globals

  few-fault : (t : TypeInner) → value_fault few t ≡ value_fault s t
  few-fault (Ti.Scalar k) = refl
  few-fault (Ti.Vector z k) = refl
  few-fault (Ti.Matrix c r k) = refl
  few-fault (Ti.CooperativeMatrix c r k o) = refl
  few-fault (Ti.Atomic k) = refl
  few-fault (Ti.Pointer b p) = refl
  few-fault (Ti.ValuePointer z k p) = refl
  few-fault (Ti.Array b (As.Constant n) t) = refl
  few-fault (Ti.Array b (As.Pending o) t) = refl
  few-fault (Ti.Array b As.Dynamic t) = refl
  few-fault (Ti.Struct m n t) = refl
  few-fault (Ti.Image d a c) = refl
  few-fault (Ti.Sampler q) = refl
  few-fault (Ti.AccelerationStructure q) = refl
  few-fault (Ti.RayQuery q) = refl
  few-fault (Ti.BindingArray b (As.Constant n)) = refl
  few-fault (Ti.BindingArray b (As.Pending o)) = refl
  few-fault (Ti.BindingArray b As.Dynamic) = refl

  few-by : (here : RowNumber) (x : Answer) → looked_by fr few here x ≡ looked_by fr s here x
  unfolding type_in
  few-by here (Ok (Tr.Handle n)) = refl
  few-by here (Ok (Tr.Value t)) = ap (λ e. looked_at here (sound_form t e)) (few-fault t)
  few-by here (Err (Un.Refused e)) = refl
  few-by here (Err (Un.Newer r)) = refl

  pub few-look : (an pl : List ℕ) (here n : RowNumber) → looked_in fr few an pl here n ≡ looked_in fr s an pl here n
  unfolding looked_in
  few-look an pl here n = few-by here (answer_in an pl n)
