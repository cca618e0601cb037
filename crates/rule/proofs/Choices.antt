-- Every frame of family 8, 9, 10 or 11 is a choice of a later reader: the answer that it stands for is written as that
-- frame again. What a rule looks into is read from it and written back; the rest stays as it stands.
use Rattle.std.specs.Prelude.{Option, Some, None}
use Rattle.ir.specs.declared.TypeInner.{TypeInner}
use Prim.Native.Nat.{ℕ}
use native.Mathlib.Omega.{arith}
use mathlib.Core.Path.{◌≡◌, refl, sym, ap, ◌∙◌}
use mathlib.Core.Bool.{Bool, true, false, ◌&&◌}
use mathlib.Core.List.{[], ◌∷◌}
use lib.Dec.{eqb}
use borrow.Author.Tests.{eqb-true, eq-eqb, ne_eqb}
use Rattle.ir.specs.declared.RowNumber.{RowNumber}
use Rattle.ir.specs.declared.TypeKind.{TypeKind}
use Rattle.ir.specs.declared.TypeKind.TheVariants as Tk
use Rattle.ir.specs.Numbers.{type_kind_of}
use Rattle.scan.proofs.Laws.{by-test, and_first, and_second}
use Rattle.frames.specs.declared.Frame.{Frame}
use Rattle.frames.specs.Bytes.{byte, half}
use Rattle.frames.specs.Fields.{number, laid, fits_all}
use Rattle.frames.specs.Layout.{type_layout, number_layout}
use Rattle.frames.specs.Forms.{type_as, type_of}
use Rattle.frames.proofs.FieldBack.{Below, laid-back}
use Rattle.frames.proofs.Same.{form_frame, type-again}
use Rattle.rule.specs.Answers as A
use Rattle.rule.specs.Answers.{TypeAnswer, Typed, Result, told, newer, type_answer_frame, type_answer_of, row_frame}
use Rattle.rule.specs.Answers.{row_answer_of, verdict_frame, chosen_judgement}

module _ (f : Frame) (below : Below f) where
  -- a type number
  number-again : (eqb (byte f 0) 8 && (eqb (byte f 1) 0 && fits_all number_layout f)) ≡ true
      → type_answer_frame (A.number (record { 0 = half f 2 })) ≡ f
  number-again h =
      let e : byte f 0 ≡ 8 = eqb-true _ _ (and_first _ (eqb (byte f 1) 0 && fits_all number_layout f) h) in
      let r = and_second (eqb (byte f 0) 8) _ h in
      let d : byte f 1 ≡ 0 = eqb-true _ _ (and_first _ (fits_all number_layout f) r) in
      ap (λ (b : ℕ). laid b 0 number_layout (half f 2, tt)) (sym e)
      ∙ ap (λ (b : ℕ). laid (byte f 0) b number_layout (half f 2, tt)) (sym d)
      ∙ laid-back (number 2 ∷ []) f below (and_second (eqb (byte f 1) 0) _ r)

  -- a value
  value-again : (eqb (byte f 0) 9 && fits_all (type_layout (type_kind_of (byte f 1))) f) ≡ true → (t : Option TypeInner)
      → type_of f
      ≡ t
      → type_answer_frame (A.valued f t) ≡ f
  unfolding type_of
  value-again h (Some t) q =
      let e : byte f 0 ≡ 9 = eqb-true _ _ (and_first _ (fits_all (type_layout (type_kind_of (byte f 1))) f) h) in
      let known : type_kind_of (byte f 1) ≡ Tk.Unknown → ⊥ =
      λ u. (let z : ◌≡◌ {A = ℕ} 0 1 = cc (ap (λ (k : TypeKind). type_as k f) u) in omega arith) in
      ap (form_frame 9) (sym q) ∙ ap (λ (b : ℕ). form_frame b (type_of f)) (sym e)
      ∙ type-again f below known (and_second (eqb (byte f 0) 9) _ h)
  value-again h None q = refl

  -- any frame, as a type answer
  pub type-choice : type_answer_frame (type_answer_of f) ≡ f
  type-choice =
      by-test (λ (a : TypeAnswer). type_answer_frame a ≡ f)
      (eqb (byte f 0) 8 && (eqb (byte f 1) 0 && fits_all number_layout f)) number-again
      (λ _.
      by-test (λ (a : TypeAnswer). type_answer_frame a ≡ f)
      (eqb (byte f 0) 9 && fits_all (type_layout (type_kind_of (byte f 1))) f)
      (λ h. value-again h (type_of f) refl) (λ _. refl))

  -- any frame, as a row's answer
  pub row-choice : row_frame (row_answer_of f) ≡ f
  row-choice =
      by-test (λ (a : Result Typed). row_frame a ≡ f) (eqb (byte f 0) 10)
      (λ _. by-test (λ (a : Result Typed). row_frame a ≡ f) (eqb (byte f 1) 22) (λ _. refl) (λ _. refl))
      (λ _. type-choice)

  -- any frame, as a verdict
  pub verdict-choice : (r : RowNumber) → verdict_frame r (chosen_judgement f) ≡ f
  verdict-choice r = refl

-- a chosen refusal with number 22 is newer whatever its other bytes, and stays as it stands; every other refusal is
-- one, whatever its bytes
pub chosen-newer : (f : Frame) → byte f 0 ≡ 10 → byte f 1 ≡ 22 → row_answer_of f ≡ newer (A.chosen f)
chosen-newer f e d = rw (eq-eqb (byte f 0) 10 e, eq-eqb (byte f 1) 22 d)

pub chosen-refused : (f : Frame) → byte f 0 ≡ 10 → (byte f 1 ≡ 22 → ⊥) → row_answer_of f ≡ told (A.chosen_refusal f)
chosen-refused f e d = rw (eq-eqb (byte f 0) 10 e, ne_eqb (byte f 1) 22 d)
