-- A value of another width, handed in or chosen by a later reader, fits no layout, so it is malformed: a comparison
-- gives it 5, and looked into it shows nothing, as a type of unknown kind does. From the laws of the comparison.
use Rattle.answers.specs.Asked.{sameness_error}
use Rattle.answers.specs.declared.CompareError.TheVariants as Ce
use Rattle.std.specs.Prelude.{Ok, Err}
use Prim.Native.Nat.{ℕ}
use native.Mathlib.Omega.{arith}
use mathlib.Core.Path.{◌≡◌, refl, sym, ap, ◌∙◌}
use mathlib.Core.Bool.{Bool, true, false, cond, ◌&&◌, and-false}
use mathlib.Core.List.{List}
use mathlib.Core.Option.{none}
use lib.Dec.{eqb}
use Rattle.ir.specs.Numbers.{type_kind_of, is_width}
use Rattle.text.specs.declared.AnswerRoom.TheVariants.{NotLent}
use Rattle.text.specs.Lines.{decoded}
use Rattle.frames.specs.declared.Frame.{Frame}
use Rattle.frames.specs.Bytes.{byte, half}
use Rattle.frames.specs.Fields.{fits_all}
use Rattle.frames.specs.Layout.{type_layout, number_layout}
use Rattle.frames.specs.Forms.{type_of}
use Rattle.archive.specs.Starts.{starts_of}
use Rattle.rule.specs.declared.Fault.TheVariants as Fa
use Rattle.rule.specs.Answers.{TypeAnswer, number, malformed, valued, is_number, is_value, type_answer_of}
use Rattle.rule.specs.Answers.{row_answer_of}
use Rattle.rule.specs.Answers.{given, chosen_refusal, chosen, told, newer}
use Rattle.rule.specs.Things.{form, fault_of, see}
use Rattle.rule_types.specs.Comparison.{sameness_of, same_in, same_type}
use Rattle.rule_types.proofs.Laws.{left-five, right-five}
use Rattle.rule_types.proofs.Seen.{never}
use Rattle.rule_file.specs.File.{over_file, read_file}
use Rattle.rule_file.specs.Types.{same_types}
use Rattle.law_widths.specs.Widths.{OtherWidth}
use Rattle.law_widths.proofs.Values.{fitting-width}

-- a value of another width fits no layout
unfit : (f : Frame) → OtherWidth f → (b : Bool) → fits_all (type_layout (type_kind_of (byte f 1))) f ≡ b → b ≡ false
unfit f o true e = let w : is_width (byte f 5) ≡ true = fitting-width f e o.holds in never (let h = o.width in cc)
unfit f o false e = refl

pub other-malformed : (f : Frame) → OtherWidth f → type_answer_of f ≡ malformed f
other-malformed f o =
    let fit = fits_all (type_layout (type_kind_of (byte f 1))) f in
    let u : fit ≡ false = unfit f o fit refl in
    let p : is_number f ≡ false = ap (λ (b : ℕ). eqb b 8 && (eqb (byte f 1) 0 && fits_all number_layout f)) o.value in
    let q : is_value f ≡ false = ap (λ (b : Bool). eqb (byte f 0) 9 && b) u ∙ and-false (eqb (byte f 0) 9) in
    ap (λ (b : Bool). cond b (number (record { 0 = half f 2 }))
    (cond (is_value f) (valued f (type_of f)) (malformed f)))
    p
    ∙ ap (λ (b : Bool). cond b (valued f (type_of f)) (malformed f)) q

-- what a later reader chose for a row: it is kept as it stands, and shows nothing
pub other-chosen : (f : Frame) → OtherWidth f → row_answer_of f ≡ told (given (malformed f))
other-chosen f o =
    ap (λ (b : ℕ). cond (eqb b 10) (cond (eqb (byte f 1) 22) (newer (chosen f)) (told (chosen_refusal f)))
    (told (given (type_answer_of f)))) o.value
    ∙ ap (λ (a : TypeAnswer). told (given a)) (other-malformed f o)

pub other-newer : (fr : List ℕ) (f : Frame) → OtherWidth f → see fr (form (type_answer_of f)) ≡ none
other-newer fr f o = ap (λ (a : TypeAnswer). see fr (form a)) (other-malformed f o)

-- TWO FRAMES HANDED IN, of an accepted file
module _ (limit : ℕ) (t : List ℕ) (f n : ℕ) (e : read_file limit t f NotLent ≡ Ok n) where
  abbrev fr : List ℕ
  fr = decoded t n

  asked : (l r : Frame) → same_types limit t f l r ≡ sameness_of (same_in fr (starts_of fr) l r)
  unfolding same_types same_type
  asked l r = ap (over_file sameness_error (λ (x : List ℕ). sameness_of (same_type x l r)) t) e

  five : (g : Frame) → OtherWidth g → fault_of (starts_of fr) (type_answer_of g) ≡ Fa.Field
  five g o = ap (fault_of (starts_of fr)) (other-malformed g o)

  -- whatever the right one is
  pub other-left : (l r : Frame) → OtherWidth l → same_types limit t f l r ≡ Err Ce.Field
  unfolding same_in
  other-left l r o = asked l r
      ∙ ap sameness_of (left-five fr (starts_of fr) (type_answer_of l) (type_answer_of r) (five l o))

  -- where the left one gets neither 5 nor 6
  pub other-right : (l r : Frame) → fault_of (starts_of (decoded t n)) (type_answer_of l) ≡ Fa.Sound → OtherWidth r
      → same_types limit t f l r ≡ Err Ce.Field
  unfolding same_in
  other-right l r s o = asked l r
      ∙ ap sameness_of (right-five fr (starts_of fr) (type_answer_of l) (type_answer_of r) s (five r o))
