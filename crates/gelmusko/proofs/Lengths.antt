-- Frames handed in to a comparison of an accepted file: one of another length than 16 gets 5, and the left one's 5 or 6
-- comes before the right one's. From the laws of the comparison.
use Rattle.answers.specs.Asked.{sameness_error}
use Rattle.answers.specs.declared.CompareError.TheVariants as Ce
use Rattle.std.specs.Prelude.{Ok, Err}
use Prim.Native.Nat.{ℕ}
use mathlib.Core.Path.{◌≡◌, refl, ap, ◌∙◌}
use mathlib.Core.Bool.{Bool, cond}
use mathlib.Core.List.{List}
use lib.ListN.{length}
use borrow.Author.Tests.{ne_eqb}
use Rattle.text.specs.declared.AnswerRoom.TheVariants.{NotLent}
use Rattle.text.specs.Lines.{decoded}
use Rattle.frames.specs.declared.Frame.{Frame}
use Rattle.frames.specs.Bytes.{frame_at, zero_frame}
use Rattle.archive.specs.declared.Starts.{Starts}
use Rattle.archive.specs.Starts.{starts_of}
use Rattle.rule.specs.declared.Fault.TheVariants as Fa
use Rattle.rule.specs.Answers.{type_answer_of}
use Rattle.rule.specs.Things.{fault_of}
use Rattle.rule_types.specs.Comparison.{sameness_of, same_in, same_type}
use Rattle.rule_types.proofs.Laws.{left-five, left-six, right-five}
use Rattle.rule_file.specs.File.{over_file, read_file}
use Rattle.rule_file.specs.Types.{same_types}
use Rattle.rule_file.specs.Exported.{handed_frame}

pub zeros-for : (s : List ℕ) → (length s ≡ 16 → ⊥) → handed_frame s ≡ zero_frame
unfolding handed_frame
zeros-for s h = ap (λ (b : Bool). cond b (frame_at s 0) zero_frame) (ne_eqb (length s) 16 h)

-- zeros are of no family
zeros-five : (s : Starts) → fault_of s (type_answer_of zero_frame) ≡ Fa.Field
zeros-five s = refl

wrong-five : (s : Starts) (l : List ℕ) → (length l ≡ 16 → ⊥) → fault_of s (type_answer_of (handed_frame l)) ≡ Fa.Field
wrong-five s l h = ap (λ (f : Frame). fault_of s (type_answer_of f)) (zeros-for l h) ∙ zeros-five s

module _ (limit : ℕ) (t : List ℕ) (f n : ℕ) (e : read_file limit t f NotLent ≡ Ok n) where
  abbrev fr : List ℕ
  fr = decoded t n

  -- what is asked is asked of the file's frames
  asked : (l r : Frame) → same_types limit t f l r ≡ sameness_of (same_in fr (starts_of fr) l r)
  unfolding same_types same_type
  asked l r = ap (over_file sameness_error (λ (x : List ℕ). sameness_of (same_type x l r)) t) e

  -- whatever the right one is
  pub wrong-left : (l : List ℕ) (r : Frame) → (length l ≡ 16 → ⊥)
      → same_types limit t f (handed_frame l) r ≡ Err Ce.Field
  unfolding same_in
  wrong-left l r h =
      asked (handed_frame l) r
      ∙ ap sameness_of (left-five fr (starts_of fr) (type_answer_of (handed_frame l)) (type_answer_of r)
      (wrong-five (starts_of fr) l h))

  -- whatever the right one is, of a wrong length too
  pub stray-left : (l r : List ℕ) → fault_of (starts_of fr) (type_answer_of (handed_frame l)) ≡ Fa.Index
      → same_types limit t f (handed_frame l) (handed_frame r) ≡ Err Ce.Index
  unfolding same_in
  stray-left l r h =
      asked (handed_frame l) (handed_frame r)
      ∙ ap sameness_of (left-six fr (starts_of fr) (type_answer_of (handed_frame l)) (type_answer_of (handed_frame r))
      h)

  -- where the left one gets neither 5 nor 6
  pub wrong-right : (l : Frame) (r : List ℕ) → fault_of (starts_of fr) (type_answer_of l) ≡ Fa.Sound
      → (length r ≡ 16 → ⊥)
      → same_types limit t f l (handed_frame r) ≡ Err Ce.Field
  unfolding same_in
  wrong-right l r s h =
      asked l (handed_frame r)
      ∙ ap sameness_of (right-five fr (starts_of fr) (type_answer_of l) (type_answer_of (handed_frame r)) s
      (wrong-five (starts_of fr) r h))
