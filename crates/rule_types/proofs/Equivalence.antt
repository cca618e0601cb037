-- Sameness is an equivalence among the answers that a comparison meets with neither 5 nor 6 (document 02, request 13).
-- Each equals itself and either order agrees (Laws.antt); and of two that are the same each compares with any third
-- alike, so it carries through a third. For an answer is told by its frame, and two that are the same without being
-- identical have one canonical form, and neither is a struct's number.
use Rattle.std.specs.Prelude.{Some}
use Prim.Native.Nat.{ℕ}
use native.Mathlib.Omega.{arith}
use mathlib.Core.Path.{◌≡◌, refl, sym, ap, ◌∙◌}
use mathlib.Core.Bool.{Bool, true, false, ◌||◌}
use mathlib.Core.List.{List}
use mathlib.Core.Logic.{◌⊎◌, inl, inr}
use Rattle.frames.specs.declared.Frame.{Frame}
use Rattle.frames.specs.Bytes.{byte, half}
use Rattle.frames.specs.Forms.{type_of}
use Rattle.frames.proofs.ReadBack.{half_back, type-back}
use Rattle.archive.specs.declared.Starts.{Starts}
use Rattle.rule.specs.declared.Fault.{Fault}
use Rattle.rule.specs.declared.Fault.TheVariants as Fa
use Rattle.rule.specs.Answers.{TypeAnswer, number, value, malformed, type_answer_frame, Result, told, Compared, alike}
use Rattle.rule.specs.Things.{fault_of, is_struct}
use Rattle.rule_types.specs.Canonical.{identical}
use Rattle.rule_types.specs.Comparison.{Sound, handed, given}
use Rattle.rule_types.specs.ForProofs.{likeness, Equal}
use Rattle.rule_types.proofs.Equality.{identical-frames}
use Rattle.rule_types.proofs.Laws.{told_of, compared_is, same_self, either_order, alike-when, right-five}
use Rattle.rule_types.proofs.Laws.{right-six}
use Rattle.rule_types.proofs.Seen.{never, neither}

module _ (fr : List ℕ) (s : Starts) where
  -- what our reader gives for two answers handed in
  abbrev compared : TypeAnswer → TypeAnswer → Result Compared
  compared a b = given fr s (handed a b)

  -- an answer that gets neither 5 nor 6 is told by its frame
  by-frame : (a b : TypeAnswer) → Sound s a → Sound s b → type_answer_frame a ≡ type_answer_frame b → a ≡ b
  by-frame (number n) (number m) p q e =
      let h : n.0 ≡ m.0 = sym (half_back n.0) ∙ ap (λ (f : Frame). half f 2) e ∙ half_back m.0 in
      ap (λ (k : ℕ). number (record { 0 = k })) h
  by-frame (number n) (value t) p q e =
      absurd (let z : ◌≡◌ {A = ℕ} 8 9 = ap (λ (f : Frame). byte f 0) e in omega arith)
  by-frame (value t) (number n) p q e =
      absurd (let z : ◌≡◌ {A = ℕ} 9 8 = ap (λ (f : Frame). byte f 0) e in omega arith)
  by-frame (value t) (value u) p q e =
      let h : Some t ≡ Some u = sym (type-back t 9) ∙ ap type_of e ∙ type-back u 9 in cc
  by-frame (malformed f) b p q e = never (cc)
  by-frame (number n) (malformed f) p q e = never (cc)
  by-frame (value t) (malformed f) p q e = never (cc)

  -- with a third that gets neither too, by whether one of the two is identical with it
  module _ (a b c : TypeAnswer) (p : Sound s a) (q : Sound s b) (r : Sound s c) (x : compared a b ≡ told alike)
      (h : Equal fr s a b) where
    likeness-same : identical a c ≡ false → identical b c ≡ false → likeness fr s a c ≡ likeness fr s b c
    likeness-same e g =
        let w = neither (is_struct fr s a) (is_struct fr s b) h.unnamed in rw (e, g, h.left, h.right, w.0, w.1)

    by-identical : (i j : Bool) → identical a c ≡ i → identical b c ≡ j → compared a c ≡ compared b c
    by-identical true j e g =
        let w : a ≡ c = by-frame a c p r ((identical-frames a c).0 e) in
        ap (compared a) (sym w) ∙ same_self fr s a p ∙ sym x ∙ either_order fr s a b p q ∙ ap (compared b) w
    by-identical false true e g =
        let w : b ≡ c = by-frame b c q r ((identical-frames b c).0 g) in
        ap (compared a) (sym w) ∙ x ∙ sym (same_self fr s b q) ∙ ap (compared b) w
    by-identical false false e g =
        compared_is fr s a c p r ∙ ap (told_of fr s) (likeness-same e g) ∙ sym (compared_is fr s b c q r)

  -- of two that are the same each compares with any third alike, whatever that is
  pub replaced : (a b c : TypeAnswer) → Sound s a → Sound s b → compared a b ≡ told alike → compared a c ≡ compared b c
  replaced a b c p q x = by-third (fault_of s c) refl
    where
      sound : Sound s c → (type_answer_frame a ≡ type_answer_frame b) ⊎ Equal fr s a b → compared a c ≡ compared b c
      sound r (inl e) = ap (λ (z : TypeAnswer). compared z c) (by-frame a b p q e)
      sound r (inr h) = by-identical a b c p q r x h (identical a c) (identical b c) refl refl

      by-third : (v : Fault) → fault_of s c ≡ v → compared a c ≡ compared b c
      by-third Fa.Sound r = sound r ((alike-when fr s a b p q).0 x)
      by-third Fa.Field r = right-five fr s a c p r ∙ sym (right-five fr s b c q r)
      by-third Fa.Index r = right-six fr s a c p r ∙ sym (right-six fr s b c q r)

  -- so it carries through a third
  pub carries-through : (a b c : TypeAnswer) → Sound s a → Sound s b → compared a b ≡ told alike
      → compared b c ≡ told alike → compared a c ≡ told alike
  carries-through a b c p q x y = replaced a b c p q x ∙ y
