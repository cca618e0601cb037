-- `==` at types and at answers, as the derive writes it, is the test of the bytes that they are written as: both hold
-- of equal ones alone.
use mathlib.Core.Path.{◌≡◌, refl, sym, ap, ◌∙◌}
use Rattle.std.proofs.Common.{rules}
use Rattle.ir.specs.declared.TypeNumber.{TypeNumber}
use Rattle.ir.specs.declared.TypeInner.{TypeInner}
use Rattle.ir.specs.declared.TypeResolution.{TypeResolution}
use Rattle.ir.specs.declared.TypeResolution.TheVariants as Tr
use Rattle.ir.specs.contracts.TypeInnerPartialEq.TheImpl as inner
use Rattle.ir.specs.contracts.TypeResolutionPartialEq.TheImpl as resolution
use Rattle.ir.specs.contracts.TypeResolutionEq.TheImpl.Laws as laws
use Rattle.ir.proofs.SameTypes.{same_type, type_same}
use Rattle.frames.specs.declared.Frame.{Frame}
use Rattle.frames.specs.Bytes.{half}
use Rattle.frames.specs.Out.{number_frame}
use Rattle.frames.proofs.ReadBack.{half_back}
use Rattle.rule.specs.Answers.{resolved, number}
use Rattle.rule_types.specs.Canonical.{equal_types, identical}
use Rattle.rule_types.proofs.Equality.{both_true, equal-types, identical-frames}

pub types_equal : (t u : TypeInner) → inner.ghosts.eq t u ≡ equal_types t u
types_equal t u = both_true _ _
    (λ e. (equal-types t u).1 (same_type t u e))
    (λ e. ap (λ (v : TypeInner). inner.ghosts.eq t v) (sym ((equal-types t u).0 e)) ∙ type_same t)

of_number : (m n : TypeNumber) → m.0 ≡ n.0 → m ≡ n
of_number m n h = search rules

-- a number is read back from its frame
number_same : (m n : TypeNumber) → number_frame m ≡ number_frame n → m ≡ n
number_same m n e =
    of_number m n (sym (half_back m.0) ∙ ap (λ (f : Frame). half f 2) e ∙ half_back n.0)

numbers_equal : (m n : TypeNumber)
    → resolution.ghosts.eq (Tr.Handle m) (Tr.Handle n) ≡ identical (number m) (number n)
numbers_equal m n = both_true _ _
    (λ e. (identical-frames (number m) (number n)).1 (ap number_frame (search rules)))
    (λ e. let h : m ≡ n = number_same m n ((identical-frames (number m) (number n)).0 e) in
    ap (λ (k : TypeNumber). resolution.ghosts.eq (Tr.Handle m) (Tr.Handle k)) (sym h)
    ∙ laws.laws-law.refl (Tr.Handle m))

pub resolutions_equal : (a b : TypeResolution) → resolution.ghosts.eq a b ≡ identical (resolved a) (resolved b)
unfolding identical equal_types
resolutions_equal (Tr.Handle m) (Tr.Handle n) = numbers_equal m n
resolutions_equal (Tr.Handle m) (Tr.Value u) = refl
resolutions_equal (Tr.Value t) (Tr.Handle n) = refl
resolutions_equal (Tr.Value t) (Tr.Value u) = types_equal t u
