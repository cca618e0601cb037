-- What the code of a comparison goes by: a frame that is no type is a 5, the right answer is tested before any look,
-- and yes, no and newer are the likeness of the two.
use Rattle.std.specs.Prelude.{Some, None}
use Prim.Native.Nat.{ℕ}
use mathlib.Core.Path.{◌≡◌, refl, sym, ap, ◌∙◌}
use mathlib.Core.Bool.{Bool, true, false}
use mathlib.Core.List.{List, []}
use mathlib.Core.Option.{Option, none, some}
use Rattle.ir.specs.declared.TypeResolution.{TypeResolution}
use Rattle.ir.specs.declared.TypeResolution.TheVariants as Tr
use Rattle.frames.specs.Bytes.{bytes_of}
use Rattle.frames.specs.Out.{resolution_frame}
use Rattle.archive.specs.declared.Starts.{Starts}
use Rattle.rule.specs.declared.Fault.TheVariants as Fa
use Rattle.rule.specs.Answers.{TypeAnswer, number, value, malformed, resolved, nowhere, Result, told, newer, field}
use Rattle.rule.specs.Answers.{index}
use Rattle.rule.specs.Things.{fault_of}
use Rattle.rule.specs.Rule.{done, run}
use Rattle.rule.specs.InOrder.{among}
use Rattle.rule.specs.ForProofs.{resolution}
use Rattle.rule_types.specs.Canonical.{alike_bytes, identical}
use Rattle.rule_types.specs.Comparison.{compare, answered, right_tested, handed, given, sameness_of}
use Rattle.rule_types.specs.ForProofs.{optional, found, said_of, likeness}
use Rattle.rule_types.proofs.Laws.{on_bool, told_of, answer-told, compare-run}
use Rattle.rule_types.proofs.Seen.{never}

-- answers are compared as they are written
pub identical-written : (a b : TypeResolution)
    → alike_bytes (bytes_of (resolution_frame a)) (bytes_of (resolution_frame b)) ≡ identical (resolved a) (resolved b)
unfolding identical
identical-written (Tr.Handle m) (Tr.Handle n) = refl
identical-written (Tr.Handle m) (Tr.Value u) = refl
identical-written (Tr.Value t) (Tr.Handle n) = refl
identical-written (Tr.Value t) (Tr.Value u) = refl

pub resolved-as : (x : TypeAnswer) (t : TypeResolution) → resolution x ≡ Some t → x ≡ resolved t
resolved-as (number n) t e = let h : Tr.Handle n ≡ t = cc in ap resolved h
resolved-as (value u) t e = let h : Tr.Value u ≡ t = cc in ap resolved h
resolved-as (malformed f) t e = never (cc)

pub malformed-five : (s : Starts) (x : TypeAnswer) → resolution x ≡ None → fault_of s x ≡ Fa.Field
malformed-five s (number n) e = never (cc)
malformed-five s (value t) e = never (cc)
malformed-five s (malformed f) e = refl

module _ (fr : List ℕ) (s : Starts) where
  pub left-sound : (a b : TypeAnswer) → fault_of s a ≡ Fa.Sound
      → given fr s (handed a b) ≡ given fr s (right_tested a b)
  left-sound a b p = rw (p, given, run)

  pub right-field : (a b : TypeAnswer) → fault_of s b ≡ Fa.Field → given fr s (right_tested a b) ≡ told field
  right-field a b p = rw (p, given, run)

  pub right-index : (a b : TypeAnswer) → fault_of s b ≡ Fa.Index → given fr s (right_tested a b) ≡ told index
  right-index a b p = rw (p, given, run)

  pub right-sound : (a b : TypeAnswer) → fault_of s b ≡ Fa.Sound → given fr s (right_tested a b)
      ≡ told_of fr s (likeness fr s a b)
  right-sound a b p = rw (p, given, run)
      (compare-run fr s (among []) newer nowhere a b answered ∙ answer-told fr s (likeness fr s a b))

  found-is : (o : Option Bool) → optional (on_bool o (λ x. given fr s (done x)) (newer nowhere)) ≡ found o
  found-is (some b) = refl
  found-is none = refl

  pub optional-is : (a b : TypeAnswer) → optional (given fr s (compare nowhere a b done)) ≡ found (likeness fr s a b)
  optional-is a b = ap optional (compare-run fr s (among []) newer nowhere a b done) ∙ found-is (likeness fr s a b)

  pub said-is : (o : Option Bool) → said_of (found o) ≡ sameness_of (told_of fr s o)
  said-is (some true) = refl
  said-is (some false) = refl
  said-is none = refl
