-- An arm that names several operators: a function that has one value at each of them has it there.
use Prim.Native.Nat.{ℕ}
use mathlib.Core.Path.{◌≡◌, refl, ap, ◌∙◌}
use mathlib.Core.List.{List, map}
use types.Run.{OneOf}
use denote.Enum.Declared.{tag_of}
use Rattle.ir.specs.Numbers.{binary_operator_of}
use Rattle.ir.specs.declared.BinaryOperator.{BinaryOperator}
use Rattle.ir.specs.declared.BinaryOperator.TheVariants as Bo
use Rattle.ir.specs.contracts.BinaryOperator as BinaryOperator'
use Rattle.ir.proofs.Keys.{of-keys}

binary_operator-tag : (a : BinaryOperator) → binary_operator_of (tag_of BinaryOperator'.the_type a) ≡ a
binary_operator-tag Bo.Add = refl
binary_operator-tag Bo.Subtract = refl
binary_operator-tag Bo.Multiply = refl
binary_operator-tag Bo.Divide = refl
binary_operator-tag Bo.Modulo = refl
binary_operator-tag Bo.Equal = refl
binary_operator-tag Bo.NotEqual = refl
binary_operator-tag Bo.Less = refl
binary_operator-tag Bo.LessEqual = refl
binary_operator-tag Bo.Greater = refl
binary_operator-tag Bo.GreaterEqual = refl
binary_operator-tag Bo.And = refl
binary_operator-tag Bo.ExclusiveOr = refl
binary_operator-tag Bo.InclusiveOr = refl
binary_operator-tag Bo.LogicalAnd = refl
binary_operator-tag Bo.LogicalOr = refl
binary_operator-tag Bo.ShiftLeft = refl
binary_operator-tag Bo.ShiftRight = refl

pub of-binary-operators : {B : Type 0} (f : BinaryOperator → B) {b : B} (ks : List ℕ)
    → map (λ (k : ℕ). f (binary_operator_of k)) ks ≡ map (λ (k : ℕ). b) ks → (a : BinaryOperator)
    → OneOf ks (tag_of BinaryOperator'.the_type a) → b ≡ f a
of-binary-operators f ks e a h =
    of-keys (λ (k : ℕ). f (binary_operator_of k)) ks e (tag_of BinaryOperator'.the_type a) h
    ∙ ap f (binary_operator-tag a)
