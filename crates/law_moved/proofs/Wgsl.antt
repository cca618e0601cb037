-- IN THE SECOND PASS: what a line of WGSL's tables gives is a scalar, a vector or a matrix, and names nothing, so
-- moving numbers leaves it as it is.
use Rattle.std.specs.Prelude.{Option as CodeOption, Some, None}
use Rattle.ir.specs.declared.VectorSize.{VectorSize}
use mathlib.Core.Path.{◌≡◌, refl, sym, ap, ◌∙◌}
use mathlib.Core.Option.{Option, none, some}
use Rattle.ir.specs.declared.Scalar.{Scalar}
use Rattle.ir.specs.declared.BinaryOperator.{BinaryOperator}
use Rattle.ir.specs.declared.TypeInner.{TypeInner}
use Rattle.ir.specs.Scalars.{BOOL}
use Rattle.rule.specs.Answers.{TypeAnswer, value, given}
use Rattle.rule_rows.specs.Operators.{or_mismatch, wgsl_of}
use Rattle.rule_rows.specs.declared.Shape.{Shape}
use Rattle.rule_rows.specs.WgslTables.{plain, Wgsl}
use Rattle.rule_rows.specs.Wgsl.{shape_of, shapes_result, wgsl_result}
use Rattle.rule_rows.proofs.Wgsl.{wgsl-is}
use Rattle.law_moved.specs.Moves.{Moves, inner_to, answer_to}
use Rattle.law_moved.proofs.Selected.{to-scalar, to_vector, to-matrix}
use Rattle.law_moved.proofs.Parts.{Same}

module _ (m : Moves) where
  plain-unmoved : (n : CodeOption VectorSize) (k : Scalar) → inner_to m (plain n k) ≡ plain n k
  plain-unmoved None k = refl
  plain-unmoved (Some z) k = refl

  line-unmoved : {op : BinaryOperator} {x y t : TypeInner} → Wgsl op x y t → inner_to m t ≡ t
  line-unmoved Wgsl.logical-or = refl
  line-unmoved Wgsl.logical-and = refl
  line-unmoved (Wgsl.or-bools n) = plain-unmoved n BOOL
  line-unmoved (Wgsl.and-bools n) = plain-unmoved n BOOL
  line-unmoved (Wgsl.add n k h) = plain-unmoved n k
  line-unmoved (Wgsl.subtract n k h) = plain-unmoved n k
  line-unmoved (Wgsl.multiply n k h) = plain-unmoved n k
  line-unmoved (Wgsl.divide n k h) = plain-unmoved n k
  line-unmoved (Wgsl.modulo n k h) = plain-unmoved n k
  line-unmoved (Wgsl.add-vector-scalar n k h) = refl
  line-unmoved (Wgsl.add-scalar-vector n k h) = refl
  line-unmoved (Wgsl.subtract-vector-scalar n k h) = refl
  line-unmoved (Wgsl.subtract-scalar-vector n k h) = refl
  line-unmoved (Wgsl.multiply-vector-scalar n k h) = refl
  line-unmoved (Wgsl.multiply-scalar-vector n k h) = refl
  line-unmoved (Wgsl.divide-vector-scalar n k h) = refl
  line-unmoved (Wgsl.divide-scalar-vector n k h) = refl
  line-unmoved (Wgsl.modulo-vector-scalar n k h) = refl
  line-unmoved (Wgsl.modulo-scalar-vector n k h) = refl
  line-unmoved (Wgsl.add-matrices c r k h) = refl
  line-unmoved (Wgsl.subtract-matrices c r k h) = refl
  line-unmoved (Wgsl.matrix-scalar c r k h) = refl
  line-unmoved (Wgsl.scalar-matrix c r k h) = refl
  line-unmoved (Wgsl.matrix-vector c r k h) = refl
  line-unmoved (Wgsl.vector-matrix c r k h) = refl
  line-unmoved (Wgsl.matrix-matrix c q r k h) = refl
  line-unmoved (Wgsl.equal n k h) = plain-unmoved n BOOL
  line-unmoved (Wgsl.not_equal n k h) = plain-unmoved n BOOL
  line-unmoved (Wgsl.less n k h) = plain-unmoved n BOOL
  line-unmoved (Wgsl.less_equal n k h) = plain-unmoved n BOOL
  line-unmoved (Wgsl.greater n k h) = plain-unmoved n BOOL
  line-unmoved (Wgsl.greater-equal n k h) = plain-unmoved n BOOL
  line-unmoved (Wgsl.or-bits n k h) = plain-unmoved n k
  line-unmoved (Wgsl.and-bits n k h) = plain-unmoved n k
  line-unmoved (Wgsl.xor-bits n k h) = plain-unmoved n k
  line-unmoved (Wgsl.shift-left n k h) = plain-unmoved n k
  line-unmoved (Wgsl.shift-right n k h) = plain-unmoved n k

  result-unmoved : (op : BinaryOperator) (x y : TypeInner)
      → Same m (or_mismatch (wgsl_result op x y)) (or_mismatch (wgsl_result op x y))
  result-unmoved op x y = go (wgsl_result op x y) refl
    where
      go : (o : Option TypeInner) → wgsl_result op x y ≡ o → Same m (or_mismatch o) (or_mismatch o)
      go none q = refl
      go (some t) q = ap (λ (u : TypeInner). given (value u)) (sym (line-unmoved ((wgsl-is op x y t).0 q)))

  shape-moved : (t : TypeInner) → shape_of (inner_to m t) ≡ shape_of t
  shape-moved t = to-scalar m (λ x y. y ≡ x) t (λ k. refl)
      (to_vector m (λ x y. y ≡ x) t (λ z k. refl) (to-matrix m (λ x y. y ≡ x) t (λ c r k. refl) refl))

  pub wgsl-same : (op : BinaryOperator) (a b : TypeAnswer) (x y : TypeInner)
      → Same m (wgsl_of op a b x y) (wgsl_of op (answer_to m a) (answer_to m b) (inner_to m x) (inner_to m y))
  wgsl-same op a b x y =
      ap (λ (s : Shape). or_mismatch (shapes_result op s (shape_of (inner_to m y)))) (shape-moved x)
      ∙ ap (λ (s : Shape). or_mismatch (shapes_result op (shape_of x) s)) (shape-moved y)
      ∙ result-unmoved op x y
