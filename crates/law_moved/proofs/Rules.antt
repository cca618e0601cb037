-- Every rule of rows takes the same steps with its numbers moved: rule by rule, by the parts of each.
use Prim.Native.Nat.{ℕ}
use mathlib.Core.Path.{refl, ap, ◌∙◌}
use mathlib.Core.Bool.{Bool, true, false}
use Rattle.ir.specs.declared.TypeNumber.{TypeNumber}
use Rattle.ir.specs.declared.RowNumber.{RowNumber}
use Rattle.ir.specs.declared.AddressSpace.{AddressSpace}
use Rattle.ir.specs.declared.ImageQuery.{ImageQuery}
use Rattle.ir.specs.declared.ImageQuery.TheVariants as Iq
use Rattle.ir.specs.declared.BinaryOperator.{BinaryOperator}
use Rattle.ir.specs.declared.BinaryOperator.TheVariants as Bo
use Rattle.ir.specs.declared.RelationalFunction.{RelationalFunction}
use Rattle.ir.specs.declared.RelationalFunction.TheVariants as Rf
use Rattle.ir.specs.declared.TypeInner.{TypeInner}
use Rattle.ir.specs.TypeMethods.{scalar_in, pointer_base}
use Rattle.rule.specs.Answers.{TypeAnswer, number, Typed, given, refused, chosen_refusal}
use Rattle.rule.specs.Things.{Shown, Form}
use Rattle.rule.specs.Things as Row
use Rattle.rule.specs.Rule.{Rule}
use Rattle.rule_rows.specs.declared.Pass.{Pass}
use Rattle.rule_rows.specs.declared.Pass.TheVariants as Pa
use Rattle.rule_rows.specs.Steps.{pass_on, operand, look, same_as, by_type, by_both, by_base}
use Rattle.rule_rows.specs.Images.{sampled, image_sample, image_query}
use Rattle.rule_rows.specs.Operators.{binary, binary_by, relational}
use Rattle.rule_rows.specs.Results.{cooperative_of, base_scalar}
use Rattle.rule_rows.specs.Typed.{resolve, typing}
use Rattle.law_moved.specs.Moves.{Moves, type_to, row_to, inner_to, answer_to, typed_to, queried_to, related_to}
use Rattle.law_moved.specs.Moves.{shown_to}
use Rattle.law_moved.specs.Moves.{form_to}
use Rattle.law_moved.proofs.Alike.{PlainType, Plain, Alike, ends, comes, reads}
use Rattle.law_moved.proofs.Selected.{to-scalar, to_vector, to-atomic, to-image, to-pointer}
use Rattle.law_moved.proofs.Parts.{Same, access-into, access-through, index-into, index-through, variable-same}
use Rattle.law_moved.proofs.Parts.{argument-same, result-same, special-same, load-into, cooperative-same}
use Rattle.law_moved.proofs.Parts.{scalar-moved, base-moved, sampled-same, size_same, product-same, bools-same}
use Rattle.law_moved.proofs.Parts.{logical-same, cast_same}
use Rattle.law_moved.proofs.Wgsl.{wgsl-same}

module _ (m : Moves) where
  abbrev Like : Rule Typed → Rule Typed → Type 0
  Like = Alike m (typed_to m)

  -- STEPS

  operand-alike : (n : RowNumber) {k j : TypeAnswer → Rule Typed}
      → ((a : TypeAnswer) → PlainType a → Like (k a) (j (answer_to m a))) → Like (operand n k) (operand (row_to m n) j)
  operand-alike n {k} {j} h = reads (λ p. refl) go
    where
      go : (t : Typed) → Plain t → Like (pass_on k t) (pass_on j (typed_to m t))
      go (given a) w = h a w
      go (refused e) w = ends refl
      go (chosen_refusal f) w = absurd w

  look-alike : (here : RowNumber) (a : TypeAnswer) {k j : Form → Rule Typed}
      → ((x : Form) → Like (k x) (j (form_to m x))) → Like (look here a k) (look (row_to m here) (answer_to m a) j)
  look-alike here a h = comes h

  same_alike : (n : RowNumber) → Like (same_as n) (same_as (row_to m n))
  same_alike n = operand-alike n (λ a w. ends refl)

  type-alike : (here n : RowNumber) (f g : TypeInner → Typed) → ((t : TypeInner) → Same m (f t) (g (inner_to m t)))
      → Like (by_type here n f) (by_type (row_to m here) (row_to m n) g)
  type-alike here n f g h = operand-alike n (λ a w. look-alike here a (λ x. ends (h x.inner)))

  base-alike : (here n : RowNumber) (th up : TypeNumber → AddressSpace → Form → Typed) (f g : Form → Typed)
      → ((b : TypeNumber) (p : AddressSpace) (x : Form) → Same m (th b p x) (up (type_to m b) p (form_to m x)))
      → ((x : Form) → Same m (f x) (g (form_to m x)))
      → Like (by_base here n th f) (by_base (row_to m here) (row_to m n) up g)
  base-alike here n th up f g h i =
      operand-alike n (λ a w. look-alike here a
      (λ x. to-pointer m Like x.inner _ (λ b p. look-alike here (number b) (λ y. ends (h b p y))) (ends (i x))))

  -- RULES

  sampled-alike : (here n : RowNumber) → Like (sampled here n) (sampled (row_to m here) (row_to m n))
  sampled-alike here n =
      operand-alike n (λ a w. look-alike here a
      (λ x. to-image m Like x.inner (λ d c. comes (λ s. ends (sampled-same m s))) (ends refl)))

  sample-alike : (here n : RowNumber) (g : Bool)
      → Like (image_sample here n g) (image_sample (row_to m here) (row_to m n) g)
  sample-alike here n true = type-alike here n _ _ (λ t. to-image m (Same m) t (λ d c. refl) refl)
  sample-alike here n false = sampled-alike here n

  query-alike : (here n : RowNumber) (q : ImageQuery)
      → Like (image_query here n q) (image_query (row_to m here) (queried_to m q n) q)
  query-alike here n Iq.Size = type-alike here n _ _ (λ t. to-image m (Same m) t (λ d c. size_same m d) refl)
  query-alike here n Iq.NumLevels = ends refl
  query-alike here n Iq.NumLayers = ends refl
  query-alike here n Iq.NumSamples = ends refl

  both-alike : (here l r : RowNumber) (f g : TypeAnswer → TypeAnswer → TypeInner → TypeInner → Typed)
      → ((a b : TypeAnswer) (x y : TypeInner)
      → Same m (f a b x y) (g (answer_to m a) (answer_to m b) (inner_to m x) (inner_to m y)))
      → Like (by_both here l r f) (by_both (row_to m here) (row_to m l) (row_to m r) g)
  both-alike here l r f g h =
      operand-alike l (λ a w. operand-alike r
      (λ b v. look-alike here a (λ x. look-alike here b (λ y. ends (h a b x.inner y.inner)))))

  binary-alike : (here : RowNumber) (op : BinaryOperator) (l r : RowNumber)
      → Like (binary here op l r) (binary (row_to m here) op (row_to m l) (row_to m r))
  binary-alike here Bo.Multiply l r = both-alike here l r _ _ (product-same m)
  binary-alike here Bo.Add l r = same_alike l
  binary-alike here Bo.Subtract l r = same_alike l
  binary-alike here Bo.Divide l r = same_alike l
  binary-alike here Bo.Modulo l r = same_alike l
  binary-alike here Bo.And l r = same_alike l
  binary-alike here Bo.ExclusiveOr l r = same_alike l
  binary-alike here Bo.InclusiveOr l r = same_alike l
  binary-alike here Bo.ShiftLeft l r = same_alike l
  binary-alike here Bo.ShiftRight l r = same_alike l
  binary-alike here Bo.Equal l r = type-alike here l _ _ (bools-same m)
  binary-alike here Bo.NotEqual l r = type-alike here l _ _ (bools-same m)
  binary-alike here Bo.Less l r = type-alike here l _ _ (bools-same m)
  binary-alike here Bo.LessEqual l r = type-alike here l _ _ (bools-same m)
  binary-alike here Bo.Greater l r = type-alike here l _ _ (bools-same m)
  binary-alike here Bo.GreaterEqual l r = type-alike here l _ _ (bools-same m)
  binary-alike here Bo.LogicalAnd l r = type-alike here l _ _ (logical-same m)
  binary-alike here Bo.LogicalOr l r = type-alike here l _ _ (logical-same m)

  binary-by-alike : (pass : Pass) (here : RowNumber) (op : BinaryOperator) (l r : RowNumber)
      → Like (binary_by pass here op l r) (binary_by pass (row_to m here) op (row_to m l) (row_to m r))
  binary-by-alike Pa.First here op l r = binary-alike here op l r
  binary-by-alike Pa.Second here op l r = both-alike here l r _ _ (wgsl-same m op)

  relational-alike : (here : RowNumber) (f : RelationalFunction) (n : RowNumber)
      → Like (relational here f n) (relational (row_to m here) f (related_to m f n))
  relational-alike here Rf.All n = ends refl
  relational-alike here Rf.Any n = ends refl
  relational-alike here Rf.IsNan n = type-alike here n _ _ (bools-same m)
  relational-alike here Rf.IsInf n = type-alike here n _ _ (bools-same m)

  resolve-alike : (pass : Pass) (here : RowNumber) (x : Shown)
      → Like (resolve pass here x) (resolve pass (row_to m here) (shown_to m x))
  resolve-alike pass here (Row.literal l) = ends refl
  resolve-alike pass here (Row.constant t) = ends refl
  resolve-alike pass here (Row.override t) = ends refl
  resolve-alike pass here (Row.zero_value t) = ends refl
  resolve-alike pass here (Row.compose t parts) = ends refl
  resolve-alike pass here (Row.access n) = base-alike here n _ _ _ _ (λ b p x. access-through m b p x.inner)
      (λ x. access-into m n x.inner)
  resolve-alike pass here (Row.access_index n i) = base-alike here n _ _ _ _
      (λ b p x. index-through m n i b p x.members x.inner) (λ x. index-into m n i x.members x.inner)
  resolve-alike pass here (Row.splat z n) = type-alike here n _ _ (λ t. to-scalar m (Same m) t (λ k. refl) refl)
  resolve-alike pass here (Row.swizzle z n) = type-alike here n _ _ (λ t. to_vector m (Same m) t (λ y k. refl) refl)
  resolve-alike pass here (Row.function_argument i t) = ends (argument-same m i t)
  resolve-alike pass here (Row.global_variable t p) = ends (variable-same m t p)
  resolve-alike pass here (Row.local_variable t) = ends refl
  resolve-alike pass here (Row.load n) = base-alike here n _ _ _ _
      (λ b p x. to-atomic m (Same m) x.inner (λ k. refl) refl) (λ x. load-into m n x.inner)
  resolve-alike pass here (Row.image_sample n g) = sample-alike here n g
  resolve-alike pass here (Row.image_load n) = sampled-alike here n
  resolve-alike pass here (Row.image_query n q) = query-alike here n q
  resolve-alike pass here (Row.unary n) = same_alike n
  resolve-alike pass here (Row.binary op l r) = binary-by-alike pass here op l r
  resolve-alike pass here (Row.select n) = same_alike n
  resolve-alike pass here (Row.derivative n) = same_alike n
  resolve-alike pass here (Row.relational f n) = relational-alike here f n
  resolve-alike pass here (Row.cast n k w) = type-alike here n _ _ (cast_same m k w)
  resolve-alike pass here (Row.call_result r) = ends (result-same m r)
  resolve-alike pass here (Row.atomic_result t) = ends refl
  resolve-alike pass here (Row.work_group_uniform_load_result t) = ends refl
  resolve-alike pass here Row.array_length = ends refl
  resolve-alike pass here (Row.ray_query_vertex_positions t) = ends (special-same m t)
  resolve-alike pass here Row.ray_query_proceed_result = ends refl
  resolve-alike pass here (Row.ray_query_get_intersection t) = ends (special-same m t)
  resolve-alike pass here Row.subgroup_ballot_result = ends refl
  resolve-alike pass here (Row.subgroup_operation_result t) = ends refl
  resolve-alike pass here (Row.cooperative_load c r o n) =
      base-alike here n _ _ _ _
      (λ b p x. ap (cooperative_of c r o (row_to m n)) (scalar-moved m x.inner)
      ∙ cooperative-same m c r o n (scalar_in x.inner))
      (λ x. ap (cooperative_of c r o (row_to m n)) (base-moved m x.inner)
      ∙ cooperative-same m c r o n (base_scalar (pointer_base x.inner)))
  resolve-alike pass here (Row.cooperative_multiply_add n) = same_alike n

  -- EVERY ROW
  pub typing-alike : (pass : Pass) (n : ℕ) → Like (typing pass n) (typing pass (m.rows n))
  typing-alike pass n = comes (λ x. resolve-alike pass (record { 0 = n }) x)
