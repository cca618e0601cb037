-- The parts of the rules of rows: what each gives by the form of a type is the same with its numbers moved. By cases on
-- the form, or by the selectors.
use Rattle.std.specs.Prelude.{Option as CodeOption, Some, None}
use Rattle.ir.specs.declared.Width.{Width}
use Rattle.ir.specs.declared.VectorSize.{VectorSize}
use Prim.Native.Nat.{ℕ, zero, suc}
use mathlib.Core.Path.{◌≡◌, refl, ap, ◌∙◌}
use mathlib.Core.Bool.{Bool, true, false, cond}
use mathlib.Core.List.{List, [], ◌∷◌, map}
use mathlib.Core.Option.{Option, none, some}
use lib.Dec.{ltb}
use lib.ListN.{get_elem?}
use Rattle.ir.specs.declared.TypeNumber.{TypeNumber}
use Rattle.ir.specs.declared.RowNumber.{RowNumber}
use Rattle.ir.specs.declared.CooperativeSize.{CooperativeSize}
use Rattle.ir.specs.declared.CooperativeRole.{CooperativeRole}
use Rattle.ir.specs.declared.Scalar.{Scalar}
use Rattle.ir.specs.declared.AddressSpace.{AddressSpace}
use Rattle.ir.specs.declared.AddressSpace.TheVariants as Sp
use Rattle.ir.specs.declared.ImageDimension.{ImageDimension}
use Rattle.ir.specs.declared.ImageDimension.TheVariants as Id
use Rattle.ir.specs.declared.ImageClass.{ImageClass}
use Rattle.ir.specs.declared.ImageClass.TheVariants as Ic
use Rattle.ir.specs.declared.ScalarKind.{ScalarKind}
use Rattle.ir.specs.declared.TypeInner.{TypeInner}
use Rattle.ir.specs.declared.TypeInner.TheVariants as Ti
use Rattle.ir.specs.TypeMethods.{scalar_in, pointer_base}
use Rattle.ir.specs.Numbers.{vector_size_number}
use Rattle.ir.specs.Scalars.{BOOL, equal_scalars}
use Rattle.answers.specs.declared.Refusal.TheVariants.{IncompatibleOperands}
use Rattle.rule.specs.Answers.{TypeAnswer, value, Typed, given, refused}
use Rattle.rule_rows.specs.Access.{access_component, access_into, access_through, bounded, member, member_pointer}
use Rattle.rule_rows.specs.Access.{index_component, index_into, index_through}
use Rattle.rule_rows.specs.Variables.{argument, variable, load_into}
use Rattle.rule_rows.specs.Images.{sampled_of, size_of}
use Rattle.rule_rows.specs.Operators.{times_scalar, product, bools_of, logical_of, cast_of}
use Rattle.rule_rows.specs.Results.{result_of, special, cooperative_of, base_scalar}
use Rattle.law_moved.specs.Moves.{Moves, type_to, row_to, inner_to, answer_to, typed_to, maybe_to, function_to}
use Rattle.law_moved.proofs.Selected.{to-scalar, to_vector, to-matrix, to-cooperative, to-value-pointer}
use Rattle.law_moved.proofs.Selected.{to-array, to-binding-array, to-struct}

-- the second is the first, moved
abbrev pub Same : Moves → Typed → Typed → Type 0
Same m a b = b ≡ typed_to m a

module _ (m : Moves) where
  bounded-same : (base : RowNumber) (i bound : ℕ) (a : TypeAnswer)
      → Same m (bounded base i bound a) (bounded (row_to m base) i bound (answer_to m a))
  bounded-same base i bound a = go (ltb i bound) refl
    where
      go : (b : Bool) → ltb i bound ≡ b
          → Same m (bounded base i bound a) (bounded (row_to m base) i bound (answer_to m a))
      go true q = rw q
      go false q = rw q

  get-map : (l : List TypeNumber) (i : ℕ) → get_elem? (map (type_to m) l) i ≡ maybe_to m (get_elem? l i)
  get-map [] i = refl
  get-map (t ∷ l) zero = refl
  get-map (t ∷ l) (suc i) = get-map l i

  member-same : (base : RowNumber) (i : ℕ) (o : Option TypeNumber)
      → Same m (member base i o) (member (row_to m base) i (maybe_to m o))
  member-same base i (some t) = refl
  member-same base i none = refl

  pointer-same : (base : RowNumber) (i : ℕ) (p : AddressSpace) (o : Option TypeNumber)
      → Same m (member_pointer base i p o) (member_pointer (row_to m base) i p (maybe_to m o))
  pointer-same base i p (some t) = refl
  pointer-same base i p none = refl

  component-same : (base : RowNumber) (k : Scalar) (p : AddressSpace) (z : CodeOption VectorSize)
      → Same m (access_component base k p z) (access_component (row_to m base) k p z)
  component-same base k p (Some z) = refl
  component-same base k p None = refl

  index-component : (base : RowNumber) (i : ℕ) (k : Scalar) (p : AddressSpace) (z : CodeOption VectorSize)
      → Same m (index_component base i k p z) (index_component (row_to m base) i k p z)
  index-component base i k p (Some z) = bounded-same base i (vector_size_number z)
      (value (Ti.ValuePointer None k p))
  index-component base i k p None = refl

  pub access-into : (base : RowNumber) (t : TypeInner)
      → Same m (access_into base t) (access_into (row_to m base) (inner_to m t))
  access-into base t =
      to-array m (Same m) t _ (λ b. refl) (to-matrix m (Same m) t (λ c r k. refl) (to_vector m (Same m) t (λ z k. refl)
      (to-value-pointer m (Same m) t (λ z k p. component-same base k p z)
      (to-binding-array m (Same m) t _ (λ b. refl) refl))))

  pub access-through : (b : TypeNumber) (p : AddressSpace) (t : TypeInner)
      → Same m (access_through b p t) (access_through (type_to m b) p (inner_to m t))
  access-through b p t =
      to-array m (Same m) t _ (λ b. refl)
      (to_vector m (Same m) t (λ z k. refl)
      (to-matrix m (Same m) t (λ c r k. refl) (to-binding-array m (Same m) t _ (λ b. refl) refl)))

  pub index-into : (base : RowNumber) (i : ℕ) (l : List TypeNumber) (t : TypeInner)
      → Same m (index_into base i l t) (index_into (row_to m base) i (map (type_to m) l) (inner_to m t))
  index-into base i l t =
      to_vector m (Same m) t (λ z k. bounded-same base i (vector_size_number z) (value (Ti.Scalar k)))
      (to-matrix m (Same m) t (λ c r k. bounded-same base i (vector_size_number c) (value (Ti.Vector r k)))
      (to-array m (Same m) t _ (λ b. refl)
      (to-struct m (Same m) t (ap (member (row_to m base) i) (get-map l i) ∙ member-same base i (get_elem? l i))
      (to-value-pointer m (Same m) t (λ z k p. index-component base i k p z)
      (to-binding-array m (Same m) t _ (λ b. refl) refl)))))

  pub index-through : (base : RowNumber) (i : ℕ) (ty : TypeNumber) (p : AddressSpace) (l : List TypeNumber)
      (t : TypeInner)
      → Same m (index_through base i ty p l t)
      (index_through (row_to m base) i (type_to m ty) p (map (type_to m) l) (inner_to m t))
  index-through base i ty p l t =
      to-array m (Same m) t _ (λ b. refl)
      (to_vector m (Same m) t (λ z k. bounded-same base i (vector_size_number z) (value (Ti.ValuePointer None k p)))
      (to-matrix m (Same m) t
      (λ c r k. bounded-same base i (vector_size_number c) (value (Ti.ValuePointer (Some r) k p)))
      (to-struct m (Same m) t
      (ap (member_pointer (row_to m base) i p) (get-map l i) ∙ pointer-same base i p (get_elem? l i))
      (to-binding-array m (Same m) t _ (λ b. refl) refl))))

  pub variable-same : (t : TypeNumber) (p : AddressSpace) → Same m (variable t p) (variable (type_to m t) p)
  variable-same t Sp.Handle = refl
  variable-same t Sp.Function = refl
  variable-same t Sp.Private = refl
  variable-same t Sp.WorkGroup = refl
  variable-same t Sp.Uniform = refl
  variable-same t (Sp.Storage a) = refl
  variable-same t Sp.Immediate = refl
  variable-same t Sp.TaskPayload = refl
  variable-same t Sp.RayPayload = refl
  variable-same t Sp.IncomingRayPayload = refl

  pub argument-same : (i : ℕ) (o : Option TypeNumber) → Same m (argument i o) (argument (m.arguments i) (maybe_to m o))
  argument-same i (some t) = refl
  argument-same i none = refl

  pub result-same : (r : CodeOption TypeNumber) → Same m (result_of r) (result_of (function_to m r))
  result-same (Some t) = refl
  result-same None = refl

  pub special-same : (o : Option TypeNumber) → Same m (special o) (special (maybe_to m o))
  special-same (some t) = refl
  special-same none = refl

  pub load-into : (n : RowNumber) (t : TypeInner) → Same m (load_into n t) (load_into (row_to m n) (inner_to m t))
  load-into n (Ti.Scalar k) = refl
  load-into n (Ti.Vector z k) = refl
  load-into n (Ti.Matrix c j k) = refl
  load-into n (Ti.CooperativeMatrix c j k o) = refl
  load-into n (Ti.Atomic k) = refl
  load-into n (Ti.Pointer b p) = refl
  load-into n (Ti.ValuePointer None k p) = refl
  load-into n (Ti.ValuePointer (Some z) k p) = refl
  load-into n (Ti.Array b z t) = refl
  load-into n (Ti.Struct f i t) = refl
  load-into n (Ti.Image d a c) = refl
  load-into n (Ti.Sampler q) = refl
  load-into n (Ti.AccelerationStructure q) = refl
  load-into n (Ti.RayQuery q) = refl
  load-into n (Ti.BindingArray b z) = refl

  pub cooperative-same : (c r : CooperativeSize) (o : CooperativeRole) (n : RowNumber) (k : CodeOption Scalar)
      → Same m (cooperative_of c r o n k) (cooperative_of c r o (row_to m n) k)
  cooperative-same c r o n (Some k) = refl
  cooperative-same c r o n None = refl

  pub scalar-moved : (t : TypeInner) → scalar_in (inner_to m t) ≡ scalar_in t
  scalar-moved (Ti.Scalar k) = refl
  scalar-moved (Ti.Vector z k) = refl
  scalar-moved (Ti.Matrix c j k) = refl
  scalar-moved (Ti.CooperativeMatrix c j k o) = refl
  scalar-moved (Ti.Atomic k) = refl
  scalar-moved (Ti.Pointer b p) = refl
  scalar-moved (Ti.ValuePointer z k p) = refl
  scalar-moved (Ti.Array b z t) = refl
  scalar-moved (Ti.Struct f n t) = refl
  scalar-moved (Ti.Image d a c) = refl
  scalar-moved (Ti.Sampler q) = refl
  scalar-moved (Ti.AccelerationStructure q) = refl
  scalar-moved (Ti.RayQuery q) = refl
  scalar-moved (Ti.BindingArray b z) = refl

  pub base-moved : (t : TypeInner) → base_scalar (pointer_base (inner_to m t)) ≡ base_scalar (pointer_base t)
  base-moved (Ti.Scalar k) = refl
  base-moved (Ti.Vector z k) = refl
  base-moved (Ti.Matrix c j k) = refl
  base-moved (Ti.CooperativeMatrix c j k o) = refl
  base-moved (Ti.Atomic k) = refl
  base-moved (Ti.Pointer b p) = refl
  base-moved (Ti.ValuePointer z k p) = refl
  base-moved (Ti.Array b z t) = refl
  base-moved (Ti.Struct f n t) = refl
  base-moved (Ti.Image d a c) = refl
  base-moved (Ti.Sampler q) = refl
  base-moved (Ti.AccelerationStructure q) = refl
  base-moved (Ti.RayQuery q) = refl
  base-moved (Ti.BindingArray b z) = refl

  pub sampled-same : (c : ImageClass) → Same m (given (value (sampled_of c))) (given (value (sampled_of c)))
  sampled-same (Ic.Depth q) = refl
  sampled-same (Ic.Sampled k q) = refl
  sampled-same Ic.External = refl
  sampled-same (Ic.Storage f a) = refl

  pub size_same : (d : ImageDimension) → Same m (given (value (size_of d))) (given (value (size_of d)))
  size_same Id.D1 = refl
  size_same Id.D2 = refl
  size_same Id.Cube = refl
  size_same Id.D3 = refl

  times-same : (a : TypeAnswer) (y : TypeInner)
      → Same m (times_scalar a y) (times_scalar (answer_to m a) (inner_to m y))
  times-same a y = to-scalar m (Same m) y (λ j. refl) refl

  pub product-same : (a b : TypeAnswer) (x y : TypeInner)
      → Same m (product a b x y) (product (answer_to m a) (answer_to m b) (inner_to m x) (inner_to m y))
  product-same a b x y =
      to-matrix m (Same m) x (λ c r k. to-matrix m (Same m) y (λ d q j. refl)
      (to_vector m (Same m) y (λ z j. refl) (times-same a y)))
      (to_vector m (Same m) x (λ z k. to-matrix m (Same m) y (λ d q j. refl)
      (to_vector m (Same m) y (λ z j. refl) (times-same a y)))
      (to-scalar m (Same m) x (λ k. refl)
      (to-cooperative m (Same m) x (λ c r k o. to-cooperative m (Same m) y (λ d q j w. refl) (times-same a y))
      (times-same a y))))

  pub bools-same : (t : TypeInner) → Same m (bools_of t) (bools_of (inner_to m t))
  bools-same t = to-scalar m (Same m) t (λ k. refl) (to_vector m (Same m) t (λ z k. refl) refl)

  equal-same : (b : Bool)
      → Same m (cond b (given (value (Ti.Scalar BOOL))) (refused IncompatibleOperands))
      (cond b (given (value (Ti.Scalar BOOL))) (refused IncompatibleOperands))
  equal-same true = refl
  equal-same false = refl

  pub logical-same : (t : TypeInner) → Same m (logical_of t) (logical_of (inner_to m t))
  logical-same t = to-scalar m (Same m) t (λ k. equal-same (equal_scalars k BOOL)) refl

  pub cast_same : (to : ScalarKind) (w : CodeOption Width) (t : TypeInner)
      → Same m (cast_of to w t) (cast_of to w (inner_to m t))
  cast_same to w t = to-scalar m (Same m) t (λ k. refl)
      (to_vector m (Same m) t (λ z k. refl) (to-matrix m (Same m) t (λ c r k. refl) refl))
