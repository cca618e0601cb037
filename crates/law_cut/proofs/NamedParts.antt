-- The parts of the rules of rows: what each gives by the form of a type names no row but the operand that it is
-- handed. By cases on the form, or by the selectors.
use Rattle.std.specs.Prelude.{Option as CodeOption, Some, None}
use Rattle.ir.specs.declared.Width.{Width}
use Rattle.ir.specs.declared.TypeResolution.{TypeResolution}
use Rattle.ir.specs.declared.VectorSize.{VectorSize}
use Prim.Native.Nat.{ℕ}
use mathlib.Core.Bool.{Bool, true, false, cond}
use mathlib.Core.List.{List}
use mathlib.Core.Option.{Option, none, some}
use lib.Dec.{ltb}
use lib.ListN.{get_elem?}
use Rattle.scan.proofs.Laws.{by-test}
use Rattle.ir.specs.declared.TypeNumber.{TypeNumber}
use Rattle.ir.specs.declared.RowNumber.{RowNumber}
use Rattle.ir.specs.declared.CooperativeSize.{CooperativeSize}
use Rattle.ir.specs.declared.CooperativeRole.{CooperativeRole}
use Rattle.ir.specs.declared.Scalar.{Scalar}
use Rattle.ir.specs.declared.AddressSpace.{AddressSpace}
use Rattle.ir.specs.declared.AddressSpace.TheVariants as Sp
use Rattle.ir.specs.declared.ScalarKind.{ScalarKind}
use Rattle.ir.specs.declared.TypeInner.{TypeInner}
use Rattle.ir.specs.declared.TypeInner.TheVariants as Ti
use Rattle.ir.specs.Scalars.{BOOL, equal_scalars}
use Rattle.answers.specs.declared.Refusal.TheVariants as R
use Rattle.rule.specs.Answers.{TypeAnswer, value, given, refused}
use Rattle.rule_types.specs.Canonical.{if_pointer}
use Rattle.rule_rows.specs.Access.{access_component, access_into, access_through, bounded, member, member_pointer}
use Rattle.rule_rows.specs.Access.{index_component, index_into, index_through}
use Rattle.rule_rows.specs.Variables.{argument, variable, loaded}
use Rattle.rule_rows.specs.Operators.{times_scalar, product, bools_of, logical_of, cast_of, or_mismatch}
use Rattle.rule_rows.specs.Results.{result_of, special, cooperative_of}
use Rattle.rule_rows.specs.Selectors.{if_array, if_binding_array}
use Rattle.law_rows.proofs.Selected.{by_scalar, by-vector, by-matrix, by-cooperative-matrix, by-value-pointer}
use Rattle.law_rows.proofs.Selected.{by-struct}
use Rattle.law_cut.specs.Names.{TypedNames}

-- the selectors that name a type, whatever it is
module _ {X : Type 0} (P : X → Type 0) where
  pub any_array : (t : TypeInner) {f : TypeNumber → X} {rest : X} → ((b : TypeNumber) → P (f b)) → P rest
      → P (if_array t f rest)
  any_array (Ti.Scalar k) h r = r
  any_array (Ti.Vector z k) h r = r
  any_array (Ti.Matrix c j k) h r = r
  any_array (Ti.CooperativeMatrix c j k o) h r = r
  any_array (Ti.Atomic k) h r = r
  any_array (Ti.Pointer b p) h r = r
  any_array (Ti.ValuePointer z k p) h r = r
  any_array (Ti.Array b z t) h r = h b
  any_array (Ti.Struct f n t) h r = r
  any_array (Ti.Image d a c) h r = r
  any_array (Ti.Sampler q) h r = r
  any_array (Ti.AccelerationStructure q) h r = r
  any_array (Ti.RayQuery q) h r = r
  any_array (Ti.BindingArray b z) h r = r

  pub any-binding : (t : TypeInner) {f : TypeNumber → X} {rest : X} → ((b : TypeNumber) → P (f b)) → P rest
      → P (if_binding_array t f rest)
  any-binding (Ti.Scalar k) h r = r
  any-binding (Ti.Vector z k) h r = r
  any-binding (Ti.Matrix c j k) h r = r
  any-binding (Ti.CooperativeMatrix c j k o) h r = r
  any-binding (Ti.Atomic k) h r = r
  any-binding (Ti.Pointer b p) h r = r
  any-binding (Ti.ValuePointer z k p) h r = r
  any-binding (Ti.Array b z t) h r = r
  any-binding (Ti.Struct f n t) h r = r
  any-binding (Ti.Image d a c) h r = r
  any-binding (Ti.Sampler q) h r = r
  any-binding (Ti.AccelerationStructure q) h r = r
  any-binding (Ti.RayQuery q) h r = r
  any-binding (Ti.BindingArray b z) h r = h b

  pub any-pointer : (t : TypeInner) {f : TypeNumber → AddressSpace → X} {rest : X}
      → ((b : TypeNumber) (p : AddressSpace) → P (f b p)) → P rest → P (if_pointer t f rest)
  any-pointer (Ti.Scalar k) h r = r
  any-pointer (Ti.Vector z k) h r = r
  any-pointer (Ti.Matrix c j k) h r = r
  any-pointer (Ti.CooperativeMatrix c j k o) h r = r
  any-pointer (Ti.Atomic k) h r = r
  any-pointer (Ti.Pointer b p) h r = h b p
  any-pointer (Ti.ValuePointer z k p) h r = r
  any-pointer (Ti.Array b z t) h r = r
  any-pointer (Ti.Struct f n t) h r = r
  any-pointer (Ti.Image d a c) h r = r
  any-pointer (Ti.Sampler q) h r = r
  any-pointer (Ti.AccelerationStructure q) h r = r
  any-pointer (Ti.RayQuery q) h r = r
  any-pointer (Ti.BindingArray b z) h r = r

module _ (N : ℕ → Type 0) where
  bounded-names : (base : RowNumber) (i bound : ℕ) (a : TypeAnswer) → N base.0
      → TypedNames N (bounded base i bound a)
  bounded-names base i bound a h = by-test (TypedNames N) (ltb i bound) (λ q. tt) (λ q. h)

  member-names : (base : RowNumber) (i : ℕ) (o : Option TypeNumber) → N base.0 → TypedNames N (member base i o)
  member-names base i (some t) h = tt
  member-names base i none h = h

  pointer-names : (base : RowNumber) (i : ℕ) (p : AddressSpace) (o : Option TypeNumber) → N base.0
      → TypedNames N (member_pointer base i p o)
  pointer-names base i p (some t) h = tt
  pointer-names base i p none h = h

  component-names : (base : RowNumber) (k : Scalar) (p : AddressSpace) (z : CodeOption VectorSize) → N base.0
      → TypedNames N (access_component base k p z)
  component-names base k p (Some z) h = tt
  component-names base k p None h = h

  index-component : (base : RowNumber) (i : ℕ) (k : Scalar) (p : AddressSpace) (z : CodeOption VectorSize) → N base.0
      → TypedNames N (index_component base i k p z)
  index-component base i k p (Some z) h = bounded-names base i _ _ h
  index-component base i k p None h = h

  pub access-into : (base : RowNumber) (t : TypeInner) → N base.0 → TypedNames N (access_into base t)
  access-into base t h =
      any_array (TypedNames N) t (λ b. tt)
      (by-matrix (TypedNames N) t (λ c r k. tt) (by-vector (TypedNames N) t (λ z k. tt)
      (by-value-pointer (TypedNames N) t (λ z k p. component-names base k p z h)
      (any-binding (TypedNames N) t (λ b. tt) h))))

  pub access-through : (b : TypeNumber) (p : AddressSpace) (t : TypeInner) → TypedNames N (access_through b p t)
  access-through b p t =
      any_array (TypedNames N) t (λ b. tt)
      (by-vector (TypedNames N) t (λ z k. tt)
      (by-matrix (TypedNames N) t (λ c r k. tt) (any-binding (TypedNames N) t (λ b. tt) tt)))

  pub index-into : (base : RowNumber) (i : ℕ) (l : List TypeNumber) (t : TypeInner) → N base.0
      → TypedNames N (index_into base i l t)
  index-into base i l t h =
      by-vector (TypedNames N) t (λ z k. bounded-names base i _ _ h)
      (by-matrix (TypedNames N) t (λ c r k. bounded-names base i _ _ h) (any_array (TypedNames N) t (λ b. tt)
      (by-struct (TypedNames N) t (member-names base i (get_elem? l i) h)
      (by-value-pointer (TypedNames N) t (λ z k p. index-component base i k p z h)
      (any-binding (TypedNames N) t (λ b. tt) h)))))

  pub index-through : (base : RowNumber) (i : ℕ) (b : TypeNumber) (p : AddressSpace) (l : List TypeNumber)
      (t : TypeInner)
      → N base.0 → TypedNames N (index_through base i b p l t)
  index-through base i b p l t h =
      any_array (TypedNames N) t (λ b. tt)
      (by-vector (TypedNames N) t (λ z k. bounded-names base i _ _ h)
      (by-matrix (TypedNames N) t (λ c r k. bounded-names base i _ _ h)
      (by-struct (TypedNames N) t (pointer-names base i p (get_elem? l i) h)
      (any-binding (TypedNames N) t (λ b. tt) tt))))

  pub loaded-names : (n : RowNumber) (o : CodeOption TypeResolution) → N n.0 → TypedNames N (loaded n o)
  loaded-names n (Some r) h = tt
  loaded-names n None h = h

  pub cooperative-names : (c r : CooperativeSize) (o : CooperativeRole) (n : RowNumber) (k : CodeOption Scalar) → N n.0
      → TypedNames N (cooperative_of c r o n k)
  cooperative-names c r o n (Some k) h = tt
  cooperative-names c r o n None h = h

  pub variable-names : (t : TypeNumber) (p : AddressSpace) → TypedNames N (variable t p)
  variable-names t Sp.Handle = tt
  variable-names t Sp.Function = tt
  variable-names t Sp.Private = tt
  variable-names t Sp.WorkGroup = tt
  variable-names t Sp.Uniform = tt
  variable-names t (Sp.Storage a) = tt
  variable-names t Sp.Immediate = tt
  variable-names t Sp.TaskPayload = tt
  variable-names t Sp.RayPayload = tt
  variable-names t Sp.IncomingRayPayload = tt

  pub argument-names : (i : ℕ) (o : Option TypeNumber) → TypedNames N (argument i o)
  argument-names i (some t) = tt
  argument-names i none = tt

  pub result-names : (r : CodeOption TypeNumber) → TypedNames N (result_of r)
  result-names (Some t) = tt
  result-names None = tt

  pub special-names : (o : Option TypeNumber) → TypedNames N (special o)
  special-names (some t) = tt
  special-names none = tt

  times-names : (a : TypeAnswer) (y : TypeInner) → TypedNames N (times_scalar a y)
  times-names a y = by_scalar (TypedNames N) y (λ j. tt) tt

  pub product-names : (a b : TypeAnswer) (x y : TypeInner) → TypedNames N (product a b x y)
  product-names a b x y =
      by-matrix (TypedNames N) x
      (λ c r k. by-matrix (TypedNames N) y (λ d q j. tt) (by-vector (TypedNames N) y (λ z j. tt) (times-names a y)))
      (by-vector (TypedNames N) x
      (λ z k. by-matrix (TypedNames N) y (λ d q j. tt) (by-vector (TypedNames N) y (λ z j. tt) (times-names a y)))
      (by_scalar (TypedNames N) x (λ k. tt)
      (by-cooperative-matrix (TypedNames N) x
      (λ c r k o. by-cooperative-matrix (TypedNames N) y (λ d q j w. tt) (times-names a y)) (times-names a y))))

  pub wgsl-names : (o : Option TypeInner) → TypedNames N (or_mismatch o)
  wgsl-names (some t) = tt
  wgsl-names none = tt

  pub bools-names : (t : TypeInner) → TypedNames N (bools_of t)
  bools-names t = by_scalar (TypedNames N) t (λ k. tt) (by-vector (TypedNames N) t (λ z k. tt) tt)

  equal-names : (b : Bool) → TypedNames N (cond b (given (value (Ti.Scalar BOOL))) (refused R.IncompatibleOperands))
  equal-names true = tt
  equal-names false = tt

  pub logical-names : (t : TypeInner) → TypedNames N (logical_of t)
  logical-names t = by_scalar (TypedNames N) t (λ k. equal-names (equal_scalars k BOOL)) tt

  pub cast-names : (to : ScalarKind) (w : CodeOption Width) (t : TypeInner) → TypedNames N (cast_of to w t)
  cast-names to w t = by_scalar (TypedNames N) t (λ k. tt)
      (by-vector (TypedNames N) t (λ z k. tt) (by-matrix (TypedNames N) t (λ c r k. tt) tt))
