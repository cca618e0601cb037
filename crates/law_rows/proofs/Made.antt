-- What each rule makes of types in range is in range. By the selectors and the cases that rules are made of.
use Rattle.std.specs.Prelude.{Option as CodeOption, Some, None}
use Rattle.ir.specs.declared.Width.{Width}
use Prim.Native.Nat.{ℕ}
use mathlib.Core.Path.{◌≡◌, refl, ap}
use mathlib.Core.Bool.{true}
use mathlib.Core.List.{List}
use mathlib.Core.Option.{Option, none, some}
use lib.Dec.{ltb}
use lib.ListN.{get_elem?}
use Rattle.scan.proofs.Laws.{by-test}
use Rattle.ir.specs.declared.TypeNumber.{TypeNumber}
use Rattle.ir.specs.declared.RowNumber.{RowNumber}
use Rattle.ir.specs.declared.VectorSize.{VectorSize}
use Rattle.ir.specs.declared.VectorSize.TheVariants as Vs
use Rattle.ir.specs.declared.CooperativeSize.{CooperativeSize}
use Rattle.ir.specs.declared.CooperativeRole.{CooperativeRole}
use Rattle.ir.specs.declared.BinaryOperator.{BinaryOperator}
use Rattle.ir.specs.declared.ScalarKind.{ScalarKind}
use Rattle.ir.specs.declared.Scalar.{Scalar}
use Rattle.ir.specs.declared.AddressSpace.{AddressSpace}
use Rattle.ir.specs.declared.AddressSpace.TheVariants as Sp
use Rattle.ir.specs.declared.ImageDimension.{ImageDimension}
use Rattle.ir.specs.declared.ImageDimension.TheVariants as Id
use Rattle.ir.specs.declared.ImageClass.{ImageClass}
use Rattle.ir.specs.declared.ImageClass.TheVariants as Ic
use Rattle.ir.specs.declared.TypeInner.{TypeInner}
use Rattle.ir.specs.declared.TypeInner.TheVariants as Ti
use Rattle.ir.specs.Scalars.{U32, F32, BOOL, equal_scalars}
use Rattle.ir.specs.Formats.{storage_scalar}
use Rattle.answers.specs.Numbers.{refusal_values}
use Rattle.answers.specs.declared.Refusal.{Refusal}
use Rattle.archive.specs.declared.Starts.{Starts}
use Rattle.archive.specs.Names.{is_type, result_names}
use Rattle.rule.specs.Answers.{TypeAnswer, value, Typed, given, refused}
use Rattle.rule.specs.Things.{in_range}
use Rattle.rule_rows.specs.declared.Pass.{Pass}
use Rattle.rule_rows.specs.declared.Pass.TheVariants as Pa
use Rattle.rule_rows.specs.Access.{access_component, access_into, access_through, bounded, member, member_pointer}
use Rattle.rule_rows.specs.Access.{index_component, index_into, index_through, splat_of, swizzle_of}
use Rattle.ir.specs.TypeMethods.{value_base}
use Rattle.rule_rows.specs.Variables.{argument, variable, load_through, load_into}
use Rattle.rule_rows.specs.Images.{sampled_scalar, gathered_scalar, gathered_of, sampled_of, size_of, image_size_of}
use Rattle.rule_rows.specs.WgslTables.{Wgsl}
use Rattle.rule_rows.specs.Wgsl.{wgsl_result}
use Rattle.rule_rows.specs.Operators.{times_scalar, product, or_mismatch, bools_of, logical_of, cast_of}
use Rattle.rule_rows.proofs.Wgsl.{wgsl-is}
use Rattle.rule_rows.specs.Results.{result_of, special, cooperative_of}
use Rattle.law_rows.proofs.Ranged.{Each, IfSome, TypeInRange, is_refusal, TypedInRange, BaseInRange}
use Rattle.law_rows.proofs.Ranged.{refusal-number}
use Rattle.law_rows.proofs.Selected.{by_scalar, by-vector, by-matrix, by-cooperative-matrix, by-atomic}
use Rattle.law_rows.proofs.Selected.{by-value-pointer, by-image, by-struct, by-array, by-binding-array}
use Rattle.law_rows.proofs.Seen.{each_at}

module _ (pass : Pass) (s : Starts) where
  abbrev In : Typed → Type 0
  In = TypedInRange pass s

  pub no-type : (e : Refusal) → is_refusal Pa.First (refusal_values e).number ≡ true → In (refused e)
  no-type e h = refusal-number pass e h

  pub pointer_in : (b : TypeNumber) (p : AddressSpace) → is_type s b ≡ true → In (given (value (Ti.Pointer b p)))
  pointer_in b p h = (ap in_range h, refl)

  pub scalar-in : (k : Scalar) → In (given (value (Ti.Scalar k)))
  scalar-in k = (refl, refl)

  pub vector-in : (z : VectorSize) (k : Scalar) → In (given (value (Ti.Vector z k)))
  vector-in z k = (refl, refl)

  pub matrix-in : (c r : VectorSize) (k : Scalar) → In (given (value (Ti.Matrix c r k)))
  matrix-in c r k = (refl, refl)

  pub cooperative-in : (c r : CooperativeSize) (k : Scalar) (o : CooperativeRole)
      → In (given (value (Ti.CooperativeMatrix c r k o)))
  cooperative-in c r k o = (refl, refl)

  pub value-pointer-in : (z : CodeOption VectorSize) (k : Scalar) (p : AddressSpace)
      → In (given (value (Ti.ValuePointer z k p)))
  value-pointer-in z k p = (refl, refl)

  -- ACCESS

  pub access-component : (base : RowNumber) (k : Scalar) (p : AddressSpace) (z : CodeOption VectorSize)
      → In (access_component base k p z)
  access-component base k p (Some z) = value-pointer-in None k p
  access-component base k p None = no-type _ refl

  pub access-into : (base : RowNumber) (t : TypeInner) → BaseInRange s t → In (access_into base t)
  access-into base t w =
      by-array s In t w (λ b h. h)
      (by-matrix In t (λ c r k. vector-in r k)
      (by-vector In t (λ z k. scalar-in k)
      (by-value-pointer In t (λ z k p. access-component base k p z)
      (by-binding-array s In t w (λ b h. h)
      (no-type _ refl)))))

  pub access-through : (base : TypeNumber) (p : AddressSpace) (t : TypeInner) → BaseInRange s t
      → In (access_through base p t)
  access-through base p t w =
      by-array s In t w (λ b h. pointer_in b p h)
      (by-vector In t (λ z k. value-pointer-in None k p)
      (by-matrix In t (λ c r k. value-pointer-in (Some r) k p)
      (by-binding-array s In t w (λ b h. pointer_in b p h)
      (no-type _ refl))))

  -- ACCESSINDEX

  pub bounded-in : (base : RowNumber) (i bound : ℕ) (a : TypeAnswer) → TypeInRange s a → In (bounded base i bound a)
  bounded-in base i bound a h = by-test In (ltb i bound) (λ q. h) (λ q. no-type _ refl)

  pub member-in : (base : RowNumber) (i : ℕ) (t : Option TypeNumber) → IfSome (λ t. is_type s t ≡ true) t
      → In (member base i t)
  member-in base i (some t) h = h
  member-in base i none h = no-type _ refl

  pub member-pointer : (base : RowNumber) (i : ℕ) (p : AddressSpace) (t : Option TypeNumber)
      → IfSome (λ t. is_type s t ≡ true) t
      → In (member_pointer base i p t)
  member-pointer base i p (some t) h = pointer_in t p h
  member-pointer base i p none h = no-type _ refl

  pub index-component : (base : RowNumber) (i : ℕ) (k : Scalar) (p : AddressSpace) (z : CodeOption VectorSize)
      → In (index_component base i k p z)
  index-component base i k p (Some z) = bounded-in base i _ (value (Ti.ValuePointer None k p))
      (value-pointer-in None k p)
  index-component base i k p None = no-type _ refl

  pub index-into : (base : RowNumber) (i : ℕ) (members : List TypeNumber) (t : TypeInner) → BaseInRange s t
      → Each (λ t. is_type s t ≡ true) members → In (index_into base i members t)
  index-into base i members t w all =
      by-vector In t (λ z k. bounded-in base i _ (value (Ti.Scalar k)) (scalar-in k))
      (by-matrix In t (λ c r k. bounded-in base i _ (value (Ti.Vector r k)) (vector-in r k))
      (by-array s In t w (λ b h. h)
      (by-struct In t (member-in base i (get_elem? members i) (each_at _ members i all))
      (by-value-pointer In t (λ z k p. index-component base i k p z)
      (by-binding-array s In t w (λ b h. h)
      (no-type _ refl))))))

  pub index-through : (base : RowNumber) (i : ℕ) (ty : TypeNumber) (p : AddressSpace) (members : List TypeNumber)
      (t : TypeInner)
      → BaseInRange s t → Each (λ t. is_type s t ≡ true) members
      → In (index_through base i ty p members t)
  index-through base i ty p members t w all =
      by-array s In t w (λ b h. pointer_in b p h)
      (by-vector In t (λ z k. bounded-in base i _ (value (Ti.ValuePointer None k p)) (value-pointer-in None k p))
      (by-matrix In t (λ c r k. bounded-in base i _ (value (Ti.ValuePointer (Some r) k p))
      (value-pointer-in (Some r) k p))
      (by-struct In t (member-pointer base i p (get_elem? members i) (each_at _ members i all))
      (by-binding-array s In t w (λ b h. pointer_in b p h)
      (no-type _ refl)))))

  -- SPLAT, SWIZZLE

  pub splat-of : (z : VectorSize) (n : RowNumber) (t : TypeInner) → In (splat_of z n t)
  splat-of z n t = by_scalar In t (λ k. vector-in z k) (no-type _ refl)

  pub swizzle-of : (z : VectorSize) (n : RowNumber) (t : TypeInner) → In (swizzle_of z n t)
  swizzle-of z n t = by-vector In t (λ y k. vector-in z k) (no-type _ refl)

  -- ARGUMENTS, VARIABLES, LOAD

  pub argument-in : (i : ℕ) (t : Option TypeNumber) → IfSome (λ t. is_type s t ≡ true) t → In (argument i t)
  argument-in i (some t) h = h
  argument-in i none h = no-type _ refl

  pub variable-in : (t : TypeNumber) (p : AddressSpace) → is_type s t ≡ true → In (variable t p)
  variable-in t Sp.Handle h = h
  variable-in t Sp.Function h = pointer_in t Sp.Function h
  variable-in t Sp.Private h = pointer_in t Sp.Private h
  variable-in t Sp.WorkGroup h = pointer_in t Sp.WorkGroup h
  variable-in t Sp.Uniform h = pointer_in t Sp.Uniform h
  variable-in t (Sp.Storage a) h = pointer_in t (Sp.Storage a) h
  variable-in t Sp.Immediate h = pointer_in t Sp.Immediate h
  variable-in t Sp.TaskPayload h = pointer_in t Sp.TaskPayload h
  variable-in t Sp.RayPayload h = pointer_in t Sp.RayPayload h
  variable-in t Sp.IncomingRayPayload h = pointer_in t Sp.IncomingRayPayload h

  pub pointee-in : (k : Scalar) (z : CodeOption VectorSize) → In (given (value (value_base z k)))
  pointee-in k None = scalar-in k
  pointee-in k (Some z) = vector-in z k

  pub load-through : (base : TypeNumber) (t : TypeInner) → is_type s base ≡ true → In (load_through base t)
  load-through base t h = by-atomic In t (λ k. scalar-in k) h

  pub load-into : (pointer : RowNumber) (t : TypeInner) → BaseInRange s t → In (load_into pointer t)
  load-into pointer (Ti.Scalar x0) h = no-type _ refl
  load-into pointer (Ti.Vector x0 x1) h = no-type _ refl
  load-into pointer (Ti.Matrix x0 x1 x2) h = no-type _ refl
  load-into pointer (Ti.CooperativeMatrix x0 x1 x2 x3) h = no-type _ refl
  load-into pointer (Ti.Atomic x0) h = no-type _ refl
  load-into pointer (Ti.Pointer b p) h = h
  load-into pointer (Ti.ValuePointer z k p) h = pointee-in k z
  load-into pointer (Ti.Array x0 x1 x2) h = no-type _ refl
  load-into pointer (Ti.Struct x0 x1 x2) h = no-type _ refl
  load-into pointer (Ti.Image x0 x1 x2) h = no-type _ refl
  load-into pointer (Ti.Sampler x0) h = no-type _ refl
  load-into pointer (Ti.AccelerationStructure x0) h = no-type _ refl
  load-into pointer (Ti.RayQuery x0) h = no-type _ refl
  load-into pointer (Ti.BindingArray x0 x1) h = no-type _ refl

  -- IMAGES

  pub gathered-of : (image : RowNumber) (t : TypeInner) → In (gathered_of image t)
  gathered-of image t = by-image In t (λ d c. vector-in Vs.Quad (gathered_scalar c)) (no-type _ refl)

  pub sampled-of : (c : ImageClass) → In (given (value (sampled_of c)))
  sampled-of (Ic.Depth m) = scalar-in F32
  sampled-of (Ic.Sampled k m) = vector-in Vs.Quad (sampled_scalar k)
  sampled-of (Ic.Storage f a) = vector-in Vs.Quad (storage_scalar f)
  sampled-of Ic.External = vector-in Vs.Quad F32

  pub size-of : (d : ImageDimension) → In (given (value (size_of d)))
  size-of Id.D1 = scalar-in U32
  size-of Id.D2 = vector-in Vs.Bi U32
  size-of Id.Cube = vector-in Vs.Bi U32
  size-of Id.D3 = vector-in Vs.Tri U32

  pub image-size-of : (image : RowNumber) (t : TypeInner) → In (image_size_of image t)
  image-size-of image t = by-image In t (λ d c. size-of d) (no-type _ refl)

  -- OPERATORS

  pub times-scalar : (a : TypeAnswer) (y : TypeInner) → TypeInRange s a → In (times_scalar a y)
  times-scalar a y h = by_scalar In y (λ j. h) (no-type _ refl)

  pub product-in : (a b : TypeAnswer) (x y : TypeInner) → TypeInRange s a → TypeInRange s b → In (product a b x y)
  product-in a b x y g h =
      by-matrix In x (λ c r k. by-matrix In y (λ d q j. matrix-in d r k)
      (by-vector In y (λ z j. vector-in r k) (times-scalar a y g)))
      (by-vector In x (λ z k. by-matrix In y (λ d q j. vector-in d j) (by-vector In y (λ z j. g) (times-scalar a y g)))
      (by_scalar In x (λ k. h)
      (by-cooperative-matrix In x
      (λ c r k o. by-cooperative-matrix In y (λ d q j w. cooperative-in d r k o) (times-scalar a y g))
      (times-scalar a y g))))

  pub bools-of : (t : TypeInner) → In (bools_of t)
  bools-of t = by_scalar In t (λ k. scalar-in BOOL) (by-vector In t (λ z k. vector-in z BOOL) (no-type _ refl))

  pub logical-of : (t : TypeInner) → In (logical_of t)
  logical-of t = by_scalar In t (λ k. by-test In (equal_scalars k BOOL) (λ q. scalar-in BOOL) (λ q. no-type _ refl))
      (no-type _ refl)

  pub cast-of : (to : ScalarKind) (convert : CodeOption Width) (t : TypeInner) → In (cast_of to convert t)
  cast-of to convert t =
      by_scalar In t (λ k. scalar-in k)
      (by-vector In t (λ z k. vector-in z k) (by-matrix In t (λ c r k. matrix-in c r k) (no-type _ refl)))

  -- RESULTS

  pub result-of : (r : CodeOption TypeNumber) → result_names s r ≡ true → In (result_of r)
  result-of (Some t) h = h
  result-of None h = no-type _ refl

  pub special-in : (t : Option TypeNumber) → IfSome (λ t. is_type s t ≡ true) t → In (special t)
  special-in (some t) h = h
  special-in none h = no-type _ refl

  pub cooperative-of : (c r : CooperativeSize) (o : CooperativeRole) (pointer : RowNumber) (k : CodeOption Scalar)
      → In (cooperative_of c r o pointer k)
  cooperative-of c r o pointer (Some k) = cooperative-in c r k o
  cooperative-of c r o pointer None = no-type _ refl

-- IN THE SECOND PASS: what a line of WGSL's tables gives is a scalar, a vector or a matrix
module _ (s : Starts) where
  line-in : {op : BinaryOperator} {x y t : TypeInner} → Wgsl op x y t → TypedInRange Pa.Second s (given (value t))
  line-in Wgsl.logical-or = scalar-in Pa.Second s BOOL
  line-in Wgsl.logical-and = scalar-in Pa.Second s BOOL
  line-in (Wgsl.or-bools n) = pointee-in Pa.Second s BOOL n
  line-in (Wgsl.and-bools n) = pointee-in Pa.Second s BOOL n
  line-in (Wgsl.add n k h) = pointee-in Pa.Second s k n
  line-in (Wgsl.subtract n k h) = pointee-in Pa.Second s k n
  line-in (Wgsl.multiply n k h) = pointee-in Pa.Second s k n
  line-in (Wgsl.divide n k h) = pointee-in Pa.Second s k n
  line-in (Wgsl.modulo n k h) = pointee-in Pa.Second s k n
  line-in (Wgsl.add-vector-scalar n k h) = vector-in Pa.Second s n k
  line-in (Wgsl.add-scalar-vector n k h) = vector-in Pa.Second s n k
  line-in (Wgsl.subtract-vector-scalar n k h) = vector-in Pa.Second s n k
  line-in (Wgsl.subtract-scalar-vector n k h) = vector-in Pa.Second s n k
  line-in (Wgsl.multiply-vector-scalar n k h) = vector-in Pa.Second s n k
  line-in (Wgsl.multiply-scalar-vector n k h) = vector-in Pa.Second s n k
  line-in (Wgsl.divide-vector-scalar n k h) = vector-in Pa.Second s n k
  line-in (Wgsl.divide-scalar-vector n k h) = vector-in Pa.Second s n k
  line-in (Wgsl.modulo-vector-scalar n k h) = vector-in Pa.Second s n k
  line-in (Wgsl.modulo-scalar-vector n k h) = vector-in Pa.Second s n k
  line-in (Wgsl.add-matrices c r k h) = matrix-in Pa.Second s c r k
  line-in (Wgsl.subtract-matrices c r k h) = matrix-in Pa.Second s c r k
  line-in (Wgsl.matrix-scalar c r k h) = matrix-in Pa.Second s c r k
  line-in (Wgsl.scalar-matrix c r k h) = matrix-in Pa.Second s c r k
  line-in (Wgsl.matrix-vector c r k h) = vector-in Pa.Second s r k
  line-in (Wgsl.vector-matrix c r k h) = vector-in Pa.Second s c k
  line-in (Wgsl.matrix-matrix c q r k h) = matrix-in Pa.Second s c r k
  line-in (Wgsl.equal n k h) = pointee-in Pa.Second s BOOL n
  line-in (Wgsl.not_equal n k h) = pointee-in Pa.Second s BOOL n
  line-in (Wgsl.less n k h) = pointee-in Pa.Second s BOOL n
  line-in (Wgsl.less_equal n k h) = pointee-in Pa.Second s BOOL n
  line-in (Wgsl.greater n k h) = pointee-in Pa.Second s BOOL n
  line-in (Wgsl.greater-equal n k h) = pointee-in Pa.Second s BOOL n
  line-in (Wgsl.or-bits n k h) = pointee-in Pa.Second s k n
  line-in (Wgsl.and-bits n k h) = pointee-in Pa.Second s k n
  line-in (Wgsl.xor-bits n k h) = pointee-in Pa.Second s k n
  line-in (Wgsl.shift-left n k h) = pointee-in Pa.Second s k n
  line-in (Wgsl.shift-right n k h) = pointee-in Pa.Second s k n

  pub wgsl-in : (op : BinaryOperator) (x y : TypeInner) → TypedInRange Pa.Second s (or_mismatch (wgsl_result op x y))
  wgsl-in op x y = go (wgsl_result op x y) refl
    where
      go : (o : Option TypeInner) → wgsl_result op x y ≡ o → TypedInRange Pa.Second s (or_mismatch o)
      go none q = record { number_is = refl }
      go (some t) q = line-in ((wgsl-is op x y t).0 q)
