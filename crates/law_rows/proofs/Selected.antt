-- What holds of a selector's outcome: what holds of the case that it treats, and of the rest. By the cases of a type.
use Rattle.std.specs.Prelude.{Option}
use mathlib.Core.Path.{◌≡◌}
use mathlib.Core.Bool.{true}
use Rattle.ir.specs.declared.TypeNumber.{TypeNumber}
use Rattle.ir.specs.declared.VectorSize.{VectorSize}
use Rattle.ir.specs.declared.CooperativeSize.{CooperativeSize}
use Rattle.ir.specs.declared.CooperativeRole.{CooperativeRole}
use Rattle.ir.specs.declared.Scalar.{Scalar}
use Rattle.ir.specs.declared.AddressSpace.{AddressSpace}
use Rattle.ir.specs.declared.ImageDimension.{ImageDimension}
use Rattle.ir.specs.declared.ImageClass.{ImageClass}
use Rattle.ir.specs.declared.TypeInner.{TypeInner}
use Rattle.ir.specs.declared.TypeInner.TheVariants as Ti
use Rattle.archive.specs.declared.Starts.{Starts}
use Rattle.archive.specs.Names.{is_type}
use Rattle.rule_types.specs.Canonical.{if_pointer}
use Rattle.rule_rows.specs.Selectors.{if_scalar, if_vector, if_matrix, if_cooperative_matrix, if_atomic}
use Rattle.rule_rows.specs.Selectors.{if_value_pointer}
use Rattle.rule_rows.specs.Selectors.{if_array, if_struct, if_image, if_binding_array}
use Rattle.law_rows.proofs.Ranged.{BaseInRange}

module _ {X : Type 0} (P : X → Type 0) where
  pub by_scalar : (t : TypeInner) {f : Scalar → X} {rest : X} → ((k : Scalar) → P (f k)) → P rest
      → P (if_scalar t f rest)
  by_scalar (Ti.Scalar k) h rest_in = h k
  by_scalar (Ti.Vector z k) h rest_in = rest_in
  by_scalar (Ti.Matrix c j k) h rest_in = rest_in
  by_scalar (Ti.CooperativeMatrix c j k o) h rest_in = rest_in
  by_scalar (Ti.Atomic k) h rest_in = rest_in
  by_scalar (Ti.Pointer b p) h rest_in = rest_in
  by_scalar (Ti.ValuePointer z k p) h rest_in = rest_in
  by_scalar (Ti.Array b z t) h rest_in = rest_in
  by_scalar (Ti.Struct m n t) h rest_in = rest_in
  by_scalar (Ti.Image d a c) h rest_in = rest_in
  by_scalar (Ti.Sampler q) h rest_in = rest_in
  by_scalar (Ti.AccelerationStructure q) h rest_in = rest_in
  by_scalar (Ti.RayQuery q) h rest_in = rest_in
  by_scalar (Ti.BindingArray b z) h rest_in = rest_in

  pub by-vector : (t : TypeInner) {f : VectorSize → Scalar → X} {rest : X} → ((z : VectorSize) (k : Scalar) → P (f z k))
      → P rest
      → P (if_vector t f rest)
  by-vector (Ti.Scalar k) h rest_in = rest_in
  by-vector (Ti.Vector z k) h rest_in = h z k
  by-vector (Ti.Matrix c j k) h rest_in = rest_in
  by-vector (Ti.CooperativeMatrix c j k o) h rest_in = rest_in
  by-vector (Ti.Atomic k) h rest_in = rest_in
  by-vector (Ti.Pointer b p) h rest_in = rest_in
  by-vector (Ti.ValuePointer z k p) h rest_in = rest_in
  by-vector (Ti.Array b z t) h rest_in = rest_in
  by-vector (Ti.Struct m n t) h rest_in = rest_in
  by-vector (Ti.Image d a c) h rest_in = rest_in
  by-vector (Ti.Sampler q) h rest_in = rest_in
  by-vector (Ti.AccelerationStructure q) h rest_in = rest_in
  by-vector (Ti.RayQuery q) h rest_in = rest_in
  by-vector (Ti.BindingArray b z) h rest_in = rest_in

  pub by-matrix : (t : TypeInner) {f : VectorSize → VectorSize → Scalar → X} {rest : X}
      → ((c r : VectorSize) (k : Scalar) → P (f c r k))
      → P rest → P (if_matrix t f rest)
  by-matrix (Ti.Scalar k) h rest_in = rest_in
  by-matrix (Ti.Vector z k) h rest_in = rest_in
  by-matrix (Ti.Matrix c j k) h rest_in = h c j k
  by-matrix (Ti.CooperativeMatrix c j k o) h rest_in = rest_in
  by-matrix (Ti.Atomic k) h rest_in = rest_in
  by-matrix (Ti.Pointer b p) h rest_in = rest_in
  by-matrix (Ti.ValuePointer z k p) h rest_in = rest_in
  by-matrix (Ti.Array b z t) h rest_in = rest_in
  by-matrix (Ti.Struct m n t) h rest_in = rest_in
  by-matrix (Ti.Image d a c) h rest_in = rest_in
  by-matrix (Ti.Sampler q) h rest_in = rest_in
  by-matrix (Ti.AccelerationStructure q) h rest_in = rest_in
  by-matrix (Ti.RayQuery q) h rest_in = rest_in
  by-matrix (Ti.BindingArray b z) h rest_in = rest_in

  pub by-cooperative-matrix :
      (t : TypeInner) {f : CooperativeSize → CooperativeSize → Scalar → CooperativeRole → X} {rest : X}
      → ((c r : CooperativeSize) (k : Scalar) (o : CooperativeRole) → P (f c r k o)) → P rest
      → P (if_cooperative_matrix t f rest)
  by-cooperative-matrix (Ti.Scalar k) h rest_in = rest_in
  by-cooperative-matrix (Ti.Vector z k) h rest_in = rest_in
  by-cooperative-matrix (Ti.Matrix c j k) h rest_in = rest_in
  by-cooperative-matrix (Ti.CooperativeMatrix c j k o) h rest_in = h c j k o
  by-cooperative-matrix (Ti.Atomic k) h rest_in = rest_in
  by-cooperative-matrix (Ti.Pointer b p) h rest_in = rest_in
  by-cooperative-matrix (Ti.ValuePointer z k p) h rest_in = rest_in
  by-cooperative-matrix (Ti.Array b z t) h rest_in = rest_in
  by-cooperative-matrix (Ti.Struct m n t) h rest_in = rest_in
  by-cooperative-matrix (Ti.Image d a c) h rest_in = rest_in
  by-cooperative-matrix (Ti.Sampler q) h rest_in = rest_in
  by-cooperative-matrix (Ti.AccelerationStructure q) h rest_in = rest_in
  by-cooperative-matrix (Ti.RayQuery q) h rest_in = rest_in
  by-cooperative-matrix (Ti.BindingArray b z) h rest_in = rest_in

  pub by-atomic : (t : TypeInner) {f : Scalar → X} {rest : X} → ((k : Scalar) → P (f k)) → P rest
      → P (if_atomic t f rest)
  by-atomic (Ti.Scalar k) h rest_in = rest_in
  by-atomic (Ti.Vector z k) h rest_in = rest_in
  by-atomic (Ti.Matrix c j k) h rest_in = rest_in
  by-atomic (Ti.CooperativeMatrix c j k o) h rest_in = rest_in
  by-atomic (Ti.Atomic k) h rest_in = h k
  by-atomic (Ti.Pointer b p) h rest_in = rest_in
  by-atomic (Ti.ValuePointer z k p) h rest_in = rest_in
  by-atomic (Ti.Array b z t) h rest_in = rest_in
  by-atomic (Ti.Struct m n t) h rest_in = rest_in
  by-atomic (Ti.Image d a c) h rest_in = rest_in
  by-atomic (Ti.Sampler q) h rest_in = rest_in
  by-atomic (Ti.AccelerationStructure q) h rest_in = rest_in
  by-atomic (Ti.RayQuery q) h rest_in = rest_in
  by-atomic (Ti.BindingArray b z) h rest_in = rest_in

  pub by-value-pointer : (t : TypeInner) {f : Option VectorSize → Scalar → AddressSpace → X} {rest : X}
      → ((z : Option VectorSize) (k : Scalar) (p : AddressSpace) → P (f z k p)) → P rest → P (if_value_pointer t f rest)
  by-value-pointer (Ti.Scalar k) h rest_in = rest_in
  by-value-pointer (Ti.Vector z k) h rest_in = rest_in
  by-value-pointer (Ti.Matrix c j k) h rest_in = rest_in
  by-value-pointer (Ti.CooperativeMatrix c j k o) h rest_in = rest_in
  by-value-pointer (Ti.Atomic k) h rest_in = rest_in
  by-value-pointer (Ti.Pointer b p) h rest_in = rest_in
  by-value-pointer (Ti.ValuePointer z k p) h rest_in = h z k p
  by-value-pointer (Ti.Array b z t) h rest_in = rest_in
  by-value-pointer (Ti.Struct m n t) h rest_in = rest_in
  by-value-pointer (Ti.Image d a c) h rest_in = rest_in
  by-value-pointer (Ti.Sampler q) h rest_in = rest_in
  by-value-pointer (Ti.AccelerationStructure q) h rest_in = rest_in
  by-value-pointer (Ti.RayQuery q) h rest_in = rest_in
  by-value-pointer (Ti.BindingArray b z) h rest_in = rest_in

  pub by-image : (t : TypeInner) {f : ImageDimension → ImageClass → X} {rest : X}
      → ((d : ImageDimension) (c : ImageClass) → P (f d c))
      → P rest → P (if_image t f rest)
  by-image (Ti.Scalar k) h rest_in = rest_in
  by-image (Ti.Vector z k) h rest_in = rest_in
  by-image (Ti.Matrix c j k) h rest_in = rest_in
  by-image (Ti.CooperativeMatrix c j k o) h rest_in = rest_in
  by-image (Ti.Atomic k) h rest_in = rest_in
  by-image (Ti.Pointer b p) h rest_in = rest_in
  by-image (Ti.ValuePointer z k p) h rest_in = rest_in
  by-image (Ti.Array b z t) h rest_in = rest_in
  by-image (Ti.Struct m n t) h rest_in = rest_in
  by-image (Ti.Image d a c) h rest_in = h d c
  by-image (Ti.Sampler q) h rest_in = rest_in
  by-image (Ti.AccelerationStructure q) h rest_in = rest_in
  by-image (Ti.RayQuery q) h rest_in = rest_in
  by-image (Ti.BindingArray b z) h rest_in = rest_in

  pub by-struct : (t : TypeInner) {x : X} {rest : X} → P x → P rest → P (if_struct t x rest)
  by-struct (Ti.Scalar k) h rest_in = rest_in
  by-struct (Ti.Vector z k) h rest_in = rest_in
  by-struct (Ti.Matrix c j k) h rest_in = rest_in
  by-struct (Ti.CooperativeMatrix c j k o) h rest_in = rest_in
  by-struct (Ti.Atomic k) h rest_in = rest_in
  by-struct (Ti.Pointer b p) h rest_in = rest_in
  by-struct (Ti.ValuePointer z k p) h rest_in = rest_in
  by-struct (Ti.Array b z t) h rest_in = rest_in
  by-struct (Ti.Struct m n t) h rest_in = h
  by-struct (Ti.Image d a c) h rest_in = rest_in
  by-struct (Ti.Sampler q) h rest_in = rest_in
  by-struct (Ti.AccelerationStructure q) h rest_in = rest_in
  by-struct (Ti.RayQuery q) h rest_in = rest_in
  by-struct (Ti.BindingArray b z) h rest_in = rest_in

-- of a type that names another: the number of its base is in range
module _ {X : Type 0} (s : Starts) (P : X → Type 0) where
  pub by-pointer : (t : TypeInner) {f : TypeNumber → AddressSpace → X} {rest : X} → BaseInRange s t
      → ((b : TypeNumber) (p : AddressSpace) → is_type s b ≡ true → P (f b p)) → P rest → P (if_pointer t f rest)
  by-pointer (Ti.Scalar k) w h rest_in = rest_in
  by-pointer (Ti.Vector z k) w h rest_in = rest_in
  by-pointer (Ti.Matrix c j k) w h rest_in = rest_in
  by-pointer (Ti.CooperativeMatrix c j k o) w h rest_in = rest_in
  by-pointer (Ti.Atomic k) w h rest_in = rest_in
  by-pointer (Ti.Pointer b p) w h rest_in = h b p w
  by-pointer (Ti.ValuePointer z k p) w h rest_in = rest_in
  by-pointer (Ti.Array b z t) w h rest_in = rest_in
  by-pointer (Ti.Struct m n t) w h rest_in = rest_in
  by-pointer (Ti.Image d a c) w h rest_in = rest_in
  by-pointer (Ti.Sampler q) w h rest_in = rest_in
  by-pointer (Ti.AccelerationStructure q) w h rest_in = rest_in
  by-pointer (Ti.RayQuery q) w h rest_in = rest_in
  by-pointer (Ti.BindingArray b z) w h rest_in = rest_in

  pub by-array : (t : TypeInner) {f : TypeNumber → X} {rest : X} → BaseInRange s t
      → ((b : TypeNumber) → is_type s b ≡ true → P (f b))
      → P rest → P (if_array t f rest)
  by-array (Ti.Scalar k) w h rest_in = rest_in
  by-array (Ti.Vector z k) w h rest_in = rest_in
  by-array (Ti.Matrix c j k) w h rest_in = rest_in
  by-array (Ti.CooperativeMatrix c j k o) w h rest_in = rest_in
  by-array (Ti.Atomic k) w h rest_in = rest_in
  by-array (Ti.Pointer b p) w h rest_in = rest_in
  by-array (Ti.ValuePointer z k p) w h rest_in = rest_in
  by-array (Ti.Array b z t) w h rest_in = h b w
  by-array (Ti.Struct m n t) w h rest_in = rest_in
  by-array (Ti.Image d a c) w h rest_in = rest_in
  by-array (Ti.Sampler q) w h rest_in = rest_in
  by-array (Ti.AccelerationStructure q) w h rest_in = rest_in
  by-array (Ti.RayQuery q) w h rest_in = rest_in
  by-array (Ti.BindingArray b z) w h rest_in = rest_in

  pub by-binding-array : (t : TypeInner) {f : TypeNumber → X} {rest : X} → BaseInRange s t
      → ((b : TypeNumber) → is_type s b ≡ true → P (f b)) → P rest → P (if_binding_array t f rest)
  by-binding-array (Ti.Scalar k) w h rest_in = rest_in
  by-binding-array (Ti.Vector z k) w h rest_in = rest_in
  by-binding-array (Ti.Matrix c j k) w h rest_in = rest_in
  by-binding-array (Ti.CooperativeMatrix c j k o) w h rest_in = rest_in
  by-binding-array (Ti.Atomic k) w h rest_in = rest_in
  by-binding-array (Ti.Pointer b p) w h rest_in = rest_in
  by-binding-array (Ti.ValuePointer z k p) w h rest_in = rest_in
  by-binding-array (Ti.Array b z t) w h rest_in = rest_in
  by-binding-array (Ti.Struct m n t) w h rest_in = rest_in
  by-binding-array (Ti.Image d a c) w h rest_in = rest_in
  by-binding-array (Ti.Sampler q) w h rest_in = rest_in
  by-binding-array (Ti.AccelerationStructure q) w h rest_in = rest_in
  by-binding-array (Ti.RayQuery q) w h rest_in = rest_in
  by-binding-array (Ti.BindingArray b z) w h rest_in = h b w
