-- SELECTORS: what holds of the cases of two types, of which the second is the first with its numbers moved, and of
-- their rests, holds of what they select. Moving a type keeps its kind.
use Rattle.std.specs.Prelude.{Option}
use Rattle.ir.specs.declared.TypeNumber.{TypeNumber}
use Rattle.ir.specs.declared.VectorSize.{VectorSize}
use Rattle.ir.specs.declared.CooperativeSize.{CooperativeSize}
use Rattle.ir.specs.declared.CooperativeRole.{CooperativeRole}
use Rattle.ir.specs.declared.Scalar.{Scalar}
use Rattle.ir.specs.declared.AddressSpace.{AddressSpace}
use Rattle.ir.specs.declared.ImageDimension.{ImageDimension}
use Rattle.ir.specs.declared.ImageClass.{ImageClass}
use Rattle.ir.specs.declared.TypeInner.{TypeInner}
use Rattle.ir.specs.declared.TypeInner.TheVariants as Ti
use Rattle.rule_types.specs.Canonical.{if_pointer}
use Rattle.rule_rows.specs.Selectors.{if_scalar, if_vector, if_matrix, if_cooperative_matrix, if_atomic}
use Rattle.rule_rows.specs.Selectors.{if_value_pointer}
use Rattle.rule_rows.specs.Selectors.{if_array, if_struct, if_image, if_binding_array}
use Rattle.law_moved.specs.Moves.{Moves, type_to, inner_to}

module _ (m : Moves) {X Y : Type 0} (S : X → Y → Type 0) where
  pub to-scalar : (t : TypeInner) {f : Scalar → X} {rest : X} {g : Scalar → Y} {last : Y}
      → ((k : Scalar) → S (f k) (g k))
      → S rest last → S (if_scalar t f rest) (if_scalar (inner_to m t) g last)
  to-scalar (Ti.Scalar k) h r = h k
  to-scalar (Ti.Vector z k) h r = r
  to-scalar (Ti.Matrix c j k) h r = r
  to-scalar (Ti.CooperativeMatrix c j k o) h r = r
  to-scalar (Ti.Atomic k) h r = r
  to-scalar (Ti.Pointer b p) h r = r
  to-scalar (Ti.ValuePointer z k p) h r = r
  to-scalar (Ti.Array b z t) h r = r
  to-scalar (Ti.Struct f n t) h r = r
  to-scalar (Ti.Image d a c) h r = r
  to-scalar (Ti.Sampler q) h r = r
  to-scalar (Ti.AccelerationStructure q) h r = r
  to-scalar (Ti.RayQuery q) h r = r
  to-scalar (Ti.BindingArray b z) h r = r

  pub to_vector : (t : TypeInner) {f : VectorSize → Scalar → X} {rest : X} {g : VectorSize → Scalar → Y} {last : Y}
      → ((z : VectorSize) (k : Scalar) → S (f z k) (g z k)) → S rest last
      → S (if_vector t f rest) (if_vector (inner_to m t) g last)
  to_vector (Ti.Scalar k) h r = r
  to_vector (Ti.Vector z k) h r = h z k
  to_vector (Ti.Matrix c j k) h r = r
  to_vector (Ti.CooperativeMatrix c j k o) h r = r
  to_vector (Ti.Atomic k) h r = r
  to_vector (Ti.Pointer b p) h r = r
  to_vector (Ti.ValuePointer z k p) h r = r
  to_vector (Ti.Array b z t) h r = r
  to_vector (Ti.Struct f n t) h r = r
  to_vector (Ti.Image d a c) h r = r
  to_vector (Ti.Sampler q) h r = r
  to_vector (Ti.AccelerationStructure q) h r = r
  to_vector (Ti.RayQuery q) h r = r
  to_vector (Ti.BindingArray b z) h r = r

  pub to-matrix : (t : TypeInner) {f : VectorSize → VectorSize → Scalar → X} {rest : X}
      {g : VectorSize → VectorSize → Scalar → Y} {last : Y} → ((c r : VectorSize) (k : Scalar) → S (f c r k) (g c r k))
      → S rest last → S (if_matrix t f rest) (if_matrix (inner_to m t) g last)
  to-matrix (Ti.Scalar k) h r = r
  to-matrix (Ti.Vector z k) h r = r
  to-matrix (Ti.Matrix c j k) h r = h c j k
  to-matrix (Ti.CooperativeMatrix c j k o) h r = r
  to-matrix (Ti.Atomic k) h r = r
  to-matrix (Ti.Pointer b p) h r = r
  to-matrix (Ti.ValuePointer z k p) h r = r
  to-matrix (Ti.Array b z t) h r = r
  to-matrix (Ti.Struct f n t) h r = r
  to-matrix (Ti.Image d a c) h r = r
  to-matrix (Ti.Sampler q) h r = r
  to-matrix (Ti.AccelerationStructure q) h r = r
  to-matrix (Ti.RayQuery q) h r = r
  to-matrix (Ti.BindingArray b z) h r = r

  pub to-cooperative : (t : TypeInner) {f : CooperativeSize → CooperativeSize → Scalar → CooperativeRole → X} {rest : X}
      {g : CooperativeSize → CooperativeSize → Scalar → CooperativeRole → Y} {last : Y}
      → ((c r : CooperativeSize) (k : Scalar) (o : CooperativeRole) → S (f c r k o) (g c r k o)) → S rest last
      → S (if_cooperative_matrix t f rest) (if_cooperative_matrix (inner_to m t) g last)
  to-cooperative (Ti.Scalar k) h r = r
  to-cooperative (Ti.Vector z k) h r = r
  to-cooperative (Ti.Matrix c j k) h r = r
  to-cooperative (Ti.CooperativeMatrix c j k o) h r = h c j k o
  to-cooperative (Ti.Atomic k) h r = r
  to-cooperative (Ti.Pointer b p) h r = r
  to-cooperative (Ti.ValuePointer z k p) h r = r
  to-cooperative (Ti.Array b z t) h r = r
  to-cooperative (Ti.Struct f n t) h r = r
  to-cooperative (Ti.Image d a c) h r = r
  to-cooperative (Ti.Sampler q) h r = r
  to-cooperative (Ti.AccelerationStructure q) h r = r
  to-cooperative (Ti.RayQuery q) h r = r
  to-cooperative (Ti.BindingArray b z) h r = r

  pub to-atomic : (t : TypeInner) {f : Scalar → X} {rest : X} {g : Scalar → Y} {last : Y}
      → ((k : Scalar) → S (f k) (g k))
      → S rest last → S (if_atomic t f rest) (if_atomic (inner_to m t) g last)
  to-atomic (Ti.Scalar k) h r = r
  to-atomic (Ti.Vector z k) h r = r
  to-atomic (Ti.Matrix c j k) h r = r
  to-atomic (Ti.CooperativeMatrix c j k o) h r = r
  to-atomic (Ti.Atomic k) h r = h k
  to-atomic (Ti.Pointer b p) h r = r
  to-atomic (Ti.ValuePointer z k p) h r = r
  to-atomic (Ti.Array b z t) h r = r
  to-atomic (Ti.Struct f n t) h r = r
  to-atomic (Ti.Image d a c) h r = r
  to-atomic (Ti.Sampler q) h r = r
  to-atomic (Ti.AccelerationStructure q) h r = r
  to-atomic (Ti.RayQuery q) h r = r
  to-atomic (Ti.BindingArray b z) h r = r

  pub to-value-pointer : (t : TypeInner) {f : Option VectorSize → Scalar → AddressSpace → X} {rest : X}
      {g : Option VectorSize → Scalar → AddressSpace → Y} {last : Y}
      → ((z : Option VectorSize) (k : Scalar) (p : AddressSpace) → S (f z k p) (g z k p)) → S rest last
      → S (if_value_pointer t f rest) (if_value_pointer (inner_to m t) g last)
  to-value-pointer (Ti.Scalar k) h r = r
  to-value-pointer (Ti.Vector z k) h r = r
  to-value-pointer (Ti.Matrix c j k) h r = r
  to-value-pointer (Ti.CooperativeMatrix c j k o) h r = r
  to-value-pointer (Ti.Atomic k) h r = r
  to-value-pointer (Ti.Pointer b p) h r = r
  to-value-pointer (Ti.ValuePointer z k p) h r = h z k p
  to-value-pointer (Ti.Array b z t) h r = r
  to-value-pointer (Ti.Struct f n t) h r = r
  to-value-pointer (Ti.Image d a c) h r = r
  to-value-pointer (Ti.Sampler q) h r = r
  to-value-pointer (Ti.AccelerationStructure q) h r = r
  to-value-pointer (Ti.RayQuery q) h r = r
  to-value-pointer (Ti.BindingArray b z) h r = r

  pub to-array : (t : TypeInner) {f : TypeNumber → X} {rest : X} (g : TypeNumber → Y) {last : Y}
      → ((b : TypeNumber) → S (f b) (g (type_to m b))) → S rest last
      → S (if_array t f rest) (if_array (inner_to m t) g last)
  to-array (Ti.Scalar k) g h r = r
  to-array (Ti.Vector z k) g h r = r
  to-array (Ti.Matrix c j k) g h r = r
  to-array (Ti.CooperativeMatrix c j k o) g h r = r
  to-array (Ti.Atomic k) g h r = r
  to-array (Ti.Pointer b p) g h r = r
  to-array (Ti.ValuePointer z k p) g h r = r
  to-array (Ti.Array b z t) g h r = h b
  to-array (Ti.Struct f n t) g h r = r
  to-array (Ti.Image d a c) g h r = r
  to-array (Ti.Sampler q) g h r = r
  to-array (Ti.AccelerationStructure q) g h r = r
  to-array (Ti.RayQuery q) g h r = r
  to-array (Ti.BindingArray b z) g h r = r

  pub to-image : (t : TypeInner) {f : ImageDimension → ImageClass → X} {rest : X} {g : ImageDimension → ImageClass → Y}
      {last : Y} → ((d : ImageDimension) (c : ImageClass) → S (f d c) (g d c)) → S rest last
      → S (if_image t f rest) (if_image (inner_to m t) g last)
  to-image (Ti.Scalar k) h r = r
  to-image (Ti.Vector z k) h r = r
  to-image (Ti.Matrix c j k) h r = r
  to-image (Ti.CooperativeMatrix c j k o) h r = r
  to-image (Ti.Atomic k) h r = r
  to-image (Ti.Pointer b p) h r = r
  to-image (Ti.ValuePointer z k p) h r = r
  to-image (Ti.Array b z t) h r = r
  to-image (Ti.Struct f n t) h r = r
  to-image (Ti.Image d a c) h r = h d c
  to-image (Ti.Sampler q) h r = r
  to-image (Ti.AccelerationStructure q) h r = r
  to-image (Ti.RayQuery q) h r = r
  to-image (Ti.BindingArray b z) h r = r

  pub to-binding-array : (t : TypeInner) {f : TypeNumber → X} {rest : X} (g : TypeNumber → Y) {last : Y}
      → ((b : TypeNumber) → S (f b) (g (type_to m b))) → S rest last
      → S (if_binding_array t f rest) (if_binding_array (inner_to m t) g last)
  to-binding-array (Ti.Scalar k) g h r = r
  to-binding-array (Ti.Vector z k) g h r = r
  to-binding-array (Ti.Matrix c j k) g h r = r
  to-binding-array (Ti.CooperativeMatrix c j k o) g h r = r
  to-binding-array (Ti.Atomic k) g h r = r
  to-binding-array (Ti.Pointer b p) g h r = r
  to-binding-array (Ti.ValuePointer z k p) g h r = r
  to-binding-array (Ti.Array b z t) g h r = r
  to-binding-array (Ti.Struct f n t) g h r = r
  to-binding-array (Ti.Image d a c) g h r = r
  to-binding-array (Ti.Sampler q) g h r = r
  to-binding-array (Ti.AccelerationStructure q) g h r = r
  to-binding-array (Ti.RayQuery q) g h r = r
  to-binding-array (Ti.BindingArray b z) g h r = h b

  pub to-pointer : (t : TypeInner) {f : TypeNumber → AddressSpace → X} {rest : X}
      (g : TypeNumber → AddressSpace → Y) {last : Y}
      → ((b : TypeNumber) (p : AddressSpace) → S (f b p) (g (type_to m b) p)) → S rest last
      → S (if_pointer t f rest) (if_pointer (inner_to m t) g last)
  to-pointer (Ti.Scalar k) g h r = r
  to-pointer (Ti.Vector z k) g h r = r
  to-pointer (Ti.Matrix c j k) g h r = r
  to-pointer (Ti.CooperativeMatrix c j k o) g h r = r
  to-pointer (Ti.Atomic k) g h r = r
  to-pointer (Ti.Pointer b p) g h r = h b p
  to-pointer (Ti.ValuePointer z k p) g h r = r
  to-pointer (Ti.Array b z t) g h r = r
  to-pointer (Ti.Struct f n t) g h r = r
  to-pointer (Ti.Image d a c) g h r = r
  to-pointer (Ti.Sampler q) g h r = r
  to-pointer (Ti.AccelerationStructure q) g h r = r
  to-pointer (Ti.RayQuery q) g h r = r
  to-pointer (Ti.BindingArray b z) g h r = r

  pub to-struct : (t : TypeInner) {x rest : X} {y last : Y} → S x y → S rest last
      → S (if_struct t x rest) (if_struct (inner_to m t) y last)
  to-struct (Ti.Scalar k) h r = r
  to-struct (Ti.Vector z k) h r = r
  to-struct (Ti.Matrix c j k) h r = r
  to-struct (Ti.CooperativeMatrix c j k o) h r = r
  to-struct (Ti.Atomic k) h r = r
  to-struct (Ti.Pointer b p) h r = r
  to-struct (Ti.ValuePointer z k p) h r = r
  to-struct (Ti.Array b z t) h r = r
  to-struct (Ti.Struct f n t) h r = h
  to-struct (Ti.Image d a c) h r = r
  to-struct (Ti.Sampler q) h r = r
  to-struct (Ti.AccelerationStructure q) h r = r
  to-struct (Ti.RayQuery q) h r = r
  to-struct (Ti.BindingArray b z) h r = r
