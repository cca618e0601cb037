-- One case of a type, and the rest: what a rule asks of the inner form that it looks into, where it treats some cases
-- and refuses or passes on every other. `if_pointer` stands in rule_types/specs/Canonical.antt. Document 01, "A row's
-- type".
use Rattle.std.specs.Prelude.{Option}
use Rattle.ir.specs.declared.TypeNumber.{TypeNumber}
use Rattle.ir.specs.declared.VectorSize.{VectorSize}
use Rattle.ir.specs.declared.CooperativeSize.{CooperativeSize}
use Rattle.ir.specs.declared.CooperativeRole.{CooperativeRole}
use Rattle.ir.specs.declared.Scalar.{Scalar}
use Rattle.ir.specs.declared.AddressSpace.{AddressSpace}
use Rattle.ir.specs.declared.ImageDimension.{ImageDimension}
use Rattle.ir.specs.declared.ImageClass.{ImageClass}
use Rattle.ir.specs.declared.TypeInner.{TypeInner}
use Rattle.ir.specs.declared.TypeInner.TheVariants as Ti

-- of a scalar type what is asked with its scalar, of every other type the rest
abbrev pub if_scalar : {X : Type 0} → TypeInner → (Scalar → X) → X → X
if_scalar (Ti.Scalar k) f rest = f k
if_scalar (Ti.Vector z k) f rest = rest
if_scalar (Ti.Matrix c r k) f rest = rest
if_scalar (Ti.CooperativeMatrix c r k o) f rest = rest
if_scalar (Ti.Atomic k) f rest = rest
if_scalar (Ti.Pointer b p) f rest = rest
if_scalar (Ti.ValuePointer z k p) f rest = rest
if_scalar (Ti.Array b z t) f rest = rest
if_scalar (Ti.Struct m n t) f rest = rest
if_scalar (Ti.Image d a c) f rest = rest
if_scalar (Ti.Sampler q) f rest = rest
if_scalar (Ti.AccelerationStructure q) f rest = rest
if_scalar (Ti.RayQuery q) f rest = rest
if_scalar (Ti.BindingArray b z) f rest = rest

-- of a vector, with its size and scalar
abbrev pub if_vector : {X : Type 0} → TypeInner → (VectorSize → Scalar → X) → X → X
if_vector (Ti.Scalar k) f rest = rest
if_vector (Ti.Vector z k) f rest = f z k
if_vector (Ti.Matrix c r k) f rest = rest
if_vector (Ti.CooperativeMatrix c r k o) f rest = rest
if_vector (Ti.Atomic k) f rest = rest
if_vector (Ti.Pointer b p) f rest = rest
if_vector (Ti.ValuePointer z k p) f rest = rest
if_vector (Ti.Array b z t) f rest = rest
if_vector (Ti.Struct m n t) f rest = rest
if_vector (Ti.Image d a c) f rest = rest
if_vector (Ti.Sampler q) f rest = rest
if_vector (Ti.AccelerationStructure q) f rest = rest
if_vector (Ti.RayQuery q) f rest = rest
if_vector (Ti.BindingArray b z) f rest = rest

-- of a matrix, with its columns, rows and scalar
abbrev pub if_matrix : {X : Type 0} → TypeInner → (VectorSize → VectorSize → Scalar → X) → X → X
if_matrix (Ti.Scalar k) f rest = rest
if_matrix (Ti.Vector z k) f rest = rest
if_matrix (Ti.Matrix c r k) f rest = f c r k
if_matrix (Ti.CooperativeMatrix c r k o) f rest = rest
if_matrix (Ti.Atomic k) f rest = rest
if_matrix (Ti.Pointer b p) f rest = rest
if_matrix (Ti.ValuePointer z k p) f rest = rest
if_matrix (Ti.Array b z t) f rest = rest
if_matrix (Ti.Struct m n t) f rest = rest
if_matrix (Ti.Image d a c) f rest = rest
if_matrix (Ti.Sampler q) f rest = rest
if_matrix (Ti.AccelerationStructure q) f rest = rest
if_matrix (Ti.RayQuery q) f rest = rest
if_matrix (Ti.BindingArray b z) f rest = rest

-- of a cooperative matrix, with its columns, rows, scalar and role
abbrev pub if_cooperative_matrix : {X : Type 0} → TypeInner
    → (CooperativeSize → CooperativeSize → Scalar → CooperativeRole → X) → X → X
if_cooperative_matrix (Ti.Scalar k) f rest = rest
if_cooperative_matrix (Ti.Vector z k) f rest = rest
if_cooperative_matrix (Ti.Matrix c r k) f rest = rest
if_cooperative_matrix (Ti.CooperativeMatrix c r k o) f rest = f c r k o
if_cooperative_matrix (Ti.Atomic k) f rest = rest
if_cooperative_matrix (Ti.Pointer b p) f rest = rest
if_cooperative_matrix (Ti.ValuePointer z k p) f rest = rest
if_cooperative_matrix (Ti.Array b z t) f rest = rest
if_cooperative_matrix (Ti.Struct m n t) f rest = rest
if_cooperative_matrix (Ti.Image d a c) f rest = rest
if_cooperative_matrix (Ti.Sampler q) f rest = rest
if_cooperative_matrix (Ti.AccelerationStructure q) f rest = rest
if_cooperative_matrix (Ti.RayQuery q) f rest = rest
if_cooperative_matrix (Ti.BindingArray b z) f rest = rest

-- of an atomic, with its scalar
abbrev pub if_atomic : {X : Type 0} → TypeInner → (Scalar → X) → X → X
if_atomic (Ti.Scalar k) f rest = rest
if_atomic (Ti.Vector z k) f rest = rest
if_atomic (Ti.Matrix c r k) f rest = rest
if_atomic (Ti.CooperativeMatrix c r k o) f rest = rest
if_atomic (Ti.Atomic k) f rest = f k
if_atomic (Ti.Pointer b p) f rest = rest
if_atomic (Ti.ValuePointer z k p) f rest = rest
if_atomic (Ti.Array b z t) f rest = rest
if_atomic (Ti.Struct m n t) f rest = rest
if_atomic (Ti.Image d a c) f rest = rest
if_atomic (Ti.Sampler q) f rest = rest
if_atomic (Ti.AccelerationStructure q) f rest = rest
if_atomic (Ti.RayQuery q) f rest = rest
if_atomic (Ti.BindingArray b z) f rest = rest

-- of a value pointer, with its size, scalar and space
abbrev pub if_value_pointer : {X : Type 0} → TypeInner → ((Option VectorSize) → Scalar → AddressSpace → X) → X → X
if_value_pointer (Ti.Scalar k) f rest = rest
if_value_pointer (Ti.Vector z k) f rest = rest
if_value_pointer (Ti.Matrix c r k) f rest = rest
if_value_pointer (Ti.CooperativeMatrix c r k o) f rest = rest
if_value_pointer (Ti.Atomic k) f rest = rest
if_value_pointer (Ti.Pointer b p) f rest = rest
if_value_pointer (Ti.ValuePointer z k p) f rest = f z k p
if_value_pointer (Ti.Array b z t) f rest = rest
if_value_pointer (Ti.Struct m n t) f rest = rest
if_value_pointer (Ti.Image d a c) f rest = rest
if_value_pointer (Ti.Sampler q) f rest = rest
if_value_pointer (Ti.AccelerationStructure q) f rest = rest
if_value_pointer (Ti.RayQuery q) f rest = rest
if_value_pointer (Ti.BindingArray b z) f rest = rest

-- of an array, with its base
abbrev pub if_array : {X : Type 0} → TypeInner → (TypeNumber → X) → X → X
if_array (Ti.Scalar k) f rest = rest
if_array (Ti.Vector z k) f rest = rest
if_array (Ti.Matrix c r k) f rest = rest
if_array (Ti.CooperativeMatrix c r k o) f rest = rest
if_array (Ti.Atomic k) f rest = rest
if_array (Ti.Pointer b p) f rest = rest
if_array (Ti.ValuePointer z k p) f rest = rest
if_array (Ti.Array b z t) f rest = f b
if_array (Ti.Struct m n t) f rest = rest
if_array (Ti.Image d a c) f rest = rest
if_array (Ti.Sampler q) f rest = rest
if_array (Ti.AccelerationStructure q) f rest = rest
if_array (Ti.RayQuery q) f rest = rest
if_array (Ti.BindingArray b z) f rest = rest

-- of a struct; its members stand beside its inner form
abbrev pub if_struct : {X : Type 0} → TypeInner → X → X → X
if_struct (Ti.Scalar k) x rest = rest
if_struct (Ti.Vector z k) x rest = rest
if_struct (Ti.Matrix c r k) x rest = rest
if_struct (Ti.CooperativeMatrix c r k o) x rest = rest
if_struct (Ti.Atomic k) x rest = rest
if_struct (Ti.Pointer b p) x rest = rest
if_struct (Ti.ValuePointer z k p) x rest = rest
if_struct (Ti.Array b z t) x rest = rest
if_struct (Ti.Struct m n t) x rest = x
if_struct (Ti.Image d a c) x rest = rest
if_struct (Ti.Sampler q) x rest = rest
if_struct (Ti.AccelerationStructure q) x rest = rest
if_struct (Ti.RayQuery q) x rest = rest
if_struct (Ti.BindingArray b z) x rest = rest

-- of an image, with its dimension and class
abbrev pub if_image : {X : Type 0} → TypeInner → (ImageDimension → ImageClass → X) → X → X
if_image (Ti.Scalar k) f rest = rest
if_image (Ti.Vector z k) f rest = rest
if_image (Ti.Matrix c r k) f rest = rest
if_image (Ti.CooperativeMatrix c r k o) f rest = rest
if_image (Ti.Atomic k) f rest = rest
if_image (Ti.Pointer b p) f rest = rest
if_image (Ti.ValuePointer z k p) f rest = rest
if_image (Ti.Array b z t) f rest = rest
if_image (Ti.Struct m n t) f rest = rest
if_image (Ti.Image d a c) f rest = f d c
if_image (Ti.Sampler q) f rest = rest
if_image (Ti.AccelerationStructure q) f rest = rest
if_image (Ti.RayQuery q) f rest = rest
if_image (Ti.BindingArray b z) f rest = rest

-- of a binding array, with its base
abbrev pub if_binding_array : {X : Type 0} → TypeInner → (TypeNumber → X) → X → X
if_binding_array (Ti.Scalar k) f rest = rest
if_binding_array (Ti.Vector z k) f rest = rest
if_binding_array (Ti.Matrix c r k) f rest = rest
if_binding_array (Ti.CooperativeMatrix c r k o) f rest = rest
if_binding_array (Ti.Atomic k) f rest = rest
if_binding_array (Ti.Pointer b p) f rest = rest
if_binding_array (Ti.ValuePointer z k p) f rest = rest
if_binding_array (Ti.Array b z t) f rest = rest
if_binding_array (Ti.Struct m n t) f rest = rest
if_binding_array (Ti.Image d a c) f rest = rest
if_binding_array (Ti.Sampler q) f rest = rest
if_binding_array (Ti.AccelerationStructure q) f rest = rest
if_binding_array (Ti.RayQuery q) f rest = rest
if_binding_array (Ti.BindingArray b z) f rest = f b
