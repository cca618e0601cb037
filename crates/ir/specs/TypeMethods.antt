-- Methods of a type's inner form (document 01, "Port order", type_methods.rs): its scalar, and of a pointer what it
-- points to. WGSL has no value pointers; the source decides.
use Rattle.std.specs.Prelude.{Option, Some, None}
use Rattle.ir.specs.declared.TypeResolution.{TypeResolution}
use Rattle.ir.specs.declared.VectorSize.{VectorSize}
use Rattle.ir.specs.declared.Scalar.{Scalar}
use Rattle.ir.specs.declared.TypeInner.{TypeInner}
use Rattle.ir.specs.declared.TypeInner.TheVariants as Ti
use Rattle.ir.specs.declared.TypeResolution.TheVariants as Tr

-- the source's `scalar`: of a scalar, a vector, a matrix or a cooperative matrix; an atomic and a value pointer give
-- none
abbrev pub scalar_in : TypeInner → Option Scalar
scalar_in (Ti.Scalar k) = Some k
scalar_in (Ti.Vector z k) = Some k
scalar_in (Ti.Matrix c r k) = Some k
scalar_in (Ti.CooperativeMatrix c r k o) = Some k
scalar_in (Ti.Atomic k) = None
scalar_in (Ti.Pointer b p) = None
scalar_in (Ti.ValuePointer z k p) = None
scalar_in (Ti.Array b z t) = None
scalar_in (Ti.Struct m n t) = None
scalar_in (Ti.Image d a c) = None
scalar_in (Ti.Sampler q) = None
scalar_in (Ti.AccelerationStructure q) = None
scalar_in (Ti.RayQuery q) = None
scalar_in (Ti.BindingArray b z) = None

-- what a value pointer points to: a scalar, or a vector where it has a size
abbrev pub value_base : Option VectorSize → Scalar → TypeInner
value_base None k = Ti.Scalar k
value_base (Some z) k = Ti.Vector z k

-- the source's `pointer_base_type`: the base's number, or a value
abbrev pub pointer_base : TypeInner → Option TypeResolution
pointer_base (Ti.Scalar k) = None
pointer_base (Ti.Vector z k) = None
pointer_base (Ti.Matrix c r k) = None
pointer_base (Ti.CooperativeMatrix c r k o) = None
pointer_base (Ti.Atomic k) = None
pointer_base (Ti.Pointer b p) = Some (Tr.Handle b)
pointer_base (Ti.ValuePointer z k p) = Some (Tr.Value (value_base z k))
pointer_base (Ti.Array b z t) = None
pointer_base (Ti.Struct m n t) = None
pointer_base (Ti.Image d a c) = None
pointer_base (Ti.Sampler q) = None
pointer_base (Ti.AccelerationStructure q) = None
pointer_base (Ti.RayQuery q) = None
pointer_base (Ti.BindingArray b z) = None
