-- `inner`: each arm knows its case, and what its calls ensure.
use Rattle.frames.proofs.read.inner.Goals as goal

pub returns-in-Scalar : goal.returns-in-Scalar
returns-in-Scalar c = rw (c.in-Scalar.is, c.scalar-scalar.ensures)

pub returns-in-Vector : goal.returns-in-Vector
returns-in-Vector c = rw (c.in-Vector.is, c.scalar-scalar-in-Vector.ensures, c.from-size.ensures)

pub returns-in-Matrix : goal.returns-in-Matrix
returns-in-Matrix c =
    rw (
      c.in-Matrix.is,
      c.scalar-scalar-in-Matrix.ensures,
      c.from-rows.ensures,
      c.from-columns.ensures,
    )

pub returns-in-CooperativeMatrix : goal.returns-in-CooperativeMatrix
returns-in-CooperativeMatrix c =
    rw (
      c.in-CooperativeMatrix.is,
      c.from-role.ensures,
      c.scalar-scalar-in-CooperativeMatrix.ensures,
      c.from-rows-in-CooperativeMatrix.ensures,
      c.from-columns-in-CooperativeMatrix.ensures,
    )

pub returns-in-Atomic : goal.returns-in-Atomic
returns-in-Atomic c = rw (c.in-Atomic.is, c.scalar-scalar-in-Atomic.ensures)

pub returns-in-Pointer : goal.returns-in-Pointer
returns-in-Pointer c = rw (c.in-Pointer.is, c.from-space.ensures, c.ty-base.ensures)

pub returns-in-ValuePointer : goal.returns-in-ValuePointer
returns-in-ValuePointer c =
    rw (
      c.in-ValuePointer.is,
      c.from-space-in-ValuePointer.ensures,
      c.scalar-scalar-in-ValuePointer.ensures,
      c.option_size-size.ensures,
    )

pub returns-in-Array : goal.returns-in-Array
returns-in-Array c =
    rw (
      c.in-Array.is,
      c.last-stride.ensures,
      c.array_size-size.ensures,
      c.third.ensures,
      c.ty-base-in-Array.ensures,
    )

pub returns-in-Struct : goal.returns-in-Struct
returns-in-Struct c =
    rw (c.in-Struct.is, c.last-span.ensures, c.count-count.ensures, c.first_member-first.ensures)

pub returns-in-Image : goal.returns-in-Image
returns-in-Image c = rw (c.in-Image.is, c.image_class-class.ensures, c.from-dim.ensures)

pub returns-in-Sampler : goal.returns-in-Sampler
returns-in-Sampler c = rw c.in-Sampler.is

pub returns-in-AccelerationStructure : goal.returns-in-AccelerationStructure
returns-in-AccelerationStructure c = rw c.in-AccelerationStructure.is

pub returns-in-RayQuery : goal.returns-in-RayQuery
returns-in-RayQuery c = rw c.in-RayQuery.is

pub returns-in-BindingArray : goal.returns-in-BindingArray
returns-in-BindingArray c =
    rw (
      c.in-BindingArray.is,
      c.array_size-size-in-BindingArray.ensures,
      c.third-in-BindingArray.ensures,
      c.ty-base-in-BindingArray.ensures,
    )
