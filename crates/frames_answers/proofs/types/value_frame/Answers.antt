-- `value_frame`: each arm knows its case, and what its calls ensure.
use Rattle.frames_answers.proofs.types.value_frame.Goals as goal

pub returns-in-Scalar : goal.returns-in-Scalar
returns-in-Scalar c = rw (c.in-Scalar.is, c.scalar_frame.ensures)

pub returns-in-Vector : goal.returns-in-Vector
returns-in-Vector c = rw (c.in-Vector.is, c.scalar_frame-in-Vector.ensures, c.from.ensures)

pub returns-in-Matrix : goal.returns-in-Matrix
returns-in-Matrix c =
    rw (
      c.in-Matrix.is,
      c.scalar_frame-in-Matrix.ensures,
      c.from-in-Matrix-2.ensures,
      c.from-in-Matrix.ensures,
    )

pub returns-in-CooperativeMatrix : goal.returns-in-CooperativeMatrix
returns-in-CooperativeMatrix c =
    rw (
      c.in-CooperativeMatrix.is,
      c.scalar_frame-in-CooperativeMatrix.ensures,
      c.from-in-CooperativeMatrix-3.ensures,
      c.from-in-CooperativeMatrix-2.ensures,
      c.from-in-CooperativeMatrix.ensures,
    )

pub returns-in-Atomic : goal.returns-in-Atomic
returns-in-Atomic c = rw (c.in-Atomic.is, c.scalar_frame-in-Atomic.ensures)

pub returns-in-Pointer : goal.returns-in-Pointer
returns-in-Pointer c = rw (c.in-Pointer.is, c.pointer_frame.ensures)

pub returns-in-ValuePointer : goal.returns-in-ValuePointer
returns-in-ValuePointer c =
    rw (
      c.in-ValuePointer.is,
      c.scalar_frame-in-ValuePointer.ensures,
      c.option_size_number.ensures,
      c.into-space.ensures,
    )

pub returns-in-Array : goal.returns-in-Array
returns-in-Array c = rw (c.in-Array.is, c.array_frame.ensures)

pub returns-in-Struct : goal.returns-in-Struct
returns-in-Struct c = rw (c.in-Struct.is, c.struct_frame.ensures)

pub returns-in-Image : goal.returns-in-Image
returns-in-Image c = rw (c.in-Image.is, c.image_frame.ensures)

pub returns-in-Sampler : goal.returns-in-Sampler
returns-in-Sampler c = rw (c.in-Sampler.is, c.flag_frame.ensures)

pub returns-in-AccelerationStructure : goal.returns-in-AccelerationStructure
returns-in-AccelerationStructure c = rw (c.in-AccelerationStructure.is, c.flag_frame-in-AccelerationStructure.ensures)

pub returns-in-RayQuery : goal.returns-in-RayQuery
returns-in-RayQuery c = rw (c.in-RayQuery.is, c.flag_frame-in-RayQuery.ensures)

pub returns-in-BindingArray : goal.returns-in-BindingArray
returns-in-BindingArray c = rw (c.in-BindingArray.is, c.array_frame-in-BindingArray.ensures)
