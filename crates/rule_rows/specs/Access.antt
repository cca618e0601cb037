-- Access, AccessIndex, Splat and Swizzle, in the source's order (document 01, "A row's type"). Refusals: 10 to 14.
use Rattle.std.specs.Prelude.{ℕ, true, false, cond, List, ltb, Option as CodeOption, Some, None}
use Rattle.std.proofs.Math.Option.{Option, none, some}
use Rattle.std.proofs.Math.ListN.{get_elem?}
use Rattle.ir.specs.declared.TypeNumber.{TypeNumber}
use Rattle.ir.specs.declared.RowNumber.{RowNumber}
use Rattle.ir.specs.declared.VectorSize.{VectorSize}
use Rattle.ir.specs.declared.Scalar.{Scalar}
use Rattle.ir.specs.declared.AddressSpace.{AddressSpace}
use Rattle.ir.specs.declared.TypeInner.{TypeInner}
use Rattle.ir.specs.declared.TypeInner.TheVariants as Ti
use Rattle.ir.specs.Numbers.{vector_size_number}
use Rattle.answers.specs.declared.Refusal.TheVariants.{OutOfBoundsIndex, InvalidAccess, InvalidSubAccess}
use Rattle.answers.specs.declared.Refusal.TheVariants.{InvalidScalar, InvalidVector}
use Rattle.rule.specs.Answers.{TypeAnswer, number, value, Typed, given, refused}
use Rattle.rule.specs.Rule.{Rule}
use Rattle.rule_rows.specs.Selectors.{if_scalar, if_vector, if_matrix, if_value_pointer, if_array, if_struct}
use Rattle.rule_rows.specs.Selectors.{if_binding_array}
use Rattle.rule_rows.specs.Steps.{by_type, by_base}

-- ACCESS, a part by an index that is not known here. WGSL: "Vector Access Expression", "Matrix Access Expression",
-- "Array Access Expression".

-- a part of what a value pointer points at: a component of its vector; to a scalar it has none
abbrev pub access_component : RowNumber → Scalar → AddressSpace → CodeOption VectorSize → Typed
access_component base k s (Some z) = given (value (Ti.ValuePointer None k s))
access_component base k s None = refused (InvalidAccess base false)

-- a part of a value, or of what a value pointer points at; every other type, a Struct too, is number 11
abbrev pub access_into : RowNumber → TypeInner → Typed
access_into base t =
    if_array t (λ b. given (number b))
    (if_matrix t (λ c r k. given (value (Ti.Vector r k)))
    (if_vector t (λ z k. given (value (Ti.Scalar k)))
    (if_value_pointer t (λ z k s. access_component base k s z)
    (if_binding_array t (λ b. given (number b))
    (refused (InvalidAccess base false))))))

-- the pointer, in the same space, to a part of a pointer's base; every other base, a Struct too, is number 12
abbrev pub access_through : TypeNumber → AddressSpace → TypeInner → Typed
access_through base s t =
    if_array t (λ b. given (value (Ti.Pointer b s)))
    (if_vector t (λ z k. given (value (Ti.ValuePointer None k s)))
    (if_matrix t (λ c r k. given (value (Ti.ValuePointer (Some r) k s)))
    (if_binding_array t (λ b. given (value (Ti.Pointer b s)))
    (refused (InvalidSubAccess base false)))))

-- reads the base, looks into its type and, of a Pointer, the type pointed at
abbrev pub access : RowNumber → RowNumber → Rule Typed
access here base = by_base here base (λ b s x. access_through b s x.inner) (λ x. access_into base x.inner)

-- ACCESSINDEX, a part by its index. WGSL: "Vector Access Expression", "Matrix Access Expression", "Array Access
-- Expression", "Structure Access Expression". The source, and document 01, bound Vector, Matrix, Struct and pointers to
-- these alone.

-- the type at an index below the bound; at any other number 10, which names the base's row and the index
abbrev pub bounded : RowNumber → ℕ → ℕ → TypeAnswer → Typed
bounded base i bound a = cond (ltb i bound) (given a) (refused (OutOfBoundsIndex base i))

-- a struct's member; past the last one number 10
abbrev pub member : RowNumber → ℕ → Option TypeNumber → Typed
member base i (some t) = given (number t)
member base i none = refused (OutOfBoundsIndex base i)

-- the pointer, in the same space, to a struct's member
abbrev pub member_pointer : RowNumber → ℕ → AddressSpace → Option TypeNumber → Typed
member_pointer base i s (some t) = given (value (Ti.Pointer t s))
member_pointer base i s none = refused (OutOfBoundsIndex base i)

-- a component of what a value pointer points at, bounded by the vector's size; to a scalar it has none
abbrev pub index_component : RowNumber → ℕ → Scalar → AddressSpace → CodeOption VectorSize → Typed
index_component base i k s (Some z) = bounded base i (vector_size_number z) (value (Ti.ValuePointer None k s))
index_component base i k s None = refused (InvalidAccess base true)

-- part i of a value, or of what a value pointer points at; every other type is number 11
abbrev pub index_into : RowNumber → ℕ → List TypeNumber → TypeInner → Typed
index_into base i members t =
    if_vector t (λ z k. bounded base i (vector_size_number z) (value (Ti.Scalar k)))
    (if_matrix t (λ c r k. bounded base i (vector_size_number c) (value (Ti.Vector r k)))
    (if_array t (λ b. given (number b))
    (if_struct t (member base i (get_elem? members i))
    (if_value_pointer t (λ z k s. index_component base i k s z)
    (if_binding_array t (λ b. given (number b))
    (refused (InvalidAccess base true)))))))

-- the pointer, in the same space, to part i of a pointer's base `ty`; every other base is number 12
abbrev pub index_through : RowNumber → ℕ → TypeNumber → AddressSpace → List TypeNumber → TypeInner → Typed
index_through base i ty s members t =
    if_array t (λ b. given (value (Ti.Pointer b s)))
    (if_vector t (λ z k. bounded base i (vector_size_number z) (value (Ti.ValuePointer None k s)))
    (if_matrix t (λ c r k. bounded base i (vector_size_number c) (value (Ti.ValuePointer (Some r) k s)))
    (if_struct t (member_pointer base i s (get_elem? members i))
    (if_binding_array t (λ b. given (value (Ti.Pointer b s)))
    (refused (InvalidSubAccess ty true))))))

-- reads and looks into what Access does
abbrev pub access_index : RowNumber → RowNumber → ℕ → Rule Typed
access_index here base i =
    by_base here base (λ b s x. index_through base i b s x.members x.inner)
    (λ x. index_into base i x.members x.inner)

-- SPLAT, a vector of one scalar. WGSL: "Value Constructor Built-in Functions".

-- a vector of the operand's scalar; every other type is number 13
abbrev pub splat_of : VectorSize → RowNumber → TypeInner → Typed
splat_of size n t = if_scalar t (λ k. given (value (Ti.Vector size k))) (refused (InvalidScalar n))

-- reads its operand and looks into its type
abbrev pub splat : RowNumber → VectorSize → RowNumber → Rule Typed
splat here size n = by_type here n (splat_of size n)

-- SWIZZLE, some components of a vector. WGSL: "Vector Multiple Component Selection".

-- a vector of the new size, of the operand's scalar; every other type is number 14
abbrev pub swizzle_of : VectorSize → RowNumber → TypeInner → Typed
swizzle_of size n t = if_vector t (λ z k. given (value (Ti.Vector size k))) (refused (InvalidVector n))

-- reads its operand and looks into its type
abbrev pub swizzle : RowNumber → VectorSize → RowNumber → Rule Typed
swizzle here size n = by_type here n (swizzle_of size n)
