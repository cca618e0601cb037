-- Results of statements and calls, array lengths, ray queries, subgroups and cooperative matrices, in the source's
-- order (document 01, "A row's type").
-- All but the last two read nothing. Refusals: 15, 17 and 20.
use Rattle.std.specs.Prelude.{Option as CodeOption, Some, None}
use Rattle.ir.specs.declared.Scalar.{Scalar}
use Rattle.std.proofs.Math.Option.{Option, none, some}
use Rattle.ir.specs.declared.TypeNumber.{TypeNumber}
use Rattle.ir.specs.declared.RowNumber.{RowNumber}
use Rattle.ir.specs.declared.VectorSize.TheVariants as Vs
use Rattle.ir.specs.declared.CooperativeSize.{CooperativeSize}
use Rattle.ir.specs.declared.CooperativeRole.{CooperativeRole}
use Rattle.ir.specs.declared.TypeInner.TheVariants as Ti
use Rattle.ir.specs.declared.TypeResolution.{TypeResolution}
use Rattle.ir.specs.declared.TypeResolution.TheVariants as Tr
use Rattle.ir.specs.TypeMethods.{scalar_in, pointer_base}
use Rattle.ir.specs.Scalars.{U32, BOOL}
use Rattle.answers.specs.declared.Refusal.TheVariants.{InvalidPointer, FunctionReturnsVoid, MissingSpecialType}
use Rattle.rule.specs.Answers.{number, value, Typed, given, refused}
use Rattle.rule.specs.Rule.{Rule, done}
use Rattle.rule_rows.specs.Steps.{same_as, by_base}

-- ATOMICRESULT: the type that the row names. WGSL: "Atomic Built-in Functions".
abbrev pub atomic_result : TypeNumber → Rule Typed
atomic_result t = done (given (number t))

-- SUBGROUPOPERATIONRESULT: the type that the row names. WGSL: "Subgroup Built-in Functions".
abbrev pub subgroup_operation_result : TypeNumber → Rule Typed
subgroup_operation_result t = done (given (number t))

-- WORKGROUPUNIFORMLOADRESULT: the type that the row names. WGSL: "Synchronization Built-in Functions",
-- workgroupUniformLoad.
abbrev pub work_group_uniform_load_result : TypeNumber → Rule Typed
work_group_uniform_load_result t = done (given (number t))

-- CALLRESULT. WGSL: "Function Call Expression".

-- the type of a function's result; without one number 17
abbrev pub result_of : CodeOption TypeNumber → Typed
result_of (Some t) = given (number t)
result_of None = refused FunctionReturnsVoid

-- the row shows the result of the function that it names
abbrev pub call_result : CodeOption TypeNumber → Rule Typed
call_result r = done (result_of r)

-- ARRAYLENGTH. WGSL: "Array Built-in Functions", arrayLength.
abbrev pub array_length : Rule Typed
array_length = done (given (value (Ti.Scalar U32)))

-- RAYQUERYPROCEEDRESULT. The source decides.
abbrev pub ray_query_proceed_result : Rule Typed
ray_query_proceed_result = done (given (value (Ti.Scalar BOOL)))

-- a special type of the file; without it number 20
abbrev pub special : Option TypeNumber → Typed
special (some t) = given (number t)
special none = refused MissingSpecialType

-- RAYQUERYGETINTERSECTION: the ray intersection's type. The source decides.
abbrev pub ray_query_get_intersection : Option TypeNumber → Rule Typed
ray_query_get_intersection t = done (special t)

-- RAYQUERYVERTEXPOSITIONS: the ray vertex return's type. The source decides.
abbrev pub ray_query_vertex_positions : Option TypeNumber → Rule Typed
ray_query_vertex_positions t = done (special t)

-- SUBGROUPBALLOTRESULT. WGSL: "Subgroup Built-in Functions", subgroupBallot.
abbrev pub subgroup_ballot_result : Rule Typed
subgroup_ballot_result = done (given (value (Ti.Vector Vs.Quad U32)))

-- COOPERATIVELOAD. The source decides.

-- the cooperative matrix of the scalar pointed at; without one number 15
abbrev pub cooperative_of : CooperativeSize → CooperativeSize → CooperativeRole → RowNumber → CodeOption Scalar → Typed
cooperative_of columns rows role pointer (Some k) = given (value (Ti.CooperativeMatrix columns rows k role))
cooperative_of columns rows role pointer None = refused (InvalidPointer pointer)

-- the scalar of what a value pointer points at; what is no pointer has none. No reading comes to a number: of a Pointer
-- the base is looked into.
abbrev pub value_scalar : TypeResolution → CodeOption Scalar
value_scalar (Tr.Value t) = scalar_in t
value_scalar (Tr.Handle n) = None

abbrev pub base_scalar : CodeOption TypeResolution → CodeOption Scalar
base_scalar (Some t) = value_scalar t
base_scalar None = None

-- reads the pointer, looks into its type and, of a Pointer, the type pointed at
abbrev pub cooperative_load : RowNumber → CooperativeSize → CooperativeSize → CooperativeRole → RowNumber → Rule Typed
cooperative_load here columns rows role pointer =
    by_base here pointer (λ b s x. cooperative_of columns rows role pointer (scalar_in x.inner))
    (λ x. cooperative_of columns rows role pointer (base_scalar (pointer_base x.inner)))

-- COOPERATIVEMULTIPLYADD: the type of c. The source decides.
abbrev pub cooperative_multiply_add : RowNumber → Rule Typed
cooperative_multiply_add c = same_as c
