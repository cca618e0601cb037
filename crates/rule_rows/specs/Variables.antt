-- Literals, constants, composes, arguments and variables, and Load, in the source's order (document 01, "A row's
-- type"). All but Load read nothing.
-- Refusals: 15 and 19.
use Rattle.ir.specs.declared.TypeResolution.{TypeResolution}
use Rattle.std.specs.Prelude.{ℕ, List, Option as CodeOption, Some, None}
use Rattle.std.proofs.Math.Option.{Option, none, some}
use Rattle.ir.specs.declared.TypeNumber.{TypeNumber}
use Rattle.ir.specs.declared.RowNumber.{RowNumber}
use Rattle.ir.specs.declared.Scalar.{Scalar}
use Rattle.ir.specs.declared.AddressSpace.{AddressSpace}
use Rattle.ir.specs.declared.AddressSpace.TheVariants as Sp
use Rattle.ir.specs.declared.Literal.{Literal}
use Rattle.ir.specs.declared.Literal.TheVariants as Li
use Rattle.ir.specs.declared.TypeInner.{TypeInner}
use Rattle.ir.specs.declared.TypeInner.TheVariants as Ti
use Rattle.ir.specs.TypeMethods.{pointer_base}
use Rattle.ir.specs.Scalars.{I16, U16, I32, U32, F16, F32, F64, I64, U64, BOOL, ABSTRACT-INT, ABSTRACT-FLOAT}
use Rattle.answers.specs.declared.Refusal.TheVariants.{InvalidPointer, FunctionArgumentNotFound}
use Rattle.rule.specs.Answers.{number, value, resolved, Typed, given, refused}
use Rattle.rule.specs.Rule.{Rule, done}
use Rattle.rule_rows.specs.Selectors.{if_atomic}
use Rattle.rule_rows.specs.Steps.{by_base}

-- LITERAL. WGSL: "Literal Value Expressions".

-- a literal's scalar: the source's Literal::scalar (proc/mod.rs)
abbrev pub literal_scalar : Literal → Scalar
literal_scalar Li.F64 = F64
literal_scalar Li.F32 = F32
literal_scalar Li.F16 = F16
literal_scalar Li.U16 = U16
literal_scalar Li.I16 = I16
literal_scalar Li.U32 = U32
literal_scalar Li.I32 = I32
literal_scalar Li.U64 = U64
literal_scalar Li.I64 = I64
literal_scalar Li.Bool = BOOL
literal_scalar Li.AbstractInt = ABSTRACT-INT
literal_scalar Li.AbstractFloat = ABSTRACT-FLOAT

-- the scalar type of the literal, by value
abbrev pub literal : Literal → Rule Typed
literal l = done (given (value (Ti.Scalar (literal_scalar l))))

-- CONSTANT and OVERRIDE: the type that each is declared with. WGSL: "Identifier Expressions for Value Declarations".
abbrev pub constant : TypeNumber → Rule Typed
constant t = done (given (number t))

abbrev pub override : TypeNumber → Rule Typed
override t = done (given (number t))

-- ZEROVALUE: the type that the row names. WGSL: "Zero Value Built-in Functions".
abbrev pub zero_value : TypeNumber → Rule Typed
zero_value t = done (given (number t))

-- COMPOSE: the type that the row names; components are the verdict's to read. WGSL: "Value Constructor Built-in
-- Functions".
abbrev pub compose : TypeNumber → List RowNumber → Rule Typed
compose t parts = done (given (number t))

-- FUNCTIONARGUMENT: the argument's type. WGSL: "Formal Parameter Expression".

-- an argument's type; without such an argument number 19
abbrev pub argument : ℕ → Option TypeNumber → Typed
argument i (some t) = given (number t)
argument i none = refused (FunctionArgumentNotFound i)

-- arguments are the items of kind 4, from 0; the row shows the type of the one that it names
abbrev pub function_argument : ℕ → Option TypeNumber → Rule Typed
function_argument i t = done (argument i t)

-- GLOBALVARIABLE. WGSL: "Variable Identifier Expression".

-- in the space Handle the variable's type itself, in every other the pointer to it
abbrev pub variable : TypeNumber → AddressSpace → Typed
variable t Sp.Handle = given (number t)
variable t Sp.Function = given (value (Ti.Pointer t Sp.Function))
variable t Sp.Private = given (value (Ti.Pointer t Sp.Private))
variable t Sp.WorkGroup = given (value (Ti.Pointer t Sp.WorkGroup))
variable t Sp.Uniform = given (value (Ti.Pointer t Sp.Uniform))
variable t (Sp.Storage a) = given (value (Ti.Pointer t (Sp.Storage a)))
variable t Sp.Immediate = given (value (Ti.Pointer t Sp.Immediate))
variable t Sp.TaskPayload = given (value (Ti.Pointer t Sp.TaskPayload))
variable t Sp.RayPayload = given (value (Ti.Pointer t Sp.RayPayload))
variable t Sp.IncomingRayPayload = given (value (Ti.Pointer t Sp.IncomingRayPayload))

-- the row shows the variable's type and space
abbrev pub global_variable : TypeNumber → AddressSpace → Rule Typed
global_variable t s = done (variable t s)

-- LOCALVARIABLE: the pointer to its type, in the space Function. WGSL: "Variable Identifier Expression".
abbrev pub local_variable : TypeNumber → Rule Typed
local_variable t = done (given (value (Ti.Pointer t Sp.Function)))

-- LOAD. WGSL: "Memory Views", the load rule, and "Atomic Built-in Functions", atomicLoad.

-- through a Pointer: of an Atomic its scalar by value; another base gives its number
abbrev pub load_through : TypeNumber → TypeInner → Typed
load_through base t = if_atomic t (λ k. given (value (Ti.Scalar k))) (given (number base))

-- what a pointer points at, a value (ir/specs/TypeMethods.antt); what is no pointer is number 15
abbrev pub loaded : RowNumber → CodeOption TypeResolution → Typed
loaded pointer (Some t) = given (resolved t)
loaded pointer None = refused (InvalidPointer pointer)

-- through a value pointer what it points at; every other type is number 15
abbrev pub load_into : RowNumber → TypeInner → Typed
load_into pointer t = loaded pointer (pointer_base t)

-- reads the pointer, looks into its type and, of a Pointer, the type pointed at
abbrev pub load : RowNumber → RowNumber → Rule Typed
load here pointer = by_base here pointer (λ b s x. load_through b x.inner) (λ x. load_into pointer x.inner)
