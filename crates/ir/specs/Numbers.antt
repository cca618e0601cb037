-- The numbers of kinds and cases (document 01, "The file"): one table for each enum, in the order of the source's
-- declaration.
-- `..Of` is the case that a number stands for, `..Number` a case's number.
use Rattle.std.specs.Prelude.{ℕ, ◌+◌, ◌*◌, ◌-◌, ◌/◌, ◌%◌, Bool, true, false, cond, ◌||◌, List, [], ◌∷◌, eqb, get_or}
use Rattle.ir.specs.declared.AddressSpace.{AddressSpace}
use Rattle.ir.specs.declared.BinaryOperator.{BinaryOperator}
use Rattle.ir.specs.declared.CooperativeRole.{CooperativeRole}
use Rattle.ir.specs.declared.CooperativeSize.{CooperativeSize}
use Rattle.ir.specs.declared.ImageDimension.{ImageDimension}
use Rattle.ir.specs.declared.ImageQuery.{ImageQuery}
use Rattle.ir.specs.declared.ItemKind.{ItemKind}
use Rattle.ir.specs.declared.Literal.{Literal}
use Rattle.ir.specs.declared.RelationalFunction.{RelationalFunction}
use Rattle.ir.specs.declared.RowKind.{RowKind}
use Rattle.ir.specs.declared.ScalarKind.{ScalarKind}
use Rattle.ir.specs.declared.StorageAccess.{StorageAccess}
use Rattle.ir.specs.declared.StorageFormat.{StorageFormat}
use Rattle.ir.specs.declared.TypeKind.{TypeKind}
use Rattle.ir.specs.declared.VectorSize.{VectorSize}
use Rattle.ir.specs.declared.Width.{Width}
use Rattle.ir.specs.declared.AddressSpace.TheVariants as AddressSpace'
use Rattle.ir.specs.declared.BinaryOperator.TheVariants as BinaryOperator'
use Rattle.ir.specs.declared.CooperativeRole.TheVariants as CooperativeRole'
use Rattle.ir.specs.declared.CooperativeSize.TheVariants as CooperativeSize'
use Rattle.ir.specs.declared.ImageDimension.TheVariants as ImageDimension'
use Rattle.ir.specs.declared.ImageQuery.TheVariants as ImageQuery'
use Rattle.ir.specs.declared.ItemKind.TheVariants as ItemKind'
use Rattle.ir.specs.declared.Literal.TheVariants as Literal'
use Rattle.ir.specs.declared.RelationalFunction.TheVariants as RelationalFunction'
use Rattle.ir.specs.declared.RowKind.TheVariants as RowKind'
use Rattle.ir.specs.declared.ScalarKind.TheVariants as ScalarKind'
use Rattle.ir.specs.declared.StorageFormat.TheVariants as StorageFormat'
use Rattle.ir.specs.declared.TypeKind.TheVariants as TypeKind'
use Rattle.ir.specs.declared.VectorSize.TheVariants as VectorSize'
use Rattle.ir.specs.declared.Width.TheVariants as Width'

-- types, kinds 1 to 14 in `TypeInner` order ("The file", 1); 0 and every number past 14 are unknown
abbrev pub type_kinds : List TypeKind
type_kinds =
    TypeKind'.Unknown ∷ TypeKind'.Scalar ∷ TypeKind'.Vector ∷ TypeKind'.Matrix ∷ TypeKind'.CooperativeMatrix ∷
    TypeKind'.Atomic ∷ TypeKind'.Pointer ∷ TypeKind'.ValuePointer ∷ TypeKind'.Array ∷ TypeKind'.Struct ∷
    TypeKind'.Image ∷ TypeKind'.Sampler ∷ TypeKind'.AccelerationStructure ∷ TypeKind'.RayQuery ∷
    TypeKind'.BindingArray ∷ []

abbrev pub type_kind_of : ℕ → TypeKind
type_kind_of k = get_or type_kinds k TypeKind'.Unknown

abbrev pub type_kind_number : TypeKind → ℕ
type_kind_number TypeKind'.Unknown = 0
type_kind_number TypeKind'.Scalar = 1
type_kind_number TypeKind'.Vector = 2
type_kind_number TypeKind'.Matrix = 3
type_kind_number TypeKind'.CooperativeMatrix = 4
type_kind_number TypeKind'.Atomic = 5
type_kind_number TypeKind'.Pointer = 6
type_kind_number TypeKind'.ValuePointer = 7
type_kind_number TypeKind'.Array = 8
type_kind_number TypeKind'.Struct = 9
type_kind_number TypeKind'.Image = 10
type_kind_number TypeKind'.Sampler = 11
type_kind_number TypeKind'.AccelerationStructure = 12
type_kind_number TypeKind'.RayQuery = 13
type_kind_number TypeKind'.BindingArray = 14

-- items, kinds 1 to 8 ("The file", 3)
abbrev pub item_kinds : List ItemKind
item_kinds =
    ItemKind'.Unknown ∷ ItemKind'.Constant ∷ ItemKind'.Override ∷ ItemKind'.GlobalVariable ∷
    ItemKind'.FunctionArgument ∷ ItemKind'.LocalVariable ∷ ItemKind'.Function ∷ ItemKind'.RayIntersection ∷
    ItemKind'.RayVertexReturn ∷ []

abbrev pub item_kind_of : ℕ → ItemKind
item_kind_of k = get_or item_kinds k ItemKind'.Unknown

-- rows, kinds 1 to 34 in `Expression` order ("The file", 4); 0 and every number past 34 are unknown
abbrev pub row_kinds : List RowKind
row_kinds =
    RowKind'.Unknown ∷ RowKind'.Literal ∷ RowKind'.Constant ∷ RowKind'.Override ∷ RowKind'.ZeroValue ∷
    RowKind'.Compose ∷ RowKind'.Access ∷ RowKind'.AccessIndex ∷ RowKind'.Splat ∷ RowKind'.Swizzle ∷
    RowKind'.FunctionArgument ∷ RowKind'.GlobalVariable ∷ RowKind'.LocalVariable ∷ RowKind'.Load ∷
    RowKind'.ImageSample ∷ RowKind'.ImageLoad ∷ RowKind'.ImageQuery ∷ RowKind'.Unary ∷ RowKind'.Binary ∷
    RowKind'.Select ∷ RowKind'.Derivative ∷ RowKind'.Relational ∷ RowKind'.Math ∷ RowKind'.As ∷ RowKind'.CallResult ∷
    RowKind'.AtomicResult ∷ RowKind'.WorkGroupUniformLoadResult ∷ RowKind'.ArrayLength ∷
    RowKind'.RayQueryVertexPositions ∷ RowKind'.RayQueryProceedResult ∷ RowKind'.RayQueryGetIntersection ∷
    RowKind'.SubgroupBallotResult ∷ RowKind'.SubgroupOperationResult ∷ RowKind'.CooperativeLoad ∷
    RowKind'.CooperativeMultiplyAdd ∷ []

abbrev pub row_kind_of : ℕ → RowKind
row_kind_of k = get_or row_kinds k RowKind'.Unknown

abbrev pub row_kind_number : RowKind → ℕ
row_kind_number RowKind'.Unknown = 0
row_kind_number RowKind'.Literal = 1
row_kind_number RowKind'.Constant = 2
row_kind_number RowKind'.Override = 3
row_kind_number RowKind'.ZeroValue = 4
row_kind_number RowKind'.Compose = 5
row_kind_number RowKind'.Access = 6
row_kind_number RowKind'.AccessIndex = 7
row_kind_number RowKind'.Splat = 8
row_kind_number RowKind'.Swizzle = 9
row_kind_number RowKind'.FunctionArgument = 10
row_kind_number RowKind'.GlobalVariable = 11
row_kind_number RowKind'.LocalVariable = 12
row_kind_number RowKind'.Load = 13
row_kind_number RowKind'.ImageSample = 14
row_kind_number RowKind'.ImageLoad = 15
row_kind_number RowKind'.ImageQuery = 16
row_kind_number RowKind'.Unary = 17
row_kind_number RowKind'.Binary = 18
row_kind_number RowKind'.Select = 19
row_kind_number RowKind'.Derivative = 20
row_kind_number RowKind'.Relational = 21
row_kind_number RowKind'.Math = 22
row_kind_number RowKind'.As = 23
row_kind_number RowKind'.CallResult = 24
row_kind_number RowKind'.AtomicResult = 25
row_kind_number RowKind'.WorkGroupUniformLoadResult = 26
row_kind_number RowKind'.ArrayLength = 27
row_kind_number RowKind'.RayQueryVertexPositions = 28
row_kind_number RowKind'.RayQueryProceedResult = 29
row_kind_number RowKind'.RayQueryGetIntersection = 30
row_kind_number RowKind'.SubgroupBallotResult = 31
row_kind_number RowKind'.SubgroupOperationResult = 32
row_kind_number RowKind'.CooperativeLoad = 33
row_kind_number RowKind'.CooperativeMultiplyAdd = 34

-- a vector's size is its number, 2 to 4
abbrev pub vector_sizes : List VectorSize
vector_sizes =
    VectorSize'.Bi ∷ VectorSize'.Tri ∷ VectorSize'.Quad ∷ []

abbrev pub vector_size_of : ℕ → VectorSize
vector_size_of k = get_or vector_sizes (k - 2) VectorSize'.Bi

abbrev pub vector_size_number : VectorSize → ℕ
vector_size_number VectorSize'.Bi = 2
vector_size_number VectorSize'.Tri = 3
vector_size_number VectorSize'.Quad = 4

-- roles, 0 to 2
abbrev pub cooperative_roles : List CooperativeRole
cooperative_roles =
    CooperativeRole'.A ∷ CooperativeRole'.B ∷ CooperativeRole'.C ∷ []

abbrev pub cooperative_role_of : ℕ → CooperativeRole
cooperative_role_of k = get_or cooperative_roles k CooperativeRole'.A

abbrev pub cooperative_role_number : CooperativeRole → ℕ
cooperative_role_number CooperativeRole'.A = 0
cooperative_role_number CooperativeRole'.B = 1
cooperative_role_number CooperativeRole'.C = 2

-- scalar kinds, 0 to 5
abbrev pub scalar_kinds : List ScalarKind
scalar_kinds =
    ScalarKind'.Sint ∷ ScalarKind'.Uint ∷ ScalarKind'.Float ∷ ScalarKind'.Bool ∷ ScalarKind'.AbstractInt ∷
    ScalarKind'.AbstractFloat ∷ []

abbrev pub scalar_kind_of : ℕ → ScalarKind
scalar_kind_of k = get_or scalar_kinds k ScalarKind'.Sint

abbrev pub scalar_kind_number : ScalarKind → ℕ
scalar_kind_number ScalarKind'.Sint = 0
scalar_kind_number ScalarKind'.Uint = 1
scalar_kind_number ScalarKind'.Float = 2
scalar_kind_number ScalarKind'.Bool = 3
scalar_kind_number ScalarKind'.AbstractInt = 4
scalar_kind_number ScalarKind'.AbstractFloat = 5

-- image dimensions, 1 to 4
abbrev pub image_dimensions : List ImageDimension
image_dimensions =
    ImageDimension'.D1 ∷ ImageDimension'.D2 ∷ ImageDimension'.D3 ∷ ImageDimension'.Cube ∷ []

abbrev pub image_dimension_of : ℕ → ImageDimension
image_dimension_of k = get_or image_dimensions (k - 1) ImageDimension'.D1

abbrev pub image_dimension_number : ImageDimension → ℕ
image_dimension_number ImageDimension'.D1 = 1
image_dimension_number ImageDimension'.D2 = 2
image_dimension_number ImageDimension'.D3 = 3
image_dimension_number ImageDimension'.Cube = 4

-- storage formats, 0 to 40
abbrev pub storage_formats : List StorageFormat
storage_formats =
    StorageFormat'.R8Unorm ∷ StorageFormat'.R8Snorm ∷ StorageFormat'.R8Uint ∷ StorageFormat'.R8Sint ∷
    StorageFormat'.R16Uint ∷ StorageFormat'.R16Sint ∷ StorageFormat'.R16Float ∷ StorageFormat'.Rg8Unorm ∷
    StorageFormat'.Rg8Snorm ∷ StorageFormat'.Rg8Uint ∷ StorageFormat'.Rg8Sint ∷ StorageFormat'.R32Uint ∷
    StorageFormat'.R32Sint ∷ StorageFormat'.R32Float ∷ StorageFormat'.Rg16Uint ∷ StorageFormat'.Rg16Sint ∷
    StorageFormat'.Rg16Float ∷ StorageFormat'.Rgba8Unorm ∷ StorageFormat'.Rgba8Snorm ∷ StorageFormat'.Rgba8Uint ∷
    StorageFormat'.Rgba8Sint ∷ StorageFormat'.Bgra8Unorm ∷ StorageFormat'.Rgb10a2Uint ∷ StorageFormat'.Rgb10a2Unorm ∷
    StorageFormat'.Rg11b10Ufloat ∷ StorageFormat'.R64Uint ∷ StorageFormat'.Rg32Uint ∷ StorageFormat'.Rg32Sint ∷
    StorageFormat'.Rg32Float ∷ StorageFormat'.Rgba16Uint ∷ StorageFormat'.Rgba16Sint ∷ StorageFormat'.Rgba16Float ∷
    StorageFormat'.Rgba32Uint ∷ StorageFormat'.Rgba32Sint ∷ StorageFormat'.Rgba32Float ∷ StorageFormat'.R16Unorm ∷
    StorageFormat'.R16Snorm ∷ StorageFormat'.Rg16Unorm ∷ StorageFormat'.Rg16Snorm ∷ StorageFormat'.Rgba16Unorm ∷
    StorageFormat'.Rgba16Snorm ∷ []

abbrev pub storage_format_of : ℕ → StorageFormat
storage_format_of k = get_or storage_formats k StorageFormat'.R8Unorm

abbrev pub storage_format_number : StorageFormat → ℕ
storage_format_number StorageFormat'.R8Unorm = 0
storage_format_number StorageFormat'.R8Snorm = 1
storage_format_number StorageFormat'.R8Uint = 2
storage_format_number StorageFormat'.R8Sint = 3
storage_format_number StorageFormat'.R16Uint = 4
storage_format_number StorageFormat'.R16Sint = 5
storage_format_number StorageFormat'.R16Float = 6
storage_format_number StorageFormat'.Rg8Unorm = 7
storage_format_number StorageFormat'.Rg8Snorm = 8
storage_format_number StorageFormat'.Rg8Uint = 9
storage_format_number StorageFormat'.Rg8Sint = 10
storage_format_number StorageFormat'.R32Uint = 11
storage_format_number StorageFormat'.R32Sint = 12
storage_format_number StorageFormat'.R32Float = 13
storage_format_number StorageFormat'.Rg16Uint = 14
storage_format_number StorageFormat'.Rg16Sint = 15
storage_format_number StorageFormat'.Rg16Float = 16
storage_format_number StorageFormat'.Rgba8Unorm = 17
storage_format_number StorageFormat'.Rgba8Snorm = 18
storage_format_number StorageFormat'.Rgba8Uint = 19
storage_format_number StorageFormat'.Rgba8Sint = 20
storage_format_number StorageFormat'.Bgra8Unorm = 21
storage_format_number StorageFormat'.Rgb10a2Uint = 22
storage_format_number StorageFormat'.Rgb10a2Unorm = 23
storage_format_number StorageFormat'.Rg11b10Ufloat = 24
storage_format_number StorageFormat'.R64Uint = 25
storage_format_number StorageFormat'.Rg32Uint = 26
storage_format_number StorageFormat'.Rg32Sint = 27
storage_format_number StorageFormat'.Rg32Float = 28
storage_format_number StorageFormat'.Rgba16Uint = 29
storage_format_number StorageFormat'.Rgba16Sint = 30
storage_format_number StorageFormat'.Rgba16Float = 31
storage_format_number StorageFormat'.Rgba32Uint = 32
storage_format_number StorageFormat'.Rgba32Sint = 33
storage_format_number StorageFormat'.Rgba32Float = 34
storage_format_number StorageFormat'.R16Unorm = 35
storage_format_number StorageFormat'.R16Snorm = 36
storage_format_number StorageFormat'.Rg16Unorm = 37
storage_format_number StorageFormat'.Rg16Snorm = 38
storage_format_number StorageFormat'.Rgba16Unorm = 39
storage_format_number StorageFormat'.Rgba16Snorm = 40

-- literal kinds, 0 to 11
abbrev pub literals : List Literal
literals =
    Literal'.F64 ∷ Literal'.F32 ∷ Literal'.F16 ∷ Literal'.U16 ∷ Literal'.I16 ∷ Literal'.U32 ∷ Literal'.I32 ∷
    Literal'.U64 ∷ Literal'.I64 ∷ Literal'.Bool ∷ Literal'.AbstractInt ∷ Literal'.AbstractFloat ∷ []

abbrev pub literal_of : ℕ → Literal
literal_of k = get_or literals k Literal'.F64

abbrev pub literal_number : Literal → ℕ
literal_number Literal'.F64 = 0
literal_number Literal'.F32 = 1
literal_number Literal'.F16 = 2
literal_number Literal'.U16 = 3
literal_number Literal'.I16 = 4
literal_number Literal'.U32 = 5
literal_number Literal'.I32 = 6
literal_number Literal'.U64 = 7
literal_number Literal'.I64 = 8
literal_number Literal'.Bool = 9
literal_number Literal'.AbstractInt = 10
literal_number Literal'.AbstractFloat = 11

-- binary operators, 0 to 17
abbrev pub binary_operators : List BinaryOperator
binary_operators =
    BinaryOperator'.Add ∷ BinaryOperator'.Subtract ∷ BinaryOperator'.Multiply ∷ BinaryOperator'.Divide ∷
    BinaryOperator'.Modulo ∷ BinaryOperator'.Equal ∷ BinaryOperator'.NotEqual ∷ BinaryOperator'.Less ∷
    BinaryOperator'.LessEqual ∷ BinaryOperator'.Greater ∷ BinaryOperator'.GreaterEqual ∷ BinaryOperator'.And ∷
    BinaryOperator'.ExclusiveOr ∷ BinaryOperator'.InclusiveOr ∷ BinaryOperator'.LogicalAnd ∷
    BinaryOperator'.LogicalOr ∷ BinaryOperator'.ShiftLeft ∷ BinaryOperator'.ShiftRight ∷ []

abbrev pub binary_operator_of : ℕ → BinaryOperator
binary_operator_of k = get_or binary_operators k BinaryOperator'.Add

abbrev pub binary_operator_number : BinaryOperator → ℕ
binary_operator_number BinaryOperator'.Add = 0
binary_operator_number BinaryOperator'.Subtract = 1
binary_operator_number BinaryOperator'.Multiply = 2
binary_operator_number BinaryOperator'.Divide = 3
binary_operator_number BinaryOperator'.Modulo = 4
binary_operator_number BinaryOperator'.Equal = 5
binary_operator_number BinaryOperator'.NotEqual = 6
binary_operator_number BinaryOperator'.Less = 7
binary_operator_number BinaryOperator'.LessEqual = 8
binary_operator_number BinaryOperator'.Greater = 9
binary_operator_number BinaryOperator'.GreaterEqual = 10
binary_operator_number BinaryOperator'.And = 11
binary_operator_number BinaryOperator'.ExclusiveOr = 12
binary_operator_number BinaryOperator'.InclusiveOr = 13
binary_operator_number BinaryOperator'.LogicalAnd = 14
binary_operator_number BinaryOperator'.LogicalOr = 15
binary_operator_number BinaryOperator'.ShiftLeft = 16
binary_operator_number BinaryOperator'.ShiftRight = 17

-- relational functions, 0 to 3
abbrev pub relational_functions : List RelationalFunction
relational_functions =
    RelationalFunction'.All ∷ RelationalFunction'.Any ∷ RelationalFunction'.IsNan ∷ RelationalFunction'.IsInf ∷ []

abbrev pub relational_function_of : ℕ → RelationalFunction
relational_function_of k = get_or relational_functions k RelationalFunction'.All

abbrev pub relational_function_number : RelationalFunction → ℕ
relational_function_number RelationalFunction'.All = 0
relational_function_number RelationalFunction'.Any = 1
relational_function_number RelationalFunction'.IsNan = 2
relational_function_number RelationalFunction'.IsInf = 3

-- image queries, 0 to 3
abbrev pub image_queries : List ImageQuery
image_queries =
    ImageQuery'.Size ∷ ImageQuery'.NumLevels ∷ ImageQuery'.NumLayers ∷ ImageQuery'.NumSamples ∷ []

abbrev pub image_query_of : ℕ → ImageQuery
image_query_of k = get_or image_queries k ImageQuery'.Size

abbrev pub image_query_number : ImageQuery → ℕ
image_query_number ImageQuery'.Size = 0
image_query_number ImageQuery'.NumLevels = 1
image_query_number ImageQuery'.NumLayers = 2
image_query_number ImageQuery'.NumSamples = 3

-- a cooperative size is its number, 8 or 16
abbrev pub cooperative_size_of : ℕ → CooperativeSize
cooperative_size_of k = cond (eqb k 16) CooperativeSize'.Sixteen CooperativeSize'.Eight

abbrev pub cooperative_size_number : CooperativeSize → ℕ
cooperative_size_number CooperativeSize'.Eight = 8
cooperative_size_number CooperativeSize'.Sixteen = 16

-- a width is its number of bytes: 1, 2, 4 or 8 (document 02, request 2)
abbrev pub is_width : ℕ → Bool
is_width k = eqb k 1 || (eqb k 2 || (eqb k 4 || eqb k 8))

abbrev pub width_of : ℕ → Width
width_of k = cond (eqb k 2) Width'.Two (cond (eqb k 4) Width'.Four (cond (eqb k 8) Width'.Eight Width'.One))

abbrev pub width_number : Width → ℕ
width_number Width'.One = 1
width_number Width'.Two = 2
width_number Width'.Four = 4
width_number Width'.Eight = 8

-- a flag is 0 or 1
abbrev pub flag_of : ℕ → Bool
flag_of k = eqb k 1

abbrev pub flag_number : Bool → ℕ
flag_number true = 1
flag_number false = 0

-- an access, 0 to 7: LOAD is 1, STORE 2 and ATOMIC 4
abbrev pub access_of : ℕ → StorageAccess
access_of k = record { load = flag_of (k % 2); store = flag_of (k / 2 % 2); atomic = flag_of (k / 4 % 2) }

abbrev pub access_number : StorageAccess → ℕ
access_number a = flag_number a.load + 2 * flag_number a.store + 4 * flag_number a.atomic

-- address spaces, 0 to 9; the access counts in the storage space alone
abbrev pub spaces : ℕ → List AddressSpace
spaces access =
    AddressSpace'.Function ∷ AddressSpace'.Private ∷ AddressSpace'.WorkGroup ∷ AddressSpace'.Uniform ∷
    (AddressSpace'.Storage (access_of access)) ∷ AddressSpace'.Handle ∷ AddressSpace'.Immediate ∷
    AddressSpace'.TaskPayload ∷ AddressSpace'.RayPayload ∷ AddressSpace'.IncomingRayPayload ∷ []

abbrev pub space_of : ℕ → ℕ → AddressSpace
space_of k access = get_or (spaces access) k AddressSpace'.Function

abbrev pub space_number : AddressSpace → ℕ
space_number AddressSpace'.Function = 0
space_number AddressSpace'.Private = 1
space_number AddressSpace'.WorkGroup = 2
space_number AddressSpace'.Uniform = 3
space_number (AddressSpace'.Storage a) = 4
space_number AddressSpace'.Handle = 5
space_number AddressSpace'.Immediate = 6
space_number AddressSpace'.TaskPayload = 7
space_number AddressSpace'.RayPayload = 8
space_number AddressSpace'.IncomingRayPayload = 9

-- the access number that stands beside a space
abbrev pub space_access : AddressSpace → ℕ
space_access AddressSpace'.Function = 0
space_access AddressSpace'.Private = 0
space_access AddressSpace'.WorkGroup = 0
space_access AddressSpace'.Uniform = 0
space_access (AddressSpace'.Storage a) = access_number a
space_access AddressSpace'.Handle = 0
space_access AddressSpace'.Immediate = 0
space_access AddressSpace'.TaskPayload = 0
space_access AddressSpace'.RayPayload = 0
space_access AddressSpace'.IncomingRayPayload = 0
