-- The layout of each kind of frame, after its family (byte 0) and its kind (byte 1): of a file's frames, families 1 to
-- 5, and of those handed back, families 8 to 13 (document 01, "The file"; document 02, requests 5 and 6).
use Rattle.std.specs.Prelude.{[], ◌∷◌}
use Rattle.ir.specs.declared.TypeKind.{TypeKind}
use Rattle.ir.specs.declared.TypeKind.TheVariants as Tk
use Rattle.ir.specs.declared.ItemKind.{ItemKind}
use Rattle.ir.specs.declared.ItemKind.TheVariants as Ik
use Rattle.ir.specs.declared.RowKind.{RowKind}
use Rattle.ir.specs.declared.RowKind.TheVariants as Rk
use Rattle.frames.specs.Fields.{Field, vector_size, option_size, cooperative_size, role, scalar_kind, dimension, flag}
use Rattle.frames.specs.Fields.{literal, operator}
use Rattle.frames.specs.Fields.{number, wide, scalar, space, array_size, class, result, query, relational, convert}
use Rattle.frames.specs.Fields.{Layout, free, fields}

-- family 1, types. An unknown kind has free bytes.
abbrev pub type_layout : TypeKind → Layout
type_layout Tk.Unknown = free
type_layout Tk.Scalar = fields (scalar ∷ [])
type_layout Tk.Vector = fields (vector_size 2 ∷ scalar ∷ [])
type_layout Tk.Matrix = fields (vector_size 2 ∷ vector_size 3 ∷ scalar ∷ [])
type_layout Tk.CooperativeMatrix = fields (cooperative_size 2 ∷ cooperative_size 3 ∷ scalar ∷ role 6 ∷ [])
type_layout Tk.Atomic = fields (scalar ∷ [])
type_layout Tk.Pointer = fields (number 2 ∷ space ∷ [])
type_layout Tk.ValuePointer = fields (option_size 2 ∷ scalar ∷ space ∷ [])
type_layout Tk.Array = fields (number 2 ∷ array_size ∷ wide 12 ∷ [])
type_layout Tk.Struct = fields (number 2 ∷ number 4 ∷ wide 12 ∷ [])
type_layout Tk.Image = fields (dimension 2 ∷ flag 3 ∷ class ∷ [])
type_layout Tk.Sampler = fields (flag 2 ∷ [])
type_layout Tk.AccelerationStructure = fields (flag 2 ∷ [])
type_layout Tk.RayQuery = fields (flag 2 ∷ [])
type_layout Tk.BindingArray = fields (number 2 ∷ array_size ∷ [])

-- family 2, members: type, offset
abbrev pub member_layout : Layout
member_layout = fields (number 2 ∷ wide 12 ∷ [])

-- family 3, items: a type; a global has its space, and a function a result or none. An unknown kind is refused by
-- number 4.
abbrev pub item_layout : ItemKind → Layout
item_layout Ik.Unknown = free
item_layout Ik.Constant = fields (number 2 ∷ [])
item_layout Ik.Override = fields (number 2 ∷ [])
item_layout Ik.GlobalVariable = fields (number 2 ∷ space ∷ [])
item_layout Ik.FunctionArgument = fields (number 2 ∷ [])
item_layout Ik.LocalVariable = fields (number 2 ∷ [])
item_layout Ik.Function = fields (result ∷ [])
item_layout Ik.RayIntersection = fields (number 2 ∷ [])
item_layout Ik.RayVertexReturn = fields (number 2 ∷ [])

-- family 4, rows: bytes 2 and 3 are the operand read, the item or the type. Math and unknown kinds have free bytes.
abbrev pub row_layout : RowKind → Layout
row_layout Rk.Unknown = free
row_layout Rk.Literal = fields (literal 6 ∷ [])
row_layout Rk.Constant = fields (number 2 ∷ [])
row_layout Rk.Override = fields (number 2 ∷ [])
row_layout Rk.ZeroValue = fields (number 2 ∷ [])
row_layout Rk.Compose = fields (number 2 ∷ number 4 ∷ wide 12 ∷ [])
row_layout Rk.Access = fields (number 2 ∷ [])
row_layout Rk.AccessIndex = fields (number 2 ∷ wide 12 ∷ [])
row_layout Rk.Splat = fields (number 2 ∷ vector_size 6 ∷ [])
row_layout Rk.Swizzle = fields (number 2 ∷ vector_size 6 ∷ [])
row_layout Rk.FunctionArgument = fields (wide 12 ∷ [])
row_layout Rk.GlobalVariable = fields (number 2 ∷ [])
row_layout Rk.LocalVariable = fields (number 2 ∷ [])
row_layout Rk.Load = fields (number 2 ∷ [])
row_layout Rk.ImageSample = fields (number 2 ∷ flag 6 ∷ [])
row_layout Rk.ImageLoad = fields (number 2 ∷ [])
row_layout Rk.ImageQuery = fields (query ∷ [])
row_layout Rk.Unary = fields (number 2 ∷ [])
row_layout Rk.Binary = fields (number 2 ∷ number 4 ∷ operator 6 ∷ [])
row_layout Rk.Select = fields (number 2 ∷ [])
row_layout Rk.Derivative = fields (number 2 ∷ [])
row_layout Rk.Relational = fields (relational ∷ [])
row_layout Rk.Math = free
row_layout Rk.As = fields (number 2 ∷ scalar_kind 6 ∷ convert ∷ [])
row_layout Rk.CallResult = fields (number 2 ∷ [])
row_layout Rk.AtomicResult = fields (number 2 ∷ [])
row_layout Rk.WorkGroupUniformLoadResult = fields (number 2 ∷ [])
row_layout Rk.ArrayLength = fields ([])
row_layout Rk.RayQueryVertexPositions = fields ([])
row_layout Rk.RayQueryProceedResult = fields ([])
row_layout Rk.RayQueryGetIntersection = fields ([])
row_layout Rk.SubgroupBallotResult = fields ([])
row_layout Rk.SubgroupOperationResult = fields (number 2 ∷ [])
row_layout Rk.CooperativeLoad = fields (number 2 ∷ cooperative_size 6 ∷ cooperative_size 7 ∷ role 8 ∷ [])
row_layout Rk.CooperativeMultiplyAdd = fields (number 2 ∷ [])

-- family 5, components: a row
abbrev pub component_layout : Layout
component_layout = fields (number 2 ∷ [])

-- what is handed back: a type number (family 8); a value (family 9) is laid as a type
abbrev pub number_layout : Layout
number_layout = fields (number 2 ∷ [])

-- a refusal (family 10): place, index, indexed
abbrev pub refusal_layout : Layout
refusal_layout = fields (number 2 ∷ wide 4 ∷ flag 8 ∷ [])

-- a verdict (family 11): row, expected or component, given
abbrev pub verdict_layout : Layout
verdict_layout = fields (number 2 ∷ wide 4 ∷ wide 8 ∷ [])

-- what a type fills (family 12): alignment, size; its range (family 13): alignment, least size, greatest size
-- (document 02, requests 5 and 6)
abbrev pub size_layout : Layout
size_layout = fields (number 4 ∷ wide 8 ∷ [])

abbrev pub range_layout : Layout
range_layout = fields (number 4 ∷ wide 8 ∷ wide 12 ∷ [])
