-- Where numbers stand in a frame, and a frame with its numbers moved (document 01, "The file"; document 02, requests 12
-- and 14). What the table does not name is no number, and stays.
use Rattle.std.specs.Prelude.{ℕ, ◌+◌, ◌/◌, ◌%◌, Bool, true, false, cond, List, [], ◌∷◌, eqb, get_or}
use Rattle.ir.specs.declared.TypeKind.{TypeKind}
use Rattle.ir.specs.declared.TypeKind.TheVariants as Tk
use Rattle.ir.specs.declared.ItemKind.{ItemKind}
use Rattle.ir.specs.declared.ItemKind.TheVariants as Ik
use Rattle.ir.specs.declared.RowKind.{RowKind}
use Rattle.ir.specs.declared.RowKind.TheVariants as Rk
use Rattle.ir.specs.declared.ArraySize.{ArraySize}
use Rattle.ir.specs.declared.ArraySize.TheVariants as As
use Rattle.ir.specs.declared.ImageQuery.{ImageQuery}
use Rattle.ir.specs.declared.ImageQuery.TheVariants as Iq
use Rattle.ir.specs.declared.RelationalFunction.{RelationalFunction}
use Rattle.ir.specs.declared.RelationalFunction.TheVariants as Rl
use Rattle.ir.specs.Numbers.{type_kind_of, item_kind_of, row_kind_of, image_query_of, relational_function_of, flag_of}
use Rattle.frames.specs.declared.Frame.{Frame}
use Rattle.frames.specs.Bytes.{byte, half, word, framed}
use Rattle.frames.specs.Fields.{array_size_of}
use Rattle.law_moved.specs.Moves.{Moves}

-- what a number counts
pub data Counted : Type 0 where
  types members constants overrides globals arguments locals functions rows components counts : Counted

-- a number of two bytes, or of four, from the place given on
pub data Spot : Type 0 where
  two four : Counted → ℕ → Spot

-- THE TABLE

-- a pending size names an override
abbrev pub size_numbers : ArraySize → List Spot
size_numbers (As.Constant n) = []
size_numbers (As.Pending o) = four overrides 8 ∷ []
size_numbers As.Dynamic = []

abbrev pub type_numbers : TypeKind → Frame → List Spot
type_numbers Tk.Unknown f = []
type_numbers Tk.Scalar f = []
type_numbers Tk.Vector f = []
type_numbers Tk.Matrix f = []
type_numbers Tk.CooperativeMatrix f = []
type_numbers Tk.Atomic f = []
type_numbers Tk.Pointer f = two types 2 ∷ []
type_numbers Tk.ValuePointer f = []
type_numbers Tk.Array f = two types 2 ∷ size_numbers (array_size_of (byte f 4) (word f 8))
type_numbers Tk.Struct f = two members 2 ∷ []
type_numbers Tk.Image f = []
type_numbers Tk.Sampler f = []
type_numbers Tk.AccelerationStructure f = []
type_numbers Tk.RayQuery f = []
type_numbers Tk.BindingArray f = two types 2 ∷ size_numbers (array_size_of (byte f 4) (word f 8))

-- a member names a type
abbrev pub member_numbers : List Spot
member_numbers = two types 2 ∷ []

-- a function names a type where it has a result
abbrev pub result_numbers : Bool → List Spot
result_numbers true = two types 2 ∷ []
result_numbers false = []

abbrev pub item_numbers : ItemKind → Frame → List Spot
item_numbers Ik.Unknown f = []
item_numbers Ik.Constant f = two types 2 ∷ []
item_numbers Ik.Override f = two types 2 ∷ []
item_numbers Ik.GlobalVariable f = two types 2 ∷ []
item_numbers Ik.FunctionArgument f = two types 2 ∷ []
item_numbers Ik.LocalVariable f = two types 2 ∷ []
item_numbers Ik.Function f = result_numbers (flag_of (byte f 4))
item_numbers Ik.RayIntersection f = two types 2 ∷ []
item_numbers Ik.RayVertexReturn f = two types 2 ∷ []

-- a query's operand is read for a size alone, a relational function's by IsNan and IsInf
abbrev pub query_numbers : ImageQuery → List Spot
query_numbers Iq.Size = two rows 2 ∷ []
query_numbers Iq.NumLevels = []
query_numbers Iq.NumLayers = []
query_numbers Iq.NumSamples = []

abbrev pub relational_numbers : RelationalFunction → List Spot
relational_numbers Rl.All = []
relational_numbers Rl.Any = []
relational_numbers Rl.IsNan = two rows 2 ∷ []
relational_numbers Rl.IsInf = two rows 2 ∷ []

-- the operands of a row, the item or the type that it names, and a compose's components
abbrev pub row_numbers : RowKind → Frame → List Spot
row_numbers Rk.Unknown f = []
row_numbers Rk.Literal f = []
row_numbers Rk.Constant f = two constants 2 ∷ []
row_numbers Rk.Override f = two overrides 2 ∷ []
row_numbers Rk.ZeroValue f = two types 2 ∷ []
row_numbers Rk.Compose f = two types 2 ∷ two counts 4 ∷ four components 12 ∷ []
row_numbers Rk.Access f = two rows 2 ∷ []
row_numbers Rk.AccessIndex f = two rows 2 ∷ []
row_numbers Rk.Splat f = two rows 2 ∷ []
row_numbers Rk.Swizzle f = two rows 2 ∷ []
row_numbers Rk.FunctionArgument f = four arguments 12 ∷ []
row_numbers Rk.GlobalVariable f = two globals 2 ∷ []
row_numbers Rk.LocalVariable f = two locals 2 ∷ []
row_numbers Rk.Load f = two rows 2 ∷ []
row_numbers Rk.ImageSample f = two rows 2 ∷ []
row_numbers Rk.ImageLoad f = two rows 2 ∷ []
row_numbers Rk.ImageQuery f = query_numbers (image_query_of (byte f 6))
row_numbers Rk.Unary f = two rows 2 ∷ []
row_numbers Rk.Binary f = two rows 2 ∷ two rows 4 ∷ []
row_numbers Rk.Select f = two rows 2 ∷ []
row_numbers Rk.Derivative f = two rows 2 ∷ []
row_numbers Rk.Relational f = relational_numbers (relational_function_of (byte f 6))
row_numbers Rk.Math f = []
row_numbers Rk.As f = two rows 2 ∷ []
row_numbers Rk.CallResult f = two functions 2 ∷ []
row_numbers Rk.AtomicResult f = two types 2 ∷ []
row_numbers Rk.WorkGroupUniformLoadResult f = two types 2 ∷ []
row_numbers Rk.ArrayLength f = []
row_numbers Rk.RayQueryVertexPositions f = []
row_numbers Rk.RayQueryProceedResult f = []
row_numbers Rk.RayQueryGetIntersection f = []
row_numbers Rk.SubgroupBallotResult f = []
row_numbers Rk.SubgroupOperationResult f = two types 2 ∷ []
row_numbers Rk.CooperativeLoad f = two rows 2 ∷ []
row_numbers Rk.CooperativeMultiplyAdd f = two rows 2 ∷ []

-- a component names a row
abbrev pub component_numbers : List Spot
component_numbers = two rows 2 ∷ []

-- by a frame's family and kind
abbrev pub numbers_by : ℕ → Frame → List Spot
numbers_by family f =
    get_or
    ([] ∷ type_numbers (type_kind_of (byte f 1)) f ∷ member_numbers ∷ item_numbers (item_kind_of (byte f 1)) f
    ∷ row_numbers
    (row_kind_of (byte f 1)) f
    ∷ component_numbers ∷ [])
    family []

abbrev pub numbers_of : Frame → List Spot
numbers_of f = numbers_by (byte f 0) f

-- MOVED

abbrev pub move_of : Moves → Counted → ℕ → ℕ
move_of m types n = m.types n
move_of m members n = m.members n
move_of m constants n = m.constants n
move_of m overrides n = m.overrides n
move_of m globals n = m.globals n
move_of m arguments n = m.arguments n
move_of m locals n = m.locals n
move_of m functions n = m.functions n
move_of m rows n = m.rows n
move_of m components n = m.components n
move_of m counts n = m.counts n

-- a frame with a number of two bytes, or of four, in its place
abbrev pub with_half : Frame → ℕ → ℕ → Frame
with_half f i n = framed (λ (k : ℕ). cond (eqb k i) (n % 256) (cond (eqb k (i + 1)) (n / 256) (byte f k)))

abbrev pub with_word : Frame → ℕ → ℕ → Frame
with_word f i n =
    framed (λ (k : ℕ). cond (eqb k i) (n % 256) (cond (eqb k (i + 1)) (n / 256 % 256)
    (cond (eqb k (i + 2)) (n / 256 / 256 % 256) (cond (eqb k (i + 3)) (n / 256 / 256 / 256) (byte f k)))))

abbrev pub moved_at : Moves → Spot → Frame → Frame
moved_at m (two c i) f = with_half f i (move_of m c (half f i))
moved_at m (four c i) f = with_word f i (move_of m c (word f i))

abbrev pub moved_in : Moves → List Spot → Frame → Frame
moved_in m [] f = f
moved_in m (x ∷ l) f = moved_in m l (moved_at m x f)

-- a frame of each family
unfoldable pub moved_type : Moves → Frame → Frame
moved_type m f = moved_in m (type_numbers (type_kind_of (byte f 1)) f) f

unfoldable pub moved_member : Moves → Frame → Frame
moved_member m f = moved_in m member_numbers f

unfoldable pub moved_item : Moves → Frame → Frame
moved_item m f = moved_in m (item_numbers (item_kind_of (byte f 1)) f) f

unfoldable pub moved_row : Moves → Frame → Frame
moved_row m f = moved_in m (row_numbers (row_kind_of (byte f 1)) f) f

unfoldable pub moved_component : Moves → Frame → Frame
moved_component m f = moved_in m component_numbers f

-- any frame
unfoldable pub moved_frame : Moves → Frame → Frame
moved_frame m f = moved_in m (numbers_of f) f
