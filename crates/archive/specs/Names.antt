-- Number 6, what a frame names (document 01, "The file"): a type names earlier types only, a row earlier rows only, and
-- every number and range is within its family. An argument index is free; Math rows and unknown kinds name nothing.
use Rattle.std.specs.Prelude.{ℕ, ◌+◌, ◌-◌, Bool, true, cond, ◌&&◌, List, [], ◌∷◌, leb, ltb, get_or, Option, Some, None}
use Rattle.ir.specs.declared.TypeNumber.{TypeNumber}
use Rattle.ir.specs.declared.RowNumber.{RowNumber}
use Rattle.ir.specs.declared.ArraySize.{ArraySize}
use Rattle.ir.specs.declared.ArraySize.TheVariants as As
use Rattle.ir.specs.declared.TypeInner.{TypeInner}
use Rattle.ir.specs.declared.TypeInner.TheVariants as Ti
use Rattle.ir.specs.declared.Item.{Item}
use Rattle.ir.specs.declared.Item.TheVariants as It
use Rattle.ir.specs.declared.ImageQuery.{ImageQuery}
use Rattle.ir.specs.declared.ImageQuery.TheVariants as Iq
use Rattle.ir.specs.declared.RelationalFunction.{RelationalFunction}
use Rattle.ir.specs.declared.RelationalFunction.TheVariants as Rf
use Rattle.ir.specs.declared.Expression.{Expression}
use Rattle.ir.specs.declared.Expression.TheVariants as Ex
use Rattle.frames.specs.declared.Frame.{Frame}
use Rattle.frames.specs.Bytes.{frame_at}
use Rattle.frames.specs.Forms.{type_of, member_of, item_of, row_of, component_of}
use Rattle.archive.specs.declared.Starts.{Starts}
use Rattle.archive.specs.Starts.{starts_of, type_count, member_count, constant_count, override_count, global_count}
use Rattle.archive.specs.Starts.{local_count, function_count, row_count, component_count}

-- there is a type of this number
abbrev pub is_type : Starts → TypeNumber → Bool
is_type s n = ltb n.0 (type_count s)

-- there is a row of this number
abbrev pub is_row : Starts → RowNumber → Bool
is_row s n = ltb n.0 (row_count s)

-- a pending size names an override
abbrev pub size_names : Starts → ArraySize → Bool
size_names s (As.Constant n) = true
size_names s (As.Pending o) = ltb o.0 (override_count s)
size_names s As.Dynamic = true

-- type n names earlier types, overrides of the file, and members within their family
abbrev pub type_names : Starts → TypeNumber → TypeInner → Bool
type_names s n (Ti.Scalar k) = true
type_names s n (Ti.Vector z k) = true
type_names s n (Ti.Matrix c r k) = true
type_names s n (Ti.CooperativeMatrix c r k o) = true
type_names s n (Ti.Atomic k) = true
type_names s n (Ti.Pointer b p) = ltb b.0 n.0
type_names s n (Ti.ValuePointer z k p) = true
type_names s n (Ti.Array b z t) = ltb b.0 n.0 && size_names s z
type_names s n (Ti.Struct m j t) = leb (m.0 + j) (member_count s)
type_names s n (Ti.Image d a c) = true
type_names s n (Ti.Sampler q) = true
type_names s n (Ti.AccelerationStructure q) = true
type_names s n (Ti.RayQuery q) = true
type_names s n (Ti.BindingArray b z) = ltb b.0 n.0 && size_names s z

abbrev pub type_form_names : Starts → TypeNumber → Option TypeInner → Bool
type_form_names s n (Some t) = type_names s n t
type_form_names s n None = true

-- an item's type is one of the file; a function without a result names none
abbrev pub result_names : Starts → Option TypeNumber → Bool
result_names s None = true
result_names s (Some t) = is_type s t

abbrev pub item_names : Starts → Item → Bool
item_names s It.Unknown = true
item_names s (It.Constant t) = is_type s t
item_names s (It.Override t) = is_type s t
item_names s (It.GlobalVariable t p) = is_type s t
item_names s (It.FunctionArgument t) = is_type s t
item_names s (It.LocalVariable t) = is_type s t
item_names s (It.Function r) = result_names s r
item_names s (It.RayIntersection t) = is_type s t
item_names s (It.RayVertexReturn t) = is_type s t

-- row m is earlier than row n
abbrev pub is_earlier : RowNumber → RowNumber → Bool
is_earlier n m = ltb m.0 n.0

-- only a size reads its image
abbrev pub query_names : RowNumber → RowNumber → ImageQuery → Bool
query_names n m Iq.Size = is_earlier n m
query_names n m Iq.NumLevels = true
query_names n m Iq.NumLayers = true
query_names n m Iq.NumSamples = true

-- only IsNan and IsInf read their argument
abbrev pub relational_names : RowNumber → RelationalFunction → RowNumber → Bool
relational_names n Rf.All m = true
relational_names n Rf.Any m = true
relational_names n Rf.IsNan m = is_earlier n m
relational_names n Rf.IsInf m = is_earlier n m

-- row n names earlier rows, types and items of the file, and components within their family
abbrev pub row_names : Starts → RowNumber → Expression → Bool
row_names s n (Ex.Literal l) = true
row_names s n (Ex.Constant i) = ltb i.0 (constant_count s)
row_names s n (Ex.Override i) = ltb i.0 (override_count s)
row_names s n (Ex.ZeroValue t) = is_type s t
row_names s n (Ex.Compose t j c) = is_type s t && leb (c.0 + j) (component_count s)
row_names s n (Ex.Access m) = is_earlier n m
row_names s n (Ex.AccessIndex m i) = is_earlier n m
row_names s n (Ex.Splat z m) = is_earlier n m
row_names s n (Ex.Swizzle z m) = is_earlier n m
row_names s n (Ex.FunctionArgument i) = true
row_names s n (Ex.GlobalVariable i) = ltb i.0 (global_count s)
row_names s n (Ex.LocalVariable i) = ltb i.0 (local_count s)
row_names s n (Ex.Load m) = is_earlier n m
row_names s n (Ex.ImageSample m g) = is_earlier n m
row_names s n (Ex.ImageLoad m) = is_earlier n m
row_names s n (Ex.ImageQuery m q) = query_names n m q
row_names s n (Ex.Unary m) = is_earlier n m
row_names s n (Ex.Binary o l r) = is_earlier n l && is_earlier n r
row_names s n (Ex.Select m) = is_earlier n m
row_names s n (Ex.Derivative m) = is_earlier n m
row_names s n (Ex.Relational f m) = relational_names n f m
row_names s n Ex.Math = true
row_names s n (Ex.As m k c) = is_earlier n m
row_names s n (Ex.CallResult i) = ltb i.0 (function_count s)
row_names s n (Ex.AtomicResult t) = is_type s t
row_names s n (Ex.WorkGroupUniformLoadResult t) = is_type s t
row_names s n Ex.ArrayLength = true
row_names s n Ex.RayQueryVertexPositions = true
row_names s n Ex.RayQueryProceedResult = true
row_names s n Ex.RayQueryGetIntersection = true
row_names s n Ex.SubgroupBallotResult = true
row_names s n (Ex.SubgroupOperationResult t) = is_type s t
row_names s n (Ex.CooperativeLoad c r o m) = is_earlier n m
row_names s n (Ex.CooperativeMultiplyAdd m) = is_earlier n m

abbrev pub row_form_names : Starts → RowNumber → Option Expression → Bool
row_form_names s n (Some e) = row_names s n e
row_form_names s n None = true

-- a frame of a family, which is frame k, names what is there; a member or component that no range holds too. Types
-- begin the file, so type k is frame k, and a row's number counts from the start of the rows
abbrev pub names_by : ℕ → Starts → ℕ → Frame → Bool
names_by family s k f =
    get_or
    (true ∷ type_form_names s (record { 0 = k }) (type_of f) ∷ is_type s (member_of f).ty ∷ item_names s (item_of f)
    ∷ row_form_names s (record { 0 = k - s.rows }) (row_of f) ∷ is_row s (component_of f) ∷ [])
    family true

abbrev pub names_of : Starts → ℕ → Frame → Bool
names_of s k f = names_by f.b0 s k f

unfoldable pub names_ok : List ℕ → ℕ → Bool
names_ok fr k = names_of (starts_of fr) k (frame_at fr k)
