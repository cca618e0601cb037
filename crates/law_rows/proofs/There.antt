-- What a row and a type name, as statements of a file's frames: each number and range leads to frames of the right
-- family and kind, and each row or type that must be earlier is (document 01, "The file"). Definitions alone.
use Rattle.std.specs.Prelude.{Option, Some, None}
use Prim.Native.Nat.{ℕ, ◌+◌, ◌-◌, ◌<◌}
use mathlib.Core.Path.{◌≡◌}
use mathlib.Core.Bool.{true}
use mathlib.Core.List.{List}
use Rattle.ir.specs.declared.TypeNumber.{TypeNumber}
use Rattle.ir.specs.declared.RowNumber.{RowNumber}
use Rattle.ir.specs.declared.TypeInner.{TypeInner}
use Rattle.ir.specs.declared.TypeInner.TheVariants as Ti
use Rattle.ir.specs.declared.Expression.{Expression}
use Rattle.ir.specs.declared.Expression.TheVariants as Ex
use Rattle.frames.specs.Bytes.{frame_at}
use Rattle.frames.specs.Forms.{member_of, component_of}
use Rattle.archive.specs.declared.Starts.{Starts}
use Rattle.archive.specs.Starts.{starts_of}
use Rattle.archive.specs.Names.{is_type, size_names, result_names, query_names, relational_names}
use Rattle.rule.specs.Things as Row
use Rattle.rule.specs.Things.{Shown}
use Rattle.law_rows.proofs.Good.{OfFamily, IsItem}
use Rattle.law_rows.proofs.Ranged.{Each, IfSome}

-- frame k is a member, and its type is earlier than type n
pub record IsMember (fr : List ℕ) (n : TypeNumber) (k : ℕ) : Type 0 where
  pub frame : OfFamily fr 2 k
  pub early : (member_of (frame_at fr k)).ty.0 < n.0

-- frame k is a component, and its row is earlier than row n
pub record IsComponent (fr : List ℕ) (n : RowNumber) (k : ℕ) : Type 0 where
  pub frame : OfFamily fr 5 k
  pub early : (component_of (frame_at fr k)).0 < n.0

-- TYPES: a base is earlier than type n, a pending size names an override, and a struct's range holds members
abbrev pub InnerThere : List ℕ → TypeNumber → TypeInner → Type 0
InnerThere fr n (Ti.Scalar k) = Unit {0}
InnerThere fr n (Ti.Vector z k) = Unit {0}
InnerThere fr n (Ti.Matrix c r k) = Unit {0}
InnerThere fr n (Ti.CooperativeMatrix c r k o) = Unit {0}
InnerThere fr n (Ti.Atomic k) = Unit {0}
InnerThere fr n (Ti.Pointer b p) = b.0 < n.0
InnerThere fr n (Ti.ValuePointer z k p) = Unit {0}
InnerThere fr n (Ti.Array b z t) = (b.0 < n.0) × (size_names (starts_of fr) z ≡ true)
InnerThere fr n (Ti.Struct m j t) = (i : ℕ) → i < j → IsMember fr n ((starts_of fr).members + m.0 + i)
InnerThere fr n (Ti.Image d a c) = Unit {0}
InnerThere fr n (Ti.Sampler q) = Unit {0}
InnerThere fr n (Ti.AccelerationStructure q) = Unit {0}
InnerThere fr n (Ti.RayQuery q) = Unit {0}
InnerThere fr n (Ti.BindingArray b z) = (b.0 < n.0) × (size_names (starts_of fr) z ≡ true)

abbrev pub TypeThere : List ℕ → TypeNumber → Option TypeInner → Type 0
TypeThere fr n (Some t) = InnerThere fr n t
TypeThere fr n None = Unit {0}

-- ROWS: an operand is earlier than row n, an item is of its kind, a type is of the file, and a compose's range holds
-- components. An argument index is free, and a special type may be missing; so of these only what is there.
abbrev pub ExpressionThere : List ℕ → RowNumber → Expression → Type 0
ExpressionThere fr n (Ex.Literal l) = Unit {0}
ExpressionThere fr n (Ex.Constant i) = IsItem fr 1 ((starts_of fr).constants + i.0)
ExpressionThere fr n (Ex.Override i) = IsItem fr 2 ((starts_of fr).overrides + i.0)
ExpressionThere fr n (Ex.ZeroValue t) = is_type (starts_of fr) t ≡ true
ExpressionThere fr n (Ex.Compose t j c) =
    (is_type (starts_of fr) t ≡ true) × ((i : ℕ) → i < j → IsComponent fr n ((starts_of fr).components + c.0 + i))
ExpressionThere fr n (Ex.Access m) = m.0 < n.0
ExpressionThere fr n (Ex.AccessIndex m i) = m.0 < n.0
ExpressionThere fr n (Ex.Splat z m) = m.0 < n.0
ExpressionThere fr n (Ex.Swizzle z m) = m.0 < n.0
ExpressionThere fr n (Ex.FunctionArgument i) = i < (starts_of fr).locals - (starts_of fr).arguments
    → IsItem fr 4 ((starts_of fr).arguments + i)
ExpressionThere fr n (Ex.GlobalVariable i) = IsItem fr 3 ((starts_of fr).globals + i.0)
ExpressionThere fr n (Ex.LocalVariable i) = IsItem fr 5 ((starts_of fr).locals + i.0)
ExpressionThere fr n (Ex.Load m) = m.0 < n.0
ExpressionThere fr n (Ex.ImageSample m g) = m.0 < n.0
ExpressionThere fr n (Ex.ImageLoad m) = m.0 < n.0
ExpressionThere fr n (Ex.ImageQuery m q) = query_names n m q ≡ true
ExpressionThere fr n (Ex.Unary m) = m.0 < n.0
ExpressionThere fr n (Ex.Binary o l r) = (l.0 < n.0) × (r.0 < n.0)
ExpressionThere fr n (Ex.Select m) = m.0 < n.0
ExpressionThere fr n (Ex.Derivative m) = m.0 < n.0
ExpressionThere fr n (Ex.Relational f m) = relational_names n f m ≡ true
ExpressionThere fr n Ex.Math = Unit {0}
ExpressionThere fr n (Ex.As m k c) = m.0 < n.0
ExpressionThere fr n (Ex.CallResult i) = IsItem fr 6 ((starts_of fr).functions + i.0)
ExpressionThere fr n (Ex.AtomicResult t) = is_type (starts_of fr) t ≡ true
ExpressionThere fr n (Ex.WorkGroupUniformLoadResult t) = is_type (starts_of fr) t ≡ true
ExpressionThere fr n Ex.ArrayLength = Unit {0}
ExpressionThere fr n Ex.RayQueryVertexPositions =
    0 < (starts_of fr).rows - (starts_of fr).vertex_returns → IsItem fr 8 ((starts_of fr).vertex_returns + 0)
ExpressionThere fr n Ex.RayQueryProceedResult = Unit {0}
ExpressionThere fr n Ex.RayQueryGetIntersection =
    0 < (starts_of fr).vertex_returns - (starts_of fr).intersections → IsItem fr 7 ((starts_of fr).intersections + 0)
ExpressionThere fr n Ex.SubgroupBallotResult = Unit {0}
ExpressionThere fr n (Ex.SubgroupOperationResult t) = is_type (starts_of fr) t ≡ true
ExpressionThere fr n (Ex.CooperativeLoad c r o m) = m.0 < n.0
ExpressionThere fr n (Ex.CooperativeMultiplyAdd m) = m.0 < n.0

abbrev pub RowThere : List ℕ → RowNumber → Option Expression → Type 0
RowThere fr n (Some e) = ExpressionThere fr n e
RowThere fr n None = Unit {0}

-- WHAT A ROW SHOWS is in range: its types are types of the file, the rows that it reads are earlier than row n, and so
-- are its components
abbrev pub ShownInRange : Starts → RowNumber → Shown → Type 0
ShownInRange s n (Row.literal l) = Unit {0}
ShownInRange s n (Row.constant t) = is_type s t ≡ true
ShownInRange s n (Row.override t) = is_type s t ≡ true
ShownInRange s n (Row.zero_value t) = is_type s t ≡ true
ShownInRange s n (Row.compose t parts) = (is_type s t ≡ true) × Each (λ (r : RowNumber). r.0 < n.0) parts
ShownInRange s n (Row.access m) = m.0 < n.0
ShownInRange s n (Row.access_index m i) = m.0 < n.0
ShownInRange s n (Row.splat z m) = m.0 < n.0
ShownInRange s n (Row.swizzle z m) = m.0 < n.0
ShownInRange s n (Row.function_argument i t) = IfSome (λ t. is_type s t ≡ true) t
ShownInRange s n (Row.global_variable t p) = is_type s t ≡ true
ShownInRange s n (Row.local_variable t) = is_type s t ≡ true
ShownInRange s n (Row.load m) = m.0 < n.0
ShownInRange s n (Row.image_sample m g) = m.0 < n.0
ShownInRange s n (Row.image_load m) = m.0 < n.0
ShownInRange s n (Row.image_query m q) = query_names n m q ≡ true
ShownInRange s n (Row.unary m) = m.0 < n.0
ShownInRange s n (Row.binary o l r) = (l.0 < n.0) × (r.0 < n.0)
ShownInRange s n (Row.select m) = m.0 < n.0
ShownInRange s n (Row.derivative m) = m.0 < n.0
ShownInRange s n (Row.relational f m) = relational_names n f m ≡ true
ShownInRange s n (Row.cast m k c) = m.0 < n.0
ShownInRange s n (Row.call_result r) = result_names s r ≡ true
ShownInRange s n (Row.atomic_result t) = is_type s t ≡ true
ShownInRange s n (Row.work_group_uniform_load_result t) = is_type s t ≡ true
ShownInRange s n Row.array_length = Unit {0}
ShownInRange s n (Row.ray_query_vertex_positions t) = IfSome (λ t. is_type s t ≡ true) t
ShownInRange s n Row.ray_query_proceed_result = Unit {0}
ShownInRange s n (Row.ray_query_get_intersection t) = IfSome (λ t. is_type s t ≡ true) t
ShownInRange s n Row.subgroup_ballot_result = Unit {0}
ShownInRange s n (Row.subgroup_operation_result t) = is_type s t ≡ true
ShownInRange s n (Row.cooperative_load c r o m) = m.0 < n.0
ShownInRange s n (Row.cooperative_multiply_add m) = m.0 < n.0
