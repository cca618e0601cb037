-- WHAT THE TEST OF 49 SEES IN ONE FRAME: a type of a known kind is known, and a row of a kind that passes shows
-- something and lacks nothing. Kind by kind.
use Rattle.std.specs.Prelude.{None}
use Prim.Native.Nat.{ℕ, ◌+◌}
use native.Mathlib.Omega.{arith}
use mathlib.Core.Path.{◌≡◌, refl, subst}
use mathlib.Core.Bool.{true}
use mathlib.Core.List.{List}
use mathlib.Core.Option.{Option, none, some}
use Rattle.ir.specs.declared.TypeNumber.{TypeNumber}
use Rattle.ir.specs.declared.RowNumber.{RowNumber}
use Rattle.ir.specs.declared.TypeKind.{TypeKind}
use Rattle.ir.specs.declared.TypeKind.TheVariants as Tk
use Rattle.ir.specs.declared.RowKind.{RowKind}
use Rattle.ir.specs.declared.RowKind.TheVariants as Rk
use Rattle.ir.specs.Numbers.{row_kind_of}
use Rattle.frames.specs.declared.Frame.{Frame}
use Rattle.frames.specs.Bytes.{byte, frame_at}
use Rattle.frames.specs.Forms.{type_as, row_as, row_of}
use Rattle.archive.specs.Starts.{starts_of}
use Rattle.archive.specs.Names.{is_row}
use Rattle.archive.specs.Access.{row_in}
use Rattle.rule.specs.Things.{Shown, kind, see, see_row}
use Rattle.rule.specs.Things as Row
use Rattle.law_join.specs.Joinable.{type_joins, row_joins}
use Rattle.law_join.proofs.Lacking.{Lacks}

never : {X : Type 0} → ◌≡◌ {A = ℕ} 0 1 → X
never z = absurd (omega arith)

-- TYPES: a kind that is known is of a type that is

pub type-known : (k : TypeKind) (f : Frame) → type_joins k ≡ true → type_as k f ≡ None → ⊥
type-known Tk.Unknown f h e = never (cc)
type-known Tk.Scalar f h e = never (cc)
type-known Tk.Vector f h e = never (cc)
type-known Tk.Matrix f h e = never (cc)
type-known Tk.CooperativeMatrix f h e = never (cc)
type-known Tk.Atomic f h e = never (cc)
type-known Tk.Pointer f h e = never (cc)
type-known Tk.ValuePointer f h e = never (cc)
type-known Tk.Array f h e = never (cc)
type-known Tk.Struct f h e = never (cc)
type-known Tk.Image f h e = never (cc)
type-known Tk.Sampler f h e = never (cc)
type-known Tk.AccelerationStructure f h e = never (cc)
type-known Tk.RayQuery f h e = never (cc)
type-known Tk.BindingArray f h e = never (cc)

pub type-joins : (k : TypeKind) (f : Frame) → (type_as k f ≡ None → ⊥) → type_joins k ≡ true
type-joins Tk.Unknown f h = absurd (h refl)
type-joins Tk.Scalar f h = refl
type-joins Tk.Vector f h = refl
type-joins Tk.Matrix f h = refl
type-joins Tk.CooperativeMatrix f h = refl
type-joins Tk.Atomic f h = refl
type-joins Tk.Pointer f h = refl
type-joins Tk.ValuePointer f h = refl
type-joins Tk.Array f h = refl
type-joins Tk.Struct f h = refl
type-joins Tk.Image f h = refl
type-joins Tk.Sampler f h = refl
type-joins Tk.AccelerationStructure f h = refl
type-joins Tk.RayQuery f h = refl
type-joins Tk.BindingArray f h = refl

-- ROWS: one that shows something and lacks nothing

abbrev pub IsThere : Option TypeNumber → Type 0
IsThere (some t) = Unit {0}
IsThere none = ⊥

abbrev pub Whole : Shown → Type 0
Whole (Row.literal l) = Unit {0}
Whole (Row.constant t) = Unit {0}
Whole (Row.override t) = Unit {0}
Whole (Row.zero_value t) = Unit {0}
Whole (Row.compose t parts) = Unit {0}
Whole (Row.access n) = Unit {0}
Whole (Row.access_index n i) = Unit {0}
Whole (Row.splat z n) = Unit {0}
Whole (Row.swizzle z n) = Unit {0}
Whole (Row.function_argument i t) = IsThere t
Whole (Row.global_variable t s) = Unit {0}
Whole (Row.local_variable t) = Unit {0}
Whole (Row.load n) = Unit {0}
Whole (Row.image_sample n g) = Unit {0}
Whole (Row.image_load n) = Unit {0}
Whole (Row.image_query n q) = Unit {0}
Whole (Row.unary n) = Unit {0}
Whole (Row.binary o l r) = Unit {0}
Whole (Row.select n) = Unit {0}
Whole (Row.derivative n) = Unit {0}
Whole (Row.relational g n) = Unit {0}
Whole (Row.cast n k w) = Unit {0}
Whole (Row.call_result r) = Unit {0}
Whole (Row.atomic_result t) = Unit {0}
Whole (Row.work_group_uniform_load_result t) = Unit {0}
Whole Row.array_length = Unit {0}
Whole (Row.ray_query_vertex_positions t) = IsThere t
Whole Row.ray_query_proceed_result = Unit {0}
Whole (Row.ray_query_get_intersection t) = IsThere t
Whole Row.subgroup_ballot_result = Unit {0}
Whole (Row.subgroup_operation_result t) = Unit {0}
Whole (Row.cooperative_load c r o n) = Unit {0}
Whole (Row.cooperative_multiply_add n) = Unit {0}

abbrev pub Shows : Option Shown → Type 0
Shows (some x) = Whole x
Shows none = ⊥

pub lacks-nothing : (x : Shown) → Whole x → Lacks (λ i. ⊥) ⊥ x
lacks-nothing x h =
    record {
      no-argument = λ i e. subst Whole e h;
      no_return = λ e. subst Whole e h;
      no-intersection = λ e. subst Whole e h;
    }

module _ (fr : List ℕ) where
  -- of a kind that passes the test
  pub row-whole : (k : RowKind) (f : Frame) → row_joins (starts_of fr) k f ≡ true
      → Shows (see_row fr (starts_of fr) (row_as k f))
  row-whole Rk.Unknown f h = never (cc)
  row-whole Rk.Literal f h = tt
  row-whole Rk.Constant f h = tt
  row-whole Rk.Override f h = tt
  row-whole Rk.ZeroValue f h = tt
  row-whole Rk.Compose f h = tt
  row-whole Rk.Access f h = tt
  row-whole Rk.AccessIndex f h = tt
  row-whole Rk.Splat f h = tt
  row-whole Rk.Swizzle f h = tt
  row-whole Rk.FunctionArgument f h = rw h tt
  row-whole Rk.GlobalVariable f h = tt
  row-whole Rk.LocalVariable f h = tt
  row-whole Rk.Load f h = tt
  row-whole Rk.ImageSample f h = tt
  row-whole Rk.ImageLoad f h = tt
  row-whole Rk.ImageQuery f h = tt
  row-whole Rk.Unary f h = tt
  row-whole Rk.Binary f h = tt
  row-whole Rk.Select f h = tt
  row-whole Rk.Derivative f h = tt
  row-whole Rk.Relational f h = tt
  row-whole Rk.Math f h = never (cc)
  row-whole Rk.As f h = tt
  row-whole Rk.CallResult f h = tt
  row-whole Rk.AtomicResult f h = tt
  row-whole Rk.WorkGroupUniformLoadResult f h = tt
  row-whole Rk.ArrayLength f h = tt
  row-whole Rk.RayQueryVertexPositions f h = never (cc)
  row-whole Rk.RayQueryProceedResult f h = tt
  row-whole Rk.RayQueryGetIntersection f h = never (cc)
  row-whole Rk.SubgroupBallotResult f h = tt
  row-whole Rk.SubgroupOperationResult f h = tt
  row-whole Rk.CooperativeLoad f h = tt
  row-whole Rk.CooperativeMultiplyAdd f h = tt

  -- what a row shows is what its frame reads as
  pub shows-frame : (n : RowNumber) → is_row (starts_of fr) n ≡ true → see fr (kind n)
      ≡ see_row fr (starts_of fr)
      (row_as (row_kind_of (byte (frame_at fr ((starts_of fr).rows + n.0)) 1))
      (frame_at fr ((starts_of fr).rows + n.0)))
  unfolding row_in row_of
  shows-frame n here = rw here
