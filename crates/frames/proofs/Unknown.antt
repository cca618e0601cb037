-- A type or a row is unknown exactly when its kind's number is outside those of the source's declaration: every known
-- kind makes a known form, and the rest is the table's rule.
use Rattle.std.specs.Prelude.{None}
use Prim.Native.Nat.{ℕ, ◌≤◌}
use native.Mathlib.Omega.{arith}
use mathlib.Core.Path.{◌≡◌, refl, ap}
use mathlib.Core.Logic.{◌⊎◌, ◌↔◌}
use Rattle.ir.specs.declared.TypeKind.{TypeKind}
use Rattle.ir.specs.declared.TypeKind.TheVariants as Tk
use Rattle.ir.specs.declared.RowKind.{RowKind}
use Rattle.ir.specs.declared.RowKind.TheVariants as Rk
use Rattle.ir.specs.Numbers.{type_kind_of, row_kind_of}
use Rattle.ir.proofs.Numbered.{unknown-type, unknown-row}
use Rattle.frames.specs.declared.Frame.{Frame}
use Rattle.frames.specs.Bytes.{byte}
use Rattle.frames.specs.Forms.{type_as, type_of, row_as, row_of}

never : {X : Type 0} → ◌≡◌ {A = ℕ} 0 1 → X
never z = absurd (omega arith)

only-type : (k : TypeKind) (f : Frame) → type_as k f ≡ None → k ≡ Tk.Unknown
only-type Tk.Unknown f e = refl
only-type Tk.Scalar f e = never (cc)
only-type Tk.Vector f e = never (cc)
only-type Tk.Matrix f e = never (cc)
only-type Tk.CooperativeMatrix f e = never (cc)
only-type Tk.Atomic f e = never (cc)
only-type Tk.Pointer f e = never (cc)
only-type Tk.ValuePointer f e = never (cc)
only-type Tk.Array f e = never (cc)
only-type Tk.Struct f e = never (cc)
only-type Tk.Image f e = never (cc)
only-type Tk.Sampler f e = never (cc)
only-type Tk.AccelerationStructure f e = never (cc)
only-type Tk.RayQuery f e = never (cc)
only-type Tk.BindingArray f e = never (cc)

-- a type's kind is unknown exactly when byte 1 is outside 1 to 14
pub unknown-type-frame : (f : Frame) → (type_of f ≡ None) ↔ ((byte f 1 ≡ 0) ⊎ (15 ≤ byte f 1))
unfolding type_of
unknown-type-frame f = (
  λ e. (unknown-type (byte f 1)).0 (only-type (type_kind_of (byte f 1)) f e),
  λ h. ap (λ (k : TypeKind). type_as k f) ((unknown-type (byte f 1)).1 h),
)

only_row : (k : RowKind) (f : Frame) → row_as k f ≡ None → k ≡ Rk.Unknown
only_row Rk.Unknown f e = refl
only_row Rk.Literal f e = never (cc)
only_row Rk.Constant f e = never (cc)
only_row Rk.Override f e = never (cc)
only_row Rk.ZeroValue f e = never (cc)
only_row Rk.Compose f e = never (cc)
only_row Rk.Access f e = never (cc)
only_row Rk.AccessIndex f e = never (cc)
only_row Rk.Splat f e = never (cc)
only_row Rk.Swizzle f e = never (cc)
only_row Rk.FunctionArgument f e = never (cc)
only_row Rk.GlobalVariable f e = never (cc)
only_row Rk.LocalVariable f e = never (cc)
only_row Rk.Load f e = never (cc)
only_row Rk.ImageSample f e = never (cc)
only_row Rk.ImageLoad f e = never (cc)
only_row Rk.ImageQuery f e = never (cc)
only_row Rk.Unary f e = never (cc)
only_row Rk.Binary f e = never (cc)
only_row Rk.Select f e = never (cc)
only_row Rk.Derivative f e = never (cc)
only_row Rk.Relational f e = never (cc)
only_row Rk.Math f e = never (cc)
only_row Rk.As f e = never (cc)
only_row Rk.CallResult f e = never (cc)
only_row Rk.AtomicResult f e = never (cc)
only_row Rk.WorkGroupUniformLoadResult f e = never (cc)
only_row Rk.ArrayLength f e = never (cc)
only_row Rk.RayQueryVertexPositions f e = never (cc)
only_row Rk.RayQueryProceedResult f e = never (cc)
only_row Rk.RayQueryGetIntersection f e = never (cc)
only_row Rk.SubgroupBallotResult f e = never (cc)
only_row Rk.SubgroupOperationResult f e = never (cc)
only_row Rk.CooperativeLoad f e = never (cc)
only_row Rk.CooperativeMultiplyAdd f e = never (cc)

-- a row's exactly when it is outside 1 to 34
pub unknown-row-frame : (f : Frame) → (row_of f ≡ None) ↔ ((byte f 1 ≡ 0) ⊎ (35 ≤ byte f 1))
unfolding row_of
unknown-row-frame f = (
  λ e. (unknown-row (byte f 1)).0 (only_row (row_kind_of (byte f 1)) f e),
  λ h. ap (λ (k : RowKind). row_as k f) ((unknown-row (byte f 1)).1 h),
)
