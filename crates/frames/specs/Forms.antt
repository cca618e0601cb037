-- What a frame stands for: the type, member, item, row or component that its layout's values make up, and whether its
-- bytes are within their values (number 5). Document 01, "The file" and "Numbers handed back".
use Rattle.std.specs.Prelude.{ℕ, Bool, true, ◌&&◌, List, [], ◌∷◌, eqb, get_or, Option, Some, None}
use Rattle.ir.specs.declared.TypeNumber.{TypeNumber}
use Rattle.ir.specs.declared.RowNumber.{RowNumber}
use Rattle.ir.specs.declared.ItemNumber.{ItemNumber}
use Rattle.ir.specs.declared.TypeKind.{TypeKind}
use Rattle.ir.specs.declared.TypeKind.TheVariants as Tk
use Rattle.ir.specs.declared.TypeInner.{TypeInner}
use Rattle.ir.specs.declared.TypeInner.TheVariants as Ti
use Rattle.ir.specs.declared.StructMember.{StructMember}
use Rattle.ir.specs.declared.ItemKind.{ItemKind}
use Rattle.ir.specs.declared.ItemKind.TheVariants as Ik
use Rattle.ir.specs.declared.Item.{Item}
use Rattle.ir.specs.declared.Item.TheVariants as It
use Rattle.ir.specs.declared.RowKind.{RowKind}
use Rattle.ir.specs.declared.RowKind.TheVariants as Rk
use Rattle.ir.specs.declared.Expression.{Expression}
use Rattle.ir.specs.declared.Expression.TheVariants as Ex
use Rattle.ir.specs.Numbers.{type_kind_of, item_kind_of, row_kind_of}
use Rattle.frames.specs.declared.Frame.{Frame}
use Rattle.frames.specs.Bytes.{byte, half}
use Rattle.frames.specs.Fields.{Layout, Vals, read_all, fits_all}
use Rattle.frames.specs.Layout.{type_layout, member_layout, item_layout, row_layout, component_layout}

abbrev type : ℕ → TypeNumber
type n = record { 0 = n }

abbrev row : ℕ → RowNumber
row n = record { 0 = n }

abbrev item : ℕ → ItemNumber
item n = record { 0 = n }

-- the type of a kind with the values of its layout
abbrev pub made_type : (k : TypeKind) → Vals (type_layout k) → Option TypeInner
made_type Tk.Unknown v = None
made_type Tk.Scalar v = Some (Ti.Scalar v.0)
made_type Tk.Vector v = Some (Ti.Vector v.0 v.1.0)
made_type Tk.Matrix v = Some (Ti.Matrix v.0 v.1.0 v.1.1.0)
made_type Tk.CooperativeMatrix v = Some (Ti.CooperativeMatrix v.0 v.1.0 v.1.1.0 v.1.1.1.0)
made_type Tk.Atomic v = Some (Ti.Atomic v.0)
made_type Tk.Pointer v = Some (Ti.Pointer (type v.0) v.1.0)
made_type Tk.ValuePointer v = Some (Ti.ValuePointer v.0 v.1.0 v.1.1.0)
made_type Tk.Array v = Some (Ti.Array (type v.0) v.1.0 v.1.1.0)
made_type Tk.Struct v = Some (Ti.Struct (record { 0 = v.0 }) v.1.0 v.1.1.0)
made_type Tk.Image v = Some (Ti.Image v.0 v.1.0 v.1.1.0)
made_type Tk.Sampler v = Some (Ti.Sampler v.0)
made_type Tk.AccelerationStructure v = Some (Ti.AccelerationStructure v.0)
made_type Tk.RayQuery v = Some (Ti.RayQuery v.0)
made_type Tk.BindingArray v = Some (Ti.BindingArray (type v.0) v.1.0)

-- the item of a kind with the values of its layout
abbrev pub made_item : (k : ItemKind) → Vals (item_layout k) → Item
made_item Ik.Unknown v = It.Unknown
made_item Ik.Constant v = It.Constant (type v.0)
made_item Ik.Override v = It.Override (type v.0)
made_item Ik.GlobalVariable v = It.GlobalVariable (type v.0) v.1.0
made_item Ik.FunctionArgument v = It.FunctionArgument (type v.0)
made_item Ik.LocalVariable v = It.LocalVariable (type v.0)
made_item Ik.Function v = It.Function v.0
made_item Ik.RayIntersection v = It.RayIntersection (type v.0)
made_item Ik.RayVertexReturn v = It.RayVertexReturn (type v.0)

-- the row of a kind with the values of its layout
abbrev pub made_row : (k : RowKind) → Vals (row_layout k) → Option Expression
made_row Rk.Unknown v = None
made_row Rk.Literal v = Some (Ex.Literal v.0)
made_row Rk.Constant v = Some (Ex.Constant (item v.0))
made_row Rk.Override v = Some (Ex.Override (item v.0))
made_row Rk.ZeroValue v = Some (Ex.ZeroValue (type v.0))
made_row Rk.Compose v = Some (Ex.Compose (type v.0) v.1.0 (record { 0 = v.1.1.0 }))
made_row Rk.Access v = Some (Ex.Access (row v.0))
made_row Rk.AccessIndex v = Some (Ex.AccessIndex (row v.0) v.1.0)
made_row Rk.Splat v = Some (Ex.Splat v.1.0 (row v.0))
made_row Rk.Swizzle v = Some (Ex.Swizzle v.1.0 (row v.0))
made_row Rk.FunctionArgument v = Some (Ex.FunctionArgument v.0)
made_row Rk.GlobalVariable v = Some (Ex.GlobalVariable (item v.0))
made_row Rk.LocalVariable v = Some (Ex.LocalVariable (item v.0))
made_row Rk.Load v = Some (Ex.Load (row v.0))
made_row Rk.ImageSample v = Some (Ex.ImageSample (row v.0) v.1.0)
made_row Rk.ImageLoad v = Some (Ex.ImageLoad (row v.0))
made_row Rk.ImageQuery v = Some (Ex.ImageQuery (row v.0.1) v.0.0)
made_row Rk.Unary v = Some (Ex.Unary (row v.0))
made_row Rk.Binary v = Some (Ex.Binary v.1.1.0 (row v.0) (row v.1.0))
made_row Rk.Select v = Some (Ex.Select (row v.0))
made_row Rk.Derivative v = Some (Ex.Derivative (row v.0))
made_row Rk.Relational v = Some (Ex.Relational v.0.0 (row v.0.1))
made_row Rk.Math v = Some Ex.Math
made_row Rk.As v = Some (Ex.As (row v.0) v.1.0 v.1.1.0)
made_row Rk.CallResult v = Some (Ex.CallResult (item v.0))
made_row Rk.AtomicResult v = Some (Ex.AtomicResult (type v.0))
made_row Rk.WorkGroupUniformLoadResult v = Some (Ex.WorkGroupUniformLoadResult (type v.0))
made_row Rk.ArrayLength v = Some Ex.ArrayLength
made_row Rk.RayQueryVertexPositions v = Some Ex.RayQueryVertexPositions
made_row Rk.RayQueryProceedResult v = Some Ex.RayQueryProceedResult
made_row Rk.RayQueryGetIntersection v = Some Ex.RayQueryGetIntersection
made_row Rk.SubgroupBallotResult v = Some Ex.SubgroupBallotResult
made_row Rk.SubgroupOperationResult v = Some (Ex.SubgroupOperationResult (type v.0))
made_row Rk.CooperativeLoad v = Some (Ex.CooperativeLoad v.1.0 v.1.1.0 v.1.1.1.0 (row v.0))
made_row Rk.CooperativeMultiplyAdd v = Some (Ex.CooperativeMultiplyAdd (row v.0))

-- WHAT A FRAME READS AS, by its kind, byte 1

abbrev pub type_as : TypeKind → Frame → Option TypeInner
type_as k f = made_type k (read_all (type_layout k) f)

abbrev pub item_as : ItemKind → Frame → Item
item_as k f = made_item k (read_all (item_layout k) f)

abbrev pub row_as : RowKind → Frame → Option Expression
row_as k f = made_row k (read_all (row_layout k) f)

unfoldable pub type_of : Frame → Option TypeInner
type_of f = type_as (type_kind_of (byte f 1)) f

unfoldable pub item_of : Frame → Item
item_of f = item_as (item_kind_of (byte f 1)) f

unfoldable pub row_of : Frame → Option Expression
row_of f = row_as (row_kind_of (byte f 1)) f

unfoldable pub member_of : Frame → StructMember
member_of f = let v = read_all member_layout f in record { ty = type v.0; offset = v.1.0 }

unfoldable pub component_of : Frame → RowNumber
component_of f = let v = read_all component_layout f in row v.0

-- NUMBER 5: a known frame's byte is outside its values, or a member's or component's kind is not 0

-- the bytes of a frame of a family of the file are within their values
unfoldable pub fields_fit : Frame → Bool
fields_fit f =
    get_or
    (true ∷ fits_all (type_layout (type_kind_of (byte f 1))) f ∷ (eqb (byte f 1) 0 && fits_all member_layout f)
    ∷ fits_all (item_layout (item_kind_of (byte f 1))) f ∷ fits_all (row_layout (row_kind_of (byte f 1))) f
    ∷ (eqb (byte f 1) 0 && fits_all component_layout f) ∷ [])
    (byte f 0) true
