-- Not part of any public statement: for proofs and code only. A frame by its numbers; what is handed back, read again
-- from its frame; and the values of a row's and of an item's layout, with the frame that these make up (document 01,
-- "The file", families 3 and 4), as Out.antt has them of a type.
use Rattle.ir.specs.declared.TypeInner.{TypeInner}
use Rattle.std.specs.Prelude.{ℕ, ◌/◌, ◌%◌, ◌-◌, cond, List, [], ◌∷◌, leb, eqb, get_or, Option, Some, None, Ok, Err}
use Rattle.ir.specs.Numbers.{flag_of, row_kind_number}
use Rattle.ir.specs.ForProofs.{item_kind_number}
use Rattle.answers.specs.Answer.{Answer}
use Rattle.answers.specs.declared.Unresolved.{Unresolved}
use Rattle.answers.specs.declared.Unresolved.TheVariants as Un
use Rattle.answers.specs.ForProofs.{answered}
use Rattle.answers.specs.declared.Refusal.TheVariants as Re
use Rattle.ir.specs.declared.TypeResolution.TheVariants as Tr
use Rattle.answers.specs.Asked.{Verdict}
use Rattle.answers.specs.declared.ComposeError.TheVariants as Co
use Rattle.ir.specs.declared.RowKind.{RowKind}
use Rattle.ir.specs.declared.RowKind.TheVariants as Rk
use Rattle.ir.specs.declared.Expression.{Expression}
use Rattle.ir.specs.declared.Expression.TheVariants as Ex
use Rattle.ir.specs.declared.ItemKind.{ItemKind}
use Rattle.ir.specs.declared.ItemKind.TheVariants as Ik
use Rattle.ir.specs.declared.Item.{Item}
use Rattle.ir.specs.declared.Item.TheVariants as It
use Rattle.ir.specs.declared.StructMember.{StructMember}
use Rattle.ir.specs.declared.RowNumber.{RowNumber}
use Rattle.frames.specs.declared.Frame.{Frame}
use Rattle.frames.specs.Bytes.{byte, half, word}
use Rattle.frames.specs.Forms.{type_of}
use Rattle.frames.specs.Fields.{Vals, laid}
use Rattle.frames.specs.Layout.{row_layout, item_layout, member_layout, component_layout}

-- bytes 0 to 7 as they are, and a number in bytes 8 to 11 and in 12 to 15
abbrev pub packed : ℕ → ℕ → ℕ → ℕ → ℕ → ℕ → ℕ → ℕ → ℕ → ℕ → Frame
packed family kind b2 b3 b4 b5 b6 b7 third last =
    record {
      b0 = family;
      b1 = kind;
      b2 = b2;
      b3 = b3;
      b4 = b4;
      b5 = b5;
      b6 = b6;
      b7 = b7;
      b8 = third % 256;
      b9 = third / 256 % 256;
      b10 = third / 256 / 256 % 256;
      b11 = third / 256 / 256 / 256;
      b12 = last % 256;
      b13 = last / 256 % 256;
      b14 = last / 256 / 256 % 256;
      b15 = last / 256 / 256 / 256;
    }

-- WHAT IS HANDED BACK, read again

-- what a frame reads as that no answer writes
abbrev pub unreadable : Unresolved
unreadable = Un.Refused Re.MissingSpecialType

-- the refusals 10 to 22, by the values of a frame; 21 is none
abbrev pub refusals : Frame → List Unresolved
refusals f =
    Un.Refused (Re.OutOfBoundsIndex (record { 0 = half f 2 }) (word f 4)) ∷ Un.Refused
    (Re.InvalidAccess (record { 0 = half f 2 }) (flag_of (byte f 8)))
    ∷ Un.Refused (Re.InvalidSubAccess (record { 0 = half f 2 }) (flag_of (byte f 8))) ∷ Un.Refused
    (Re.InvalidScalar (record { 0 = half f 2 }))
    ∷ Un.Refused (Re.InvalidVector (record { 0 = half f 2 })) ∷ Un.Refused (Re.InvalidPointer (record { 0 = half f 2 }))
    ∷ Un.Refused (Re.InvalidImage (record { 0 = half f 2 })) ∷ Un.Refused Re.FunctionReturnsVoid ∷ Un.Refused
    Re.IncompatibleOperands
    ∷ Un.Refused (Re.FunctionArgumentNotFound (word f 4)) ∷ Un.Refused Re.MissingSpecialType ∷ unreadable ∷ Un.Newer
    (record { 0 = half f 2 }) ∷ []

-- a refusal by its number: 41, or one of the table
abbrev pub refusal_of : Frame → Unresolved
refusal_of f =
    cond (eqb (byte f 1) 41) (Un.Refused Re.Mismatch)
    (cond (leb 10 (byte f 1)) (get_or (refusals f) (byte f 1 - 10) unreadable) unreadable)

-- the answer without a type that a frame of family 10 stands for
unfoldable pub unresolved_of : Frame → Unresolved
unresolved_of f = cond (eqb (byte f 0) 10) (refusal_of f) unreadable

abbrev pub value_of : Option TypeInner → Answer
value_of (Some t) = Ok (Tr.Value t)
value_of None = answered unreadable

-- the answer that a frame of family 8, 9 or 10 stands for
unfoldable pub answer_of : Frame → Answer
answer_of f =
    cond (eqb (byte f 0) 8) (Ok (Tr.Handle (record { 0 = half f 2 })))
    (cond (eqb (byte f 0) 9) (value_of (type_of f)) (answered (unresolved_of f)))

abbrev pub newer_of : ℕ → Verdict
newer_of n = cond (eqb n 0xffff_ffff) (Err Co.NewerComposed) (Err (Co.NewerComponent n))

-- the verdict that a frame of family 11 stands for
unfoldable pub verdict_of : Frame → Verdict
verdict_of f =
    cond (eqb (byte f 1) 0) (Ok tt)
    (cond (eqb (byte f 1) 22) (newer_of (word f 4))
    (get_or ((Err Co.ComposedType) ∷ (Err (Co.ComponentCount (word f 4) (word f 8))) ∷ (Err (Co.ComponentType
    (word f 4)))
    ∷ (Err (Co.ComponentRefused (word f 4))) ∷ []) (byte f 1 - 30)
    (Err Co.ComposedType)))

-- ROWS, ITEMS, MEMBERS AND COMPONENTS, written

abbrev pub row_kind : Expression → RowKind
row_kind (Ex.Literal l) = Rk.Literal
row_kind (Ex.Constant n) = Rk.Constant
row_kind (Ex.Override n) = Rk.Override
row_kind (Ex.ZeroValue t) = Rk.ZeroValue
row_kind (Ex.Compose t n c) = Rk.Compose
row_kind (Ex.Access r) = Rk.Access
row_kind (Ex.AccessIndex r i) = Rk.AccessIndex
row_kind (Ex.Splat n r) = Rk.Splat
row_kind (Ex.Swizzle n r) = Rk.Swizzle
row_kind (Ex.FunctionArgument i) = Rk.FunctionArgument
row_kind (Ex.GlobalVariable n) = Rk.GlobalVariable
row_kind (Ex.LocalVariable n) = Rk.LocalVariable
row_kind (Ex.Load r) = Rk.Load
row_kind (Ex.ImageSample r q) = Rk.ImageSample
row_kind (Ex.ImageLoad r) = Rk.ImageLoad
row_kind (Ex.ImageQuery r q) = Rk.ImageQuery
row_kind (Ex.Unary r) = Rk.Unary
row_kind (Ex.Binary o l r) = Rk.Binary
row_kind (Ex.Select r) = Rk.Select
row_kind (Ex.Derivative r) = Rk.Derivative
row_kind (Ex.Relational n r) = Rk.Relational
row_kind Ex.Math = Rk.Math
row_kind (Ex.As r k w) = Rk.As
row_kind (Ex.CallResult n) = Rk.CallResult
row_kind (Ex.AtomicResult t) = Rk.AtomicResult
row_kind (Ex.WorkGroupUniformLoadResult t) = Rk.WorkGroupUniformLoadResult
row_kind Ex.ArrayLength = Rk.ArrayLength
row_kind Ex.RayQueryVertexPositions = Rk.RayQueryVertexPositions
row_kind Ex.RayQueryProceedResult = Rk.RayQueryProceedResult
row_kind Ex.RayQueryGetIntersection = Rk.RayQueryGetIntersection
row_kind Ex.SubgroupBallotResult = Rk.SubgroupBallotResult
row_kind (Ex.SubgroupOperationResult t) = Rk.SubgroupOperationResult
row_kind (Ex.CooperativeLoad c n o r) = Rk.CooperativeLoad
row_kind (Ex.CooperativeMultiplyAdd r) = Rk.CooperativeMultiplyAdd

-- the values of a row's layout
abbrev pub row_values : (e : Expression) → Vals (row_layout (row_kind e))
row_values (Ex.Literal l) = (l, tt)
row_values (Ex.Constant n) = (n.0, tt)
row_values (Ex.Override n) = (n.0, tt)
row_values (Ex.ZeroValue t) = (t.0, tt)
row_values (Ex.Compose t n c) = (t.0, (n, (c.0, tt)))
row_values (Ex.Access r) = (r.0, tt)
row_values (Ex.AccessIndex r i) = (r.0, (i, tt))
row_values (Ex.Splat n r) = (r.0, (n, tt))
row_values (Ex.Swizzle n r) = (r.0, (n, tt))
row_values (Ex.FunctionArgument i) = (i, tt)
row_values (Ex.GlobalVariable n) = (n.0, tt)
row_values (Ex.LocalVariable n) = (n.0, tt)
row_values (Ex.Load r) = (r.0, tt)
row_values (Ex.ImageSample r q) = (r.0, (q, tt))
row_values (Ex.ImageLoad r) = (r.0, tt)
row_values (Ex.ImageQuery r q) = ((q, r.0), tt)
row_values (Ex.Unary r) = (r.0, tt)
row_values (Ex.Binary o l r) = (l.0, (r.0, (o, tt)))
row_values (Ex.Select r) = (r.0, tt)
row_values (Ex.Derivative r) = (r.0, tt)
row_values (Ex.Relational n r) = ((n, r.0), tt)
row_values Ex.Math = tt
row_values (Ex.As r k w) = (r.0, (k, (w, tt)))
row_values (Ex.CallResult n) = (n.0, tt)
row_values (Ex.AtomicResult t) = (t.0, tt)
row_values (Ex.WorkGroupUniformLoadResult t) = (t.0, tt)
row_values Ex.ArrayLength = tt
row_values Ex.RayQueryVertexPositions = tt
row_values Ex.RayQueryProceedResult = tt
row_values Ex.RayQueryGetIntersection = tt
row_values Ex.SubgroupBallotResult = tt
row_values (Ex.SubgroupOperationResult t) = (t.0, tt)
row_values (Ex.CooperativeLoad c n o r) = (r.0, (c, (n, (o, tt))))
row_values (Ex.CooperativeMultiplyAdd r) = (r.0, tt)

-- a row as a frame of a family
abbrev pub row_frame : ℕ → Expression → Frame
row_frame family e = laid family (row_kind_number (row_kind e)) (row_layout (row_kind e)) (row_values e)

abbrev pub item_kind : Item → ItemKind
item_kind It.Unknown = Ik.Unknown
item_kind (It.Constant t) = Ik.Constant
item_kind (It.Override t) = Ik.Override
item_kind (It.GlobalVariable t p) = Ik.GlobalVariable
item_kind (It.FunctionArgument t) = Ik.FunctionArgument
item_kind (It.LocalVariable t) = Ik.LocalVariable
item_kind (It.Function r) = Ik.Function
item_kind (It.RayIntersection t) = Ik.RayIntersection
item_kind (It.RayVertexReturn t) = Ik.RayVertexReturn

-- the values of an item's layout
abbrev pub item_values : (i : Item) → Vals (item_layout (item_kind i))
item_values It.Unknown = tt
item_values (It.Constant t) = (t.0, tt)
item_values (It.Override t) = (t.0, tt)
item_values (It.GlobalVariable t p) = (t.0, (p, tt))
item_values (It.FunctionArgument t) = (t.0, tt)
item_values (It.LocalVariable t) = (t.0, tt)
item_values (It.Function r) = (r, tt)
item_values (It.RayIntersection t) = (t.0, tt)
item_values (It.RayVertexReturn t) = (t.0, tt)

-- an item as a frame of a family
abbrev pub item_frame : ℕ → Item → Frame
item_frame family i = laid family (item_kind_number (item_kind i)) (item_layout (item_kind i)) (item_values i)

-- a member, and a component, as a frame of a family and a kind
abbrev pub member_frame : ℕ → ℕ → StructMember → Frame
member_frame family kind m = laid family kind member_layout (m.ty.0, (m.offset, tt))

abbrev pub component_frame : ℕ → ℕ → RowNumber → Frame
component_frame family kind r = laid family kind component_layout (r.0, tt)
