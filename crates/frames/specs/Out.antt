-- What is handed back, as frames (document 01, the end of "The file"): a type number is family 8, a value family 9,
-- laid as a type, a refusal family 10, a verdict family 11; what a type fills is family 12, its range family 13.
use Rattle.answers.specs.declared.VerdictError.TheVariants as Ve
use Rattle.answers.specs.declared.QueryError.TheVariants as Qe
use Rattle.answers.specs.declared.Unresolved.TheVariants as Un
use Rattle.std.specs.Prelude.{ℕ, Bool, true, false, Ok, Err}
use Rattle.ir.specs.declared.TypeNumber.{TypeNumber}
use Rattle.ir.specs.declared.RowNumber.{RowNumber}
use Rattle.ir.specs.declared.TypeKind.{TypeKind}
use Rattle.ir.specs.declared.TypeKind.TheVariants as Tk
use Rattle.ir.specs.declared.TypeInner.{TypeInner}
use Rattle.ir.specs.declared.TypeInner.TheVariants as Ti
use Rattle.ir.specs.Numbers.{type_kind_number}
use Rattle.answers.specs.Numbers.{Refused, Judged, at, not_there, outcome_values, error_values, refusal_values}
use Rattle.answers.specs.Numbers.{verdict_values}
use Rattle.answers.specs.Numbers.{SaidOne}
use Rattle.answers.specs.Numbers.{asked, instead}
use Rattle.answers.specs.Answer.{Answer}
use Rattle.answers.specs.Outcome.{Outcome}
use Rattle.answers.specs.declared.Refusal.{Refusal}
use Rattle.ir.specs.declared.TypeResolution.{TypeResolution}
use Rattle.ir.specs.declared.TypeResolution.TheVariants as Tr
use Rattle.answers.specs.Asked.{Verdict}
use Rattle.answers.specs.Asked.{RowType}
use Rattle.answers.specs.Asked.{ComposeVerdict}
use Rattle.frames.specs.declared.Frame.{Frame}
use Rattle.frames.specs.Fields.{Layout, Vals, laid}
use Rattle.frames.specs.Layout.{type_layout, number_layout, refusal_layout, verdict_layout, size_layout, range_layout}

abbrev pub kind_of : TypeInner → TypeKind
kind_of (Ti.Scalar s) = Tk.Scalar
kind_of (Ti.Vector n s) = Tk.Vector
kind_of (Ti.Matrix c r s) = Tk.Matrix
kind_of (Ti.CooperativeMatrix c r s o) = Tk.CooperativeMatrix
kind_of (Ti.Atomic s) = Tk.Atomic
kind_of (Ti.Pointer b p) = Tk.Pointer
kind_of (Ti.ValuePointer n s p) = Tk.ValuePointer
kind_of (Ti.Array b z t) = Tk.Array
kind_of (Ti.Struct f n t) = Tk.Struct
kind_of (Ti.Image d a c) = Tk.Image
kind_of (Ti.Sampler q) = Tk.Sampler
kind_of (Ti.AccelerationStructure q) = Tk.AccelerationStructure
kind_of (Ti.RayQuery q) = Tk.RayQuery
kind_of (Ti.BindingArray b z) = Tk.BindingArray

-- the values of a type's layout
abbrev pub type_values : (t : TypeInner) → Vals (type_layout (kind_of t))
type_values (Ti.Scalar s) = (s, tt)
type_values (Ti.Vector n s) = (n, (s, tt))
type_values (Ti.Matrix c r s) = (c, (r, (s, tt)))
type_values (Ti.CooperativeMatrix c r s o) = (c, (r, (s, (o, tt))))
type_values (Ti.Atomic s) = (s, tt)
type_values (Ti.Pointer b p) = (b.0, (p, tt))
type_values (Ti.ValuePointer n s p) = (n, (s, (p, tt)))
type_values (Ti.Array b z t) = (b.0, (z, (t, tt)))
type_values (Ti.Struct f n t) = (f.0, (n, (t, tt)))
type_values (Ti.Image d a c) = (d, (a, (c, tt)))
type_values (Ti.Sampler q) = (q, tt)
type_values (Ti.AccelerationStructure q) = (q, tt)
type_values (Ti.RayQuery q) = (q, tt)
type_values (Ti.BindingArray b z) = (b.0, (z, tt))

-- a type as a frame of a family: 1 in a file, 9 as a value
abbrev pub type_frame : ℕ → TypeInner → Frame
type_frame family t = laid family (type_kind_number (kind_of t)) (type_layout (kind_of t)) (type_values t)

abbrev pub number_frame : TypeNumber → Frame
number_frame n = laid 8 0 number_layout (n.0, tt)

abbrev pub resolution_frame : TypeResolution → Frame
resolution_frame (Tr.Handle n) = number_frame n
resolution_frame (Tr.Value t) = type_frame 9 t

abbrev pub refused_frame : Refused → Frame
refused_frame r = laid 10 r.number refusal_layout (r.place, (r.index, (r.indexed, tt)))

abbrev pub outcome_frame : Outcome → Frame
outcome_frame o = refused_frame (outcome_values o)

-- a row's answer; newer is number 22 with the row where it was met
abbrev pub answer_frame : Answer → Frame
answer_frame (Ok r) = resolution_frame r
answer_frame (Err (Un.Refused e)) = refused_frame (refusal_values e)
answer_frame (Err (Un.Newer r)) = refused_frame (at 22 r.0)

abbrev pub judged_frame : RowNumber → Judged → Frame
judged_frame r j = laid 11 j.number verdict_layout (r.0, (j.first, (j.given, tt)))

-- a compose's verdict, after its row
abbrev pub verdict_frame : RowNumber → Verdict → Frame
verdict_frame r v = judged_frame r (verdict_values v)

-- what a type fills: alignment and size, or alignment, least and greatest size, in bytes
abbrev pub sized_frame : ℕ → ℕ → Frame
sized_frame align size = laid 12 0 size_layout (align, (size, tt))

abbrev pub ranged_frame : ℕ → ℕ → ℕ → Frame
ranged_frame align least greatest = laid 13 0 range_layout (align, (least, (greatest, tt)))

-- WHERE ONE ROW IS ASKED FOR: the frame of its answer or its verdict, or a number with its place (document 01, "Numbers
-- handed back", last paragraph)

abbrev pub row_type_said : RowType → SaidOne Frame
row_type_said (Ok a) = asked (answer_frame a)
row_type_said (Err Qe.Index) = instead not_there
row_type_said (Err (Qe.NotAccepted e)) = instead (error_values e)

-- a row that is no compose is number 6 too: no compose has that number
abbrev pub compose_verdict_said : RowNumber → ComposeVerdict → SaidOne Frame
compose_verdict_said n (Ok v) = asked (verdict_frame n v)
compose_verdict_said n (Err Ve.NotCompose) = instead not_there
compose_verdict_said n (Err Ve.Index) = instead not_there
compose_verdict_said n (Err (Ve.NotAccepted e)) = instead (error_values e)

-- the frame that it is handed back as
abbrev pub one_frame : SaidOne Frame → Frame
one_frame (asked f) = f
one_frame (instead r) = refused_frame r
