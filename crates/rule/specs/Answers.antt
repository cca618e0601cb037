-- What a reader answers (document 01, "A row's type" and the end of "The file"). A later reader's choice is any frame
-- of its family, so each kind of answer has a case for what a later reader chose and no rule of ours gives.
use Rattle.std.specs.Prelude.{ℕ, Bool, true, false, cond, ◌&&◌, eqb, Option, Some, None, Ok, Err}
use Rattle.ir.specs.declared.TypeNumber.{TypeNumber}
use Rattle.ir.specs.declared.RowNumber.{RowNumber}
use Rattle.ir.specs.declared.TypeInner.{TypeInner}
use Rattle.ir.specs.declared.TypeResolution.{TypeResolution}
use Rattle.ir.specs.declared.TypeResolution.TheVariants as Tr
use Rattle.ir.specs.Numbers.{type_kind_of}
use Rattle.answers.specs.Numbers.{at, refusal_values}
use Rattle.answers.specs.declared.Refusal.{Refusal}
use Rattle.answers.specs.declared.ComposeError.TheVariants as Co
use Rattle.frames.specs.declared.Frame.{Frame}
use Rattle.frames.specs.Bytes.{byte, half}
use Rattle.frames.specs.Fields.{fits_all}
use Rattle.frames.specs.Layout.{type_layout, number_layout}
use Rattle.frames.specs.Forms.{type_of}
use Rattle.frames.specs.Out as Out
use Rattle.frames.specs.Out.{number_frame, type_frame, refused_frame}

-- a type answer: the number of a type, family 8; a value, family 9; or a malformed frame of these families, as it
-- stands
pub data TypeAnswer : Type 0 where
  number : TypeNumber → TypeAnswer
  value : TypeInner → TypeAnswer
  malformed : Frame → TypeAnswer

-- the answer that a resolution is
abbrev pub resolved : TypeResolution → TypeAnswer
resolved (Tr.Handle n) = number n
resolved (Tr.Value t) = value t

-- a row's answer other than newer: a type, or a refusal, family 10, of ours or as a later reader chose it
pub data Typed : Type 0 where
  given : TypeAnswer → Typed
  refused : Refusal → Typed
  chosen_refusal : Frame → Typed

-- where something newer was met: a row; in a verdict a component, or the composed type; in a comparison no place; or as
-- it stands in the number 22 that a later reader chose
pub data Place : Type 0 where
  row : RowNumber → Place
  component : ℕ → Place
  composed nowhere : Place
  chosen : Frame → Place

-- an outcome in A, or newer, number 22, at a place
pub data Result (A : Type 0) : Type 0 where
  told : A → Result A
  newer : Place → Result A

-- a compose's verdict other than newer: it passes (0), 30 to 33; or as a later reader chose it
pub data Judgement : Type 0 where
  passes not_composed : Judgement
  count : ℕ → ℕ → Judgement
  part broken : ℕ → Judgement
  chosen_verdict : Frame → Judgement

-- what a comparison gives other than newer: yes, no, 5, 6
pub data Compared : Type 0 where
  alike unlike field index : Compared

-- AS FRAMES

abbrev pub type_answer_frame : TypeAnswer → Frame
type_answer_frame (number n) = number_frame n
type_answer_frame (value t) = type_frame 9 t
type_answer_frame (malformed f) = f

-- number 22 as a row's answer
abbrev pub newer_frame : Place → Frame
newer_frame (row r) = refused_frame (at 22 r.0)
newer_frame (component i) = refused_frame (at 22 0)
newer_frame composed = refused_frame (at 22 0)
newer_frame nowhere = refused_frame (at 22 0)
newer_frame (chosen f) = f

abbrev pub typed_frame : Typed → Frame
typed_frame (given t) = type_answer_frame t
typed_frame (refused e) = refused_frame (refusal_values e)
typed_frame (chosen_refusal f) = f

-- a row's answer, family 8, 9 or 10
abbrev pub row_frame : Result Typed → Frame
row_frame (told t) = typed_frame t
row_frame (newer p) = newer_frame p

-- number 22 as a verdict; a verdict's place is a component or the composed type, and no rule of a verdict gives the
-- first and fourth line
abbrev pub newer_verdict : RowNumber → Place → Frame
newer_verdict r (row m) = Out.verdict_frame r (Err (Co.NewerComponent 0))
newer_verdict r (component i) = Out.verdict_frame r (Err (Co.NewerComponent i))
newer_verdict r composed = Out.verdict_frame r (Err Co.NewerComposed)
newer_verdict r nowhere = Out.verdict_frame r (Err (Co.NewerComponent 0))
newer_verdict r (chosen f) = f

-- the numbers are those of `verdict_values` (answers/specs/Numbers.antt)
abbrev pub judgement_frame : RowNumber → Judgement → Frame
judgement_frame r passes = Out.verdict_frame r (Ok tt)
judgement_frame r not_composed = Out.verdict_frame r (Err Co.ComposedType)
judgement_frame r (count e g) = Out.verdict_frame r (Err (Co.ComponentCount e g))
judgement_frame r (part i) = Out.verdict_frame r (Err (Co.ComponentType i))
judgement_frame r (broken i) = Out.verdict_frame r (Err (Co.ComponentRefused i))
judgement_frame r (chosen_verdict f) = f

-- the verdict of compose row r, family 11
abbrev pub verdict_frame : RowNumber → Result Judgement → Frame
verdict_frame r (told j) = judgement_frame r j
verdict_frame r (newer p) = newer_verdict r p

-- FROM FRAMES, as a later reader may choose them or a caller may hand them in

abbrev pub valued : Frame → Option TypeInner → TypeAnswer
valued f (Some t) = value t
valued f None = malformed f

-- a frame has the family and the bytes of a type's number, or of a value
abbrev pub is_number : Frame → Bool
is_number f = eqb (byte f 0) 8 && (eqb (byte f 1) 0 && fits_all number_layout f)

abbrev pub is_value : Frame → Bool
is_value f = eqb (byte f 0) 9 && fits_all (type_layout (type_kind_of (byte f 1))) f

-- the type answer that a frame stands for; every byte counts
abbrev pub type_answer_of : Frame → TypeAnswer
type_answer_of f = cond (is_number f) (number (record { 0 = half f 2 }))
    (cond (is_value f) (valued f (type_of f)) (malformed f))

-- the row's answer that a frame of family 8, 9 or 10 stands for; number 22 is newer whatever its other bytes
abbrev pub row_answer_of : Frame → Result Typed
row_answer_of f =
    cond (eqb (byte f 0) 10) (cond (eqb (byte f 1) 22) (newer (chosen f)) (told (chosen_refusal f)))
    (told (given (type_answer_of f)))

-- the verdict that a frame of family 11 stands for, as a choice
abbrev pub chosen_judgement : Frame → Result Judgement
chosen_judgement f = told (chosen_verdict f)
