-- Not part of any public statement: for proofs and code only. What the frame of a component's answer shows of its type,
-- before any look.
use Rattle.std.specs.Prelude.{ℕ, Bool, false, cond, ◌&&◌, ◌||◌, List, eqb}
use Rattle.ir.specs.declared.TypeNumber.{TypeNumber}
use Rattle.frames.specs.declared.Frame.{Frame}
use Rattle.frames.specs.Bytes.{byte, half}
use Rattle.archive.specs.declared.Starts.{Starts}
use Rattle.row_operands.specs.Plain.{type_frame_in}
use Rattle.verdict_compose.specs.declared.Part.{Part}
use Rattle.verdict_compose.specs.declared.Part.TheVariants as Pa
use Rattle.verdict_compose.specs.Decided.{member_type}

-- a frame is of a scalar, a vector or a matrix
abbrev pub is_scalar_to_matrix : Frame → Bool
is_scalar_to_matrix f = eqb (byte f 1) 1 || (eqb (byte f 1) 2 || eqb (byte f 1) 3)

-- two frames are of the same scalar, vector or matrix: of the same kind, with the same bytes 2 to 5
abbrev pub same_form : Frame → Frame → Bool
same_form f g =
    is_scalar_to_matrix f
    && (eqb (byte f 1) (byte g 1)
    && (eqb (byte f 2) (byte g 2)
    && (eqb (byte f 3) (byte g 3) && (eqb (byte f 4) (byte g 4) && eqb (byte f 5) (byte g 5)))))

-- the frame of a pointer and another are of the same pointer to a scalar, a vector or a matrix
abbrev pub same_pointer : List ℕ → Starts → Frame → Frame → Bool
same_pointer fr s f g =
    cond
    (eqb (byte g 1) 6
    && (eqb (byte f 2) (byte g 2)
    && (eqb (byte f 3) (byte g 3) && (eqb (byte f 6) (byte g 6) && eqb (byte f 7) (byte g 7)))))
    (is_scalar_to_matrix (type_frame_in fr s (record { 0 = half f 2 }))) false

-- the frames of a value and of a type show that they are the same
abbrev pub value_shown : List ℕ → Starts → Frame → Frame → Bool
value_shown fr s f g = cond (eqb (byte f 1) 6) (same_pointer fr s f g) (same_form f g)

-- an answer's frame shows that it is the same as type n: its number, or a value with that type's bytes
abbrev pub type_shown : List ℕ → Starts → TypeNumber → Frame → Bool
type_shown fr s n f = cond (eqb (byte f 0) 8) (eqb (half f 2) n.0)
    (cond (eqb (byte f 0) 9) (value_shown fr s f (type_frame_in fr s n)) false)

-- the type that is asked of component i; of a column type 0, which no verdict comes to
abbrev pub asked_type : List ℕ → Starts → Part → ℕ → TypeNumber
asked_type fr s (Pa.Column rows k) i = record { 0 = 0 }
asked_type fr s (Pa.Element base) i = base
asked_type fr s (Pa.Member first n) i = member_type fr s first n i
