-- Not part of any public statement: for proofs and code only. What the frame of an operand's answer shows of its type,
-- before any look.
use Rattle.ir.specs.declared.TypeInner.{TypeInner}
use Rattle.std.specs.Prelude.{ℕ, Bool, cond, ◌||◌, List, ltb, eqb, length, get_or, Option, None}
use Rattle.ir.specs.declared.TypeNumber.{TypeNumber}
use Rattle.ir.specs.declared.RowNumber.{RowNumber}
use Rattle.frames.specs.declared.Frame.{Frame}
use Rattle.frames.specs.Bytes.{byte, half, zero_frame, frame_at}
use Rattle.frames.specs.Forms.{type_of}
use Rattle.archive.specs.declared.Starts.{Starts}
use Rattle.archive.specs.Names.{is_type}

-- the frame of row n's answer; zeros, which read as the fixed refusal, of a row that is not typed yet
abbrev pub past_frame : List ℕ → List ℕ → RowNumber → Frame
past_frame answers places n = cond (ltb n.0 (length places)) (frame_at answers (get_or places n.0 0)) zero_frame

-- the frame of type n; zeros, of unknown kind, where there is none
abbrev pub type_frame_in : List ℕ → Starts → TypeNumber → Frame
type_frame_in fr s n = cond (is_type s n) (frame_at fr n.0) zero_frame

-- the frame of the type that an answer's frame has: of a number that type's, of a value its own; else zeros
abbrev pub typed_frame : List ℕ → Starts → Frame → Frame
typed_frame fr s f =
    cond (eqb (byte f 0) 8) (type_frame_in fr s (record { 0 = half f 2 })) (cond (eqb (byte f 0) 9) f zero_frame)

-- a frame is of a scalar, a vector, a matrix or a cooperative matrix
abbrev pub is_plain : Frame → Bool
is_plain f = eqb (byte f 1) 1 || (eqb (byte f 1) 2 || (eqb (byte f 1) 3 || eqb (byte f 1) 4))

-- the type that such a frame is of; unknown of any other
unfoldable pub plain_of : Frame → Option TypeInner
plain_of f = cond (is_plain f) (type_of f) None
