-- Widths over bytes (document 02, request 2): in the frames of an accepted file, and in every value handed back, a
-- width is 1, 2, 4 or 8 (`is_width`, ir/specs/Numbers.antt).
use Rattle.std.specs.Prelude.{ℕ, ◌<◌, ◌≡◌, Bool, true, false, ◌||◌, List, eqb}
use Rattle.ir.specs.Numbers.{is_width}
use Rattle.frames.specs.declared.Frame.{Frame}
use Rattle.frames.specs.Bytes.{byte, frame_at, frame_count}

-- the kinds of types that hold a scalar, in bytes 4 and 5: Scalar, Vector, Matrix, CooperativeMatrix, Atomic and
-- ValuePointer
abbrev pub holds_scalar : ℕ → Bool
holds_scalar k = eqb k 1 || (eqb k 2 || (eqb k 3 || (eqb k 4 || (eqb k 5 || eqb k 7))))

-- the frame of a type, in a file or as a value: where it holds a scalar, its width is one of the four
abbrev pub RealWidth : Frame → Type 0
RealWidth f = holds_scalar (byte f 1) ≡ true → is_width (byte f 5) ≡ true

-- the frame of an As row: where its flag is set, the width is one of the four, and where it is clear, zero
pub record AsWidth (f : Frame) : Type 0 where
  pub flag : byte f 7 < 2
  pub set : byte f 7 ≡ 1 → is_width (byte f 8) ≡ true
  pub clear : byte f 7 ≡ 0 → byte f 8 ≡ 0

-- the frames of a file: types are family 1, As rows family 4, kind 23
pub record FileWidths (fr : List ℕ) : Type 0 where
  pub types : (k : ℕ) → k < frame_count fr → byte (frame_at fr k) 0 ≡ 1 → RealWidth (frame_at fr k)
  pub conversions : (k : ℕ) → k < frame_count fr → byte (frame_at fr k) 0 ≡ 4 → byte (frame_at fr k) 1 ≡ 23
      → AsWidth (frame_at fr k)

-- a frame handed back: a value is family 9
abbrev pub ValueWidth : Frame → Type 0
ValueWidth f = byte f 0 ≡ 9 → RealWidth f

-- a frame handed in, or chosen by a later reader: a value that holds a scalar of another width
pub record OtherWidth (f : Frame) : Type 0 where
  pub value : byte f 0 ≡ 9
  pub holds : holds_scalar (byte f 1) ≡ true
  pub width : is_width (byte f 5) ≡ false
