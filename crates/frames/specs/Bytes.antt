-- A frame is sixteen bytes, numbers little-endian (document 01, "The file").
use Rattle.std.specs.Prelude.{ℕ, ◌+◌, ◌*◌, ◌/◌, cond, List, [], ◌∷◌, ◌++◌, ltb, length, get_or, take, drop}
use Rattle.frames.specs.declared.Frame.{Frame}

abbrev pub bytes_of : Frame → List ℕ
bytes_of f =
    f.b0 ∷ f.b1 ∷ f.b2 ∷ f.b3 ∷ f.b4 ∷ f.b5 ∷ f.b6 ∷ f.b7 ∷ f.b8 ∷ f.b9 ∷ f.b10 ∷ f.b11 ∷ f.b12 ∷ f.b13
    ∷ f.b14 ∷ f.b15
    ∷ []

-- byte i of a frame
abbrev pub byte : Frame → ℕ → ℕ
byte f i = get_or (bytes_of f) i 0

-- the number in two bytes from place i on, and in four
abbrev pub half : Frame → ℕ → ℕ
half f i = byte f i + byte f (i + 1) * 256

abbrev pub word : Frame → ℕ → ℕ
word f i = byte f i + byte f (i + 1) * 256 + byte f (i + 2) * 65536 + byte f (i + 3) * 16777216

-- the frame that has these bytes
abbrev pub framed : (ℕ → ℕ) → Frame
framed b =
    record {
      b0 = b 0;
      b1 = b 1;
      b2 = b 2;
      b3 = b 3;
      b4 = b 4;
      b5 = b 5;
      b6 = b 6;
      b7 = b 7;
      b8 = b 8;
      b9 = b 9;
      b10 = b 10;
      b11 = b 11;
      b12 = b 12;
      b13 = b 13;
      b14 = b 14;
      b15 = b 15;
    }

-- how many whole frames a buffer has
abbrev pub frame_count : List ℕ → ℕ
frame_count s = length s / 16

-- the sixteen bytes from place p on
abbrev pub frame_from : List ℕ → ℕ → Frame
frame_from s p = framed (λ (i : ℕ). get_or s (p + i) 0)

abbrev pub zero_frame : Frame
zero_frame = framed (λ (i : ℕ). 0)

-- frame k of a buffer, counted from 0; zeros where it has no such frame
unfoldable pub frame_at : List ℕ → ℕ → Frame
frame_at s k = cond (ltb k (frame_count s)) (frame_from s (16 * k)) zero_frame

-- a buffer with a frame written as its frame k; as it was where it has no such frame
unfoldable pub put_frame : List ℕ → ℕ → Frame → List ℕ
put_frame s k f = cond (ltb k (frame_count s)) (take (16 * k) s ++ bytes_of f ++ drop (16 * k + 16) s) s
