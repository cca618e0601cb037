-- A frame that was put into a buffer is read at its place, every other frame is as it was, and so is the length.
use Prim.Native.Nat.{ℕ, ◌+◌, ◌*◌, ◌-◌, ◌≤◌, ◌<◌}
use native.Mathlib.Decide.{dec_lt}
use native.Mathlib.Omega.{arith}
use mathlib.Core.Path.{◌≡◌, ap, subst, ◌∙◌}
use mathlib.Core.List.{List, ◌++◌, append_assoc}
use lib.ListN.{length, take, drop, get_or, length-append, length-drop, get_or-append}
use lib.Seq.{length-take-le, get_or-append-add, get_or-take, get_or-drop}
use borrow.Author.Tests.{lt-ltb, le-ltb}
use Rattle.frames.specs.declared.Frame.{Frame}
use Rattle.frames.specs.Bytes.{bytes_of, byte, frame_count, frame_from, zero_frame, frame_at, put_frame}
use Rattle.frames.proofs.FieldBack.{Below, Each, below_each, same_bytes}

-- the sixteen bytes of a frame stand in the place of those from p on
abbrev placed : List ℕ → ℕ → Frame → List ℕ
placed s p f = take p s ++ bytes_of f ++ drop (p + 16) s

module _ (s : List ℕ) (p : ℕ) (f : Frame) (fits : p + 16 ≤ length s) where
  before : length (take p s) ≡ p
  before = length-take-le p s (omega arith)

  grouped : placed s p f ≡ take p s ++ (bytes_of f ++ drop (p + 16) s)
  grouped = append_assoc (take p s) (bytes_of f) (drop (p + 16) s)

  length-placed : length (placed s p f) ≡ length s
  length-placed =
      let e : length (bytes_of f ++ drop (p + 16) s)
      ≡ 16 + length (drop (p + 16) s) = length-append (bytes_of f) (drop (p + 16) s) in
      ap length grouped ∙ length-append (take p s) (bytes_of f ++ drop (p + 16) s)
      ∙ omega (arith, e, before, length-drop (p + 16) s)

  from-p : (i : ℕ) → get_or (placed s p f) (p + i) 0 ≡ get_or (bytes_of f ++ drop (p + 16) s) i 0
  from-p i =
      let e : p + i ≡ length (take p s) + i = omega (arith, before) in
      ap (λ (l : List ℕ). get_or l (p + i) 0) grouped
      ∙ ap (λ (n : ℕ). get_or (take p s ++ (bytes_of f ++ drop (p + 16) s)) n 0) e
      ∙ get_or-append-add (take p s) (bytes_of f ++ drop (p + 16) s) i 0

  inside : (i : ℕ) → i < 16 → get_or (placed s p f) (p + i) 0 ≡ byte f i
  inside i h = from-p i ∙ get_or-append (bytes_of f) (drop (p + 16) s) 0 i h

  below : (i : ℕ) → i < p → get_or (placed s p f) i 0 ≡ get_or s i 0
  below i h =
      ap (λ (l : List ℕ). get_or l i 0) grouped
      ∙ get_or-append (take p s) (bytes_of f ++ drop (p + 16) s) 0 i (omega (arith, before))
      ∙ get_or-take p s i 0 h

  above : (i : ℕ) → p + 16 ≤ i → get_or (placed s p f) i 0 ≡ get_or s i 0
  above i h =
      let m : ℕ = i - (p + 16) in
      let e : i ≡ p + (16 + m) = omega arith in
      let g : p + 16 + m ≡ i = omega arith in
      ap (λ (n : ℕ). get_or (placed s p f) n 0) e ∙ from-p (16 + m)
      ∙ get_or-append-add (bytes_of f) (drop (p + 16) s) m 0
      ∙ get_or-drop (p + 16) s m 0
      ∙ ap (λ (n : ℕ). get_or s n 0) g

-- a buffer's length stays
pub put-length : (s : List ℕ) (k : ℕ) (f : Frame) → length (put_frame s k f) ≡ length s
unfolding put_frame
put-length s k f = go (dec_lt k (frame_count s))
  where
    go : Dec (k < frame_count s) → length (put_frame s k f) ≡ length s
    go (yes l) = rw (lt-ltb k (frame_count s) l) (length-placed s (16 * k) f (omega arith))
    go (no n) = let l : frame_count s ≤ k = omega arith in rw (le-ltb k (frame_count s) l)

-- the frame that was put is read at its place
pub put_same : (s : List ℕ) (k : ℕ) (f : Frame) → k < frame_count s → frame_at (put_frame s k f) k ≡ f
unfolding frame_at put_frame
put_same s k f l =
    let h : 16 * k + 16 ≤ length s = omega arith in
    let e : k < frame_count (placed s (16 * k) f) = omega (arith, length-placed s (16 * k) f h) in
    rw (lt-ltb k (frame_count s) l, lt-ltb k (frame_count (placed s (16 * k) f)) e)
    (same_bytes _ (byte f) (inside s (16 * k) f h))

-- a byte of another frame
elsewhere : (s : List ℕ) (k : ℕ) (f : Frame) (j : ℕ) → 16 * k + 16 ≤ length s → (j ≡ k → ⊥) → (i : ℕ) → i < 16
    → get_or (placed s (16 * k) f) (16 * j + i) 0 ≡ get_or s (16 * j + i) 0
elsewhere s k f j h d i l = go (dec_lt j k)
  where
    go : Dec (j < k) → get_or (placed s (16 * k) f) (16 * j + i) 0 ≡ get_or s (16 * j + i) 0
    go (yes a) = below s (16 * k) f h (16 * j + i) (omega arith)
    go (no a) = above s (16 * k) f h (16 * j + i) (omega arith)

-- every other frame is as it was
pub put_other : (s : List ℕ) (k : ℕ) (f : Frame) (j : ℕ) → (j ≡ k → ⊥) → frame_at (put_frame s k f) j ≡ frame_at s j
unfolding frame_at put_frame
put_other s k f j d = go (dec_lt k (frame_count s)) (dec_lt j (frame_count s))
  where
    go : Dec (k < frame_count s) → Dec (j < frame_count s) → frame_at (put_frame s k f) j ≡ frame_at s j
    go (yes l) (yes m) =
        let h : 16 * k + 16 ≤ length s = omega arith in
        let e : j < frame_count (placed s (16 * k) f) = omega (arith, length-placed s (16 * k) f h) in
        rw (lt-ltb k (frame_count s) l, lt-ltb j (frame_count s) m, lt-ltb j (frame_count (placed s (16 * k) f)) e)
        (same_bytes _ (λ (i : ℕ). get_or s (16 * j + i) 0) (elsewhere s k f j h d))
    go (yes l) (no m) =
        let h : 16 * k + 16 ≤ length s = omega arith in
        let e : frame_count (placed s (16 * k) f) ≤ j = omega (arith, length-placed s (16 * k) f h) in
        let g : frame_count s ≤ j = omega arith in
        rw (lt-ltb k (frame_count s) l, le-ltb j (frame_count s) g, le-ltb j (frame_count (placed s (16 * k) f)) e)
    go (no n) m = let l : frame_count s ≤ k = omega arith in rw (le-ltb k (frame_count s) l)

from-below : (s : List ℕ) → ((i : ℕ) → get_or s i 0 < 256) → (p : ℕ) → Below (frame_from s p)
from-below s w p =
    below_each (frame_from s p) (
      w (p + 0),
      (
        w (p + 1),
        (
          w (p + 2),
          (
            w (p + 3),
            (
              w (p + 4),
              (
                w (p + 5),
                (
                  w (p + 6),
                  (
                    w (p + 7),
                    (
                      w (p + 8),
                      (
                        w (p + 9),
                        (
                          w (p + 10),
                          (w (p + 11), (w (p + 12), (w (p + 13), (w (p + 14), (w (p + 15), tt))))),
                        ),
                      ),
                    ),
                  ),
                ),
              ),
            ),
          ),
        ),
      ),
    )

zeros : Each (bytes_of zero_frame)
zeros = let z : 0 < 256 = omega arith in
    (z, (z, (z, (z, (z, (z, (z, (z, (z, (z, (z, (z, (z, (z, (z, (z, tt))))))))))))))))

-- a frame of a buffer of bytes has bytes
pub below_at : (s : List ℕ) → ((i : ℕ) → get_or s i 0 < 256) → (k : ℕ) → Below (frame_at s k)
unfolding frame_at
below_at s w k = go (dec_lt k (frame_count s))
  where
    go : Dec (k < frame_count s) → Below (frame_at s k)
    go (yes l) =
        let e : frame_from s (16 * k) ≡ frame_at s k = rw (lt-ltb k (frame_count s) l) in
        subst Below e (from-below s w (16 * k))
    go (no n) =
        let l : frame_count s ≤ k = omega arith in
        let e : zero_frame ≡ frame_at s k = rw (le-ltb k (frame_count s) l) in
        subst Below e (below_each zero_frame zeros)
