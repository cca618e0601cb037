-- Frames of types, written one after the other into a buffer with room for them. By the place of the frame. Assumes
-- nothing.
use Prim.Native.Nat.{ℕ, zero, suc, ◌+◌, ◌*◌, ◌/◌, ◌≤◌, ◌<◌}
use native.Mathlib.Numerals.{add-one}
use native.Mathlib.Omega.{arith}
use mathlib.Core.Path.{◌≡◌, refl, sym, ap, ◌∙◌}
use mathlib.Core.Bool.{Bool, true, false, ◌&&◌}
use mathlib.Core.List.{List, ◌++◌}
use lib.Dec.{leb}
use lib.ListN.{length, take, drop, length-append, length-drop}
use lib.Seq.{take_at, drop_at, drop-drop}
use borrow.Author.Tests.{lt-ltb, le-leb, lt-leb}
use Rattle.answers.specs.Limit.{max_frames}
use Rattle.frames.specs.declared.Frame.{Frame}
use Rattle.frames.specs.Bytes.{bytes_of, frame_count, put_frame}
use Rattle.archive.specs.declared.Starts.{Starts}
use Rattle.archive.specs.Starts.{type_count}
use Rattle.rule_sizes.specs.Sizes.{frames_of}
use Rattle.rule_sizes.specs.Sizes.{frames_written}

-- a frame put after a front of k frames
put-after : (front rest : List ℕ) (k : ℕ) (f : Frame) → length front ≡ 16 * k → 16 ≤ length rest
    → put_frame (front ++ rest) k f ≡ front ++ bytes_of f ++ drop 16 rest
unfolding put_frame
put-after front rest k f e h =
    let b = front ++ rest in
    let g : k < frame_count b = omega (arith, length-append front rest) in
    let a : take (16 * k) b ≡ front = take_at front rest (16 * k) e in
    let d : drop (16 * k + 16) b ≡ drop 16 rest = sym (drop-drop 16 (16 * k) b)
    ∙ ap (drop 16) (drop_at front rest (16 * k) e) in
    rw (lt-ltb k (frame_count b) g, a, d)

module _ (frame : ℕ → Frame) (s : Starts) where
  pub frames-long : (n : ℕ) → length (frames_of frame n) ≡ 16 * n
  unfolding frames_of
  frames-long zero = refl
  frames-long (suc n) =
      length-append (frames_of frame n) (bytes_of (frame n))
      ∙ omega (arith, frames-long n)

  -- before any
  pub none_yet : (o : List ℕ) → o ≡ frames_of frame 0 ++ drop (16 * 0) o
  unfolding frames_of
  none_yet o = refl

  -- one frame more
  pub one_more : (o b last : List ℕ) (k : ℕ) (f : Frame) → b ≡ frames_of frame k ++ drop (16 * k) o
      → 16 * k + 16 ≤ length o
      → f ≡ frame k
      → last ≡ put_frame b k f
      → last ≡ frames_of frame (k + 1) ++ drop (16 * (k + 1)) o
  unfolding frames_of
  one_more o b last k f eb h e el =
      let n : 16 * k + 16 ≡ 16 * suc k = omega arith in
      let d : drop 16 (drop (16 * k) o) ≡ drop (16 * suc k) o = drop-drop 16 (16 * k) o ∙ ap (λ (j : ℕ). drop j o) n in
      rw add-one
      (el ∙ ap (λ (x : List ℕ). put_frame x k f) eb
      ∙ put-after (frames_of frame k) (drop (16 * k) o) k f (frames-long k) (omega (arith, length-drop (16 * k) o))
      ∙ ap (λ (x : Frame). frames_of frame k ++ bytes_of x ++ drop 16 (drop (16 * k) o)) e
      ∙ ap (λ (x : List ℕ). frames_of frame k ++ bytes_of (frame k) ++ x) d)

  -- a test that fails
  never : (b : Bool) → (b && false) ≡ false
  never true = refl
  never false = refl

  module _ (o : List ℕ) where
    pub too_many : max_frames < type_count s → o ≡ frames_written frame s o
    unfolding frames_written
    too_many h = rw (lt-leb (type_count s) max_frames h)

    pub no_room : length o / 16 < type_count s → o ≡ frames_written frame s o
    unfolding frames_written
    no_room h = rw (lt-leb (16 * type_count s) (length o) (omega arith), never (leb (type_count s) max_frames))

    pub all-written : (last : List ℕ) (k : ℕ) → type_count s ≤ max_frames → type_count s ≤ length o / 16
        → k ≡ type_count s
        → last ≡ frames_of frame k ++ drop (16 * k) o
        → last ≡ frames_written frame s o
    unfolding frames_written
    all-written last k few h e el =
        rw (le-leb (type_count s) max_frames few, le-leb (16 * type_count s) (length o) (omega arith))
        (el ∙ ap (λ (n : ℕ). frames_of frame n ++ drop (16 * n) o) e)
