-- Frames one after the other in a buffer: each is read at its place, and a frame put after the last one joins them. By
-- the place in the list. Assumes nothing.
use Prim.Native.Nat.{ℕ, zero, suc, ◌+◌, ◌*◌, ◌/◌, ◌≤◌, ◌<◌}
use native.Mathlib.Omega.{arith}
use mathlib.Core.Path.{◌≡◌, refl, sym, ap, ◌∙◌}
use mathlib.Core.Bool.{true, false}
use mathlib.Core.List.{List, [], ◌∷◌, ◌++◌, append_assoc}
use lib.ListN.{length, take, drop, get_or, length-append}
use lib.Seq.{take_at, drop_at, drop-drop, get_or-append-add}
use borrow.Author.Tests.{lt-ltb}
use Rattle.frames.specs.declared.Frame.{Frame}
use Rattle.frames.specs.Bytes.{bytes_of, framed, frame_from, frame_count, frame_at, put_frame}
use Rattle.rule_answers.specs.Outputs.{frames_bytes}

pub bytes-length : (l : List Frame) → length (frames_bytes l) ≡ 16 * length l
unfolding frames_bytes
bytes-length [] = refl
bytes-length (f ∷ l) = length-append (bytes_of f) (frames_bytes l) ∙ omega (arith, bytes-length l)

pub bytes-append : (l m : List Frame) → frames_bytes (l ++ m) ≡ frames_bytes l ++ frames_bytes m
unfolding frames_bytes
bytes-append [] m = refl
bytes-append (f ∷ l) m =
    ap (λ (x : List ℕ). bytes_of f ++ x) (bytes-append l m)
    ∙ sym (append_assoc (bytes_of f) (frames_bytes l) (frames_bytes m))

-- sixteen bytes after a front are the frame that begins there
from_front : (f : Frame) (rest : List ℕ) → frame_from (bytes_of f ++ rest) 0 ≡ f
from_front f rest = refl

shift : (front s : List ℕ) (p i : ℕ) → p ≡ length front → get_or (front ++ s) (p + i) 0 ≡ get_or s i 0
shift front s p i e = rw e (get_or-append-add front s i 0)

after_front : (front s : List ℕ) (p : ℕ) → p ≡ length front → frame_from (front ++ s) p ≡ frame_from s 0
after_front front s p e =
    let g : (i : ℕ) → get_or (front ++ s) (p + i) 0 ≡ get_or s (0 + i) 0 =
    λ i. shift front s p i e ∙ ap (λ (j : ℕ). get_or s j 0) (omega arith) in
    rw (g 0, g 1, g 2, g 3, g 4, g 5, g 6, g 7, g 8, g 9, g 10, g 11, g 12, g 13, g 14, g 15)

-- the frame that stands after the frames of a list
pub frame-after : (l : List Frame) (f : Frame) (rest : List ℕ)
    → frame_at (frames_bytes l ++ (bytes_of f ++ rest)) (length l) ≡ f
unfolding frame_at
frame-after l f rest =
    let b = frames_bytes l ++ (bytes_of f ++ rest) in
    let n : length b ≡ 16 * length l + (16 + length rest) =
    length-append (frames_bytes l) (bytes_of f ++ rest)
    ∙ omega (arith, bytes-length l, length-append (bytes_of f) rest) in
    let h : length l < frame_count b = omega (arith, n) in
    rw (lt-ltb (length l) (frame_count b) h)
    (after_front (frames_bytes l) (bytes_of f ++ rest) (16 * length l) (sym (bytes-length l)) ∙ from_front f rest)

-- a frame put after the frames of a list, where there is room, joins them; the other bytes stay
pub put-after : (l : List Frame) (f : Frame) (rest : List ℕ) → 16 ≤ length rest
    → put_frame (frames_bytes l ++ rest) (length l) f ≡ frames_bytes (l ++ (f ∷ [])) ++ drop 16 rest
unfolding put_frame frames_bytes
put-after l f rest h =
    let b = frames_bytes l ++ rest in
    let n : length b ≡ 16 * length l + length rest = length-append (frames_bytes l) rest
    ∙ omega (arith, bytes-length l) in
    let g : length l < frame_count b = omega (arith, n) in
    let a : take (16 * length l) b ≡ frames_bytes l = take_at (frames_bytes l) rest (16 * length l) (bytes-length l) in
    let d : drop (16 * length l) b ≡ rest = drop_at (frames_bytes l) rest (16 * length l) (bytes-length l) in
    let e : drop (16 * length l + 16) b ≡ drop 16 rest = sym (drop-drop 16 (16 * length l) b) ∙ ap (drop 16) d in
    rw (lt-ltb (length l) (frame_count b) g, a, e)
    (ap (λ (x : List ℕ). x ++ drop 16 rest) (sym (bytes-append l (f ∷ []))))
