-- A line's frame put after those of the lines before it, where there is room: the bytes of one line more are made.
use Prim.Native.Nat.{ℕ, zero, suc, ◌+◌, ◌*◌, ◌≤◌, ◌<◌}
use native.Mathlib.Omega.{arith}
use mathlib.Core.Path.{◌≡◌, refl, sym, ap, ◌∙◌}
use mathlib.Core.List.{List, [], ◌∷◌, ◌++◌, append_assoc, append-nil}
use lib.ListN.{length, take, drop, length-append, length-drop}
use lib.Seq.{take_at, drop-length}
use borrow.Author.Tests.{lt-ltb}
use Rattle.scan.specs.Lists.{build}
use Rattle.scan.proofs.Fill.{length-build, build-same}
use Rattle.frames.specs.Bytes.{bytes_of, framed, frame_count, frame_at, put_frame}
use Rattle.text.specs.Lines.{frame_byte, byte_of}
use Rattle.text.proofs.Turn.{byte-of-line, past}

-- n more places
build-on : (f : ℕ → ℕ) (i n : ℕ) → build f (i + n) ≡ build f i ++ build (λ (j : ℕ). f (i + j)) n
unfolding build
build-on f i zero = let z : i + 0 ≡ i = omega arith in rw z (sym (append-nil (build f i)))
build-on f i (suc n) =
    let z : i + suc n ≡ suc (i + n) = omega arith in
    rw (z, build-on f i n) (append_assoc (build f i) (build (λ (j : ℕ). f (i + j)) n) (f (i + n) ∷ []))

-- a buffer of sixteen bytes that is full
pub line-full : (g : ℕ → ℕ) (l d : List ℕ) (j : ℕ) → j ≡ 16 → length l ≡ 16 → d ≡ build g j ++ drop j l → d ≡ build g 16
line-full g l d j z n e =
    let f : drop 16 l ≡ [] = ap (λ (i : ℕ). drop i l) (sym n) ∙ drop-length l in
    (rw z at e) ∙ ap (λ (r : List ℕ). build g 16 ++ r) f ∙ append-nil (build g 16)

sixteen : (g : ℕ → ℕ) → build g 16 ≡ bytes_of (framed g)
unfolding build
sixteen g = refl

-- and its one frame
pub line_frame : (g : ℕ → ℕ) (l : List ℕ) → l ≡ build g 16 → frame_at l 0 ≡ framed g
unfolding frame_at build
line_frame g l e = rw e

-- the sixteen bytes of line k follow those of the lines before it
line-more : (t : List ℕ) (k : ℕ) → build (byte_of t) (16 * k + 16) ≡ build (byte_of t) (16 * k)
    ++ bytes_of (framed (frame_byte t k))
line-more t k =
    build-on (byte_of t) (16 * k) 16
    ∙ ap (λ (l : List ℕ). build (byte_of t) (16 * k) ++ l)
    (build-same (λ (j : ℕ). byte_of t (16 * k + j)) (frame_byte t k) 16 (λ j l. sym (byte-of-line t k j l))
    ∙ sixteen (frame_byte t k))

pub line-put : (t fr d : List ℕ) (k : ℕ) → d ≡ build (byte_of t) (16 * k) ++ drop (16 * k) fr → 16 * k + 16 ≤ length fr
    → put_frame d k (framed (frame_byte t k)) ≡ build (byte_of t) (16 * k + 16) ++ drop (16 * k + 16) fr
unfolding put_frame
line-put t fr d k e h =
    let n : length d ≡ length fr =
    rw e
    (length-append (build (byte_of t) (16 * k)) (drop (16 * k) fr)
    ∙ omega (arith, length-build (byte_of t) (16 * k), length-drop (16 * k) fr))
    in
    let l : k < frame_count d = omega (arith, n) in
    let a : take (16 * k) d ≡ build (byte_of t) (16 * k) =
    rw e (take_at (build (byte_of t) (16 * k)) (drop (16 * k) fr) (16 * k) (length-build (byte_of t) (16 * k))) in
    rw (lt-ltb k (frame_count d) l, a, past (byte_of t) d fr (16 * k) e 16, line-more t k)
