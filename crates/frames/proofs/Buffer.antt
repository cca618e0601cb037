-- Frames in a buffer: sixteen stores put a frame in its place; the frame that was put there is read there, and every
-- other frame is as it was.
use Prim.Native.Nat.{ℕ, suc, ◌+◌, ◌*◌, ◌/◌, ◌≤◌, ◌<◌}
use native.Mathlib.Omega.{arith}
use mathlib.Core.Path.{◌≡◌, refl, sym, ap, ◌∙◌}
use mathlib.Core.List.{List, [], ◌∷◌, ◌++◌}
use lib.ListN.{length, set, take, drop}
use lib.Seq.{sets-eq}
use Rattle.frames.specs.declared.Frame.{Frame}
use Rattle.frames.specs.Bytes.{bytes_of}

pub stores : (s : List ℕ) (at : ℕ) (f : Frame) → at + 16 ≤ length s
    → set (set (set (set (set
    (set (set (set (set (set
    (set (set (set (set (set (set s at f.b0) (at + 1) f.b1) (at + 2) f.b2) (at + 3) f.b3) (at + 4)
    f.b4) (at + 5) f.b5) (at + 6) f.b6) (at + 7) f.b7) (at + 8) f.b8) (at + 9) f.b9)
    (at + 10) f.b10) (at + 11) f.b11) (at + 12) f.b12) (at + 13) f.b13) (at + 14) f.b14)
    (at + 15) f.b15 ≡ take at s ++ bytes_of f ++ drop (at + 16) s
stores s at f h =
    let e1 : at + 1 ≡ suc at = omega arith in
    let e2 : at + 2 ≡ suc (suc at) = omega arith in
    let e3 : at + 3 ≡ suc (suc (suc at)) = omega arith in
    let e4 : at + 4 ≡ suc (suc (suc (suc at))) = omega arith in
    let e5 : at + 5 ≡ suc (suc (suc (suc (suc at)))) = omega arith in
    let e6 : at + 6 ≡ suc (suc (suc (suc (suc (suc at))))) = omega arith in
    let e7 : at + 7 ≡ suc (suc (suc (suc (suc (suc (suc at)))))) = omega arith in
    let e8 : at + 8 ≡ suc (suc (suc (suc (suc (suc (suc (suc at))))))) = omega arith in
    let e9 : at + 9 ≡ suc (suc (suc (suc (suc (suc (suc (suc (suc at)))))))) = omega arith in
    let e10 : at + 10 ≡ suc (suc (suc (suc (suc (suc (suc (suc (suc (suc at))))))))) = omega arith in
    let e11 : at + 11 ≡ suc (suc (suc (suc (suc (suc (suc (suc (suc (suc (suc at)))))))))) = omega arith in
    let e12 : at + 12 ≡ suc (suc (suc (suc (suc (suc (suc (suc (suc (suc (suc (suc at))))))))))) = omega arith in
    let e13 : at + 13 ≡ suc (suc (suc (suc (suc (suc (suc (suc (suc (suc (suc (suc (suc at)))))))))))) = omega arith in
    let e14 : at + 14 ≡ suc
    (suc (suc (suc (suc (suc (suc (suc (suc (suc (suc (suc (suc (suc at))))))))))))) = omega arith in
    let e15 : at + 15 ≡ suc
    (suc (suc (suc (suc (suc (suc (suc (suc (suc (suc (suc (suc (suc (suc at)))))))))))))) = omega arith in
    rw (e1, e2, e3, e4, e5, e6, e7, e8, e9, e10, e11, e12, e13, e14, e15) (sets-eq (bytes_of f) s at h)
