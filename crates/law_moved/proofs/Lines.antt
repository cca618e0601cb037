-- LINES, one frame at a time: the lines of frames and one more are the lines of the frames, then the line of that one;
-- so a file is written frame by frame.
use Prim.Native.Nat.{ℕ, ◌+◌, ◌-◌, ◌*◌, ◌/◌, ◌%◌, ◌<◌}
use native.Mathlib.Decide.{dec_lt}
use native.Mathlib.Omega.{arith}
use mathlib.Core.Path.{◌≡◌, refl, sym, ap, ◌∙◌}
use mathlib.Core.Bool.{cond}
use mathlib.Core.List.{List, ◌++◌}
use lib.Dec.{eqb}
use lib.ListN.{length, get_or, length-append, get_or-append}
use lib.Seq.{get_or-append-add, ext_get_or}
use Rattle.scan.proofs.Fill.{length-build, get_d-build}
use Rattle.frames.specs.declared.Frame.{Frame}
use Rattle.text.specs.Lines.{digit_at, char_of, text_of}
use Rattle.rule_answers.specs.Outputs.{frames_bytes}
use Rattle.law_answers.proofs.Bytes.{bytes-length, bytes-append}

-- two characters over the same byte
same-char : (j a b : ℕ) → a ≡ b → cond (eqb j 32) 10 (digit_at a j) ≡ cond (eqb j 32) 10 (digit_at b j)
same-char j a b e = ap (λ (x : ℕ). cond (eqb j 32) 10 (digit_at x j)) e

-- a feed has no byte behind it
feed-or : (j : ℕ) (x y : ℕ) → j < 33 → (j < 32 → x ≡ y) → cond (eqb j 32) 10 (digit_at x j)
    ≡ cond (eqb j 32) 10 (digit_at y j)
feed-or j x y l h = go (dec_lt j 32)
  where
    go : Dec (j < 32) → cond (eqb j 32) 10 (digit_at x j) ≡ cond (eqb j 32) 10 (digit_at y j)
    go (yes w) = same-char j x y (h w)
    go (no w) = let e : j ≡ 32 = omega arith in rw e refl

module _ (one two : List ℕ) (n m : ℕ) (long : length one ≡ 16 * n) where
  front-char : (i : ℕ) → i < 33 * n → char_of (one ++ two) i ≡ char_of one i
  unfolding char_of
  front-char i l =
      feed-or (i % 33) (get_or (one ++ two) (16 * (i / 33) + i % 33 / 2) 0) (get_or one (16 * (i / 33) + i % 33 / 2) 0)
      (omega arith)
      (λ w. get_or-append one two 0 (16 * (i / 33) + i % 33 / 2) (omega arith))

  back-char : (i : ℕ) → i < 33 * m → char_of (one ++ two) (33 * n + i) ≡ char_of two i
  unfolding char_of
  back-char i l =
      let q : (33 * n + i) / 33 ≡ n + i / 33 = omega arith in
      let r : (33 * n + i) % 33 ≡ i % 33 = omega arith in
      let e : 16 * (n + i / 33) + i % 33 / 2 ≡ length one + (16 * (i / 33) + i % 33 / 2) = omega arith in
      rw (q, r)
      (feed-or (i % 33) (get_or (one ++ two) (16 * (n + i / 33) + i % 33 / 2) 0)
      (get_or two (16 * (i / 33) + i % 33 / 2) 0)
      (omega arith)
      (λ w. ap (λ (k : ℕ). get_or (one ++ two) k 0) e ∙ get_or-append-add one two (16 * (i / 33) + i % 33 / 2) 0))

  pub text-append : text_of (one ++ two) (n + m) ≡ text_of one n ++ text_of two m
  text-append =
      let a = length-build (char_of (one ++ two)) (33 * (n + m)) in
      let b = length-build (char_of one) (33 * n) in
      let c = length-build (char_of two) (33 * m) in
      ext_get_or 0 (text_of (one ++ two) (n + m)) (text_of one n ++ text_of two m)
      (a ∙ sym (length-append (text_of one n) (text_of two m) ∙ (omega arith)))
      (λ i l. go i (dec_lt i (33 * n)) (omega arith))
    where
      go : (i : ℕ) → Dec (i < 33 * n) → i < 33 * (n + m) → get_or (text_of (one ++ two) (n + m)) i 0
          ≡ get_or (text_of one n ++ text_of two m) i 0
      go i (yes w) l =
          let b = length-build (char_of one) (33 * n) in
          get_d-build (char_of (one ++ two)) (33 * (n + m)) i l ∙ front-char i w
          ∙ sym (get_d-build (char_of one) (33 * n) i w)
          ∙ sym (get_or-append (text_of one n) (text_of two m) 0 i (omega arith))
      go i (no w) l =
          let b = length-build (char_of one) (33 * n) in
          let x = i - 33 * n in
          let e : i ≡ 33 * n + (i - 33 * n) = omega arith in
          let f : i ≡ length (text_of one n) + (i - 33 * n) = omega arith in
          get_d-build (char_of (one ++ two)) (33 * (n + m)) i l ∙ ap (char_of (one ++ two)) e
          ∙ back-char (i - 33 * n) (omega arith) ∙ sym (get_d-build (char_of two) (33 * m) (i - 33 * n) (omega arith))
          ∙ sym (ap (λ (k : ℕ). get_or (text_of one n ++ text_of two m) k 0) f
          ∙ get_or-append-add (text_of one n) (text_of two m) (i - 33 * n) 0)

-- frames and some more
pub lines-append : (l k : List Frame) → text_of (frames_bytes (l ++ k)) (length l + length k)
    ≡ text_of (frames_bytes l) (length l) ++ text_of (frames_bytes k) (length k)
lines-append l k =
    ap (λ (b : List ℕ). text_of b (length l + length k)) (bytes-append l k)
    ∙ text-append (frames_bytes l) (frames_bytes k) (length l) (length k) (bytes-length l)
