-- Turns of the loops that fill a buffer line by line: a byte by its line and place, and a buffer whose front is made,
-- taken up where an inner loop begins and left where it ends.
use mathlib.Core.Path.{◌≡◌, sym, ap, ◌∙◌}
use mathlib.Core.List.{List, ◌++◌}
use Prim.Native.Nat.{ℕ, ◌+◌, ◌*◌, ◌/◌, ◌%◌, ◌<◌}
use native.Mathlib.Omega.{arith}
use lib.ListN.{get_or, drop}
use lib.Seq.{drop-append-add, drop-drop}
use borrow.Author.Tests.{ne_eqb}
use Rattle.scan.specs.Lists.{build}
use Rattle.scan.proofs.Fill.{length-build}
use Rattle.text.specs.Hex.{digit_of}
use Rattle.text.specs.Lines.{frame_byte, byte_of, line_char, char_of}

-- byte j of frame k is byte 16 k + j of all
pub byte-of-line : (t : List ℕ) (k j : ℕ) → j < 16 → frame_byte t k j ≡ byte_of t (16 * k + j)
unfolding byte_of
byte-of-line t k j h =
    let p : (16 * k + j) / 16 ≡ k = omega arith in
    let q : (16 * k + j) % 16 ≡ j = omega arith in
    rw (p, q)

-- character j of line k is character 33 k + j of all
pub char-of-line : (fr : List ℕ) (k j : ℕ) → j < 33 → line_char fr k j ≡ char_of fr (33 * k + j)
unfolding char_of
char-of-line fr k j h =
    let p : (33 * k + j) / 33 ≡ k = omega arith in
    let q : (33 * k + j) % 33 ≡ j = omega arith in
    rw (p, q)

-- a byte's higher digit, its lower digit, and the line feed, each by its place in the text
module _ (fr : List ℕ) (k : ℕ) where
  pub high_digit : (j : ℕ) → j < 16 → digit_of (get_or fr (16 * k + j) 0 / 16) ≡ char_of fr (33 * k + 2 * j)
  high_digit j h =
      let p : 2 * j / 2 ≡ j = omega arith in
      let q : 2 * j % 2 ≡ 0 = omega arith in
      rw (← char-of-line fr k (2 * j) (omega arith), ne_eqb (2 * j) 32 (omega arith), p, q)

  pub low_digit : (j : ℕ) → j < 16 → digit_of (get_or fr (16 * k + j) 0 % 16) ≡ char_of fr (33 * k + 2 * j + 1)
  low_digit j h =
      let a : 33 * k + 2 * j + 1 ≡ 33 * k + (2 * j + 1) = omega arith in
      let p : (2 * j + 1) / 2 ≡ j = omega arith in
      let q : (2 * j + 1) % 2 ≡ 1 = omega arith in
      rw (a, ← char-of-line fr k (2 * j + 1) (omega arith), ne_eqb (2 * j + 1) 32 (omega arith), p, q)

  pub line-end : 10 ≡ char_of fr (33 * k + 32)
  line-end = char-of-line fr k 32 (omega arith)

-- d is the buffer with its first i bytes made, and d₀ the buffer before
module _ (f : ℕ → ℕ) (d d₀ : List ℕ) (i : ℕ) (e : d ≡ build f i ++ drop i d₀) where
  -- past those it is as it was
  pub past : (m : ℕ) → drop (i + m) d ≡ drop (i + m) d₀
  past m =
      rw e
      (ap (λ j. drop (j + m) (build f i ++ drop i d₀)) (sym (length-build f i))
      ∙ drop-append-add (build f i) (drop i d₀) m
      ∙ drop-drop m i d₀)

  -- where an inner loop begins
  pub begun : d ≡ build f (i + 0) ++ drop (i + 0) d
  begun = let z : i + 0 ≡ i = omega arith in rw z (e ∙ ap (λ l. build f i ++ l) (sym (rw z at (past 0))))

  -- where it ends, m bytes on
  pub ended : (d' : List ℕ) (m j : ℕ) → j ≡ m → d' ≡ build f (i + j) ++ drop (i + j) d → d' ≡ build f (i + m)
      ++ drop (i + m) d₀
  ended d' m j z h = (rw z at h) ∙ ap (λ l. build f (i + m) ++ l) (past m)
