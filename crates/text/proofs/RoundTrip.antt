-- Frames that are written and read again come back, and so does a text that is read and written again: digit by digit,
-- since a digit's value has that digit.
use Rattle.std.specs.Prelude.{Ok}
use mathlib.Core.Path.{◌≡◌, sym, ap, ◌∙◌}
use mathlib.Core.Bool.{true, cond}
use mathlib.Core.List.{List}
use mathlib.Core.Logic.{⊎_elim}
use Prim.Native.Nat.{ℕ, ◌+◌, ◌*◌, ◌-◌, ◌/◌, ◌%◌, ◌≤◌, ◌<◌}
use native.Mathlib.Omega.{arith}
use lib.Dec.{ltb, eqb}
use lib.ListN.{length, get_or}
use lib.Seq.{ext_get_or}
use borrow.Author.Tests.{ltb-true, ltb-false, eqb-true, eqb-false, lt-ltb, le-ltb, le-leb, ne_eqb}
use Rattle.scan.proofs.Laws.{by-test}
use Rattle.scan.proofs.Fill.{length-build, get_d-build}
use Rattle.text.specs.declared.AnswerRoom.{AnswerRoom}
use Rattle.text.specs.declared.AnswerRoom.TheVariants.{NotLent}
use Rattle.text.specs.Hex.{is_digit, digit_value, digit_of}
use Rattle.text.specs.Lines.{char_at, line_ok, line_count, frame_byte, decoded, digit_at, line_char, char_of, text_of}
use Rattle.text.specs.Reading.{most_frames, read_text}
use Rattle.text.proofs.Line.{digit-cases, value-small, line-digit, line-feed, line-whole}
use Rattle.text.proofs.Turn.{char-of-line, high_digit, low_digit, line-end}
use Rattle.text.proofs.Laws.{Bytes, Readable, accepted-when, length-decoded, decoded-at, length-read, whole-line}

-- ---- a digit and its value
module _ (v : ℕ) (small : v < 16) where
  -- a number below 16 is written as a digit
  pub digit-is : is_digit (digit_of v) ≡ true
  unfolding digit_of
  digit-is =
      by-test (λ c. is_digit c ≡ true) (ltb v 10)
      (λ a. let l = ltb-true v 10 a in rw (le-leb 48 (48 + v) (omega arith), lt-ltb (48 + v) 58 (omega arith)))
      (λ b. let l = ltb-false v 10 b in
      rw (
        le-leb 48 (87 + v) (omega arith),
        le-ltb (87 + v) 58 (omega arith),
        le-leb 97 (87 + v) (omega arith),
        lt-ltb (87 + v) 103 (omega arith),
      ))

  -- that stands for it
  pub value-of-digit : digit_value (digit_of v) ≡ v
  unfolding digit_of digit_value
  value-of-digit =
      by-test (λ c. cond (ltb c 58) (c - 48) (c - 87) ≡ v) (ltb v 10)
      (λ a. let l = ltb-true v 10 a in rw (lt-ltb (48 + v) 58 (omega arith)) (omega arith))
      (λ b. let l = ltb-false v 10 b in rw (le-ltb (87 + v) 58 (omega arith)) (omega arith))

-- a digit is what its value is written as
pub digit-of-value : (c : ℕ) → is_digit c ≡ true → digit_of (digit_value c) ≡ c
unfolding digit_of digit_value
digit-of-value c e =
    ⊎_elim (λ a. rw (lt-ltb c 58 a.1, lt-ltb (c - 48) 10 (omega arith)) (omega arith))
    (λ b. rw (le-ltb c 58 (omega arith), le-ltb (c - 87) 10 (omega arith)) (omega arith)) (digit-cases c e)

-- ---- frames, written and read
module _ (fr : List ℕ) (n : ℕ) where
  -- n frames are written as 33 n characters
  pub length-text : length (text_of fr n) ≡ 33 * n
  length-text = length-build (char_of fr) (33 * n)

  -- and so as n lines
  pub count-text : line_count (text_of fr n) ≡ n
  count-text = omega (arith, length-text)

module _ (fr : List ℕ) (n : ℕ) (bytes : Bytes fr) where
  module _ (k : ℕ) (l : k < n) where
    -- a character of the text, by its line and place
    text_at : (j : ℕ) → j < 33 → char_at (text_of fr n) k j ≡ char_of fr (33 * k + j)
    text_at j m = get_d-build (char_of fr) (33 * n) (33 * k + j) (omega arith)

    text-high : (j : ℕ) → j < 16 → char_at (text_of fr n) k (2 * j) ≡ digit_of (get_or fr (16 * k + j) 0 / 16)
    text-high j m = text_at (2 * j) (omega arith) ∙ sym (high_digit fr k j m)

    text-low : (j : ℕ) → j < 16 → char_at (text_of fr n) k (2 * j + 1) ≡ digit_of (get_or fr (16 * k + j) 0 % 16)
    text-low j m =
        let a : 33 * k + (2 * j + 1) ≡ 33 * k + 2 * j + 1 = omega arith in
        text_at (2 * j + 1) (omega arith) ∙ ap (char_of fr) a ∙ sym (low_digit fr k j m)

    text-digit : (j : ℕ) → j < 32 → is_digit (char_at (text_of fr n) k j) ≡ true
    text-digit j m =
        let b = get_or fr (16 * k + j / 2) 0 in
        let h : b < 256 = bytes (16 * k + j / 2) in
        rw (text_at j (omega arith), ← char-of-line fr k j (omega arith), ne_eqb j 32 (omega arith))
        (by-test (λ c. is_digit c ≡ true) (eqb (j % 2) 0) (λ _. digit-is (b / 16) (omega arith))
        (λ _. digit-is (b % 16) (omega arith)))

    -- every line is whole
    pub text-whole : line_ok (text_of fr n) k ≡ true
    text-whole = line-whole (text_of fr n) k text-digit (text_at 32 (omega arith) ∙ sym (line-end fr k))

    text-byte : (j : ℕ) → j < 16 → frame_byte (text_of fr n) k j ≡ get_or fr (16 * k + j) 0
    text-byte j m =
        let b = get_or fr (16 * k + j) 0 in
        let h : b < 256 = bytes (16 * k + j) in
        rw (text-high j m, text-low j m, value-of-digit (b / 16) (omega arith), value-of-digit (b % 16) (omega arith))
        (omega arith)

  -- the frames come back
  pub decoded-text : length fr ≡ 16 * n → decoded (text_of fr n) n ≡ fr
  decoded-text len =
      ext_get_or 0 (decoded (text_of fr n) n) fr (length-decoded (text_of fr n) n ∙ sym len) (λ i h.
      let l : i < 16 * n = rw length-decoded at h in
      let e : 16 * (i / 16) + i % 16 ≡ i = omega arith in
      let d =
      decoded-at (text_of fr n) n (i / 16) (i % 16) (omega arith) (omega arith)
      ∙ text-byte (i / 16) (omega arith) (i % 16) (omega arith) in
      rw e at d)

  -- and are accepted where they fit
  pub read-written : (limit f : ℕ) → n ≤ most_frames limit → 16 * n ≤ f → read_text limit (text_of fr n) f NotLent
      ≡ Ok n
  read-written limit f m fits =
      (accepted-when limit (text_of fr n) f NotLent n).1
      (record {
        within = omega (arith, length-text fr n);
        whole = λ k l. text-whole k
            (omega (arith, count-text fr n));
        count = sym (count-text fr n);
        frames = fits;
        answers = tt;
      })

-- ---- a text, read and written
module _ {limit : ℕ} {t : List ℕ} {f : ℕ} {room : AnswerRoom} {n : ℕ} (r : Readable limit t f room n) where
  -- a line comes back, digit by digit
  digit-back : (k j : ℕ) → k < n → j < 32 → digit_at (get_or (decoded t n) (16 * k + j / 2) 0) j ≡ char_at t k j
  digit-back k j l m =
      let high = char_at t k (2 * (j / 2)) in
      let low = char_at t k (2 * (j / 2) + 1) in
      let is-high = line-digit t k (whole-line r k l) (2 * (j / 2)) (omega arith) in
      let is-low = line-digit t k (whole-line r k l) (2 * (j / 2) + 1) (omega arith) in
      let small = value-small low is-low in
      let over : frame_byte t k (j / 2) / 16 ≡ digit_value high = omega arith in
      let under : frame_byte t k (j / 2) % 16 ≡ digit_value low = omega arith in
      rw (decoded-at t n k (j / 2) l (omega arith))
      (by-test (λ c. c ≡ char_at t k j) (eqb (j % 2) 0)
      (λ p. let even = eqb-true (j % 2) 0 p in rw over (digit-of-value high is-high ∙ ap (char_at t k) (omega arith)))
      (λ p. let odd = eqb-false (j % 2) 0 p in rw under (digit-of-value low is-low ∙ ap (char_at t k) (omega arith))))

  line-back : (k j : ℕ) → k < n → j < 33 → line_char (decoded t n) k j ≡ char_at t k j
  line-back k j l m =
      by-test (λ c. c ≡ char_at t k j) (eqb j 32) (λ e. rw (eqb-true j 32 e) (sym (line-feed t k (whole-line r k l))))
      (λ e. let not_last = eqb-false j 32 e in digit-back k j l (omega arith))

  -- the text comes back
  pub text-decoded : text_of (decoded t n) n ≡ t
  unfolding char_of
  text-decoded =
      ext_get_or 0 (text_of (decoded t n) n) t (length-text (decoded t n) n ∙ sym (length-read r)) (λ i h.
      let l : i < 33 * n = rw length-text at h in
      let e : 33 * (i / 33) + i % 33 ≡ i = omega arith in
      get_d-build (char_of (decoded t n)) (33 * n) i l ∙ line-back (i / 33) (i % 33) (omega arith) (omega arith)
      ∙ ap (λ m. get_or t m 0) e)
