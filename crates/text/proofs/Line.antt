-- What a digit is, and what a whole line holds: by the tests of the definitions, and since no character past the end of
-- a text is a line feed.
use Rattle.std.specs.Prelude.{None}
use mathlib.Core.Path.{◌≡◌, refl, sym, ◌∙◌}
use mathlib.Core.Bool.{Bool, true, false, ◌&&◌, ◌||◌, and-false}
use mathlib.Core.List.{List}
use mathlib.Core.Logic.{◌⊎◌, inl, inr, ⊎_elim}
use Prim.Native.Nat.{ℕ, zero, suc, ◌+◌, ◌*◌, ◌≤◌, ◌<◌}
use native.Mathlib.Nat.{lt_of_not-le}
use native.Mathlib.Omega.{arith}
use lib.Dec.{leb, ltb}
use lib.ListN.{length, get_or-eq_default}
use borrow.Author.Tests.{leb-true, ltb-true, eqb-true, lt-ltb, le-ltb}
use Rattle.scan.specs.Lowest.{lowest, all_below}
use Rattle.scan.proofs.Laws.{and_first, and_second, all-each, each_all, none-all}
use Rattle.text.specs.Hex.{is_digit, digit_value}
use Rattle.text.specs.Lines.{char_at, line_ok, line_count, frame_byte}

-- one of two tests that holds
pub or_cases : (a b : Bool) → (a || b) ≡ true → (a ≡ true) ⊎ (b ≡ true)
or_cases true b e = inl refl
or_cases false b e = inr e

-- a digit is one of 48 to 57, or of 97 to 102
pub digit-cases : (c : ℕ) → is_digit c ≡ true → ((48 ≤ c) × (c < 58)) ⊎ ((97 ≤ c) × (c < 103))
digit-cases c e =
    ⊎_elim (λ a. inl (leb-true 48 c (and_first _ _ a), ltb-true c 58 (and_second (leb 48 c) _ a)))
    (λ b. inr (leb-true 97 c (and_first _ _ b), ltb-true c 103 (and_second (leb 97 c) _ b)))
    (or_cases (leb 48 c && ltb c 58) (leb 97 c && ltb c 103) e)

-- a digit stands for a number below 16
pub value-small : (c : ℕ) → is_digit c ≡ true → digit_value c < 16
unfolding digit_value
value-small c e =
    ⊎_elim (λ a. rw (lt-ltb c 58 a.1) (omega arith)) (λ b. rw (le-ltb c 58 (omega arith)) (omega arith))
    (digit-cases c e)

-- ---- a line that is whole
module _ (t : List ℕ) (k : ℕ) (whole : line_ok t k ≡ true) where
  -- its first 32 characters are digits
  pub line-digit : (j : ℕ) → j < 32 → is_digit (char_at t k j) ≡ true
  unfolding line_ok
  line-digit j l = all-each (λ (j : ℕ). is_digit (char_at t k j)) 32 j (and_first _ _ whole) l

  -- its last is a line feed
  pub line-feed : char_at t k 32 ≡ 10
  unfolding line_ok
  line-feed = eqb-true _ _ (and_second (all_below (λ (j : ℕ). is_digit (char_at t k j)) 32) _ whole)

  -- it lies in the text
  pub line-in : 33 * k + 33 ≤ length t
  line-in =
      let l : 33 * k + 32 < length t = lt_of_not-le
      (λ h. let z : 0 ≡ 10 = sym (get_or-eq_default t 0 h) ∙ line-feed in omega arith) in
      omega arith

  -- what it stands for are bytes
  pub byte_small : (j : ℕ) → j < 16 → frame_byte t k j < 256
  byte_small j l =
      omega (
        arith,
        value-small (char_at t k (2 * j)) (line-digit (2 * j) (omega arith)),
        value-small (char_at t k (2 * j + 1)) (line-digit (2 * j + 1) (omega arith)),
      )

-- 32 digits and a line feed are a whole line
pub line-whole : (t : List ℕ) (k : ℕ) → ((j : ℕ) → j < 32 → is_digit (char_at t k j) ≡ true) → char_at t k 32 ≡ 10
    → line_ok t k ≡ true
unfolding line_ok
line-whole t k digits feed = rw (each_all (λ (j : ℕ). is_digit (char_at t k j)) 32 digits, feed)

-- a line that runs past the end is torn
pub line-short : (t : List ℕ) (k : ℕ) → length t < 33 * k + 33 → false ≡ line_ok t k
unfolding line_ok
line-short t k l =
    let past : char_at t k 32 ≡ 0 = get_or-eq_default t 0 (omega arith) in
    rw past (sym (and-false (all_below (λ (j : ℕ). is_digit (char_at t k j)) 32)))

-- ---- all lines
module _ (t : List ℕ) where
  -- n whole lines lie in the text
  pub lines-in : (n : ℕ) → lowest (line_ok t) n ≡ None → 33 * n ≤ length t
  lines-in zero none = omega arith
  lines-in (suc n) none = omega (arith, line-in t n (none-all (line_ok t) (suc n) n none (omega arith)))

  -- a text whose lines are all whole is those lines
  pub length_whole : lowest (line_ok t) (line_count t) ≡ None → length t ≡ 33 * line_count t
  length_whole none = omega (arith, lines-in (line_count t) none)
