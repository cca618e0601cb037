-- A word read digit by digit: up to `max_frames` the number so far is what the digits spell, and past it both are past
-- it, so that both count alike as a limit.
use Prim.Native.Nat.{ℕ, suc, ◌+◌, ◌*◌, ◌-◌, ◌≤◌, ◌<◌}
use native.Mathlib.Decide.{dec_le}
use native.Mathlib.Numerals.{add-one}
use native.Mathlib.Omega.{arith}
use mathlib.Core.Path.{◌≡◌, refl, sym, ap, ◌∙◌}
use mathlib.Core.Bool.{Bool, true, false, cond, ◌&&◌}
use mathlib.Core.List.{List}
use lib.Dec.{leb, ltb}
use lib.ListN.{length, get_or}
use borrow.Author.Tests.{le-leb, lt-leb, lt-ltb, le-ltb, leb-true}
use Rattle.scan.specs.Lowest.{all_below}
use Rattle.scan.proofs.Laws.{and_first, and_second, all-each}
use Rattle.answers.specs.Limit.{max_frames}
use Rattle.text.specs.Reading.{most_frames}
use Rattle.text.proofs.Laws.{most-over}
use Rattle.program_limit.specs.declared.Word.TheVariants.{Limit, Neither}
use Rattle.program_limit.specs.Word.{is_digit, spells, limit_of}
use Rattle.program_limit.specs.ForProofs.{next_to}

-- the first k bytes are digits, and n stands for what they spell
pub record Read (w : List ℕ) (n k : ℕ) : Type 0 where
  pub few : k ≤ length w
  pub digits : all_below (is_digit w) k ≡ true
  pub small : n ≤ 10249
  pub exact : n ≤ max_frames → n ≡ spells w k
  pub over : max_frames < n → max_frames < spells w k

pub begin : (w : List ℕ) → Read w 0 0
unfolding all_below spells
begin w = record {
  few = omega arith;
  digits = refl;
  small = omega arith;
  exact = λ h. refl;
  over = λ h. absurd
      (omega arith);
}

pub step : (w : List ℕ) (n k d r : ℕ) → Read w n k → k < length w → is_digit w k ≡ true → d ≡ get_or w k 0 - 48 → d ≤ 9
    → r
    ≡ next_to n d
    → Read w r (k + 1)
unfolding all_below spells
step w n k d r i h dg ed sd er = rw add-one (go (dec_le n max_frames))
  where
    all : (all_below (is_digit w) k && is_digit w k) ≡ true
    all = rw (i.digits, dg)

    go : Dec (n ≤ max_frames) → Read w r (suc k)
    go (yes l) =
        let e : r ≡ 10 * n + d = er ∙ ap (λ (b : Bool). cond b (10 * n + d) n) (le-leb n max_frames l) in
        let q = i.exact l in
        record {
          few = omega (arith, h);
          digits = all;
          small = omega arith;
          exact = λ g. omega (arith, q, ed);
          over
              = λ g. omega (arith, q, ed);
        }
    go (no l) =
        let m : max_frames < n = omega arith in
        let e : r ≡ n = er ∙ ap (λ (b : Bool). cond b (10 * n + d) n) (lt-leb n max_frames m) in
        let q = i.over m in
        record {
          few = omega (arith, h);
          digits = all;
          small = omega (arith, i.small);
          exact = λ g. absurd
              (omega arith);
          over = λ g. omega (arith, q);
        }

-- the value of a digit
pub digit-small : (w : List ℕ) (k : ℕ) → is_digit w k ≡ true → (48 ≤ get_or w k 0) × (get_or w k 0 ≤ 57)
digit-small w k e = (
  leb-true 48 (get_or w k 0) (and_first (leb 48 (get_or w k 0)) _ e),
  leb-true (get_or w k 0) 57 (and_second (leb 48 (get_or w k 0)) _ e),
)

-- a byte that is no digit
pub no_number : (w : List ℕ) (k : ℕ) → k < length w → is_digit w k ≡ false → Neither ≡ limit_of w
unfolding limit_of
no_number w k h e = go (all_below (is_digit w) (length w)) refl
  where
    go : (b : Bool) → all_below (is_digit w) (length w) ≡ b → Neither
        ≡ cond (ltb 0 (length w) && b) (Limit (most_frames (spells w (length w)))) Neither
    go true p = let t = all-each (is_digit w) (length w) k p h in let z : ◌≡◌ {A = Bool} true false = sym t ∙ e in
        let y : ◌≡◌ {A = ℕ} 0 1 = cc in absurd (omega arith)
    go false p = sym (ap (λ (b : Bool). cond b (Limit (most_frames (spells w (length w)))) Neither)
        (never (ltb 0 (length w))))
      where
        never : (b : Bool) → (b && false) ≡ false
        never true = refl
        never false = refl

-- no byte at all
pub no_word : (w : List ℕ) → length w ≡ 0 → Neither ≡ limit_of w
unfolding limit_of
no_word w e =
    sym (ap (λ (b : Bool). cond (b && all_below (is_digit w) (length w))
    (Limit (most_frames (spells w (length w)))) Neither) (le-ltb 0 (length w) (omega (arith, e))))

-- all of it
pub whole : (w : List ℕ) (n k r : ℕ) → Read w n k → k ≡ length w → 0 < k → r ≡ most_frames n → Limit r ≡ limit_of w
unfolding limit_of
whole w n k r i ek h er =
    let e : most_frames n ≡ most_frames (spells w (length w)) = go (dec_le n max_frames) in
    let a : (ltb 0 (length w) && all_below (is_digit w) (length w))
    ≡ true = rw (lt-ltb 0 (length w) (omega (arith, ek, h)), ← ek, i.digits) in
    ap Limit (er ∙ e) ∙ sym (ap (λ (b : Bool). cond b (Limit (most_frames (spells w (length w)))) Neither) a)
  where
    go : Dec (n ≤ max_frames) → most_frames n ≡ most_frames (spells w (length w))
    go (yes l) = ap most_frames (i.exact l ∙ ap (spells w) ek)
    go (no l) =
        let m : max_frames < n = omega arith in
        let s : max_frames < spells w (length w) = omega (arith, i.over m, ap (spells w) ek) in
        most-over n m ∙ sym (most-over (spells w (length w)) s)
