-- Room for what all rows hand back, as the code finds it: counted by the bytes of the rows' frames, one for each row
-- and one more for a compose. From the laws of one row.
use Prim.Native.Nat.{ℕ, zero, suc, ◌+◌, ◌*◌, ◌/◌, ◌≤◌, ◌<◌}
use native.Mathlib.Omega.{arith}
use mathlib.Core.Path.{◌≡◌, refl, ap, ◌∙◌}
use mathlib.Core.Bool.{Bool, true, false, cond, ◌&&◌}
use mathlib.Core.List.{List, ◌++◌}
use mathlib.Core.Option.{Option}
use lib.Dec.{leb, eqb}
use lib.ListN.{length, drop, length-append}
use borrow.Author.Tests.{eqb-true, eqb-false, le-leb, lt-leb}
use Rattle.scan.specs.Lists.{sum_below}
use Rattle.answers.specs.Limit.{max_frames}
use Rattle.frames.specs.Bytes.{frame_at, frame_count}
use Rattle.archive.specs.declared.Starts.{Starts}
use Rattle.archive.specs.Starts.{starts_of, row_count}
use Rattle.rule.specs.Answers.{Judgement}
use Rattle.rule.specs.Things.{see}
use Rattle.rule.specs.Rule.{Rule}
use Rattle.rule_rows.specs.declared.Pass.{Pass}
use Rattle.rule_compose.specs.Rows.{judged}
use Rattle.rule_answers.specs.Outputs.{verdict_frames, row_frames, outputs, output_bytes}
use Rattle.rule_answers.specs.ForProofs.{places_of}
use Rattle.law_answers.proofs.Bytes.{bytes-length}
use Rattle.rule_file.specs.Typing.{answers_written}
use Rattle.rule_file.specs.ForProofs.{Room}
use Rattle.law_file.proofs.Row.{compose-rule, no-rule}
use Rattle.file_answers.specs.Rows.{has_room}
use Rattle.file_answers.specs.ForProofs.{hands_back, all_hand_back}

module _ (pass : Pass) (fr : List ℕ) where
  -- what a row hands back
  row-counted : (m : ℕ) → m < row_count (starts_of fr) → length (row_frames pass (see fr) m)
      ≡ hands_back (frame_at fr ((starts_of fr).rows + m))
  row-counted m here = go (eqb (frame_at fr ((starts_of fr).rows + m)).b1 5) refl
    where
      go : (b : Bool) → eqb (frame_at fr ((starts_of fr).rows + m)).b1 5 ≡ b → length (row_frames pass (see fr) m)
          ≡ cond b 2 1
      go true e = ap (λ (v : Option (Rule Judgement)). suc (length (verdict_frames m (judged pass (see fr) m v))))
          (compose-rule fr m here (eqb-true _ 5 e))
      go false e = ap (λ (v : Option (Rule Judgement)). suc (length (verdict_frames m (judged pass (see fr) m v))))
          (no-rule fr m here (eqb-false _ 5 e))

  -- and the first n
  pub counted : (n : ℕ) → n ≤ row_count (starts_of fr) → length (outputs pass (see fr) n) ≡ all_hand_back fr n
  unfolding outputs sum_below
  counted zero h = refl
  counted (suc n) h =
      length-append (outputs pass (see fr) n) (row_frames pass (see fr) n)
      ∙ omega (arith, counted n (omega arith), row-counted n (omega arith))

  -- all of them, in bytes
  pub bytes_counted : length (output_bytes pass fr) ≡ 16 * all_hand_back fr (row_count (starts_of fr))
  bytes_counted = omega (
    arith,
    bytes-length (outputs pass (see fr) (row_count (starts_of fr))),
    counted (row_count (starts_of fr)) (omega arith),
  )

  -- the code's count k, against a buffer of a bytes
  module _ (a k : ℕ) (s : Starts) (es : s ≡ starts_of fr) (ek : k ≡ all_hand_back fr (row_count s)) where
    k-is : 16 * k ≡ length (output_bytes pass fr)
    k-is = omega (arith, ek, ap (λ (z : Starts). all_hand_back fr (row_count z)) es, bytes_counted)

    pub room-counted : frame_count fr ≤ max_frames → k ≤ a / 16 → Room pass fr a
    room-counted few h = record { few = few; answers = omega (arith, k-is) }

    pub lacks-counted : a / 16 < k → a < length (output_bytes pass fr)
    lacks-counted h = omega (arith, k-is)

  module _ (a p : ℕ) where
    pub room-there : Room pass fr a → row_count (starts_of fr) ≤ p → has_room pass fr a p ≡ true
    unfolding has_room
    room-there r h =
        rw (
          le-leb (frame_count fr) max_frames r.few,
          le-leb (row_count (starts_of fr)) p h,
          le-leb (length (output_bytes pass fr)) a r.answers,
        )

    -- a test that fails
    never : (b : Bool) → (b && false) ≡ false
    never true = refl
    never false = refl

    pub too_many : max_frames < frame_count fr → has_room pass fr a p ≡ false
    unfolding has_room
    too_many h = rw (lt-leb (frame_count fr) max_frames h)

    pub no_table : p < row_count (starts_of fr) → has_room pass fr a p ≡ false
    unfolding has_room
    no_table h = rw (lt-leb (row_count (starts_of fr)) p h) (never (leb (frame_count fr) max_frames))

    pub no-answers : a < length (output_bytes pass fr) → has_room pass fr a p ≡ false
    unfolding has_room
    no-answers h =
        rw (lt-leb (length (output_bytes pass fr)) a h, never (leb (row_count (starts_of fr)) p))
        (never (leb (frame_count fr) max_frames))

-- what `answer_rows` gives and leaves
abbrev pub Filled : Pass → List ℕ → List ℕ → List ℕ → ℕ → List ℕ → List ℕ → Bool → Type 0
Filled pass fr an pl r last out b =
    (r ≡ cond b (length (outputs pass (see fr) (row_count (starts_of fr)))) 0)
    × ((last ≡ cond b (answers_written pass an fr) an)
    × (out ≡ cond b (places_of pass fr (row_count (starts_of fr)) ++ drop (row_count (starts_of fr)) pl) pl))

pub not-filled : (pass : Pass) (fr an pl : List ℕ) → has_room pass fr (length an) (length pl) ≡ false
    → Filled pass fr an pl 0 an pl (has_room pass fr (length an) (length pl))
not-filled pass fr an pl e = rw e (refl, (refl, refl))

pub filled : (pass : Pass) (fr an pl last out : List ℕ) (s : Starts) (r : ℕ) → has_room pass fr (length an) (length pl)
    ≡ true → s ≡ starts_of fr
    → r ≡ length (outputs pass (see fr) (row_count s))
    → last ≡ answers_written pass an fr
    → out ≡ places_of pass fr (row_count s) ++ drop (row_count s) pl
    → Filled pass fr an pl r last out (has_room pass fr (length an) (length pl))
filled pass fr an pl last out s r e es a b c = rw e (rw es at a, (b, rw es at c))

-- where there is room, by where the families begin
pub all-filled : (pass : Pass) (fr an pl : List ℕ) (r : ℕ) (last out : List ℕ) (s : Starts) → Room pass fr (length an)
    → row_count (starts_of fr) ≤ length pl
    → s ≡ starts_of fr
    → Filled pass fr an pl r last out (has_room pass fr (length an) (length pl))
    → (r ≡ length (outputs pass (see fr) (row_count s)))
    × ((last ≡ answers_written pass an fr) × (out ≡ places_of pass fr (row_count s) ++ drop (row_count s) pl))
all-filled pass fr an pl r last out s room h es f = rw es (rw (room-there pass fr (length an) (length pl) room h) at f)
