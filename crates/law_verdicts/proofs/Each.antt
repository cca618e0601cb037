-- Each row of an accepted file hands back one answer, of family 8, 9 or 10, and each compose one verdict after it, of
-- family 11, which names its row; no other row has one. An answer's family is by the range of answers (law_rows); a row
-- has a verdict exactly where its frame has kind 5, by what check 6 has of it.
use Prim.Native.Nat.{ℕ, zero, suc, ◌+◌, ◌≤◌, ◌<◌}
use native.Mathlib.Omega.{arith}
use mathlib.Core.Path.{◌≡◌, refl, ap}
use mathlib.Core.Bool.{Bool, true, false, cond}
use mathlib.Core.List.{List, [], ◌∷◌}
use mathlib.Core.Option.{Option, none, some}
use lib.Dec.{eqb}
use lib.ListN.{length, length-append}
use borrow.Author.Tests.{eqb-true, eqb-false}
use Rattle.scan.specs.Lists.{sum_below}
use Rattle.frames.specs.Bytes.{byte}
use Rattle.archive.specs.Starts.{starts_of, row_count}
use Rattle.rule.specs.Answers.{number, value, malformed, Typed, given, refused, chosen_refusal, row, component}
use Rattle.rule.specs.Answers.{composed}
use Rattle.rule.specs.Answers.{nowhere, chosen, Judgement, Result, told, newer, row_frame}
use Rattle.rule.specs.Things.{see}
use Rattle.rule.specs.Rule.{Rule}
use Rattle.rule.specs.InOrder.{ours}
use Rattle.rule_types.proofs.Seen.{never}
use Rattle.rule_rows.specs.declared.Pass.{Pass}
use Rattle.rule_rows.specs.Typed.{typing}
use Rattle.law_rows.proofs.Good.{Good}
use Rattle.law_rows.proofs.Ranged.{InRange}
use Rattle.law_rows.proofs.Range.{row-there, ours-in-range}
use Rattle.law_rows.proofs.ByBytes.{row-by-bytes}
use Rattle.rule_compose.specs.Rows.{of_shown, verdict_rule}
use Rattle.rule_answers.specs.Outputs.{row_answer, row_frames, outputs}
use Rattle.law_verdicts.specs.Numbers.{frame_of}
use Rattle.law_verdicts.specs.Each.{AnswerFamily, row_kind, ThenVerdict, OneEach, composes_below}
use Rattle.law_verdicts.specs.Each as Each
use Rattle.law_verdicts.specs.ForProofs.{compose_count}
use Rattle.law_verdicts.proofs.Composes.{composes}
use Rattle.law_verdicts.proofs.Numbers.{compose-kind, verdict-numbers}

-- an answer in range is of family 8, 9 or 10
answer-family : (pass : Pass) (fr : List ℕ) (n : ℕ) (a : Result Typed) → InRange pass fr n a
    → AnswerFamily (byte (row_frame a) 0)
answer-family pass fr n (told (given (number t))) h = Each.type_number
answer-family pass fr n (told (given (value t))) h = Each.value
answer-family pass fr n (told (given (malformed f))) h = absurd h
answer-family pass fr n (told (refused e)) h = Each.refusal
answer-family pass fr n (told (chosen_refusal f)) h = absurd h
answer-family pass fr n (newer (row r)) h = Each.refusal
answer-family pass fr n (newer (component i)) h = absurd h
answer-family pass fr n (newer composed) h = absurd h
answer-family pass fr n (newer nowhere) h = absurd h
answer-family pass fr n (newer (chosen f)) h = absurd h

module _ (pass : Pass) (fr : List ℕ) (good : Good fr) where
  -- ONE ROW
  pub one_each : (n : ℕ) → n < row_count (starts_of fr) → OneEach pass fr n
  one_each n h = record {
    answer = row_frame (row_answer pass (see fr) n);
    family = answer-family pass fr n (row_answer pass (see fr) n) (ours-in-range pass fr good n h);
    compose =
        λ e. judged (verdict_rule (see fr) n) refl
        (ap of_shown ((row-by-bytes fr good (record { 0 = n }) (row-there fr n h)).composes e));
    other = λ e. alone (verdict_rule (see fr) n) refl e;
  }
    where
      judged : {r : Rule Judgement} (o : Option (Rule Judgement)) → verdict_rule (see fr) n ≡ o
          → verdict_rule (see fr) n
          ≡ some r
          → ThenVerdict pass fr n (row_frame (row_answer pass (see fr) n))
      judged none q e = never (cc)
      judged (some rule) q e =
          let v = ours (see fr) (typing pass) n rule in
          let j = verdict-numbers pass fr n v (rw q) in
          record { verdict = frame_of n v; family = j.laid.family; row = j.laid.row; frames = rw q }

      alone : (o : Option (Rule Judgement)) → verdict_rule (see fr) n ≡ o → (row_kind fr n ≡ 5 → ⊥)
          → row_frames pass (see fr) n ≡ row_frame (row_answer pass (see fr) n) ∷ []
      alone none q e = rw q
      alone (some rule) q e = absurd (e (compose-kind fr good n h (composes fr n rule q)))

  -- how many frames row n hands back
  frames-of : (n : ℕ) → n < row_count (starts_of fr) → length (row_frames pass (see fr) n)
      ≡ 1 + cond (eqb (row_kind fr n) 5) 1 0
  frames-of n h = go (eqb (row_kind fr n) 5) refl
    where
      go : (b : Bool) → eqb (row_kind fr n) 5 ≡ b → length (row_frames pass (see fr) n) ≡ 1 + cond b 1 0
      go true q = ap length ((one_each n h).compose (eqb-true (row_kind fr n) 5 q)).frames
      go false q = ap length ((one_each n h).other (eqb-false (row_kind fr n) 5 q))

  -- ALL ROWS: one frame a row, and one more a compose
  pub outputs-below : (n : ℕ) → n ≤ row_count (starts_of fr)
      → length (outputs pass (see fr) n) ≡ n + composes_below fr n
  unfolding outputs sum_below
  outputs-below zero h = refl
  outputs-below (suc n) h =
      omega (
        arith,
        length-append (outputs pass (see fr) n) (row_frames pass (see fr) n),
        outputs-below n (omega arith),
        frames-of n (omega arith),
      )

  pub one-a-row : length (outputs pass (see fr) (row_count (starts_of fr))) ≡ row_count (starts_of fr)
      + compose_count fr
  one-a-row = outputs-below (row_count (starts_of fr)) (omega arith)
