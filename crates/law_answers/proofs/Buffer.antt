-- The answer buffer while rows are typed in order: it holds what was handed back so far, each row's answer at its
-- place, so a rule that reads there comes to our outcome. Every answer of ours over an accepted file is one that the
-- code has.
use Rattle.std.specs.Prelude.{Ok, Err}
use Rattle.answers.specs.declared.Unresolved.TheVariants as Un
use Prim.Native.Nat.{ℕ, zero, suc, ◌≤◌, ◌<◌}
use native.Mathlib.Omega.{arith}
use mathlib.Core.Path.{◌≡◌, refl, sym, ap, ◌∙◌}
use mathlib.Core.List.{List, [], ◌∷◌, ◌++◌}
use lib.ListN.{length}
use Rattle.scan.specs.Lists.{build}
use Rattle.ir.specs.declared.TypeResolution.TheVariants as Tr
use Rattle.frames.specs.declared.Frame.{Frame}
use Rattle.archive.specs.Starts.{starts_of, row_count}
use Rattle.rule.specs.Answers.{TypeAnswer, number, value, malformed, Typed, given, refused, chosen_refusal, Place, row}
use Rattle.rule.specs.Answers.{component, composed, nowhere, chosen, Result, told, newer, row_frame}
use Rattle.rule.specs.Things.{see}
use Rattle.rule.specs.Rule.{Rule, run}
use Rattle.rule.specs.InOrder.{among, answers, ours}
use Rattle.rule_rows.specs.declared.Pass.{Pass}
use Rattle.rule_rows.specs.Typed.{typing}
use Rattle.rule_rows.proofs.Written.{answer-framed}
use Rattle.rule_rows.specs.OverBuffer.{past_in}
use Rattle.rule_compose.specs.Rows.{verdict_of}
use Rattle.law_rows.proofs.Good.{Good}
use Rattle.law_rows.proofs.Ranged.{InRange}
use Rattle.law_rows.proofs.Range.{ours-in-range}
use Rattle.rule_answers.specs.Outputs.{row_answer, verdict_frames, outputs, frames_bytes}
use Rattle.rule_answers.specs.ForProofs.{places_of, Held, AllHeld}
use Rattle.law_answers.proofs.Same.{run-same}
use Rattle.law_answers.proofs.Placed.{Placed, past_is, placed-more}

-- an answer in range is one that the code has
in-range-held : (pass : Pass) (fr : List ℕ) (n : ℕ) (x : Result Typed) → InRange pass fr n x → Held x
in-range-held pass fr n (told (given (number t))) h = record { answer = Ok (Tr.Handle t); is = refl }
in-range-held pass fr n (told (given (value t))) h = record { answer = Ok (Tr.Value t); is = refl }
in-range-held pass fr n (told (given (malformed f))) h = absurd h
in-range-held pass fr n (told (refused e)) h = record { answer = Err (Un.Refused e); is = refl }
in-range-held pass fr n (told (chosen_refusal f)) h = absurd h
in-range-held pass fr n (newer (row r)) h = record { answer = Err (Un.Newer r); is = refl }
in-range-held pass fr n (newer (component i)) h = absurd h
in-range-held pass fr n (newer composed) h = absurd h
in-range-held pass fr n (newer nowhere) h = absurd h
in-range-held pass fr n (newer (chosen f)) h = absurd h

-- so are all of an accepted file
pub good-held : (pass : Pass) (fr : List ℕ) → Good fr → (n : ℕ) → n ≤ row_count (starts_of fr) → AllHeld pass fr n
good-held pass fr good n h k l = in-range-held pass fr k (row_answer pass (see fr) k)
    (ours-in-range pass fr good k (omega arith))

-- one more row, whose answer is held
more : (outs : List Frame) (places : List ℕ) (rows : List (Result Typed)) (after : List Frame) → Placed outs places rows
    → (x : Result Typed) → Held x
    → Placed (outs ++ (row_frame x ∷ after)) (places ++ (length outs ∷ [])) (rows ++ (x ∷ []))
more outs places rows after p x h = rw (h.is, ← answer-framed h.answer)
    (placed-more outs places rows h.answer after p)

module _ (pass : Pass) (fr : List ℕ) where
  -- the answers of the first n rows stand at their places
  pub placed-outputs : (n : ℕ) → AllHeld pass fr n
      → Placed (outputs pass (see fr) n) (places_of pass fr n) (answers (see fr) (typing pass) (λ m. newer) n)
  unfolding outputs build
  placed-outputs zero h = record { long = refl; each = λ k l. absurd (omega arith) }
  placed-outputs (suc n) h =
      more (outputs pass (see fr) n) (places_of pass fr n) (answers (see fr) (typing pass) (λ m. newer) n)
      (verdict_frames n (verdict_of pass (see fr) n))
      (placed-outputs n (λ k l. h k (omega arith))) (row_answer pass (see fr) n) (h n (omega arith))

  -- so any rule run over the buffer and the places of the first n rows gives our outcome over them, whatever stands
  -- after those rows' frames
  pub run-buffer : {A : Type 0} (n : ℕ) → AllHeld pass fr n → (rest : List ℕ) (rule : Rule A)
      → run (see fr) (past_in (frames_bytes (outputs pass (see fr) n) ++ rest) (places_of pass fr n)) newer rule
      ≡ ours (see fr) (typing pass) n rule
  run-buffer n h rest rule =
      run-same (see fr) (past_in (frames_bytes (outputs pass (see fr) n) ++ rest) (places_of pass fr n))
      (among (answers (see fr) (typing pass) (λ m. newer) n))
      (past_is (outputs pass (see fr) n) (places_of pass fr n) (answers (see fr) (typing pass) (λ m. newer) n) rest
      (placed-outputs n h))
      newer rule
