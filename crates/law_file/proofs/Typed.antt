-- What typing a file hands back, for a caller of `type_file`: of an accepted file the parts of the two buffers that it
-- lends on are the text's frames and all that is handed back; of another the answer buffer is as it was. From the laws
-- of reading a file.
use Rattle.std.specs.Prelude.{Ok, Err}
use Rattle.answers.specs.declared.FileError.{FileError}
use Prim.Native.Nat.{ℕ, ◌*◌, ◌≤◌}
use native.Mathlib.Omega.{arith}
use mathlib.Core.Path.{◌≡◌, refl, sym, ap, ◌∙◌}
use mathlib.Core.List.{List, ◌++◌}
use lib.ListN.{length, take, drop, length-append}
use lib.Seq.{take_at}
use Rattle.answers.specs.Outcome.{Outcome}
use Rattle.answers.specs.Limit.{max_frame_bytes, max_answer_bytes}
use Rattle.text.specs.declared.AnswerRoom.TheVariants.{Lent}
use Rattle.frames.specs.Bytes.{frame_count}
use Rattle.archive.specs.Starts.{starts_of, row_count}
use Rattle.rule.specs.Things.{see}
use Rattle.rule_rows.specs.declared.Pass.{Pass}
use Rattle.rule_answers.specs.Outputs.{outputs, output_bytes}
use Rattle.law_answers.proofs.Bytes.{bytes-length}
use Rattle.rule_file.specs.Typed.{TypeOutcome, outcome_in, outputs_in}
use Rattle.rule_file.specs.File.{over_file, read_file}
use Rattle.rule_file.specs.Typing.{answers_written, answers_after, output_count, HandsBack}
use Rattle.law_file.proofs.Over.{over-part}
use Rattle.law_file.proofs.Ready.{ready-part}

-- what is handed back is whole frames
pub whole-frames : (pass : Pass) (fr : List ℕ) → 16 * frame_count (output_bytes pass fr) ≡ length (output_bytes pass fr)
whole-frames pass fr = omega (arith, bytes-length (outputs pass (see fr) (row_count (starts_of fr))))

module _ {pass : Pass} {limit : ℕ} {t fr an last out : List ℕ} {r : TypeOutcome}
    (h : HandsBack pass limit t fr an r last out) where
  abbrev kept : FileError → List ℕ
  kept e = an

  -- of a file that is not accepted the answer buffer is as it was
  pub unchanged : {x : FileError} → outcome_in r ≡ Err x → out ≡ an
  unfolding answers_after
  unchanged en =
      h.answers ∙ ap (over_file kept (answers_written pass an) t) (sym h.outcome ∙ en)

  -- of an accepted file of n frames:
  module _ {n : ℕ} (en : outcome_in r ≡ Ok n) where
    abbrev x : List ℕ
    x = take (16 * n) last

    over : {A : Type 0} (f : FileError → A) (g : List ℕ → A) → g x
        ≡ over_file f g t (read_file limit t (length fr) (Lent (length an)))
    over f g = over-part limit t fr last (Lent (length an)) n (outcome_in r) h.outcome h.frames en f g

    outputs-are : 16 * outputs_in r ≡ length (output_bytes pass x)
    unfolding output_count
    outputs-are =
        omega (
          arith,
          h.outputs ∙ sym (over (λ (e : FileError). 0) (λ (y : List ℕ). frame_count (output_bytes pass y))),
          whole-frames pass x,
        )

    answers-are : out ≡ answers_written pass an x
    unfolding answers_after
    answers-are = h.answers ∙ sym (over kept (answers_written pass an))

    -- what is handed back stands at the front of the answer buffer
    pub outputs-there : take (16 * outputs_in r) out ≡ output_bytes pass x
    outputs-there =
        ap (take (16 * outputs_in r)) answers-are
        ∙ take_at (output_bytes pass x) (drop (length (output_bytes pass x)) an) (16 * outputs_in r) (sym outputs-are)

    pub outputs-within : 16 * outputs_in r ≤ length out
    outputs-within =
        omega (
          arith,
          outputs-are,
          ap length answers-are
              ∙ length-append (output_bytes pass x) (drop (length (output_bytes pass x)) an),
        )

    -- and there was room for it
    pub outputs-fit : 16 * outputs_in r ≤ length an
    outputs-fit = omega (
      arith,
      outputs-are,
      (ready-part pass limit t fr last (length an) (outcome_in r) (h.outcome, (h.said, h.frames)) en refl).1.answers,
    )

    -- what is asked of both parts is asked of the text
    pub handed-over : {A : Type 0} (f : FileError → A) (g : List ℕ → List ℕ → A)
        → g x (take (16 * outputs_in r) out)
        ≡ over_file f (λ (y : List ℕ). g y (output_bytes pass y)) t (read_file limit t (length fr) (Lent (length an)))
    handed-over f g = ap (g x) outputs-there ∙ over f (λ (y : List ℕ). g y (output_bytes pass y))

  -- read with buffers of the largest sizes that a file asks for
  pub largest : length fr ≡ max_frame_bytes → length an ≡ max_answer_bytes → outcome_in r
      ≡ read_file limit t max_frame_bytes (Lent max_answer_bytes)
  largest ef ea = h.outcome ∙ ap (λ (m : ℕ). read_file limit t m (Lent (length an))) ef
      ∙ ap (λ (m : ℕ). read_file limit t max_frame_bytes (Lent m)) ea
