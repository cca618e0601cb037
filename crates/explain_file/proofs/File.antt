-- The lines of a text are those of its fault, or of all that is handed back. From the laws of typing a file.
use Rattle.std.specs.Prelude.{Ok, Err}
use Rattle.answers.specs.declared.FileError.{FileError}
use Prim.Native.Nat.{ℕ, ◌*◌}
use mathlib.Core.Path.{◌≡◌, sym, ap, ◌∙◌}
use mathlib.Core.List.{List}
use lib.ListN.{length, take}
use Rattle.answers.specs.Limit.{max_frame_bytes, max_answer_bytes}
use Rattle.rule_rows.specs.declared.Pass.{Pass}
use Rattle.rule_file.specs.Typed.{TypeOutcome, outcome_in, outputs_in}
use Rattle.rule_file.specs.File.{over_file}
use Rattle.rule_file.specs.Typing.{HandsBack}
use Rattle.law_file.proofs.Typed.{handed-over, largest}
use Rattle.rule_explain.specs.Explained.{fault_lines, answer_lines, file_lines, lines_of}

-- after a call of `type_file` with buffers of the largest sizes
module _ {pass : Pass} {limit : ℕ} {t fr an last out : List ℕ} {r : TypeOutcome}
    (h : HandsBack pass limit t fr an r last out) (ef : length fr ≡ max_frame_bytes)
    (ea : length an ≡ max_answer_bytes) where
  pub refused-lines : {x : FileError} → outcome_in r ≡ Err x → fault_lines x ≡ lines_of pass limit t
  unfolding lines_of
  refused-lines en = ap (over_file fault_lines (file_lines pass) t) (sym en ∙ largest h ef ea)

  pub accepted-lines : {n : ℕ} → outcome_in r ≡ Ok n
      → answer_lines (take (16 * n) last) (take (16 * outputs_in r) out) ≡ lines_of pass limit t
  unfolding lines_of
  accepted-lines en = handed-over h en fault_lines answer_lines
      ∙ ap (over_file fault_lines (file_lines pass) t) (sym h.outcome ∙ largest h ef ea)
