-- The frames of an accepted file have the four widths alone: every frame meets check 5, which asks it of each type that
-- holds a scalar, and of each As row.
use Rattle.std.specs.Prelude.{Ok}
use Prim.Native.Nat.{ℕ}
use mathlib.Core.Path.{◌≡◌, sym, ◌∙◌}
use mathlib.Core.List.{List}
use Rattle.text.specs.declared.AnswerRoom.{AnswerRoom}
use Rattle.text.specs.Lines.{decoded}
use Rattle.frames.specs.Bytes.{frame_at}
use Rattle.frames.proofs.Families.{fit-type, fit_row}
use Rattle.archive.specs.Checks.{field_ok}
use Rattle.archive.proofs.Checked.{Holds}
use Rattle.rule_file.specs.File.{read_file}
use Rattle.law_file.proofs.Laws.{accepted-when}
use Rattle.law_widths.specs.Widths.{FileWidths}
use Rattle.law_widths.proofs.Values.{fitting-width, as-width}

-- frames that meet check 5
pub checked-widths : (fr : List ℕ) → Holds field_ok fr → FileWidths fr
checked-widths fr fields = record {
  types = λ k l e. fitting-width (frame_at fr k) (sym (fit-type (frame_at fr k) e) ∙ fields k l);
  conversions = λ k l e i. as-width (frame_at fr k) i (sym (fit_row (frame_at fr k) e) ∙ fields k l);
}

-- the frames of an accepted file
pub file-widths : (limit : ℕ) (t : List ℕ) (f : ℕ) (room : AnswerRoom) (n : ℕ) → read_file limit t f room ≡ Ok n
    → FileWidths (decoded t n)
file-widths limit t f room n e = checked-widths (decoded t n) ((accepted-when limit t f room n).0 e).fields
