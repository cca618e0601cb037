-- A file within two limits (document 02, request 7): the part, its marks and its lines are given alike at either. From
-- `over-alike`.
use Rattle.answers.specs.declared.FileError.{FileError}
use Prim.Native.Nat.{ℕ, ◌*◌, ◌≤◌}
use mathlib.Core.Path.{◌≡◌}
use mathlib.Core.List.{List}
use lib.ListN.{length}
use Rattle.ir.specs.declared.RowNumber.{RowNumber}
use Rattle.answers.specs.Outcome.{Outcome}
use Rattle.text.specs.declared.AnswerRoom.TheVariants.{NotLent}
use Rattle.text.specs.Reading.{most_frames}
use Rattle.text.specs.Room.{short_read}
use Rattle.text.proofs.Laws.{alike-within}
use Rattle.rule_rows.specs.declared.Pass.TheVariants as Pa
use Rattle.rule_file.specs.Printed.{printed_after}
use Rattle.law_file.proofs.Alike.{over-alike}
use Rattle.law_file.proofs.Laws.{buffer-alike}
use Rattle.law_cut.specs.declared.PartOutcome.TheVariants as Po
use Rattle.law_cut.specs.declared.CutText.TheVariants as Ct
use Rattle.law_cut.specs.Marks.{no_marks, marks_of}
use Rattle.law_cut.specs.File.{part_in, if_marked, part_text, smallest_part, part_marks, cut_in, cut_text, cut_after}
use Rattle.law_cut.specs.Exported.{part_exported, frames_marked, table_after}

module _ (limit other : ℕ) (t : List ℕ) (a : length t ≤ 33 * most_frames limit) (b : length t ≤ 33 * most_frames other)
    (f : ℕ) (n : RowNumber) where
  pub part-alike : smallest_part limit t f n ≡ smallest_part other t f n
  unfolding smallest_part
  part-alike = over-alike limit other t a b Po.NotAccepted (part_in n) f NotLent

  pub marks-alike : part_marks limit t f n ≡ part_marks other t f n
  unfolding part_marks
  marks-alike =
      over-alike limit other t a b (λ (e : FileError). no_marks)
      (λ (fr : List ℕ). if_marked (marks_of Pa.First fr n.0) no_marks (part_in n fr)) f NotLent

  pub cut-alike : (o : ℕ) → cut_text limit t f n o ≡ cut_text other t f n o
  unfolding cut_text
  cut-alike o = over-alike limit other t a b Ct.NotAccepted (cut_in n o) f NotLent

  pub lines-alike : (out : List ℕ) → cut_after limit t f n out ≡ cut_after other t f n out
  unfolding cut_after
  lines-alike out =
      over-alike limit other t a b (λ (e : FileError). out)
      (λ (fr : List ℕ). if_marked (printed_after (part_text n fr) out) out (part_in n fr)) f NotLent

  -- as they are exported
  pub exported-alike : (table : List ℕ) → part_exported limit t f n table ≡ part_exported other t f n table
  unfolding part_exported short_read
  exported-alike table = rw (alike-within limit other t 0 NotLent a b, part-alike)

  pub frames-alike : (fr table : List ℕ) → frames_marked limit t fr table ≡ frames_marked other t fr table
  unfolding frames_marked
  frames-alike fr table = rw (buffer-alike limit other t a b NotLent fr)

  pub table-alike : (table : List ℕ) → table_after limit t f n table ≡ table_after other t f n table
  unfolding table_after
  table-alike table = rw marks-alike
