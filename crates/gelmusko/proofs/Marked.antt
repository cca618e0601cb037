-- What the exported functions of the cut rest on: a row's number handed in that has more than 16 bits is out of range,
-- and a table of marks that is too small changes nothing but the out-slice. From the laws of a number handed in.
use Rattle.answers.specs.declared.FileError.{FileError}
use Rattle.std.specs.Prelude.{Ok}
use Prim.Native.Nat.{ℕ, ◌≤◌, ◌<◌, min}
use mathlib.Core.Path.{◌≡◌, sym, ap, ◌∙◌}
use mathlib.Core.Bool.{Bool, cond}
use mathlib.Core.List.{List, ◌++◌}
use lib.ListN.{length, drop}
use borrow.Author.Tests.{lt-ltb, le-ltb}
use Rattle.answers.specs.Outcome.{Outcome}
use Rattle.answers.specs.Limit.{max_frames}
use Rattle.answers.specs.Numbers.{error_values}
use Rattle.text.specs.declared.AnswerRoom.TheVariants.{NotLent}
use Rattle.text.specs.Lines.{decoded}
use Rattle.text.specs.Room.{short_read}
use Rattle.frames.specs.Bytes.{frame_count}
use Rattle.rule.specs.Things.{see}
use Rattle.rule_rows.specs.declared.Pass.TheVariants as Pa
use Rattle.rule_answers.specs.Outputs.{row_answer}
use Rattle.rule_file.specs.File.{read_file, frames_after}
use Rattle.rule_file.specs.Printed.{printed, printed_after}
use Rattle.law_cut.specs.declared.PartOutcome.{PartOutcome}
use Rattle.law_cut.specs.declared.PartOutcome.TheVariants as Po
use Rattle.law_cut.specs.declared.CutText.TheVariants as Ct
use Rattle.law_cut.specs.Marks.{max_marks, no_marks, marks_of}
use Rattle.law_cut.specs.File.{of_answer, part_in, smallest_part, if_marked, part_marks, part_said, part_file}
use Rattle.law_cut.specs.File.{part_text}
use Rattle.law_cut.specs.File.{as_lines, or_number, cut_in, cut_text, cut_after}
use Rattle.law_cut.specs.Exported.{mark_bytes, part_exported, frames_marked, table_after}
use Rattle.gelmusko.proofs.Laws.{clamped-is, over-same, few, no-row}

-- no file has a row of a number from 65,535 on
part_none : (fr : List ℕ) (m : ℕ) → frame_count fr ≤ max_frames → 65535 ≤ m → part_in (record { 0 = m }) fr ≡ Po.Index
part_none fr m h l = ap (λ (b : Bool). cond b (of_answer (row_answer Pa.First (see fr) m)) Po.Index) (no-row fr m h l)

module _ (limit : ℕ) (t : List ℕ) (f : ℕ) where
  part-there : (m n : ℕ) → 65535 ≤ m → read_file limit t f NotLent ≡ Ok n
      → part_in (record { 0 = m }) (decoded t n) ≡ Po.Index
  part-there m n l e = part_none (decoded t n) m (few limit t f NotLent n e) l

  pub part-clamped : (n k : ℕ) → k ≡ min n 65535 → smallest_part limit t f (record { 0 = k })
      ≡ smallest_part limit t f (record { 0 = n })
  unfolding smallest_part
  part-clamped =
      clamped-is (λ (m : ℕ). smallest_part limit t f (record { 0 = m })) _
      (λ m l. over-same Po.NotAccepted (part_in (record { 0 = m })) (λ (x : List ℕ). Po.Index) t
      (read_file limit t f NotLent) (λ n e. part-there m n l e))

  pub marks-clamped : (n k : ℕ) → k ≡ min n 65535 → part_marks limit t f (record { 0 = k })
      ≡ part_marks limit t f (record { 0 = n })
  unfolding part_marks
  marks-clamped =
      clamped-is (λ (m : ℕ). part_marks limit t f (record { 0 = m })) _
      (λ m l. over-same (λ (e : FileError). no_marks)
      (λ (x : List ℕ). if_marked (marks_of Pa.First x m) no_marks (part_in (record { 0 = m }) x))
      (λ (x : List ℕ). no_marks) t (read_file limit t f NotLent)
      (λ n e. ap (if_marked (marks_of Pa.First (decoded t n) m) no_marks) (part-there m n l e)))

  pub cut-clamped : (o n k : ℕ) → k ≡ min n 65535 → cut_text limit t f (record { 0 = k }) o
      ≡ cut_text limit t f (record { 0 = n }) o
  unfolding cut_text
  cut-clamped o =
      clamped-is (λ (m : ℕ). cut_text limit t f (record { 0 = m }) o) _
      (λ m l. over-same Ct.NotAccepted (cut_in (record { 0 = m }) o) (λ (x : List ℕ). Ct.Index) t
      (read_file limit t f NotLent)
      (λ n e. ap (or_number (as_lines (frame_count (part_file (record { 0 = m }) (decoded t n)))
      (printed (part_text (record { 0 = m }) (decoded t n)) o))) (part-there m n l e)))

  pub lines-clamped : (out : List ℕ) (n k : ℕ) → k ≡ min n 65535 → cut_after limit t f (record { 0 = k }) out
      ≡ cut_after limit t f (record { 0 = n }) out
  unfolding cut_after
  lines-clamped out =
      clamped-is (λ (m : ℕ). cut_after limit t f (record { 0 = m }) out) _
      (λ m l. over-same (λ (e : FileError). out)
      (λ (x : List ℕ). if_marked (printed_after (part_text (record { 0 = m }) x) out) out
      (part_in (record { 0 = m }) x))
      (λ (x : List ℕ). out) t (read_file limit t f NotLent)
      (λ n e. ap (if_marked (printed_after (part_text (record { 0 = m }) (decoded t n)) out) out) (part-there m n l e)))

-- THE TABLE OF MARKS

-- too small: number 3, or the text's 1 or 2, and both buffers stay
module _ (limit : ℕ) (t fr table : List ℕ) (small : length table < max_marks) where
  pub short-said : (f n : ℕ) → error_values (short_read limit t) ≡ part_exported limit t f (record { 0 = n }) table
  unfolding part_exported
  short-said f n = sym (ap (λ (b : Bool). cond b (error_values (short_read limit t))
      (part_said (smallest_part limit t f (record { 0 = n })))) (lt-ltb (length table) max_marks small))

  pub short-frames : fr ≡ frames_marked limit t fr table
  unfolding frames_marked
  short-frames = sym (ap (λ (b : Bool). cond b fr (frames_after limit t fr NotLent))
      (lt-ltb (length table) max_marks small))

  pub short-table : (f n : ℕ) → table ≡ table_after limit t f (record { 0 = n }) table
  unfolding table_after
  short-table f n = sym (ap (λ (b : Bool). cond b table
      (mark_bytes (part_marks limit t f (record { 0 = n })) ++ drop max_marks table))
      (lt-ltb (length table) max_marks small))

-- with room: k is the number handed on for n
module _ (limit : ℕ) (t fr table : List ℕ) (room : max_marks ≤ length table) (f n k : ℕ) (ek : k ≡ min n 65535) where
  pub room-said : {o : PartOutcome} → o ≡ smallest_part limit t f (record { 0 = k })
      → part_said o ≡ part_exported limit t f (record { 0 = n }) table
  unfolding part_exported
  room-said e =
      ap part_said (e ∙ part-clamped limit t f n k ek)
      ∙ sym (ap (λ (b : Bool). cond b (error_values (short_read limit t))
      (part_said (smallest_part limit t f (record { 0 = n })))) (le-ltb (length table) max_marks room))

  pub room-frames : frames_after limit t fr NotLent ≡ frames_marked limit t fr table
  unfolding frames_marked
  room-frames = sym (ap (λ (b : Bool). cond b fr (frames_after limit t fr NotLent))
      (le-ltb (length table) max_marks room))

  pub room-table : {marks : List Bool} → marks ≡ part_marks limit t f (record { 0 = k })
      → mark_bytes marks ++ drop max_marks table ≡ table_after limit t f (record { 0 = n }) table
  unfolding table_after
  room-table e =
      ap (λ (x : List Bool). mark_bytes x ++ drop max_marks table) (e ∙ marks-clamped limit t f n k ek)
      ∙ sym (ap (λ (b : Bool). cond b table
      (mark_bytes (part_marks limit t f (record { 0 = n })) ++ drop max_marks table))
      (le-ltb (length table) max_marks room))
