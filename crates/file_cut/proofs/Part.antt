-- A row's part, from the answers in the buffer: each stands at its place, so the rows read by them are those of the
-- definition. And an accepted text is ready to be answered in a buffer for the answers of any file.
use Rattle.answers.specs.declared.Unresolved.TheVariants as Un
use Rattle.std.specs.Prelude.{ℕ, Option, Some, None, Ok, Err}
use Prim.Native.Nat.{ℕ, ◌*◌, ◌<◌}
use native.Mathlib.Omega.{arith}
use mathlib.Core.Path.{◌≡◌, refl, sym, ap, ◌∙◌}
use mathlib.Core.Bool.{Bool, true, false, cond}
use mathlib.Core.List.{List, ◌++◌}
use lib.ListN.{length, take, drop, replicate, length-replicate}
use borrow.Author.Tests.{ltb-true, lt-ltb}
use Rattle.ir.specs.declared.RowNumber.{RowNumber}
use Rattle.answers.specs.Answer.{Answer}
use Rattle.answers.specs.Outcome.{Outcome}
use Rattle.answers.specs.Limit.{max_frames, max_answer_bytes}
use Rattle.text.specs.declared.AnswerRoom.TheVariants.{NotLent}
use Rattle.text.proofs.Laws.{count_small}
use Rattle.frames.specs.Bytes.{frame_count}
use Rattle.archive.specs.declared.Starts.{Starts}
use Rattle.archive.specs.Starts.{starts_of, row_count}
use Rattle.archive.specs.Names.{is_row}
use Rattle.rule.specs.Answers.{Typed, given, refused, chosen_refusal, Result, told, newer}
use Rattle.rule.specs.Things.{see}
use Rattle.rule_rows.specs.declared.Pass.TheVariants as Pa
use Rattle.rule_rows.specs.Answered.{to_result}
use Rattle.rule_rows.specs.OverBuffer.{answer_in, past_in}
use Rattle.rule_answers.specs.Outputs.{row_answer}
use Rattle.rule_answers.specs.ForProofs.{places_of}
use Rattle.rule_file.specs.File.{read_file, frames_after}
use Rattle.rule_file.specs.Typing.{answers_written, answer}
use Rattle.rule_file.specs.Printed.{printed}
use Rattle.rule_file.specs.ForProofs.{Ready}
use Rattle.law_file.proofs.Laws.{accepted-when}
use Rattle.law_file.proofs.Over.{read, part-is}
use Rattle.law_file.proofs.Ready.{ready_of}
use Rattle.law_file.proofs.Row.{good_of, few-rows}
use Rattle.law_file.proofs.One.{one_answer}
use Rattle.law_moved.proofs.Files.{file-count}
use Rattle.law_cut.specs.declared.PartOutcome.TheVariants as Po
use Rattle.law_cut.specs.declared.CutText.TheVariants as Ct
use Rattle.law_cut.specs.Marks.{no_marks, marks_by, marks_of}
use Rattle.law_cut.specs.Cut.{cut_frames, cut_file}
use Rattle.law_cut.specs.File.{of_answer, part_in, if_marked, as_lines}
use Rattle.law_moved.proofs.Texts.{with-answers}
use Rattle.file_answers.specs.Rows.{has_room}
use Rattle.file_answers.proofs.Rows.{Filled, all-filled}
use Rattle.row_marks.specs.Reads.{reads_in}
use Rattle.row_marks.proofs.Marked.{marks-are}
use Rattle.file_cut.specs.declared.RowOutcome.{RowOutcome}
use Rattle.file_cut.specs.declared.RowOutcome.TheVariants as Ro
use Rattle.file_cut.specs.declared.RowPart.{RowPart}
use Rattle.file_cut.specs.ForProofs.{answered_part, typed_part, part_over, outcome_of, Pushed, file_text}

-- READY TO BE ANSWERED
pub ready-most : (limit : ℕ) (t fr last : List ℕ) (r : Outcome) {S : Type 0}
    → (r ≡ read_file limit t (length fr) NotLent) × (S × (last ≡ frames_after limit t fr NotLent))
    → {n : ℕ} {x : List ℕ} → r ≡ Ok n → x ≡ take (16 * n) last
    → Ready Pa.First x max_answer_bytes
ready-most limit t fr last r e {n} en ex =
    let accepted = read limit t fr last NotLent n r e.0 e.1.1 en in
    let few = count_small ((accepted-when limit t (length fr) NotLent n).0 accepted).readable in
    rw (ex, part-is limit t fr last NotLent n r e.0 e.1.1 en)
    (ready_of Pa.First limit t (length fr) max_answer_bytes n
    (with-answers limit t (length fr) n max_answer_bytes accepted (omega (arith, few))))

-- all rows answered in a new buffer, and a new table of places
abbrev pub answers₀ : List ℕ
answers₀ = replicate max_answer_bytes 0

abbrev pub places₀ : List ℕ
places₀ = replicate max_frames 0

pub ready-new : (fr : List ℕ) → Ready Pa.First fr max_answer_bytes → Ready Pa.First fr (length answers₀)
ready-new fr ready = rw (length-replicate {A = ℕ} max_answer_bytes 0) ready

pub all-answered : (fr : List ℕ) (r : ℕ) (last out : List ℕ) (s : Starts) → Ready Pa.First fr max_answer_bytes
    → s ≡ starts_of fr
    → Filled Pa.First fr answers₀ places₀ r last out
    (has_room Pa.First fr (length answers₀) (length places₀))
    → (last ≡ answers_written Pa.First answers₀ fr)
    × (out ≡ places_of Pa.First fr (row_count s) ++ drop (row_count s) places₀)
all-answered fr r last out s ready es f =
    (all-filled Pa.First fr answers₀ places₀ r last out s (ready-new fr ready).1
    (rw (length-replicate {A = ℕ} max_frames 0) (few-rows fr ready.1.few)) es f).1

-- THE PART, after all rows are answered: `last` is the answer buffer, and p the table of places
answered-typed : (a : Answer) (marks : List Bool) → answered_part a marks ≡ typed_part (to_result a) marks
answered-typed (Ok t) marks = refl
answered-typed (Err (Un.Refused e)) marks = refl
answered-typed (Err (Un.Newer r)) marks = refl

module _ (fr an last p rest : List ℕ) (s : Starts) (ready : Ready Pa.First fr (length an))
    (es : s ≡ starts_of fr) (el : last ≡ answers_written Pa.First an fr)
    (ep : p ≡ places_of Pa.First fr (row_count s) ++ rest) (n : ℕ) (en : n ≡ row_count s) where
  past-there : (r : RowNumber) → is_row s r ≡ true → past_in last (take n p) r ≡ row_answer Pa.First (see fr) r.0
  past-there r h =
      let e = (one_answer Pa.First fr an last p rest s ready es el ep r h n (answer_in last (take n p) r) en refl).0 in
      let q : is_row (starts_of fr) r ≡ true = rw es at h in
      let z : answer (to_result (answer_in last (take n p) r)) ≡ answer (row_answer Pa.First (see fr) r.0) = rw q at
      e in
      cc

  pub read-there : (row : RowNumber) → is_row s row ≡ true
      → answered_part (answer_in last (take n p) row) (marks_by (reads_in fr s last (take n p)) row.0)
      ≡ part_over row fr
  read-there row h =
      let below : row.0 < row_count (starts_of fr) = rw es at (ltb-true row.0 (row_count s) h) in
      let q : is_row (starts_of fr) row ≡ true = rw es at h in
      let good = good_of Pa.First fr (length an) ready in
      let marks = marks-are fr good last (take n p) row.0 below
      (omega (arith, below, few-rows fr ready.1.few))
      (λ r l. past-there r (lt-ltb r.0 (row_count s) (omega (arith, below, l, ap row_count es)))) in
      rw q
      (answered-typed (answer_in last (take n p) row) _
      ∙ ap (λ (x : Result Typed). typed_part x (marks_by (reads_in fr s last (take n p)) row.0)) (past-there row h)
      ∙ ap (λ (z : Starts). typed_part (row_answer Pa.First (see fr) row.0)
      (marks_by (reads_in fr z last (take n p)) row.0)) es
      ∙ ap (typed_part (row_answer Pa.First (see fr) row.0)) marks)

-- AS IT IS HANDED BACK
typed-outcome : (x : Result Typed) (marks : List Bool) → outcome_of (typed_part x marks).outcome ≡ of_answer x
typed-outcome (told (given a)) marks = refl
typed-outcome (told (refused e)) marks = refl
typed-outcome (told (chosen_refusal f)) marks = refl
typed-outcome (newer p) marks = refl

typed-marks : (x : Result Typed) (marks : List Bool)
    → (typed_part x marks).marks ≡ if_marked marks no_marks (of_answer x)
typed-marks (told (given a)) marks = refl
typed-marks (told (refused e)) marks = refl
typed-marks (told (chosen_refusal f)) marks = refl
typed-marks (newer p) marks = refl

module _ (row : RowNumber) (fr : List ℕ) where
  pub part-outcome : outcome_of (part_over row fr).outcome ≡ part_in row fr
  part-outcome = go (is_row (starts_of fr) row)
    where
      go : (b : Bool)
          → outcome_of (cond b (typed_part (row_answer Pa.First (see fr) row.0) (marks_of Pa.First fr row.0))
          (record { outcome = Ro.Index; marks = no_marks })).outcome
          ≡ cond b (of_answer (row_answer Pa.First (see fr) row.0)) Po.Index
      go true = typed-outcome (row_answer Pa.First (see fr) row.0) (marks_of Pa.First fr row.0)
      go false = refl

  pub part-marks : (part_over row fr).marks ≡ if_marked (marks_of Pa.First fr row.0) no_marks (part_in row fr)
  part-marks = go (is_row (starts_of fr) row)
    where
      go : (b : Bool)
          → (cond b (typed_part (row_answer Pa.First (see fr) row.0) (marks_of Pa.First fr row.0))
          (record { outcome = Ro.Index; marks = no_marks })).marks
          ≡ if_marked (marks_of Pa.First fr row.0) no_marks
          (cond b (of_answer (row_answer Pa.First (see fr) row.0)) Po.Index)
      go true = typed-marks (row_answer Pa.First (see fr) row.0) (marks_of Pa.First fr row.0)
      go false = refl

  -- what the code found: r
  module _ (r : RowPart) (er : r ≡ part_over row fr) {o : RowOutcome} (eo : o ≡ r.outcome) where
    is-part : part_in row fr ≡ outcome_of o
    is-part = sym part-outcome ∙ ap (λ (x : RowPart). outcome_of x.outcome) (sym er) ∙ ap outcome_of (sym eo)

    pub cut-marked : o ≡ Ro.Marked → (r.marks ≡ marks_of Pa.First fr row.0) × (part_in row fr ≡ Po.Marked)
    cut-marked e =
        let q : part_in row fr ≡ Po.Marked = is-part ∙ ap outcome_of e in
        (ap (λ (x : RowPart). x.marks) er ∙ part-marks ∙ ap (if_marked (marks_of Pa.First fr row.0) no_marks) q, q)

    pub cut-sound : o ≡ Ro.Sound → part_in row fr ≡ Po.Sound
    cut-sound e = is-part ∙ ap outcome_of e

    pub cut-index : o ≡ Ro.Index → part_in row fr ≡ Po.Index
    cut-index e = is-part ∙ ap outcome_of e

-- THE LINES: x is the cut, of n frames, and p what writing its lines gave
module _ (marks : List Bool) (fr : List ℕ) {n : ℕ} {b x : List ℕ} (pushed : Pushed (cut_frames marks fr) n b)
    (ex : x ≡ take (16 * n) b) where
  pub cut-is : x ≡ cut_file marks fr
  cut-is = ex ∙ pushed.front

  pub cut-count : n ≡ frame_count (cut_file marks fr)
  cut-count = pushed.count ∙ sym (file-count (cut_frames marks fr))

  pub lines-told : (o : ℕ) {p : Option ℕ} {k : ℕ} → p ≡ printed (file_text x) o → p ≡ Some k
      → Ct.Lines n ≡ as_lines (frame_count (cut_file marks fr)) (printed (file_text (cut_file marks fr)) o)
  lines-told o e q =
      ap Ct.Lines cut-count
      ∙ sym (ap (as_lines (frame_count (cut_file marks fr)))
      (ap (λ (y : List ℕ). printed (file_text y) o) (sym cut-is) ∙ sym e ∙ q))

  pub lines-short : (o : ℕ) {p : Option ℕ} → p ≡ printed (file_text x) o → p ≡ None
      → Ct.Short ≡ as_lines (frame_count (cut_file marks fr)) (printed (file_text (cut_file marks fr)) o)
  lines-short o e q =
      sym (ap (as_lines (frame_count (cut_file marks fr)))
      (ap (λ (y : List ℕ). printed (file_text y) o) (sym cut-is) ∙ sym e ∙ q))
