-- WHICH OUTCOME: it is read off the frame that `row_type` hands back of the row. A refusal's frame, family 10, 22
-- too, is marked; a type's is sound, number 48; number 6 in place of a frame is number 6. Where nothing is marked no
-- mark is set. The lines that `cut_text` writes are the cut's, so what holds of these holds of what is in the buffer.
use Rattle.answers.specs.declared.FileError.{FileError}
use Rattle.std.specs.Prelude.{Ok, Err}
use Prim.Native.Nat.{ℕ, ◌*◌, ◌≤◌}
use native.Mathlib.Omega.{arith}
use mathlib.Core.Path.{◌≡◌, refl, sym, ap, ◌∙◌}
use mathlib.Core.Bool.{Bool, true, false, cond}
use mathlib.Core.List.{List}
use lib.Dec.{leb, eqb}
use lib.ListN.{length, take, drop}
use lib.Seq.{take_at}
use borrow.Author.Tests.{ltb-true}
use Rattle.ir.specs.declared.RowNumber.{RowNumber}
use Rattle.answers.specs.Outcome.{Outcome}
use Rattle.answers.specs.Numbers.{SaidOne, asked, instead}
use Rattle.text.specs.declared.AnswerRoom.TheVariants.{NotLent, Lent}
use Rattle.text.specs.Lines.{line_count, decoded}
use Rattle.text.proofs.RoundTrip.{length-text}
use Rattle.frames.specs.declared.Frame.{Frame}
use Rattle.frames.specs.Bytes.{byte, frame_count}
use Rattle.archive.specs.Starts.{starts_of, row_count}
use Rattle.archive.specs.Names.{is_row}
use Rattle.rule.specs.Answers.{number, value, malformed, Typed, given, refused, chosen_refusal, row, component}
use Rattle.rule.specs.Answers.{composed}
use Rattle.rule.specs.Answers.{nowhere, chosen, Result, told, newer, row_frame}
use Rattle.rule.specs.Things.{see}
use Rattle.rule_rows.specs.declared.Pass.TheVariants as Pa
use Rattle.rule_answers.specs.Outputs.{row_answer}
use Rattle.rule_file.specs.File.{over_file, read_file}
use Rattle.rule_file.specs.Typing.{row_given, row_type, row_said}
use Rattle.rule_file.specs.Printed.{printed, printed_after}
use Rattle.law_rows.proofs.Good.{Good}
use Rattle.law_file.proofs.Laws.{accepted-when}
use Rattle.law_moved.specs.Out.{moved_out}
use Rattle.law_moved.specs.Texts.{text_frames}
use Rattle.law_moved.proofs.Out.{OurAnswer, our-answer}
use Rattle.law_moved.proofs.Texts.{lines_are, not-lent}
use Rattle.law_cut.specs.declared.PartOutcome.{PartOutcome}
use Rattle.law_cut.specs.declared.PartOutcome.TheVariants as Po
use Rattle.law_cut.specs.declared.CutText.TheVariants as Ct
use Rattle.law_cut.specs.Marks.{no_marks, marks_of}
use Rattle.law_cut.specs.Cut.{rank, cut_moves}
use Rattle.law_cut.specs.File.{of_answer, part_in, smallest_part, if_marked, part_marks, part_file, part_text}
use Rattle.law_cut.specs.File.{cut_in, cut_text, cut_after}
use Rattle.law_cut.proofs.Public.{marks-named, cut-accepted, same-frame}

never : {X : Type 0} → ◌≡◌ {A = ℕ} 0 1 → X
never z = absurd (omega arith)

-- THE OUTCOME

-- by the frame handed back
abbrev pub by_said : SaidOne Frame → PartOutcome
by_said (asked x) = cond (eqb (byte x 0) 10) Po.Marked Po.Sound
by_said (instead r) = Po.Index

answer-is : (x : Result Typed) → OurAnswer x → of_answer x ≡ by_said (asked (row_frame x))
answer-is (told (given (number n))) h = refl
answer-is (told (given (value t))) h = refl
answer-is (told (given (malformed f))) h = absurd h
answer-is (told (refused e)) h = refl
answer-is (told (chosen_refusal f)) h = absurd h
answer-is (newer (row r)) h = refl
answer-is (newer (component i)) h = absurd h
answer-is (newer composed) h = absurd h
answer-is (newer nowhere) h = absurd h
answer-is (newer (chosen f)) h = absurd h

part-is : (n : RowNumber) (fr : List ℕ) → Good fr → part_in n fr ≡ by_said (row_said (row_given Pa.First n fr))
part-is n fr good = go (is_row (starts_of fr) n) refl
  where
    go : (b : Bool) → is_row (starts_of fr) n ≡ b → part_in n fr ≡ by_said (row_said (row_given Pa.First n fr))
    go true q = rw q (answer-is (row_answer Pa.First (see fr) n.0)
        (our-answer Pa.First fr good n.0 (ltb-true n.0 (row_count (starts_of fr)) q)))
    go false q = rw q

-- of a text that is accepted with an answer buffer of a bytes
pub outcome-is : (limit : ℕ) (t : List ℕ) (f a c : ℕ) (n : RowNumber) → read_file limit t f (Lent a) ≡ Ok c
    → smallest_part limit t f n ≡ by_said (row_said (row_type Pa.First limit t f a n))
unfolding smallest_part row_type
outcome-is limit t f a c n e =
    let x = (accepted-when limit t f (Lent a) c).0 e in
    rw (e, not-lent limit t f a c e)
    (part-is n (decoded t c) (record { order = x.order; fields = x.fields; index = x.index }))

-- a text that is not accepted gives its own number
pub outcome-refused : (limit : ℕ) (t : List ℕ) (f : ℕ) (n : RowNumber) (x : FileError)
    → read_file limit t f NotLent ≡ Err x → smallest_part limit t f n ≡ Po.NotAccepted x
unfolding smallest_part
outcome-refused limit t f n x e = rw e

-- THE MARKS WITH A NUMBER: none is set

unmarked : (marks : List Bool) (p : PartOutcome) → (p ≡ Po.Marked → ⊥) → if_marked marks no_marks p ≡ no_marks
unmarked marks Po.Marked h = absurd (h refl)
unmarked marks Po.Sound h = refl
unmarked marks Po.Index h = refl
unmarked marks (Po.NotAccepted o) h = refl

unmarked-over : (t : List ℕ) (n : RowNumber) (o : Outcome)
    → (over_file Po.NotAccepted (part_in n) t o ≡ Po.Marked → ⊥)
    → over_file (λ (x : FileError). no_marks)
    (λ (fr : List ℕ). if_marked (marks_of Pa.First fr n.0) no_marks (part_in n fr)) t o
    ≡ no_marks
unmarked-over t n (Ok c) h = unmarked (marks_of Pa.First (decoded t c) n.0) (part_in n (decoded t c)) h
unmarked-over t n (Err x) h = refl

pub no-mark : (limit : ℕ) (t : List ℕ) (f : ℕ) (n : RowNumber) → (smallest_part limit t f n ≡ Po.Marked → ⊥)
    → part_marks limit t f n ≡ no_marks
unfolding smallest_part part_marks
no-mark limit t f n h = unmarked-over t n (read_file limit t f NotLent) h

-- THE LINES IN THE BUFFER

-- lines were written: the row is marked, and the buffer had room for all of them
record Fits (n : RowNumber) (fr : List ℕ) (o k : ℕ) : Type 0 where
  marked : part_in n fr ≡ Po.Marked
  room : leb (length (part_text n fr)) o ≡ true
  lines : k ≡ frame_count (part_file n fr)

fits-when : (n : RowNumber) (fr : List ℕ) (o k : ℕ) → cut_in n o fr ≡ Ct.Lines k → Fits n fr o k
unfolding printed
fits-when n fr o k e = go (part_in n fr) refl (leb (length (part_text n fr)) o) refl
  where
    go : (p : PartOutcome) → part_in n fr ≡ p → (b : Bool) → leb (length (part_text n fr)) o ≡ b → Fits n fr o k
    go Po.Marked q true r = record { marked = q; room = r; lines = cc (rw (q, r) at e) }
    go Po.Marked q false r = never (cc (rw (q, r) at e))
    go Po.Sound q b r = never (cc (rw q at e))
    go Po.Index q b r = never (cc (rw q at e))
    go (Po.NotAccepted x) q b r = never (cc (rw q at e))

-- what `cut_text` wrote into a buffer, k lines: the cut's
pub record Wrote (limit : ℕ) (t : List ℕ) (f : ℕ) (n : RowNumber) (out : List ℕ) (k : ℕ) : Type 0 where
  pub marked : smallest_part limit t f n ≡ Po.Marked
  pub lines : k ≡ frame_count (part_file n (text_frames t))
  pub text : take (33 * k) (cut_after limit t f n out) ≡ part_text n (text_frames t)

front_of : (n : RowNumber) (fr out : List ℕ) (k : ℕ) → Fits n fr (length out) k
    → take (33 * k) (if_marked (printed_after (part_text n fr) out) out (part_in n fr)) ≡ part_text n fr
unfolding printed_after
front_of n fr out k x =
    rw (x.marked, x.room)
    (take_at (part_text n fr) (drop (length (part_text n fr)) out) (33 * k)
    (length-text (part_file n fr) (frame_count (part_file n fr)) ∙ ap (λ (j : ℕ). 33 * j) (sym x.lines)))

wrote-over : (limit : ℕ) (t : List ℕ) (f : ℕ) (n : RowNumber) (out : List ℕ) (k c : ℕ)
    → read_file limit t f NotLent ≡ Ok c → c ≡ line_count t → cut_in n (length out) (decoded t c) ≡ Ct.Lines k
    → Wrote limit t f n out k
unfolding smallest_part cut_after
wrote-over limit t f n out k c e q h =
    let d : decoded t c ≡ text_frames t = ap (decoded t) q in
    let x : Fits n (text_frames t) (length out) k = fits-when n (text_frames t) (length out) k (rw d at h) in
    record {
      marked = rw (e, d) x.marked;
      lines = x.lines;
      text = rw (e, d) (front_of n (text_frames t) out k x);
    }

pub wrote : (limit : ℕ) (t : List ℕ) (f : ℕ) (n : RowNumber) (out : List ℕ) (k : ℕ)
    → cut_text limit t f n (length out) ≡ Ct.Lines k → Wrote limit t f n out k
unfolding cut_text
wrote limit t f n out k e = go (read_file limit t f NotLent) refl e
  where
    go : (o : Outcome) → read_file limit t f NotLent ≡ o → over_file Ct.NotAccepted (cut_in n (length out)) t o
        ≡ Ct.Lines k
        → Wrote limit t f n out k
    go (Ok c) q h = wrote-over limit t f n out k c q (lines_are limit t f NotLent c q) h
    go (Err x) q h = never (cc)

module _ (limit : ℕ) (t : List ℕ) (f : ℕ) (n : RowNumber) (out : List ℕ) (k : ℕ)
    (e : cut_text limit t f n (length out) ≡ Ct.Lines k) where
  -- THE LINES IN THE BUFFER ARE ACCEPTED, with any frame buffer of 16 bytes a line
  pub written-accepted : (g : ℕ) → 16 * k ≤ g → read_file limit (take (33 * k) (cut_after limit t f n out)) g NotLent
      ≡ Ok k
  written-accepted g room =
      let w = wrote limit t f n out k e in
      rw w.text (cut-accepted limit t f n w.marked g (omega (arith, w.lines)) ∙ ap Ok (sym w.lines))

  -- AND THEY SHOW THE REFUSAL: `row_type` hands back of the row there the frame that it hands back of the whole text,
  -- moved; x is that frame, with any buffers that suffice
  pub written-shows : (whole answers : ℕ) (x : Frame) → row_said (row_type Pa.First limit t whole answers n) ≡ asked x
      → (g a : ℕ) → 16 * k ≤ g → 32 * k ≤ a
      → row_said
      (row_type Pa.First limit (take (33 * k) (cut_after limit t f n out)) g a
      (record { 0 = rank (part_marks limit t f n) n.0 }))
      ≡ asked (moved_out (cut_moves (part_marks limit t f n)) x)
  written-shows whole answers x h g a frames room =
      let w = wrote limit t f n out k e in
      rw w.text
      (same-frame limit t f n w.marked g a (omega (arith, w.lines)) (omega (arith, w.lines)) whole answers n x
      (marks-named limit t f n w.marked) h)
