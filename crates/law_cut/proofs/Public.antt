-- OF THE PUBLIC FUNCTIONS, over any text, limit and buffers: where the smallest part of a row is marked, the lines of
-- the cut are accepted, and the frame that `row_type` gives of the row there is the one that it gives in the whole
-- file, with its numbers moved. A marked text was accepted, so its frames pass the checks, and the laws of frames hold.
use Rattle.answers.specs.declared.FileError.{FileError}
use Rattle.std.specs.Prelude.{Ok, Err}
use Prim.Native.Nat.{ℕ, ◌*◌, ◌≤◌, ◌<◌}
use native.Mathlib.Omega.{arith}
use mathlib.Core.Path.{◌≡◌, refl, sym, ap, ◌∙◌, subst}
use mathlib.Core.Bool.{Bool, true, false}
use mathlib.Core.List.{List}
use mathlib.Core.Logic.{◌⊎◌, ◌↔◌}
use borrow.Author.Tests.{ltb-true, lt-ltb}
use Rattle.ir.specs.declared.RowNumber.{RowNumber}
use Rattle.answers.specs.Outcome.{Outcome}
use Rattle.answers.specs.Numbers.{asked}
use Rattle.text.specs.declared.AnswerRoom.TheVariants.{NotLent, Lent}
use Rattle.text.specs.Lines.{line_count, decoded}
use Rattle.text.proofs.RoundTrip.{decoded-text}
use Rattle.frames.specs.declared.Frame.{Frame}
use Rattle.frames.specs.Bytes.{frame_count}
use Rattle.archive.specs.Starts.{starts_of, row_count}
use Rattle.archive.specs.Names.{is_row}
use Rattle.rule.specs.Answers.{row_frame}
use Rattle.rule.specs.Things.{see}
use Rattle.rule_rows.specs.declared.Pass.TheVariants as Pa
use Rattle.rule_answers.specs.Outputs.{row_answer}
use Rattle.rule_file.specs.File.{over_file, read_file}
use Rattle.rule_file.specs.Typing.{answer, not_accepted, row_given, row_type, row_said}
use Rattle.law_answers.proofs.Bytes.{bytes-length}
use Rattle.law_moved.specs.Moves.{typed_to, result_to}
use Rattle.law_moved.specs.Out.{moved_out}
use Rattle.law_moved.specs.Texts.{text_frames}
use Rattle.law_moved.proofs.Files.{file-count}
use Rattle.law_moved.proofs.Out.{row_out}
use Rattle.law_moved.proofs.Texts.{Accepting, lines_are, accepting, with-answers}
use Rattle.law_cut.specs.declared.PartOutcome.TheVariants as Po
use Rattle.law_cut.specs.Marks.{Follows, no_marks, marks_of, is_marked}
use Rattle.law_cut.specs.Smallest.{Least, ReadBy}
use Rattle.law_cut.specs.Names.{ResultNames}
use Rattle.law_cut.specs.Cut.{rank, cut_moves, cut_frames}
use Rattle.law_cut.specs.File.{part_in, smallest_part, if_marked, part_marks, part_file, part_text}
use Rattle.law_cut.proofs.Follows.{marked-when, marked_by, named-marked, marked-le}
use Rattle.law_cut.proofs.Smallest.{smallest}
use Rattle.law_cut.proofs.Frames.{rank_rises}
use Rattle.law_cut.proofs.Refused.{row-rank, rows-count, cut-answers}
use Rattle.law_cut.proofs.Names.{refusal-marked}
use Rattle.law_cut.proofs.Text.{cut-bytes, part-read}

never : {X : Type 0} → ◌≡◌ {A = ℕ} 0 1 → X
never z = absurd (omega arith)

-- MARKED: the text was accepted, and has the row

-- how many frames an outcome of marks was given over
record Given (n : RowNumber) (t : List ℕ) (o : Outcome) : Type 0 where
  frames : ℕ
  accepted : o ≡ Ok frames
  marked : part_in n (decoded t frames) ≡ Po.Marked

given-when : (n : RowNumber) (t : List ℕ) (o : Outcome) → over_file Po.NotAccepted (part_in n) t o ≡ Po.Marked
    → Given n t o
given-when n t (Ok c) e = record { frames = c; accepted = refl; marked = e }
given-when n t (Err x) e = never (cc)

there-when : (n : RowNumber) (fr : List ℕ) → part_in n fr ≡ Po.Marked → n.0 < row_count (starts_of fr)
there-when n fr e = ltb-true n.0 (row_count (starts_of fr)) (go (is_row (starts_of fr) n) refl)
  where
    go : (b : Bool) → is_row (starts_of fr) n ≡ b → is_row (starts_of fr) n ≡ true
    go true q = q
    go false q = never (cc (rw q at e))

-- a frame that `row_type` hands back of a text is that of the row's answer over the text's frames
given-said : (fr : List ℕ) (k : RowNumber) (x : Frame) → row_said (row_given Pa.First k fr) ≡ asked x
    → row_frame (row_answer Pa.First (see fr) k.0) ≡ x
given-said fr k x e = go (is_row (starts_of fr) k) refl
  where
    go : (b : Bool) → is_row (starts_of fr) k ≡ b → row_frame (row_answer Pa.First (see fr) k.0) ≡ x
    go true q = cc (rw q at e)
    go false q = never (cc (rw q at e))

said-over : (t : List ℕ) (k : RowNumber) (x : Frame) (o : Outcome)
    → row_said (over_file not_accepted (row_given Pa.First k) t o) ≡ asked x
    → ((c : ℕ) → o ≡ Ok c → c ≡ line_count t) → row_frame (row_answer Pa.First (see (text_frames t)) k.0) ≡ x
said-over t k x (Ok c) e h =
    subst (λ (j : ℕ). row_frame (row_answer Pa.First (see (decoded t j)) k.0) ≡ x) (h c refl)
    (given-said (decoded t c) k x e)
said-over t k x (Err y) e h = never (cc)

frame-of : (limit : ℕ) (t : List ℕ) (f a : ℕ) (k : RowNumber) (x : Frame)
    → row_said (row_type Pa.First limit t f a k) ≡ asked x
    → row_frame (row_answer Pa.First (see (text_frames t)) k.0) ≡ x
unfolding row_type
frame-of limit t f a k x e =
    said-over t k x (read_file limit t f (Lent a)) e (λ c q. lines_are limit t f (Lent a) c q)

-- WHERE `smallest_part` MARKS
module _ (limit : ℕ) (t : List ℕ) (f : ℕ) (n : RowNumber) (marked : smallest_part limit t f n ≡ Po.Marked) where
  abbrev fr : List ℕ
  fr = text_frames t

  of-text : Given n t (read_file limit t f NotLent)
  unfolding smallest_part
  of-text = given-when n t (read_file limit t f NotLent) marked

  lines : of-text.frames ≡ line_count t
  lines = lines_are limit t f NotLent of-text.frames of-text.accepted

  -- the text is accepted
  pub text-read : read_file limit t f NotLent ≡ Ok (line_count t)
  text-read = of-text.accepted ∙ ap Ok lines

  -- the row is refused, or newer
  pub row-marked : part_in n (text_frames t) ≡ Po.Marked
  row-marked = subst (λ (k : ℕ). part_in n (decoded t k) ≡ Po.Marked) lines of-text.marked

  file : Accepting limit fr
  file = accepting limit t f NotLent (line_count t) text-read

  there : n.0 < row_count (starts_of fr)
  there = there-when n fr row-marked

  abbrev marks : List Bool
  marks = marks_of Pa.First fr n.0

  -- the marks are those of the text's frames
  pub marks-of : part_marks limit t f n ≡ marks_of Pa.First (text_frames t) n.0
  unfolding part_marks
  marks-of =
      ap (over_file (λ (e : FileError). no_marks)
      (λ (x : List ℕ). if_marked (marks_of Pa.First x n.0) no_marks (part_in n x)) t) text-read
      ∙ ap (if_marked marks no_marks) row-marked

  -- THE MARKS: a row is marked exactly where the reading of the named row follows it
  pub marks-follow : (k : ℕ) → (is_marked (part_marks limit t f n) k ≡ true) ↔ Follows Pa.First (text_frames t) n.0 k
  marks-follow k = rw marks-of (marked-when Pa.First fr file.good n.0 there file.few k)

  -- each but the named row's is on a row that a marked row reads
  pub marks-by : (k : ℕ) → is_marked (part_marks limit t f n) k ≡ true
      → (k ≡ n.0) ⊎ ReadBy Pa.First (text_frames t) (part_marks limit t f n) k
  marks-by = rw marks-of (marked_by Pa.First fr file.good n.0 there file.few)

  -- the named row is marked
  pub marks-named : is_marked (part_marks limit t f n) n.0 ≡ true
  marks-named = rw marks-of (named-marked Pa.First fr file.good n.0 there file.few)

  -- every row that its refusal names, or 22, is marked
  pub marks-refusal : ResultNames (λ j. is_marked (part_marks limit t f n) j ≡ true)
      (row_answer Pa.First (see (text_frames t)) n.0)
  marks-refusal = rw marks-of (refusal-marked Pa.First fr file.good n.0 there file.few)

  -- and no set of rows that holds the named row, and with each row what it reads, is smaller
  pub marks-least : Least Pa.First (text_frames t) n.0 (part_marks limit t f n)
  marks-least = rw marks-of (smallest Pa.First fr file.good n.0 there file.few)

  -- THE LINES OF THE CUT are accepted, with any frame buffer of 16 bytes a frame
  pub cut-accepted : (g : ℕ) → 16 * frame_count (part_file n (text_frames t)) ≤ g
      → read_file limit (part_text n (text_frames t)) g NotLent ≡ Ok (frame_count (part_file n (text_frames t)))
  cut-accepted g room = part-read Pa.First fr file.good file.bytes n.0 there file.few limit g file.within
      room

  -- they are read back as the cut
  cut-decoded : decoded (part_text n fr) (frame_count (part_file n fr)) ≡ part_file n fr
  cut-decoded =
      let l = cut_frames marks fr in
      decoded-text (part_file n fr) (frame_count (part_file n fr)) (cut-bytes marks fr file.good file.bytes)
      (bytes-length l ∙ ap (λ (k : ℕ). 16 * k) (sym (file-count l)))

  module _ (g a : ℕ) (frames : 16 * frame_count (part_file n (text_frames t)) ≤ g)
      (answers : 32 * frame_count (part_file n (text_frames t)) ≤ a) where
    -- what is asked of a row of the cut's lines is asked of its frames
    cut-row : (r : RowNumber) → row_type Pa.First limit (part_text n fr) g a r ≡ row_given Pa.First r (part_file n fr)
    unfolding row_type
    cut-row r =
        ap (over_file not_accepted (row_given Pa.First r) (part_text n fr))
        (with-answers limit (part_text n fr) g (frame_count (part_file n fr)) a (cut-accepted g frames) answers)
        ∙ ap (row_given Pa.First r) cut-decoded

    -- EVERY MARKED ROW: `row_type` of the cut's lines answers it as in the whole text, with numbers moved
    cut-type-at : (k : ℕ) → is_marked marks k ≡ true
        → row_type Pa.First limit (part_text n fr) g a (record { 0 = rank marks k })
        ≡ answer (result_to (cut_moves marks) (typed_to (cut_moves marks)) (row_answer Pa.First (see fr) k))
    cut-type-at k h =
        let l = marked-le Pa.First fr file.good n.0 there file.few k h in
        let below : k < row_count (starts_of fr) = omega (arith, there) in
        let in_cut : rank marks k < row_count (starts_of (part_file n fr)) =
        rw (rows-count marks fr file.good) (rank_rises marks k (row_count (starts_of fr)) below h) in
        cut-row (record { 0 = rank marks k })
        ∙ rw (lt-ltb (rank marks k) (row_count (starts_of (part_file n fr))) in_cut)
        (ap answer (ap (row_answer Pa.First (see (part_file n fr))) (sym (row-rank marks fr file.good k h))
        ∙ cut-answers Pa.First fr file.good n.0 there file.few k h below))

    pub cut-type : (k : ℕ) → is_marked (part_marks limit t f n) k ≡ true
        → row_type Pa.First limit (part_text n (text_frames t)) g a (record { 0 = rank (part_marks limit t f n) k })
        ≡ answer
        (result_to (cut_moves (part_marks limit t f n)) (typed_to (cut_moves (part_marks limit t f n)))
        (row_answer Pa.First (see (text_frames t)) k))
    cut-type = rw marks-of cut-type-at

    -- as frames: the answer's frame is the whole text's, moved
    pub cut-said : (k : ℕ) → is_marked (part_marks limit t f n) k ≡ true
        → row_said (row_type Pa.First limit (part_text n (text_frames t)) g a (record {
          0 = rank (part_marks limit t f n)
              k;
        }))
        ≡ asked (moved_out (cut_moves (part_marks limit t f n))
        (row_frame (row_answer Pa.First (see (text_frames t)) k)))
    cut-said k h =
        let l = marked-le Pa.First fr file.good n.0 there file.few k (rw marks-of at h) in
        ap row_said (cut-type k h)
        ∙ ap asked (row_out (cut_moves (part_marks limit t f n)) Pa.First fr file.good k (omega (arith, there)))

    -- THE SAME REFUSAL, as `row_type` hands it back of the whole text and of the cut's lines
    pub same-frame : (whole answers : ℕ) (k : RowNumber) (x : Frame) → is_marked (part_marks limit t f n) k.0 ≡ true
        → row_said (row_type Pa.First limit t whole answers k) ≡ asked x
        → row_said
        (row_type Pa.First limit (part_text n (text_frames t)) g a (record { 0 = rank (part_marks limit t f n) k.0 }))
        ≡ asked (moved_out (cut_moves (part_marks limit t f n)) x)
    same-frame whole answers k x h e =
        cut-said k.0 h
        ∙ ap (λ (y : Frame). asked (moved_out (cut_moves (part_marks limit t f n)) y))
        (frame-of limit t whole answers k x e)
