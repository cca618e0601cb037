-- The claim of our readers, from the claim for any rules (rule/proofs/Later.antt): the bytes of an outcome are 22
-- exactly where the outcome is newer, since our answers and verdicts are in range (law_rows, law_verdicts); and
-- what is handed back of an accepted text, in the answer buffer or for one row, are the bytes of these outcomes.
use Rattle.std.specs.Prelude.{Ok}
use Prim.Native.Nat.{ℕ, suc, ◌+◌, ◌*◌, ◌≤◌, ◌<◌}
use native.Mathlib.Omega.{arith}
use mathlib.Core.Path.{◌≡◌, refl, sym, ap, ◌∙◌}
use mathlib.Core.List.{List, [], ◌∷◌, ◌++◌, append_assoc}
use mathlib.Core.Option.{Option, none, some}
use lib.ListN.{length, drop, length-append, length-replicate}
use lib.Seq.{get_or-append_seam}
use Rattle.answers.specs.Numbers.{sameness_said}
use Rattle.text.specs.declared.AnswerRoom.{AnswerRoom}
use Rattle.text.specs.declared.AnswerRoom.TheVariants.{NotLent, Lent}
use Rattle.text.specs.Lines.{line_count, decoded}
use Rattle.text.specs.Reading.{answer_bytes}
use Rattle.text.proofs.Laws.{RoomFor}
use Rattle.frames.specs.declared.Frame.{Frame}
use Rattle.frames.specs.Bytes.{bytes_of, frame_at, zero_frame}
use Rattle.archive.specs.declared.Starts.{Starts}
use Rattle.archive.specs.Starts.{starts_of, row_count}
use Rattle.rule.specs.Answers.{number, value, malformed, Typed, given, refused, chosen_refusal, Judgement, Compared}
use Rattle.rule.specs.Answers.{alike, unlike, field, index, Place, row, component, composed, nowhere, chosen, Result}
use Rattle.rule.specs.Answers.{told, newer, type_answer_of, row_answer_of, chosen_judgement, row_frame, verdict_frame}
use Rattle.rule.specs.Things.{Sight, see}
use Rattle.rule.specs.Rule.{Rule, Step, met}
use Rattle.rule.specs.InOrder.{ours, reading}
use Rattle.rule.specs.ForProofs.{Right}
use Rattle.rule.proofs.Later.{claim}
use Rattle.rule_types.specs.Comparison.{handed, same_in, same_type}
use Rattle.rule_types.proofs.Seen.{never}
use Rattle.rule_rows.specs.declared.Pass.{Pass}
use Rattle.rule_rows.specs.Typed.{typing}
use Rattle.rule_compose.specs.Rows.{verdict_rule, judged}
use Rattle.law_rows.proofs.Good.{Good}
use Rattle.law_rows.proofs.Ranged.{TypedInRange, InRange, refusal-not-newer}
use Rattle.law_rows.proofs.Range.{row-there, ours-in-range}
use Rattle.rule_answers.specs.Outputs.{row_answer, verdict_frames, row_frames, outputs, frames_bytes, output_bytes}
use Rattle.law_answers.proofs.Placed.{frame-at-list}
use Rattle.law_verdicts.specs.Numbers.{OurVerdict, it_passes, no_composed, other_count, other_part, broken_part}
use Rattle.law_verdicts.specs.Numbers.{newer_composed, newer_part}
use Rattle.law_verdicts.specs.Each.{composes_below}
use Rattle.law_verdicts.proofs.Numbers.{verdict-numbers}
use Rattle.law_verdicts.proofs.Each.{outputs-below}
use Rattle.rule_file.specs.File.{read_file}
use Rattle.rule_file.specs.Types.{same_types}
use Rattle.rule_file.specs.Typing.{answers_written, answers_after, row_type, compose_verdict}
use Rattle.law_file.proofs.Laws.{Accepts, accepted-when}
use Rattle.law_file.proofs.Ready.{ready_of}
use Rattle.law_file.proofs.Row.{good_of}
use Rattle.law_file.proofs.One.{outputs-go-on}
use Rattle.law_later_readers.specs.Reader.{Reader, row_bytes, verdict_bytes, said_bytes, compared_bytes, SaysNewer}
use Rattle.law_later_readers.specs.Reader.{Choice, theirs, Kept, Keeps, IsAccepted, Claim}
use Rattle.law_later_readers.specs.Ours.{Suffice, frames_for, answers_for, stands_at, by_buffer, row_given_bytes}
use Rattle.law_later_readers.specs.Ours.{verdict_given_bytes, by_row}

-- ONE OUTCOME: right as an outcome, and its bytes say newer exactly where it is newer
module _ {A : Type 0} (sight : Sight) (steps : List Step) (family : ℕ) (bytes : Result A → List ℕ) where
  unmet : (a : A) (l : Result A) → Right sight steps (told a) l → met sight steps ≡ none
  unmet a l r = go (met sight steps) refl
    where
      go : (o : Option Place) → met sight steps ≡ o → o ≡ none
      go none q = refl
      go (some p) q = never (cc ((r.exactly p).1 q))

  kept : (o l : Result A) → Right sight steps o l → ((a : A) → o ≡ told a → SaysNewer family (bytes o) → ⊥)
      → ((p : Place) → o ≡ newer p → SaysNewer family (bytes o))
      → Kept family (λ p. bytes (newer p)) (met sight steps) (bytes o) (bytes l)
  kept (told a) l r other says = record {
    equal = λ e. ap bytes (r.same e);
    exactly = (λ w. absurd (other a refl w), λ w. absurd (w (unmet a l r)));
    place = λ p e. never (cc ((r.exactly p).1 e));
  }
  kept (newer p) l r other says = record {
    equal = λ e. ap bytes (r.same e);
    exactly = (λ w e. never (cc ((r.exactly p).0 refl)), λ w. says p refl);
    place = λ q e. ap bytes ((r.exactly q).1 e);
  }

-- A ROW'S ANSWER in range
told-row : (pass : Pass) (s : Starts) (t : Typed) → TypedInRange pass s t → SaysNewer 10 (row_bytes (told t)) → ⊥
told-row pass s (given (number n)) h w = omega (arith, w.family-is)
told-row pass s (given (value t)) h w = omega (arith, w.family-is)
told-row pass s (given (malformed f)) h w = h
told-row pass s (refused e) h w = refusal-not-newer pass e h w.number_is
told-row pass s (chosen_refusal f) h w = h

row_other : (pass : Pass) (fr : List ℕ) (m : ℕ) (o : Result Typed) → InRange pass fr m o → (t : Typed) → o ≡ told t
    → SaysNewer 10 (row_bytes o) → ⊥
row_other pass fr m (told u) h t e w = told-row pass (starts_of fr) u h w
row_other pass fr m (newer p) h t e w = never (cc)

row-says : (pass : Pass) (fr : List ℕ) (m : ℕ) (o : Result Typed) → InRange pass fr m o → (p : Place) → o ≡ newer p
    → SaysNewer 10 (row_bytes o)
row-says pass fr m (told u) h p e = never (cc)
row-says pass fr m (newer (row r)) h p e = record { family-is = refl; number_is = refl }
row-says pass fr m (newer (component i)) h p e = absurd h
row-says pass fr m (newer composed) h p e = absurd h
row-says pass fr m (newer nowhere) h p e = absurd h
row-says pass fr m (newer (chosen f)) h p e = absurd h

-- A VERDICT of ours on row m
verdict-other : (m k : ℕ) (o : Result Judgement) → OurVerdict k o → (j : Judgement) → o ≡ told j
    → SaysNewer 11 (verdict_bytes m o) → ⊥
verdict-other m k o it_passes j e w = omega (arith, w.number_is)
verdict-other m k o no_composed j e w = omega (arith, w.number_is)
verdict-other m k o (other_count x g d) j e w = omega (arith, w.number_is)
verdict-other m k o (other_part i h) j e w = omega (arith, w.number_is)
verdict-other m k o (broken_part i h) j e w = omega (arith, w.number_is)
verdict-other m k o newer_composed j e w = never (cc)
verdict-other m k o (newer_part i h) j e w = never (cc)

verdict-says : (m k : ℕ) (o : Result Judgement) → OurVerdict k o → (p : Place) → o ≡ newer p
    → SaysNewer 11 (verdict_bytes m o)
verdict-says m k o it_passes p e = never (cc)
verdict-says m k o no_composed p e = never (cc)
verdict-says m k o (other_count x g d) p e = never (cc)
verdict-says m k o (other_part i h) p e = never (cc)
verdict-says m k o (broken_part i h) p e = never (cc)
verdict-says m k o newer_composed p e = record { family-is = refl; number_is = refl }
verdict-says m k o (newer_part i h) p e = record { family-is = refl; number_is = refl }

-- A COMPARISON
compared-other : (o : Result Compared) (c : Compared) → o ≡ told c → SaysNewer 10 (compared_bytes o) → ⊥
compared-other (told alike) c e w = omega (arith, w.family-is)
compared-other (told unlike) c e w = omega (arith, w.family-is)
compared-other (told field) c e w = omega (arith, w.number_is)
compared-other (told index) c e w = omega (arith, w.number_is)
compared-other (newer p) c e w = never (cc)

compared-says : (o : Result Compared) (p : Place) → o ≡ newer p → SaysNewer 10 (compared_bytes o)
compared-says (told c) p e = never (cc)
compared-says (newer q) p e = record { family-is = refl; number_is = refl }

-- A READER THAT GIVES THE BYTES OF OUR OUTCOMES over a text whose frames these are
record GivesOurs (pass : Pass) (r : Reader) (t fr : List ℕ) : Type 0 where
  rows : (m : ℕ) → m < row_count (starts_of fr) → r.row t m ≡ row_bytes (row_answer pass (see fr) m)
  verdicts : (m : ℕ) → m < row_count (starts_of fr) → (rule : Rule Judgement) → verdict_rule (see fr) m ≡ some rule
      → r.verdict t m ≡ verdict_bytes m (ours (see fr) (typing pass) m rule)
  same : (a b : Frame) → r.same t a b ≡ compared_bytes (same_type fr a b)

module _ (pass : Pass) (r : Reader) (t fr : List ℕ) (good : Good fr) (is : GivesOurs pass r t fr)
    (choice : Choice) where
  right : (m : ℕ) {A : Type 0} (c : Result A) (rule : Rule A)
      → Right (see fr) (reading (see fr) (typing pass) m rule) (ours (see fr) (typing pass) m rule)
      (theirs pass fr choice m c rule)
  right m c rule = claim (see fr) (typing pass) (λ k. row_answer_of (choice.rows k)) m c rule

  keeps : Keeps pass r t fr choice
  unfolding same_type same_in
  keeps = record {
    rows = λ m h.
        let o = row_answer pass (see fr) m in
        let i = ours-in-range pass fr good m h in
        rw (is.rows m h)
        (kept (see fr) _ 10 row_bytes o _ (right m (row_answer_of (choice.rows m)) (typing pass m))
        (row_other pass fr m o i) (row-says pass fr m o i));
    verdicts = λ m h rule e.
        let o = ours (see fr) (typing pass) m rule in
        let v = (verdict-numbers pass fr m o (ap (judged pass (see fr) m) e)).is in
        rw (is.verdicts m h rule e)
        (kept (see fr) _ 11 (verdict_bytes m) o _ (right m (chosen_judgement (choice.verdicts m)) rule)
        (verdict-other m _ o v) (verdict-says m _ o v));
    same = λ a b.
        let rule = handed (type_answer_of a) (type_answer_of b) in
        let o = ours (see fr) (typing pass) 0 rule in
        rw (is.same a b) (kept (see fr) _ 10 compared_bytes o _ (right 0 (choice.same a b) rule) (compared-other o)
        (compared-says o));
  }

-- THE ANSWER BUFFER: a row's answer stands after all that is handed back of the rows before it, and a compose's verdict
-- after its answer
at-seam : (front : List Frame) (x : Frame) (back : List Frame) (rest : List ℕ) (i : ℕ) → i ≡ length front
    → frame_at (frames_bytes (front ++ (x ∷ back)) ++ rest) i ≡ x
at-seam front x back rest i e =
    rw e
    (frame-at-list (front ++ (x ∷ back)) rest (length front) (omega (arith, length-append front (x ∷ back)))
    ∙ get_or-append_seam front x back zero_frame)

module _ (pass : Pass) (fr : List ℕ) (good : Good fr) (rest : List ℕ) (m : ℕ) (h : m < row_count (starts_of fr)) where
  answer-stands : frame_at (output_bytes pass fr ++ rest) (m + composes_below fr m)
      ≡ row_frame (row_answer pass (see fr) m)
  unfolding outputs
  answer-stands =
      let g = outputs-go-on pass (see fr) (suc m) (row_count (starts_of fr)) h in
      let front = outputs pass (see fr) m in
      let e = g.is ∙ append_assoc front (row_frames pass (see fr) m) g.more in
      ap (λ (l : List Frame). frame_at (frames_bytes l ++ rest) (m + composes_below fr m)) e
      ∙ at-seam front _ _ rest (m + composes_below fr m) (sym (outputs-below pass fr good m (omega arith)))

  verdict-stands : (rule : Rule Judgement) → verdict_rule (see fr) m ≡ some rule
      → frame_at (output_bytes pass fr ++ rest) (m + composes_below fr m + 1) ≡ verdict_frame (record {
        0 =
            m;
      }) (ours (see fr) (typing pass) m rule)
  unfolding outputs
  verdict-stands rule q =
      let g = outputs-go-on pass (see fr) (suc m) (row_count (starts_of fr)) h in
      let first : List Frame = outputs pass (see fr) m in
      let a : Frame = row_frame (row_answer pass (see fr) m) in
      let v : Frame = verdict_frame (record { 0 = m }) (ours (see fr) (typing pass) m rule) in
      let e : outputs pass (see fr) (row_count (starts_of fr)) ≡ (first ++ (a ∷ [])) ++ (v ∷ g.more) =
      g.is ∙ append_assoc first (row_frames pass (see fr) m) g.more
      ∙ ap (λ (o : Option (Rule Judgement)). first ++ (a ∷ (verdict_frames m (judged pass (see fr) m o) ++ g.more)))
      q
      ∙ sym (append_assoc first (a ∷ []) (v ∷ g.more)) in
      ap (λ (l : List Frame). frame_at (frames_bytes l ++ rest) (m + composes_below fr m + 1)) e
      ∙ at-seam (first ++ (a ∷ [])) v g.more rest (m + composes_below fr m + 1)
      (omega (arith, outputs-below pass fr good m (omega arith), length-append first (a ∷ [])))

-- AN ACCEPTED TEXT, with any buffers that suffice
module _ (pass : Pass) (limit : ℕ) (t : List ℕ) (n f : ℕ) (an : List ℕ) (accepted : IsAccepted limit t n)
    (for-frames : 16 * line_count t ≤ f) (for-answers : answer_bytes t ≤ length an) where
  abbrev fr : List ℕ
  fr = decoded t n

  accepts : Accepts limit t (16 * line_count t) (Lent (answer_bytes t)) n
  accepts = (accepted-when limit t (16 * line_count t) (Lent (answer_bytes t)) n).0 accepted

  read-with : (room : AnswerRoom) → RoomFor room (answer_bytes t) → read_file limit t f room ≡ Ok n
  read-with room w =
      let k = accepts in
      let r = k.readable in
      (accepted-when limit t f room n).1
      (record {
        readable = record { within = r.within; whole = r.whole; count = r.count; frames = omega arith; answers = w };
        order = k.order;
        fields = k.fields;
        index = k.index;
      })

  read-lent : read_file limit t f (Lent (length an)) ≡ Ok n
  read-lent = read-with (Lent (length an)) for-answers

  good-text : Good fr
  good-text = good_of pass fr (length an) (ready_of pass limit t f (length an) n read-lent)

  stands-at : (m : ℕ) → stands_at t m ≡ m + composes_below fr m
  stands-at m = ap (λ (k : ℕ). m + composes_below (decoded t k) m) (sym accepts.readable.count)

  same-given : (a b : Frame) → said_bytes (sameness_said (same_types limit t f a b)) ≡ compared_bytes (same_type fr a b)
  unfolding same_types
  same-given a b = rw (read-with NotLent tt)

  buffer-is : answers_after pass limit t f an ≡ answers_written pass an fr
  unfolding answers_after
  buffer-is = rw read-lent

  row-given : (m : ℕ) → m < row_count (starts_of fr)
      → row_given_bytes (row_type pass limit t f (length an) (record { 0 = m }))
      ≡ row_bytes (row_answer pass (see fr) m)
  unfolding row_type
  row-given m h = rw (read-lent, row-there fr m h)

  verdict-given : (m : ℕ) → m < row_count (starts_of fr) → (rule : Rule Judgement) → verdict_rule (see fr) m ≡ some rule
      → verdict_given_bytes m (compose_verdict pass limit t f (length an) (record {
        0 =
            m;
      })) ≡ verdict_bytes m (ours (see fr) (typing pass) m rule)
  unfolding compose_verdict
  verdict-given m h rule e = rw (read-lent, row-there fr m h, e)

-- THE CLAIM OF OUR READERS

-- there are buffers that suffice
pub just_enough : Suffice frames_for answers_for
just_enough =
    record {
      for-frames = λ t. omega (arith, length-replicate {A = ℕ} (16 * line_count t) 0);
      for-answers = λ t.
          omega (arith, length-replicate {A = ℕ} (answer_bytes t) 0);
    }

module _ (pass : Pass) (limit : ℕ) (frames answers : List ℕ → List ℕ) (enough : Suffice frames answers) where
  pub type-rows-keeps : Claim pass limit (by_buffer pass limit frames answers)
  type-rows-keeps t n accepted =
      let f = length (frames t) in
      let hf = enough.for-frames t in
      let ha = enough.for-answers t in
      let fr = decoded t n in
      let rest = drop (length (output_bytes pass fr)) (answers t) in
      let good = good-text pass limit t n f (answers t) accepted hf ha in
      let b = buffer-is pass limit t n f (answers t) accepted hf ha in
      let k = stands-at pass limit t n f (answers t) accepted hf ha in
      keeps pass (by_buffer pass limit frames answers) t fr good
      (record {
        rows = λ m h. rw (b, k m) (ap bytes_of (answer-stands pass fr good rest m h));
        verdicts = λ m h rule e. rw (b, k m) (ap bytes_of (verdict-stands pass fr good rest m h rule e));
        same = same-given pass limit t n f (answers t) accepted hf ha;
      })

  pub row-type-keeps : Claim pass limit (by_row pass limit frames answers)
  row-type-keeps t n accepted =
      let f = length (frames t) in
      let hf = enough.for-frames t in
      let ha = enough.for-answers t in
      keeps pass (by_row pass limit frames answers) t (decoded t n)
      (good-text pass limit t n f (answers t) accepted hf ha)
      (record {
        rows = row-given pass limit t n f (answers t) accepted hf ha;
        verdicts = verdict-given pass limit t n f (answers t) accepted hf ha;
        same = same-given pass limit t n f (answers t) accepted hf ha;
      })
