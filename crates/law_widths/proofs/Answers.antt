-- Every value handed back has one of the four widths: an answer of ours is in range, so a value among them is a type
-- that was written; a verdict is of family 11.
-- Row by row, then byte by byte of the answer buffer.
use Rattle.answers.specs.declared.FileError.{FileError}
use Rattle.std.specs.Prelude.{Ok, Err}
use Prim.Native.Nat.{ℕ, zero, suc, ◌+◌, ◌*◌, ◌/◌, ◌≤◌, ◌<◌}
use native.Mathlib.Omega.{arith}
use mathlib.Core.Path.{◌≡◌, refl, sym, ap, ◌∙◌, subst}
use mathlib.Core.Bool.{Bool, true, false, cond}
use mathlib.Core.List.{List, [], ◌∷◌, ◌++◌, append_assoc}
use mathlib.Core.Option.{Option, none, some}
use lib.ListN.{length, drop, length-append}
use borrow.Author.Tests.{ltb-true}
use Rattle.ir.specs.declared.RowNumber.{RowNumber}
use Rattle.answers.specs.Outcome.{Outcome}
use Rattle.answers.specs.Numbers.{Refused, at, outcome_values}
use Rattle.text.specs.declared.AnswerRoom.TheVariants.{Lent}
use Rattle.text.specs.Lines.{decoded}
use Rattle.frames.specs.declared.Frame.{Frame}
use Rattle.frames.specs.Bytes.{byte, bytes_of, frame_at, frame_count}
use Rattle.frames.specs.Out.{refused_frame, one_frame}
use Rattle.archive.specs.Starts.{starts_of, row_count}
use Rattle.archive.specs.Names.{is_row}
use Rattle.rule.specs.Answers.{number, value, malformed, Typed, given, refused, chosen_refusal, row, component}
use Rattle.rule.specs.Answers.{composed}
use Rattle.rule.specs.Answers.{nowhere, chosen, Judgement, Result, told, newer, row_frame}
use Rattle.rule.specs.Things.{see}
use Rattle.rule_rows.specs.declared.Pass.{Pass}
use Rattle.law_rows.proofs.Good.{Good}
use Rattle.law_rows.proofs.Ranged.{InRange, Each}
use Rattle.law_rows.proofs.Range.{ours-in-range}
use Rattle.rule_compose.specs.Rows.{verdict_of}
use Rattle.rule_answers.specs.Outputs.{row_answer, verdict_frames, row_frames, outputs, frames_bytes, output_bytes}
use Rattle.law_answers.proofs.Bytes.{bytes-length, bytes-append, frame-after}
use Rattle.law_verdicts.specs.Numbers.{frame_of}
use Rattle.law_verdicts.proofs.Numbers.{verdict-numbers}
use Rattle.rule_file.specs.File.{over_file, read_file}
use Rattle.rule_file.specs.Typing.{answers_after, output_count, RowGiven, answer, no_row, not_accepted, row_given}
use Rattle.rule_file.specs.Typing.{row_type}
use Rattle.rule_file.specs.Typing.{row_said}
use Rattle.law_file.proofs.Laws.{accepted-when}
use Rattle.law_widths.specs.Widths.{ValueWidth}
use Rattle.law_widths.proofs.Values.{value-width}

-- a frame of another family is no value
other-family : (f : Frame) (n : ℕ) → byte f 0 ≡ n → (n ≡ 9 → ⊥) → ValueWidth f
other-family f n e h q = absurd (h (sym e ∙ q))

-- ONE ROW

-- an answer in range
in-range-width : (pass : Pass) (fr : List ℕ) (n : ℕ) (a : Result Typed) → InRange pass fr n a → ValueWidth (row_frame a)
in-range-width pass fr n (told (given (number t))) h = other-family (row_frame (told (given (number t)))) 8 refl
    (λ e. absurd (omega arith))
in-range-width pass fr n (told (given (value t))) h = λ e. value-width 9 t
in-range-width pass fr n (told (given (malformed f))) h = absurd h
in-range-width pass fr n (told (refused e)) h = other-family (row_frame (told (refused e))) 10 refl
    (λ q. absurd (omega arith))
in-range-width pass fr n (told (chosen_refusal f)) h = absurd h
in-range-width pass fr n (newer (row r)) h =
    other-family (row_frame (newer (row r))) 10 refl (λ e. absurd (omega arith))
in-range-width pass fr n (newer (component i)) h = absurd h
in-range-width pass fr n (newer composed) h = absurd h
in-range-width pass fr n (newer nowhere) h = absurd h
in-range-width pass fr n (newer (chosen f)) h = absurd h

module _ (pass : Pass) (fr : List ℕ) (good : Good fr) where
  -- the answer of row n
  pub row-width : (n : ℕ) → n < row_count (starts_of fr) → ValueWidth (row_frame (row_answer pass (see fr) n))
  row-width n h = in-range-width pass fr n (row_answer pass (see fr) n) (ours-in-range pass fr good n h)

  -- its verdict, where it has one
  verdict-width : (n : ℕ) (o : Option (Result Judgement)) → verdict_of pass (see fr) n ≡ o
      → Each ValueWidth (verdict_frames n o)
  verdict-width n none e = tt
  verdict-width n (some v) e =
      (other-family (frame_of n v) 11 (verdict-numbers pass fr n v e).laid.family (λ q. absurd (omega arith)), tt)

  joined : (l m : List Frame) → Each ValueWidth l → Each ValueWidth m → Each ValueWidth (l ++ m)
  joined [] m a b = b
  joined (x ∷ l) m a b = (a.0, joined l m a.1 b)

  -- ALL ROWS
  pub output-widths : (n : ℕ) → n ≤ row_count (starts_of fr) → Each ValueWidth (outputs pass (see fr) n)
  unfolding outputs
  output-widths zero h = tt
  output-widths (suc n) h =
      joined (outputs pass (see fr) n) (row_frames pass (see fr) n) (output-widths n (omega arith))
      (row-width n (omega arith), verdict-width n (verdict_of pass (see fr) n) refl)

-- BYTE BY BYTE

-- frame k of a list stands at place k of its bytes, with others before it and bytes after it
there : (P : Frame → Type 0) (rest : List ℕ) (m l : List Frame) → Each P l → (k : ℕ) → k < length l
    → P (frame_at (frames_bytes m ++ (frames_bytes l ++ rest)) (length m + k))
unfolding frames_bytes
there P rest m [] a k h = let g : k < 0 = h in absurd (omega arith)
there P rest m (f ∷ l) a zero h =
    let i : length m + 0 ≡ length m = omega arith in
    let s : frames_bytes m ++ ((bytes_of f ++ frames_bytes l) ++ rest) ≡ frames_bytes m
    ++ (bytes_of f ++ (frames_bytes l ++ rest)) =
    ap (λ (x : List ℕ). frames_bytes m ++ x) (append_assoc (bytes_of f) (frames_bytes l) rest) in
    rw (i, s) (subst P (sym (frame-after m f (frames_bytes l ++ rest))) a.0)
there P rest m (f ∷ l) a (suc k) h =
    let g : k < length l = (let z : suc k < suc (length l) = h in omega arith) in
    let i : length m + suc k ≡ length (m ++ (f ∷ [])) + k = omega (arith, length-append m (f ∷ [])) in
    let s : frames_bytes m ++ ((bytes_of f ++ frames_bytes l) ++ rest) ≡ frames_bytes (m ++ (f ∷ []))
    ++ (frames_bytes l ++ rest) =
    sym (ap (λ (x : List ℕ). x ++ (frames_bytes l ++ rest)) (bytes-append m (f ∷ []))
    ∙ append_assoc (frames_bytes m) (bytes_of f) (frames_bytes l ++ rest)) in
    rw (i, s) (there P rest (m ++ (f ∷ [])) l a.1 k g)

pub each-there : (P : Frame → Type 0) (l : List Frame) (rest : List ℕ) → Each P l → (k : ℕ) → k < length l
    → P (frame_at (frames_bytes l ++ rest) k)
unfolding frames_bytes
each-there P l rest a k h = let i : 0 + k ≡ k = omega arith in rw i at (there P rest [] l a k h)

-- OF A FILE
good_of : (limit : ℕ) (t : List ℕ) (f a n : ℕ) → read_file limit t f (Lent a) ≡ Ok n → Good (decoded t n)
good_of limit t f a n e =
    let q = (accepted-when limit t f (Lent a) n).0 e in record { order = q.order; fields = q.fields; index = q.index }

-- number n as a frame is no value
no_value : (r : Refused) → ValueWidth (refused_frame r)
no_value r = other-family (refused_frame r) 10 refl (λ e. absurd (omega arith))

-- what `row_type` gives, as the frame that the exported one writes; of any text, accepted or not, and any row number
pub row-type-width : (pass : Pass) (limit : ℕ) (t : List ℕ) (f a : ℕ) (m : RowNumber)
    → ValueWidth (one_frame (row_said (row_type pass limit t f a m)))
unfolding row_type
row-type-width pass limit t f a m = go (read_file limit t f (Lent a)) refl
  where
    there-or-not : (n : ℕ) → read_file limit t f (Lent a) ≡ Ok n → (b : Bool) → is_row (starts_of (decoded t n)) m
        ≡ b
        → ValueWidth (one_frame (row_said (cond b (answer (row_answer pass (see (decoded t n)) m.0)) no_row)))
    there-or-not n e true i =
        row-width pass (decoded t n) (good_of limit t f a n e) m.0
        (ltb-true m.0 (row_count (starts_of (decoded t n))) i)
    there-or-not n e false i = no_value (at 6 0)

    go : (o : Outcome) → read_file limit t f (Lent a) ≡ o
        → ValueWidth (one_frame (row_said (over_file not_accepted (row_given pass m) t o)))
    go (Ok n) e = there-or-not n e (is_row (starts_of (decoded t n)) m) refl
    go (Err x) e = no_value (outcome_values (Err x))

-- the answer buffer after `type_rows`: frame k of those handed back
pub answers-width : (pass : Pass) (limit : ℕ) (t : List ℕ) (f : ℕ) (an : List ℕ) (n : ℕ)
    → read_file limit t f (Lent (length an)) ≡ Ok n → (k : ℕ)
    → k < output_count pass limit t f (length an) → ValueWidth (frame_at (answers_after pass limit t f an) k)
unfolding answers_after output_count
answers-width pass limit t f an n e k h =
    let fr = decoded t n in
    let l = outputs pass (see fr) (row_count (starts_of fr)) in
    let c : output_count pass limit t f (length an) ≡ frame_count (output_bytes pass fr) =
    ap (over_file (λ (e : FileError). 0) (λ (x : List ℕ). frame_count (output_bytes pass x)) t) e in
    rw e
    (each-there ValueWidth l (drop (length (output_bytes pass fr)) an)
    (output-widths pass fr (good_of limit t f (length an) n e) (row_count (starts_of fr)) (omega arith)) k
    (omega (arith, c, bytes-length l)))
