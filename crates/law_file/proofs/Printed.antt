-- What the typing program prints: the lines of the frames handed back; and lines in a lent buffer, all of them or none.
use Rattle.answers.specs.declared.FileError.{FileError}
use Rattle.std.specs.Prelude.{ℕ, Option, Some, None, Ok, Err}
use Prim.Native.Nat.{ℕ, ◌*◌, ◌/◌, ◌≤◌, ◌<◌, min}
use native.Mathlib.Omega.{arith}
use mathlib.Core.Path.{◌≡◌, refl, sym, ap, ◌∙◌}
use mathlib.Core.Bool.{Bool, true, false, cond}
use mathlib.Core.List.{List, ◌++◌}
use lib.Dec.{leb}
use lib.ListN.{length, take, drop, length-append}
use borrow.Author.Tests.{lt-ltb, le-leb, lt-leb}
use Rattle.scan.proofs.Fill.{length-build}
use Rattle.answers.specs.Outcome.{Outcome}
use Rattle.answers.specs.Limit.{max_frames, max_frame_bytes, max_answer_bytes, max_line_bytes}
use Rattle.text.specs.declared.AnswerRoom.TheVariants.{Lent}
use Rattle.text.specs.Lines.{decoded, char_of, text_of}
use Rattle.frames.specs.declared.Frame.{Frame}
use Rattle.frames.specs.Bytes.{bytes_of, frame_count, put_frame}
use Rattle.frames.specs.Out.{outcome_frame}
use Rattle.archive.specs.Starts.{starts_of, row_count}
use Rattle.rule.specs.Things.{see}
use Rattle.rule_rows.specs.declared.Pass.{Pass}
use Rattle.rule_answers.specs.Outputs.{outputs, output_bytes}
use Rattle.law_answers.proofs.Bytes.{bytes-length}
use Rattle.rule_file.specs.Typed.{TypeOutcome, outcome_in, outputs_in}
use Rattle.rule_file.specs.File.{over_file, read_file}
use Rattle.rule_file.specs.Typing.{HandsBack, error_text, output_text, typed_text}
use Rattle.rule_file.specs.Printed.{printed, printed_after}
use Rattle.law_file.proofs.Row.{two-a-row, few-rows}
use Rattle.law_file.proofs.Ready.{ready_of}
use Rattle.law_file.proofs.Typed.{unchanged, handed-over, largest}

-- a frame put at the front of a buffer that has room
front-is : (an : List ℕ) (f : Frame) → 16 ≤ length an → take 16 (put_frame an 0 f) ≡ bytes_of f
unfolding put_frame
front-is an f h = rw (lt-ltb 0 (frame_count an) (omega (arith, h)))

-- after a call of `type_file` with buffers of the largest sizes
module _ {pass : Pass} {limit : ℕ} {t fr an last out : List ℕ} {r : TypeOutcome}
    (h : HandsBack pass limit t fr an r last out) (ef : length fr ≡ max_frame_bytes)
    (ea : length an ≡ max_answer_bytes) where
  -- one that is refused: `put` is the answer buffer with the number's frame at its front
  module _ (put : List ℕ) {x : FileError} (en : outcome_in r ≡ Err x)
      (e : put ≡ put_frame out 0 (outcome_frame (Err x))) where
    number_is : take 16 put ≡ bytes_of (outcome_frame (Err x))
    number_is = ap (take 16) e ∙ front-is out (outcome_frame (Err x)) (omega (arith, ap length (unchanged h en)))

    pub number-long : length (take 16 put) ≡ 16
    number-long = ap length number_is

    pub refused-lines : typed_text pass limit t ≡ text_of (take 16 put) (frame_count (take 16 put))
    unfolding typed_text
    refused-lines =
        ap (over_file error_text (output_text pass) t) (sym (largest h ef ea) ∙ en)
        ∙ ap (λ (y : List ℕ). text_of y (frame_count y)) (sym number_is)

  -- one that is accepted: all that is handed back
  pub accepted-lines : {n : ℕ} → outcome_in r ≡ Ok n
      → typed_text pass limit t ≡ text_of (take (16 * outputs_in r) out) (frame_count (take (16 * outputs_in r) out))
  unfolding typed_text
  accepted-lines en =
      ap (over_file error_text (output_text pass) t) (sym (largest h ef ea) ∙ h.outcome)
      ∙ sym (handed-over h en error_text (λ (x y : List ℕ). text_of y (frame_count y)))

-- ALL OF IT FITS into `max_line_bytes`: a file has at most `max_frames` rows, and at most two frames are handed back of
-- each
pub few-outputs : (pass : Pass) (limit : ℕ) (t : List ℕ) (f a n : ℕ) → read_file limit t f (Lent a) ≡ Ok n
    → frame_count (output_bytes pass (decoded t n)) ≤ 2 * max_frames
few-outputs pass limit t f a n e =
    let fr = decoded t n in
    let all = row_count (starts_of fr) in
    omega (
      arith,
      bytes-length (outputs pass (see fr) all),
      two-a-row pass (see fr) all,
      few-rows fr (ready_of pass limit t f a n e).1.few,
    )

pub lines_long : (b : List ℕ) (n : ℕ) → length (text_of b n) ≡ 33 * n
lines_long b n = length-build (char_of b) (33 * n)

pub text-fits : (pass : Pass) (limit : ℕ) (t : List ℕ) → length (typed_text pass limit t) ≤ max_line_bytes
unfolding typed_text
text-fits pass limit t = go (read_file limit t max_frame_bytes (Lent max_answer_bytes)) refl
  where
    go : (o : Outcome) → read_file limit t max_frame_bytes (Lent max_answer_bytes) ≡ o
        → length (over_file error_text (output_text pass) t o) ≤ max_line_bytes
    go (Ok n) e =
        let fr = decoded t n in
        omega (
          arith,
          lines_long (output_bytes pass fr) (frame_count (output_bytes pass fr)),
          few-outputs pass limit t max_frame_bytes max_answer_bytes n e,
        )
    go (Err x) e = omega (arith, lines_long (bytes_of (outcome_frame (Err x))) 1)

-- LINES IN A LENT BUFFER

pub not-printed : (l o : List ℕ) → length o < length l → (None ≡ printed l (length o)) × (o ≡ printed_after l o)
unfolding printed printed_after
not-printed l o h =
    let e = lt-leb (length l) (length o) h in (
      sym (ap (λ (b : Bool). cond b (Some (length l)) None) e),
      sym (ap (λ (b : Bool). cond b (l ++ drop (length l) o) o) e),
    )

pub all-printed : (l o last : List ℕ) (n : ℕ) → n ≡ length l → n ≤ length o → last ≡ l ++ drop n o
    → (Some n ≡ printed l (length o)) × (last ≡ printed_after l o)
unfolding printed printed_after
all-printed l o last n en h el =
    let e = le-leb (length l) (length o) (omega (arith, en)) in (
      ap Some en ∙ sym (ap (λ (b : Bool). cond b (Some (length l)) None) e),
      el ∙ ap (λ (k : ℕ). l ++ drop k o) en ∙ sym (ap (λ (b : Bool). cond b (l ++ drop (length l) o) o) e),
    )

-- what was written lies within the buffer
pub bytes-within : (l o last : List ℕ) (r : Option ℕ) (n : ℕ) → r ≡ printed l (length o) → last ≡ printed_after l o → r
    ≡ Some n → n ≤ length last
unfolding printed printed_after
bytes-within l o last r n er el en = go (leb (length l) (length o)) (sym en ∙ er) el
  where
    go : (b : Bool) → Some n ≡ cond b (Some (length l)) None → last ≡ cond b (l ++ drop (length l) o) o
        → n ≤ length last
    go true e f = let q : n ≡ length l = cc in omega (arith, ap length f ∙ length-append l (drop (length l) o))
    go false e f = let z : ◌≡◌ {A = ℕ} 0 1 = cc in absurd (omega arith)

-- the lines of some frames, written where there is room
module _ (b o : List ℕ) (n : ℕ) (en : n ≡ 33 * (length b / 16)) where
  long : n ≡ length (text_of b (frame_count b))
  long = en ∙ sym (lines_long b (frame_count b))

  pub lines-short : length o < n → (None ≡ printed (text_of b (frame_count b)) (length o))
      × (o ≡ printed_after (text_of b (frame_count b)) o)
  lines-short h = not-printed (text_of b (frame_count b)) o (omega (arith, long))

  pub lines-all : (last : List ℕ) (r : ℕ) → n ≤ length o → r ≡ min (length b / 16) (length o / 33) → last ≡ text_of b r
      ++ drop (33 * r) o
      → (Some n ≡ printed (text_of b (frame_count b)) (length o))
      × (last ≡ printed_after (text_of b (frame_count b)) o)
  lines-all last r h er el =
      let e : r ≡ frame_count b = omega (arith, er, en) in
      all-printed (text_of b (frame_count b)) o last n long h
      (el ∙ ap (λ (k : ℕ). text_of b k ++ drop (33 * k) o) e
      ∙ ap (λ (k : ℕ). text_of b (frame_count b) ++ drop k o) (sym en))
