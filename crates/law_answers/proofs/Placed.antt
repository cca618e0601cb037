-- The answers of the rows so far, as they stand in the answer buffer with their table of places, are the answers that
-- the rules read. An answer is read back from its frame.
use Prim.Native.Nat.{ℕ, zero, suc, ◌+◌, ◌*◌, ◌/◌, ◌≤◌, ◌<◌}
use native.Mathlib.Decide.{dec_lt}
use native.Mathlib.Omega.{arith}
use mathlib.Core.Path.{◌≡◌, refl, sym, ap, ◌∙◌}
use mathlib.Core.List.{List, [], ◌∷◌, ◌++◌, append_assoc}
use lib.ListN.{length, get_or, length-append, get_or-append, get_or-eq_default}
use lib.Seq.{get_or-append_seam, take_at}
use borrow.Author.Tests.{lt-ltb, le-ltb}
use Rattle.ir.specs.declared.RowNumber.{RowNumber}
use Rattle.answers.specs.Answer.{Answer}
use Rattle.frames.specs.declared.Frame.{Frame}
use Rattle.frames.specs.Bytes.{bytes_of, frame_at, zero_frame}
use Rattle.frames.specs.Out.{answer_frame}
use Rattle.frames.specs.ForProofs.{answer_of}
use Rattle.frames.proofs.ReadBack.{answer_back}
use Rattle.rule.specs.Answers.{Typed, Result, told}
use Rattle.rule.specs.InOrder.{absent, among}
use Rattle.rule_rows.specs.Answered.{to_result}
use Rattle.rule_rows.specs.OverBuffer.{answer_in, past_in}
use Rattle.rule_answers.specs.Outputs.{frames_bytes}
use Rattle.law_answers.proofs.Bytes.{bytes-append, frame-after}

-- a list at an index within it, cut there
pub record Cut {A : Type 0} (l : List A) (i : ℕ) (x : A) : Type 0 where
  pub front : List A
  pub back : List A
  pub is : l ≡ front ++ (x ∷ back)
  pub long : length front ≡ i

cut : {A : Type 0} (l : List A) (i : ℕ) (d : A) → i < length l → Cut l i (get_or l i d)
cut [] i d h = absurd (omega arith)
cut (x ∷ l) zero d h = record { front = []; back = l; is = refl; long = refl }
cut (x ∷ l) (suc i) d h =
    let c = cut l i d (omega arith) in
    record { front = x ∷ c.front; back = c.back; is = ap (λ (m : List _). x ∷ m) c.is; long = ap suc c.long }

-- a frame of the list, read from its bytes
pub frame-at-list : (l : List Frame) (rest : List ℕ) (i : ℕ) → i < length l → frame_at (frames_bytes l ++ rest) i
    ≡ get_or l i zero_frame
unfolding frames_bytes
frame-at-list l rest i h =
    let c = cut l i zero_frame h in
    let f = get_or l i zero_frame in
    ap (λ (m : List Frame). frame_at (frames_bytes m ++ rest) i) c.is
    ∙ ap (λ (m : List ℕ). frame_at (m ++ rest) i) (bytes-append c.front (f ∷ c.back))
    ∙ ap (λ (m : List ℕ). frame_at m i)
    (append_assoc (frames_bytes c.front) (bytes_of f ++ frames_bytes c.back) rest
    ∙ ap (λ (m : List ℕ). frames_bytes c.front ++ m) (append_assoc (bytes_of f) (frames_bytes c.back) rest))
    ∙ ap (λ (j : ℕ). frame_at (frames_bytes c.front ++ (bytes_of f ++ (frames_bytes c.back ++ rest))) j)
    (sym c.long)
    ∙ frame-after c.front f (frames_bytes c.back ++ rest)

-- row k's answer stands at its place
pub record Stands (outs : List Frame) (places : List ℕ) (rows : List (Result Typed)) (k : ℕ) : Type 0 where
  pub answer : Answer
  pub row : get_or rows k (told absent) ≡ to_result answer
  pub within : get_or places k 0 < length outs
  pub frame : get_or outs (get_or places k 0) zero_frame ≡ answer_frame answer

-- each row so far has its place
pub record Placed (outs : List Frame) (places : List ℕ) (rows : List (Result Typed)) : Type 0 where
  pub long : length places ≡ length rows
  pub each : (k : ℕ) → k < length rows → Stands outs places rows k

-- what a rule reads there are the answers
pub past_is : (outs : List Frame) (places : List ℕ) (rows : List (Result Typed)) (rest : List ℕ)
    → Placed outs places rows → (n : RowNumber)
    → past_in (frames_bytes outs ++ rest) places n ≡ among rows n
unfolding answer_in
past_is outs places rows rest p n = go (dec_lt n.0 (length places))
  where
    go : Dec (n.0 < length places) → past_in (frames_bytes outs ++ rest) places n ≡ among rows n
    go (yes h) =
        let s = p.each n.0 (rw p.long at h) in
        rw (lt-ltb n.0 (length places) h)
        (ap (λ (f : Frame). to_result (answer_of f))
        (frame-at-list outs rest (get_or places n.0 0) s.within ∙ s.frame)
        ∙ ap to_result (answer_back s.answer) ∙ sym s.row)
    go (no h) =
        let l : length places ≤ n.0 = omega arith in
        rw (le-ltb n.0 (length places) l)
        (sym (get_or-eq_default rows (told absent) {n = n.0} (omega (arith, p.long))))

-- one more row: its answer is written after the others, and its place is noted
pub placed-more : (outs : List Frame) (places : List ℕ) (rows : List (Result Typed)) (a : Answer) (after : List Frame)
    → Placed outs places rows
    → Placed (outs ++ (answer_frame a ∷ after)) (places ++ (length outs ∷ [])) (rows ++ (to_result a ∷ []))
placed-more outs places rows a after p = record {
  long = length-append places (length outs ∷ []) ∙ omega (arith, p.long, length-append rows (to_result a ∷ []));
  each = λ k h. go k (dec_lt k (length rows)) (rw (length-append rows (to_result a ∷ [])) at h);
}
  where
    go : (k : ℕ) → Dec (k < length rows) → k < length rows + 1
        → Stands (outs ++ (answer_frame a ∷ after)) (places ++ (length outs ∷ [])) (rows ++ (to_result a ∷ [])) k
    go k (yes h) g =
        let s = p.each k h in
        let e : get_or (places ++ (length outs ∷ [])) k 0 ≡ get_or places k 0 =
        get_or-append places (length outs ∷ []) 0 k (omega (arith, p.long)) in
        record {
          answer = s.answer;
          row = get_or-append rows (to_result a ∷ []) (told absent) k h ∙ s.row;
          within = omega (arith, e, s.within, length-append outs (answer_frame a ∷ after));
          frame =
              ap (λ (j : ℕ). get_or (outs ++ (answer_frame a ∷ after)) j zero_frame) e
              ∙ get_or-append outs (answer_frame a ∷ after) zero_frame (get_or places k 0) s.within ∙ s.frame;
        }
    go k (no h) g =
        let q : k ≡ length rows = omega arith in
        let r : k ≡ length places = omega (arith, p.long) in
        let e : get_or (places ++ (length outs ∷ [])) k 0
        ≡ length outs = rw r (get_or-append_seam places (length outs) [] 0) in
        record {
          answer = a;
          row = rw q (get_or-append_seam rows (to_result a) [] (told absent));
          within = omega (arith, e, length-append outs (answer_frame a ∷ after));
          frame =
              ap (λ (j : ℕ). get_or (outs ++ (answer_frame a ∷ after)) j zero_frame) e
              ∙ get_or-append_seam outs (answer_frame a) after zero_frame;
        }
