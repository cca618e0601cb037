-- One row of a file that is typed in order: its answer, and its verdict where it is a compose, are written after what
-- is handed back of the rows before it. From the laws of the answer buffer (crate rule_answers).
use Rattle.std.specs.Prelude.{Option as CodeOption, Some, Ok, Err}
use Rattle.ir.specs.declared.Expression.{Expression}
use Prim.Native.Nat.{ℕ, zero, suc, ◌+◌, ◌*◌, ◌-◌, ◌≤◌, ◌<◌}
use native.Mathlib.Decide.{dec_le}
use mathlib.Core.Bool.{true, false}
use lib.Dec.{eqb}
use borrow.Author.Tests.{eqb-true, eqb-false}
use native.Mathlib.Omega.{arith}
use mathlib.Core.Path.{◌≡◌, refl, sym, ap, ◌∙◌}
use mathlib.Core.List.{List, [], ◌∷◌, ◌++◌, append_assoc, append-nil}
use mathlib.Core.Option.{Option, none, some}
use native.Mathlib.Numerals.{add-one}
use lib.ListN.{length, take, drop, length-append, length-take, length-drop, take-append-drop}
use lib.Seq.{drop-drop, take_at, drop_at}
use Rattle.ir.specs.declared.RowNumber.{RowNumber}
use Rattle.ir.specs.declared.Expression.TheVariants as Ex
use Rattle.ir.specs.Numbers.{row_kind_of}
use Rattle.answers.specs.Asked.{Verdict}
use Rattle.answers.specs.declared.ComposeError.TheVariants as Co
use Rattle.answers.specs.Limit.{max_frames}
use Rattle.frames.specs.declared.Frame.{Frame}
use Rattle.frames.specs.Bytes.{byte, half, word, frame_at, frame_count, put_frame}
use Rattle.frames.specs.Forms.{row_as, row_of}
use Rattle.frames.specs.Out as Out
use Rattle.archive.specs.declared.Starts.{Starts}
use Rattle.archive.specs.Starts.{starts_of, row_count}
use Rattle.archive.specs.Access.{row_in}
use Rattle.archive.proofs.Owners.{starts-small}
use Rattle.archive.proofs.Ranks.{begins}
use Rattle.rule.specs.Answers.{Typed, Judgement, Result, newer, row_frame, verdict_frame}
use Rattle.rule.specs.Things.{Sight, see_row, see_in, see}
use Rattle.rule.specs.Rule.{Rule, run}
use Rattle.rule.specs.InOrder.{ours}
use Rattle.rule_rows.specs.declared.Pass.{Pass}
use Rattle.rule_rows.specs.Typed.{typed, typing}
use Rattle.rule_rows.specs.OverBuffer.{past_in, ruled}
use Rattle.rule_compose.specs.Rows.{of_shown, verdict_rule, judged, verdict_of}
use Rattle.rule_compose.specs.Judged.{to_judged}
use Rattle.rule_rows.specs.OverBuffer.{judged_by}
use Rattle.rule_compose.specs.ForProofs.{compose_rule}
use Rattle.law_rows.proofs.Good.{Good, good-when}
use Rattle.law_rows.proofs.Range.{row-there}
use Rattle.rule_answers.specs.Outputs.{row_answer, verdict_frames, row_frames, outputs, frames_bytes}
use Rattle.rule_answers.specs.ForProofs.{places_of, Held, AllHeld}
use Rattle.law_answers.proofs.Bytes.{bytes-length, bytes-append, put-after}
use Rattle.law_answers.proofs.Buffer.{run-buffer}
use Rattle.law_answers.proofs.Room.{row-compose, row_is}
use Rattle.rule_file.specs.ForProofs.{Room, Ready, Turn, Written}

-- the code's verdicts are written as the definitions have them
pub verdict-framed : (r : RowNumber) (v : Verdict) → Out.verdict_frame r v ≡ verdict_frame r (to_judged v)
verdict-framed r (Ok u) = refl
verdict-framed r (Err Co.ComposedType) = refl
verdict-framed r (Err (Co.ComponentCount e g)) = refl
verdict-framed r (Err (Co.ComponentType i)) = refl
verdict-framed r (Err (Co.ComponentRefused i)) = refl
verdict-framed r (Err Co.NewerComposed) = refl
verdict-framed r (Err (Co.NewerComponent i)) = refl

-- what is handed back grows
pub grows : (pass : Pass) (sight : Sight) (m n : ℕ) → m ≤ n
    → length (outputs pass sight m) ≤ length (outputs pass sight n)
unfolding outputs
grows pass sight m zero h = let e : m ≡ 0 = omega arith in rw e (omega arith)
grows pass sight m (suc n) h = go (dec_le m n) (grows pass sight m n)
  where
    go : Dec (m ≤ n) → (m ≤ n → length (outputs pass sight m) ≤ length (outputs pass sight n))
        → length (outputs pass sight m) ≤ length (outputs pass sight n ++ row_frames pass sight n)
    go (yes l) ih = omega (arith, ih l, length-append (outputs pass sight n) (row_frames pass sight n))
    go (no l) ih = let e : m ≡ suc n = omega arith in rw e (omega arith)

-- at most two frames a row
pub two-a-row : (pass : Pass) (sight : Sight) (m : ℕ) → length (outputs pass sight m) ≤ 2 * m
unfolding outputs
two-a-row pass sight zero = omega arith
two-a-row pass sight (suc m) =
    omega (
      arith,
      two-a-row pass sight m,
      go (verdict_of pass sight m),
      length-append (outputs pass sight m) (row_frames pass sight m),
    )
  where
    go : (v : Option (Result Judgement)) → length (verdict_frames m v) ≤ 1
    go none = omega arith
    go (some j) = omega arith

pub good_of : (pass : Pass) (fr : List ℕ) (a : ℕ) → Ready pass fr a → Good fr
good_of pass fr a ready = (good-when fr ready.1.few).0 ready.0

module _ (fr : List ℕ) (few : frame_count fr ≤ max_frames) where
  pub few-rows : row_count (starts_of fr) ≤ max_frames
  few-rows = omega (arith, (starts-small fr max_frames few).1)

  -- rows begin within the file
  pub row_small : (s : Starts) → s ≡ starts_of fr → s.rows ≤ max_frames
  unfolding starts_of
  row_small s es = omega (arith, ap (λ (z : Starts). z.rows) es, (begins fr max_frames).within)

pub room_for : (pass : Pass) (fr : List ℕ) (a : ℕ) → Room pass fr a → (m : ℕ) → m ≤ row_count (starts_of fr)
    → 16 * length (outputs pass (see fr) m) ≤ a
room_for pass fr a room m h =
    omega (
      arith,
      grows pass (see fr) m (row_count (starts_of fr)) h,
      bytes-length (outputs pass (see fr) (row_count (starts_of fr))),
      room.answers,
    )

-- a row of byte 5 is a compose, and no other has a verdict
compose-row : (f : Frame) → byte f 1 ≡ 5 → row_of f
    ≡ Some (Ex.Compose (record { 0 = half f 2 }) (half f 4) (record { 0 = word f 12 }))
unfolding row_of
compose-row f e = ap (λ (x : ℕ). row_as (row_kind_of x) f) e

module _ (fr : List ℕ) (m : ℕ) (here : m < row_count (starts_of fr)) where
  abbrev frame : Frame
  frame = frame_at fr ((starts_of fr).rows + m)

  pub compose-rule : byte frame 1 ≡ 5
      → verdict_rule (see fr) m ≡ some (compose_rule fr (starts_of fr) frame)
  compose-rule e =
      ap (λ (x : CodeOption Expression). of_shown (see_row fr (starts_of fr) x))
      (row_is fr (record { 0 = m }) (row-there fr m here) ∙ compose-row frame e)

  pub no-rule : (byte frame 1 ≡ 5 → ⊥) → verdict_rule (see fr) m ≡ none
  no-rule h = go (verdict_rule (see fr) m) refl
    where
      go : (o : Option (Rule Judgement)) → verdict_rule (see fr) m ≡ o → verdict_rule (see fr) m ≡ none
      go none q = q
      go (some r) q =
          absurd
          (h (row-compose fr (row_in fr (starts_of fr) (record { 0 = m })) r frame
          (row_is fr (record { 0 = m }) (row-there fr m here)) q))

-- a frame put after those of a list joins them, over a buffer b as it was
put_next : (l : List Frame) (f : Frame) (an b : List ℕ) → an ≡ frames_bytes l ++ drop (16 * length l) b
    → 16 * length l + 16 ≤ length b
    → put_frame an (length l) f ≡ frames_bytes (l ++ (f ∷ [])) ++ drop (16 * length (l ++ (f ∷ []))) b
put_next l f an b e h =
    let n : 16 * length (l ++ (f ∷ [])) ≡ 16 * length l + 16 = omega (arith, length-append l (f ∷ [])) in
    ap (λ (x : List ℕ). put_frame x (length l) f) e
    ∙ put-after l f (drop (16 * length l) b) (omega (arith, length-drop (16 * length l) b))
    ∙ ap (λ (x : List ℕ). frames_bytes (l ++ (f ∷ [])) ++ x)
    (drop-drop 16 (16 * length l) b ∙ ap (λ (k : ℕ). drop k b) (sym n))

-- and the frames before it stay
pub before : (l : List Frame) (f : Frame) (rest : List ℕ) → take (16 * length l) (frames_bytes (l ++ (f ∷ [])) ++ rest)
    ≡ frames_bytes l
before l f rest =
    ap (λ (x : List ℕ). take (16 * length l) (x ++ rest)) (bytes-append l (f ∷ []))
    ∙ ap (take (16 * length l)) (append_assoc (frames_bytes l) (frames_bytes (f ∷ [])) rest)
    ∙ take_at (frames_bytes l) (frames_bytes (f ∷ []) ++ rest) (16 * length l) (bytes-length l)

-- ONE ROW, m, over the buffer as it is before it: the frames handed back so far, and the rest
module _ (pass : Pass) (fr an : List ℕ) (m : ℕ) (room : Room pass fr (length an)) (held : AllHeld pass fr m)
    (here : m < row_count (starts_of fr))
    (et : take (16 * length (outputs pass (see fr) m)) an ≡ frames_bytes (outputs pass (see fr) m)) where
  abbrev outs : List Frame
  outs = outputs pass (see fr) m

  abbrev at : ℕ
  at = length (outputs pass (see fr) m)

  whole : an ≡ frames_bytes outs ++ drop (16 * at) an
  whole = sym (take-append-drop (16 * at) an) ∙ ap (λ (l : List ℕ). l ++ drop (16 * at) an) et

  -- a rule that is run over those frames, whatever stands after them, gives our outcome
  pub ours-here : {A : Type 0} (s : Starts) (b rest places : List ℕ) (rule : Rule A) → s ≡ starts_of fr → b
      ≡ frames_bytes outs ++ rest
      → places ≡ places_of pass fr m
      → run (see_in fr s) (past_in b places) newer rule ≡ ours (see fr) (typing pass) m rule
  ours-here s b rest places rule es eb ep =
      rw (es, ep, eb) (run-buffer pass fr m held rest rule)

  pub more : at + 1 ≤ length (outputs pass (see fr) (suc m))
  unfolding outputs
  more = omega (arith, length-append outs (row_frames pass (see fr) m))

  module _ (last : List ℕ)
      (el : last ≡ put_frame an (length (outputs pass (see fr) m)) (row_frame (row_answer pass (see fr) m))) where
    abbrev f : Frame
    f = row_frame (row_answer pass (see fr) m)

    pub row_put : last ≡ frames_bytes (outs ++ (f ∷ [])) ++ drop (16 * length (outs ++ (f ∷ []))) an
    row_put = el ∙ put_next outs f an an whole
        (omega (arith, room_for pass fr (length an) room (suc m) (omega arith), more))

    -- no compose: the row's answer is all
    pub row_done : verdict_rule (see fr) m ≡ none
        → (at + 1 ≡ length (outputs pass (see fr) (m + 1)))
        × (last ≡ frames_bytes (outputs pass (see fr) (m + 1)) ++ drop (16 * (at + 1)) an)
    unfolding outputs
    row_done q =
        let e : outputs pass (see fr) (m + 1) ≡ outs ++ (f ∷ []) =
        rw add-one (ap (λ (v : Option (Rule Judgement)). outs ++ (f ∷ verdict_frames m (judged pass (see fr) m v)))
        q) in
        let n : length (outs ++ (f ∷ [])) ≡ at + 1 = length-append outs (f ∷ []) in (
          sym (ap length e ∙ n),
          row_put ∙ ap (λ (k : ℕ). frames_bytes (outs ++ (f ∷ [])) ++ drop (16 * k) an) n
              ∙ ap (λ (l : List Frame). frames_bytes l ++ drop (16 * (at + 1)) an) (sym e),
        )

    -- a compose: its verdict is put after it
    pub compose-done : (rule : Rule Judgement) (v : Verdict) (end : List ℕ) → verdict_rule (see fr) m ≡ some rule
        → to_judged v ≡ ours (see fr) (typing pass) m rule
        → end ≡ put_frame last (at + 1) (Out.verdict_frame (record { 0 = m }) v)
        → (at + 1 + 1 ≡ length (outputs pass (see fr) (m + 1)))
        × (end ≡ frames_bytes (outputs pass (see fr) (m + 1)) ++ drop (16 * (at + 1 + 1)) an)
    unfolding outputs
    compose-done rule v end q ev ee =
        let g : Frame = verdict_frame (record { 0 = m }) (ours (see fr) (typing pass) m rule) in
        let both : outs ++ (f ∷ g ∷ []) ≡ (outs ++ (f ∷ [])) ++ (g ∷ []) = sym (append_assoc outs (f ∷ []) (g ∷ [])) in
        let e : outputs pass (see fr) (m + 1) ≡ (outs ++ (f ∷ [])) ++ (g ∷ []) =
        rw add-one (ap (λ (x : Option (Rule Judgement)). outs ++ (f ∷ verdict_frames m (judged pass (see fr) m x))) q
        ∙ both) in
        let n : length (outs ++ (f ∷ [])) ≡ at + 1 = length-append outs (f ∷ []) in
        let k : length ((outs ++ (f ∷ [])) ++ (g ∷ [])) ≡ at + 1 + 1 =
        length-append (outs ++ (f ∷ [])) (g ∷ []) ∙ ap (λ (x : ℕ). x + 1) n in
        let fits : 16 * length (outs ++ (f ∷ [])) + 16 ≤ length an =
        omega (arith, n, k, ap length e, room_for pass fr (length an) room (m + 1) (omega arith)) in (
          sym (ap length e ∙ k),
          ee ∙ ap (λ (x : ℕ). put_frame last x (Out.verdict_frame (record { 0 = m }) v)) (sym n)
              ∙ ap (put_frame last (length (outs ++ (f ∷ []))))
              (verdict-framed (record { 0 = m }) v ∙ ap (verdict_frame (record { 0 = m })) ev)
              ∙ put_next (outs ++ (f ∷ [])) g last an row_put fits
              ∙ ap (λ (x : ℕ). frames_bytes ((outs ++ (f ∷ [])) ++ (g ∷ [])) ++ drop (16 * x) an) k
              ∙ ap (λ (l : List Frame). frames_bytes l ++ drop (16 * (at + 1 + 1)) an) (sym e),
        )

written : {pass : Pass} {fr an end : List ℕ} {n at : ℕ}
    → (at ≡ length (outputs pass (see fr) n)) × (end ≡ frames_bytes (outputs pass (see fr) n) ++ drop (16 * at) an)
    → AllHeld pass fr n
    → Written pass fr an end n at
written (a, b) h = record { next = a; bytes = b; held = h }

-- one more answer that the code can hold
held_more : (pass : Pass) (fr : List ℕ) (m : ℕ) → AllHeld pass fr m → Held (row_answer pass (see fr) m)
    → AllHeld pass fr (m + 1)
held_more pass fr m h x k l = go (dec_le m k)
  where
    go : Dec (m ≤ k) → Held (row_answer pass (see fr) k)
    go (yes g) = let e : k ≡ m = omega arith in rw e x
    go (no g) = h k (omega arith)

-- THE SAME as the code has it: `at` is the next frame, `s` and `places` are as the definitions have them
module _ {pass : Pass} {fr an places : List ℕ} {s : Starts} {row : RowNumber} {at : ℕ}
    (t : Turn pass fr an places s row at) where
  room : Room pass fr (length an)
  room = t.room

  es : s ≡ starts_of fr
  es = t.starts

  ea : at ≡ length (outputs pass (see fr) row.0)
  ea = t.next

  ep : places ≡ places_of pass fr row.0
  ep = t.table

  here : row.0 < row_count (starts_of fr)
  here = rw es at t.below

  outs-there : take (16 * length (outputs pass (see fr) row.0)) an ≡ frames_bytes (outputs pass (see fr) row.0)
  outs-there = rw ea at t.front

  pub small-here : at ≤ 2048
  small-here = omega (arith, ea, two-a-row pass (see fr) row.0, here, few-rows fr room.few)

  -- there is room for the row's frames
  pub room-here : 16 * at + 16 ≤ length an
  room-here =
      omega (
        arith,
        ea,
        room_for pass fr (length an) room (suc row.0) (omega (arith, here)),
        more pass fr an row.0 room t.held here outs-there,
      )

  module _ (last : List ℕ) (frame : Frame)
      (el : last ≡ put_frame an at (row_frame (ruled fr s an places (typed pass row))))
      (new : Held (ruled fr s an places (typed pass row))) (ef : frame ≡ frame_at fr (s.rows + row.0)) where
    answer-is : ruled fr s an places (typed pass row) ≡ row_answer pass (see fr) row.0
    unfolding ruled
    answer-is =
        ours-here pass fr an row.0 room t.held here outs-there s an
        (drop (16 * length (outputs pass (see fr) row.0)) an) places (typed pass row) es
        (whole pass fr an row.0 room t.held here outs-there) ep

    last-is : last ≡ put_frame an (length (outputs pass (see fr) row.0)) (row_frame (row_answer pass (see fr) row.0))
    last-is =
        el ∙ ap (λ (k : ℕ). put_frame an k (row_frame (ruled fr s an places (typed pass row)))) ea
        ∙ ap (λ (r : Result Typed). put_frame an (length (outputs pass (see fr) row.0)) (row_frame r)) answer-is

    frame_is : frame ≡ frame_at fr ((starts_of fr).rows + row.0)
    frame_is = rw es at ef

    held-here : AllHeld pass fr (row.0 + 1)
    held-here = held_more pass fr row.0 t.held (rw answer-is at new)

    -- the frames before the row stay
    kept : take (16 * at) last ≡ frames_bytes (outputs pass (see fr) row.0)
    kept =
        ap (λ (k : ℕ). take (16 * k) last) ea
        ∙ ap (take (16 * length (outputs pass (see fr) row.0)))
        (row_put pass fr an row.0 room t.held here outs-there last last-is)
        ∙ before (outputs pass (see fr) row.0) (row_frame (row_answer pass (see fr) row.0)) _

    pub still : 16 * at ≤ length last
    still = omega (arith, ap length kept, bytes-length (outputs pass (see fr) row.0), ea, length-take (16 * at) last)

    pub step_row : eqb frame.b1 5 ≡ false → Written pass fr an last (row.0 + 1) (at + 1)
    step_row h =
        written (rw ea
        (row_done pass fr an row.0 room t.held here outs-there last last-is
        (no-rule fr row.0 here (λ e. eqb-false frame.b1 5 h (ap (λ (x : Frame). x.b1) frame_is ∙ e))))) held-here

    pub step-compose : eqb frame.b1 5 ≡ true → (v : Verdict) (end : List ℕ)
        → to_judged v ≡ judged_by fr s (take (16 * at) last) places (compose_rule fr s frame)
        → end ≡ put_frame last (at + 1) (Out.verdict_frame row v)
        → Written pass fr an end (row.0 + 1) (at + 1 + 1)
    unfolding judged_by
    step-compose h v end rv ee =
        let g : Frame = frame_at fr ((starts_of fr).rows + row.0) in
        let j : to_judged v ≡ ours (see fr) (typing pass) row.0 (compose_rule fr (starts_of fr) g) =
        rv ∙ ours-here pass fr an row.0 room t.held here outs-there s (take (16 * at) last) [] places
        (compose_rule fr s frame) es (kept ∙ sym (append-nil (frames_bytes (outputs pass (see fr) row.0)))) ep
        ∙ rw (es, frame_is) in
        written (rw ea
        (compose-done pass fr an row.0 room t.held here outs-there last last-is
        (compose_rule fr (starts_of fr) g) v end
        (compose-rule fr row.0 here (ap (λ (x : Frame). x.b1) (sym frame_is) ∙ eqb-true frame.b1 5 h)) j
        (rw ea at ee))) held-here

-- a buffer whose front is made anew is past it as it was
pub rest-stays : (l an b : List ℕ) (i j : ℕ) → an ≡ l ++ drop i b → length l ≡ i → i ≤ j → drop j an ≡ drop j b
rest-stays l an b i j e n h =
    let k : j ≡ i + (j - i) = omega arith in
    ap (λ (x : ℕ). drop x an) k ∙ sym (drop-drop (j - i) i an) ∙ ap (λ (x : List ℕ). drop (j - i) (drop i x)) e
    ∙ ap (drop (j - i)) (drop_at l (drop i b) i n) ∙ drop-drop (j - i) i b
    ∙ ap (λ (x : ℕ). drop x b) (sym k)

-- what is handed back of the first m rows is the front of the buffer
pub front : (pass : Pass) (fr an : List ℕ) (m at : ℕ) (b : List ℕ) → at ≡ length (outputs pass (see fr) m)
    → an ≡ frames_bytes (outputs pass (see fr) m) ++ b
    → take (16 * at) an ≡ frames_bytes (outputs pass (see fr) m)
front pass fr an m at b ea e =
    let n : length (frames_bytes (outputs pass (see fr) m))
    ≡ 16 * at = omega (arith, bytes-length (outputs pass (see fr) m), ea) in
    ap (take (16 * at)) e ∙ take_at (frames_bytes (outputs pass (see fr) m)) b (16 * at) n

-- a buffer whose front is made anew is as long as it was
pub long-as-was : (l an b : List ℕ) (i : ℕ) → an ≡ l ++ drop i b → length l ≡ i → i ≤ length b → length an ≡ length b
long-as-was l an b i e n h = ap length e ∙ length-append l (drop i b) ∙ omega (arith, n, length-drop i b, h)
