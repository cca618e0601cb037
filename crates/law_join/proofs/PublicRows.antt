-- ONE ROW OF A JOIN, over texts (document 02, request 14): of row n of the first text `row_type` hands back of the
-- join's lines the frame that it hands back of the first text alone, and of row n of the second, which is row n past
-- the first's rows, the frame that it hands back of the second alone, moved. `compose_verdict` likewise, and a row that
-- is no compose alone is none in the join. In both passes. Rows and verdicts of a join answer so (Answers.antt).
use Prim.Native.Nat.{ℕ, ◌*◌, ◌≤◌, ◌<◌}
use native.Mathlib.Omega.{arith}
use mathlib.Core.Path.{◌≡◌, refl, ap, ◌∙◌}
use mathlib.Core.Bool.{Bool, true, false}
use mathlib.Core.List.{List}
use mathlib.Core.Option.{Option, none, some}
use borrow.Author.Tests.{ltb-true, lt-ltb}
use Rattle.ir.specs.declared.RowNumber.{RowNumber}
use Rattle.answers.specs.Numbers.{asked}
use Rattle.text.specs.declared.AnswerRoom.TheVariants.{Lent}
use Rattle.frames.specs.declared.Frame.{Frame}
use Rattle.archive.specs.Starts.{starts_of, row_count}
use Rattle.archive.specs.Names.{is_row}
use Rattle.rule.specs.Answers.{Judgement, Result, row_frame, verdict_frame}
use Rattle.rule.specs.Things.{see}
use Rattle.rule_rows.specs.declared.Pass.{Pass}
use Rattle.rule_compose.specs.Rows.{verdict_of}
use Rattle.rule_answers.specs.Outputs.{row_answer}
use Rattle.rule_file.specs.Typing.{RowGiven, row_given, row_type, row_said, VerdictGiven, verdict_given}
use Rattle.rule_file.specs.Typing.{compose_verdict}
use Rattle.rule_file.specs.Typing.{verdict_said}
use Rattle.law_rows.proofs.Good.{Good}
use Rattle.law_verdicts.proofs.Numbers.{verdict-numbers}
use Rattle.law_moved.specs.Moves.{Moves, row_to}
use Rattle.law_moved.specs.Out.{moved_out}
use Rattle.law_moved.specs.Texts.{text_frames}
use Rattle.law_moved.proofs.Out.{row_out, verdict-out}
use Rattle.law_moved.proofs.Texts.{by-text}
use Rattle.law_join.specs.declared.JoinedFile.TheVariants as Jf
use Rattle.law_join.specs.Join.{join_moves, join_file}
use Rattle.law_join.specs.Joinable.{Joinable}
use Rattle.law_join.specs.File.{join_text, join_files}
use Rattle.law_join.proofs.Answers.{first_rows, first-verdicts, second-rows, second-verdicts}
use Rattle.law_join.proofs.Outputs.{judged-same}
use Rattle.law_join.proofs.Places.{first-row-in, second-row-in}
use Rattle.law_join.proofs.Public.{is-joined, first_read, second-read, answered-join}

never : {X : Type 0} → ◌≡◌ {A = ℕ} 0 1 → X
never z = absurd (omega arith)

-- A TEXT ALONE: what a frame that is handed back of it, with any buffers, is of its frames
module _ (pass : Pass) (limit : ℕ) (t : List ℕ) (f a : ℕ) (n : RowNumber) where
  record RowOf (x : Frame) : Type 0 where
    below : n.0 < row_count (starts_of (text_frames t))
    frame : row_frame (row_answer pass (see (text_frames t)) n.0) ≡ x

  record VerdictOf (x : Frame) : Type 0 where
    below : n.0 < row_count (starts_of (text_frames t))
    judged : Result Judgement
    is : verdict_of pass (see (text_frames t)) n.0 ≡ some judged
    frame : verdict_frame n judged ≡ x

  record NoVerdict : Type 0 where
    below : n.0 < row_count (starts_of (text_frames t))
    is : verdict_of pass (see (text_frames t)) n.0 ≡ none

  row-alone : (x : Frame) → row_said (row_type pass limit t f a n) ≡ asked x → RowOf x
  unfolding row_type
  row-alone x =
      by-text limit t f (Lent a) RowGiven.not_accepted (row_given pass n) (λ r. row_said r ≡ asked x → RowOf x)
      (λ o r e. never (cc)) (λ d. go (is_row (starts_of (text_frames t)) n) refl)
    where
      go : (b : Bool) → is_row (starts_of (text_frames t)) n ≡ b → row_said (row_given pass n (text_frames t)) ≡ asked x
          → RowOf x
      go true q e = record { below = ltb-true _ _ q; frame = cc (rw q at e) }
      go false q e = never (cc (rw q at e))

  verdict-alone : (x : Frame) → verdict_said n (compose_verdict pass limit t f a n) ≡ asked x → VerdictOf x
  unfolding compose_verdict
  verdict-alone x =
      by-text limit t f (Lent a) VerdictGiven.not_accepted (verdict_given pass n)
      (λ r. verdict_said n r ≡ asked x → VerdictOf x) (λ o r e. never (cc))
      (λ d. go (is_row (starts_of (text_frames t)) n) refl (verdict_of pass (see (text_frames t)) n.0) refl)
    where
      go : (b : Bool) → is_row (starts_of (text_frames t)) n ≡ b → (v : Option (Result Judgement))
          → verdict_of pass (see (text_frames t)) n.0 ≡ v → verdict_said n (verdict_given pass n (text_frames t)) ≡
          asked x
          → VerdictOf x
      go true q (some j) d e = record { below = ltb-true _ _ q; judged = j; is = d; frame = cc (rw (q, d) at e) }
      go true q none d e = never (cc (rw (q, d) at e))
      go false q v d e = never (cc (rw q at e))

  no-verdict-alone : compose_verdict pass limit t f a n ≡ VerdictGiven.no_compose → NoVerdict
  unfolding compose_verdict
  no-verdict-alone =
      by-text limit t f (Lent a) VerdictGiven.not_accepted (verdict_given pass n)
      (λ r. r ≡ VerdictGiven.no_compose → NoVerdict) (λ o r e. never (cc))
      (λ d. go (is_row (starts_of (text_frames t)) n) refl (verdict_of pass (see (text_frames t)) n.0) refl)
    where
      go : (b : Bool) → is_row (starts_of (text_frames t)) n ≡ b → (v : Option (Result Judgement))
          → verdict_of pass (see (text_frames t)) n.0 ≡ v
          → verdict_given pass n (text_frames t) ≡ VerdictGiven.no_compose
          → NoVerdict
      go true q (some j) d e = never (cc (rw (q, d) at e))
      go true q none d e = record { below = ltb-true _ _ q; is = d }
      go false q v d e = never (cc (rw q at e))

-- WHERE A JOIN IS MADE, with buffers of 16 and 32 bytes a frame
module _ (limit : ℕ) (t u : List ℕ) (f g o k : ℕ) (joins : join_files limit t u f g o ≡ Jf.Frames k) (pass : Pass)
    (b a : ℕ) (frames : 16 * k ≤ b) (answers : 32 * k ≤ a) where
  abbrev fr : List ℕ
  fr = text_frames t

  abbrev gr : List ℕ
  gr = text_frames u

  abbrev J : List ℕ
  J = join_file fr gr

  abbrev m : Moves
  m = join_moves (starts_of fr)

  -- what is asked of a row of the join's lines is asked of its frames
  join-row : (n : RowNumber) → row_type pass limit (join_text fr gr) b a n ≡ row_given pass n J
  unfolding row_type
  join-row n = answered-join limit t u f g o k joins RowGiven.not_accepted (row_given pass n) b frames a answers

  join-verdict : (n : RowNumber) → compose_verdict pass limit (join_text fr gr) b a n ≡ verdict_given pass n J
  unfolding compose_verdict
  join-verdict n = answered-join limit t u f g o k joins VerdictGiven.not_accepted (verdict_given pass n) b frames a
      answers

  good : Good fr
  good = (first_read limit t u f g o k joins).good

  also : Good gr
  also = (second-read limit t u f g o k joins).good

  jf : Joinable fr
  jf = (is-joined limit t u f g o k joins).able.first

  jg : Joinable gr
  jg = (is-joined limit t u f g o k joins).able.second

  module _ (whole lent : ℕ) (n : RowNumber) where
    first-here : n.0 < row_count (starts_of fr) → is_row (starts_of J) n ≡ true
    first-here l = lt-ltb _ _ (first-row-in fr gr good also n.0 l)

    second-here : n.0 < row_count (starts_of gr) → is_row (starts_of J) (row_to m n) ≡ true
    second-here l = lt-ltb _ _ (second-row-in fr gr good also n.0 l)

    -- ROW_TYPE

    -- of a row of the first
    pub first-row : (x : Frame) → row_said (row_type pass limit t whole lent n) ≡ asked x
        → row_said (row_type pass limit (join_text (text_frames t) (text_frames u)) b a n) ≡ asked x
    first-row x e =
        let r = row-alone pass limit t whole lent n x e in
        ap row_said (join-row n)
        ∙ rw (first-here r.below, first_rows fr gr good also jf jg pass n.0 r.below) (ap asked r.frame)

    -- of a row of the second
    pub second-row : (x : Frame) → row_said (row_type pass limit u whole lent n) ≡ asked x
        → row_said (row_type pass limit (join_text (text_frames t) (text_frames u)) b a
        (row_to (join_moves (starts_of (text_frames t))) n))
        ≡ asked (moved_out (join_moves (starts_of (text_frames t))) x)
    second-row x e =
        let r = row-alone pass limit u whole lent n x e in
        ap row_said (join-row (row_to m n))
        ∙ rw (second-here r.below, second-rows fr gr good also jf jg pass n.0 r.below)
        (ap asked (row_out m pass gr also n.0 r.below ∙ ap (moved_out m) r.frame))

    -- COMPOSE_VERDICT

    pub first-verdict : (x : Frame) → verdict_said n (compose_verdict pass limit t whole lent n) ≡ asked x
        → verdict_said n (compose_verdict pass limit (join_text (text_frames t) (text_frames u)) b a n) ≡ asked x
    first-verdict x e =
        let v = verdict-alone pass limit t whole lent n x e in
        ap (verdict_said n) (join-verdict n)
        ∙ rw (
          first-here v.below,
          first-verdicts fr gr good also jf jg pass n.0 v.below,
          v.is,
        )
        (ap asked v.frame)

    pub second-verdict : (x : Frame) → verdict_said n (compose_verdict pass limit u whole lent n) ≡ asked x
        → verdict_said (row_to (join_moves (starts_of (text_frames t))) n)
        (compose_verdict pass limit (join_text (text_frames t) (text_frames u)) b a
        (row_to (join_moves (starts_of (text_frames t))) n))
        ≡ asked (moved_out (join_moves (starts_of (text_frames t))) x)
    second-verdict x e =
        let v = verdict-alone pass limit u whole lent n x e in
        let j = v.judged in
        let ours = verdict-numbers pass gr n.0 v.judged v.is in
        ap (verdict_said (row_to m n)) (join-verdict (row_to m n))
        ∙ rw (
          second-here v.below,
          second-verdicts fr gr good also jf jg pass n.0 v.below,
          v.is,
          judged-same m _ v.judged ours.is,
        )
        (ap asked (verdict-out m pass gr n.0 v.judged v.is ∙ ap (moved_out m) v.frame))

    -- a row that is no compose is none in the join
    pub first-no-compose : compose_verdict pass limit t whole lent n ≡ VerdictGiven.no_compose
        → compose_verdict pass limit (join_text (text_frames t) (text_frames u)) b a n ≡ VerdictGiven.no_compose
    first-no-compose e =
        let v = no-verdict-alone pass limit t whole lent n e in
        join-verdict n
        ∙ rw (first-here v.below, first-verdicts fr gr good also jf jg pass n.0 v.below, v.is)

    pub second-no-compose : compose_verdict pass limit u whole lent n ≡ VerdictGiven.no_compose
        → compose_verdict pass limit (join_text (text_frames t) (text_frames u)) b a
        (row_to (join_moves (starts_of (text_frames t))) n)
        ≡ VerdictGiven.no_compose
    second-no-compose e =
        let v = no-verdict-alone pass limit u whole lent n e in
        join-verdict (row_to m n)
        ∙ rw (second-here v.below, second-verdicts fr gr good also jf jg pass n.0 v.below, v.is)
