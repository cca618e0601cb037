-- One row asked for, after all are answered: its answer stands at its place in the answer buffer, and its verdict is
-- judged over the answers of the rows before it.
-- From the laws of the answer buffer.
use Prim.Native.Nat.{ℕ, zero, suc, ◌+◌, ◌*◌, ◌-◌, ◌≤◌, ◌<◌}
use native.Mathlib.Decide.{dec_lt, dec_le}
use native.Mathlib.Omega.{arith}
use mathlib.Core.Path.{◌≡◌, refl, sym, ap, ◌∙◌}
use mathlib.Core.Bool.{Bool, true, false, cond}
use mathlib.Core.List.{List, [], ◌∷◌, ◌++◌, append_assoc, append-nil}
use mathlib.Core.Option.{Option, none, some}
use lib.ListN.{length, take, drop, get_or, length-append, get_or-append}
use lib.Seq.{get_or-append_seam, take_at}
use borrow.Author.Tests.{lt-ltb, ltb-true}
use Rattle.ir.specs.declared.RowNumber.{RowNumber}
use Rattle.scan.specs.Lists.{build}
use Rattle.scan.proofs.Fill.{length-build}
use Rattle.answers.specs.Answer.{Answer}
use Rattle.answers.specs.Asked.{Verdict}
use Rattle.frames.specs.declared.Frame.{Frame}
use Rattle.frames.specs.Bytes.{frame_at}
use Rattle.archive.specs.declared.Starts.{Starts}
use Rattle.archive.specs.Starts.{starts_of, row_count}
use Rattle.archive.specs.Names.{is_row}
use Rattle.rule.specs.Answers.{Judgement, Typed, Result, told, newer}
use Rattle.rule.specs.Things.{Sight, see_in, see}
use Rattle.rule.specs.Rule.{Rule, run}
use Rattle.rule.specs.InOrder.{in_order, absent, among, answers, ours}
use Rattle.rule_rows.specs.declared.Pass.{Pass}
use Rattle.rule_rows.specs.Typed.{typing}
use Rattle.rule_rows.specs.Answered.{to_result}
use Rattle.rule_rows.specs.OverBuffer.{answer_in, past_in}
use Rattle.rule_compose.specs.Rows.{verdict_rule, judged, verdict_of}
use Rattle.rule_compose.specs.Judged.{to_judged}
use Rattle.rule_rows.specs.OverBuffer.{judged_by}
use Rattle.rule_compose.specs.ForProofs.{compose_rule}
use Rattle.rule.proofs.InOrder.{in-order-at}
use Rattle.rule_answers.specs.Outputs.{row_answer, row_frames, outputs, frames_bytes, output_bytes}
use Rattle.rule_answers.specs.ForProofs.{places_of}
use Rattle.law_answers.proofs.Bytes.{bytes-append}
use Rattle.law_answers.proofs.Placed.{past_is}
use Rattle.law_answers.proofs.Buffer.{good-held, placed-outputs, run-buffer}
use Rattle.rule_file.specs.Typing.{answers_written, RowGiven, answer, row_given, VerdictGiven, verdict, no_compose}
use Rattle.rule_file.specs.Typing.{or_no_compose, verdict_given, if_judged}
use Rattle.rule_file.specs.ForProofs.{Ready}
use Rattle.law_file.proofs.Row.{good_of, compose-rule, no-rule}

-- a list that goes on from another
pub record GoesOn {A : Type 0} (l front : List A) : Type 0 where
  pub more : List A
  pub is : l ≡ front ++ more

goes_on : {A : Type 0} (l front last : List A) → GoesOn l front → GoesOn (l ++ last) front
goes_on l front last g
    = record { more = g.more ++ last; is = ap (λ (x : List _). x ++ last) g.is ∙ append_assoc front g.more last }

pub outputs-go-on : (pass : Pass) (sight : Sight) (m n : ℕ) → m ≤ n
    → GoesOn (outputs pass sight n) (outputs pass sight m)
unfolding outputs
outputs-go-on pass sight m zero h = let e : m ≡ 0 = omega arith in rw e (record { more = []; is = refl })
outputs-go-on pass sight m (suc n) h = go (dec_le m n) (outputs-go-on pass sight m n)
  where
    go : Dec (m ≤ n) → (m ≤ n → GoesOn (outputs pass sight n) (outputs pass sight m))
        → GoesOn (outputs pass sight n ++ row_frames pass sight n) (outputs pass sight m)
    go (yes l) ih = goes_on (outputs pass sight n) (outputs pass sight m) (row_frames pass sight n) (ih l)
    go (no l) ih =
        let e : m ≡ suc n = omega arith in
        rw e (record { more = []; is = sym (append-nil (outputs pass sight n ++ row_frames pass sight n)) })

pub build-goes-on : (f : ℕ → ℕ) (m n : ℕ) → m ≤ n → GoesOn (build f n) (build f m)
unfolding build
build-goes-on f m zero h = let e : m ≡ 0 = omega arith in rw e (record { more = []; is = refl })
build-goes-on f m (suc n) h = go (dec_le m n) (build-goes-on f m n)
  where
    go : Dec (m ≤ n) → (m ≤ n → GoesOn (build f n) (build f m)) → GoesOn (build f n ++ (f n ∷ [])) (build f m)
    go (yes l) ih = goes_on (build f n) (build f m) (f n ∷ []) (ih l)
    go (no l) ih = let e : m ≡ suc n = omega arith in
        rw e (record { more = []; is = sym (append-nil (build f n ++ (f n ∷ []))) })

-- the table is long enough
pub places-long : (pass : Pass) (fr p rest : List ℕ) (n : ℕ) → p ≡ places_of pass fr n ++ rest → n ≤ length p
places-long pass fr p rest n e =
    omega (
      arith,
      ap length e ∙ length-append (places_of pass fr n) rest,
      length-build (λ (k : ℕ). length (outputs pass (see fr) k)) n,
    )

-- a row that is no compose
pub no-verdict : (pass : Pass) (fr : List ℕ) (s : Starts) (row : RowNumber) (f : Frame) → s ≡ starts_of fr
    → is_row s row
    ≡ true
    → f ≡ frame_at fr (s.rows + row.0) → (f.b1 ≡ 5 → ⊥)
    → no_compose ≡ verdict_given pass row fr
no-verdict pass fr s row f es here ef h =
    let below : row.0 < row_count (starts_of fr) = rw es at (ltb-true row.0 (row_count s) here) in
    let e : f ≡ frame_at fr ((starts_of fr).rows + row.0) = rw es at ef in
    rw (
      lt-ltb row.0 (row_count (starts_of fr)) below,
      no-rule fr row.0 below (λ b. h (ap (λ (x : Frame). x.b1) e ∙ b)),
    )

-- after all rows are answered: `last` is the answer buffer, and p the table of places
module _ (pass : Pass) (fr an last p rest : List ℕ) (s : Starts) (ready : Ready pass fr (length an))
    (es : s ≡ starts_of fr) (el : last ≡ answers_written pass an fr)
    (ep : p ≡ places_of pass fr (row_count s) ++ rest) (row : RowNumber) where
  places-before : (m : ℕ) → m ≤ row_count s → take m p ≡ places_of pass fr m
  places-before m h =
      let g = build-goes-on (λ (k : ℕ). length (outputs pass (see fr) k)) m (row_count s) h in
      ap (take m) (ep ∙ ap (λ (x : List ℕ). x ++ rest) g.is ∙ append_assoc (places_of pass fr m) g.more rest)
      ∙ take_at (places_of pass fr m) (g.more ++ rest) m (length-build _ m)

  module _ (here : is_row s row ≡ true) where
    below : row.0 < row_count (starts_of fr)
    below = rw es at (ltb-true row.0 (row_count s) here)

    here_in : is_row (starts_of fr) row ≡ true
    here_in = lt-ltb row.0 (row_count (starts_of fr)) below

    pub one_answer : (n : ℕ) (x : Answer) → n ≡ row_count s → x ≡ answer_in last (take n p) row
        → (answer (to_result x) ≡ row_given pass row fr)
        × (last ≡ cond (is_row (starts_of fr) row) (answers_written pass an fr) an)
    one_answer n x en ex =
        let all = row_count (starts_of fr) in
        let t : take n p ≡ places_of pass fr all =
        ap (λ (k : ℕ). take k p) en ∙ places-before (row_count s) (omega arith)
        ∙ ap (λ (z : Starts). places_of pass fr (row_count z)) es in
        let e : to_result x ≡ row_answer pass (see fr) row.0 =
        ap to_result ex ∙ ap (λ (q : List ℕ). past_in last q row) t
        ∙ ap (λ (q : List ℕ). past_in q (places_of pass fr all) row) el
        ∙ past_is (outputs pass (see fr) all) (places_of pass fr all) (answers (see fr) (typing pass) (λ m. newer) all)
        _
        (placed-outputs pass fr all (good-held pass fr (good_of pass fr (length an) ready) all (omega arith))) row
        ∙ in-order-at (λ earlier m. run (see fr) (among earlier) newer (typing pass m)) (told absent) all
        row.0 below in
        (rw (here_in, e), rw here_in el)

    module _ (f : Frame) (ef : f ≡ frame_at fr (s.rows + row.0)) where
      frame_is : f ≡ frame_at fr ((starts_of fr).rows + row.0)
      frame_is = rw es at ef

      -- the code's test on byte 1
      pub one-verdict : f.b1 ≡ 5 → (v : Verdict)
          → to_judged v ≡ judged_by fr s last (take row.0 p) (compose_rule fr s f)
          → (verdict (to_judged v) ≡ verdict_given pass row fr)
          × (last ≡ if_judged (answers_written pass an fr) an (verdict_given pass row fr))
      unfolding judged_by
      one-verdict h v ev =
          let all = row_count (starts_of fr) in
          let m = row.0 in
          let g = frame_at fr ((starts_of fr).rows + m) in
          let o = outputs-go-on pass (see fr) m all (omega (arith, below)) in
          let tail = drop (length (output_bytes pass fr)) an in
          let b : last ≡ frames_bytes (outputs pass (see fr) m) ++ (frames_bytes o.more ++ tail) =
          el ∙ ap (λ (l : List Frame). frames_bytes l ++ tail) o.is
          ∙ ap (λ (l : List ℕ). l ++ tail) (bytes-append (outputs pass (see fr) m) o.more)
          ∙ append_assoc (frames_bytes (outputs pass (see fr) m)) (frames_bytes o.more) tail in
          let t : take m p ≡ places_of pass fr m = places-before m (omega (arith, below, ap row_count es)) in
          let j : to_judged v ≡ ours (see fr) (typing pass) m (compose_rule fr (starts_of fr) g) =
          ev ∙ rw (es, frame_is, t, b)
          (run-buffer pass fr m (good-held pass fr (good_of pass fr (length an) ready) m (omega (arith, below)))
          (frames_bytes o.more ++ tail) (compose_rule fr (starts_of fr) g)) in
          let q : verdict_given pass row fr ≡ verdict (to_judged v) =
          rw (here_in, compose-rule fr m below (ap (λ (x : Frame). x.b1) (sym frame_is) ∙ h), j) in
          (sym q, rw q el)
