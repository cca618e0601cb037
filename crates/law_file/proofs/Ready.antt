-- The frames of an accepted text, and an answer buffer that passed check 3: there is room for all that is handed back.
-- What each line asks for is what its frame hands back at most.
use Rattle.std.specs.Prelude.{ℕ, Ok}
use Prim.Native.Nat.{ℕ, zero, suc, ◌+◌, ◌*◌, ◌-◌, ◌≤◌, ◌<◌}
use native.Mathlib.Decide.{dec_le}
use native.Mathlib.Omega.{arith}
use mathlib.Core.Path.{◌≡◌, refl, sym, ap, ◌∙◌}
use mathlib.Core.Bool.{Bool, cond}
use mathlib.Core.List.{List}
use lib.Dec.{eqb}
use lib.ListN.{length, take, get_or}
use borrow.Author.Tests.{lt-ltb}
use Rattle.scan.specs.Lists.{sum_below}
use Rattle.answers.specs.Outcome.{Outcome}
use Rattle.answers.specs.Limit.{max_frames}
use Rattle.text.specs.declared.AnswerRoom.TheVariants.{Lent}
use Rattle.text.specs.Lines.{line_count, decoded}
use Rattle.text.specs.Reading.{answer_frames}
use Rattle.text.proofs.Laws.{Readable, count_small, answers-by-frame}
use Rattle.frames.specs.Bytes.{byte, frame_at, frame_count}
use Rattle.archive.specs.declared.Starts.{Starts}
use Rattle.archive.specs.Starts.{starts_of, row_count}
use Rattle.archive.specs.Checks.{check_frames}
use Rattle.archive.proofs.Ranks.{begins}
use Rattle.rule.specs.Things.{see}
use Rattle.rule_rows.specs.declared.Pass.{Pass}
use Rattle.law_rows.proofs.Good.{Good, good-when}
use Rattle.rule_answers.specs.Outputs.{outputs, output_bytes}
use Rattle.law_answers.proofs.Bytes.{bytes-length}
use Rattle.law_answers.proofs.Room.{asked, outputs-asked}
use Rattle.rule_file.specs.File.{read_file, frames_after}
use Rattle.rule_file.specs.ForProofs.{Ready}
use Rattle.law_file.proofs.Over.{read, part-is}
use Rattle.law_file.proofs.Laws.{count-decoded, then-checked, accepted-when}

sum-grows : (f : ℕ → ℕ) (m n : ℕ) → m ≤ n → sum_below f m ≤ sum_below f n
unfolding sum_below
sum-grows f m zero h = let e : m ≡ 0 = omega arith in rw e (omega arith)
sum-grows f m (suc n) h = go (dec_le m n) (sum-grows f m n)
  where
    go : Dec (m ≤ n) → (m ≤ n → sum_below f m ≤ sum_below f n) → sum_below f m ≤ sum_below f n + f n
    go (yes l) ih = omega (arith, ih l)
    go (no l) ih = let e : m ≡ suc n = omega arith in rw e (omega arith)

sum_same : (f g : ℕ → ℕ) (n : ℕ) → ((k : ℕ) → k < n → f k ≡ g k) → sum_below f n ≡ sum_below g n
unfolding sum_below
sum_same f g zero h = refl
sum_same f g (suc n) h = rw (sum_same f g n (λ k l. h k (omega arith)), h n (omega arith))

module _ (limit : ℕ) (t : List ℕ) (f a n : ℕ) (r : Readable limit t f (Lent a) n) where
  abbrev fr : List ℕ
  fr = decoded t n

  few : frame_count fr ≤ max_frames
  few = rw (count-decoded t n) (count_small r)

  -- a frame's bytes are the line's
  asked_is : (k : ℕ) → k < n → asked fr k ≡ answer_frames t k
  unfolding frame_at
  asked_is k h =
      let z : 16 * k + 0 ≡ 16 * k = omega arith in
      rw (lt-ltb k (frame_count fr) (rw (count-decoded t n) h), z) (sym (answers-by-frame t n k h))

  answers-fit : (pass : Pass) → Good fr → length (output_bytes pass fr) ≤ a
  unfolding starts_of
  answers-fit pass good =
      let all = row_count (starts_of fr) in
      let within : (starts_of fr).rows + all ≤ n
      = omega (arith, (begins fr max_frames).within, (begins fr 1280).within, count-decoded t n) in
      omega (
        arith,
        bytes-length (outputs pass (see fr) all),
        outputs-asked fr pass good all (omega arith),
        sum-grows (asked fr) ((starts_of fr).rows + all) n within,
        sum_same (asked fr) (answer_frames t) n asked_is,
        r.answers,
        ap (sum_below (answer_frames t)) r.count,
      )

-- an accepted text is ready to be answered
pub ready_of : (pass : Pass) (limit : ℕ) (t : List ℕ) (f a n : ℕ) → read_file limit t f (Lent a) ≡ Ok n
    → Ready pass (decoded t n) a
ready_of pass limit t f a n e =
    let acc = (accepted-when limit t f (Lent a) n).0 e in
    let r = acc.readable in
    let checked : check_frames (decoded t n) ≡ Ok (frame_count (decoded t n)) =
    sym (then-checked limit t f (Lent a) n r) ∙ e ∙ ap Ok (sym (count-decoded t n)) in (
      checked,
      record {
        few = few limit t f a n r;
        answers = answers-fit limit t f a n r pass
            ((good-when (decoded t n) (few limit t f a n r)).0 checked);
      },
    )

-- and so is the part of the frame buffer that is lent on, x (`given`, proofs/Over.antt)
pub ready-part : (pass : Pass) (limit : ℕ) (t fr last : List ℕ) (a : ℕ) (r : Outcome) {S : Type 0}
    → (r ≡ read_file limit t (length fr) (Lent a)) × (S × (last ≡ frames_after limit t fr (Lent a)))
    → {n : ℕ} {x : List ℕ} → r ≡ Ok n → x ≡ take (16 * n) last → Ready pass x a
ready-part pass limit t fr last a r e {n} en ex =
    rw (ex, part-is limit t fr last (Lent a) n r e.0 e.1.1 en)
    (ready_of pass limit t (length fr) a n (read limit t fr last (Lent a) n r e.0 e.1.1 en))
