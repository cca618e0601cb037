-- AN ACCEPTED TEXT: its frames pass checks 4 to 6, are made of bytes, and are no more than the limit, and so no more
-- than a file may have. With an answer buffer or without, where that has 32 bytes a frame. From the laws of
-- reading.
use Rattle.answers.specs.declared.FileError.{FileError}
use Rattle.std.specs.Prelude.{Ok, Err}
use Prim.Native.Nat.{ℕ, zero, suc, ◌+◌, ◌*◌, ◌≤◌}
use native.Mathlib.Omega.{arith}
use mathlib.Core.Path.{◌≡◌, refl, sym, ap, ◌∙◌, subst}
use mathlib.Core.List.{List}
use lib.Dec.{eqb}
use Rattle.scan.specs.Lists.{sum_below}
use Rattle.scan.proofs.Laws.{by-test}
use Rattle.answers.specs.Outcome.{Outcome}
use Rattle.answers.specs.Limit.{max_frames}
use Rattle.text.specs.declared.AnswerRoom.{AnswerRoom}
use Rattle.text.specs.declared.AnswerRoom.TheVariants.{NotLent, Lent}
use Rattle.text.specs.Lines.{line_count, frame_byte, decoded}
use Rattle.text.specs.Reading.{most_frames, answer_frames}
use Rattle.text.proofs.Laws.{Bytes, count-within, count_small, decoded-bytes}
use Rattle.frames.specs.Bytes.{frame_count}
use Rattle.archive.specs.Starts.{starts_of, row_count}
use Rattle.archive.proofs.Owners.{starts-small}
use Rattle.rule_file.specs.File.{over_file, read_file}
use Rattle.law_rows.proofs.Good.{Good}
use Rattle.law_file.proofs.Laws.{accepted-when, count-decoded}
use Rattle.law_moved.specs.Texts.{text_frames}

never : {X : Type 0} → ◌≡◌ {A = ℕ} 0 1 → X
never z = absurd (omega arith)

-- what is known of the frames of an accepted text
pub record Accepting (limit : ℕ) (fr : List ℕ) : Type 0 where
  pub good : Good fr
  pub bytes : Bytes fr
  pub within : frame_count fr ≤ most_frames limit
  pub few : row_count (starts_of fr) ≤ max_frames

-- it has as many frames as lines
pub lines_are : (limit : ℕ) (t : List ℕ) (f : ℕ) (room : AnswerRoom) (c : ℕ) → read_file limit t f room ≡ Ok c
    → c ≡ line_count t
lines_are limit t f room c e = ((accepted-when limit t f room c).0 e).readable.count

accepting-at : (limit : ℕ) (t : List ℕ) (f : ℕ) (room : AnswerRoom) (c : ℕ) → read_file limit t f room ≡ Ok c
    → Accepting limit (decoded t c)
accepting-at limit t f room c e =
    let a = (accepted-when limit t f room c).0 e in
    let small : frame_count (decoded t c) ≤ max_frames = rw (count-decoded t c) (count_small a.readable) in
    record {
      good = record { order = a.order; fields = a.fields; index = a.index };
      bytes = decoded-bytes a.readable;
      within = rw (count-decoded t c) (count-within a.readable);
      few = omega (arith, (starts-small (decoded t c) max_frames small).1);
    }

pub accepting : (limit : ℕ) (t : List ℕ) (f : ℕ) (room : AnswerRoom) (c : ℕ) → read_file limit t f room ≡ Ok c
    → Accepting limit (text_frames t)
accepting limit t f room c e = subst (λ (k : ℕ). Accepting limit (decoded t k)) (lines_are limit t f room c e)
    (accepting-at limit t f room c e)

-- 32 bytes a frame are enough for the answers
answers-most : (t : List ℕ) (n : ℕ) → sum_below (answer_frames t) n ≤ 2 * n
unfolding sum_below answer_frames
answers-most t zero = omega arith
answers-most t (suc n) =
    let a = answers-most t n in
    by-test (λ (x : ℕ). sum_below (answer_frames t) n + x ≤ 2 * suc n) (eqb (frame_byte t n 0) 4)
    (λ q. by-test (λ (x : ℕ). sum_below (answer_frames t) n + x ≤ 2 * suc n) (eqb (frame_byte t n 1) 5)
    (λ r. omega arith)
    (λ r. omega arith)) (λ q. omega arith)

-- a text that is accepted without an answer buffer is accepted with one, and with any frame buffer that suffices
pub with-buffers : (limit : ℕ) (t : List ℕ) (f c b a : ℕ) → read_file limit t f NotLent ≡ Ok c → 16 * c ≤ b
    → 32 * c ≤ a → read_file limit t b (Lent a) ≡ Ok c
with-buffers limit t f c b a e frames l =
    let x = (accepted-when limit t f NotLent c).0 e in
    let r = x.readable in
    (accepted-when limit t b (Lent a) c).1
    (record {
      readable =
          record {
            within = r.within;
            whole = r.whole;
            count = r.count;
            frames = frames;
            answers = omega (arith, r.count, answers-most t (line_count t));
          };
      order = x.order;
      fields = x.fields;
      index = x.index;
    })

pub with-answers : (limit : ℕ) (t : List ℕ) (f c a : ℕ) → read_file limit t f NotLent ≡ Ok c → 32 * c ≤ a
    → read_file limit t f (Lent a) ≡ Ok c
with-answers limit t f c a e = with-buffers limit t f c f a e
    ((accepted-when limit t f NotLent c).0 e).readable.frames

-- an answer buffer lent or not, the text is accepted
pub not-lent : (limit : ℕ) (t : List ℕ) (f a c : ℕ) → read_file limit t f (Lent a) ≡ Ok c
    → read_file limit t f NotLent ≡ Ok c
not-lent limit t f a c e =
    let x = (accepted-when limit t f (Lent a) c).0 e in
    let r = x.readable in
    (accepted-when limit t f NotLent c).1
    (record {
      readable =
          record { within = r.within; whole = r.whole; count = r.count; frames = r.frames; answers = tt };
      order = x.order;
      fields = x.fields;
      index = x.index;
    })

-- WHAT FOLLOWS ON READING A TEXT: it is refused, or its frames go on

-- text t is not accepted, and x says why: numbers 1 to 6
pub record Refused (limit : ℕ) (t : List ℕ) (f : ℕ) (room : AnswerRoom) (x : FileError) : Type 0 where
  pub is : read_file limit t f room ≡ Err x

module _ (limit : ℕ) (t : List ℕ) (f : ℕ) (room : AnswerRoom) {A : Type 0} (refused : FileError → A)
    (given : List ℕ → A) where
  pub over-accepted : read_file limit t f room ≡ Ok (line_count t)
      → over_file refused given t (read_file limit t f room) ≡ given (text_frames t)
  over-accepted e = ap (over_file refused given t) e

  pub over-refused : (x : FileError) → Refused limit t f room x
      → over_file refused given t (read_file limit t f room) ≡ refused x
  over-refused x r = ap (over_file refused given t) r.is

  pub by-text : (P : A → Type 0) → ((x : FileError) → Refused limit t f room x → P (refused x))
      → (read_file limit t f room ≡ Ok (line_count t) → P (given (text_frames t)))
      → P (over_file refused given t (read_file limit t f room))
  by-text P stops goes = go (read_file limit t f room) refl
    where
      go : (x : Outcome) → read_file limit t f room ≡ x → P (over_file refused given t x)
      go (Ok c) e =
          let l = lines_are limit t f room c e in
          subst (λ (k : ℕ). P (given (decoded t k))) (sym l) (goes (e ∙ ap Ok l))
      go (Err x) e = stops x (record { is = e })
