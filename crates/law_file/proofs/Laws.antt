-- Reading a file, both ways: accepted exactly when all checks hold, and refused by number k at place p exactly when all
-- lower checks hold everywhere, check k holds before p and fails at p. From the same laws of checks 1 to 3 and of
-- checks 4 to 6.
use Rattle.answers.specs.declared.FileError.{FileError}
use Rattle.std.specs.Prelude.{Ok, Err}
use Prim.Native.Nat.{ℕ, ◌*◌, ◌/◌, ◌≤◌, ◌<◌}
use native.Mathlib.Omega.{arith}
use mathlib.Core.Path.{◌≡◌, refl, sym, ap, ◌∙◌}
use mathlib.Core.Bool.{true}
use mathlib.Core.List.{List, ◌++◌}
use mathlib.Core.Logic.{◌↔◌}
use lib.ListN.{length, drop}
use Rattle.answers.specs.Outcome.{Outcome}
use Rattle.answers.specs.declared.FileError.TheVariants.{Long, Torn, Short, Order, Field, Index}
use Rattle.answers.specs.Limit.{max_frames}
use Rattle.text.specs.declared.AnswerRoom.{AnswerRoom}
use Rattle.text.specs.declared.AnswerRoom.TheVariants.{NotLent}
use Rattle.text.specs.Lines.{line_count, decoded, text_of}
use Rattle.text.specs.Reading.{most_frames, read_text, frames_read}
use Rattle.text.proofs.Laws as T
use Rattle.text.proofs.Laws.{Readable, TornAt, TooSmall, Bytes, by_read, alike-within, length-decoded, count_small}
use Rattle.text.proofs.Laws.{decoded-bytes}
use Rattle.text.proofs.RoundTrip.{read-written, decoded-text}
use Rattle.ir.specs.declared.TypeKind.TheVariants as Tk
use Rattle.ir.specs.Numbers.{type_kind_of, row_kind_of}
use Rattle.frames.specs.declared.Frame.{Frame}
use Rattle.frames.specs.Bytes.{byte, frame_at, frame_count}
use Rattle.frames.specs.Forms.{type_of, row_of, fields_fit}
use Rattle.frames.proofs.FieldBack.{Below}
use Rattle.frames.proofs.Families.{fit-type, fit_row}
use Rattle.frames.proofs.Put.{below_at}
use Rattle.frames.proofs.Same.{Typed, same-type, same_row}
use Rattle.archive.specs.Order.{order_ok}
use Rattle.archive.specs.Checks.{field_ok, index_ok, check_frames}
use Rattle.archive.proofs.Checked as C
use Rattle.archive.proofs.Checked.{Holds, FailsAt, by-check}
use Rattle.rule_file.specs.File.{then_frames, read_file, frames_after}

-- an accepted file of n frames: no more bytes than the limit's lines have, every line whole, the buffers suffice, and
-- every frame meets checks 4, 5 and 6
pub record Accepts (limit : ℕ) (t : List ℕ) (f : ℕ) (room : AnswerRoom) (n : ℕ) : Type 0 where
  pub readable : Readable limit t f room n
  pub order : Holds order_ok (decoded t n)
  pub fields : Holds field_ok (decoded t n)
  pub index : Holds index_ok (decoded t n)

-- number 4 at p
pub record Disordered (limit : ℕ) (t : List ℕ) (f : ℕ) (room : AnswerRoom) (p : ℕ) : Type 0 where
  pub readable : Readable limit t f room (line_count t)
  pub fails : FailsAt order_ok (decoded t (line_count t)) p

-- number 5 at p
pub record Unfit (limit : ℕ) (t : List ℕ) (f : ℕ) (room : AnswerRoom) (p : ℕ) : Type 0 where
  pub readable : Readable limit t f room (line_count t)
  pub order : Holds order_ok (decoded t (line_count t))
  pub fails : FailsAt field_ok (decoded t (line_count t)) p

-- number 6 at p
pub record Misplaced (limit : ℕ) (t : List ℕ) (f : ℕ) (room : AnswerRoom) (p : ℕ) : Type 0 where
  pub readable : Readable limit t f room (line_count t)
  pub order : Holds order_ok (decoded t (line_count t))
  pub fields : Holds field_ok (decoded t (line_count t))
  pub fails : FailsAt index_ok (decoded t (line_count t)) p

pub count-decoded : (t : List ℕ) (n : ℕ) → frame_count (decoded t n) ≡ n
count-decoded t n = rw (length-decoded t n) (omega arith)

never : {X : Type 0} → ◌≡◌ {A = ℕ} 0 1 → X
never z = absurd (omega arith)

module _ (limit : ℕ) (t : List ℕ) (f : ℕ) (room : AnswerRoom) where
  few : Readable limit t f room (line_count t) → frame_count (decoded t (line_count t)) ≤ max_frames
  few r = rw (count-decoded t (line_count t)) (count_small r)

  -- the seven outcomes, and what each says
  pub by-file : (P : Outcome → Type 0) → (33 * most_frames limit < length t → P (Err (Long (most_frames limit))))
      → ((k : ℕ) → TornAt limit t k → P (Err (Torn k))) → (TooSmall limit t f room → P (Err Short))
      → ((p : ℕ) → Disordered limit t f room p → P (Err (Order p))) → ((p : ℕ) → Unfit limit t f room p
      → P (Err (Field p)))
      → ((p : ℕ) → Misplaced limit t f room p → P (Err (Index p)))
      → ((n : ℕ) → Accepts limit t f room n → P (Ok n)) → P (read_file limit t f room)
  unfolding read_file
  by-file P long torn short order field index accepted =
      by_read limit t f room (λ r. P (then_frames t r)) long torn short
      (λ r. by-check (decoded t (line_count t)) (few r) P (λ p a. order p (record { readable = r; fails = a }))
      (λ p h a. field p (record { readable = r; order = h; fails = a }))
      (λ p h g a. index p (record { readable = r; order = h; fields = g; fails = a }))
      (λ h g i. rw (count-decoded t (line_count t))
      (accepted (line_count t) (record { readable = r; order = h; fields = g; index = i }))))

  -- what checks 4 to 6 give is what a readable text gets
  pub then-checked : (n : ℕ) → Readable limit t f room n → read_file limit t f room ≡ check_frames (decoded t n)
  unfolding read_file
  then-checked n r = ap (then_frames t) ((T.accepted-when limit t f room n).1 r)

  pub long-when : (read_file limit t f room ≡ Err (Long (most_frames limit))) ↔ (33 * most_frames limit < length t)
  unfolding read_file
  long-when = (
    by-file (λ r. r ≡ Err (Long (most_frames limit)) → 33 * most_frames limit < length t) (λ l e. l) (λ k a e. never
        (cc))
        (λ a e. never (cc)) (λ p a e. never (cc)) (λ p a e. never (cc)) (λ p a e. never (cc)) (λ n a e. never (cc)),
    λ l. ap (then_frames t) ((T.long-when limit t f room).1 l),
  )

  pub torn-when : (k : ℕ) → (read_file limit t f room ≡ Err (Torn k)) ↔ TornAt limit t k
  unfolding read_file
  torn-when k = (
    by-file (λ r. r ≡ Err (Torn k) → TornAt limit t k) (λ l e. never (cc)) (λ j a e. let q : j ≡ k = cc in rw q at a)
        (λ a e. never (cc)) (λ p a e. never (cc)) (λ p a e. never (cc)) (λ p a e. never (cc)) (λ n a e. never (cc)),
    λ a. ap (then_frames t) ((T.torn-when limit t f room k).1 a),
  )

  pub short-when : (read_file limit t f room ≡ Err Short) ↔ TooSmall limit t f room
  unfolding read_file
  short-when = (
    by-file (λ r. r ≡ Err Short → TooSmall limit t f room) (λ l e. never (cc)) (λ k a e. never (cc)) (λ a e. a)
        (λ p a e. never (cc)) (λ p a e. never (cc)) (λ p a e. never (cc)) (λ n a e. never (cc)),
    λ a. ap (then_frames t) ((T.short-when limit t f room).1 a),
  )

  pub order-when : (p : ℕ) → (read_file limit t f room ≡ Err (Order p)) ↔ Disordered limit t f room p
  order-when p = (
    by-file (λ r. r ≡ Err (Order p) → Disordered limit t f room p) (λ l e. never (cc)) (λ k a e. never (cc))
        (λ a e. never (cc)) (λ j a e. let q : j ≡ p = cc in rw q at a) (λ j a e. never (cc)) (λ j a e. never (cc))
        (λ n a e. never (cc)),
    λ a. then-checked (line_count t) a.readable
        ∙ (C.order-when (decoded t (line_count t)) (few a.readable) p).1 a.fails,
  )

  pub field-when : (p : ℕ) → (read_file limit t f room ≡ Err (Field p)) ↔ Unfit limit t f room p
  field-when p = (
    by-file (λ r. r ≡ Err (Field p) → Unfit limit t f room p) (λ l e. never (cc)) (λ k a e. never (cc)) (λ a e. never
        (cc))
        (λ j a e. never (cc)) (λ j a e. let q : j ≡ p = cc in rw q at a) (λ j a e. never (cc)) (λ n a e. never (cc)),
    λ a. then-checked (line_count t) a.readable
        ∙ (C.field-when (decoded t (line_count t)) (few a.readable) p).1 (a.order, a.fails),
  )

  pub index-when : (p : ℕ) → (read_file limit t f room ≡ Err (Index p)) ↔ Misplaced limit t f room p
  index-when p = (
    by-file (λ r. r ≡ Err (Index p) → Misplaced limit t f room p) (λ l e. never (cc)) (λ k a e. never (cc))
        (λ a e. never (cc)) (λ j a e. never (cc)) (λ j a e. never (cc)) (λ j a e. let q : j ≡ p = cc in rw q at a)
        (λ n a e. never (cc)),
    λ a. then-checked (line_count t) a.readable
        ∙ (C.index-when (decoded t (line_count t)) (few a.readable) p).1 (a.order, a.fields, a.fails),
  )

  pub accepted-when : (n : ℕ) → (read_file limit t f room ≡ Ok n) ↔ Accepts limit t f room n
  accepted-when n = (
    by-file (λ r. r ≡ Ok n → Accepts limit t f room n) (λ l e. never (cc)) (λ k a e. never (cc))
        (λ a e. never (cc)) (λ j a e. never (cc)) (λ j a e. never (cc)) (λ j a e. never (cc))
        (λ m a e. let q : m ≡ n = cc in rw q at a),
    λ a. then-checked n a.readable
        ∙ (C.accepted-when (decoded t n) (rw (count-decoded t n) (count_small a.readable)) n).1
        (sym (count-decoded t n), a.order, a.fields, a.index),
  )

-- A FILE WITHIN TWO LIMITS reads alike at either, and leaves the frame buffer alike
module _ (limit other : ℕ) (t : List ℕ) (a : length t ≤ 33 * most_frames limit) (b : length t ≤ 33 * most_frames other)
    (room : AnswerRoom) where
  pub read_alike : (f : ℕ) → read_file limit t f room ≡ read_file other t f room
  unfolding read_file
  read_alike f = ap (then_frames t) (alike-within limit other t f room a b)

  pub buffer-alike : (fr : List ℕ) → frames_after limit t fr room ≡ frames_after other t fr room
  unfolding frames_after
  buffer-alike fr = ap (λ (o : Outcome). frames_read o t fr) (alike-within limit other t (length fr) room a b)

-- THE FRAME BUFFER

-- where checks 1 to 3 pass, and so after numbers 4 to 6 too, the frames stand at its front and its other bytes stay
pub buffer-written : (limit : ℕ) (t fr : List ℕ) (room : AnswerRoom) (n : ℕ) → Readable limit t (length fr) room n
    → frames_after limit t fr room ≡ decoded t n ++ drop (16 * n) fr
unfolding frames_after
buffer-written limit t fr room n r = ap (λ (o : Outcome). frames_read o t fr)
    ((T.accepted-when limit t (length fr) room n).1 r)

-- number 1 changes no byte of it, nor do numbers 2 and 3
pub buffer-long : (limit : ℕ) (t fr : List ℕ) (room : AnswerRoom) → 33 * most_frames limit < length t
    → frames_after limit t fr room ≡ fr
unfolding frames_after
buffer-long limit t fr room l = ap (λ (o : Outcome). frames_read o t fr) ((T.long-when limit t (length fr) room).1 l)

pub buffer-torn : (limit : ℕ) (t fr : List ℕ) (room : AnswerRoom) (k : ℕ) → TornAt limit t k
    → frames_after limit t fr room ≡ fr
unfolding frames_after
buffer-torn limit t fr room k a =
    ap (λ (o : Outcome). frames_read o t fr) ((T.torn-when limit t (length fr) room k).1 a)

pub buffer-short : (limit : ℕ) (t fr : List ℕ) (room : AnswerRoom) → TooSmall limit t (length fr) room
    → frames_after limit t fr room ≡ fr
unfolding frames_after
buffer-short limit t fr room a = ap (λ (o : Outcome). frames_read o t fr) ((T.short-when limit t (length fr) room).1 a)

-- the text of any list of frames within the limit is read back as that list
pub read_back : (limit : ℕ) (frames : List ℕ) (n : ℕ) → Bytes frames → length frames ≡ 16 * n → n ≤ most_frames limit
    → (buffer : List ℕ)
    → 16 * n ≤ length buffer
    → frames_after limit (text_of frames n) buffer NotLent ≡ frames ++ drop (16 * n) buffer
unfolding frames_after
read_back limit frames n bytes e l buffer h =
    ap (λ (o : Outcome). frames_read o (text_of frames n) buffer)
    (read-written frames n bytes limit (length buffer) l h)
    ∙ ap (λ (s : List ℕ). s ++ drop (16 * n) buffer) (decoded-text frames n bytes e)

-- FRAMES AND WHAT THEY READ AS

-- two frames of an accepted file that read as the same type, of a known kind, are the same sixteen bytes; and so of
-- rows, unless of kind Math
module _ (limit : ℕ) (t : List ℕ) (f : ℕ) (room : AnswerRoom) (n : ℕ) (a : Accepts limit t f room n) where
  at : ℕ → Frame
  at k = frame_at (decoded t n) k

  fit : (k : ℕ) → k < n → fields_fit (at k) ≡ true
  unfolding at
  fit k h = a.fields k (rw (count-decoded t n) h)

  small : (k : ℕ) → Below (at k)
  unfolding at
  small = below_at (decoded t n) (decoded-bytes a.readable)

  pub types-differ : (j k : ℕ) → j < n → k < n → byte (frame_at (decoded t n) j) 0 ≡ 1
      → byte (frame_at (decoded t n) k) 0
      ≡ 1
      → (type_kind_of (byte (frame_at (decoded t n) j) 1) ≡ Tk.Unknown → ⊥)
      → (type_kind_of (byte (frame_at (decoded t n) k) 1) ≡ Tk.Unknown → ⊥)
      → type_of (frame_at (decoded t n) j) ≡ type_of (frame_at (decoded t n) k) → frame_at (decoded t n) j
      ≡ frame_at (decoded t n) k
  unfolding at
  types-differ j k l m e d u v =
      same-type (at j) (at k) (small j) (small k) (e ∙ sym d) u v (sym (fit-type (at j) e) ∙ fit j l)
      (sym (fit-type (at k) d) ∙ fit k m)

  pub rows-differ : (j k : ℕ) → j < n → k < n → byte (frame_at (decoded t n) j) 0 ≡ 4
      → byte (frame_at (decoded t n) k) 0
      ≡ 4
      → Typed (row_kind_of (byte (frame_at (decoded t n) j) 1))
      → Typed (row_kind_of (byte (frame_at (decoded t n) k) 1))
      → row_of (frame_at (decoded t n) j) ≡ row_of (frame_at (decoded t n) k) → frame_at (decoded t n) j
      ≡ frame_at (decoded t n) k
  unfolding at
  rows-differ j k l m e d u v =
      same_row (at j) (at k) (small j) (small k) (e ∙ sym d) u v (sym (fit_row (at j) e) ∙ fit j l)
      (sym (fit_row (at k) d) ∙ fit k m)
