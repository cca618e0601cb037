-- What each outcome of reading a text says of the text and the buffers, both ways, by the tests of the definition in
-- their order; and what reading leaves where it accepts.
use Rattle.std.specs.Prelude.{ℕ, Option, Some, None, Ok, Err}
use mathlib.Core.Path.{◌≡◌, refl, sym, ap, ◌∙◌}
use mathlib.Core.Bool.{Bool, true, false, cond, ◌&&◌, ◌||◌, or-true}
use mathlib.Core.List.{List, ◌++◌}
use mathlib.Core.Logic.{◌⊎◌, inl, inr, ⊎_elim, ◌↔◌}
use Prim.Native.Nat.{ℕ, ◌+◌, ◌*◌, ◌/◌, ◌%◌, ◌≤◌, ◌<◌}
use native.Mathlib.Nat.{lt_of_not-le}
use native.Mathlib.Omega.{arith}
use lib.Dec.{leb, ltb, eqb}
use lib.ListN.{length, take, drop, get_or, length-append, get_or-eq_default}
use lib.Seq.{take_at, drop_at}
use borrow.Author.Tests.{leb-true, ltb-true, ltb-false, lt-ltb, le-ltb, le-leb, lt-leb}
use Rattle.scan.specs.Lowest.{lowest}
use Rattle.scan.proofs.Laws.{and_second, by-test, LowestAt, found_at, at-found, none-all, lowest-all}
use Rattle.scan.proofs.Fill.{length-build, get_d-build}
use Rattle.answers.specs.Outcome.{Outcome}
use Rattle.answers.specs.declared.FileError.TheVariants.{Long, Torn, Short, Order, Field, Index}
use Rattle.answers.specs.Limit.{max_frames}
use Rattle.text.specs.declared.AnswerRoom.{AnswerRoom}
use Rattle.text.specs.declared.AnswerRoom.TheVariants.{NotLent, Lent}
use Rattle.text.specs.Lines.{line_ok, line_count, frame_byte, byte_of, decoded}
use Rattle.text.specs.Reading.{answer_frames, answer_bytes, room_below, too_short, after_torn, most_frames, read_text}
use Rattle.text.specs.Reading.{frames_read}
use Rattle.text.proofs.Line.{or_cases, length_whole, byte_small}
use Rattle.text.proofs.Turn.{byte-of-line}

-- ---- the right sides of the laws
-- every line is whole
abbrev pub Whole : List ℕ → Type 0
Whole t = (k : ℕ) → k < line_count t → line_ok t k ≡ true

-- an answer buffer, where one is lent, has these bytes
abbrev pub RoomFor : AnswerRoom → ℕ → Type 0
RoomFor NotLent bytes = Unit
RoomFor (Lent a) bytes = bytes ≤ a

-- an answer buffer is lent that has fewer
abbrev pub RoomLacks : AnswerRoom → ℕ → Type 0
RoomLacks NotLent bytes = ⊥
RoomLacks (Lent a) bytes = a < bytes

-- every one is a byte
abbrev pub Bytes : List ℕ → Type 0
Bytes l = (i : ℕ) → get_or l i 0 < 256

-- the limit that holds is 1,024 or less
pub most-small : (limit : ℕ) → most_frames limit ≤ max_frames
unfolding most_frames
most-small limit =
    by-test (λ m. m ≤ max_frames) (leb 1 limit && leb limit max_frames)
    (λ e. leb-true _ _ (and_second (leb 1 limit) _ e))
    (λ e. omega arith)

-- which it is: the limit handed in from 1 to 1,024, and 1,024 for 0 and for any higher one
pub most-given : (limit : ℕ) → 1 ≤ limit → limit ≤ max_frames → most_frames limit ≡ limit
unfolding most_frames
most-given limit a b = rw (le-leb 1 limit a, le-leb limit max_frames b)

pub most-none : (limit : ℕ) → limit ≡ 0 → most_frames limit ≡ max_frames
unfolding most_frames
most-none limit e = rw e

pub most-over : (limit : ℕ) → max_frames < limit → most_frames limit ≡ max_frames
unfolding most_frames
most-over limit h = rw (le-leb 1 limit (omega arith), lt-leb limit max_frames h)

-- a text that is accepted, with the frame buffer's length, the answer buffer's, and its number of frames
pub record Readable (limit : ℕ) (t : List ℕ) (f : ℕ) (room : AnswerRoom) (n : ℕ) : Type 0 where
  pub within : length t ≤ 33 * most_frames limit
  pub whole : Whole t
  pub count : n ≡ line_count t
  pub frames : 16 * n ≤ f
  pub answers : RoomFor room (answer_bytes t)

-- a text whose lowest torn line is k
pub record TornAt (limit : ℕ) (t : List ℕ) (k : ℕ) : Type 0 where
  pub within : length t ≤ 33 * most_frames limit
  pub line : LowestAt (line_ok t) (line_count t) k

-- a text of whole lines, with a buffer that is too small for it
pub record TooSmall (limit : ℕ) (t : List ℕ) (f : ℕ) (room : AnswerRoom) : Type 0 where
  pub within : length t ≤ 33 * most_frames limit
  pub whole : Whole t
  pub lacks : (f < 16 * line_count t) ⊎ RoomLacks room (answer_bytes t)

-- ---- the test of number 3
or-false : (a b : Bool) → (a || b) ≡ false → (a ≡ false) × (b ≡ false)
or-false true b e = absurd (let z : ◌≡◌ {A = ℕ} 0 1 = cc in omega arith)
or-false false b e = (refl, e)

room-lacks : (room : AnswerRoom) (b : ℕ) → (room_below room b ≡ true) ↔ RoomLacks room b
room-lacks NotLent b = (λ e. let z : ◌≡◌ {A = ℕ} 0 1 = cc in omega arith, λ h. absurd h)
room-lacks (Lent a) b = (λ e. ltb-true a b e, λ h. lt-ltb a b h)

room_for : (room : AnswerRoom) (b : ℕ) → (room_below room b ≡ false) ↔ RoomFor room b
room_for NotLent b = (λ e. tt, λ h. refl)
room_for (Lent a) b = (λ e. ltb-false a b e, λ h. le-ltb a b h)

module _ (t : List ℕ) (f : ℕ) (room : AnswerRoom) where
  -- no buffer is too small: the frames fit, and so do the answers
  pub frames-fit : too_short t f room ≡ false → 16 * line_count t ≤ f
  unfolding too_short
  frames-fit e = ltb-false f (16 * line_count t) (or-false _ (room_below room (answer_bytes t)) e).0

  answers-fit : too_short t f room ≡ false → RoomFor room (answer_bytes t)
  unfolding too_short
  answers-fit e = (room_for room (answer_bytes t)).0 (or-false (ltb f (16 * line_count t)) _ e).1

  both-fit : 16 * line_count t ≤ f → RoomFor room (answer_bytes t) → too_short t f room ≡ false
  unfolding too_short
  both-fit a b = rw (le-ltb f (16 * line_count t) a) ((room_for room (answer_bytes t)).1 b)

  one-lacks : (too_short t f room ≡ true) ↔ ((f < 16 * line_count t) ⊎ RoomLacks room (answer_bytes t))
  unfolding too_short
  one-lacks = (
    λ e. ⊎_elim (λ a. inl (ltb-true _ _ a)) (λ b. inr ((room-lacks room (answer_bytes t)).0 b))
        (or_cases (ltb f (16 * line_count t)) _ e),
    ⊎_elim (λ a. rw (lt-ltb f (16 * line_count t) a))
        (λ b. rw ((room-lacks room (answer_bytes t)).1 b) (or-true (ltb f (16 * line_count t)))),
  )

-- ---- each outcome, both ways
module _ (limit : ℕ) (t : List ℕ) (f : ℕ) (room : AnswerRoom) where
  -- what holds in each of the four cases holds of what reading gives
  pub by_read : (P : Outcome → Type 0) → (33 * most_frames limit < length t → P (Err (Long (most_frames limit))))
      → ((k : ℕ) → TornAt limit t k → P (Err (Torn k)))
      → (TooSmall limit t f room → P (Err Short)) → (Readable limit t f room (line_count t) → P (Ok (line_count t)))
      → P (read_text limit t f room)
  unfolding read_text
  by_read P long torn short accepted =
      by-test P (ltb (33 * most_frames limit) (length t)) (λ e. long (ltb-true _ _ e))
      (λ e. go (ltb-false _ _ e) (lowest (line_ok t) (line_count t)) refl)
    where
      go : length t ≤ 33 * most_frames limit → (o : Option ℕ) → lowest (line_ok t) (line_count t) ≡ o
          → P (after_torn o (cond (too_short t f room) (Err Short) (Ok (line_count t))))
      go l (Some k) e = torn k (record { within = l; line = found_at (line_ok t) (line_count t) k e })
      go l None e =
          let w : Whole t = λ k. none-all (line_ok t) (line_count t) k e in
          by-test P (too_short t f room)
          (λ s. short (record { within = l; whole = w; lacks = (one-lacks t f room).0 s }))
          (λ s. accepted (record {
            within = l;
            whole = w;
            count = refl;
            frames = frames-fit t f room s;
            answers = answers-fit t f room s;
          }))

  -- two outcomes that differ are not equal
  never : {X : Type 0} → ◌≡◌ {A = ℕ} 0 1 → X
  never z = absurd (omega arith)

  -- number 1 is given exactly for a text of more bytes than the limit's lines have, and names the limit
  pub long-when : (read_text limit t f room ≡ Err (Long (most_frames limit))) ↔ (33 * most_frames limit < length t)
  unfolding read_text
  long-when = (
    by_read (λ r. r ≡ Err (Long (most_frames limit)) → 33 * most_frames limit < length t) (λ l e. l) (λ k r e. never
        (cc))
        (λ r e. never (cc)) (λ r e. never (cc)),
    λ l. rw (lt-ltb (33 * most_frames limit) (length t) l),
  )

  -- number 2 is given exactly for a text that is not too long and has a torn line, with the lowest
  pub torn-when : (k : ℕ) → (read_text limit t f room ≡ Err (Torn k)) ↔ TornAt limit t k
  unfolding read_text
  torn-when k = (
    by_read (λ r. r ≡ Err (Torn k) → TornAt limit t k) (λ l e. never (cc)) (λ j r e. let q : j ≡ k = cc in rw q at r)
        (λ r e. never (cc)) (λ r e. never (cc)),
    λ r. rw (le-ltb (33 * most_frames limit) (length t) r.within, at-found (line_ok t) (line_count t) k r.line),
  )

  -- number 3 is given exactly for a text of whole lines, not too long, with a buffer that is too small
  pub short-when : (read_text limit t f room ≡ Err Short) ↔ TooSmall limit t f room
  unfolding read_text
  short-when = (
    by_read (λ r. r ≡ Err Short → TooSmall limit t f room) (λ l e. never (cc)) (λ k r e. never (cc)) (λ r e. r)
        (λ r e. never (cc)),
    λ r. rw (
      le-ltb (33 * most_frames limit) (length t) r.within,
      lowest-all (line_ok t) (line_count t) r.whole,
      (one-lacks t f room).1 r.lacks,
    ),
  )

  -- a text is accepted exactly where none of the three is given, and n is its number of lines
  pub accepted-when : (n : ℕ) → (read_text limit t f room ≡ Ok n) ↔ Readable limit t f room n
  unfolding read_text
  accepted-when n = (
    by_read (λ r. r ≡ Ok n → Readable limit t f room n) (λ l e. never (cc)) (λ k r e. never (cc))
        (λ r e. never (cc))
        (λ r e. let q : line_count t ≡ n = cc in rw q at r),
    λ r. let a : 16 * line_count t ≤ f = rw (← r.count) r.frames in
        rw (
          le-ltb (33 * most_frames limit) (length t) r.within,
          lowest-all (line_ok t) (line_count t) r.whole,
          both-fit t f room a r.answers,
          ← r.count,
        ),
  )

-- a text within two limits reads alike at either
pub alike-within : (limit other : ℕ) (t : List ℕ) (f : ℕ) (room : AnswerRoom) → length t ≤ 33 * most_frames limit
    → length t ≤ 33 * most_frames other
    → read_text limit t f room ≡ read_text other t f room
unfolding read_text
alike-within limit other t f room a b
    = rw (le-ltb (33 * most_frames limit) (length t) a, le-ltb (33 * most_frames other) (length t) b)

-- ---- a text that is accepted, and its frames
-- n frames are 16 n bytes
pub length-decoded : (t : List ℕ) (n : ℕ) → length (decoded t n) ≡ 16 * n
length-decoded t n = length-build (byte_of t) (16 * n)

-- byte j of frame k stands at 16 k + j
pub decoded-at : (t : List ℕ) (n k j : ℕ) → k < n → j < 16 → get_or (decoded t n) (16 * k + j) 0 ≡ frame_byte t k j
decoded-at t n k j l m = get_d-build (byte_of t) (16 * n) (16 * k + j) (omega arith) ∙ sym (byte-of-line t k j m)

module _ {limit : ℕ} {t : List ℕ} {f : ℕ} {room : AnswerRoom} {n : ℕ} (r : Readable limit t f room n) where
  -- it is n lines of 33 bytes
  pub length-read : length t ≡ 33 * n
  length-read = rw r.count (length_whole t (lowest-all (line_ok t) (line_count t) r.whole))

  -- it has at most as many frames as the limit, and so at most 1,024
  pub count-within : n ≤ most_frames limit
  count-within = omega (arith, length-read, r.within)

  pub count_small : n ≤ max_frames
  count_small = omega (arith, count-within, most-small limit)

  -- each of its n lines is whole
  pub whole-line : (k : ℕ) → k < n → line_ok t k ≡ true
  whole-line k l = r.whole k (omega (arith, r.count))

  -- its frames are made of bytes
  pub decoded-bytes : Bytes (decoded t n)
  decoded-bytes i =
      lt_of_not-le (λ big.
      let l : i < 16 * n = lt_of_not-le
      (λ h. omega (arith, get_or-eq_default (decoded t n) 0 {n = i} (rw length-decoded h))) in
      let e : 16 * (i / 16) + i % 16 ≡ i = omega arith in
      let w = whole-line (i / 16) (omega arith) in
      omega (
        arith,
        rw e at (decoded-at t n (i / 16) (i % 16) (omega arith) (omega arith)),
        byte_small t (i / 16) w (i % 16) (omega arith),
      ))

-- the answer frames that a line asks for, by its frame
pub answers-by-frame : (t : List ℕ) (n k : ℕ) → k < n
    → answer_frames t k ≡ cond (eqb (get_or (decoded t n) (16 * k) 0) 4)
    (cond (eqb (get_or (decoded t n) (16 * k + 1) 0) 5) 2 1) 0
unfolding answer_frames
answers-by-frame t n k l =
    let z : 16 * k + 0 ≡ 16 * k = omega arith in
    rw (rw z at (decoded-at t n k 0 l (omega arith)), decoded-at t n k 1 l (omega arith))

-- ---- the frame buffer after a reading
-- it is as it was unless the text was accepted: case by case, so that an edit of one case is refused by that case
pub unchanged : (t fr : List ℕ) (r : Outcome) → ((n : ℕ) → r ≡ Ok n → ⊥) → frames_read r t fr ≡ fr
unchanged t fr (Ok n) h = absurd (h n refl)
unchanged t fr (Err (Long m)) h = refl
unchanged t fr (Err (Torn k)) h = refl
unchanged t fr (Err Short) h = refl
unchanged t fr (Err (Order k)) h = refl
unchanged t fr (Err (Field k)) h = refl
unchanged t fr (Err (Index k)) h = refl

-- where it was accepted: fr before, last after
module _ (t fr last : List ℕ) (n : ℕ) (r : Outcome) (el : last ≡ frames_read r t fr) (er : r ≡ Ok n) where
  is : last ≡ decoded t n ++ drop (16 * n) fr
  is = el ∙ ap (λ x. frames_read x t fr) er

  -- it has room for the frames
  pub room : 16 * n ≤ length last
  room = omega (arith, ap length is, length-append (decoded t n) (drop (16 * n) fr), length-decoded t n)

  -- the frames are its front
  pub front : take (16 * n) last ≡ decoded t n
  front = ap (take (16 * n)) is ∙ take_at (decoded t n) (drop (16 * n) fr) (16 * n) (length-decoded t n)

  -- the rest is as it was
  pub rest : drop (16 * n) last ≡ drop (16 * n) fr
  rest = ap (drop (16 * n)) is ∙ drop_at (decoded t n) (drop (16 * n) fr) (16 * n) (length-decoded t n)
