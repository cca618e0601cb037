-- THE LENT BUFFERS (document 02, request 14): a join's lines stand at the front of the buffer for them and its other
-- bytes stay; with any number it is as it was. The second's frame buffer is as reading leaves it where the first text
-- was accepted, else as it was. By the same tests that the outcome goes by.
use Rattle.answers.specs.declared.FileError.{FileError}
use Rattle.std.specs.Prelude.{Ok}
use Prim.Native.Nat.{ℕ, ◌+◌, ◌*◌, ◌≤◌}
use native.Mathlib.Omega.{arith}
use mathlib.Core.Path.{◌≡◌, refl, ap, ◌∙◌}
use mathlib.Core.Bool.{Bool, true, false, ◌&&◌}
use mathlib.Core.List.{List, ◌++◌}
use lib.Dec.{ltb, leb}
use lib.ListN.{length, take, drop}
use lib.Seq.{take_at}
use borrow.Author.Tests.{ltb-false, leb-true, le-ltb, le-leb}
use Rattle.answers.specs.Outcome.{Outcome}
use Rattle.text.specs.declared.AnswerRoom.TheVariants.{NotLent}
use Rattle.text.specs.Lines.{line_count}
use Rattle.text.specs.Reading.{most_frames}
use Rattle.frames.specs.Bytes.{frame_count}
use Rattle.rule_file.specs.File.{over_file, read_file, frames_after}
use Rattle.rule_file.specs.Printed.{printed_after}
use Rattle.law_moved.specs.Texts.{text_frames}
use Rattle.law_moved.proofs.Texts.{over-accepted, over-refused, by-text}
use Rattle.law_join.specs.declared.JoinedFile.TheVariants as Jf
use Rattle.law_join.specs.Joinable.{joinable}
use Rattle.law_join.specs.File.{join_text, by_tests, join_files, second_after, joined_after}
use Rattle.law_join.proofs.Outcomes.{Both, Joined, joined-when, first-when, joined_length, frames-lines}
use Rattle.law_join.proofs.Outcomes.{tested, passes}
use Rattle.law_join.proofs.Public.{join-accepted}

-- THE BUFFER FOR THE LINES
module _ (limit : ℕ) (t u : List ℕ) (f g : ℕ) (out : List ℕ) where
  abbrev fr : List ℕ
  fr = text_frames t

  abbrev gr : List ℕ
  gr = text_frames u

  -- of two accepted texts
  abbrev after : List ℕ
  after = by_tests limit fr gr out out (printed_after (join_text fr gr) out)

  module _ (k : ℕ) (joins : join_files limit t u f g (length out) ≡ Jf.Frames k) where
    is : Joined limit t u f g (length out) k
    is = (joined-when limit t u f g (length out) k).0 joins

    long : length (join_text fr gr) ≡ 33 * k
    long = let a = joined_length t u in let b = is.frames in omega arith

    -- A JOIN IS WRITTEN, 33 bytes a frame, and the bytes past it stay
    pub written : joined_after limit t u f g out ≡ join_text (text_frames t) (text_frames u) ++ drop (33 * k) out
    unfolding joined_after printed_after
    written =
        let a = is.within in let b = frames-lines t in let c = frames-lines u in let d = is.room in
        let l = long in let e = is.frames in
        over-accepted limit t f NotLent (λ (x : FileError). out)
        (λ (x : List ℕ). over_file (λ (x : FileError). out)
        (λ (y : List ℕ). by_tests limit x y out out (printed_after (join_text x y) out)) u
        (read_file limit u g NotLent))
        is.able.both.first
        ∙ over-accepted limit u g NotLent (λ (x : FileError). out)
        (λ (y : List ℕ). by_tests limit fr y out out (printed_after (join_text fr y) out)) is.able.both.second
        ∙ rw (
          passes limit t u f g is.able,
          le-ltb (most_frames limit) (frame_count fr + frame_count gr) (omega arith),
          le-leb (length (join_text fr gr)) (length out) (omega arith),
        )
        (ap (λ (n : ℕ). join_text fr gr ++ drop n out) l)

    pub written-front : take (33 * k) (joined_after limit t u f g out) ≡ join_text (text_frames t) (text_frames u)
    written-front = ap (take (33 * k)) written ∙ take_at (join_text fr gr) (drop (33 * k) out) (33 * k) long

    -- what stands there is accepted within the same limit, with any frame buffer of 16 bytes a frame
    pub written-accepted : (b : ℕ) → 16 * k ≤ b
        → read_file limit (take (33 * k) (joined_after limit t u f g out)) b NotLent ≡ Ok k
    written-accepted b room = rw written-front (join-accepted limit t u f g (length out) k joins b room)

  -- WITH ANY NUMBER IT IS AS IT WAS
  module _ (unmade : (k : ℕ) → join_files limit t u f g (length out) ≡ Jf.Frames k → ⊥) where
    both-kept : Both limit t u f g → after ≡ out
    unfolding printed_after
    both-kept b = go (joinable fr && joinable gr) refl (ltb (most_frames limit) (frame_count fr + frame_count gr)) refl
        (leb (length (join_text fr gr)) (length out)) refl
      where
        go : (x : Bool) → (joinable fr && joinable gr) ≡ x → (y : Bool)
            → ltb (most_frames limit) (frame_count fr + frame_count gr) ≡ y → (z : Bool)
            → leb (length (join_text fr gr)) (length out) ≡ z → after ≡ out
        go false q y r z w = rw q
        go true q true r z w = rw (q, r)
        go true q false r false w = rw (q, r, w)
        go true q false r true w =
            let a = ltb-false (most_frames limit) (frame_count fr + frame_count gr) r in
            let c = leb-true (length (join_text fr gr)) (length out) w in
            let d = joined_length t u in let e = frames-lines t in let h = frames-lines u in
            absurd (unmade (line_count t + line_count u)
            ((joined-when limit t u f g (length out) (line_count t + line_count u)).1
            (record { able = tested limit t u f g b q; within = omega arith; room = omega arith; frames = refl })))

    pub unwritten : joined_after limit t u f g out ≡ out
    unfolding joined_after
    unwritten =
        by-text limit t f NotLent (λ (x : FileError). out)
        (λ (x : List ℕ). over_file (λ (x : FileError). out)
        (λ (y : List ℕ). by_tests limit x y out out (printed_after (join_text x y) out)) u
        (read_file limit u g NotLent))
        (λ s. s ≡ out) (λ x r. refl)
        (λ e. by-text limit u g NotLent (λ (x : FileError). out)
        (λ (y : List ℕ). by_tests limit fr y out out (printed_after (join_text fr y) out)) (λ s. s ≡ out) (λ x r. refl)
        (λ d. both-kept (record { first = e; second = d })))

-- THE SECOND'S FRAME BUFFER
module _ (limit : ℕ) (t u : List ℕ) (f g o : ℕ) (buffer : List ℕ) where
  -- with the first text's own number it is as it was
  pub second-kept : (x : FileError) → join_files limit t u f g o ≡ Jf.First x → second_after limit t u f buffer ≡ buffer
  unfolding second_after
  second-kept x e =
      over-refused limit t f NotLent (λ (x : FileError). buffer) (λ (x : List ℕ). frames_after limit u buffer NotLent) x
      ((first-when limit t u f g o x).0 e)

  -- where the first is accepted it is as reading the second alone leaves it
  pub second-after : read_file limit t f NotLent ≡ Ok (line_count t)
      → second_after limit t u f buffer ≡ frames_after limit u buffer NotLent
  unfolding second_after
  second-after e = over-accepted limit t f NotLent (λ (x : FileError). buffer)
      (λ (x : List ℕ). frames_after limit u buffer NotLent) e
