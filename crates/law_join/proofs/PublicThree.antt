-- THREE TEXTS, over any limit and buffers (document 02, request 14): t joined with u, and that joined with v, is made
-- exactly where u joined with v, and t joined with that, is made, with buffers that suffice; and the lines are the
-- same. A join is accepted and may be joined again (Again.antt), and the frames are the same (Three.antt).
use Rattle.std.specs.Prelude.{Ok}
use Prim.Native.Nat.{ℕ, ◌+◌, ◌*◌, ◌≤◌}
use native.Mathlib.Omega.{arith}
use mathlib.Core.Path.{◌≡◌, refl, sym, ap, ◌∙◌, subst}
use mathlib.Core.List.{List}
use Rattle.text.specs.declared.AnswerRoom.TheVariants.{NotLent}
use Rattle.text.specs.Lines.{line_count, text_of}
use Rattle.frames.specs.Bytes.{frame_count}
use Rattle.rule_file.specs.File.{read_file}
use Rattle.law_moved.specs.Texts.{text_frames}
use Rattle.law_join.specs.declared.JoinedFile.TheVariants as Jf
use Rattle.law_join.specs.Joinable.{Joinable}
use Rattle.law_join.specs.File.{join_text, join_files}
use Rattle.law_join.proofs.Three.{join-three}
use Rattle.law_join.proofs.Again.{join-joinable}
use Rattle.law_join.proofs.Outcomes.{joined-when}
use Rattle.law_join.proofs.Public.{is-joined, first_read, second-read, join-accepted, join-lines, join-decoded}

-- the lines of two texts joined
abbrev pub join_of : List ℕ → List ℕ → List ℕ
join_of t u = join_text (text_frames t) (text_frames u)

-- A JOIN THAT IS MADE is accepted, with any frame buffer of 16 bytes a frame, and may be joined
module _ (limit : ℕ) (t u : List ℕ) (f g o k : ℕ) (joins : join_files limit t u f g o ≡ Jf.Frames k) where
  pub joined-accepted : (b : ℕ) → 16 * k ≤ b
      → read_file limit (join_of t u) b NotLent ≡ Ok (line_count (join_of t u))
  joined-accepted b room =
      join-accepted limit t u f g o k joins b room ∙ ap Ok (sym (join-lines limit t u f g o k joins))

  pub joined-joinable : Joinable (text_frames (join_of t u))
  joined-joinable =
      subst Joinable (sym (join-decoded limit t u f g o k joins))
      (join-joinable (text_frames t) (text_frames u) (first_read limit t u f g o k joins).good
      (second-read limit t u f g o k joins).good (is-joined limit t u f g o k joins).able.first
      (is-joined limit t u f g o k joins).able.second)

module _ (limit : ℕ) (t u v : List ℕ) where
  -- THE SAME LINES
  pub three-lines : (f g o k : ℕ) → join_files limit t u f g o ≡ Jf.Frames k → (h i p n : ℕ)
      → join_files limit u v h i p ≡ Jf.Frames n → join_of (join_of t u) v ≡ join_of t (join_of u v)
  three-lines f g o k one h i p n other =
      ap (λ (x : List ℕ). join_text x (text_frames v)) (join-decoded limit t u f g o k one)
      ∙ ap (λ (x : List ℕ). text_of x (frame_count x)) (join-three (text_frames t) (text_frames u) (text_frames v)
      (first_read limit t u f g o k one).good (second-read limit t u f g o k one).good
      (second-read limit u v h i p n other).good)
      ∙ ap (join_text (text_frames t)) (sym (join-decoded limit u v h i p n other))

  -- FROM THE LEFT: t with u, then v
  module _ (f g o k : ℕ) (one : join_files limit t u f g o ≡ Jf.Frames k) (h i p n : ℕ)
      (all : join_files limit (join_of t u) v h i p ≡ Jf.Frames n) where
    pub last-two : (q : ℕ) → 33 * (line_count u + line_count v) ≤ q → join_files limit u v g i q
        ≡ Jf.Frames (line_count u + line_count v)
    last-two q room =
        let a = is-joined limit t u f g o k one in let b = is-joined limit (join_of t u) v h i p n all in
        let c = join-lines limit t u f g o k one in let d = a.frames in let e = b.within in
        (joined-when limit u v g i q (line_count u + line_count v)).1
        (record {
          able =
              record {
                both = record { first = a.able.both.second; second = b.able.both.second };
                first = a.able.second;
                second = b.able.second;
              };
          within = omega arith;
          room = room;
          frames = refl;
        })

    pub from-left : (b q : ℕ) → 16 * (line_count u + line_count v) ≤ b → 33 * n ≤ q
        → join_files limit t (join_of u v) f b q ≡ Jf.Frames n
    from-left b q frames room =
        let two = last-two (33 * (line_count u + line_count v)) (omega arith) in
        let a = is-joined limit t u f g o k one in let z = is-joined limit (join_of t u) v h i p n all in
        let c = join-lines limit t u f g o k one in let d = a.frames in let e = z.within in let y = z.frames in
        let w = join-lines limit u v g i (33 * (line_count u + line_count v)) (line_count u + line_count v) two in
        (joined-when limit t (join_of u v) f b q n).1
        (record {
          able =
              record {
                both = record {
                  first = a.able.both.first;
                  second = joined-accepted limit u v g i (33 * (line_count u + line_count v))
                      (line_count u + line_count v) two b frames;
                };
                first = a.able.first;
                second = joined-joinable limit u v g i (33 * (line_count u + line_count v))
                    (line_count u + line_count v)
                    two;
              };
          within = omega arith;
          room = omega arith;
          frames = omega arith;
        })

  -- FROM THE RIGHT: u with v, then t before
  module _ (g i p k : ℕ) (other : join_files limit u v g i p ≡ Jf.Frames k) (f h o n : ℕ)
      (all : join_files limit t (join_of u v) f h o ≡ Jf.Frames n) where
    pub first_two : (q : ℕ) → 33 * (line_count t + line_count u) ≤ q → join_files limit t u f g q
        ≡ Jf.Frames (line_count t + line_count u)
    first_two q room =
        let a = is-joined limit u v g i p k other in let b = is-joined limit t (join_of u v) f h o n all in
        let c = join-lines limit u v g i p k other in let d = a.frames in let e = b.within in
        (joined-when limit t u f g q (line_count t + line_count u)).1
        (record {
          able =
              record {
                both = record { first = b.able.both.first; second = a.able.both.first };
                first = b.able.first;
                second = a.able.first;
              };
          within = omega arith;
          room = room;
          frames = refl;
        })

    pub from-right : (b q : ℕ) → 16 * (line_count t + line_count u) ≤ b → 33 * n ≤ q
        → join_files limit (join_of t u) v b i q ≡ Jf.Frames n
    from-right b q frames room =
        let two = first_two (33 * (line_count t + line_count u)) (omega arith) in
        let a = is-joined limit u v g i p k other in let z = is-joined limit t (join_of u v) f h o n all in
        let c = join-lines limit u v g i p k other in let d = a.frames in let e = z.within in let y = z.frames in
        let w = join-lines limit t u f g (33 * (line_count t + line_count u)) (line_count t + line_count u) two in
        (joined-when limit (join_of t u) v b i q n).1
        (record {
          able =
              record {
                both = record {
                  first = joined-accepted limit t u f g (33 * (line_count t + line_count u))
                      (line_count t + line_count u) two b frames;
                  second = a.able.both.second;
                };
                first = joined-joinable limit t u f g (33 * (line_count t + line_count u)) (line_count t + line_count u)
                    two;
                second = a.able.second;
              };
          within = omega arith;
          room = omega arith;
          frames = omega arith;
        })
