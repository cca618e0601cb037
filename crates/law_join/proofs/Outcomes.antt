-- WHICH OUTCOME joining two texts has, both ways (document 02, request 14): the first text's own number exactly where
-- it is refused, then the second's, then 49 exactly where one of the two is not `Joinable`, then 1 and 3; else the
-- number of frames. By the tests in their order, and since the test of 49 is its meaning (Joinable.antt).
use Rattle.answers.specs.declared.FileError.{FileError}
use Rattle.std.specs.Prelude.{Ok}
use Prim.Native.Nat.{ℕ, ◌+◌, ◌*◌, ◌≤◌, ◌<◌}
use native.Mathlib.Decide.{dec_lt}
use native.Mathlib.Omega.{arith}
use mathlib.Core.Path.{◌≡◌, refl, sym, ap, ◌∙◌, subst}
use mathlib.Core.Bool.{Bool, true, false, cond, ◌&&◌}
use mathlib.Core.List.{List}
use mathlib.Core.Logic.{◌↔◌}
use lib.Dec.{ltb}
use lib.ListN.{length}
use borrow.Author.Tests.{lt-ltb, le-ltb, le-leb, lt-leb}
use Rattle.scan.proofs.Laws.{and_first, and_second}
use Rattle.answers.specs.Outcome.{Outcome}
use Rattle.text.specs.declared.AnswerRoom.TheVariants.{NotLent}
use Rattle.text.specs.Lines.{line_count}
use Rattle.text.specs.Reading.{most_frames}
use Rattle.text.proofs.RoundTrip.{length-text}
use Rattle.frames.specs.Bytes.{frame_count}
use Rattle.rule_file.specs.File.{over_file, read_file}
use Rattle.rule_file.specs.Printed.{printed}
use Rattle.law_rows.proofs.Good.{Good}
use Rattle.law_file.proofs.Laws.{count-decoded}
use Rattle.law_moved.specs.Texts.{text_frames}
use Rattle.law_moved.proofs.Texts.{accepting, Refused, over-accepted, over-refused, by-text}
use Rattle.law_join.specs.declared.JoinedFile.{JoinedFile}
use Rattle.law_join.specs.declared.JoinedFile.TheVariants as Jf
use Rattle.law_join.specs.Join.{join_file}
use Rattle.law_join.specs.Joinable.{Joinable, joinable}
use Rattle.law_join.specs.File.{join_text, as_frames, join_in, join_files}
use Rattle.law_join.proofs.Joinable.{joinable-when}
use Rattle.law_join.proofs.Frames.{join-count}
use Rattle.law_join.proofs.Order.{end_is}

never : {X : Type 0} → ◌≡◌ {A = ℕ} 0 1 → X
never z = absurd (omega arith)

-- WHAT EACH OUTCOME SAYS

-- both texts are accepted, each on its own frame buffer, within the one limit
pub record Both (limit : ℕ) (t u : List ℕ) (f g : ℕ) : Type 0 where
  pub first : read_file limit t f NotLent ≡ Ok (line_count t)
  pub second : read_file limit u g NotLent ≡ Ok (line_count u)

-- and each may be joined
pub record Able (limit : ℕ) (t u : List ℕ) (f g : ℕ) : Type 0 where
  pub both : Both limit t u f g
  pub first : Joinable (text_frames t)
  pub second : Joinable (text_frames u)

-- and the join is within the limit, and the buffer of o bytes has room for its lines: k frames, 33 bytes each
pub record Joined (limit : ℕ) (t u : List ℕ) (f g o k : ℕ) : Type 0 where
  pub able : Able limit t u f g
  pub within : line_count t + line_count u ≤ most_frames limit
  pub room : 33 * (line_count t + line_count u) ≤ o
  pub frames : k ≡ line_count t + line_count u

-- the join has as many frames as the two texts have lines
pub joined-count : (fr gr : List ℕ) → frame_count (join_file fr gr) ≡ frame_count fr + frame_count gr
joined-count fr gr = let a = join-count fr gr in let b = end_is fr in let c = end_is gr in omega arith

pub frames-lines : (t : List ℕ) → frame_count (text_frames t) ≡ line_count t
frames-lines t = count-decoded t (line_count t)

-- and 33 bytes for each
pub joined_length : (t u : List ℕ)
    → length (join_text (text_frames t) (text_frames u)) ≡ 33 * (line_count t + line_count u)
joined_length t u =
    let J = join_file (text_frames t) (text_frames u) in
    let a = length-text J (frame_count J) in let b = joined-count (text_frames t) (text_frames u) in
    let c = frames-lines t in let d = frames-lines u in omega arith

module _ (limit : ℕ) (t u : List ℕ) (f g : ℕ) where
  abbrev fr : List ℕ
  fr = text_frames t

  abbrev gr : List ℕ
  gr = text_frames u

  -- THE TEST OF 49, of two accepted texts
  module _ (both : Both limit t u f g) where
    good : Good fr
    good = (accepting limit t f NotLent (line_count t) both.first).good

    also : Good gr
    also = (accepting limit u g NotLent (line_count u) both.second).good

    pub tested : (joinable (text_frames t) && joinable (text_frames u)) ≡ true → Able limit t u f g
    tested e =
        record {
          both = both;
          first = (joinable-when fr good).0 (and_first (joinable fr) _ e);
          second = (joinable-when gr also).0 (and_second (joinable fr) _ e);
        }

  pub passes : Able limit t u f g → (joinable (text_frames t) && joinable (text_frames u)) ≡ true
  passes a = rw ((joinable-when fr (good a.both)).1 a.first, (joinable-when gr (also a.both)).1 a.second)

  fails : Both limit t u f g → (Joinable fr → Joinable gr → ⊥) → (joinable fr && joinable gr) ≡ false
  fails b unfit = go (joinable fr && joinable gr) refl
    where
      go : (x : Bool) → (joinable fr && joinable gr) ≡ x → x ≡ false
      go true e = absurd (unfit (tested b e).first (tested b e).second)
      go false e = refl

  module _ (o : ℕ) where
    -- TWO ACCEPTED TEXTS, by the tests that follow
    of-both : Both limit t u f g → join_files limit t u f g o ≡ join_in limit o fr gr
    unfolding join_files
    of-both b =
        over-accepted limit t f NotLent Jf.First
        (λ (x : List ℕ). over_file Jf.Second (join_in limit o x) u (read_file limit u g NotLent)) b.first
        ∙ over-accepted limit u g NotLent Jf.Second (join_in limit o fr) b.second

    abbrev frames : ℕ
    frames = frame_count fr + frame_count gr

    of-able : Able limit t u f g → join_files limit t u f g o
        ≡ cond (ltb (most_frames limit) frames) (Jf.Long (most_frames limit))
        (as_frames frames (printed (join_text fr gr) o))
    of-able a = of-both a.both ∙ rw (passes a)

    abbrev lines : ℕ
    lines = line_count t + line_count u

    counted : frames ≡ lines
    counted = let a = frames-lines t in let b = frames-lines u in omega arith

    -- THE FOUR that follow on two accepted texts

    is-unjoinable : Both limit t u f g → (Joinable fr → Joinable gr → ⊥) → join_files limit t u f g o ≡ Jf.NotJoinable
    is-unjoinable b no_join = of-both b ∙ rw (fails b no_join)

    is-long : Able limit t u f g → most_frames limit < lines → join_files limit t u f g o ≡ Jf.Long (most_frames limit)
    is-long a l = let c = counted in
        of-able a ∙ rw (lt-ltb (most_frames limit) frames (omega arith))

    module _ (a : Able limit t u f g) (within : lines ≤ most_frames limit) where
      of-within : join_files limit t u f g o ≡ as_frames frames (printed (join_text fr gr) o)
      of-within = let c = counted in
          of-able a ∙ rw (le-ltb (most_frames limit) frames (omega arith))

      is-short : o < 33 * lines → join_files limit t u f g o ≡ Jf.Short
      unfolding printed
      is-short l = let d = joined_length t u in
          of-within ∙ rw (lt-leb (length (join_text fr gr)) o (omega arith))

      is-joined : 33 * lines ≤ o → join_files limit t u f g o ≡ Jf.Frames lines
      unfolding printed
      is-joined l = let d = joined_length t u in
          of-within ∙ rw (le-leb (length (join_text fr gr)) o (omega arith)) (ap Jf.Frames counted)

    -- THE SIX OUTCOMES, and what each says
    by-join : (P : JoinedFile → Type 0) → ((x : FileError) → Refused limit t f NotLent x → P (Jf.First x))
        → ((x : FileError) → read_file limit t f NotLent ≡ Ok (line_count t) → Refused limit u g NotLent x
        → P (Jf.Second x))
        → (Both limit t u f g → (Joinable fr → Joinable gr → ⊥) → P Jf.NotJoinable)
        → (Able limit t u f g → most_frames limit < lines → P (Jf.Long (most_frames limit)))
        → (Able limit t u f g → lines ≤ most_frames limit → o < 33 * lines → P Jf.Short)
        → (Joined limit t u f g o lines → P (Jf.Frames lines)) → P (join_files limit t u f g o)
    unfolding join_files
    by-join P one other apart long short frames-are =
        by-text limit t f NotLent Jf.First
        (λ (x : List ℕ). over_file Jf.Second (join_in limit o x) u (read_file limit u g NotLent)) P one
        (λ e. by-text limit u g NotLent Jf.Second (join_in limit o fr) P (λ x r. other x e r) (λ d. both_read e d))
      where
        able-read : Able limit t u f g → P (join_files limit t u f g o)
        able-read a = go (dec_lt (most_frames limit) lines) (dec_lt o (33 * lines))
          where
            go : Dec (most_frames limit < lines) → Dec (o < 33 * lines) → P (join_files limit t u f g o)
            go (yes l) d = subst P (sym (is-long a l)) (long a l)
            go (no l) (yes d) = subst P (sym (is-short a (omega arith) d)) (short a (omega arith) d)
            go (no l) (no d) =
                subst P (sym (is-joined a (omega arith) (omega arith)))
                (frames-are (record { able = a; within = omega arith; room = omega arith; frames = refl }))

        both_read : read_file limit t f NotLent ≡ Ok (line_count t)
            → read_file limit u g NotLent ≡ Ok (line_count u) → P (join_in limit o fr gr)
        both_read e d = subst P (of-both b) (go (joinable fr && joinable gr) refl)
          where
            b : Both limit t u f g
            b = record { first = e; second = d }

            go : (x : Bool) → (joinable fr && joinable gr) ≡ x → P (join_files limit t u f g o)
            go true q = able-read (tested b q)
            go false q =
                let h : Joinable fr → Joinable gr → ⊥ =
                λ x y. let z = passes (record { both = b; first = x; second = y }) in never (cc) in
                subst P (sym (is-unjoinable b h)) (apart b h)

    -- BOTH WAYS

    -- the first text's own number
    pub first-when : (x : FileError) → (join_files limit t u f g o ≡ Jf.First x) ↔ Refused limit t f NotLent x
    unfolding join_files
    first-when x = (
      by-join (λ r. r ≡ Jf.First x → Refused limit t f NotLent x) (λ y r e. let q : y ≡ x = cc in rw q at r)
          (λ y d r e. never (cc)) (λ b h e. never (cc)) (λ a l e. never (cc)) (λ a l d e. never (cc))
          (λ j e. never (cc)),
      λ r. over-refused limit t f NotLent Jf.First
          (λ (x : List ℕ). over_file Jf.Second (join_in limit o x) u (read_file limit u g NotLent)) x r,
    )

    -- the second text's own number, where the first is accepted
    pub second-when : (x : FileError) → (join_files limit t u f g o ≡ Jf.Second x)
        ↔ ((read_file limit t f NotLent ≡ Ok (line_count t)) × Refused limit u g NotLent x)
    unfolding join_files
    second-when x = (
      by-join (λ r. r ≡ Jf.Second x
          → (read_file limit t f NotLent ≡ Ok (line_count t)) × Refused limit u g NotLent x)
          (λ y r e. never (cc)) (λ y d r e. let q : y ≡ x = cc in (d, (rw q at r))) (λ b h e. never (cc))
          (λ a l e. never (cc)) (λ a l d e. never (cc)) (λ j e. never (cc)),
      λ h. over-accepted limit t f NotLent Jf.First
          (λ (x : List ℕ). over_file Jf.Second (join_in limit o x) u (read_file limit u g NotLent)) h.0
          ∙ over-refused limit u g NotLent Jf.Second (join_in limit o fr) x h.1,
    )

    -- 49: both are accepted, and not both may be joined
    pub not-joinable-when : (join_files limit t u f g o ≡ Jf.NotJoinable)
        ↔ (Both limit t u f g × (Joinable (text_frames t) → Joinable (text_frames u) → ⊥))
    not-joinable-when = (
      by-join (λ r. r ≡ Jf.NotJoinable → Both limit t u f g × (Joinable (text_frames t) → Joinable (text_frames u) → ⊥))
          (λ y r e. never (cc)) (λ y d r e. never (cc)) (λ b h e. (b, h)) (λ a l e. never (cc))
          (λ a l d e. never (cc)) (λ j e. never (cc)),
      λ h. is-unjoinable h.0 h.1,
    )

    -- 1: both may be joined, and have more frames than the limit, which is the place
    pub long-when : (m : ℕ) → (join_files limit t u f g o ≡ Jf.Long m)
        ↔ (Able limit t u f g × ((most_frames limit < line_count t + line_count u) × (m ≡ most_frames limit)))
    long-when m = (
      by-join (λ r. r ≡ Jf.Long m
          → Able limit t u f g × ((most_frames limit < line_count t + line_count u) × (m ≡ most_frames limit)))
          (λ y r e. never (cc)) (λ y d r e. never (cc)) (λ b h e. never (cc)) (λ a l e. (a, (l, (cc))))
          (λ a l d e. never (cc)) (λ j e. never (cc)),
      λ h. is-long h.0 h.1.0 ∙ ap Jf.Long (sym h.1.1),
    )

    -- 3: the join is within the limit, and its buffer has fewer than 33 bytes a frame
    pub short-when : (join_files limit t u f g o ≡ Jf.Short)
        ↔ (Able limit t u f g
        × ((line_count t + line_count u ≤ most_frames limit) × (o < 33 * (line_count t + line_count u))))
    short-when = (
      by-join (λ r. r ≡ Jf.Short → Able limit t u f g
          × ((line_count t + line_count u ≤ most_frames limit) × (o < 33 * (line_count t + line_count u))))
          (λ y r e. never (cc)) (λ y d r e. never (cc)) (λ b h e. never (cc)) (λ a l e. never (cc))
          (λ a l d e. (a, (l, d))) (λ j e. never (cc)),
      λ h. is-short h.0 h.1.0 h.1.1,
    )

    -- else the join is made
    pub joined-when : (k : ℕ) → (join_files limit t u f g o ≡ Jf.Frames k) ↔ Joined limit t u f g o k
    joined-when k = (
      by-join (λ r. r ≡ Jf.Frames k → Joined limit t u f g o k) (λ y r e. never (cc)) (λ y d r e. never (cc))
          (λ b h e. never (cc)) (λ a l e. never (cc)) (λ a l d e. never (cc))
          (λ j e. let q : lines ≡ k = cc in subst (Joined limit t u f g o) q j),
      λ j. is-joined j.able j.within j.room ∙ ap Jf.Frames (sym j.frames),
    )
