-- SAMENESS WITHIN ONE KERNEL, over texts (document 02, request 14): two frames handed in that `same_type` compares over
-- one of the two texts alone, with neither 5 nor 6, it compares alike over the join's lines: of the first as they are,
-- of the second with both frames moved. 5 and 6 are tested before anything else, so such a pair was met with neither.
use Rattle.std.specs.Prelude.{true, false, Ok, Err}
use Rattle.answers.specs.declared.CompareError.TheVariants as Ce
use Prim.Native.Nat.{ℕ, ◌*◌, ◌≤◌}
use native.Mathlib.Omega.{arith}
use mathlib.Core.Path.{◌≡◌, refl, sym, ap, ◌∙◌, subst}
use mathlib.Core.List.{List}
use Rattle.answers.specs.Asked.{Sameness, sameness_error}
use Rattle.text.specs.declared.AnswerRoom.TheVariants.{NotLent}
use Rattle.frames.specs.declared.Frame.{Frame}
use Rattle.archive.specs.Starts.{starts_of}
use Rattle.rule.specs.declared.Fault.{Fault}
use Rattle.rule.specs.declared.Fault.TheVariants as Fa
use Rattle.rule.specs.Answers.{type_answer_of}
use Rattle.rule.specs.Things.{fault_of}
use Rattle.rule.specs.Rule.{run}
use Rattle.rule_types.specs.Comparison.{Sound, sameness_of, same_in, same_type}
use Rattle.rule_file.specs.Types.{same_types}
use Rattle.law_moved.specs.Out.{moved_out}
use Rattle.law_moved.specs.Texts.{text_frames}
use Rattle.law_moved.proofs.Texts.{by-text}
use Rattle.law_join.specs.declared.JoinedFile.TheVariants as Jf
use Rattle.law_join.specs.Join.{join_moves, join_file}
use Rattle.law_join.specs.File.{join_text, join_files}
use Rattle.law_join.proofs.Compared.{first-same, second-same}
use Rattle.law_join.proofs.Public.{is-joined, first_read, second-read, asked-join}

never : {X : Type 0} → ◌≡◌ {A = ℕ} 0 1 → X
never z = absurd (omega arith)

-- yes, no or 22: neither 5 nor 6 of a frame, nor the file's own number
abbrev pub Compares : Sameness → Type 0
Compares (Ok true) = Unit {0}
Compares (Ok false) = Unit {0}
Compares (Err Ce.Newer) = Unit {0}
Compares (Err Ce.Field) = ⊥
Compares (Err Ce.Index) = ⊥
Compares (Err (Ce.NotAccepted o)) = ⊥

module _ (fr : List ℕ) (l r : Frame) where
  -- two frames that are compared are met with neither 5 nor 6
  record Met : Type 0 where
    left : Sound (starts_of fr) (type_answer_of l)
    right : Sound (starts_of fr) (type_answer_of r)

  met : Compares (sameness_of (same_type fr l r)) → Met
  unfolding same_type same_in
  met c = go (fault_of (starts_of fr) (type_answer_of l)) refl (fault_of (starts_of fr) (type_answer_of r)) refl
    where
      go : (a : Fault) → fault_of (starts_of fr) (type_answer_of l) ≡ a → (b : Fault)
          → fault_of (starts_of fr) (type_answer_of r) ≡ b → Met
      go Fa.Sound q Fa.Sound p = record { left = q; right = p }
      go Fa.Sound q Fa.Field p = absurd (rw (run, q, p) at c)
      go Fa.Sound q Fa.Index p = absurd (rw (run, q, p) at c)
      go Fa.Field q b p = absurd (rw (run, q) at c)
      go Fa.Index q b p = absurd (rw (run, q) at c)

-- over a text alone, with any frame buffer
record Alone (t : List ℕ) (l r : Frame) (x : Sameness) : Type 0 where
  sound : Met (text_frames t) l r
  is : sameness_of (same_type (text_frames t) l r) ≡ x

alone : (limit : ℕ) (t : List ℕ) (f : ℕ) (l r : Frame) (x : Sameness) → Compares x → same_types limit t f l r ≡ x
    → Alone t l r x
unfolding same_types
alone limit t f l r x c =
    by-text limit t f NotLent sameness_error (λ (fr : List ℕ). sameness_of (same_type fr l r))
    (λ s. s ≡ x → Alone t l r x)
    (λ o w e. absurd (subst Compares (sym e) c))
    (λ d e. record { sound = met (text_frames t) l r (subst Compares (sym e) c); is = e })

-- WHERE A JOIN IS MADE, with a frame buffer of 16 bytes a frame
module _ (limit : ℕ) (t u : List ℕ) (f g o k : ℕ) (joins : join_files limit t u f g o ≡ Jf.Frames k) (b : ℕ)
    (frames : 16 * k ≤ b) (whole : ℕ) (l r : Frame) (x : Sameness) (compares : Compares x) where
  abbrev fr : List ℕ
  fr = text_frames t

  abbrev gr : List ℕ
  gr = text_frames u

  join-same : (y z : Frame) → same_types limit (join_text fr gr) b y z ≡ sameness_of (same_type (join_file fr gr) y z)
  unfolding same_types
  join-same y z =
      asked-join limit t u f g o k joins sameness_error (λ (fr : List ℕ). sameness_of (same_type fr y z)) b frames

  -- two frames of the first
  pub first-types : same_types limit t whole l r ≡ x
      → same_types limit (join_text (text_frames t) (text_frames u)) b l r ≡ x
  first-types e =
      let a = alone limit t whole l r x compares e in
      join-same l r
      ∙ ap sameness_of (first-same fr gr (first_read limit t u f g o k joins).good
      (second-read limit t u f g o k joins).good (is-joined limit t u f g o k joins).able.first
      (is-joined limit t u f g o k joins).able.second l r a.sound.left a.sound.right) ∙ a.is

  -- two frames of the second, moved
  pub second-types : same_types limit u whole l r ≡ x
      → same_types limit (join_text (text_frames t) (text_frames u)) b
      (moved_out (join_moves (starts_of (text_frames t))) l)
      (moved_out (join_moves (starts_of (text_frames t))) r)
      ≡ x
  second-types e =
      let a = alone limit u whole l r x compares e in
      let m = join_moves (starts_of fr) in
      join-same (moved_out m l) (moved_out m r)
      ∙ ap sameness_of (second-same fr gr (first_read limit t u f g o k joins).good
      (second-read limit t u f g o k joins).good (is-joined limit t u f g o k joins).able.first
      (is-joined limit t u f g o k joins).able.second l r a.sound.left a.sound.right) ∙ a.is
