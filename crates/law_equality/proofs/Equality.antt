-- Sameness over a text is an equivalence: the laws of the comparison (rule_types, Laws.antt and Equivalence.antt),
-- asked of the frames of an accepted text.
use Rattle.answers.specs.declared.CompareError.TheVariants as Ce
use Rattle.std.specs.Prelude.{Option as CodeOption, Some, None, Ok, Err}
use Rattle.ir.specs.declared.TypeInner.{TypeInner}
use Prim.Native.Nat.{ℕ}
use mathlib.Core.Path.{◌≡◌, refl, sym, ap, ◌∙◌}
use mathlib.Core.Bool.{Bool, true, false}
use mathlib.Core.List.{List, [], ◌∷◌}
use mathlib.Core.Logic.{◌⊎◌, inl, inr, ◌↔◌}
use mathlib.Core.Option.{Option, none, some}
use Rattle.ir.specs.declared.TypeNumber.{TypeNumber}
use Rattle.answers.specs.Asked.{Sameness, sameness_error}
use Rattle.text.specs.declared.AnswerRoom.TheVariants.{NotLent}
use Rattle.text.specs.Lines.{decoded}
use Rattle.frames.specs.declared.Frame.{Frame}
use Rattle.archive.specs.declared.Starts.{Starts}
use Rattle.archive.specs.Starts.{starts_of}
use Rattle.archive.specs.Names.{is_type}
use Rattle.archive.specs.Access.{type_in}
use Rattle.rule.specs.declared.Fault.{Fault}
use Rattle.rule.specs.declared.Fault.TheVariants as Fa
use Rattle.rule.specs.Answers.{TypeAnswer, number, value, malformed, type_answer_of, Place}
use Rattle.rule.specs.Answers.{Result, told, newer, Compared, alike, unlike, field, index}
use Rattle.rule.specs.Things.{Form, kind, form, texels, struct_number, fault, in_range, fault_of, see_form, see}
use Rattle.rule.specs.Rule.{Step, step, met}
use Rattle.rule.specs.InOrder.{reading}
use Rattle.rule.proofs.Later.{claim}
use Rattle.rule_types.specs.Comparison.{handed, given, sameness_of, same_in, same_type}
use Rattle.rule_types.specs.ForProofs.{likeness}
use Rattle.rule_types.proofs.Laws as Law
use Rattle.rule_types.proofs.Laws.{told_of, compared_is, left-five, left-six, right-five, right-six}
use Rattle.rule_types.proofs.Equivalence as Eqv
use Rattle.rule_types.proofs.Seen.{never}
use Rattle.rule_rows.specs.declared.Pass.{Pass}
use Rattle.rule_rows.specs.declared.Pass.TheVariants.{First}
use Rattle.rule_rows.specs.Typed.{typing}
use Rattle.law_rows.proofs.Good.{Good}
use Rattle.law_rows.proofs.Ranged.{Each}
use Rattle.law_verdicts.proofs.NoDefault.{IsSound, ComparisonStep, comparison-no-default}
use Rattle.rule_file.specs.File.{over_file, read_file}
use Rattle.rule_file.specs.Types.{same_types}
use Rattle.law_file.proofs.Laws.{accepted-when}
use Rattle.law_equality.specs.Equality.{Same, Different, Known, Taken, SoundIn}
use Rattle.law_equality.specs.Equality.{Equivalence, AllKnown, Lawful, TypesKnown}

-- only yes is Same
same_alike : (o : Result Compared) → sameness_of o ≡ Ok true → o ≡ told alike
same_alike (told alike) e = refl
same_alike (told unlike) e = never (cc)
same_alike (told field) e = never (cc)
same_alike (told index) e = never (cc)
same_alike (newer p) e = never (cc)

abbrev of : Frame → TypeAnswer
of a = type_answer_of a

module _ (limit : ℕ) (t : List ℕ) (f n : ℕ) (e : read_file limit t f NotLent ≡ Ok n) where
  abbrev fr : List ℕ
  fr = decoded t n

  abbrev s : Starts
  s = starts_of fr

  abbrev compared : Frame → Frame → Result Compared
  compared a b = given fr s (handed (of a) (of b))

  asked : (a b : Frame) → same_types limit t f a b ≡ sameness_of (compared a b)
  unfolding same_types same_type same_in
  asked a b = ap (over_file sameness_error (λ (x : List ℕ). sameness_of (same_type x a b)) t) e

  -- what holds of yes, no and 22 where both are sound, and else of 5 and 6, holds of the outcome
  by-faults : (a b : Frame) (P : Sameness → Type 0)
      → (SoundIn fr a → SoundIn fr b → P (sameness_of (told_of fr s (likeness fr s (of a) (of b)))))
      → ((SoundIn fr a × SoundIn fr b → ⊥) → P (Err Ce.Field) × P (Err Ce.Index)) → P (same_types limit t f a b)
  by-faults a b P sound faulty = rw (asked a b) (go (fault_of s (of a)) (fault_of s (of b)) refl refl)
    where
      go : (v w : Fault) → fault_of s (of a) ≡ v → fault_of s (of b) ≡ w → P (sameness_of (compared a b))
      go Fa.Field w p q = rw (left-five fr s (of a) (of b) p) (faulty (λ h. let z = h.0 in never (cc))).0
      go Fa.Index w p q = rw (left-six fr s (of a) (of b) p) (faulty (λ h. let z = h.0 in never (cc))).1
      go Fa.Sound Fa.Field p q = rw (right-five fr s (of a) (of b) p q) (faulty (λ h. let z = h.1 in never (cc))).0
      go Fa.Sound Fa.Index p q = rw (right-six fr s (of a) (of b) p q) (faulty (λ h. let z = h.1 in never (cc))).1
      go Fa.Sound Fa.Sound p q = rw (compared_is fr s (of a) (of b) p q) (sound p q)

  -- A COMPARISON GIVES NEITHER 5 NOR 6 exactly where it meets both with neither
  pub taken-when : (a b : Frame)
      → Taken (same_types limit t f a b) ↔ (SoundIn (decoded t n) a × SoundIn (decoded t n) b)
  taken-when a b = (
    by-faults a b (λ o. Taken o → SoundIn fr a × SoundIn fr b) (λ p q h. (p, q))
        (λ g. (λ h. absurd (h.five refl), λ h. absurd (h.six refl))),
    λ h. by-faults a b Taken (λ p q. taken (likeness fr s (of a) (of b))) (λ g. absurd (g h)),
  )
    where
      taken : (o : Option Bool) → Taken (sameness_of (told_of fr s o))
      taken (some true) = record { five = λ z. never (cc); six = λ z. never (cc) }
      taken (some false) = record { five = λ z. never (cc); six = λ z. never (cc) }
      taken none = record { five = λ z. never (cc); six = λ z. never (cc) }

  -- EVERY TYPE LOOKED INTO IS KNOWN exactly where the reading of the comparison meets nothing newer
  module _ (pass : Pass) (a b : Frame) where
    abbrev came : Option Place
    came = met (see fr) (reading (see fr) (typing pass) 0 (handed (of a) (of b)))

    claimed : (p : Place) → (compared a b ≡ newer p) ↔ (came ≡ some p)
    claimed p = (claim (see fr) (typing pass) (λ m. newer p) 0 (newer p) (handed (of a) (of b))).exactly p

    pub known-when : let rule = handed (type_answer_of a) (type_answer_of b) in
        Known limit t f a b ↔ (met (see (decoded t n)) (reading (see (decoded t n)) (typing pass) 0 rule) ≡ none)
    known-when = (λ h. to came refl h, λ q z. from q (compared a b) refl (sym (asked a b) ∙ z))
      where
        to : (o : Option Place) → came ≡ o → Known limit t f a b → came ≡ none
        to none q h = q
        to (some p) q h = absurd (h (asked a b ∙ ap sameness_of ((claimed p).1 q)))

        from : came ≡ none → (o : Result Compared) → compared a b ≡ o → sameness_of o ≡ Err Ce.Newer → ⊥
        from q (told alike) w z = never (cc)
        from q (told unlike) w z = never (cc)
        from q (told field) w z = never (cc)
        from q (told index) w z = never (cc)
        from q (newer p) w z = never (let h : came ≡ some p = (claimed p).0 w in cc)

  -- SAMENESS AMONG ANSWERS THAT GET NEITHER 5 NOR 6, whatever kinds stand in them

  -- those that are the same get neither
  pub same-sound : (a b : Frame) → Same limit t f a b → SoundIn (decoded t n) a × SoundIn (decoded t n) b
  same-sound a b h = (taken-when a b).0 (record { five = λ z. never (cc); six = λ z. never (cc) })

  -- either order gives the same outcome, 22 too
  pub either_order : (a b : Frame) → SoundIn (decoded t n) a → SoundIn (decoded t n) b
      → same_types limit t f a b ≡ same_types limit t f b a
  either_order a b p q = asked a b ∙ ap sameness_of (Law.either_order fr s (of a) (of b) p q) ∙ sym (asked b a)

  -- of two that are the same each compares with any third alike, on either side; the third is any frame
  pub replaced : (a b : Frame) → Same limit t f a b → (c : Frame)
      → (same_types limit t f a c ≡ same_types limit t f b c) × (same_types limit t f c a ≡ same_types limit t f c b)
  replaced a b h c = (left, by-third (fault_of s (of c)) refl)
    where
      sound : SoundIn fr a × SoundIn fr b
      sound = same-sound a b h

      left : same_types limit t f a c ≡ same_types limit t f b c
      left =
          let yes-is = same_alike (compared a b) (sym (asked a b) ∙ h) in
          asked a c ∙ ap sameness_of (Eqv.replaced fr s (of a) (of b) (of c) sound.0 sound.1 yes-is)
          ∙ sym (asked b c)

      -- the third's own 5 or 6, on the left
      faulty : compared c a ≡ compared c b → same_types limit t f c a ≡ same_types limit t f c b
      faulty w = asked c a ∙ ap sameness_of w ∙ sym (asked c b)

      by-third : (v : Fault) → fault_of s (of c) ≡ v → same_types limit t f c a ≡ same_types limit t f c b
      by-third Fa.Sound r = either_order c a r sound.0 ∙ left ∙ either_order b c sound.1 r
      by-third Fa.Field r = faulty (left-five fr s (of c) (of a) r ∙ sym (left-five fr s (of c) (of b) r))
      by-third Fa.Index r = faulty (left-six fr s (of c) (of a) r ∙ sym (left-six fr s (of c) (of b) r))

  -- it is an equivalence among them
  pub sound-equivalence : Equivalence (SoundIn (decoded t n)) (Same limit t f)
  sound-equivalence = record {
    self = λ a p. asked a a ∙ ap sameness_of (Law.same_self fr s (of a) p);
    order = λ a b p q h. either_order b a q p ∙ h;
    third = λ a b c p q r h g. (replaced a b h c).0 ∙ g;
  }

  -- THE LAW AS THE REQUEST HAS IT: where every type looked into is known it is an equivalence, and every comparison
  -- gives yes or no
  pub equivalence : (In : Frame → Type 0) → AllKnown limit t f (decoded t n) In → Lawful limit t f In
  equivalence In all = record {
    equivalence = record {
      self = λ a i. sound-equivalence.self a (all.sound a i);
      order = λ a b i j. sound-equivalence.order a b (all.sound a i) (all.sound b j);
      third = λ a b c i j k. sound-equivalence.third a b c (all.sound a i) (all.sound b j) (all.sound c k);
    };
    decided =
        λ a b i j.
        by-faults a b (λ o. (o ≡ Err Ce.Newer → ⊥) → (o ≡ Ok true) ⊎ (o ≡ Ok false))
        (λ p q. told-or (likeness fr s (of a) (of b))) (λ g. absurd (g (all.sound a i, all.sound b j)))
        (all.known a b i j);
  }
    where
      told-or : (o : Option Bool) → (sameness_of (told_of fr s o) ≡ Err Ce.Newer → ⊥)
          → (sameness_of (told_of fr s o) ≡ Ok true) ⊎ (sameness_of (told_of fr s o) ≡ Ok false)
      told-or (some true) h = inl refl
      told-or (some false) h = inr refl
      told-or none h = absurd (h refl)

  -- and so it is of all answers that get neither 5 nor 6, in a file whose types are all of known kinds
  pub types-known : TypesKnown (decoded t n) → AllKnown limit t f (decoded t n) (SoundIn (decoded t n))
  types-known all = record { sound = λ a p. p; known = λ a b p q. (known-when First a b).1 (nothing (of a) (of b)) }
    where
      good : Good fr
      good =
          let q = (accepted-when limit t f NotLent n).0 e in
          record { order = q.order; fields = q.fields; index = q.index }

      number-shown : (m : TypeNumber) (b : Bool) → is_type s m ≡ b → in_range b ≡ Fa.Sound
          → (o : CodeOption TypeInner) → type_in fr s m ≡ o → see_form fr s o ≡ none → ⊥
      number-shown m true i p (Some u) q z = never (cc)
      number-shown m true i p None q z = all m i q
      number-shown m false i p o q z = never (cc)

      shown : (x : TypeAnswer) → IsSound fr x → see fr (form x) ≡ none → ⊥
      shown (number m) p z = number-shown m (is_type s m) refl p (type_in fr s m) refl z
      shown (value u) p z = never (let w = rw p at z in cc)
      shown (malformed g) p z = never (cc)

      none-met : (a b : TypeAnswer) (l : List Step) → Each (ComparisonStep fr a b) l → met (see fr) l ≡ none
      none-met a b [] h = refl
      none-met a b (step p (kind r) ∷ l) h = absurd h.0.1
      none-met a b (step p (texels c) ∷ l) h = absurd h.0.1
      none-met a b (step p (struct_number x) ∷ l) h = none-met a b l h.1
      none-met a b (step p (fault x) ∷ l) h = none-met a b l h.1
      none-met a b (step p (form x) ∷ l) h = go (see fr (form x)) refl (none-met a b l h.1)
        where
          go : (o : Option Form) → see fr (form x) ≡ o → met (see fr) l ≡ none → met (see fr) (step p (form x) ∷ l)
              ≡ none
          go none q ih = absurd (shown x h.0.1 q)
          go (some y) q ih = rw (q, met) ih

      nothing : (a b : TypeAnswer) → met (see fr) (reading (see fr) (typing First) 0 (handed a b)) ≡ none
      nothing a b =
          none-met a b (reading (see fr) (typing First) 0 (handed a b)) (comparison-no-default First fr good a b)
