-- What a rule gives, step by step, by what the code found there: the answer in the buffer, the form of a type, a
-- pointer's base, an image's class. For any frames and answers. By the cases of each.
use Rattle.answers.specs.declared.Unresolved.TheVariants as Un
use Rattle.std.specs.Prelude.{Option as CodeOption, Some, None, Ok, Err}
use Prim.Native.Nat.{ℕ}
use mathlib.Core.Path.{◌≡◌, refl, sym, ap, ◌∙◌}
use mathlib.Core.List.{List, [], ◌∷◌}
use mathlib.Core.Option.{Option, none, some}
use borrow.Author.Rules.{rules}
use types.Run.{OneOf}
use denote.Enum.Declared.{tag_of}
use Rattle.ir.specs.declared.TypeNumber.{TypeNumber}
use Rattle.ir.specs.declared.RowNumber.{RowNumber}
use Rattle.ir.specs.declared.AddressSpace.{AddressSpace}
use Rattle.ir.specs.declared.TypeInner.{TypeInner}
use Rattle.ir.specs.declared.TypeInner.TheVariants as Ti
use Rattle.ir.specs.contracts.TypeInner as TypeInner'
use Rattle.ir.proofs.Others.{Others, kinds_but, of-each}
use Rattle.ir.specs.declared.TypeResolution.{TypeResolution}
use Rattle.answers.specs.Answer.{Answer}
use Rattle.archive.specs.declared.Starts.{Starts}
use Rattle.archive.specs.Access.{type_in, row_in}
use Rattle.rule.specs.Answers.{TypeAnswer, number, resolved, Typed, row, Result, told, newer}
use Rattle.rule.specs.Things.{Form, form_in, Shown, see_row}
use Rattle.rule.specs.Rule.{Rule, done, run}
use Rattle.answers.specs.declared.Unresolved.{Unresolved}
use Rattle.row_operands.specs.Looked.{Looked}
use Rattle.rule_rows.specs.declared.Pass.{Pass}
use Rattle.rule_rows.specs.Steps.{operand, look, same_as, by_type, by_both, through_base, by_base}
use Rattle.rule_rows.specs.Images.{sampled_from, sampled}
use Rattle.rule_rows.specs.Typed.{typed}
use Rattle.rule_rows.specs.Answered.{to_result}
use Rattle.rule_rows.specs.ForProofs.{sampled_in}
use Rattle.rule_rows.specs.OverBuffer.{answer_in, ruled}
use Rattle.row_operands.specs.Past.{ruled_shown, formed, ended_by, looked_at, looked_by, looked_in, OfBoth, right_by}
use Rattle.row_operands.specs.Past.{left_by, right_read, left_read}

-- by what was found
abbrev on_form : {X : Type 0} → CodeOption TypeInner → (TypeInner → X) → X → X
on_form (Some t) f rest = f t
on_form None f rest = rest

abbrev on_answer : Answer → (TypeResolution → Result Typed) → Result Typed
on_answer (Ok t) f = f t
on_answer (Err (Un.Refused e)) f = to_result (Err (Un.Refused e))
on_answer (Err (Un.Newer r)) f = to_result (Err (Un.Newer r))

abbrev on_looked : Looked → (TypeInner → Result Typed) → Result Typed
on_looked (Ok i) f = f i
on_looked (Err u) f = ended_by u

module _ (fr : List ℕ) (s : Starts) (an pl : List ℕ) where
  abbrev ran : Rule Typed → Result Typed
  ran r = ruled fr s an pl r

  pub done-run : (t : Typed) → ran (done t) ≡ told t
  unfolding ruled
  done-run t = refl

  -- AN OPERAND is read

  read : (n : RowNumber) (k : TypeAnswer → Rule Typed) (x : Answer) → answer_in an pl n ≡ x
      → ran (operand n k) ≡ on_answer x (λ t. ran (k (resolved t)))
  unfolding ruled
  read n k (Ok t) q = rw (q, run)
  read n k (Err (Un.Refused e)) q = rw (q, run)
  read n k (Err (Un.Newer r)) q = rw (q, run)

  -- and its answer is the row's
  pub same-run : (n : RowNumber) → ran (same_as n) ≡ to_result (answer_in an pl n)
  unfolding ruled
  same-run n = go (answer_in an pl n) refl
    where
      go : (x : Answer) → answer_in an pl n ≡ x → ran (same_as n) ≡ to_result x
      go (Ok t) q = rw (q, run)
      go (Err (Un.Refused e)) q = rw (q, run)
      go (Err (Un.Newer r)) q = rw (q, run)

  module _ (here : RowNumber) where
    -- A TYPE is looked into

    into : (a : TypeAnswer) (k : Form → Rule Typed) (f : CodeOption TypeInner) → form_in fr s a ≡ f
        → ran (look here a k) ≡ on_form f (λ i. ran (k (formed fr s i))) (newer (row here))
    unfolding ruled
    into a k (Some i) q = rw (q, run)
    into a k None q = rw (q, run)

    looked-form : (f : CodeOption TypeInner) (g : TypeInner → Result Typed) → on_form f g (newer (row here))
        ≡ on_looked (looked_at here f) g
    looked-form (Some i) g = refl
    looked-form None g = refl

    looked-answer : (k : Form → Rule Typed) (x : Answer)
        → on_answer x (λ t. ran (look here (resolved t) k))
        ≡ on_looked (looked_by fr s here x) (λ i. ran (k (formed fr s i)))
    looked-answer k (Ok t) = into (resolved t) k (form_in fr s (resolved t)) refl
        ∙ looked-form (form_in fr s (resolved t)) _
    looked-answer k (Err (Un.Refused e)) = refl
    looked-answer k (Err (Un.Newer r)) = refl

    look-run : (n : RowNumber) (k : Form → Rule Typed)
        → ran (operand n (λ a. look here a k)) ≡ on_looked (looked_in fr s an pl here n) (λ i. ran (k (formed fr s i)))
    unfolding looked_in
    look-run n k = read n (λ a. look here a k) (answer_in an pl n) refl ∙ looked-answer k (answer_in an pl n)

    module _ (n : RowNumber) where
      -- the answer follows from the inner form
      pub type-seen : (f : TypeInner → Typed) {i : TypeInner} → looked_in fr s an pl here n ≡ Ok i → told (f i)
          ≡ ran (by_type here n f)
      unfolding ruled
      type-seen f q = sym (look-run n _ ∙ ap (λ (l : Looked). on_looked l (λ j. told (f j))) q)

      pub type-ended : (f : TypeInner → Typed) {u : Unresolved} → looked_in fr s an pl here n ≡ Err u
          → ended_by u ≡ ran (by_type here n f)
      unfolding ruled
      type-ended f q = sym (look-run n _ ∙ ap (λ (l : Looked). on_looked l (λ j. told (f j))) q)

      -- OF AN IMAGE its class is come to

      class-run : (t : TypeInner) → ran (sampled_from here n t) ≡ told (sampled_in n t)
      unfolding ruled
      class-run (Ti.Image d a c) = refl
      class-run (Ti.Scalar x0) = refl
      class-run (Ti.Vector x0 x1) = refl
      class-run (Ti.Matrix x0 x1 x2) = refl
      class-run (Ti.CooperativeMatrix x0 x1 x2 x3) = refl
      class-run (Ti.Atomic x0) = refl
      class-run (Ti.Pointer x0 x1) = refl
      class-run (Ti.ValuePointer x0 x1 x2) = refl
      class-run (Ti.Array x0 x1 x2) = refl
      class-run (Ti.Struct x0 x1 x2) = refl
      class-run (Ti.Sampler x0) = refl
      class-run (Ti.AccelerationStructure x0) = refl
      class-run (Ti.RayQuery x0) = refl
      class-run (Ti.BindingArray x0 x1) = refl

      pub sampled-seen : {i : TypeInner} → looked_in fr s an pl here n ≡ Ok i → told (sampled_in n i)
          ≡ ran (sampled here n)
      sampled-seen {i} q = sym
          (look-run n _ ∙ ap (λ (l : Looked). on_looked l (λ j. ran (sampled_from here n j))) q ∙ class-run i)

      pub sampled-ended : {u : Unresolved} → looked_in fr s an pl here n ≡ Err u
          → ended_by u ≡ ran (sampled here n)
      sampled-ended q = sym (look-run n _ ∙ ap (λ (l : Looked). on_looked l (λ j. ran (sampled_from here n j))) q)

      -- OF A POINTER its base is looked into

      module _ (th : TypeNumber → AddressSpace → Form → Typed) (f : Form → Typed) where
        base-looked : {l : Looked} → looked_in fr s an pl here n ≡ l
            → ran (by_base here n th f) ≡ on_looked l (λ i. ran (through_base here th f (formed fr s i)))
        base-looked q =
            look-run n (through_base here th f)
            ∙ ap (λ (l : Looked). on_looked l (λ i. ran (through_base here th f (formed fr s i)))) q

        pub base-through : {b : TypeNumber} {p : AddressSpace} {t : TypeInner} → looked_in fr s an pl here n
            ≡ Ok (Ti.Pointer b p)
            → type_in fr s b ≡ Some t → told (th b p (formed fr s t)) ≡ ran (by_base here n th f)
        unfolding ruled
        base-through {b} {p} {t} q e = sym (base-looked q ∙ into (number b) (λ c. done (th b p c)) (Some t) e)

        pub base-unknown : {b : TypeNumber} {p : AddressSpace} → looked_in fr s an pl here n ≡ Ok (Ti.Pointer b p)
            → type_in fr s b ≡ None → newer (row here) ≡ ran (by_base here n th f)
        base-unknown {b} {p} q e = sym (base-looked q ∙ into (number b) (λ c. done (th b p c)) None e)

        other-run : Others (kinds_but (5 ∷ []))
            (λ t. told (f (formed fr s t)) ≡ ran (through_base here th f (formed fr s t)))
        unfolding ruled
        other-run = of-each (search rules)

        -- every kind but a pointer is looked into as it is
        pub base-into : {t : TypeInner} → looked_in fr s an pl here n ≡ Ok t
            → OneOf (kinds_but (5 ∷ [])) (tag_of TypeInner'.the_type t)
            → told (f (formed fr s t)) ≡ ran (by_base here n th f)
        base-into {t} q k = other-run.at t k ∙ sym (base-looked q)

        pub base-ended : {u : Unresolved} → looked_in fr s an pl here n ≡ Err u → ended_by u
            ≡ ran (by_base here n th f)
        base-ended q = sym (base-looked q)

    -- TWO OPERANDS

    module _ (f : OfBoth) where
      right-form : (a b : TypeAnswer) (x : TypeInner) (c : CodeOption TypeInner)
          → on_form c (λ y. told (f a b x y)) (newer (row here)) ≡ right_by f here a x b c
      right-form a b x (Some y) = refl
      right-form a b x None = refl

      left-form : (a b : TypeAnswer) (c : CodeOption TypeInner)
          → on_form c (λ x. ran (look here b (λ y. done (f a b x y.inner)))) (newer (row here))
          ≡ left_by f fr s here a b c
      unfolding ruled
      left-form a b (Some x) = into b (λ y. done (f a b x y.inner)) (form_in fr s b) refl
          ∙ right-form a b x (form_in fr s b)
      left-form a b None = refl

      abbrev both : TypeAnswer → TypeAnswer → Rule Typed
      both a b = look here a (λ x. look here b (λ y. done (f a b x.inner y.inner)))

      right_answer : (a : TypeAnswer) (y : Answer) → on_answer y (λ b. ran (both a (resolved b)))
          ≡ right_read f fr s here a y
      right_answer a (Ok b) =
          into a (λ x. look here (resolved b) (λ y. done (f a (resolved b) x.inner y.inner))) (form_in fr s a) refl
          ∙ left-form a (resolved b) (form_in fr s a)
      right_answer a (Err (Un.Refused e)) = refl
      right_answer a (Err (Un.Newer r)) = refl

      left-answer : (r : RowNumber) (x : Answer)
          → on_answer x (λ a. ran (operand r (both (resolved a)))) ≡ left_read f fr s here (answer_in an pl r) x
      left-answer r (Ok a) = read r (both (resolved a)) (answer_in an pl r) refl
          ∙ right_answer (resolved a) (answer_in an pl r)
      left-answer r (Err (Un.Refused e)) = refl
      left-answer r (Err (Un.Newer q)) = refl

      pub both_run : (l r : RowNumber) → ran (by_both here l r f)
          ≡ left_read f fr s here (answer_in an pl r) (answer_in an pl l)
      both_run l r = read l (λ a. operand r (both a)) (answer_in an pl l) refl ∙ left-answer r (answer_in an pl l)

  -- A ROW'S OWN KIND

  pub row-run : (pass : Pass) (r : RowNumber) → ran (typed pass r)
      ≡ ruled_shown pass fr s an pl r (see_row fr s (row_in fr s r))
  unfolding ruled
  row-run pass r = go (see_row fr s (row_in fr s r)) refl
    where
      go : (o : Option Shown) → see_row fr s (row_in fr s r) ≡ o → ran (typed pass r) ≡ ruled_shown pass fr s an pl r o
      go none q = rw (q, run)
      go (some x) q = rw (q, run)
