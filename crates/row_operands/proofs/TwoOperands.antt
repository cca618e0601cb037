-- What a row of two operands comes to by what they show.
use Rattle.answers.specs.declared.Unresolved.TheVariants as Un
use Rattle.std.specs.Prelude.{Option, Some, None, Ok, Err}
use Prim.Native.Nat.{ℕ}
use native.Mathlib.Omega.{arith}
use mathlib.Core.Path.{◌≡◌, refl, sym, ap, ◌∙◌}
use mathlib.Core.List.{List}
use Rattle.ir.specs.declared.RowNumber.{RowNumber}
use Rattle.ir.specs.declared.TypeInner.{TypeInner}
use Rattle.ir.specs.declared.TypeResolution.{TypeResolution}
use Rattle.answers.specs.Answer.{Answer}
use Rattle.answers.specs.declared.Unresolved.{Unresolved}
use Rattle.archive.specs.declared.Starts.{Starts}
use Rattle.rule.specs.Answers.{TypeAnswer, resolved, Typed, row, Result, told, newer}
use Rattle.rule.specs.Things.{form_in}
use Rattle.rule_rows.specs.Steps.{by_both}
use Rattle.row_operands.specs.Looked.{Looked}
use Rattle.rule_rows.specs.OverBuffer.{answer_in, ruled}
use Rattle.row_operands.specs.Past.{ended_by, looked_at, looked_by, looked_in, OfBoth, right_by, left_by, left_read}
use Rattle.row_operands.specs.Past.{left_end}
use Rattle.row_operands.proofs.Steps.{both_run}

abbrev is_seen : Looked → ℕ
is_seen (Ok i) = 1
is_seen (Err u) = 0

abbrev seen_or : TypeInner → Looked → TypeInner
seen_or x (Ok i) = i
seen_or x (Err u) = x

abbrev ended_in : RowNumber → Looked → Result Typed
ended_in here (Ok i) = newer (row here)
ended_in here (Err u) = ended_by u

ended-seen : {X : Type 0} {u : Unresolved} {x : TypeInner} → Err u ≡ Ok x → X
ended-seen p = absurd (let z : ◌≡◌ {A = ℕ} 0 1 = ap is_seen p in omega arith)

seen-ended : {X : Type 0} {u : Unresolved} {x : TypeInner} → Ok x ≡ Err u → X
seen-ended p = absurd (let z : ◌≡◌ {A = ℕ} 1 0 = ap is_seen p in omega arith)

known : (here : RowNumber) (f : Option TypeInner) {x : TypeInner} → looked_at here f ≡ Ok x → f ≡ Some x
known here (Some i) {x} p = ap Some (ap (seen_or x) p)
known here None p = ended-seen p

module _ (f : OfBoth) (fr : List ℕ) (s : Starts) (here : RowNumber) where
  -- both are seen: v is the outcome, if it is what follows from the types that they have and the forms that they show
  both : (la ra : Answer) {x y : TypeInner} → looked_by fr s here la ≡ Ok x → looked_by fr s here ra ≡ Ok y
      → (v : Result Typed)
      → ((a b : TypeResolution) → la ≡ Ok a → ra ≡ Ok b → v ≡ told (f (resolved a) (resolved b) x y))
      → v ≡ left_read f fr s here ra la
  both (Err (Un.Refused e)) ra p q v h = ended-seen p
  both (Err (Un.Newer r)) ra p q v h = ended-seen p
  both (Ok a) (Err (Un.Refused e)) p q v h = ended-seen q
  both (Ok a) (Err (Un.Newer r)) p q v h = ended-seen q
  both (Ok a) (Ok b) {x} {y} p q v h =
      h a b refl refl
      ∙ sym (ap (left_by f fr s here (resolved a) (resolved b)) (known here (form_in fr s (resolved a)) p)
      ∙ ap (right_by f here (resolved a) x (resolved b)) (known here (form_in fr s (resolved b)) q))

  right-form : (a b : TypeAnswer) (x : TypeInner) (c : Option TypeInner) {u : Unresolved} → looked_at here c ≡ Err u
      → ended_by u ≡ right_by f here a x b c
  right-form a b x (Some i) q = seen-ended q
  right-form a b x None q = sym (ap (ended_in here) q)

  right-ended : (la ra : Answer) {x : TypeInner} {u : Unresolved} → looked_by fr s here la ≡ Ok x
      → looked_by fr s here ra ≡ Err u
      → ended_by u ≡ left_read f fr s here ra la
  right-ended (Err (Un.Refused e)) ra p q = ended-seen p
  right-ended (Err (Un.Newer r)) ra p q = ended-seen p
  right-ended (Ok a) (Err (Un.Refused e)) p q = sym (ap (ended_in here) q)
  right-ended (Ok a) (Err (Un.Newer r)) p q = sym (ap (ended_in here) q)
  right-ended (Ok a) (Ok b) {x} p q =
      right-form (resolved a) (resolved b) x (form_in fr s (resolved b)) q
      ∙ sym (ap (left_by f fr s here (resolved a) (resolved b)) (known here (form_in fr s (resolved a)) p))

  left-form : (a b : TypeAnswer) (c : Option TypeInner) {u : Unresolved} → looked_at here c ≡ Err u → newer (row here)
      ≡ left_by f fr s here a b c
  left-form a b (Some i) q = seen-ended q
  left-form a b None q = refl

  left_ended : (la ra : Answer) {u : Unresolved} → looked_by fr s here la ≡ Err u → left_end here ra la
      ≡ left_read f fr s here ra la
  left_ended (Err (Un.Refused e)) ra p = refl
  left_ended (Err (Un.Newer r)) ra p = refl
  left_ended (Ok a) (Err (Un.Refused e)) p = refl
  left_ended (Ok a) (Err (Un.Newer r)) p = refl
  left_ended (Ok a) (Ok b) p = left-form (resolved a) (resolved b) (form_in fr s (resolved a)) p

  module _ (an pl : List ℕ) (l r : RowNumber) where
    pub both-seen : {x y : TypeInner} → looked_in fr s an pl here l ≡ Ok x
        → looked_in fr s an pl here r ≡ Ok y
        → (v : Result Typed)
        → ((a b : TypeResolution) → answer_in an pl l ≡ Ok a → answer_in an pl r ≡ Ok b → v
        ≡ told (f (resolved a) (resolved b) x y))
        → v ≡ ruled fr s an pl (by_both here l r f)
    unfolding looked_in
    both-seen p q v h = both (answer_in an pl l) (answer_in an pl r) p q v h ∙ sym (both_run fr s an pl here f l r)

    pub right-unseen : {x : TypeInner} {u : Unresolved} → looked_in fr s an pl here l ≡ Ok x
        → looked_in fr s an pl here r ≡ Err u
        → ended_by u ≡ ruled fr s an pl (by_both here l r f)
    unfolding looked_in
    right-unseen p q = right-ended (answer_in an pl l) (answer_in an pl r) p q ∙ sym (both_run fr s an pl here f l r)

    pub left-unseen : {u : Unresolved} → looked_in fr s an pl here l ≡ Err u
        → left_end here (answer_in an pl r) (answer_in an pl l) ≡ ruled fr s an pl (by_both here l r f)
    unfolding looked_in
    left-unseen p = left_ended (answer_in an pl l) (answer_in an pl r) p ∙ sym (both_run fr s an pl here f l r)
