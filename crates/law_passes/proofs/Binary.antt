-- `binary-one`: of a Binary row of an accepted text exactly one of the five cases holds in the second pass, and what it
-- says is what `row_type` gives. Both the rule and the cases come to one function of the operands' answers and forms.
use Rattle.std.specs.Prelude.{Ok}
use Prim.Native.Nat.{ℕ, ◌<◌}
use native.Mathlib.Omega.{arith}
use mathlib.Core.Path.{◌≡◌, refl, sym, ap, subst, ◌∙◌}
use mathlib.Core.Bool.{Bool, cond}
use mathlib.Core.List.{List}
use mathlib.Core.Logic.{◌⊎◌, inl, inr}
use mathlib.Core.Option.{Option, none, some}
use Rattle.ir.specs.declared.RowNumber.{RowNumber}
use Rattle.ir.specs.declared.TypeInner.{TypeInner}
use Rattle.answers.specs.declared.Refusal.TheVariants.{Mismatch}
use Rattle.text.specs.declared.AnswerRoom.TheVariants.{Lent}
use Rattle.text.specs.Lines.{decoded}
use Rattle.archive.specs.Starts.{starts_of, row_count}
use Rattle.rule.specs.Answers.{TypeAnswer, value, Typed, given, refused, chosen_refusal, row, Result, told, newer}
use Rattle.rule.specs.Things.{Form, kind, form, see}
use Rattle.rule.specs.Things as Row
use Rattle.rule.specs.Rule.{run}
use Rattle.rule.specs.InOrder.{among, answers}
use Rattle.rule_types.proofs.Seen.{never}
use Rattle.rule_rows.specs.declared.Pass.TheVariants.{Second}
use Rattle.rule_rows.specs.Wgsl.{wgsl_result}
use Rattle.rule_rows.specs.Operators.{or_mismatch}
use Rattle.rule_rows.specs.Typed.{typing}
use Rattle.rule_rows.proofs.Wgsl.{wgsl-is}
use Rattle.rule_answers.specs.Outputs.{row_answer}
use Rattle.rule_file.specs.File.{over_file, read_file}
use Rattle.rule_file.specs.Typing.{RowGiven, answer, no_row, not_accepted, row_given, row_type}
use Rattle.law_rows.proofs.Good.{Good}
use Rattle.law_rows.proofs.Range.{row-there}
use Rattle.law_file.proofs.Laws.{accepted-when}
use Rattle.law_passes.specs.Passes.{IsBinary, operator_at, left_at, right_at}
use Rattle.law_passes.specs.Binary.{GivesType, NoType, BinaryCase, left_given, right_given, BinaryGives, OneCase}
use Rattle.law_passes.specs.Binary.{left_passed, right_passed, unknown_kind, judged, mismatched}
use Rattle.law_passes.specs.Binary.{of_left, of_right, of_unknown, of_line, of_none}
use Rattle.law_passes.proofs.Judged.{binary-shown, earlier, among-rows}

-- THE FUNCTION, over what each row is given, where the operands are given l and r
module _ (gives : RowNumber → RowGiven) (fr : List ℕ) (n : ℕ) where
  abbrev Decided : Type 0
  Decided = BinaryCase × RowGiven

  abbrev by_result : Option TypeInner → Decided
  by_result (some t) = (judged, answer (told (given (value t))))
  by_result none = (mismatched, answer (told (refused Mismatch)))

  abbrev by_forms : Option Form → Option Form → Decided
  by_forms none y = (unknown_kind, answer (newer (row (record { 0 = n }))))
  by_forms (some x) none = (unknown_kind, answer (newer (row (record { 0 = n }))))
  by_forms (some x) (some y) = by_result (wgsl_result (operator_at fr n) x.inner y.inner)

  abbrev by_right : TypeAnswer → Result Typed → Decided
  by_right a (told (given b)) = by_forms (see fr (form a)) (see fr (form b))
  by_right a (told (refused e)) = (right_passed, answer (told (refused e)))
  by_right a (told (chosen_refusal f)) = (right_passed, answer (told (chosen_refusal f)))
  by_right a (newer p) = (right_passed, answer (newer p))

  abbrev by_left : Result Typed → Result Typed → Decided
  by_left (told (given a)) r = by_right a r
  by_left (told (refused e)) r = (left_passed, answer (told (refused e)))
  by_left (told (chosen_refusal f)) r = (left_passed, answer (told (chosen_refusal f)))
  by_left (newer p) r = (left_passed, answer (newer p))

  abbrev Holds : Decided → Type 0
  Holds d = BinaryGives gives fr n d.0 d.1

  abbrev Is : BinaryCase → RowGiven → Decided → Type 0
  Is c g d = (c ≡ d.0) × (g ≡ d.1)

  -- its case holds
  module _ (a b : TypeAnswer) (el : GivesType (left_given gives fr n) a)
      (er : GivesType (right_given gives fr n) b) where
    result-holds : (x y : Form) → see fr (form a) ≡ some x → see fr (form b) ≡ some y → (o : Option TypeInner)
        → wgsl_result (operator_at fr n) x.inner y.inner ≡ o → Holds (by_result o)
    result-holds x y p q (some t) e = of_line a b el er x y p q t ((wgsl-is _ _ _ t).0 e)
    result-holds x y p q none e = of_none a b el er x y p q (λ t line. never (cc ((wgsl-is _ _ _ t).1 line)))

    forms-hold : (x y : Option Form) → see fr (form a) ≡ x → see fr (form b) ≡ y → Holds (by_forms x y)
    forms-hold none y p q = of_unknown a b el er (inl p)
    forms-hold (some x) none p q = of_unknown a b el er (inr q)
    forms-hold (some x) (some y) p q = result-holds x y p q _ refl

  right-holds : (a : TypeAnswer) (r : Result Typed) → GivesType (left_given gives fr n) a
      → right_given gives fr n ≡ answer r → Holds (by_right a r)
  right-holds a (told (given b)) el er = forms-hold a b el er _ _ refl refl
  right-holds a (told (refused e)) el er = subst (λ (g : RowGiven). Holds (right_passed, g)) er
      (of_right a el (λ b q. never (cc)))
  right-holds a (told (chosen_refusal f)) el er = subst (λ (g : RowGiven). Holds (right_passed, g)) er
      (of_right a el (λ b q. never (cc)))
  right-holds a (newer p) el er = subst (λ (g : RowGiven). Holds (right_passed, g)) er
      (of_right a el (λ b q. never (cc)))

  left-holds : (l r : Result Typed) → left_given gives fr n ≡ answer l → right_given gives fr n ≡ answer r
      → Holds (by_left l r)
  left-holds (told (given a)) r el er = right-holds a r el er
  left-holds (told (refused e)) r el er = subst (λ (g : RowGiven). Holds (left_passed, g)) el
      (of_left (λ b q. never (cc)))
  left-holds (told (chosen_refusal f)) r el er = subst (λ (g : RowGiven). Holds (left_passed, g)) el
      (of_left (λ b q. never (cc)))
  left-holds (newer p) r el er = subst (λ (g : RowGiven). Holds (left_passed, g)) el (of_left (λ b q. never (cc)))

  -- and no other does
  module _ (l r : Result Typed) (el : left_given gives fr n ≡ answer l) (er : right_given gives fr n ≡ answer r) where
    only-left : (x : Result Typed) → l ≡ x → NoType (left_given gives fr n)
        → Is left_passed (left_given gives fr n) (by_left x r)
    only-left (told (given a)) q h = absurd (h a (cc))
    only-left (told (refused e)) q h = (refl, cc)
    only-left (told (chosen_refusal f)) q h = (refl, cc)
    only-left (newer p) q h = (refl, cc)

    only-right : (a : TypeAnswer) (x : Result Typed) → r ≡ x → NoType (right_given gives fr n)
        → Is right_passed (right_given gives fr n) (by_right a x)
    only-right a (told (given b)) q h = absurd (h b (cc))
    only-right a (told (refused e)) q h = (refl, cc)
    only-right a (told (chosen_refusal f)) q h = (refl, cc)
    only-right a (newer p) q h = (refl, cc)

    only-unknown : (x y : Option Form) → (x ≡ none) ⊎ (y ≡ none)
        → Is unknown_kind (answer (newer (row (record { 0 = n })))) (by_forms x y)
    only-unknown none y h = (refl, refl)
    only-unknown (some x) none h = (refl, refl)
    only-unknown (some x) (some y) (inl e) = never (cc)
    only-unknown (some x) (some y) (inr e) = never (cc)

    of-left : {a : TypeAnswer} → GivesType (left_given gives fr n) a → l ≡ told (given a)
    of-left h = cc

    of-right : {b : TypeAnswer} → GivesType (right_given gives fr n) b → r ≡ told (given b)
    of-right h = cc

    none-given : (x y : Form) → ((t : TypeInner) → wgsl_result (operator_at fr n) x.inner y.inner ≡ some t → ⊥)
        → wgsl_result (operator_at fr n) x.inner y.inner ≡ none
    none-given x y h = go (wgsl_result (operator_at fr n) x.inner y.inner) refl
      where
        go : (o : Option TypeInner) → wgsl_result (operator_at fr n) x.inner y.inner ≡ o
            → wgsl_result (operator_at fr n) x.inner y.inner ≡ none
        go none q = q
        go (some t) q = absurd (h t q)

    only-this : (c : BinaryCase) (g : RowGiven) → BinaryGives gives fr n c g → Is c g (by_left l r)
    only-this _ _ (of_left h) = only-left l refl h
    only-this _ _ (of_right a p h) = rw (of-left p) (only-right a r refl h)
    only-this _ _ (of_unknown a b p q h) =
        rw (of-left p, of-right q) (only-unknown (see fr (form a)) (see fr (form b)) h)
    only-this _ _ (of_line a b p q x y u v t line) =
        rw (of-left p, of-right q, u, v, (wgsl-is _ _ _ t).1 line) (refl, refl)
    only-this _ _ (of_none a b p q x y u v h) =
        rw (of-left p, of-right q, u, v, none-given x y (λ t e. h t ((wgsl-is _ _ _ t).0 e))) (refl, refl)

-- A BINARY ROW OF AN ACCEPTED TEXT
module _ (limit : ℕ) (t : List ℕ) (f a k : ℕ) (e : read_file limit t f (Lent a) ≡ Ok k) (n : ℕ)
    (here : n < row_count (starts_of (decoded t k))) (is : IsBinary (decoded t k) n) where
  abbrev fr : List ℕ
  fr = decoded t k

  good : Good fr
  good =
      let q = (accepted-when limit t f (Lent a) k).0 e in
      record { order = q.order; fields = q.fields; index = q.index }

  abbrev gives : RowNumber → RowGiven
  gives = row_type Second limit t f a

  -- what `row_type` gives for a row of the file
  given_is : (m : ℕ) → m < row_count (starts_of fr) → gives (record { 0 = m }) ≡ answer (row_answer Second (see fr) m)
  unfolding row_type
  given_is m l =
      ap (over_file not_accepted (row_given Second (record { 0 = m })) t) e
      ∙ ap (λ (b : Bool). cond b (answer (row_answer Second (see fr) m)) no_row) (row-there fr m l)

  abbrev left : Result Typed
  left = row_answer Second (see fr) (left_at fr n)

  abbrev right : Result Typed
  right = row_answer Second (see fr) (right_at fr n)

  left_is : left_given gives fr n ≡ answer left
  left_is = given_is (left_at fr n) (omega (arith, (earlier fr good n here is).0))

  right_is : right_given gives fr n ≡ answer right
  right_is = given_is (right_at fr n) (omega (arith, (earlier fr good n here is).1))

  -- the rule, run
  shown : see fr (kind (record { 0 = n }))
      ≡ some (Row.binary (operator_at fr n) (record { 0 = left_at fr n }) (record { 0 = right_at fr n }))
  shown = binary-shown fr good n here is

  left-read : among (answers (see fr) (typing Second) (λ m. newer) n) (record { 0 = left_at fr n }) ≡ left
  left-read = among-rows fr good n here is (left_at fr n) (earlier fr good n here is).0

  right-read : among (answers (see fr) (typing Second) (λ m. newer) n) (record { 0 = right_at fr n }) ≡ right
  right-read = among-rows fr good n here is (right_at fr n) (earlier fr good n here is).1

  own-forms : (a b : TypeAnswer) → left ≡ told (given a) → right ≡ told (given b) → (x y : Option Form)
      → see fr (form a) ≡ x → see fr (form b) ≡ y
      → answer (row_answer Second (see fr) n) ≡ (by_forms gives fr n x y).1
  own-forms a b p q none y u v = rw (shown, left-read, p, right-read, q, u, run)
  own-forms a b p q (some x) none u v = rw (shown, left-read, p, right-read, q, u, v, run)
  own-forms a b p q (some x) (some y) u v = rw (shown, left-read, p, right-read, q, u, v, run)
      (by-result (wgsl_result (operator_at fr n) x.inner y.inner))
    where
      by-result : (o : Option TypeInner) → answer (told (or_mismatch o)) ≡ (by_result gives fr n o).1
      by-result none = refl
      by-result (some w) = refl

  own : (l r : Result Typed) → left ≡ l → right ≡ r → answer (row_answer Second (see fr) n) ≡ (by_left gives fr n l r).1
  own (told (given x)) (told (given y)) p q = own-forms x y p q _ _ refl refl
  own (told (given x)) (told (refused w)) p q = rw (shown, left-read, p, right-read, q, run)
  own (told (given x)) (told (chosen_refusal w)) p q = rw (shown, left-read, p, right-read, q, run)
  own (told (given x)) (newer w) p q = rw (shown, left-read, p, right-read, q, run)
  own (told (refused w)) r p q = rw (shown, left-read, p, run)
  own (told (chosen_refusal w)) r p q = rw (shown, left-read, p, run)
  own (newer w) r p q = rw (shown, left-read, p, run)

  own_is : gives (record { 0 = n }) ≡ (by_left gives fr n left right).1
  own_is = given_is n here ∙ own left right refl refl

  pub binary-one : OneCase (row_type Second limit t f a) (decoded t k) n
  binary-one = record {
    which = (by_left gives fr n left right).0;
    holds = subst (BinaryGives gives fr n (by_left gives fr n left right).0) (sym own_is)
        (left-holds gives fr n left right left_is right_is);
    only = λ c g h. let q = only-this gives fr n left right left_is right_is c g h in (q.0, q.1 ∙ sym own_is);
  }
