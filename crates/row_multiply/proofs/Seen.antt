-- What Multiply comes to where both operands show a form: a product, as the code hands it on, is the rule's.
use Rattle.std.specs.Prelude.{Ok}
use Prim.Native.Nat.{ℕ}
use mathlib.Core.Path.{◌≡◌, refl, sym, ap, ◌∙◌}
use mathlib.Core.List.{List}
use Rattle.ir.specs.declared.RowNumber.{RowNumber}
use Rattle.ir.specs.declared.TypeInner.{TypeInner}
use Rattle.ir.specs.declared.TypeResolution.{TypeResolution}
use Rattle.archive.specs.declared.Starts.{Starts}
use Rattle.rule.specs.Answers.{TypeAnswer, resolved, told}
use Rattle.rule_rows.specs.Operators.{product, multiply}
use Rattle.rule_rows.specs.OverBuffer.{answer_in, ruled}
use Rattle.row_operands.specs.Past.{looked_in}
use Rattle.row_operands.proofs.TwoOperands.{both-seen}
use Rattle.row_multiply.specs.declared.Times.{Times}
use Rattle.row_multiply.specs.declared.Times.TheVariants as Tm
use Rattle.row_multiply.specs.Timed.{timed, times_of}

by-times : (a b : TypeResolution) (t : Times) → times_of (Ok a) (Ok b) t
    ≡ told (timed (resolved a) (resolved b) t)
by-times a b Tm.Left = refl
by-times a b Tm.Right = refl
by-times a b (Tm.Value t) = refl
by-times a b Tm.Incompatible = refl

module _ (fr : List ℕ) (s : Starts) (here : RowNumber) (an pl : List ℕ) (l r : RowNumber) where
  pub times-seen : {x y : TypeInner} → looked_in fr s an pl here l ≡ Ok x → looked_in fr s an pl here r ≡ Ok y
      → (by : Times) → ((a b : TypeAnswer) → product a b x y ≡ timed a b by)
      → times_of (answer_in an pl l) (answer_in an pl r) by ≡ ruled fr s an pl (multiply here l r)
  times-seen p q by h =
      both-seen product fr s here an pl l r p q (times_of (answer_in an pl l) (answer_in an pl r) by)
      (λ a b u v. ap (λ x. times_of x (answer_in an pl r) by) u ∙ ap (λ y. times_of (Ok a) y by) v
      ∙ by-times a b by ∙ sym (ap told (h (resolved a) (resolved b))))
