-- A rule's outcome rests on earlier answers as they are, wherever they stand: two ways to have the same answers give
-- the same outcome. By the steps of the rule.
use mathlib.Core.Path.{◌≡◌, refl, sym, ap, ◌∙◌}
use mathlib.Core.Option.{Option, none, some}
use Rattle.ir.specs.declared.RowNumber.{RowNumber}
use Rattle.rule.specs.Answers.{Typed, Place, Result, told, newer}
use Rattle.rule.specs.Things.{Thing, Seen, Sight}
use Rattle.rule.specs.Rule.{Rule, done, come, past, Answers, run}

module _ (sight : Sight) (one two : Answers) (same : (n : RowNumber) → one n ≡ two n) {A : Type 0}
    (new : Place → Result A) where
  pub run-same : (rule : Rule A) → run sight one new rule ≡ run sight two new rule
  run-same (done a) = refl
  run-same (come p c k) = go (sight c) refl (λ x. run-same (k x))
    where
      go : (s : Option (Seen c)) → sight c ≡ s → ((x : Seen c) → run sight one new (k x) ≡ run sight two new (k x))
          → run sight one new (come p c k) ≡ run sight two new (come p c k)
      go none q h = rw (q, run)
      go (some x) q h = rw (q, run) (h x)
  run-same (past n at k) = go (two n) refl (λ x. run-same (k x))
    where
      go : (r : Result Typed) → two n ≡ r → ((x : Typed) → run sight one new (k x) ≡ run sight two new (k x))
          → run sight one new (past n at k) ≡ run sight two new (past n at k)
      go (told t) q h = rw (same n, q, run) (h t)
      go (newer p) q h = rw (same n, q, run)
