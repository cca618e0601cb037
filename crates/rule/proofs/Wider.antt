-- A reader that sees more, by the same rules, is a later reader: what was not newer to the one that sees less, both
-- answer alike.
-- By the claim, with the wider reader's own answers as the choices.
use Prim.Native.Nat.{ℕ, zero, suc}
use mathlib.Core.Path.{◌≡◌, refl, sym, ◌∙◌, ap}
use mathlib.Core.List.{List, [], ◌∷◌, ◌++◌}
use mathlib.Core.Option.{Option, none, some}
use Rattle.ir.specs.declared.RowNumber.{RowNumber}
use Rattle.rule.specs.Answers.{Typed, Place, Result, told, newer}
use Rattle.rule.specs.Things.{Thing, Seen, Sight}
use Rattle.rule.specs.Rule.{Rule, done, come, past, Answers, run, met}
use Rattle.rule.specs.InOrder.{among, answers, ours, later, reading}
use Rattle.rule.proofs.Later.{claim}

module _ (less more : Sight) (wider : (c : Thing) (s : Seen c) → less c ≡ some s → more c ≡ some s) where
  one-rule : {A : Type 0} (earlier : Answers) (new : Place → Result A) (v : Result A) (rule : Rule A)
      → run more earlier new rule ≡ v
      → run less earlier (λ p. v) rule ≡ v
  one-rule earlier new v (done a) e = e
  one-rule earlier new v (come p c k) e = go (less c) refl (λ s. one-rule earlier new v (k s))
    where
      go : (o : Option (Seen c)) → less c ≡ o
          → ((s : Seen c) → run more earlier new (k s) ≡ v → run less earlier (λ p. v) (k s) ≡ v)
          → run less earlier (λ p. v) (come p c k) ≡ v
      go none q h = rw (q, run)
      go (some s) q h = rw (q, run) (h s (rw (wider c s q, run) at e))
  one-rule earlier new v (past n at k) e = go (earlier n) refl (λ t. one-rule earlier new v (k t))
    where
      go : (o : Result Typed) → earlier n ≡ o
          → ((t : Typed) → run more earlier new (k t) ≡ v → run less earlier (λ p. v) (k t) ≡ v)
          → run less earlier (λ p. v) (past n at k) ≡ v
      go (told t) q h = rw (q, run) (h t (rw (q, run) at e))
      go (newer p) q h = rw (q, run) (rw (q, run) at e)

  module _ (rules : ℕ → Rule Typed) where
    fresh : ℕ → Result Typed
    fresh n = ours more rules n (rules n)

    all-rows : (n : ℕ) → answers less rules (λ m p. fresh m) n ≡ answers more rules (λ m. newer) n
    unfolding fresh
    all-rows zero = refl
    all-rows (suc n) =
        rw (all-rows n) (ap (λ (a : Result Typed). answers more rules (λ m. newer) n ++ (a ∷ []))
        (one-rule (among (answers more rules (λ m. newer) n)) newer (fresh n) (rules n) refl))

    pub carried : {A : Type 0} (n : ℕ) (rule : Rule A) → met less (reading less rules n rule) ≡ none
        → ours less rules n rule ≡ ours more rules n rule
    unfolding fresh
    carried n rule h =
        (claim less rules fresh n (ours more rules n rule) rule).same h
        ∙ ap (λ (l : List (Result Typed)). run less (among l) (λ p. ours more rules n rule) rule) (all-rows n)
        ∙ one-rule (among (answers more rules (λ m. newer) n)) newer (ours more rules n rule) rule refl
