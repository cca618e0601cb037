-- What a later reader is (document 01, "A row's type"): it takes the rows in order, over its own earlier answers; each
-- follows its rule, and where the rule itself comes to a newer thing its answer is the chosen one. Four laws, one for
-- each way that a rule goes on; that of an earlier row is of the rows before the one in hand. By the definitions.
use Prim.Native.Nat.{ℕ, ◌<◌}
use mathlib.Core.Path.{◌≡◌, refl, ap, ◌∙◌}
use mathlib.Core.Option.{none, some}
use Rattle.ir.specs.declared.RowNumber.{RowNumber}
use Rattle.rule.specs.Answers.{Typed, Place, Result, told, newer}
use Rattle.rule.specs.Things.{Thing, Seen, Sight}
use Rattle.rule.specs.Rule.{Rule, done, come, past, run}
use Rattle.rule.specs.InOrder.{absent, among, answers, later}
use Rattle.rule.proofs.InOrder.{in-order-at}

-- with a row's answer, or where that is newer
abbrev pub on_result : {A : Type 0} → Result Typed → (Typed → Result A) → (Place → Result A) → Result A
on_result (told t) f g = f t
on_result (newer p) f g = g p

module _ (sight : Sight) (rules : ℕ → Rule Typed) (choice : ℕ → Result Typed) where
  -- its own answer of row m: by that row's rule, with the choice for that row
  abbrev pub own : ℕ → Result Typed
  own m = later sight rules choice m (choice m) (rules m)

  module _ {A : Type 0} (n : ℕ) (c : Result A) where
    pub later-done : (a : A) → later sight rules choice n c (done a) ≡ told a
    later-done a = refl

    -- a newer thing: the chosen outcome
    pub later-newer : (p : Place) (x : Thing) (k : Seen x → Rule A) → sight x ≡ none
        → later sight rules choice n c (come p x k) ≡ c
    later-newer p x k q = rw (q, run)

    -- any other thing is seen, and the rule goes on with it
    pub later-seen : (p : Place) (x : Thing) (k : Seen x → Rule A) (s : Seen x) → sight x ≡ some s
        → later sight rules choice n c (come p x k) ≡ later sight rules choice n c (k s)
    later-seen p x k s q = rw (q, run)

    own-among : (m : ℕ) → m < n → among (answers sight rules (λ j p. choice j) n) (record { 0 = m }) ≡ own m
    own-among m h = in-order-at _ (told absent) n m h

    past_by : (m : RowNumber) (at : Place → Place) (k : Typed → Rule A) (r : Result Typed)
        → among (answers sight rules (λ j p. choice j) n) m ≡ r
        → later sight rules choice n c (past m at k)
        ≡ on_result r (λ t. later sight rules choice n c (k t)) (λ p. newer (at p))
    past_by m at k (told t) q = rw (q, run)
    past_by m at k (newer p) q = rw (q, run)

    -- an earlier row: it goes on with its own answer of that row, and passes a newer one on
    pub later-past : (m : ℕ) (at : Place → Place) (k : Typed → Rule A) → m < n
        → later sight rules choice n c (past (record { 0 = m }) at k)
        ≡ on_result (own m) (λ t. later sight rules choice n c (k t)) (λ p. newer (at p))
    later-past m at k h = past_by (record { 0 = m }) at k (own m) (own-among m h)
