-- THE ROWS OF A FILE CARRIED INTO ANOTHER: every kept row answers in the second as in the first, in either pass, with
-- its numbers moved, where a kept row's reading comes to kept rows only. By the law of moved numbers (Alike.antt,
-- Rules.antt) and what carried things show (Carried.antt).
use Prim.Native.Nat.{ℕ, ◌<◌}
use native.Mathlib.Omega.{arith}
use mathlib.Core.Path.{◌≡◌}
use mathlib.Core.List.{List}
use Rattle.ir.specs.declared.RowNumber.{RowNumber}
use Rattle.archive.specs.Starts.{starts_of, row_count}
use Rattle.rule.specs.Answers.{newer}
use Rattle.rule.specs.Things.{kind, see}
use Rattle.rule.specs.Rule.{Answers}
use Rattle.rule.specs.InOrder.{among, answers, ours}
use Rattle.rule_rows.specs.declared.Pass.{Pass}
use Rattle.rule_rows.specs.Typed.{typing}
use Rattle.law_rows.proofs.Good.{Good}
use Rattle.law_rows.proofs.Rules.{rule-keeps}
use Rattle.law_rows.proofs.Range.{range, row-there}
use Rattle.law_moved.specs.Moves.{Moves, typed_to, result_to}
use Rattle.law_moved.proofs.Alike.{Along, rows_alike}
use Rattle.law_moved.proofs.Rules.{typing-alike}
use Rattle.law_moved.proofs.Carries.{Carries}
use Rattle.law_moved.proofs.Carried.{shows-there}
use Rattle.law_moved.proofs.Ranged.{along-all, along-both, along-weaken, along-within, answer-later, plain-ours}

module _ (pass : Pass) (fr : List ℕ) (good : Good fr) where
  -- the first n rows' answers
  abbrev before : ℕ → Answers
  before n = among (answers (see fr) (typing pass) (λ m. newer) n)

  -- along a row's run: a row of the file whose kind is come to is kept, and so is every row read
  abbrev pub KeptAlong : (ℕ → Type 0) → ℕ → Type 0
  KeptAlong kept n = Along (see fr) (before n) (λ c. (r : RowNumber) → c ≡ kind r → kept r.0) (λ r. kept r.0)
      (typing pass n)

  module _ (m : Moves) (kept : ℕ → Type 0) (gr : List ℕ) (to : Carries m kept fr gr)
      (rises : (k n : ℕ) → kept k → kept n → k < n → m.rows k < m.rows n)
      (reads : (n : ℕ) → kept n → n < row_count (starts_of fr) → KeptAlong kept n) where
    pub rows-carried : (n : ℕ) → kept n → n < row_count (starts_of fr)
        → ours (see gr) (typing pass) (m.rows n) (typing pass (m.rows n))
        ≡ result_to m (typed_to m) (ours (see fr) (typing pass) n (typing pass n))
    rows-carried n h l =
        rows_alike m (see fr) (see gr) (typing pass) (λ k. kept k × (k < row_count (starts_of fr)))
        (λ k j a b c. rises k j a.0 b.0 c) (typing-alike m pass)
        (λ k w.
        along-weaken (λ c x. shows-there m kept fr gr good to c x.0 x.1)
        (λ r x. ((x.1, omega (arith, x.0, w.1)), x.0))
        (along-both
        (along-within pass fr k (before k)
        (λ r q. answer-later pass fr r.0 k (omega arith) (before k r)
        (range pass fr good k (omega (arith, w.1)) r.0 q))
        (rule-keeps pass fr good k (row-there fr k w.1)))
        (reads k w.0 w.1)))
        (λ k w. plain-ours pass fr good k w.1) n (h, l)
    -- where all rows are kept

  pub all-along : (n : ℕ) → KeptAlong (λ k. Unit {0}) n
  all-along n = along-all (λ c r q. tt) (λ r. tt) (typing pass n)
