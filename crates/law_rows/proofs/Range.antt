-- The range of answers: every answer of ours over an accepted file is a type of the file or a value that a comparison
-- gives neither 5 nor 6, a refusal 10 to 20, in the second pass 41 too, or newer at the row itself or an earlier one.
-- Row by row, since every rule keeps within the file.
use Prim.Native.Nat.{ℕ, ◌≤◌, ◌<◌}
use native.Mathlib.Omega.{arith}
use mathlib.Core.Path.{◌≡◌, refl}
use mathlib.Core.Bool.{true}
use mathlib.Core.List.{List}
use mathlib.Core.Option.{Option, none, some}
use lib.ListN.{get_or}
use borrow.Author.Tests.{lt-ltb}
use Rattle.ir.specs.declared.RowNumber.{RowNumber}
use Rattle.archive.specs.Starts.{starts_of, row_count}
use Rattle.archive.specs.Names.{is_row}
use Rattle.rule.specs.Answers.{Typed, Place, row, component, composed, nowhere, chosen, Result, told, newer}
use Rattle.rule.specs.Things.{Seen, see}
use Rattle.rule.specs.Rule.{Rule, come, past, Answers, run}
use Rattle.rule.specs.InOrder.{absent, among, answers, ours}
use Rattle.rule_rows.specs.declared.Pass.{Pass}
use Rattle.rule_rows.specs.Typed.{typing}
use Rattle.law_rows.proofs.Good.{Good}
use Rattle.law_rows.proofs.Ranged.{TypedInRange, PlaceInRange, InRange, Within, ends, comes, reads}
use Rattle.rule.proofs.InOrder.{in-order-all}
use Rattle.law_rows.proofs.Rules.{rule-keeps}

-- ONE RULE

-- a place that is in range of an earlier row is in range of a later one
pub place-later : (m n : ℕ) → m ≤ n → (p : Place) → PlaceInRange m p → PlaceInRange n p
place-later m n l (row r) h = omega arith
place-later m n l (component i) h = h
place-later m n l composed h = h
place-later m n l nowhere h = h
place-later m n l (chosen f) h = h

answer-later : (pass : Pass) (fr : List ℕ) (m n : ℕ) → m ≤ n → (a : Result Typed) → InRange pass fr m a
    → InRange pass fr n a
answer-later pass fr m n l (told t) h = h
answer-later pass fr m n l (newer p) h = place-later m n l p h

module _ (pass : Pass) (fr : List ℕ) (m : ℕ) where
  -- run over earlier answers that are in range, a rule that keeps within the file ends in range
  runs : (earlier : Answers) → ((n : RowNumber) → n.0 < m → InRange pass fr m (earlier n)) → {rule : Rule Typed}
      → Within pass fr m rule
      → InRange pass fr m (run (see fr) earlier newer rule)
  runs earlier all (ends h) = h
  runs earlier all (comes p c {k} place there next) = go (see fr c) refl (λ s q. runs earlier all (next s q))
    where
      go : (o : Option (Seen c)) → see fr c ≡ o
          → ((s : Seen c) → see fr c ≡ some s → InRange pass fr m (run (see fr) earlier newer (k s)))
          → InRange pass fr m (run (see fr) earlier newer (come p c k))
      go none q ih = rw (q, run) place
      go (some s) q ih = rw (q, run) (ih s q)
  runs earlier all (reads {n} {k} l next) = go (earlier n) refl (all n l) (λ t h. runs earlier all (next t h))
    where
      go : (o : Result Typed) → earlier n ≡ o → InRange pass fr m o
          → ((t : Typed) → TypedInRange pass (starts_of fr) t → InRange pass fr m (run (see fr) earlier newer (k t)))
          → InRange pass fr m (run (see fr) earlier newer (past n (λ p. p) k))
      go (told t) q h ih = rw (q, run) (ih t h)
      go (newer p) q h ih = rw (q, run) h

-- a row's number is below the number of rows
pub row-there : (fr : List ℕ) (m : ℕ) → m < row_count (starts_of fr) → is_row (starts_of fr) (record { 0 = m }) ≡ true
row-there fr m l = lt-ltb m (row_count (starts_of fr)) l

-- THE RANGE of the answers of the first n rows
pub range : (pass : Pass) (fr : List ℕ) → Good fr → (n : ℕ) → n ≤ row_count (starts_of fr) → (m : ℕ) → m < n
    → InRange pass fr m (get_or (answers (see fr) (typing pass) (λ m. newer) n) m (told absent))
range pass fr good =
    in-order-all (InRange pass fr) (λ earlier m. run (see fr) (among earlier) newer (typing pass m)) (told absent)
    (row_count (starts_of fr))
    (λ n l w all.
    runs pass fr n (among l) (λ r q. answer-later pass fr r.0 n (omega arith) (among l r) (all r.0 q))
    (rule-keeps pass fr good n (row-there fr n w)))

-- and so of the answer that the claim on later readers speaks of
pub ours-in-range : (pass : Pass) (fr : List ℕ) → Good fr → (n : ℕ) → n < row_count (starts_of fr)
    → InRange pass fr n (ours (see fr) (typing pass) n (typing pass n))
ours-in-range pass fr good n w =
    let earlier = answers (see fr) (typing pass) (λ m. newer) n in
    runs pass fr n (among earlier)
    (λ r q. answer-later pass fr r.0 n (omega arith) (among earlier r)
    (range pass fr good n (omega arith) r.0 q)) (rule-keeps pass fr good n (row-there fr n w))
