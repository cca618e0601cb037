-- The sweep, turn by turn.
use mathlib.Core.Path.{◌≡◌, refl, ap, ◌∙◌}
use Prim.Native.Nat.{ℕ, zero, suc, ◌-◌, ◌<◌, ◌≤◌}
use native.Mathlib.Omega.{arith}
use mathlib.Core.Bool.{Bool, true, false}
use mathlib.Core.List.{List}
use lib.ListN.{get_or, set, replicate}
use Rattle.archive.specs.declared.Starts.{Starts}
use Rattle.archive.specs.Access.{row_in}
use Rattle.law_cut.specs.Marks.{set_each, sweep, marks_by}
use Rattle.row_marks.specs.declared.Operands.{Operands}
use Rattle.row_marks.specs.Reads.{of_row, read_in, list_of, reads_in}

pred : (i : ℕ) → suc i - 1 ≡ i
pred i = omega arith

module _ (reads : ℕ → List ℕ) where
  pub sweep-first : (n : ℕ) {m : List Bool} → m ≡ set (replicate 1024 false) n true → sweep reads 1024 m
      ≡ marks_by reads n
  unfolding marks_by
  sweep-first n e = ap (sweep reads 1024) e

  pub sweep-last : (m : List Bool) (k : ℕ) → k ≤ 0 → sweep reads k m ≡ m
  unfolding sweep
  sweep-last m zero h = refl
  sweep-last m (suc k) h = absurd (omega arith)

  pub sweep-yes : (k : ℕ) (m : List Bool) {l : List ℕ} → 0 < k → get_or m (k - 1) false ≡ true → l ≡ reads (k - 1)
      → sweep reads (k - 1) (set_each m l) ≡ sweep reads k m
  unfolding sweep
  sweep-yes zero m h t e = absurd (omega arith)
  sweep-yes (suc i) m h t e = let u : get_or m i false ≡ true = rw (pred i) at t in rw (e, pred i, u)

  pub sweep-no : (k : ℕ) (m : List Bool) → 0 < k → get_or m (k - 1) false ≡ false → sweep reads (k - 1) m
      ≡ sweep reads k m
  unfolding sweep
  sweep-no zero m h t = absurd (omega arith)
  sweep-no (suc i) m h t = let u : get_or m i false ≡ false = rw (pred i) at t in rw (pred i, u)

-- what the code reads of row k
pub read_is : (fr : List ℕ) (s : Starts) (answers places : List ℕ) (k : ℕ) {o p : Operands} → o
    ≡ of_row (row_in fr s (record { 0 = k })) → p ≡ read_in answers places o
    → list_of p ≡ reads_in fr s answers places k
unfolding reads_in
read_is fr s answers places k e d = ap list_of (d ∙ ap (read_in answers places) e)
