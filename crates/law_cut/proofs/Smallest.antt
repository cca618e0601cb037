-- THE SMALLEST: of all marks that hold the named row, and with each marked row what it reads, those of a row's reading
-- are the least. Each of its marks is reached from the named row by what rows read, and so no such set lacks it.
use Prim.Native.Nat.{ℕ, ◌<◌, ◌≤◌}
use native.Mathlib.Omega.{arith}
use mathlib.Core.Path.{◌≡◌}
use mathlib.Core.Bool.{Bool, true}
use mathlib.Core.List.{List}
use Rattle.archive.specs.Starts.{starts_of, row_count}
use Rattle.rule_rows.specs.declared.Pass.{Pass}
use Rattle.law_rows.proofs.Good.{Good}
use Rattle.law_cut.specs.Marks.{rows_read, max_marks, marks_of, is_marked}
use Rattle.law_cut.specs.Smallest.{Closed, Least}
use Rattle.law_cut.proofs.Sweep.{Reached, self, read, marks-sound, reached-le}
use Rattle.law_cut.proofs.Follows.{low, named-marked, read-marked}

module _ (pass : Pass) (fr : List ℕ) (good : Good fr) (n : ℕ) (there : n < row_count (starts_of fr))
    (few : row_count (starts_of fr) ≤ max_marks) where
  -- what is reached from the named row is in every such set
  reached-in : (other : List Bool) → Closed pass fr n other → {k : ℕ} → Reached (rows_read pass fr) n k
      → is_marked other k ≡ true
  reached-in other c self = c.named
  reached-in other c (read {k} {j} h x) =
      let w = reached-le (rows_read pass fr) (low pass fr good) n h in
      c.reads k j (reached-in other c h) (omega arith) x

  pub smallest : Least pass fr n (marks_of pass fr n)
  smallest =
      record {
        closed =
            record {
              named = named-marked pass fr good n there few;
              reads = λ k j h l x. read-marked pass fr good n there few k j h x;
            };
        least =
            λ other c k h. reached-in other c
            (marks-sound (rows_read pass fr) (low pass fr good) n (omega arith) k h);
      }
