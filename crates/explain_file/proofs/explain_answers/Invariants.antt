-- The invariant: the lines passed stand at the front of the output, and the next row is counted.
use Rattle.std.proofs.Common.{◌≡◌, ◌≤◌, ℕ, List}
use Rattle.ir.specs.declared.RowNumber.{RowNumber}
use Rattle.rule_explain.specs.Explained.{row_at, line_at}
use Rattle.explain_file.proofs.Fitting.{After}
use Rattle.explain_file.proofs.explain_answers.Given as goal

-- k lines are written, as far as at, and row is that of the next; the other bytes of the output are as they
-- were
pub record Inv (frames answers out₀ out : List ℕ) (k at : ℕ) (row : RowNumber) : Type 0 where
  pub counted : row ≡ row_at answers k
  pub small : row.0 ≤ k
  pub written : After (line_at frames answers) k out₀ at out

abbrev pub invariant-loop-k : goal.invariant-loop-k
invariant-loop-k l = Inv l.frames l.answers l.initial.out l.out l.k l.at l.row
