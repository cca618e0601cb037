-- `vector_parts`: what is left to add gives what the whole gives; each component adds at most four.
use Prim.Native.Nat.{ℕ, ◌*◌, ◌≤◌}
use mathlib.Core.Path.{◌≡◌}
use mathlib.Core.List.{List}
use lib.ListN.{drop}
use Rattle.ir.specs.declared.ComponentNumber.{ComponentNumber}
use Rattle.ir.specs.declared.VectorSize.{VectorSize}
use Rattle.ir.specs.declared.Scalar.{Scalar}
use Rattle.archive.specs.declared.Starts.{Starts}
use Rattle.rule_compose.specs.Verdict.{vector_parts}
use Rattle.rule_rows.specs.OverBuffer.{judged_by}
use Rattle.rule_compose.specs.ForProofs.{parts_in}
use Rattle.verdict_compose.proofs.vector.vector_parts.Given as goal

-- i components are added, at most four each; with those that are left they give what the whole gives
pub record Inv (frames answers places : List ℕ) (s : Starts) (z : VectorSize) (k : Scalar) (first : ComponentNumber)
    (count i total : ℕ) : Type 0 where
  pub small : total ≤ 4 * i
  pub same : judged_by frames s answers places (vector_parts z k 0 0 (parts_in frames s first count))
      ≡ judged_by frames s answers places (vector_parts z k i total (drop i (parts_in frames s first count)))

abbrev pub invariant-loop-i : goal.invariant-loop-i
invariant-loop-i l = Inv l.ctx.frames.now l.ctx.answers.now l.ctx.places.now l.ctx.starts l.size l.scalar l.first
    l.count l.i l.total
