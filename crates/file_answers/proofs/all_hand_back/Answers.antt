-- `all_hand_back`: the sum stays small, since a row hands back at most two frames and a file has few rows.
use native.Mathlib.Omega.{arith}
use mathlib.Core.Bool.{Bool, true, false, cond}
use mathlib.Core.Path.{ap}
use Prim.Native.Nat.{◌≤◌}
use lib.Dec.{eqb}
use Rattle.archive.specs.Starts.{row_count}
use Rattle.law_file.proofs.Row.{few-rows}
use Rattle.file_answers.proofs.all_hand_back.Goals as goal

two : (b : Bool) → cond b 2 1 ≤ 2
two true = omega arith
two false = omega arith

pub overflow_add-k : goal.overflow_add-k
overflow_add-k c =
    omega (
      arith,
      c.loop-m-test.true,
      c.loop-m.invariant.1,
      c.row_count-n.ensures,
      ap row_count c.requires.starts,
      few-rows c.args.frames.now c.requires.few,
      c.hands_back-k.ensures,
      two (eqb c.frame_at.result.b1 5),
    )
