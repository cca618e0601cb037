-- `each_part`: what is left to judge gives what the whole gives.
use mathlib.Core.Path.{◌≡◌}
use lib.ListN.{drop}
use Rattle.rule_compose.specs.Verdict.{each_part}
use Rattle.row_operands.specs.Context.{judges}
use Rattle.rule_compose.specs.ForProofs.{parts_in}
use Rattle.verdict_compose.specs.Decided.{asked_of}
use Rattle.verdict_compose.proofs.counted.each_part.Given as goal

abbrev pub invariant-loop-i : goal.invariant-loop-i
invariant-loop-i l =
    judges l.ctx (each_part (asked_of l.ctx.frames.now l.ctx.starts l.asked) 0
    (parts_in l.ctx.frames.now l.ctx.starts l.first l.count))
    ≡ judges l.ctx (each_part (asked_of l.ctx.frames.now l.ctx.starts l.asked) l.i
    (drop l.i (parts_in l.ctx.frames.now l.ctx.starts l.first l.count)))
