-- `answer_row`: the answer joins the frames of the rows before it, and so does a compose's verdict.
use mathlib.Core.Path.{sym, ap, ◌∙◌}
use Prim.Native.Nat.{◌+◌}
use native.Mathlib.Omega.{arith}
use lib.Seq.{length-take-le}
use Rattle.frames.specs.Bytes.{put_frame}
use Rattle.law_file.proofs.Row.{small-here, still, step_row, step-compose}
use Rattle.file_answers.proofs.answer_row.Goals as goal

pub overflow_add-after : goal.overflow_add-after
overflow_add-after c = omega (arith, small-here c.requires)

pub overflow_mul-e : goal.overflow_mul-e
overflow_mul-e c = omega (arith, small-here c.requires)

pub slice_bounds-judge_row-end : goal.slice_bounds-judge_row-end
slice_bounds-judge_row-end c =
    still c.requires _ _ c.put_row.ensures.answers c.put_row.ensures.held c.frame_at-f.ensures

pub slice_bounds-judge_row-end-then-is_compose : goal.slice_bounds-judge_row-end-then-is_compose
slice_bounds-judge_row-end-then-is_compose c =
    sym (length-take-le _ _
    (still c.requires _ _ c.put_row.ensures.answers c.put_row.ensures.held c.frame_at-f.ensures))

pub overflow_add-result : goal.overflow_add-result
overflow_add-result c = omega (arith, small-here c.requires)

pub returns-then-is_compose : goal.returns-then-is_compose
returns-then-is_compose c =
    let put = c.put_row in
    step-compose c.requires _ _ put.ensures.answers put.ensures.held
    c.frame_at-f.ensures
    (sym c.is_compose.ensures ∙ c.if-is_compose.true)
    c.judge_row-v.result c.put_frame.new.s
    c.judge_row-v.ensures
    (c.put_frame.ensures ∙ ap (put_frame put.new.answers (c.args.at + 1)) c.verdict_frame.ensures)

pub returns-else-is_compose : goal.returns-else-is_compose
returns-else-is_compose c =
    step_row c.requires _ _ c.put_row.ensures.answers c.put_row.ensures.held
    c.frame_at-f.ensures (sym c.is_compose.ensures ∙ c.if-is_compose.false)
