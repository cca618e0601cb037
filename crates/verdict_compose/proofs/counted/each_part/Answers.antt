-- `each_part`: a component that is as asked leaves the rest to judge; the first that is not decides.
use mathlib.Core.Path.{sym, ◌∙◌}
use Rattle.std.proofs.lemmas.Result.{err_from_is_err_and}
use Rattle.rule_compose.specs.Verdict.{each_part}
use Rattle.verdict_compose.specs.Decided.{asked_of, part_by}
use Rattle.verdict_compose.proofs.Runs.{part_step, read, adds_on, ends, each-end}
use Rattle.verdict_compose.proofs.counted.each_part.Goals as goal

pub loop-i-preserved : goal.loop-i-preserved
loop-i-preserved c =
    let g = c.args in
    let l = c.loop-i in
    let h = c.loop-i-test.true in
    l.invariant
    ∙ adds_on g.ctx.now.frames.now g.ctx.now.starts g.ctx.now.answers.now g.ctx.now.places.now g.first g.count
    (λ i total. each_part (asked_of g.ctx.now.frames.now g.ctx.now.starts g.asked) i)
    (part_by g.ctx.now.frames.now g.ctx.now.starts g.asked)
    (part_step g.ctx.now.frames.now g.ctx.now.starts g.ctx.now.answers.now g.ctx.now.places.now g.asked) l.i 0 h _
    (read g.ctx.now.frames.now g.ctx.now.starts g.ctx.now.answers.now g.ctx.now.places.now
    (part_by g.ctx.now.frames.now g.ctx.now.starts g.asked l.i) c.component_at-row.ensures
    c.judge_part.ensures
    c.in_ok-judge_part.was)

pub returns-in_err-judge_part : goal.returns-in_err-judge_part
returns-in_err-judge_part c =
    let g = c.args in
    let l = c.loop-i in
    let h = c.loop-i-test.true in
    let p = err_from_is_err_and c.from_residual.result c.from_residual.ensures.1 in
    rw (p.1, p.2)
    (sym (l.invariant
    ∙ ends g.ctx.now.frames.now g.ctx.now.starts g.ctx.now.answers.now g.ctx.now.places.now g.first g.count
    (λ i total. each_part (asked_of g.ctx.now.frames.now g.ctx.now.starts g.asked) i)
    (part_by g.ctx.now.frames.now g.ctx.now.starts g.asked)
    (part_step g.ctx.now.frames.now g.ctx.now.starts g.ctx.now.answers.now g.ctx.now.places.now g.asked) l.i 0 h _
    (read g.ctx.now.frames.now g.ctx.now.starts g.ctx.now.answers.now g.ctx.now.places.now
    (part_by g.ctx.now.frames.now g.ctx.now.starts g.asked l.i) c.component_at-row.ensures
    c.judge_part.ensures
    c.in_err-judge_part.was)))

pub returns : goal.returns
returns c =
    let g = c.args in
    let l = c.loop-i in
    sym (l.invariant
    ∙ each-end g.ctx.now.frames.now g.ctx.now.starts g.ctx.now.answers.now g.ctx.now.places.now g.first g.count
    g.asked l.i
    c.loop-i-test.false)
