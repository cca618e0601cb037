-- `vector_parts`: a component that adds leaves the rest to add; the first that does not decides; the total comes last.
use mathlib.Core.Path.{sym, ◌∙◌}
use native.Mathlib.Omega.{arith}
use Rattle.std.proofs.lemmas.Result.{err_from_is_err_and}
use borrow.Author.Tests.{eq-eqb, ne_eqb}
use Rattle.rule_compose.specs.Verdict.{vector_parts}
use Rattle.rule_rows.specs.OverBuffer.{answer_in}
use Rattle.verdict_compose.specs.Decided.{added_by}
use Rattle.verdict_compose.proofs.Runs.{vector-step, read, adds_on, ends, added-end}
use Rattle.verdict_compose.proofs.OneComponent.{added-small}
use Rattle.verdict_compose.proofs.vector.vector_parts.Goals as goal

pub loop-i-preserved : goal.loop-i-preserved
loop-i-preserved c =
    let g = c.args in
    let l = c.loop-i in
    let h = c.loop-i-test.true in
    let small =
    added-small g.ctx.now.frames.now g.ctx.now.starts g.scalar l.i
    (answer_in g.ctx.now.answers.now g.ctx.now.places.now c.component_at-row.result) _
    (sym c.added_by.ensures ∙ c.in_ok-total.was) in
    record {
      small = omega (arith, l.invariant.small, small);
      same = l.invariant.same
          ∙ adds_on g.ctx.now.frames.now g.ctx.now.starts g.ctx.now.answers.now g.ctx.now.places.now g.first g.count
          (vector_parts g.size g.scalar) (added_by g.ctx.now.frames.now g.ctx.now.starts g.scalar)
          (vector-step g.ctx.now.frames.now g.ctx.now.starts g.ctx.now.answers.now g.ctx.now.places.now g.size
          g.scalar) l.i
          l.total h _
          (read g.ctx.now.frames.now g.ctx.now.starts g.ctx.now.answers.now g.ctx.now.places.now
          (added_by g.ctx.now.frames.now g.ctx.now.starts g.scalar l.i)
          c.component_at-row.ensures
          c.added_by.ensures
          c.in_ok-total.was);
    }

pub returns-in_err-total : goal.returns-in_err-total
returns-in_err-total c =
    let g = c.args in
    let l = c.loop-i in
    let h = c.loop-i-test.true in
    let p = err_from_is_err_and c.from_residual.result c.from_residual.ensures.1 in
    rw (p.1, p.2)
    (sym (l.invariant.same
    ∙ ends g.ctx.now.frames.now g.ctx.now.starts g.ctx.now.answers.now g.ctx.now.places.now g.first g.count
    (vector_parts g.size g.scalar) (added_by g.ctx.now.frames.now g.ctx.now.starts g.scalar)
    (vector-step g.ctx.now.frames.now g.ctx.now.starts g.ctx.now.answers.now g.ctx.now.places.now g.size g.scalar) l.i
    l.total h _
    (read g.ctx.now.frames.now g.ctx.now.starts g.ctx.now.answers.now g.ctx.now.places.now
    (added_by g.ctx.now.frames.now g.ctx.now.starts g.scalar l.i)
    c.component_at-row.ensures
    c.added_by.ensures
    c.in_err-total.was)))

pub returns-then-expected-total : goal.returns-then-expected-total
returns-then-expected-total c =
    let g = c.args in
    let l = c.loop-i in
    let e =
    added-end g.ctx.now.frames.now g.ctx.now.starts g.ctx.now.answers.now g.ctx.now.places.now g.first g.count g.size
    g.scalar
    l.i l.total c.loop-i-test.false in
    rw (l.invariant.same, e, ← c.from-expected.ensures, eq-eqb _ _ c.if-expected-total.true)

pub returns-else-expected-total : goal.returns-else-expected-total
returns-else-expected-total c =
    let g = c.args in
    let l = c.loop-i in
    let e =
    added-end g.ctx.now.frames.now g.ctx.now.starts g.ctx.now.answers.now g.ctx.now.places.now g.first g.count g.size
    g.scalar
    l.i l.total c.loop-i-test.false in
    rw (l.invariant.same, e, ← c.from-expected.ensures, ne_eqb _ _ c.if-expected-total.false)
