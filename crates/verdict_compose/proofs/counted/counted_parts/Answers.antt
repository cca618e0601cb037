-- `counted_parts`: the list of components has the count.
use mathlib.Core.Path.{sym, ◌∙◌}
use Rattle.verdict_compose.proofs.Runs.{counted-yes, counted-no}
use Rattle.verdict_compose.proofs.counted.counted_parts.Goals as goal

pub returns-then-expected-count : goal.returns-then-expected-count
returns-then-expected-count c =
    let g = c.args in
    c.each_part.ensures
    ∙ sym
    (counted-yes g.ctx.now.frames.now g.ctx.now.starts g.ctx.now.answers.now g.ctx.now.places.now g.first g.count
    g.expected _
    c.if-expected-count.true)

pub returns-else-expected-count : goal.returns-else-expected-count
returns-else-expected-count c =
    let g = c.args in
    sym (counted-no g.ctx.now.frames.now g.ctx.now.starts g.ctx.now.answers.now g.ctx.now.places.now g.first g.count
    g.expected _
    c.if-expected-count.false)
