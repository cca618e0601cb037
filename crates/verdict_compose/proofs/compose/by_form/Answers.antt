-- `by_form`: each arm knows its case, and what its calls ensure; the other kinds case by case.
use mathlib.Core.Path.{◌∙◌}
use Rattle.verdict_compose.proofs.Runs.{struct-counted}
use Rattle.verdict_compose.proofs.compose.by_form.Goals as goal

pub returns-in-Struct : goal.returns-in-Struct
returns-in-Struct c =
    let g = c.args in
    rw c.in-Struct.is
    (c.counted_parts-in-Struct.ensures
    ∙ struct-counted g.ctx.now.frames.now g.ctx.now.starts g.ctx.now.answers.now g.ctx.now.places.now g.first g.count
    _ _)
