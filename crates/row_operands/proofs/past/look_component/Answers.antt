-- `look_component`: a look goes by three of the places where families begin.
use mathlib.Core.Path.{◌∙◌}
use Rattle.row_operands.proofs.ByFrame.{few-look}
use Rattle.row_operands.proofs.past.look_component.Goals as goal

pub returns : goal.returns
returns c =
    let g = c.args in
    c.look_in.ensures ∙ few-look g.ctx.now.frames.now g.ctx.now.starts g.ctx.now.answers.now g.ctx.now.places.now g.n
    g.n
