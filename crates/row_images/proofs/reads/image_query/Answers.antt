-- `image_query`: each query has its rule; the arm of several queries query by query.
use mathlib.Core.Path.{sym, ap, ◌∙◌, ◌≡◌}
use mathlib.Core.Logic.{◌⊎◌, inl, inr}
use Rattle.ir.specs.declared.RowNumber.{RowNumber}
use Rattle.ir.specs.declared.ImageQuery.{ImageQuery}
use Rattle.ir.specs.declared.ImageQuery.TheVariants.{NumLevels, NumLayers, NumSamples}
use Rattle.rule_rows.specs.Images.{image_query}
use Rattle.rule_rows.specs.OverBuffer.{ruled}
use Rattle.row_operands.proofs.Steps.{done-run}
use Rattle.row_images.proofs.reads.image_query.Goals as goal

-- one of the queries that read nothing
counts : (here image : RowNumber) (q : ImageQuery) → (q ≡ NumLevels) ⊎ ((q ≡ NumLayers) ⊎ (q ≡ NumSamples))
    → image_query here image NumLevels ≡ image_query here image q
counts here image q (inl e) = ap (image_query here image) (sym e)
counts here image q (inr (inl e)) = ap (image_query here image) (sym e)
counts here image q (inr (inr e)) = ap (image_query here image) (sym e)

pub returns-in-NumLevels : goal.returns-in-NumLevels
returns-in-NumLevels c =
    let a = c.args in
    c.scalar_type.ensures ∙ sym (done-run a.ctx.now.frames.now a.ctx.now.starts a.ctx.now.answers.now
    a.ctx.now.places.now _)
    ∙ ap (ruled a.ctx.now.frames.now a.ctx.now.starts a.ctx.now.answers.now a.ctx.now.places.now)
    (counts a.here a.image a.query c.in-NumLevels.is)
