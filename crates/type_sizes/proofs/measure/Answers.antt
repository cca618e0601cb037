-- `measure`: no type is marked, so none goes by counts.
use Rattle.std.proofs.Common.{◌∙◌}
use Rattle.rule_ranges.proofs.Laws.{no-counts}
use Rattle.type_sizes.proofs.measure.Goals as goal

pub returns : goal.returns
returns c = c.measure_marked.ensures ∙ no-counts _ _ _ _
