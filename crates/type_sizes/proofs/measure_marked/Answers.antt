-- `measure_marked`: a table of zeros holds nothing yet.
use Rattle.rule_sizes.proofs.Laws.{known-none}
use Rattle.rule_ranges.specs.Ranges.{measure_marked}
use Rattle.type_sizes.proofs.measure_marked.Goals as goal

pub loop-k-init : goal.loop-k-init
loop-k-init c =
    let g = c.args in
    known-none (measure_marked g.frames.now g.s g.marks.now g.counts.now) 16384
