-- `measure_marked`: the table holds what was found; one of zeros holds nothing yet.
use Rattle.rule_ranges.specs.ForProofs.{KnownMarked}
use Rattle.type_sizes.proofs.measure_marked.Given as goal

abbrev pub invariant-loop-k : goal.invariant-loop-k
invariant-loop-k l = KnownMarked l.frames l.s l.marks l.counts l.table
