-- The invariant: the bytes passed are digits, and n is what they spell.
use Rattle.program_limit.proofs.Exact.{Exact}
use Rattle.program_limit.proofs.counts.count_of.Given as goal

abbrev pub invariant-loop-b : goal.invariant-loop-b
invariant-loop-b l = Exact l.word l.n l.b-index
