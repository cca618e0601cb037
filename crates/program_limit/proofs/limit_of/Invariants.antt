-- The invariant: the bytes passed are digits, and n stands for what they spell.
use Rattle.program_limit.proofs.Digits.{Read}
use Rattle.program_limit.proofs.limit_of.Given as goal

abbrev pub invariant-loop-b : goal.invariant-loop-b
invariant-loop-b l = Read l.word l.n l.b-index
