-- The invariant: the digits of what is left, and those written, are the number's.
use Rattle.std.proofs.Common.{◌≡◌, ◌++◌, length, drop}
use Rattle.rule_explain.specs.Lines.{digits, decimal}
use Rattle.explain_words.proofs.numeral.Given as goal

abbrev pub invariant-loop-i : goal.invariant-loop-i
invariant-loop-i l = (decimal l.n ≡ digits l.i l.rest ++ drop l.i l.buf) × (length l.buf ≡ 10)
