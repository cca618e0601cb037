-- The whole line is tested: a turn takes one character more, and the line feed comes last.
use native.Mathlib.Nat.{le_antisymm}
use Rattle.text.specs.Lines.{line_ok}
use Rattle.text.proofs.Line.{line-short}
use Rattle.text_decode.proofs.line_ok.Goals as goal

pub returns-then-text-k : goal.returns-then-text-k
returns-then-text-k c = line-short _ _ c.if-text-k.true

pub returns : goal.returns
unfolding line_ok
returns c = let l = c.loop-j in rw (l.invariant, le_antisymm l.auto.j-end c.loop-j-test.false)
