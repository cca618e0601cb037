-- The invariant: whether every character passed is a digit.
use Rattle.std.proofs.Common.{◌≡◌, ℕ}
use Rattle.scan.specs.Lowest.{all_below}
use Rattle.text.specs.Hex.{is_digit}
use Rattle.text.specs.Lines.{char_at}
use Rattle.text_decode.proofs.line_ok.Given as goal

abbrev pub invariant-loop-j : goal.invariant-loop-j
invariant-loop-j l = l.ok ≡ all_below (λ (i : ℕ). is_digit (char_at l.text l.k i)) l.j
