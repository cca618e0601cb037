-- Access and AccessIndex of one base (document 02, request 13): what the second may give where the first gives a type.
use Rattle.std.specs.Prelude.{ℕ}
use Rattle.ir.specs.declared.RowNumber.{RowNumber}
use Rattle.answers.specs.declared.Refusal.TheVariants.{OutOfBoundsIndex}
use Rattle.rule.specs.Answers.{TypeAnswer, Typed, given, refused, Result, told}

-- where Access of the row `base` gives the type t, AccessIndex of it at i gives t too, or number 10 with that row and
-- that index
pub data Agrees (base : RowNumber) (i : ℕ) (t : TypeAnswer) : Result Typed → Type 0 where
  same : Agrees base i t (told (given t))
  out_of_bounds : Agrees base i t (told (refused (OutOfBoundsIndex base i)))
