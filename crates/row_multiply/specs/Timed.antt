-- Not part of any public statement: for proofs and code only. What a product is, as the code hands it on: the type of
-- the left or the right operand, as the operand has it, a value, or number 18.
use Rattle.answers.specs.Answer.{Answer}
use Rattle.answers.specs.declared.Refusal.TheVariants.{IncompatibleOperands}
use Rattle.rule.specs.Answers.{TypeAnswer, value, Typed, given, refused, Result, told}
use Rattle.rule_rows.specs.Answered.{to_result}
use Rattle.row_multiply.specs.declared.Times.{Times}
use Rattle.row_multiply.specs.declared.Times.TheVariants as Tm

abbrev pub timed : TypeAnswer → TypeAnswer → Times → Typed
timed a b Tm.Left = given a
timed a b Tm.Right = given b
timed a b (Tm.Value t) = given (value t)
timed a b Tm.Incompatible = refused IncompatibleOperands

-- the same by the answers of the operands
abbrev pub times_of : Answer → Answer → Times → Result Typed
times_of left right Tm.Left = to_result left
times_of left right Tm.Right = to_result right
times_of left right (Tm.Value t) = told (given (value t))
times_of left right Tm.Incompatible = told (refused IncompatibleOperands)
