-- A row that ends with an operand's answer: by cases of why it has no type.
use mathlib.Core.Path.{◌≡◌, refl}
use Rattle.std.specs.Prelude.{Err}
use Rattle.answers.specs.declared.Unresolved.{Unresolved}
use Rattle.answers.specs.declared.Unresolved.TheVariants as Un
use Rattle.rule_rows.specs.Answered.{to_result}
use Rattle.row_operands.specs.Past.{ended_by}

pub ended-is : (e : Unresolved) → to_result (Err e) ≡ ended_by e
ended-is (Un.Refused e) = refl
ended-is (Un.Newer r) = refl
