-- A row's answer as the code gives it (document 01, "The shape each place takes", last paragraph).
use Rattle.std.specs.Prelude.{Ok, Err}
use Rattle.answers.specs.declared.Unresolved.TheVariants as Un
use Rattle.answers.specs.Answer.{Answer}
use Rattle.rule.specs.Answers.{resolved, Typed, given, refused, row, Result, told, newer}

-- what the code's answer is: no two answers are the same
abbrev pub to_result : Answer → Result Typed
to_result (Ok t) = told (given (resolved t))
to_result (Err (Un.Refused e)) = told (refused e)
to_result (Err (Un.Newer r)) = newer (row r)
