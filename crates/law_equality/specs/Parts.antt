-- Access and AccessIndex of one base, in a file (document 02, request 13).
use Rattle.std.specs.Prelude.{ℕ, List}
use Rattle.ir.specs.declared.RowNumber.{RowNumber}
use Rattle.frames.specs.declared.Frame.{Frame}
use Rattle.rule.specs.Answers.{TypeAnswer, type_answer_of, Typed, given, Result, told, newer}
use Rattle.rule.specs.Things.{see}
use Rattle.rule.specs.Rule.{Rule, Answers, run}
use Rattle.rule_rows.specs.Parts.{Agrees}
use Rattle.rule_file.specs.Typing.{RowGiven, answer}

-- the answer a, of whatever row is read: any frame, also one that no rule gives
abbrev pub always : Frame → Answers
always a n = told (given (type_answer_of a))

-- what a row's rule gives in a file, whose frames these are, where the row that it reads has the answer a
abbrev pub over_base : List ℕ → Frame → Rule Typed → Result Typed
over_base fr a rule = run (see fr) (always a) newer rule

-- what `row_type` gives for an AccessIndex of the row `base` at i, where it gives the type x for an Access of that row
pub data RowAgrees (base : RowNumber) (i : ℕ) (x : TypeAnswer) : RowGiven → Type 0 where
  agrees : (r : Result Typed) → Agrees base i x r → RowAgrees base i x (answer r)
