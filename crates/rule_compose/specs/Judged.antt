-- A verdict as the code gives it (document 01, "A compose's verdict").
use Rattle.std.specs.Prelude.{Ok, Err}
use Rattle.answers.specs.Asked.{Verdict}
use Rattle.answers.specs.declared.ComposeError.TheVariants as Co
use Rattle.rule.specs.Answers.{Judgement, passes, not_composed, count, part, broken, component, composed, Result, told}
use Rattle.rule.specs.Answers.{newer}

-- what the code's verdict is: no two verdicts are the same
abbrev pub to_judged : Verdict → Result Judgement
to_judged (Ok u) = told passes
to_judged (Err Co.ComposedType) = told not_composed
to_judged (Err (Co.ComponentCount e g)) = told (count e g)
to_judged (Err (Co.ComponentType i)) = told (part i)
to_judged (Err (Co.ComponentRefused i)) = told (broken i)
to_judged (Err Co.NewerComposed) = newer composed
to_judged (Err (Co.NewerComponent i)) = newer (component i)
