-- The code's answer is written as the definition has it. By the cases of the answer.
use Rattle.std.specs.Prelude.{Ok, Err}
use Rattle.answers.specs.declared.Unresolved.TheVariants as Un
use mathlib.Core.Path.{◌≡◌, refl}
use Rattle.ir.specs.declared.TypeResolution.TheVariants as Tr
use Rattle.answers.specs.Answer.{Answer}
use Rattle.frames.specs.Out.{answer_frame}
use Rattle.rule.specs.Answers.{row_frame}
use Rattle.rule_rows.specs.Answered.{to_result}

pub answer-framed : (a : Answer) → answer_frame a ≡ row_frame (to_result a)
answer-framed (Ok (Tr.Handle n)) = refl
answer-framed (Ok (Tr.Value t)) = refl
answer-framed (Err (Un.Refused e)) = refl
answer-framed (Err (Un.Newer r)) = refl
