-- `right_frame`: a frame that is no type is a 5; another is the type it stands for.
use mathlib.Core.Path.{sym, ap, ◌∙◌}
use Rattle.rule.specs.Answers.{TypeAnswer, resolved, type_answer_of}
use Rattle.rule_types.specs.Comparison.{given, right_tested, sameness_of}
use Rattle.rule_types.proofs.Handed.{resolved-as, malformed-five, right-field}
use Rattle.type_methods.proofs.handed.right_frame.Goals as goal

pub returns-in-None : goal.returns-in-None
returns-in-None c =
    let g = c.args in
    ap sameness_of
    (sym
    (right-field g.frames.now g.s (resolved g.a) (type_answer_of g.right)
    (malformed-five g.s (type_answer_of g.right) (sym c.type_answer.ensures ∙ c.in-None.is))))

pub returns-in-Some : goal.returns-in-Some
returns-in-Some c =
    let g = c.args in
    c.right_tested.ensures
    ∙ ap (λ (x : TypeAnswer). sameness_of (given g.frames.now g.s (right_tested (resolved g.a) x)))
    (sym (resolved-as (type_answer_of g.right) _ (sym c.type_answer.ensures ∙ c.in-Some.is)))
