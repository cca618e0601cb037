-- `same_type`: a left frame that is no type is a 5; another is the type it stands for.
use mathlib.Core.Path.{sym, ap, ◌∙◌}
use Rattle.rule.specs.Answers.{TypeAnswer, type_answer_of}
use Rattle.rule_types.specs.Comparison.{given, handed, sameness_of, same_in}
use Rattle.rule_types.proofs.Handed.{resolved-as, malformed-five}
use Rattle.rule_types.proofs.Laws.{left-five}
use Rattle.type_methods.proofs.handed.same_type.Goals as goal

pub returns-in-None : goal.returns-in-None
unfolding same_in
returns-in-None c =
    let g = c.args in
    ap sameness_of (sym (left-five g.frames.now g.s (type_answer_of g.left) (type_answer_of g.right)
    (malformed-five g.s (type_answer_of g.left) (sym c.type_answer.ensures ∙ c.in-None.is))))

pub returns-in-Some : goal.returns-in-Some
unfolding same_in
returns-in-Some c =
    let g = c.args in
    c.left_tested.ensures
    ∙ ap (λ (x : TypeAnswer). sameness_of (given g.frames.now g.s (handed x (type_answer_of g.right))))
    (sym (resolved-as (type_answer_of g.left) _ (sym c.type_answer.ensures ∙ c.in-Some.is)))
