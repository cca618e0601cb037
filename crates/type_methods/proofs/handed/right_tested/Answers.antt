-- `right_tested`: the right answer is sound, so what is said is the likeness of the two.
use mathlib.Core.Path.{sym, ap, ◌∙◌}
use Rattle.rule.specs.Answers.{resolved}
use Rattle.rule_types.specs.Comparison.{sameness_of}
use Rattle.rule_types.specs.ForProofs.{said_of, likeness}
use Rattle.rule_types.proofs.Handed.{optional-is, said-is, right-sound}
use Rattle.type_methods.proofs.handed.right_tested.Goals as goal

pub returns-in-Sound : goal.returns-in-Sound
returns-in-Sound c =
    let g = c.args in
    c.said_of.ensures
    ∙ ap said_of (c.compare_types.ensures
    ∙ optional-is g.frames.now g.s (resolved g.a) (resolved g.b))
    ∙ said-is g.frames.now g.s (likeness g.frames.now g.s (resolved g.a) (resolved g.b))
    ∙ ap sameness_of
    (sym
    (right-sound g.frames.now g.s (resolved g.a) (resolved g.b)
    (sym c.fault_of.ensures ∙ c.in-Sound.is)))
