-- `compare_types`: what it gives is the likeness of the two answers, test by test.
use Rattle.rule.specs.Answers.{resolved}
use Rattle.rule_types.proofs.Derived.{resolutions_equal}
use Rattle.rule_types.proofs.Handed.{optional-is}
use Rattle.type_methods.proofs.compare.compare_types.Goals as goal

pub returns-else-is_struct : goal.returns-else-is_struct
returns-else-is_struct c =
    let g = c.args in
    rw (
      optional-is g.frames.now g.s (resolved g.a) (resolved g.b),
      c.by_forms.ensures,
      c.canonical_of-else-is_struct.ensures,
      c.canonical_of.ensures,
      ← resolutions_equal g.a g.b,
      ← c.eq.ensures,
      c.if-eq.false,
      ← c.is_struct.ensures,
      ← c.is_struct-else-eq.ensures,
      c.if-is_struct.false,
    )
