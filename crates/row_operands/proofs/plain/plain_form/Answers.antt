-- `plain_form`: each arm knows the kind.
use Rattle.frames.specs.Forms.{type_of}
use Rattle.row_operands.specs.Plain.{plain_of}
use Rattle.row_operands.proofs.plain.plain_form.Goals as goal

pub returns-in-1 : goal.returns-in-1
unfolding plain_of type_of
returns-in-1 c = rw (c.in-1.is, c.scalar-scalar.ensures)

pub returns-in-2 : goal.returns-in-2
unfolding plain_of type_of
returns-in-2 c = rw (c.in-2.is, c.from-size.ensures, c.scalar-scalar.ensures)

pub returns-in-3 : goal.returns-in-3
unfolding plain_of type_of
returns-in-3 c =
    rw (
      c.in-3.is,
      c.from-rows.ensures,
      c.from-columns.ensures,
      c.scalar-scalar.ensures,
    )

pub returns-in-4 : goal.returns-in-4
unfolding plain_of type_of
returns-in-4 c =
    rw (
      c.in-4.is,
      c.from-role.ensures,
      c.from-rows-in-4.ensures,
      c.from-columns-in-4.ensures,
      c.scalar-scalar.ensures,
    )
