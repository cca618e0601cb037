-- `cut_row`: one number after the other.
use Rattle.std.proofs.Common.{◌∙◌}
use Rattle.law_cut.specs.Cut.{cut_moves}
use Rattle.row_cut.proofs.Laws.{moved-row}
use Rattle.row_cut.proofs.cut_row.Goals as goal

pub returns-in-Nothing : goal.returns-in-Nothing
returns-in-Nothing c = moved-row (cut_moves c.args.marks.now) c.args.f c.row_numbers.ensures c.in-Nothing.is

pub returns-in-One : goal.returns-in-One
returns-in-One c =
    c.cut_spot.ensures ∙ moved-row (cut_moves c.args.marks.now) c.args.f c.row_numbers.ensures c.in-One.is

pub returns-in-Two : goal.returns-in-Two
returns-in-Two c =
    rw c.cut_spot-in-Two.ensures at c.cut_spot-in-Two-2.ensures
    ∙ moved-row (cut_moves c.args.marks.now) c.args.f c.row_numbers.ensures c.in-Two.is

pub returns-in-Three : goal.returns-in-Three
returns-in-Three c =
    rw (c.cut_spot-in-Three-2.ensures, c.cut_spot-in-Three.ensures) at c.cut_spot-in-Three-3.ensures
    ∙ moved-row (cut_moves c.args.marks.now) c.args.f c.row_numbers.ensures c.in-Three.is
