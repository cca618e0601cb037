-- `cut_number`: a row's number in the cut is never a higher one.
use Rattle.std.proofs.Common.{arith}
use Rattle.law_moved.specs.Frames.{rows}
use Rattle.law_cut.proofs.Text.{lower}
use Rattle.row_cut.proofs.cut_number.Goals as goal

pub returns-in-Rows-clause-lower : goal.returns-in-Rows-clause-lower
returns-in-Rows-clause-lower c = omega (arith, c.row_number.ensures, lower c.args.marks.now rows c.args.n)
