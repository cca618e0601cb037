-- `first_misplaced`: the lower of the two that are looked for, and so the lowest that fails one of the two tests.
use Rattle.std.proofs.Common.{sym}
use Rattle.scan.proofs.Laws.{lowest-both}
use Rattle.archive.specs.Names.{names_ok}
use Rattle.archive.specs.Parts.{early_ok}
use Rattle.archive.specs.Checks.{index_ok}
use Rattle.check_file.proofs.first_misplaced.Goals as goal

pub returns : goal.returns
unfolding index_ok
returns c =
    rw (c.lower.ensures, c.first_late-late.ensures, c.first_misnamed-misnamed.ensures)
    (sym (lowest-both (names_ok _) (early_ok _) _))
