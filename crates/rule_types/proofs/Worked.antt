-- Every comparison of the table, and the file's acceptance, is what the definitions give: both sides compute to the
-- same.
use Rattle.std.specs.Prelude.{Ok}
use mathlib.Core.Path.{◌≡◌, refl}
use mathlib.Core.List.{List, map}
use Rattle.scan.specs.Lowest.{lowest, all_below}
use Rattle.scan.specs.Lists.{build, sum_below}
use Rattle.frames.specs.Bytes.{frame_at}
use Rattle.frames.specs.Forms.{type_of, item_of, row_of, member_of, component_of, fields_fit}
use Rattle.archive.specs.Order.{order_ok}
use Rattle.archive.specs.Starts.{start, starts_of}
use Rattle.archive.specs.Names.{names_ok}
use Rattle.archive.specs.Parts.{early_ok}
use Rattle.archive.specs.Checks.{index_ok, check_frames}
use Rattle.rule.specs.Answers.{Result, Compared}
use Rattle.archive.specs.Access.{type_in}
use Rattle.rule.specs.Things.{listed}
use Rattle.rule_types.specs.Canonical.{equal_types, identical}
use Rattle.rule_types.specs.Comparison.{same_in, same_type}
use Rattle.rule_types.specs.Cases.{ComparedCase, compared_file, compared_cases}

abbrev given : ComparedCase → Result Compared
given c = same_type compared_file c.left c.right

abbrev wanted : ComparedCase → Result Compared
wanted c = c.outcome

worked : map given compared_cases ≡ map wanted compared_cases
unfolding same_type same_in equal_types identical listed type_in frame_at type_of member_of start starts_of lowest
    all_below build sum_below
worked = refl

-- the file passes checks 4 to 6
accepted : check_frames compared_file ≡ Ok 9
unfolding lowest all_below build sum_below frame_at type_of item_of row_of member_of component_of fields_fit order_ok
    start starts_of names_ok early_ok index_ok check_frames
accepted = refl
