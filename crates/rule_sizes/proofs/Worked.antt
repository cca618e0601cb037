-- What each type of the worked file fills, and the file's acceptance, is what the definitions give: both sides
-- compute to the same.
use Rattle.std.specs.Prelude.{Ok}
use mathlib.Core.Path.{◌≡◌, refl}
use Rattle.scan.specs.Lowest.{lowest, all_below}
use Rattle.scan.specs.Lists.{build, sum_below}
use Rattle.frames.specs.Bytes.{frame_at}
use Rattle.frames.specs.Forms.{type_of, item_of, row_of, member_of, component_of, fields_fit}
use Rattle.archive.specs.Order.{order_ok}
use Rattle.archive.specs.Starts.{start, starts_of}
use Rattle.archive.specs.Names.{names_ok}
use Rattle.archive.specs.Parts.{early_ok}
use Rattle.archive.specs.Checks.{index_ok, check_frames}
use Rattle.archive.specs.Access.{type_in}
use Rattle.rule_sizes.specs.Sizes.{array_of, joined, parts_of, spanned, struct_of, measures}
use Rattle.rule_sizes.specs.Cases.{sizes_file, wanted_measures}

worked : measures sizes_file (starts_of sizes_file) 21 ≡ wanted_measures
unfolding measures array_of joined parts_of spanned struct_of type_in frame_at type_of member_of start starts_of
    lowest all_below build sum_below
worked = refl

-- the file passes checks 4 to 6
accepted : check_frames sizes_file ≡ Ok 33
unfolding lowest all_below build sum_below frame_at type_of item_of row_of member_of component_of fields_fit order_ok
    start starts_of names_ok early_ok index_ok check_frames
accepted = refl
