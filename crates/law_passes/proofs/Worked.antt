-- What the worked files hand back in the second pass, and their acceptance, is what the definitions give: both sides
-- compute to the same.
use Rattle.std.specs.Prelude.{Ok}
use Prim.Native.Nat.{ℕ}
use mathlib.Core.Path.{◌≡◌, refl}
use mathlib.Core.List.{List, map}
use Rattle.scan.specs.Lowest.{lowest, all_below}
use Rattle.scan.specs.Lists.{build, sum_below}
use Rattle.frames.specs.declared.Frame.{Frame}
use Rattle.frames.specs.Bytes.{frame_at, bytes_of, frame_count}
use Rattle.frames.specs.Forms.{type_of, item_of, row_of, member_of, component_of, fields_fit}
use Rattle.archive.specs.Order.{order_ok}
use Rattle.archive.specs.Starts.{start, starts_of, row_count}
use Rattle.archive.specs.Names.{names_ok}
use Rattle.archive.specs.Parts.{early_ok}
use Rattle.archive.specs.Checks.{index_ok, check_frames}
use Rattle.archive.specs.Access.{type_in, row_in}
use Rattle.rule.specs.Things.{listed, see}
use Rattle.rule_rows.specs.declared.Pass.TheVariants as Pa
use Rattle.rule_types.specs.Canonical.{equal_types, identical}
use Rattle.rule_compose.specs.Verdict.{each_part, vector_parts}
use Rattle.rule_answers.specs.Outputs.{outputs}
use Rattle.law_passes.specs.Cases.{PassCase, file_of, wanted_of_pass, pass_cases}

-- what a file hands back, as bytes
abbrev given : List ℕ → List (List ℕ)
given file = map bytes_of (outputs Pa.Second (see file) (row_count (starts_of file)))

worked : map (λ (c : PassCase). given (file_of c)) pass_cases ≡ map wanted_of_pass pass_cases
unfolding outputs each_part vector_parts equal_types identical listed type_in row_in frame_at type_of member_of
    item_of row_of component_of start starts_of lowest all_below build sum_below
worked = refl

-- each file passes checks 4 to 6
accepted : map (λ (c : PassCase). check_frames (file_of c)) pass_cases
    ≡ map (λ (c : PassCase). Ok (frame_count (file_of c))) pass_cases
unfolding lowest all_below build sum_below frame_at type_of item_of row_of member_of component_of fields_fit order_ok
    start starts_of names_ok early_ok index_ok check_frames
accepted = refl
