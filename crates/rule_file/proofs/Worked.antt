-- What is given of rows 0 to 2 of the small file of rule_answers, where row 1 alone is a compose and row 2 is not
-- there: both sides compute to the same.
use mathlib.Core.Path.{◌≡◌, refl}
use mathlib.Core.List.{[], ◌∷◌}
use Prim.Native.Nat.{ℕ}
use Rattle.scan.specs.Lowest.{lowest, all_below}
use Rattle.scan.specs.Lists.{build, sum_below}
use Rattle.frames.specs.Bytes.{frame_at}
use Rattle.frames.specs.Forms.{type_of, item_of, row_of, member_of, component_of}
use Rattle.archive.specs.Starts.{start, starts_of}
use Rattle.archive.specs.Access.{type_in, row_in}
use Rattle.rule.specs.Answers.{number, given, told, passes}
use Rattle.rule.specs.Things.{listed}
use Rattle.rule_rows.specs.declared.Pass.TheVariants.{First}
use Rattle.rule_compose.specs.Verdict.{vector_parts}
use Rattle.rule_answers.specs.Cases.{composed_file}
use Rattle.rule_file.specs.Typing.{RowGiven, row_given, VerdictGiven, verdict_given}
use Rattle.rule_file.specs.Typing as Ty

abbrev row_of_file : ℕ → RowGiven
row_of_file n = row_given First (record { 0 = n }) composed_file

abbrev verdict_of_file : ℕ → VerdictGiven
verdict_of_file n = verdict_given First (record { 0 = n }) composed_file

pub rows-worked : row_of_file 0 ∷ row_of_file 1 ∷ row_of_file 2 ∷ []
    ≡ Ty.RowGiven.answer (told (given (number (record { 0 = 0 }))))
    ∷ Ty.RowGiven.answer (told (given (number (record { 0 = 1 })))) ∷ Ty.RowGiven.no_row ∷ []
unfolding lowest all_below build sum_below frame_at type_of item_of row_of member_of component_of start starts_of
    listed type_in row_in vector_parts
rows-worked = refl

pub verdicts-worked : verdict_of_file 0 ∷ verdict_of_file 1 ∷ verdict_of_file 2 ∷ []
    ≡ Ty.VerdictGiven.no_compose ∷ Ty.VerdictGiven.verdict (told passes) ∷ Ty.VerdictGiven.no_row ∷ []
unfolding lowest all_below build sum_below frame_at type_of item_of row_of member_of component_of start starts_of
    listed type_in row_in vector_parts
verdicts-worked = refl
