-- Every row of the worked files, and the files' acceptance, is what the definitions give: both sides compute to the
-- same.
use Rattle.std.specs.Prelude.{Ok}
use Prim.Native.Nat.{ℕ}
use mathlib.Core.Path.{◌≡◌, refl}
use mathlib.Core.List.{List, map}
use lib.ListN.{length}
use Rattle.scan.specs.Lowest.{lowest, all_below}
use Rattle.scan.specs.Lists.{build, sum_below}
use Rattle.frames.specs.Bytes.{bytes_of, frame_at, frame_count}
use Rattle.frames.specs.Forms.{type_of, item_of, row_of, member_of, component_of, fields_fit}
use Rattle.archive.specs.Order.{order_ok}
use Rattle.archive.specs.Starts.{start, starts_of}
use Rattle.archive.specs.Names.{names_ok}
use Rattle.archive.specs.Parts.{early_ok}
use Rattle.archive.specs.Checks.{index_ok, check_frames}
use Rattle.rule.specs.Answers.{Result, Typed, newer, row_frame}
use Rattle.archive.specs.Access.{type_in, row_in}
use Rattle.rule.specs.Things.{listed, see}
use Rattle.rule.specs.InOrder.{answers}
use Rattle.rule_rows.specs.declared.Pass.TheVariants as Pa
use Rattle.rule_rows.specs.Typed.{typing}
use Rattle.case_rows.specs.Lines.{RowCase, file_of, wanted_answers}
use Rattle.case_rows.specs.Cases.{row_cases}

-- the answers of a file's first n rows, as bytes
abbrev given : List ℕ → ℕ → List (List ℕ)
given file n = map (λ (a : Result Typed). bytes_of (row_frame a)) (answers (see file) (typing Pa.First) (λ m. newer) n)

worked : map (λ (c : RowCase). given (file_of c) (length (wanted_answers c))) row_cases ≡ map wanted_answers row_cases
unfolding listed type_in row_in frame_at type_of member_of item_of row_of component_of start starts_of lowest
    all_below build sum_below
worked = refl

-- each file passes checks 4 to 6
accepted : map (λ (c : RowCase). check_frames (file_of c)) row_cases
    ≡ map (λ (c : RowCase). Ok (frame_count (file_of c))) row_cases
unfolding lowest all_below build sum_below frame_at type_of item_of row_of member_of component_of fields_fit order_ok
    start starts_of names_ok early_ok index_ok check_frames
accepted = refl
