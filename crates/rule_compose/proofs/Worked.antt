-- Every verdict of the file is what the definitions give: both sides compute to the same.
use Rattle.std.specs.Prelude.{Ok}
use Prim.Native.Nat.{ℕ, suc}
use mathlib.Core.Path.{◌≡◌, refl}
use mathlib.Core.List.{List, [], ◌∷◌}
use mathlib.Core.Option.{Option, none, some}
use Rattle.scan.specs.Lowest.{lowest, all_below}
use Rattle.scan.specs.Lists.{build, sum_below}
use Rattle.frames.specs.Bytes.{bytes_of, frame_at}
use Rattle.frames.specs.Forms.{type_of, item_of, row_of, member_of, component_of, fields_fit}
use Rattle.archive.specs.Order.{order_ok}
use Rattle.archive.specs.Starts.{start, starts_of}
use Rattle.archive.specs.Names.{names_ok}
use Rattle.archive.specs.Parts.{early_ok}
use Rattle.archive.specs.Checks.{index_ok, check_frames}
use Rattle.archive.specs.Access.{type_in, row_in}
use Rattle.rule.specs.Answers.{Result, Judgement, verdict_frame}
use Rattle.rule.specs.Things.{listed, see}
use Rattle.rule_types.specs.Canonical.{equal_types, identical}
use Rattle.rule_rows.specs.declared.Pass.TheVariants as Pa
use Rattle.rule_compose.specs.Verdict.{each_part, vector_parts}
use Rattle.rule_compose.specs.Rows.{verdict_of}
use Rattle.rule_compose.specs.Cases.{compose_file, wanted_verdicts}

abbrev as_bytes : ℕ → Option (Result Judgement) → Option (List ℕ)
as_bytes n (some j) = some (bytes_of (verdict_frame (record { 0 = n }) j))
as_bytes n none = none

-- the verdicts of the rows from row n on, as many as are wanted
abbrev from : ℕ → List (Option (List ℕ)) → List (Option (List ℕ))
from n [] = []
from n (w ∷ ws) = as_bytes n (verdict_of Pa.First (see compose_file) n) ∷ from (suc n) ws

worked : from 0 wanted_verdicts ≡ wanted_verdicts
unfolding each_part vector_parts equal_types identical listed type_in row_in frame_at type_of member_of item_of row_of
    component_of start starts_of lowest all_below build sum_below
worked = refl

-- the file passes checks 4 to 6
accepted : check_frames compose_file ≡ Ok 191
unfolding lowest all_below build sum_below frame_at type_of item_of row_of member_of component_of fields_fit order_ok
    start starts_of names_ok early_ok index_ok check_frames
accepted = refl
