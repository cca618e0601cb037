-- What is said of every type of the worked files is what the definitions give: both sides compute to the same. Assumes
-- nothing.
use Rattle.std.specs.Prelude.{Ok}
use Prim.Native.Nat.{ℕ, suc}
use mathlib.Core.Path.{◌≡◌, refl}
use mathlib.Core.List.{List, [], ◌∷◌, map}
use Rattle.scan.specs.Lowest.{lowest, all_below}
use Rattle.scan.specs.Lists.{build, sum_below}
use Rattle.answers.specs.Numbers.{SaidOne, asked, instead}
use Rattle.ir.specs.declared.TypeNumber.{TypeNumber}
use Rattle.frames.specs.Bytes.{frame_at, frame_count}
use Rattle.frames.specs.Forms.{type_of, member_of, item_of, row_of, component_of, fields_fit}
use Rattle.archive.specs.Order.{order_ok}
use Rattle.archive.specs.Starts.{start, starts_of}
use Rattle.archive.specs.Names.{names_ok}
use Rattle.archive.specs.Parts.{early_ok}
use Rattle.archive.specs.Access.{type_in}
use Rattle.archive.specs.Checks.{index_ok, check_frames}
use Rattle.rule_sizes.specs.Sizes.{array_of, joined, parts_of, spanned, struct_of}
use Rattle.rule_ranges.specs.TypeRange.{TypeRange}
use Rattle.rule_ranges.specs.Pending.{member_holds, holding, holds_pending}
use Rattle.rule_ranges.specs.Counts.{fresh_parts, fresh_struct, measures_by, measure_by}
use Rattle.rule_ranges.specs.Ranges.{counts_of, range_in, faulty_span, type_range_in, SizeRange, type_range_said}
use Rattle.rule_ranges.specs.Cases.{CountCase, count_cases}

-- alignment, least and greatest size; or a number and its place
abbrev numbers : SaidOne SizeRange → List ℕ
numbers (asked r) = r.align ∷ r.least ∷ r.greatest ∷ []
numbers (instead r) = r.number ∷ r.place ∷ []

abbrev range_at : CountCase → TypeNumber → TypeRange
range_at c n = type_range_in c.file (starts_of c.file) (counts_of c.least) (counts_of c.greatest) n

-- of types k, k + 1 and so on, as many as a list has
abbrev said_from : CountCase → ℕ → List (List ℕ) → List (List ℕ)
said_from c k [] = []
said_from c k (x ∷ l) =
    numbers (type_range_said (range_at c (record { 0 = k }))) ∷ said_from c (suc k) l

worked : map (λ (c : CountCase). said_from c 0 c.said) count_cases ≡ map (λ (c : CountCase). c.said) count_cases
unfolding type_in frame_at type_of member_of item_of start starts_of lowest all_below array_of joined parts_of spanned
    struct_of member_holds holding holds_pending fresh_parts fresh_struct measures_by measure_by range_in faulty_span
    type_range_in
worked = refl

-- each file passes checks 4 to 6
accepted : map (λ (c : CountCase). check_frames c.file) count_cases
    ≡ map (λ (c : CountCase). Ok (frame_count c.file)) count_cases
unfolding lowest all_below build sum_below frame_at type_of item_of row_of member_of component_of fields_fit order_ok
    start starts_of names_ok early_ok index_ok check_frames
accepted = refl
