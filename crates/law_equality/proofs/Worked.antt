-- Every case of the tables is what the definitions give: both sides compute to the same. The text is read once; then
-- the comparison over it is that of its frames.
use Rattle.std.specs.Prelude.{Ok}
use Prim.Native.Nat.{ℕ}
use mathlib.Core.Path.{◌≡◌, refl, ap, ◌∙◌, fun_ext}
use mathlib.Core.List.{List, map, reverse}
use mathlib.Core.Option.{Option}
use Rattle.scan.specs.Lowest.{lowest, all_below}
use Rattle.scan.specs.Lists.{build, sum_below}
use Rattle.ir.specs.declared.RowNumber.{RowNumber}
use Rattle.answers.specs.Asked.{Sameness, sameness_error}
use Rattle.answers.specs.Limit.{max_frames}
use Rattle.text.specs.declared.AnswerRoom.TheVariants.{NotLent}
use Rattle.text.specs.Hex.{digit_value, digit_of}
use Rattle.text.specs.Lines.{line_ok, byte_of, char_of, decoded}
use Rattle.text.specs.Reading.{answer_frames, too_short, most_frames, read_text}
use Rattle.frames.specs.declared.Frame.{Frame}
use Rattle.frames.specs.Bytes.{frame_at}
use Rattle.frames.specs.Forms.{type_of, item_of, row_of, member_of, component_of, fields_fit}
use Rattle.archive.specs.Order.{order_ok}
use Rattle.archive.specs.Starts.{start, starts_of}
use Rattle.archive.specs.Names.{names_ok}
use Rattle.archive.specs.Parts.{early_ok}
use Rattle.archive.specs.Checks.{index_ok, check_frames}
use Rattle.archive.specs.Access.{type_in}
use Rattle.rule.specs.Answers.{row_frame}
use Rattle.rule.specs.Things.{listed}
use Rattle.rule.specs.Things as Row
use Rattle.rule_types.specs.Canonical.{equal_types, identical}
use Rattle.rule_types.specs.Comparison.{sameness_of, same_in, same_type}
use Rattle.rule_rows.specs.declared.Pass.{Pass}
use Rattle.rule_rows.specs.Typed.{resolve}
use Rattle.rule_file.specs.File.{over_file, read_file}
use Rattle.rule_file.specs.Types.{same_types}
use Rattle.law_equality.specs.Groups.{group}
use Rattle.law_equality.specs.Parts.{over_base}
use Rattle.law_equality.specs.Cases.{grouped_file, text, Grouped, forward, backward, Pair, pairs, Part, parts}

-- THE TEXT is accepted, and its frames are the file's
accepted : read_file max_frames text 320 NotLent ≡ Ok 20
unfolding lowest all_below build sum_below digit_value line_ok byte_of answer_frames too_short most_frames read_text
    frame_at type_of item_of row_of member_of component_of fields_fit order_ok start starts_of names_ok early_ok
    index_ok check_frames read_file digit_of char_of
accepted = refl

frames-are : decoded text 20 ≡ grouped_file
unfolding build digit_value byte_of digit_of char_of
frames-are = refl

-- comparing over it, and over its frames
abbrev compare : Frame → Frame → Sameness
compare = same_types max_frames text 320

abbrev compare_in : Frame → Frame → Sameness
compare_in a b = sameness_of (same_type grouped_file a b)

over-frames : compare ≡ compare_in
unfolding same_types
over-frames =
    fun_ext (λ a. fun_ext (λ b.
    ap (over_file sameness_error (λ (x : List ℕ). sameness_of (same_type x a b)) text) accepted
    ∙ ap (λ (x : List ℕ). sameness_of (same_type x a b)) frames-are))

-- GROUPS, in both orders
abbrev answers_of : List Grouped → List Frame
answers_of l = map (λ (c : Grouped). c.answer) l

abbrev firsts : List Grouped → List (Option Frame)
firsts l = map (λ (c : Grouped). c.first) l

-- the second table has the answers of the first in the reverse order
reversed : reverse (answers_of forward) ≡ answers_of backward
unfolding frame_at
reversed = refl

abbrev groups : (Frame → Frame → Sameness) → List Grouped → List (Option Frame)
groups by l = map (group by (answers_of l)) (answers_of l)

forward-in : groups compare_in forward ≡ firsts forward
unfolding same_type same_in equal_types identical listed type_in frame_at type_of member_of start starts_of lowest
    all_below build sum_below
forward-in = refl

forward-worked : groups compare forward ≡ firsts forward
forward-worked = ap (λ (by : Frame → Frame → Sameness). groups by forward) over-frames ∙ forward-in

backward-in : groups compare_in backward ≡ firsts backward
unfolding same_type same_in equal_types identical listed type_in frame_at type_of member_of start starts_of lowest
    all_below build sum_below
backward-in = refl

backward-worked : groups compare backward ≡ firsts backward
backward-worked = ap (λ (by : Frame → Frame → Sameness). groups by backward) over-frames ∙ backward-in

-- COMPARISONS
abbrev outcomes : (Frame → Frame → Sameness) → List Sameness
outcomes by = map (λ (c : Pair). by c.left c.right) pairs

pairs-in : outcomes compare_in ≡ map (λ (c : Pair). c.outcome) pairs
unfolding same_type same_in equal_types identical listed type_in frame_at type_of member_of start starts_of lowest
    all_below build sum_below
pairs-in = refl

pairs-worked : outcomes compare ≡ map (λ (c : Pair). c.outcome) pairs
pairs-worked = ap outcomes over-frames ∙ pairs-in

-- PARTS, of both passes: row 1 over row 0
abbrev row : ℕ → RowNumber
row n = record { 0 = n }

abbrev given : Pass → Part → Frame × Frame
given pass c = (
  row_frame (over_base grouped_file c.base (resolve pass (row 1) (Row.access (row 0)))),
  row_frame (over_base grouped_file c.base (resolve pass (row 1) (Row.access_index (row 0) c.index))),
)

parts-worked : (pass : Pass) → map (given pass) parts ≡ map (λ (c : Part). (c.access, c.access_index)) parts
unfolding listed type_in frame_at type_of member_of start starts_of lowest all_below build sum_below
parts-worked pass = refl
