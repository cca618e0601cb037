-- Every case of the table is what the definitions cited by the contract of `explain_text` give: both sides compute to
-- the same.
use Rattle.std.specs.Prelude.{ℕ, Option, Some, None}
use mathlib.Core.Path.{◌≡◌, refl}
use mathlib.Core.List.{List, map, ◌++◌}
use Prim.Native.Nat.{ℕ, ◌+◌, ◌-◌}
use lib.ListN.{length, replicate}
use Rattle.scan.specs.Lowest.{lowest, all_below}
use Rattle.scan.specs.Lists.{build, sum_below}
use Rattle.text.specs.Hex.{digit_value, digit_of}
use Rattle.text.specs.Lines.{line_ok, byte_of, char_of}
use Rattle.text.specs.Reading.{answer_frames, too_short, most_frames, read_text}
use Rattle.frames.specs.Bytes.{frame_at}
use Rattle.frames.specs.Forms.{type_of, item_of, row_of, member_of, component_of, fields_fit}
use Rattle.archive.specs.Order.{order_ok}
use Rattle.archive.specs.Starts.{start, starts_of}
use Rattle.archive.specs.Names.{names_ok}
use Rattle.archive.specs.Parts.{early_ok}
use Rattle.archive.specs.Checks.{index_ok, check_frames}
use Rattle.answers.specs.Limit.{max_frames}
use Rattle.archive.specs.Access.{type_in, row_in}
use Rattle.rule.specs.Things.{listed}
use Rattle.rule_types.specs.Canonical.{equal_types, identical, canonical_type_in, pointer_base_in}
use Rattle.rule_types.specs.Comparison.{same_in, same_type}
use Rattle.rule_compose.specs.Verdict.{each_part, vector_parts}
use Rattle.rule_answers.specs.Outputs.{outputs, frames_bytes}
use Rattle.rule_file.specs.File.{read_file}
use Rattle.rule_file.specs.Printed.{printed, printed_after}
use Rattle.rule_explain.specs.Words as W
use Rattle.rule_explain.specs.Words.{word_bytes}
use Rattle.rule_explain.specs.Lines.{digits, piece_bytes, spelled}
use Rattle.explain_words.specs.ForProofs.{lines}
use Rattle.rule_explain.specs.Types.{picked, named, scalar_words, around, vector, brief, within, pointer, array_words}
use Rattle.rule_explain.specs.Types.{cooperative_words, class_name, arrayed_name, image, whole}
use Rattle.rule_explain.specs.Answers.{manner, reason, refusal, judged_words, said, shown, ending, line_of, fault_words}
use Rattle.rule_explain.specs.Explained.{joined, next_row, row_at, lines_of, explained}
use Rattle.rule_sizes.specs.Sizes as Sz
use Rattle.rule_sizes.specs.Sizes.{array_of, parts_of, spanned, struct_of, measures, measure_in, frames_of}
use Rattle.rule_ranges.specs.Pending.{member_holds, holding, holds_pending}
use Rattle.rule_ranges.specs.Counts.{fresh_parts, fresh_struct, measures_by, measure_by}
use Rattle.rule_ranges.specs.Ranges.{range_in, faulty_span}
use Rattle.rule_explain.specs.Sizes.{size_words, span_words, size_line_of}
use Rattle.rule_explain.specs.Sized.{sizes_of, sized, ranges_of, ranges_printed, ranges_after}
use Rattle.case_explain.specs.Table.{Room, over, below, unused, ExplainedCase, explained_cases, SizeCase, sizes}
use Rattle.case_explain.specs.Table.{RangeCase}
use Rattle.case_explain.specs.Table.{ranges}

-- the output buffer, of bytes 7
abbrev sized_by : ℕ → Room → ℕ
sized_by n (over k) = n + k
sized_by n (below k) = n - k
sized_by n (unused k) = n + k

abbrev lent : ExplainedCase → List ℕ
lent c = replicate (sized_by (length (lines c.lines)) c.room) 7

-- what is given, and what is left of the buffer
abbrev given : ExplainedCase → Option ℕ × List ℕ
given c = (
  printed (explained c.pass c.limit (lines c.text)) (length (lent c)),
  printed_after (explained c.pass c.limit (lines c.text)) (lent c),
)

abbrev left : List ℕ → Room → Option ℕ × List ℕ
left l (over k) = (Some (length l), l ++ replicate k 7)
left l (below k) = (None, replicate (length l - k) 7)
left l (unused k) = (None, replicate (length l + k) 7)

abbrev wanted : ExplainedCase → Option ℕ × List ℕ
wanted c = left (lines c.lines) c.room

worked : map given explained_cases ≡ map wanted explained_cases
unfolding lowest all_below build sum_below digit_value line_ok byte_of answer_frames too_short most_frames read_text
    frame_at type_of item_of row_of member_of component_of fields_fit order_ok start starts_of names_ok early_ok
    index_ok check_frames read_file printed printed_after listed type_in equal_types identical same_in same_type
    canonical_type_in pointer_base_in row_in each_part vector_parts outputs frames_bytes digit_of char_of word_bytes
    W.word_table digits piece_bytes spelled picked named scalar_words around vector brief within pointer array_words
    cooperative_words class_name arrayed_name image whole manner reason refusal judged_words said shown ending line_of
    fault_words joined next_row row_at lines_of
worked = refl

-- THE SIZES of a file's types: the same of `sizes_text`

abbrev sized_text : SizeCase → List ℕ
sized_text c = sized c.limit (lines c.text)

abbrev lent_sizes : SizeCase → List ℕ
lent_sizes c = replicate (sized_by (length (lines c.lines)) c.room) 7

abbrev given_sizes : SizeCase → Option ℕ × List ℕ
given_sizes c = (printed (sized_text c) (length (lent_sizes c)), printed_after (sized_text c) (lent_sizes c))

abbrev wanted_sizes : SizeCase → Option ℕ × List ℕ
wanted_sizes c = left (lines c.lines) c.room

sizes-worked : map given_sizes sizes ≡ map wanted_sizes sizes
unfolding lowest all_below build sum_below digit_value line_ok byte_of answer_frames too_short most_frames read_text
    frame_at type_of item_of row_of member_of component_of fields_fit order_ok start starts_of names_ok early_ok
    index_ok check_frames read_file printed printed_after type_in digit_of char_of word_bytes W.word_table digits
    piece_bytes spelled picked named scalar_words around vector brief within pointer array_words cooperative_words
    class_name arrayed_name image whole fault_words joined size_words size_line_of sizes_of frames_of measures
    measure_in array_of Sz.joined parts_of spanned struct_of
sizes-worked = refl

-- THE RANGES of them: the same of `ranges_text`

abbrev lent_ranges : RangeCase → List ℕ
lent_ranges c = replicate (sized_by (length (lines c.lines)) c.room) 7

abbrev given_ranges : RangeCase → Option ℕ × List ℕ
given_ranges c = (
  ranges_printed max_frames c.least c.greatest (lines c.text) (length (lent_ranges c)),
  ranges_after max_frames c.least c.greatest (lines c.text) (lent_ranges c),
)

abbrev wanted_ranges : RangeCase → Option ℕ × List ℕ
wanted_ranges c = left (lines c.lines) c.room

ranges-worked : map given_ranges ranges ≡ map wanted_ranges ranges
unfolding lowest all_below build sum_below digit_value line_ok byte_of answer_frames too_short most_frames read_text
    frame_at type_of item_of row_of member_of component_of fields_fit order_ok start starts_of names_ok early_ok
    index_ok check_frames read_file printed printed_after type_in digit_of char_of word_bytes W.word_table digits
    piece_bytes spelled picked named scalar_words around vector brief within pointer array_words cooperative_words
    class_name arrayed_name image whole fault_words joined size_words span_words size_line_of ranges_of frames_of
    array_of Sz.joined parts_of spanned struct_of member_holds holding holds_pending fresh_parts fresh_struct
    measures_by measure_by range_in faulty_span
ranges-worked = refl
