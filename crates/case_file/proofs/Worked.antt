-- Every case of the table is what the definitions cited by the contracts of `type_text`, `read_file`, `type_rows`,
-- `type_file`, `row_type`, `compose_verdict`, `same_type`, `canonical_form` and `pointer_base` give: both sides compute
-- to the same.
use mathlib.Core.Path.{◌≡◌, refl}
use mathlib.Core.List.{List, map}
use Prim.Native.Nat.{ℕ}
use lib.ListN.{length}
use Rattle.answers.specs.Limit.{max_frames}
use Rattle.scan.specs.Lowest.{lowest, all_below}
use Rattle.scan.specs.Lists.{build, sum_below}
use Rattle.text.specs.declared.AnswerRoom.{AnswerRoom}
use Rattle.text.specs.declared.AnswerRoom.TheVariants.{NotLent, Lent}
use Rattle.text.specs.Hex.{digit_value, digit_of}
use Rattle.text.specs.Lines.{line_ok, byte_of, char_of}
use Rattle.text.specs.Reading.{answer_frames, too_short, most_frames, read_text}
use Rattle.frames.specs.Bytes.{frame_at}
use Rattle.frames.specs.Forms.{type_of, item_of, row_of, member_of, component_of, fields_fit}
use Rattle.archive.specs.Order.{order_ok}
use Rattle.archive.specs.Starts.{start, starts_of}
use Rattle.archive.specs.Names.{names_ok}
use Rattle.archive.specs.Parts.{early_ok}
use Rattle.archive.specs.Checks.{index_ok, check_frames}
use Rattle.archive.specs.Access.{type_in, row_in}
use Rattle.rule.specs.Things.{listed}
use Rattle.rule_types.specs.Canonical.{equal_types, identical, canonical_type_in, pointer_base_in}
use Rattle.rule_types.specs.Comparison.{same_in, same_type}
use Rattle.rule_rows.specs.declared.Pass.TheVariants.{First}
use Rattle.rule_compose.specs.Verdict.{each_part, vector_parts}
use Rattle.rule_answers.specs.Outputs.{outputs, frames_bytes}
use Rattle.rule_file.specs.File.{read_file, frames_after}
use Rattle.rule_file.specs.Types.{same_types}
use Rattle.rule_file.specs.Typing.{answers_after, output_count, row_type, answers_after_row, compose_verdict}
use Rattle.rule_file.specs.Typing.{answers_after_verdict, typed_text}
use Rattle.rule_file.specs.Forms.{canonical_type, pointer_base_type}
use Rattle.case_file.specs.Table.{FileQuestion, print, read, types, row, verdict, same, canonical, base}
use Rattle.case_file.specs.Table.{Answered, printed, outcome, types_are, row_is, verdict_is, sameness, canonical_is}
use Rattle.case_file.specs.Table.{base_is, FileCase, file_cases}

abbrev Output : Type 0
Output = Answered × List ℕ

-- what is answered of a text over a frame buffer of f bytes, by the definitions that the contracts of the public
-- functions cite
abbrev answered : List ℕ → ℕ → FileQuestion → Answered
answered t f print = printed (typed_text First max_frames t)
answered t f read = outcome (read_file max_frames t f NotLent)
answered t f (types an) =
    types_are (read_file max_frames t f (Lent (length an))) (output_count First max_frames t f (length an))
    (answers_after First max_frames t f an)
answered t f (row n an) = row_is (row_type First max_frames t f (length an) (record { 0 = n }))
    (answers_after_row First max_frames t f an (record { 0 = n }))
answered t f (verdict n an) =
    verdict_is (compose_verdict First max_frames t f (length an) (record { 0 = n }))
    (answers_after_verdict First max_frames t f an (record { 0 = n }))
answered t f (same l r) = sameness (same_types max_frames t f l r)
answered t f (canonical n) = canonical_is (canonical_type max_frames t f (record { 0 = n }))
answered t f (base n) = base_is (pointer_base_type max_frames t f (record { 0 = n }))

-- the answer buffer lent
abbrev room_of : FileQuestion → AnswerRoom
room_of print = NotLent
room_of read = NotLent
room_of (types an) = Lent (length an)
room_of (row n an) = Lent (length an)
room_of (verdict n an) = Lent (length an)
room_of (same l r) = NotLent
room_of (canonical n) = NotLent
room_of (base n) = NotLent

-- and the frame buffer after it
abbrev given : FileCase → Output
given c = (
  answered c.text (length c.lent) c.asked,
  frames_after max_frames c.text c.lent (room_of c.asked),
)

abbrev wanted : FileCase → Output
wanted c = (c.answer, c.after)

worked : map given file_cases ≡ map wanted file_cases
unfolding lowest all_below build sum_below digit_value line_ok byte_of answer_frames too_short most_frames read_text
    frame_at type_of item_of row_of member_of component_of fields_fit order_ok start starts_of names_ok early_ok
    index_ok check_frames read_file frames_after listed type_in equal_types identical same_in same_type same_types
    canonical_type_in pointer_base_in canonical_type pointer_base_type row_in each_part vector_parts outputs
    frames_bytes digit_of char_of answers_after output_count row_type answers_after_row compose_verdict
    answers_after_verdict typed_text
worked = refl
