-- The worked examples: of each, reading the text, the answer buffer that `type_rows` leaves, the comparisons of
-- `same_type`, the later reader of the choice, and the readings give what stands in its tables. Both sides compute to
-- the same.
use Rattle.std.specs.Prelude.{Ok}
use Prim.Native.Nat.{ℕ, ◌*◌}
use mathlib.Core.Path.{◌≡◌, refl}
use mathlib.Core.List.{List, [], ◌∷◌, ◌++◌, map}
use mathlib.Core.Option.{Option, none, some}
use lib.ListN.{length}
use Rattle.scan.specs.Lowest.{lowest, all_below}
use Rattle.scan.specs.Lists.{build, sum_below}
use Rattle.answers.specs.Numbers.{sameness_said}
use Rattle.answers.specs.Outcome.{Outcome}
use Rattle.answers.specs.Limit.{max_frames}
use Rattle.text.specs.declared.AnswerRoom.TheVariants.{Lent}
use Rattle.text.specs.Hex.{digit_value, digit_of}
use Rattle.text.specs.Lines.{line_ok, line_count, byte_of, decoded, char_of}
use Rattle.text.specs.Reading.{answer_bytes, answer_frames, too_short, most_frames, read_text}
use Rattle.frames.specs.Bytes.{frame_at}
use Rattle.frames.specs.Forms.{type_of, item_of, row_of, member_of, component_of, fields_fit}
use Rattle.archive.specs.Order.{order_ok}
use Rattle.archive.specs.Starts.{start, starts_of}
use Rattle.archive.specs.Names.{names_ok}
use Rattle.archive.specs.Parts.{early_ok}
use Rattle.archive.specs.Checks.{index_ok, check_frames}
use Rattle.archive.specs.Access.{type_in, row_in}
use Rattle.rule.specs.Answers.{Judgement, Place, type_answer_of, row_answer_of, chosen_judgement}
use Rattle.rule.specs.Things.{listed, see}
use Rattle.rule.specs.Rule.{Rule}
use Rattle.rule_types.specs.Canonical.{equal_types, identical}
use Rattle.rule_types.specs.Comparison.{handed, same_in, same_type}
use Rattle.rule_rows.specs.declared.Pass.TheVariants.{First}
use Rattle.rule_rows.specs.Typed.{typing}
use Rattle.rule_compose.specs.Verdict.{each_part, vector_parts}
use Rattle.rule_compose.specs.Rows.{verdict_rule}
use Rattle.rule_answers.specs.Outputs.{outputs, frames_bytes}
use Rattle.rule_file.specs.File.{read_file}
use Rattle.rule_file.specs.Types.{same_types}
use Rattle.rule_file.specs.Typing.{answers_after}
use Rattle.law_later_readers.specs.Reader.{row_bytes, verdict_bytes, said_bytes, compared_bytes, theirs, meets}
use Rattle.law_later_readers.specs.Ours.{frames_for, answers_for}
use Rattle.case_later.specs.Tables.{LaterQuestion, row, verdict, Two, LaterLine, Example}
use Rattle.case_later.specs.Worked as Worked
use Rattle.case_later.specs.Chosen as Chosen

module _ (e : Example) where
  -- the frames of the file
  abbrev fr : List ℕ
  fr = decoded e.text e.frames

  -- THE LATER READER'S; a row that is no compose has no verdict

  abbrev later_verdict : ℕ → Option (Rule Judgement) → List ℕ
  later_verdict m (some rule) = verdict_bytes m
      (theirs First fr e.choice m (chosen_judgement (e.choice.verdicts m)) rule)
  later_verdict m none = []

  abbrev by_later : LaterQuestion → List ℕ
  by_later (row m) = row_bytes (theirs First fr e.choice m (row_answer_of (e.choice.rows m)) (typing First m))
  by_later (verdict m) = later_verdict m (verdict_rule (see fr) m)

  -- WHAT A READING MEETS

  abbrev met_by_verdict : ℕ → Option (Rule Judgement) → Option Place
  met_by_verdict m (some rule) = meets First fr m rule
  met_by_verdict m none = none

  abbrev met_by : LaterQuestion → Option Place
  met_by (row m) = meets First fr m (typing First m)
  met_by (verdict m) = met_by_verdict m (verdict_rule (see fr) m)

  -- OF TWO FRAMES, a whole line: ours by `same_types`, which the contract of `same_type` cites
  abbrev compared : Two → LaterLine Two
  compared q =
      let rule = handed (type_answer_of q.left) (type_answer_of q.right) in
      record {
        asked = q;
        ours = said_bytes (sameness_said
            (same_types max_frames e.text (length (frames_for e.text)) q.left q.right));
        theirs = compared_bytes (theirs First fr e.choice 0 (e.choice.same q.left q.right) rule);
        meets = meets First fr 0 rule;
      }

  -- ALL OF IT: reading the text; the answer buffer, by `answers_after`, which the contract of `type_rows` cites; the
  -- later reader's answers; what their readings meet; the comparisons
  abbrev Whole : Type 0
  Whole = Outcome × List ℕ × List (List ℕ) × List (Option Place) × List (LaterLine Two)

  abbrev computed : Whole
  computed = (
    read_file max_frames e.text (16 * line_count e.text) (Lent (answer_bytes e.text)),
    answers_after First max_frames e.text (length (frames_for e.text)) (answers_for e.text),
    map (λ (l : LaterLine LaterQuestion). by_later l.asked) e.answers,
    map (λ (l : LaterLine LaterQuestion). met_by l.asked) e.answers,
    map (λ (l : LaterLine Two). compared l.asked) e.comparisons,
  )

  abbrev ours_of : List (LaterLine LaterQuestion) → List ℕ
  ours_of [] = []
  ours_of (l ∷ ls) = l.ours ++ ours_of ls

  abbrev written : Whole
  written = (
    Ok e.frames,
    ours_of e.answers,
    map (λ (l : LaterLine LaterQuestion). l.theirs) e.answers,
    map (λ (l : LaterLine LaterQuestion). l.meets) e.answers,
    e.comparisons,
  )

  abbrev IsAsWritten : Type 0
  IsAsWritten = computed ≡ written

worked : IsAsWritten Worked.example
unfolding lowest all_below build sum_below digit_value digit_of line_ok byte_of char_of answer_frames too_short
    most_frames read_text frame_at type_of item_of row_of member_of component_of fields_fit order_ok start starts_of
    names_ok early_ok index_ok check_frames read_file type_in row_in listed equal_types identical same_in same_type
    each_part vector_parts outputs frames_bytes same_types answers_after
worked = refl

-- and with chosen answers that no rule of ours makes
chosen-worked : IsAsWritten Chosen.example
unfolding lowest all_below build sum_below digit_value digit_of line_ok byte_of char_of answer_frames too_short
    most_frames read_text frame_at type_of item_of row_of member_of component_of fields_fit order_ok start starts_of
    names_ok early_ok index_ok check_frames read_file type_in row_in listed equal_types identical same_in same_type
    each_part vector_parts outputs frames_bytes same_types answers_after
chosen-worked = refl
