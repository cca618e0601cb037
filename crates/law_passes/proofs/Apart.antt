-- The claim on later readers tells the passes apart: no reader meets it for both, at any limit of five frames or
-- more; so a reader that gives the first pass's answers, which meets the first, is shut out of the second. The
-- witness is f32 plus vec2<f32>: by the first pass the left operand's number, by the second the vector as a value.
use Prim.Native.Nat.{ℕ, ◌*◌, ◌≤◌}
use native.Mathlib.Omega.{arith}
use mathlib.Core.Path.{◌≡◌, refl, sym, ap, ◌∙◌}
use mathlib.Core.List.{List}
use mathlib.Core.Option.{none}
use lib.ListN.{length, get_or}
use Rattle.answers.specs.Limit.{max_frames}
use Rattle.scan.specs.Lowest.{lowest, all_below}
use Rattle.scan.specs.Lists.{build, sum_below}
use Rattle.text.specs.declared.AnswerRoom.TheVariants.{Lent}
use Rattle.text.specs.Hex.{digit_value, digit_of}
use Rattle.text.specs.Lines.{line_ok, line_count, byte_of, char_of, decoded}
use Rattle.text.specs.Reading.{answer_frames, answer_bytes, too_short, most_frames, read_text}
use Rattle.text.proofs.Laws.{most-given}
use Rattle.text.proofs.RoundTrip.{length-text}
use Rattle.frames.specs.Bytes.{frame_at}
use Rattle.frames.specs.Forms.{type_of, item_of, row_of, member_of, component_of, fields_fit}
use Rattle.archive.specs.Order.{order_ok}
use Rattle.archive.specs.Starts.{start, starts_of, row_count}
use Rattle.archive.specs.Names.{names_ok}
use Rattle.archive.specs.Parts.{early_ok}
use Rattle.archive.specs.Checks.{index_ok, check_frames}
use Rattle.archive.specs.Access.{type_in, row_in}
use Rattle.rule.specs.Answers.{row_answer_of}
use Rattle.rule_rows.specs.declared.Pass.{Pass}
use Rattle.rule_rows.specs.declared.Pass.TheVariants as Pa
use Rattle.rule_rows.specs.Typed.{typing}
use Rattle.rule_file.specs.File.{read_file}
use Rattle.law_file.proofs.Laws.{read_alike}
use Rattle.law_later_readers.specs.Reader.{Reader, row_bytes, theirs, meets, Keeps, IsAccepted, Claim}
use Rattle.law_later_readers.specs.Ours.{Suffice, by_buffer, by_row}
use Rattle.law_later_readers.proofs.Only.{choice}
use Rattle.law_later_readers.proofs.Ours.{type-rows-keeps, row-type-keeps}
use Rattle.law_passes.specs.ForProofs.{scalar_plus_vector}

abbrev fr : List ℕ
fr = decoded scalar_plus_vector 5

-- WHAT THE TEXT IS, computed
at_most : IsAccepted max_frames scalar_plus_vector 5
unfolding most_frames lowest all_below build sum_below digit_value digit_of line_ok byte_of char_of answer_frames
    too_short read_text frame_at type_of item_of row_of member_of component_of fields_fit order_ok start starts_of
    names_ok early_ok index_ok check_frames read_file
at_most = refl

long : length scalar_plus_vector ≡ 165
long = length-text _ 5

accepted : (limit : ℕ) → 5 ≤ most_frames limit → IsAccepted limit scalar_plus_vector 5
accepted limit few =
    read_alike limit max_frames scalar_plus_vector (omega (arith, long))
    (omega (arith, long, most-given max_frames (omega arith) (omega arith)))
    (Lent (answer_bytes scalar_plus_vector)) (16 * line_count scalar_plus_vector) ∙ at_most

three : row_count (starts_of fr) ≡ 3
unfolding lowest build digit_value digit_of byte_of char_of frame_at start starts_of
three = refl

-- the sum reads what is known, in both passes
first-unmet : meets Pa.First fr 2 (typing Pa.First 2) ≡ none
unfolding lowest build digit_value digit_of byte_of char_of frame_at start starts_of row_in row_of type_in type_of
first-unmet = refl

second-unmet : meets Pa.Second fr 2 (typing Pa.Second 2) ≡ none
unfolding lowest build digit_value digit_of byte_of char_of frame_at start starts_of row_in row_of type_in type_of
second-unmet = refl

-- a later reader's bytes: a type number, family 8, and a value, family 9
first-family : get_or (row_bytes (theirs Pa.First fr choice 2 (row_answer_of (choice.rows 2)) (typing Pa.First 2))) 0 0
    ≡ 8
unfolding lowest build digit_value digit_of byte_of char_of frame_at start starts_of row_in row_of type_in type_of
first-family = refl

second-family : get_or (row_bytes (theirs Pa.Second fr choice 2 (row_answer_of (choice.rows 2)) (typing Pa.Second 2))) 0
    0
    ≡ 9
unfolding lowest build digit_value digit_of byte_of char_of frame_at start starts_of row_in row_of type_in type_of
second-family = refl

pub not-both : (limit : ℕ) → 5 ≤ most_frames limit → (r : Reader) → Claim Pa.First limit r → Claim Pa.Second limit r → ⊥
not-both limit few r one two =
    let a = ((one scalar_plus_vector 5 (accepted limit few) choice).rows 2 (omega (arith, three))).equal first-unmet in
    let b = ((two scalar_plus_vector 5 (accepted limit few) choice).rows 2 (omega (arith, three))).equal second-unmet in
    let z : ◌≡◌ {A = ℕ} 8 9 = sym first-family ∙ ap (λ (l : List ℕ). get_or l 0 0) (sym a ∙ b) ∙ second-family in
    omega arith

-- a reader that gives the first pass's answers, by the answer buffer or row by row
module _ (limit : ℕ) (few : 5 ≤ most_frames limit) (frames answers : List ℕ → List ℕ)
    (enough : Suffice frames answers) where
  pub not-first-pass : Claim Pa.Second limit (by_buffer Pa.First limit frames answers) → ⊥
  not-first-pass c = not-both limit few _ (type-rows-keeps Pa.First limit frames answers enough) c

  pub not-first-pass-by-row : Claim Pa.Second limit (by_row Pa.First limit frames answers) → ⊥
  not-first-pass-by-row c = not-both limit few _ (row-type-keeps Pa.First limit frames answers enough) c
