-- The claim shuts out four readers, for every pass and every limit of three frames or more: over one text of three
-- frames each answers a row otherwise than its reading says. Row 0 is newer, row 1 meets nothing newer, and row 2 meets
-- row 0's.
use Prim.Native.Nat.{ℕ, ◌*◌, ◌≤◌}
use native.Mathlib.Omega.{arith}
use mathlib.Core.Path.{◌≡◌, refl, ap, ◌∙◌}
use mathlib.Core.Bool.{Bool, true, false, cond}
use mathlib.Core.List.{List}
use mathlib.Core.Option.{none, some}
use lib.ListN.{length, get_or}
use Rattle.answers.specs.Limit.{max_frames}
use Rattle.scan.specs.Lowest.{lowest, all_below}
use Rattle.scan.specs.Lists.{build, sum_below}
use Rattle.text.specs.declared.AnswerRoom.TheVariants.{Lent}
use Rattle.text.specs.Hex.{digit_value, digit_of}
use Rattle.text.specs.Lines.{line_ok, line_count, byte_of, char_of, decoded}
use Rattle.text.specs.Reading.{answer_frames, answer_bytes, too_short, most_frames, read_text}
use Rattle.text.proofs.Laws.{most-given}
use Rattle.text.proofs.RoundTrip.{length-text}
use Rattle.frames.specs.Bytes.{frame_at}
use Rattle.frames.specs.Forms.{type_of, item_of, row_of, member_of, component_of, fields_fit}
use Rattle.archive.specs.Order.{order_ok}
use Rattle.archive.specs.Starts.{start, starts_of, row_count}
use Rattle.archive.specs.Names.{names_ok}
use Rattle.archive.specs.Parts.{early_ok}
use Rattle.archive.specs.Checks.{index_ok, check_frames}
use Rattle.archive.specs.Access.{row_in}
use Rattle.rule.specs.Answers.{row}
use Rattle.rule_types.proofs.Seen.{never}
use Rattle.rule_rows.specs.declared.Pass.{Pass}
use Rattle.rule_rows.specs.Typed.{typing}
use Rattle.rule_file.specs.File.{read_file}
use Rattle.law_file.proofs.Laws.{read_alike}
use Rattle.law_later_readers.specs.Reader.{Reader, SaysNewer, meets, Keeps, IsAccepted, Claim}
use Rattle.law_later_readers.specs.ShutOut.{newer_at_row, all_newer, holds_newer, newer_before_reading, is_newer}
use Rattle.law_later_readers.specs.ShutOut.{newer_as_another, newer_at_itself}
use Rattle.law_later_readers.specs.ForProofs.{three_rows}
use Rattle.law_later_readers.proofs.Only.{choice}

abbrev fr : List ℕ
fr = decoded three_rows 3

-- WHAT THE TEXT IS, computed
at_most : IsAccepted max_frames three_rows 3
unfolding most_frames lowest all_below build sum_below digit_value digit_of line_ok byte_of char_of answer_frames
    too_short read_text frame_at type_of item_of row_of member_of component_of fields_fit order_ok start starts_of
    names_ok early_ok index_ok check_frames read_file
at_most = refl

long : length three_rows ≡ 99
long = length-text _ 3

accepted : (limit : ℕ) → 3 ≤ most_frames limit → IsAccepted limit three_rows 3
accepted limit few =
    read_alike limit max_frames three_rows (omega (arith, long))
    (omega (arith, long, most-given max_frames (omega arith) (omega arith))) (Lent (answer_bytes three_rows))
    (16 * line_count three_rows) ∙ at_most

three : row_count (starts_of fr) ≡ 3
unfolding lowest build digit_value digit_of byte_of char_of frame_at start starts_of
three = refl

holds : holds_newer three_rows ≡ true
unfolding lowest all_below build digit_value digit_of byte_of char_of frame_at
holds = refl

first-met : (pass : Pass) → meets pass fr 0 (typing pass 0) ≡ some (row (record { 0 = 0 }))
unfolding lowest build digit_value digit_of byte_of char_of frame_at start starts_of row_in row_of
first-met pass = refl

second-unmet : (pass : Pass) → meets pass fr 1 (typing pass 1) ≡ none
unfolding lowest build digit_value digit_of byte_of char_of frame_at start starts_of row_in row_of
second-unmet pass = refl

third-met : (pass : Pass) → meets pass fr 2 (typing pass 2) ≡ some (row (record { 0 = 0 }))
unfolding lowest build digit_value digit_of byte_of char_of frame_at start starts_of row_in row_of
third-met pass = refl

module _ {pass : Pass} (limit : ℕ) (few : 3 ≤ most_frames limit) {r : Reader} (claim : Claim pass limit r) where
  abbrev keeps : Keeps pass r three_rows fr choice
  keeps = claim three_rows 3 (accepted limit few) choice

  first-is : r.row three_rows 0 ≡ newer_at_row 0
  first-is = (keeps.rows 0 (omega (arith, three))).place (row (record { 0 = 0 })) (first-met pass)

  second-is-not : SaysNewer 10 (r.row three_rows 1) → ⊥
  second-is-not w = (keeps.rows 1 (omega (arith, three))).exactly.0 w (second-unmet pass)

  third-is : r.row three_rows 2 ≡ newer_at_row 0
  third-is = (keeps.rows 2 (omega (arith, three))).place (row (record { 0 = 0 })) (third-met pass)

says : (m : ℕ) → SaysNewer 10 (newer_at_row m)
says m = record { family-is = refl; number_is = refl }

-- THE FOUR
pub not-all-newer : (pass : Pass) (limit : ℕ) → 3 ≤ most_frames limit → Claim pass limit all_newer → ⊥
not-all-newer pass limit few c = second-is-not limit few c (says 1)

module _ (pass : Pass) (limit : ℕ) (few : 3 ≤ most_frames limit) (r : Reader) where
  pub not-before-reading : Claim pass limit (newer_before_reading r) → ⊥
  not-before-reading c = second-is-not limit few c (rw holds (says 1))

  pub not-as-another : Claim pass limit (newer_as_another r) → ⊥
  not-as-another c =
      let e : r.row three_rows 0 ≡ newer_at_row 0 = first-is limit few c in
      second-is-not limit few c (rw e (says 0))

  pub not-at-itself : Claim pass limit (newer_at_itself r) → ⊥
  not-at-itself c = go (is_newer (r.row three_rows 2)) refl (third-is limit few c)
    where
      go : (b : Bool) → is_newer (r.row three_rows 2) ≡ b
          → cond b (newer_at_row 2) (r.row three_rows 2) ≡ newer_at_row 0 → ⊥
      go true q e = let z : ◌≡◌ {A = ℕ} 2 0 = ap (λ (l : List ℕ). get_or l 2 0) e in omega arith
      go false q e = never (cc)
