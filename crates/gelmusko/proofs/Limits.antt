-- A file within two limits (document 02, request 7), by the exported functions: what each returns, the frame that it
-- writes and every lent byte are the same at either. By their contracts each is what follows on reading the text, which
-- reads alike at both.
use Rattle.answers.specs.declared.FileError.{FileError}
use Prim.Native.Nat.{ℕ, ◌*◌, ◌≤◌}
use mathlib.Core.Path.{◌≡◌, ap}
use mathlib.Core.List.{List, []}
use lib.ListN.{length}
use Rattle.ir.specs.declared.TypeNumber.{TypeNumber}
use Rattle.ir.specs.declared.RowNumber.{RowNumber}
use Rattle.answers.specs.Outcome.{Outcome}
use Rattle.answers.specs.Numbers.{error_values, sameness_said, canonical_said, base_said}
use Rattle.text.specs.declared.AnswerRoom.TheVariants.{NotLent, Lent}
use Rattle.text.specs.Reading.{most_frames}
use Rattle.text.specs.Room.{or_short, short_read}
use Rattle.text.proofs.Laws.{alike-within}
use Rattle.frames.specs.declared.Frame.{Frame}
use Rattle.frames.specs.Bytes.{put_frame}
use Rattle.frames.specs.Out.{outcome_frame, one_frame, refused_frame}
use Rattle.rule_sizes.specs.Sizes.{size_said, size_said_frame}
use Rattle.rule_ranges.specs.Ranges.{type_range_said, range_said_frame}
use Rattle.rule_file.specs.File.{read_file, frames_after}
use Rattle.rule_file.specs.Types.{same_types}
use Rattle.rule_file.specs.Forms.{canonical_type, pointer_base_type}
use Rattle.rule_file.specs.Typing.{answers_after, row_type, row_said, answers_after_row, compose_verdict, verdict_said}
use Rattle.rule_file.specs.Typing.{answers_after_verdict}
use Rattle.rule_file.specs.Exported.{outcome_number, no_room, by_room, one_number, said_number, said_frame}
use Rattle.rule_file.specs.Exported.{type_said_number}
use Rattle.rule_file.specs.Exported.{type_said_frame, pass_of, handed_frame}
use Rattle.rule_file_sizes.specs.Sizes.{type_size}
use Rattle.rule_file_sizes.specs.Ranges.{size_range, frames_ranged}
use Rattle.law_file.proofs.Laws.{read_alike, buffer-alike}
use Rattle.law_file.proofs.Alike.{same_alike, answers-alike, row-alike, row-answers-alike, verdict-alike}
use Rattle.law_file.proofs.Alike.{verdict-answers-alike}
use Rattle.law_cut.specs.File.{cut_text, cut_after, cut_said}
use Rattle.law_cut.specs.Exported.{part_exported, frames_marked, table_after}
use Rattle.law_cut.proofs.Alike.{cut-alike, lines-alike, exported-alike, frames-alike, table-alike}
use Rattle.file_pointers.proofs.Alike.{canonical-alike, base-alike}
use Rattle.file_sizes.proofs.Alike.{size-alike, range-alike, range-frames-alike}

-- WHAT AN EXPORTED FUNCTION GIVES: the number that it returns, and the frame buffer, the answer buffer and the
-- out-slice after it. One that is lent no answer buffer has none.
pub record Given : Type 0 where
  pub number : ℕ
  pub frames : List ℕ
  pub answers : List ℕ
  pub out : List ℕ

-- as the contracts have it, of a text and the buffers fr, an and out before the call: a number n and a frame f, where
-- the out-slice has room
abbrev pub exported : ℕ → List ℕ → List ℕ → ℕ → List ℕ → List ℕ → List ℕ → Frame → Given
exported limit t out n fr after an f = record {
  number = by_room out (no_room limit t) n;
  frames = by_room out fr after;
  answers = an;
  out = put_frame out 0 f;
}

-- over a file alone
module _ (limit : ℕ) (t fr out : List ℕ) where
  -- with what is given, its number and its frame; no answer buffer is lent
  abbrev pub over_frames : ℕ → Frame → Given
  over_frames n f = exported limit t out n fr (frames_after limit t fr NotLent) [] f

  -- gelmusko_read_file
  abbrev pub read_file_given : Given
  read_file_given =
      let o = read_file limit t (length fr) NotLent in
      over_frames (outcome_number o) (outcome_frame o)

  -- gelmusko_same_type, of two frames handed in as bytes
  abbrev pub same_type_given : List ℕ → List ℕ → Given
  same_type_given left right =
      let s = sameness_said (same_types limit t (length fr) (handed_frame left) (handed_frame right)) in
      over_frames (said_number s) (said_frame s)

  -- gelmusko_canonical_form, gelmusko_pointer_base, gelmusko_type_size, of a type
  abbrev pub canonical_given : TypeNumber → Given
  canonical_given n =
      let s = canonical_said (canonical_type limit t (length fr) n) in
      over_frames (type_said_number s) (type_said_frame s)

  abbrev pub base_given : TypeNumber → Given
  base_given n =
      let s = base_said (pointer_base_type limit t (length fr) n) in
      over_frames (type_said_number s) (type_said_frame s)

  abbrev pub size_given : TypeNumber → Given
  size_given n =
      let s = size_said (type_size limit t (length fr) n) in
      over_frames (one_number s) (size_said_frame s)

  -- gelmusko_size_range, of two tables of counts and a type
  abbrev pub range_given : List ℕ → List ℕ → TypeNumber → Given
  range_given least greatest n =
      let s = type_range_said (size_range limit t (length fr) least greatest n) in
      exported limit t out (one_number s) fr (frames_ranged limit t fr least greatest) [] (range_said_frame s)

-- over its rows, with an answer buffer and a number for the pass
module _ (limit : ℕ) (t fr an out : List ℕ) (pass : ℕ) where
  abbrev pub over_rows : ℕ → List ℕ → Frame → Given
  over_rows n after f =
      exported limit t out n fr (frames_after limit t fr (Lent (length an))) (by_room out an after) f

  -- gelmusko_type_rows
  abbrev pub type_rows_given : Given
  type_rows_given =
      let o = read_file limit t (length fr) (Lent (length an)) in
      over_rows (outcome_number o) (answers_after (pass_of pass) limit t (length fr) an) (outcome_frame o)

  -- gelmusko_row_type, gelmusko_compose_verdict, of a row
  abbrev pub row_given : RowNumber → Given
  row_given n =
      let s = row_said (row_type (pass_of pass) limit t (length fr) (length an) n) in
      over_rows (one_number s) (answers_after_row (pass_of pass) limit t (length fr) an n) (one_frame s)

  abbrev pub verdict_given : RowNumber → Given
  verdict_given n =
      let s = verdict_said n (compose_verdict (pass_of pass) limit t (length fr) (length an) n) in
      over_rows (one_number s) (answers_after_verdict (pass_of pass) limit t (length fr) an n) (one_frame s)

-- over a row's part, with a table of marks or a buffer for lines in place of the answer buffer
module _ (limit : ℕ) (t fr out : List ℕ) (n : RowNumber) where
  -- gelmusko_smallest_part
  abbrev pub smallest_part_given : List ℕ → Given
  smallest_part_given table =
      let s = part_exported limit t (length fr) n table in
      exported limit t out s.number fr (frames_marked limit t fr table)
      (by_room out table (table_after limit t (length fr) n table)) (refused_frame s)

  -- gelmusko_cut_text
  abbrev pub cut_text_given : List ℕ → Given
  cut_text_given cut =
      let s = cut_said (cut_text limit t (length fr) n (length cut)) in
      exported limit t out s.number fr (frames_after limit t fr NotLent)
      (by_room out cut (cut_after limit t (length fr) n cut)) (refused_frame s)

-- A TEXT WITHIN TWO LIMITS
module _ (limit other : ℕ) (t : List ℕ) (a : length t ≤ 33 * most_frames limit)
    (b : length t ≤ 33 * most_frames other) where
  pub no-room-alike : no_room limit t ≡ no_room other t
  unfolding no_room short_read
  no-room-alike = ap (λ (o : Outcome). (error_values (or_short o)).number) (alike-within limit other t 0 NotLent a b)

  module _ (fr out : List ℕ) where
    abbrev frames : frames_after limit t fr NotLent ≡ frames_after other t fr NotLent
    frames = buffer-alike limit other t a b NotLent fr

    pub read-file-alike : read_file_given limit t fr out ≡ read_file_given other t fr out
    read-file-alike =
        let p = no-room-alike in let q = frames in let r = read_alike limit other t a b NotLent (length fr) in
        cc

    pub same-type-alike : (left right : List ℕ) → same_type_given limit t fr out left right
        ≡ same_type_given other t fr out left right
    same-type-alike left right =
        let p = no-room-alike in let q = frames in
        let r = same_alike limit other t a b (length fr) (handed_frame left) (handed_frame right) in
        cc

    pub canonical-form-alike : (n : TypeNumber) → canonical_given limit t fr out n ≡ canonical_given other t fr out n
    canonical-form-alike n =
        let p = no-room-alike in let q = frames in let r = canonical-alike limit other t a b (length fr) n in
        cc

    pub pointer-base-alike : (n : TypeNumber) → base_given limit t fr out n ≡ base_given other t fr out n
    pointer-base-alike n =
        let p = no-room-alike in let q = frames in let r = base-alike limit other t a b (length fr) n in
        cc

    pub type-size-alike : (n : TypeNumber) → size_given limit t fr out n ≡ size_given other t fr out n
    type-size-alike n =
        let p = no-room-alike in let q = frames in let r = size-alike limit other t a b (length fr) n in
        cc

    pub size-range-alike : (least greatest : List ℕ) (n : TypeNumber) → range_given limit t fr out least greatest n
        ≡ range_given other t fr out least greatest n
    size-range-alike least greatest n =
        let p = no-room-alike in
        let q = range-frames-alike limit other t a b (length fr) n least greatest fr in
        let r = range-alike limit other t a b (length fr) n least greatest in
        cc

  module _ (fr an out : List ℕ) (pass : ℕ) where
    abbrev rows_frames : frames_after limit t fr (Lent (length an)) ≡ frames_after other t fr (Lent (length an))
    rows_frames = buffer-alike limit other t a b (Lent (length an)) fr

    pub type-rows-alike : type_rows_given limit t fr an out pass ≡ type_rows_given other t fr an out pass
    type-rows-alike =
        let p = no-room-alike in let q = rows_frames in
        let r = read_alike limit other t a b (Lent (length an)) (length fr) in
        let s = answers-alike limit other t a b (pass_of pass) (length fr) an in
        cc

    pub row-type-alike : (n : RowNumber) → row_given limit t fr an out pass n ≡ row_given other t fr an out pass n
    row-type-alike n =
        let p = no-room-alike in let q = rows_frames in
        let r = row-alike limit other t a b (pass_of pass) (length fr) (length an) n in
        let s = row-answers-alike limit other t a b (pass_of pass) (length fr) an n in
        cc

    pub compose-verdict-alike : (n : RowNumber) → verdict_given limit t fr an out pass n
        ≡ verdict_given other t fr an out pass n
    compose-verdict-alike n =
        let p = no-room-alike in let q = rows_frames in
        let r = verdict-alike limit other t a b (pass_of pass) (length fr) (length an) n in
        let s = verdict-answers-alike limit other t a b (pass_of pass) (length fr) an n in
        cc

  module _ (fr out : List ℕ) (n : RowNumber) where
    pub smallest-part-alike : (table : List ℕ) → smallest_part_given limit t fr out n table
        ≡ smallest_part_given other t fr out n table
    smallest-part-alike table =
        let p = no-room-alike in
        let q = frames-alike limit other t a b (length fr) n fr table in
        let r = exported-alike limit other t a b (length fr) n table in
        let s = table-alike limit other t a b (length fr) n table in
        cc

    pub cut-text-alike : (cut : List ℕ) → cut_text_given limit t fr out n cut ≡ cut_text_given other t fr out n cut
    cut-text-alike cut =
        let p = no-room-alike in
        let q = buffer-alike limit other t a b NotLent fr in
        let r = cut-alike limit other t a b (length fr) n (length cut) in
        let s = lines-alike limit other t a b (length fr) n cut in
        cc
