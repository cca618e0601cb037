-- What joining two files gives, over their texts (document 02, request 14). The first is checked, then the second, each
-- on its own buffers alone; then each must be joinable, else 49; then the join is within the limit, else 1; then its
-- lines have room, else 3. One limit serves the two and the join.
use Rattle.std.specs.Prelude.{ℕ, ◌+◌, cond, ◌&&◌, List, ◌++◌, map, ltb, Option, Some, None}
use Rattle.answers.specs.declared.FileError.{FileError}
use Rattle.answers.specs.declared.FileError.TheVariants as Fe
use Rattle.answers.specs.Numbers.{Refused, at, error_values}
use Rattle.text.specs.declared.AnswerRoom.TheVariants.{NotLent}
use Rattle.text.specs.Lines.{text_of}
use Rattle.text.specs.Reading.{most_frames}
use Rattle.frames.specs.declared.Frame.{Frame}
use Rattle.frames.specs.Bytes.{frame_count}
use Rattle.archive.specs.Starts.{starts_of, row_count}
use Rattle.rule.specs.Things.{see}
use Rattle.rule_rows.specs.declared.Pass.{Pass}
use Rattle.rule_answers.specs.Outputs.{outputs, frames_bytes, output_bytes}
use Rattle.rule_file.specs.File.{over_file, read_file, frames_after}
use Rattle.rule_file.specs.Printed.{printed, printed_after}
use Rattle.law_moved.specs.Out.{moved_out}
use Rattle.law_join.specs.declared.JoinedFile.{JoinedFile}
use Rattle.law_join.specs.declared.JoinedFile.TheVariants as Jf
use Rattle.law_join.specs.Join.{join_moves, join_file}
use Rattle.law_join.specs.Joinable.{joinable}

-- the lines of the join of two files, whose frames these are
abbrev pub join_text : List ℕ → List ℕ → List ℕ
join_text fr gr = text_of (join_file fr gr) (frame_count (join_file fr gr))

-- OF TWO ACCEPTED FILES: the first of these that holds is given, and `lines` where none does
abbrev pub by_tests : {A : Type 0} → ℕ → List ℕ → List ℕ → A → A → A → A
by_tests limit fr gr unjoinable long lines =
    cond (joinable fr && joinable gr) (cond (ltb (most_frames limit) (frame_count fr + frame_count gr)) long lines)
    unjoinable

abbrev pub as_frames : ℕ → Option ℕ → JoinedFile
as_frames frames (Some n) = Jf.Frames frames
as_frames frames None = Jf.Short

-- with a buffer of o bytes for the lines
abbrev pub join_in : ℕ → ℕ → List ℕ → List ℕ → JoinedFile
join_in limit o fr gr =
    by_tests limit fr gr Jf.NotJoinable (Jf.Long (most_frames limit))
    (as_frames (frame_count fr + frame_count gr) (printed (join_text fr gr) o))

-- OVER TEXTS t and u, with frame buffers of f and g bytes
unfoldable pub join_files : ℕ → List ℕ → List ℕ → ℕ → ℕ → ℕ → JoinedFile
join_files limit t u f g o =
    over_file Jf.First (λ (fr : List ℕ). over_file Jf.Second (join_in limit o fr) u (read_file limit u g NotLent)) t
    (read_file limit t f NotLent)

-- the first's frame buffer after it is as reading leaves it (`frames_after`); so is the second's, where the first was
-- accepted: else it is as it was
unfoldable pub second_after : ℕ → List ℕ → List ℕ → ℕ → List ℕ → List ℕ
second_after limit t u f buffer =
    over_file (λ (e : FileError). buffer) (λ (fr : List ℕ). frames_after limit u buffer NotLent) t
    (read_file limit t f NotLent)

-- the buffer for the join: its lines at the front, where it is made, else as it was
unfoldable pub joined_after : ℕ → List ℕ → List ℕ → ℕ → ℕ → List ℕ → List ℕ
joined_after limit t u f g buffer =
    over_file (λ (e : FileError). buffer)
    (λ (fr : List ℕ). over_file (λ (e : FileError). buffer)
    (λ (gr : List ℕ). by_tests limit fr gr buffer buffer (printed_after (join_text fr gr) buffer)) u
    (read_file limit u g NotLent)) t (read_file limit t f NotLent)

-- in the documents' numbers: 0 with, as place, how many frames the join has. The index says whose number it is: 0 the
-- first file's, 1 the second's, 2 the join's own (docs/DECISIONS.md)
abbrev pub whose : ℕ → Refused → Refused
whose i r = record { number = r.number; place = r.place; index = i; indexed = r.indexed }

abbrev pub joined_said : JoinedFile → Refused
joined_said (Jf.Frames n) = at 0 n
joined_said (Jf.First e) = whose 0 (error_values e)
joined_said (Jf.Second e) = whose 1 (error_values e)
joined_said Jf.NotJoinable = whose 2 (at 49 0)
joined_said (Jf.Long m) = whose 2 (error_values (Fe.Long m))
joined_said Jf.Short = whose 2 (error_values Fe.Short)

-- what typing the rows of a join hands back, as bytes: the frames of the first, then those of the second, each with
-- its numbers moved (the law: proofs/Public.antt)
abbrev pub second_outputs : Pass → List ℕ → List ℕ → List Frame
second_outputs pass fr gr =
    map (moved_out (join_moves (starts_of fr))) (outputs pass (see gr) (row_count (starts_of gr)))

abbrev pub join_outputs : Pass → List ℕ → List ℕ → List ℕ
join_outputs pass fr gr = output_bytes pass fr ++ frames_bytes (second_outputs pass fr gr)
