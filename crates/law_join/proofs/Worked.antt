-- Two small texts, written by hand from document 02, request 14, and what joining gives of them: the join's lines, its
-- answers, and each number: 49 by each of its causes, 1 and 3. Both sides compute to the same.
use Prim.Native.Nat.{ℕ}
use mathlib.Core.Path.{◌≡◌, refl}
use mathlib.Core.List.{List, [], ◌∷◌, ◌++◌, map}
use lib.ListN.{replicate}
use Rattle.scan.specs.Lowest.{lowest, all_below}
use Rattle.scan.specs.Lists.{build, sum_below}
use Rattle.answers.specs.declared.FileError.TheVariants as Fe
use Rattle.text.specs.Hex.{digit_value, digit_of}
use Rattle.text.specs.Lines.{line_ok, byte_of, char_of, text_of}
use Rattle.text.specs.Reading.{answer_frames, too_short, most_frames, read_text}
use Rattle.frames.specs.Bytes.{frame_at}
use Rattle.frames.specs.Forms.{type_of, item_of, row_of, member_of, component_of, fields_fit}
use Rattle.frames.specs.Written.{short, plain_row, indexed, numbered, bound}
use Rattle.archive.specs.Order.{order_ok}
use Rattle.archive.specs.Starts.{start, starts_of}
use Rattle.archive.specs.Names.{names_ok}
use Rattle.archive.specs.Parts.{early_ok}
use Rattle.archive.specs.Checks.{index_ok, check_frames}
use Rattle.archive.specs.Access.{type_in, row_in}
use Rattle.rule.specs.Things.{listed}
use Rattle.rule_rows.specs.declared.Pass.TheVariants as Pa
use Rattle.rule_answers.specs.Outputs.{outputs, frames_bytes}
use Rattle.rule_file.specs.File.{read_file}
use Rattle.rule_file.specs.Printed.{printed, printed_after}
use Rattle.rule_file.specs.Typing.{answers_after}
use Rattle.law_moved.specs.Frames.{moved_frame}
use Rattle.law_join.specs.declared.JoinedFile.TheVariants as Jf
use Rattle.law_join.specs.Join.{regrouped}
use Rattle.law_join.specs.Joinable.{joinable}
use Rattle.law_join.specs.File.{join_files, joined_after}

-- an F32, an argument of it, and the row of that argument
abbrev calm : List ℕ
calm = text_of (short 1 1 0 0 2 4 0 0 ++ short 3 4 0 0 0 0 0 0 ++ indexed 10 0 0) 3

-- an I32, a vector of two, an argument of that, its row, and its component 5, which is out of bounds
abbrev windy : List ℕ
windy = text_of (short 1 1 0 0 0 4 0 0 ++ short 1 2 2 0 0 4 0 0 ++ short 3 4 1 0 0 0 0 0 ++ indexed 10 0 0
    ++ indexed 7 0 5) 5

-- their join
abbrev archived : List ℕ
archived = text_of (short 1 1 0 0 2 4 0 0 ++ short 1 1 0 0 0 4 0 0 ++ short 1 2 2 0 0 4 0 0 ++ short 3 4 0 0 0 0 0 0
    ++ short 3 4 2 0 0 0 0 0 ++ indexed 10 0 0 ++ indexed 10 0 1 ++ indexed 7 1 5) 8

-- the join is made, also where the limit and the three buffers are just enough
pub joins : join_files 1024 calm windy 48 80 264 ∷ join_files 8 calm windy 48 80 264 ∷ []
    ≡ Jf.Frames 8 ∷ Jf.Frames 8 ∷ []
unfolding lowest all_below build sum_below digit_value digit_of line_ok byte_of char_of too_short most_frames
    read_text frame_at type_of item_of row_of member_of component_of fields_fit order_ok start starts_of names_ok
    early_ok index_ok check_frames read_file listed frames_bytes moved_frame regrouped joinable printed join_files
joins = refl

-- its lines
pub lines : joined_after 1024 calm windy 48 80 (replicate 264 0 ++ 7 ∷ []) ≡ archived ++ 7 ∷ []
unfolding lowest all_below build sum_below digit_value digit_of line_ok byte_of char_of too_short most_frames
    read_text frame_at type_of item_of row_of member_of component_of fields_fit order_ok start starts_of names_ok
    early_ok index_ok check_frames read_file listed frames_bytes moved_frame regrouped joinable printed_after
    joined_after
lines = refl

-- its answers, in both passes: a type of the first; a type of the second, past the first's, and a refusal that names
-- the second's row where it stands now
abbrev handed_back : List ℕ
handed_back = numbered 0 ++ numbered 2 ++ bound 1 5

pub answers : answers_after Pa.First 1024 archived 128 (replicate 48 0)
    ∷ answers_after Pa.Second 1024 archived 128 (replicate 48 0) ∷ []
    ≡ handed_back ∷ handed_back ∷ []
unfolding lowest all_below build sum_below digit_value digit_of line_ok byte_of char_of answer_frames too_short
    most_frames read_text frame_at type_of item_of row_of member_of component_of fields_fit order_ok start starts_of
    names_ok early_ok index_ok check_frames read_file listed type_in row_in outputs frames_bytes answers_after
answers = refl

-- THE NUMBERS

-- 1, with the limit as place, before 3; then 3
pub too_many : join_files 7 calm windy 48 80 264 ∷ join_files 7 calm windy 48 80 0
    ∷ join_files 1024 calm windy 48 80 263
    ∷ []
    ≡ Jf.Long 7 ∷ Jf.Long 7 ∷ Jf.Short ∷ []
unfolding lowest all_below build sum_below digit_value digit_of line_ok byte_of char_of too_short most_frames
    read_text frame_at type_of item_of row_of member_of component_of fields_fit order_ok start starts_of names_ok
    early_ok index_ok check_frames read_file listed frames_bytes moved_frame regrouped joinable printed join_files
too_many = refl

-- 49: a type of unknown kind, a row of unknown kind, a Math row, the item of either special type, a row answered 19,
-- and the two rows answered 20
abbrev unfit : List (List ℕ)
unfit =
    text_of (short 1 200 0 0 0 0 0 0) 1 ∷ text_of (plain_row 200 0) 1 ∷ text_of (plain_row 22 0) 1
    ∷ text_of (short 1 1 0 0 2 4 0 0 ++ short 3 7 0 0 0 0 0 0) 2
    ∷ text_of (short 1 1 0 0 2 4 0 0 ++ short 3 8 0 0 0 0 0 0) 2
    ∷ text_of (indexed 10 0 0) 1 ∷ text_of (plain_row 28 0) 1 ∷ text_of (plain_row 30 0) 1 ∷ []

-- as the second of two, and as the first; before 1 and 3
pub not-joinable : map (λ (x : List ℕ). join_files 1024 calm x 48 32 264) unfit
    ++ map (λ (x : List ℕ). join_files 3 x calm 32 48 0) unfit
    ≡ replicate 16 Jf.NotJoinable
unfolding lowest all_below build sum_below digit_value digit_of line_ok byte_of char_of too_short most_frames
    read_text frame_at type_of item_of row_of member_of component_of fields_fit order_ok start starts_of names_ok
    early_ok index_ok check_frames read_file listed frames_bytes moved_frame regrouped joinable printed join_files
not-joinable = refl

-- the first's own number comes first, then the second's, before 49
pub own-numbers : join_files 1024 (text_of (short 1 1 0 0 9 4 0 0) 1) (0 ∷ []) 16 16 0 ∷ join_files 1024
    (text_of (plain_row 22 0) 1) (0 ∷ []) 16 16 0 ∷ []
    ≡ Jf.First (Fe.Field 0) ∷ Jf.Second (Fe.Torn 0) ∷ []
unfolding lowest all_below build sum_below digit_value digit_of line_ok byte_of char_of too_short most_frames
    read_text frame_at type_of item_of row_of member_of component_of fields_fit order_ok start starts_of names_ok
    early_ok index_ok check_frames read_file listed frames_bytes moved_frame regrouped joinable printed join_files
own-numbers = refl
