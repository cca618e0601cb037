-- The sizes of a file's types for people, and their ranges between two tables of counts (docs/EXPLAIN.md; document
-- 02, requests 5 and 6): a line for each type, with its spelling, alignment and size or its number in words, and one
-- line for a file that is not accepted, or for number 45.
use Rattle.std.specs.Prelude.{ℕ, ◌*◌, List, Option, Some, None}
use Rattle.answers.specs.Limit.{max_frames, max_frame_bytes}
use Rattle.text.specs.declared.AnswerRoom.TheVariants.{NotLent}
use Rattle.frames.specs.Bytes.{frame_count, frame_at}
use Rattle.archive.specs.declared.Starts.{Starts}
use Rattle.archive.specs.Starts.{starts_of, type_count}
use Rattle.rule_sizes.specs.Sizes.{frames_of, size_frames}
use Rattle.rule_ranges.specs.Counts.{Counts}
use Rattle.rule_ranges.specs.Ranges.{counts_of, faulty_span, range_frame}
use Rattle.answers.specs.Numbers.{SaidOne, instead, at}
use Rattle.rule_file.specs.Printed.{printed, printed_after}
use Rattle.rule_file_sizes.specs.Ranges.{by_tables}
use Rattle.rule_file.specs.File.{over_file, read_file}
use Rattle.rule_explain.specs.Sizes.{size_line_of, span_of}
use Rattle.rule_explain.specs.Explained.{Lines, all_of, fault_lines, lines_said}

-- line k: of type k, by frame k of what the types fill, `sizes`, in a file whose frames are `fr`
abbrev pub size_line_at : List ℕ → List ℕ → ℕ → List ℕ
size_line_at fr sizes k = size_line_of fr (record { 0 = k }) (frame_at sizes k)

-- a line for each of these frames
abbrev pub size_lines : List ℕ → List ℕ → Lines
size_lines fr sizes = record { count = frame_count sizes; line = size_line_at fr sizes }

-- those of an accepted file, whose frames these are
abbrev pub file_sizes : List ℕ → Lines
file_sizes fr = size_lines fr (size_frames fr (starts_of fr) (type_count (starts_of fr)))

-- those of a text within a limit, with a frame buffer of the largest size that a file asks for
unfoldable pub sizes_of : (limit : ℕ) → List ℕ → Lines
sizes_of limit t = over_file fault_lines file_sizes t (read_file limit t max_frame_bytes NotLent)

-- THE TEXT for people
abbrev pub sized : (limit : ℕ) → List ℕ → List ℕ
sized limit t = all_of (sizes_of limit t)

-- RANGES between a least and a greatest count for each override

-- the line of number 45
abbrev pub span_lines : ℕ → Lines
span_lines o = record { count = 1; line = λ (k : ℕ). span_of o }

-- it comes before any size
abbrev pub or_span : Option ℕ → Lines → Lines
or_span (Some o) l = span_lines o
or_span None l = l

abbrev pub ranges_in : List ℕ → Starts → Counts → Counts → Lines
ranges_in fr s least greatest =
    or_span (faulty_span s least greatest) (size_lines fr (frames_of (range_frame fr s least greatest) (type_count s)))

-- those of a text within a limit
unfoldable pub ranges_of : (limit : ℕ) → Counts → Counts → List ℕ → Lines
ranges_of limit least greatest t =
    over_file fault_lines (λ (fr : List ℕ). ranges_in fr (starts_of fr) least greatest) t
    (read_file limit t max_frame_bytes NotLent)

-- THE TEXT of them
abbrev pub ranged : (limit : ℕ) → Counts → Counts → List ℕ → List ℕ
ranged limit least greatest t = all_of (ranges_of limit least greatest t)

-- the bytes that either fits into, whatever the file: a line for each frame, of at most 176 bytes
abbrev pub max_sized_bytes : ℕ
max_sized_bytes = 176 * max_frames

-- OF TWO TABLES of counts: number 3, and the buffer as it was, where one has fewer than 1,024, as `size_range` has it;
-- else the lines, where they have room

abbrev pub ranges_printed : (limit : ℕ) → List ℕ → List ℕ → List ℕ → ℕ → Option ℕ
ranges_printed limit least greatest t o =
    by_tables least greatest None (printed (ranged limit (counts_of least) (counts_of greatest) t) o)

abbrev pub ranges_said : (limit : ℕ) → List ℕ → List ℕ → List ℕ → ℕ → SaidOne ℕ
ranges_said limit least greatest t o =
    by_tables least greatest (instead (at 3 0)) (lines_said (ranged limit (counts_of least) (counts_of greatest) t) o)

abbrev pub ranges_after : (limit : ℕ) → List ℕ → List ℕ → List ℕ → List ℕ → List ℕ
ranges_after limit least greatest t out =
    by_tables least greatest out (printed_after (ranged limit (counts_of least) (counts_of greatest) t) out)
