-- A file within two limits (document 02, request 7) has the same lines for people at either. From `over-alike`.
use Prim.Native.Nat.{ℕ, ◌*◌, ◌≤◌}
use mathlib.Core.Path.{◌≡◌, ap}
use mathlib.Core.List.{List}
use lib.ListN.{length}
use Rattle.answers.specs.Limit.{max_frame_bytes, max_answer_bytes}
use Rattle.text.specs.declared.AnswerRoom.TheVariants.{NotLent, Lent}
use Rattle.text.specs.Reading.{most_frames}
use Rattle.archive.specs.Starts.{starts_of}
use Rattle.rule_rows.specs.declared.Pass.{Pass}
use Rattle.rule_ranges.specs.Counts.{Counts}
use Rattle.law_file.proofs.Alike.{over-alike}
use Rattle.rule_explain.specs.Explained.{all_of, fault_lines, file_lines, lines_of, explained}
use Rattle.rule_explain.specs.Sized.{file_sizes, sizes_of, sized, ranges_in, ranges_of, ranged}

pub explained-alike : (pass : Pass) (limit other : ℕ) (t : List ℕ) → length t ≤ 33 * most_frames limit
    → length t ≤ 33 * most_frames other
    → explained pass limit t ≡ explained pass other t
unfolding lines_of
explained-alike pass limit other t a b = ap all_of
    (over-alike limit other t a b fault_lines (file_lines pass) max_frame_bytes (Lent max_answer_bytes))

-- and so have the sizes of its types, and their ranges
pub sized-alike : (limit other : ℕ) (t : List ℕ) → length t ≤ 33 * most_frames limit → length t ≤ 33 * most_frames other
    → sized limit t ≡ sized other t
unfolding sizes_of
sized-alike limit other t a b = ap all_of (over-alike limit other t a b fault_lines file_sizes max_frame_bytes NotLent)

pub ranged-alike : (least greatest : Counts) (limit other : ℕ) (t : List ℕ) → length t ≤ 33 * most_frames limit
    → length t ≤ 33 * most_frames other
    → ranged limit least greatest t ≡ ranged other least greatest t
unfolding ranges_of
ranged-alike least greatest limit other t a b =
    ap all_of (over-alike limit other t a b fault_lines
    (λ (fr : List ℕ). ranges_in fr (starts_of fr) least greatest) max_frame_bytes NotLent)
