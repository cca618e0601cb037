-- ALL OF IT FITS: `max_explained_bytes` hold the whole text for people of every file, which has at most two lines of at
-- most 142 bytes for each frame. From the length of a line and the number of frames handed back.
use Rattle.answers.specs.declared.FileError.{FileError}
use Rattle.std.specs.Prelude.{ℕ, Option, Some, None, Ok, Err}
use Prim.Native.Nat.{ℕ, ◌≤◌}
use native.Mathlib.Omega.{arith}
use mathlib.Core.Path.{◌≡◌, refl}
use mathlib.Core.List.{List}
use lib.ListN.{length}
use Rattle.answers.specs.Outcome.{Outcome}
use Rattle.answers.specs.Limit.{max_frames, max_frame_bytes, max_answer_bytes}
use Rattle.text.specs.declared.AnswerRoom.TheVariants.{NotLent, Lent}
use Rattle.text.specs.Lines.{decoded}
use Rattle.text.proofs.Laws.{count_small}
use Rattle.frames.specs.Bytes.{frame_at, frame_count}
use Rattle.frames.specs.Out.{outcome_frame}
use Rattle.archive.specs.Starts.{starts_of, type_count, override_count}
use Rattle.archive.proofs.Owners.{starts-small}
use Rattle.archive.proofs.Ranks.{begins}
use Rattle.rule_sizes.specs.Sizes.{frames_of, size_frame, size_frames}
use Rattle.rule_ranges.specs.Counts.{Counts}
use Rattle.rule_ranges.specs.Ranges.{faulty_span, range_frame}
use Rattle.type_sizes.proofs.Written.{frames-long}
use Rattle.rule_rows.specs.declared.Pass.{Pass}
use Rattle.rule_answers.specs.Outputs.{output_bytes}
use Rattle.rule_file.specs.File.{over_file, read_file}
use Rattle.law_file.proofs.Laws.{count-decoded, accepted-when}
use Rattle.law_file.proofs.Printed.{few-outputs}
use Rattle.explain_lines.proofs.Long.{line-long, fault-long, size-line-long, span-long}
use Rattle.rule_explain.specs.Explained.{all_of, row_at, line_at, fault_lines, file_lines, lines_of, explained}
use Rattle.rule_explain.specs.Explained.{max_explained_bytes}
use Rattle.rule_explain.specs.Sized.{size_line_at, size_lines, file_sizes, sizes_of, sized, span_lines, or_span}
use Rattle.rule_explain.specs.Sized.{ranges_in, ranges_of, ranged, max_sized_bytes}
use Rattle.explain_file.proofs.Fitting.{joined-long}

-- the line of a fault
fault-line : (e : FileError) → length (all_of (fault_lines e)) ≤ 142
fault-line e = omega (arith, joined-long (fault_lines e).line 142 1 (λ k. fault-long (outcome_frame (Err e))))

pub explained-fits : (pass : Pass) (limit : ℕ) (t : List ℕ) → length (explained pass limit t) ≤ max_explained_bytes
unfolding lines_of
explained-fits pass limit t = go (read_file limit t max_frame_bytes (Lent max_answer_bytes)) refl
  where
    go : (o : Outcome) → read_file limit t max_frame_bytes (Lent max_answer_bytes) ≡ o
        → length (all_of (over_file fault_lines (file_lines pass) t o)) ≤ max_explained_bytes
    go (Ok n) e =
        let fr = decoded t n in
        let an = output_bytes pass fr in
        omega (
          arith,
          joined-long (line_at fr an) 142 (frame_count an) (λ k. line-long fr (row_at an k) (frame_at an k)),
          few-outputs pass limit t max_frame_bytes max_answer_bytes n e,
        )
    go (Err x) e = omega (arith, fault-line x)

-- THE SIZES of every file's types fit into `max_sized_bytes`: an accepted file has at most `max_frames` types
pub few-types : (limit : ℕ) (t : List ℕ) (f n : ℕ) → read_file limit t f NotLent ≡ Ok n
    → type_count (starts_of (decoded t n)) ≤ max_frames
few-types limit t f n e =
    let few : frame_count (decoded t n) ≤ max_frames =
    rw (count-decoded t n) (count_small ((accepted-when limit t f NotLent n).0 e).readable) in
    (starts-small (decoded t n) max_frames few).0

pub sized-fits : (limit : ℕ) (t : List ℕ) → length (sized limit t) ≤ max_sized_bytes
unfolding sizes_of
sized-fits limit t = go (read_file limit t max_frame_bytes NotLent) refl
  where
    go : (o : Outcome) → read_file limit t max_frame_bytes NotLent ≡ o
        → length (all_of (over_file fault_lines file_sizes t o)) ≤ max_sized_bytes
    go (Ok n) e =
        let fr = decoded t n in
        let s = starts_of fr in
        let z = size_frames fr s (type_count s) in
        omega (
          arith,
          joined-long (size_line_at fr z) 176 (frame_count z)
              (λ k. size-line-long fr (record { 0 = k }) (frame_at z k)),
          frames-long (size_frame fr s) s (type_count s),
          few-types limit t max_frame_bytes n e,
        )
    go (Err x) e = omega (arith, fault-line x)

-- AND SO DO THE RANGES
pub overrides-few : (limit : ℕ) (t : List ℕ) (f n : ℕ) → read_file limit t f NotLent ≡ Ok n
    → override_count (starts_of (decoded t n)) ≤ max_frames
unfolding starts_of
overrides-few limit t f n e =
    let few : frame_count (decoded t n) ≤ max_frames =
    rw (count-decoded t n) (count_small ((accepted-when limit t f NotLent n).0 e).readable) in
    omega (arith, few, (begins (decoded t n) 771).within)

pub ranged-fits : (limit : ℕ) (least greatest : Counts) (t : List ℕ)
    → length (ranged limit least greatest t) ≤ max_sized_bytes
unfolding ranges_of
ranged-fits limit least greatest t = go (read_file limit t max_frame_bytes NotLent) refl
  where
    by_span : (fr : List ℕ) (f : Option ℕ) → type_count (starts_of fr) ≤ max_frames
        → length (all_of (or_span f
        (size_lines fr (frames_of (range_frame fr (starts_of fr) least greatest) (type_count (starts_of fr)))))) ≤
        max_sized_bytes
    by_span fr (Some o) h = omega (arith, joined-long (span_lines o).line 142 1 (λ k. span-long o))
    by_span fr None h =
        let s = starts_of fr in
        let z = frames_of (range_frame fr s least greatest) (type_count s) in
        omega (
          arith,
          joined-long (size_line_at fr z) 176 (frame_count z)
              (λ k. size-line-long fr (record { 0 = k }) (frame_at z k)),
          frames-long (range_frame fr s least greatest) s (type_count s),
          h,
        )

    go : (o : Outcome) → read_file limit t max_frame_bytes NotLent ≡ o
        → length (all_of (over_file fault_lines (λ (fr : List ℕ). ranges_in fr (starts_of fr) least greatest) t o)) ≤
        max_sized_bytes
    go (Ok n) e =
        by_span (decoded t n) (faulty_span (starts_of (decoded t n)) least greatest)
        (few-types limit t max_frame_bytes n e)
    go (Err x) e = omega (arith, fault-line x)
