-- The sizes of a text's types are the line of its fault, or the lines of all that its types fill; and so their ranges.
-- From the laws of reading a file.
use Rattle.std.specs.Prelude.{Ok, Err}
use Rattle.answers.specs.declared.FileError.{FileError}
use Prim.Native.Nat.{ℕ, ◌*◌, ◌≤◌}
use native.Mathlib.Omega.{arith}
use mathlib.Core.Path.{◌≡◌, ap, ◌∙◌, sym}
use mathlib.Core.List.{List, ◌++◌}
use lib.ListN.{length, take, drop, length-append}
use lib.Seq.{take_at}
use borrow.Author.Tests.{le-leb}
use Rattle.answers.specs.Outcome.{Outcome}
use Rattle.answers.specs.Limit.{max_frames, max_frame_bytes}
use Rattle.text.specs.declared.AnswerRoom.TheVariants.{NotLent}
use Rattle.archive.specs.declared.Starts.{Starts}
use Rattle.frames.specs.declared.Frame.{Frame}
use Rattle.archive.specs.Starts.{starts_of, type_count, override_count}
use Rattle.rule_sizes.specs.Sizes.{frames_of, size_frame, size_frames}
use Rattle.rule_sizes.specs.Sizes.{frames_written}
use Rattle.rule_ranges.specs.Counts.{Counts}
use Rattle.type_sizes.proofs.Written.{frames-long}
use Rattle.rule_file.specs.File.{over_file, read_file, frames_after}
use Rattle.law_file.proofs.Over.{read, part-is, given-over}
use Rattle.rule_explain.specs.Explained.{fault_lines}
use Rattle.rule_explain.specs.Sized.{size_lines, file_sizes, sizes_of, ranges_in, ranges_of}
use Rattle.explain_file.proofs.Fits.{few-types, overrides-few}

-- after a frame for every type was written to a buffer of the largest size
module _ (frame : ℕ → Frame) (s : Starts) (few : type_count s ≤ max_frames) (z o : List ℕ)
    (ez : length z ≡ max_frame_bytes)
    (e : o ≡ frames_written frame s z) where
  there : o ≡ frames_of frame (type_count s) ++ drop (16 * type_count s) z
  unfolding frames_written
  there = e ∙ rw (le-leb (type_count s) max_frames few, le-leb (16 * type_count s) (length z) (omega arith))

  pub frames-within : 16 * type_count s ≤ length o
  frames-within =
      omega (
        arith,
        ap length there ∙ length-append (frames_of frame (type_count s)) (drop (16 * type_count s) z),
        frames-long frame s (type_count s),
      )

  pub frames-front : take (16 * type_count s) o ≡ frames_of frame (type_count s)
  frames-front =
      ap (take (16 * type_count s)) there
      ∙ take_at (frames_of frame (type_count s)) (drop (16 * type_count s) z) (16 * type_count s)
      (frames-long frame s (type_count s))

-- after a call of `read_file` with a frame buffer of the largest size
module _ (limit : ℕ) (t fr last : List ℕ) (r : Outcome) (er : r ≡ read_file limit t (length fr) NotLent)
    (el : last ≡ frames_after limit t fr NotLent) (ef : length fr ≡ max_frame_bytes) where
  pub refused-sizes : {x : FileError} → r ≡ Err x → fault_lines x ≡ sizes_of limit t
  unfolding sizes_of
  refused-sizes en =
      ap (over_file fault_lines file_sizes t) (sym en ∙ er ∙ ap (λ (f : ℕ). read_file limit t f NotLent) ef)

  module _ (n : ℕ) (en : r ≡ Ok n) (s : Starts) (es : s ≡ starts_of (take (16 * n) last)) where
    pub few : type_count s ≤ max_frames
    few =
        omega (
          arith,
          ap type_count es,
          ap (λ (x : List ℕ). type_count (starts_of x)) (part-is limit t fr last NotLent n r er el en),
          few-types limit t (length fr) n (read limit t fr last NotLent n r er el en),
        )

    module _ (z o : List ℕ) (ez : length z ≡ max_frame_bytes)
        (e : o ≡ frames_written (size_frame (take (16 * n) last) s) s z) where
      pub sizes-within : 16 * type_count s ≤ length o
      sizes-within = frames-within (size_frame (take (16 * n) last) s) s few z o ez e

      pub accepted-sizes : size_lines (take (16 * n) last) (take (16 * type_count s) o) ≡ sizes_of limit t
      unfolding sizes_of
      accepted-sizes =
          ap (size_lines (take (16 * n) last)) (frames-front (size_frame (take (16 * n) last) s) s few z o ez e)
          ∙ given-over limit t fr last NotLent n r er el en fault_lines
          (λ (x : List ℕ) (y : Starts). size_lines x (size_frames x y (type_count y))) s es
          ∙ ap (λ (f : ℕ). over_file fault_lines file_sizes t (read_file limit t f NotLent)) ef

  -- THE RANGES
  module _ (least greatest : Counts) where
    pub refused-ranges : {x : FileError} → r ≡ Err x → fault_lines x ≡ ranges_of limit least greatest t
    unfolding ranges_of
    refused-ranges en =
        ap (over_file fault_lines (λ (y : List ℕ). ranges_in y (starts_of y) least greatest) t)
        (sym en ∙ er ∙ ap (λ (f : ℕ). read_file limit t f NotLent) ef)

    module _ (n : ℕ) (en : r ≡ Ok n) (s : Starts) (es : s ≡ starts_of (take (16 * n) last)) where
      pub accepted-ranges : ranges_in (take (16 * n) last) s least greatest ≡ ranges_of limit least greatest t
      unfolding ranges_of
      accepted-ranges =
          given-over limit t fr last NotLent n r er el en fault_lines
          (λ (x : List ℕ) (y : Starts). ranges_in x y least greatest) s es
          ∙ ap (λ (f : ℕ). over_file fault_lines (λ (x : List ℕ). ranges_in x (starts_of x) least greatest) t
          (read_file limit t f NotLent)) ef

      pub few-overrides : override_count s ≤ max_frames
      few-overrides =
          omega (
            arith,
            ap override_count es,
            ap (λ (x : List ℕ). override_count (starts_of x)) (part-is limit t fr last NotLent n r er el en),
            overrides-few limit t (length fr) n (read limit t fr last NotLent n r er el en),
          )
