-- A file within two limits (document 02, request 7): sizes and ranges are given alike at either, and the frame buffer
-- is left alike. From `over-alike`.
use Rattle.rule_ranges.specs.TypeRange.{range_error}
use Rattle.rule_sizes.specs.TypeSize.{size_error}
use Prim.Native.Nat.{ℕ, ◌*◌, ◌≤◌}
use mathlib.Core.Path.{◌≡◌}
use mathlib.Core.List.{List}
use lib.ListN.{length}
use Rattle.ir.specs.declared.TypeNumber.{TypeNumber}
use Rattle.text.specs.declared.AnswerRoom.TheVariants.{NotLent}
use Rattle.text.specs.Reading.{most_frames}
use Rattle.text.proofs.Laws.{alike-within}
use Rattle.text.specs.Room.{short_read}
use Rattle.archive.specs.Starts.{starts_of}
use Rattle.rule_sizes.specs.Sizes.{type_size_in}
use Rattle.rule_ranges.specs.Ranges.{counts_of, type_range_in}
use Rattle.rule_file.specs.File.{frames_after}
use Rattle.law_file.proofs.Alike.{over-alike}
use Rattle.rule_file_sizes.specs.Sizes.{type_size}
use Rattle.rule_file_sizes.specs.Ranges.{size_range, frames_ranged}

module _ (limit other : ℕ) (t : List ℕ) (a : length t ≤ 33 * most_frames limit) (b : length t ≤ 33 * most_frames other)
    (f : ℕ) (n : TypeNumber) where
  pub size-alike : type_size limit t f n ≡ type_size other t f n
  unfolding type_size
  size-alike = over-alike limit other t a b size_error (λ (fr : List ℕ). type_size_in fr (starts_of fr) n) f NotLent

  module _ (least greatest : List ℕ) where
    pub range-alike : size_range limit t f least greatest n ≡ size_range other t f least greatest n
    unfolding size_range short_read
    range-alike =
        rw (
          alike-within limit other t 0 NotLent a b,
          over-alike limit other t a b range_error
              (λ (fr : List ℕ). type_range_in fr (starts_of fr) (counts_of least) (counts_of greatest) n) f NotLent,
        )

    pub range-frames-alike : (fr : List ℕ) → frames_ranged limit t fr least greatest
        ≡ frames_ranged other t fr least greatest
    unfolding frames_ranged frames_after
    range-frames-alike fr = rw (alike-within limit other t (length fr) NotLent a b)
