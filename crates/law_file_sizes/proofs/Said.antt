-- What is said of a type's size, or of its range, in the document's numbers is what is said of the outcome. By cases.
use Rattle.rule_ranges.specs.TypeRange.{range_error}
use Rattle.rule_sizes.specs.TypeSize.{size_error}
use Rattle.rule_ranges.specs.declared.RangeError.TheVariants as Ge
use Rattle.answers.specs.declared.QueryError.TheVariants as Qe
use Rattle.std.specs.Prelude.{ℕ, Option, Some, None, Ok, Err}
use Prim.Native.Nat.{ℕ}
use mathlib.Core.Path.{◌≡◌, refl, ap, ◌∙◌}
use mathlib.Core.Bool.{Bool, true, false, cond}
use mathlib.Core.List.{List}
use Rattle.ir.specs.declared.TypeNumber.{TypeNumber}
use Rattle.answers.specs.Outcome.{Outcome}
use Rattle.answers.specs.Numbers.{instead, not_there}
use Rattle.text.specs.declared.AnswerRoom.TheVariants.{NotLent}
use Rattle.text.specs.Lines.{decoded}
use Rattle.text.specs.Room.{short_read}
use Rattle.archive.specs.Starts.{starts_of}
use Rattle.archive.specs.Names.{is_type}
use Rattle.rule_sizes.specs.declared.Measure.{Measure}
use Rattle.rule_sizes.specs.Sizes.{measure_in, type_size_in, measure_said, size_said}
use Rattle.rule_ranges.specs.declared.Range.{Range}
use Rattle.rule_ranges.specs.Ranges.{counts_of, range_in, faulty_span, unless_span, type_range_in, range_said}
use Rattle.rule_ranges.specs.Ranges.{type_range_said}
use Rattle.rule_file.specs.File.{over_file, read_file}
use Rattle.rule_file_sizes.specs.Sizes.{type_size, file_instead, size_values, type_size_said}
use Rattle.rule_file_sizes.specs.Ranges.{tables_short, size_range, span_first, range_values, size_range_said}

pub size-said : (limit : ℕ) (t : List ℕ) (f : ℕ) (n : TypeNumber)
    → size_said (type_size limit t f n) ≡ type_size_said limit t f n
unfolding type_size type_size_in type_size_said
size-said limit t f n = go (read_file limit t f NotLent)
  where
    there : (b : Bool) (m : Measure) → size_said (cond b (Ok m) (Err Qe.Index))
        ≡ cond b (measure_said m) (instead not_there)
    there true m = refl
    there false m = refl

    go : (o : Outcome) → size_said (over_file size_error (λ (fr : List ℕ). type_size_in fr (starts_of fr) n) t o)
        ≡ over_file file_instead (size_values n) t o
    go (Ok k) = there (is_type (starts_of (decoded t k)) n) (measure_in (decoded t k) (starts_of (decoded t k)) n)
    go (Err x) = refl

pub range-said : (limit : ℕ) (t : List ℕ) (f : ℕ) (least greatest : List ℕ) (n : TypeNumber)
    → type_range_said (size_range limit t f least greatest n) ≡ size_range_said limit t f least greatest n
unfolding size_range type_range_in size_range_said
range-said limit t f least greatest n = long (tables_short least greatest)
  where
    there : (b : Bool) (s : Option ℕ) (r : Range) → type_range_said (cond b (unless_span s r) (Err Ge.Index))
        ≡ cond b (span_first s (range_said r)) (instead not_there)
    there true (Some o) r = refl
    there true None r = refl
    there false s r = refl

    go : (o : Outcome) → type_range_said
        (over_file range_error
        (λ (fr : List ℕ). type_range_in fr (starts_of fr) (counts_of least) (counts_of greatest) n) t o)
        ≡ over_file file_instead (range_values (counts_of least) (counts_of greatest) n) t o
    go (Ok k) =
        let fr = decoded t k in
        there (is_type (starts_of fr) n) (faulty_span (starts_of fr) (counts_of least) (counts_of greatest))
        (range_in fr (starts_of fr) (counts_of least) (counts_of greatest) n)
    go (Err x) = refl

    long : (b : Bool) → type_range_said (cond b (Err (Ge.NotAccepted (short_read limit t)))
        (over_file range_error
        (λ (fr : List ℕ). type_range_in fr (starts_of fr) (counts_of least) (counts_of greatest) n) t
        (read_file limit t f NotLent)))
        ≡ cond b (file_instead (short_read limit t))
        (over_file file_instead (range_values (counts_of least) (counts_of greatest) n) t (read_file limit t f NotLent))
    long true = refl
    long false = go (read_file limit t f NotLent)

-- an outcome, and what is said of it by values
pub with_values : {A S B : Type 0} (said : A → S) {o q : A} {v : S} → said q ≡ v → o ≡ q → B
    → (o ≡ q) × ((said o ≡ v) × B)
with_values said w e b = (e, (ap said e ∙ w, b))
