-- The bytes that a type of a file fills, over the file's text (document 02, request 5): the file is checked first,
-- and one that is not accepted gives its number and place.
use Rattle.std.specs.Prelude.{ℕ, cond, List}
use Rattle.ir.specs.declared.TypeNumber.{TypeNumber}
use Rattle.answers.specs.declared.FileError.{FileError}
use Rattle.answers.specs.Numbers.{SaidOne, instead, not_there, error_values}
use Rattle.text.specs.declared.AnswerRoom.TheVariants.{NotLent}
use Rattle.archive.specs.Starts.{starts_of}
use Rattle.archive.specs.Names.{is_type}
use Rattle.rule_sizes.specs.TypeSize.{TypeSize, size_error}
use Rattle.rule_sizes.specs.Sizes.{measure_in, type_size_in, Size, measure_said}
use Rattle.rule_file.specs.File.{over_file, read_file}

-- what type n fills; 42, 43 or 44 with the lowest faulty type, or 6
unfoldable pub type_size : ℕ → List ℕ → ℕ → TypeNumber → TypeSize
type_size limit t f n = over_file size_error (λ (fr : List ℕ). type_size_in fr (starts_of fr) n) t
    (read_file limit t f NotLent)

-- IN THE DOCUMENT'S NUMBERS: alignment and size in bytes; 42, 43 or 44 and the lowest faulty type; number 6, place 0,
-- where there is no such type; or the file's own number and place

-- of the file's own number
abbrev pub file_instead : {A : Type 0} → FileError → SaidOne A
file_instead e = instead (error_values e)

-- of a file whose frames these are
abbrev pub size_values : TypeNumber → List ℕ → SaidOne Size
size_values n fr = cond (is_type (starts_of fr) n) (measure_said (measure_in fr (starts_of fr) n)) (instead not_there)

-- of a text
unfoldable pub type_size_said : ℕ → List ℕ → ℕ → TypeNumber → SaidOne Size
type_size_said limit t f n = over_file file_instead (size_values n) t (read_file limit t f NotLent)
