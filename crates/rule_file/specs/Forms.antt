-- Pointer forms of a file's types, over its text (document 01, "Same type or not" and "Numbers handed back", last
-- paragraph): the file is checked first, and one that is not accepted gives its number and place.
use Rattle.std.specs.Prelude.{ℕ, List}
use Rattle.ir.specs.declared.TypeNumber.{TypeNumber}
use Rattle.answers.specs.Asked.{PointerBase, base_error, canonical_error}
use Rattle.answers.specs.Asked.{CanonicalType}
use Rattle.text.specs.declared.AnswerRoom.TheVariants.{NotLent}
use Rattle.archive.specs.Starts.{starts_of}
use Rattle.rule_types.specs.Canonical.{pointer_base_in, canonical_type_in}
use Rattle.rule_file.specs.File.{over_file, read_file}

-- the canonical form of type n: the value pointer, or the number where the source gives None; 22 or 6
unfoldable pub canonical_type : ℕ → List ℕ → ℕ → TypeNumber → CanonicalType
canonical_type limit t f n = over_file canonical_error (λ (fr : List ℕ). canonical_type_in fr (starts_of fr) n) t
    (read_file limit t f NotLent)

-- the base of type n: a number or a value, or that type n is no pointer; 22 or 6
unfoldable pub pointer_base_type : ℕ → List ℕ → ℕ → TypeNumber → PointerBase
pointer_base_type limit t f n = over_file base_error (λ (fr : List ℕ). pointer_base_in fr (starts_of fr) n) t
    (read_file limit t f NotLent)
