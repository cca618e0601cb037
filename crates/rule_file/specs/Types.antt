-- Comparison of two types of a file, over its text (document 01, "Same type or not" and "Numbers handed back", last
-- paragraph): the file is checked first, and one that is not accepted gives its number and place.
use Rattle.std.specs.Prelude.{ℕ, List}
use Rattle.answers.specs.Asked.{Sameness, sameness_error}
use Rattle.text.specs.declared.AnswerRoom.TheVariants.{NotLent}
use Rattle.frames.specs.declared.Frame.{Frame}
use Rattle.rule_types.specs.Comparison.{sameness_of, same_type}
use Rattle.rule_file.specs.File.{over_file, read_file}

-- what comparing two frames gives: yes, no, 22, 5 or 6
unfoldable pub same_types : ℕ → List ℕ → ℕ → Frame → Frame → Sameness
same_types limit t f l r = over_file sameness_error (λ (fr : List ℕ). sameness_of (same_type fr l r)) t
    (read_file limit t f NotLent)
