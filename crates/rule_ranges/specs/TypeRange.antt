-- What is said of a type's range: its range, or why nothing is (document 02, request 6).
use Rattle.std.specs.Prelude.{Result, Err}
use Rattle.rule_ranges.specs.declared.Range.{Range}
use Rattle.answers.specs.declared.FileError.{FileError}
use Rattle.rule_ranges.specs.declared.RangeError.{RangeError}
use Rattle.rule_ranges.specs.declared.RangeError.TheVariants as Ge

abbrev pub TypeRange : Type 0
TypeRange = Result Range RangeError

-- of a file that is not accepted
abbrev pub range_error : FileError → TypeRange
range_error e = Err (Ge.NotAccepted e)
