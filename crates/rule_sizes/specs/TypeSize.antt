-- What is said of a type's size: its measure, or why nothing is (document 02, request 5).
use Rattle.std.specs.Prelude.{Result, Err}
use Rattle.answers.specs.declared.FileError.{FileError}
use Rattle.answers.specs.declared.QueryError.{QueryError}
use Rattle.answers.specs.declared.QueryError.TheVariants as Qe
use Rattle.rule_sizes.specs.declared.Measure.{Measure}

abbrev pub TypeSize : Type 0
TypeSize = Result Measure QueryError

-- of a file that is not accepted
abbrev pub size_error : FileError → TypeSize
size_error e = Err (Qe.NotAccepted e)
