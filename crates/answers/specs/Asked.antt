-- What is asked of a file, or why nothing is said (document 01, "Numbers handed back", last paragraph).
use Rattle.std.specs.Prelude.{Bool, Option, Result, Err}
use Rattle.ir.specs.declared.TypeResolution.{TypeResolution}
use Rattle.answers.specs.Answer.{Answer}
use Rattle.answers.specs.declared.ComposeError.{ComposeError}
use Rattle.answers.specs.declared.FileError.{FileError}
use Rattle.answers.specs.declared.CompareError.{CompareError}
use Rattle.answers.specs.declared.CompareError.TheVariants as Ce
use Rattle.answers.specs.declared.TypeError.{TypeError}
use Rattle.answers.specs.declared.TypeError.TheVariants as Te
use Rattle.answers.specs.declared.QueryError.{QueryError}
use Rattle.answers.specs.declared.VerdictError.{VerdictError}

-- what a compose is judged: it passes, or why not (document 01, "A compose's verdict")
abbrev pub Verdict : Type 0
Verdict = Result (Unit {0}) ComposeError

-- whether two answers are the same
abbrev pub Sameness : Type 0
Sameness = Result Bool CompareError

-- the base of a type: none where it is no pointer
abbrev pub PointerBase : Type 0
PointerBase = Result (Option TypeResolution) TypeError

-- the canonical form of a type
abbrev pub CanonicalType : Type 0
CanonicalType = Result TypeResolution TypeError

-- the answer of a row
abbrev pub RowType : Type 0
RowType = Result Answer QueryError

-- the verdict on a compose
abbrev pub ComposeVerdict : Type 0
ComposeVerdict = Result Verdict VerdictError

-- OF A FILE THAT IS NOT ACCEPTED
abbrev pub sameness_error : FileError → Sameness
sameness_error e = Err (Ce.NotAccepted e)

abbrev pub base_error : FileError → PointerBase
base_error e = Err (Te.NotAccepted e)

abbrev pub canonical_error : FileError → CanonicalType
canonical_error e = Err (Te.NotAccepted e)
