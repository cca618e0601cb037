-- What reading a file gives (document 01, "Numbers handed back"): how many frames it has, or why it is not accepted.
use Rattle.std.specs.Prelude.{ℕ, Result}
use Rattle.answers.specs.declared.FileError.{FileError}

abbrev pub Outcome : Type 0
Outcome = Result ℕ FileError
