-- What typing a file gives (document 01, "Numbers handed back"): how many frames it has and how many are handed back,
-- or
-- why it is not accepted.
use Rattle.std.specs.Prelude.{ℕ, Result, Ok, Err}
use Rattle.answers.specs.Outcome.{Outcome}
use Rattle.answers.specs.declared.FileError.{FileError}
use Rattle.rule_file.specs.declared.TypedFile.{TypedFile}

abbrev pub TypeOutcome : Type 0
TypeOutcome = Result TypedFile FileError

-- the outcome of reading it
abbrev pub outcome_in : TypeOutcome → Outcome
outcome_in (Ok f) = Ok f.frames
outcome_in (Err e) = Err e

-- how many frames are handed back: none of a file that is not accepted
abbrev pub outputs_in : TypeOutcome → ℕ
outputs_in (Ok f) = f.outputs
outputs_in (Err e) = 0
