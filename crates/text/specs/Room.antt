-- A LENT BUFFER TOO SMALL that takes neither frames nor answers (an out-slice, a table of counts): number 3, unless the
-- text has number 1 or 2, since checks run in order (document 01, "Numbers handed back").
use Rattle.std.specs.Prelude.{ℕ, List, Ok, Err}
use Rattle.answers.specs.Outcome.{Outcome}
use Rattle.answers.specs.declared.FileError.{FileError}
use Rattle.answers.specs.declared.FileError.TheVariants as Fe
use Rattle.text.specs.declared.AnswerRoom.TheVariants.{NotLent}
use Rattle.text.specs.Reading.{read_text}

-- numbers 1 and 2 stay, all else is number 3
abbrev pub or_short : Outcome → FileError
or_short (Ok n) = Fe.Short
or_short (Err (Fe.Long m)) = Fe.Long m
or_short (Err (Fe.Torn k)) = Fe.Torn k
or_short (Err Fe.Short) = Fe.Short
or_short (Err (Fe.Order k)) = Fe.Short
or_short (Err (Fe.Field k)) = Fe.Short
or_short (Err (Fe.Index k)) = Fe.Short

-- what reading a text gives then; the same for any frame buffer and answer buffer: `short-any` (proofs/Room.antt)
unfoldable pub short_read : ℕ → List ℕ → FileError
short_read limit t = or_short (read_text limit t 0 NotLent)
