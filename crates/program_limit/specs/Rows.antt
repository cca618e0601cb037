-- A word that is a row's number, in decimal digits.
use Rattle.std.specs.Prelude.{ℕ, min, List, Option, Some, None}
use Rattle.program_limit.specs.declared.Word.{Word}
use Rattle.program_limit.specs.declared.Word.TheVariants as Wo
use Rattle.program_limit.specs.Word.{word_of}
use Rattle.program_limit.specs.Counts.{count_of}

-- a word that spells no count below 2 to the 32: the digits of a higher number, or no number
abbrev pub of_long : Word → Option ℕ
of_long Wo.Absent = None
of_long (Wo.Limit n) = Some 65535
of_long Wo.Wgsl = None
of_long Wo.Neither = None

-- a number over 65,535 counts as that, which is no row of any file
abbrev pub by_count : Option ℕ → Word → Option ℕ
by_count (Some n) w = Some (min n 65535)
by_count None w = of_long w

-- what a word says
unfoldable pub row_of : List ℕ → Option ℕ
row_of w = by_count (count_of w) (word_of w)
