-- A word of two counts, as `3-8`: the least and the greatest count of an override, each below 2 to the 32.
use Rattle.std.specs.Prelude.{ℕ, ◌+◌, Bool, true, false, cond, ◌&&◌, List, ltb, eqb, length, get_or, take, drop}
use Rattle.std.specs.Prelude.{Option, Some, None}
use Rattle.scan.specs.Lowest.{lowest, all_below}
use Rattle.program_limit.specs.declared.counts.Counts.{Counts}
use Rattle.program_limit.specs.Word.{is_digit, spells}

-- the count that a word of decimal digits spells; a word that is empty or has another byte is none, and neither is a
-- number of 2 to the 32 or more
unfoldable pub count_of : List ℕ → Option ℕ
count_of w =
    cond (ltb 0 (length w) && (all_below (is_digit w) (length w) && ltb (spells w (length w)) 4294967296))
    (Some (spells w (length w))) None

-- byte k of a word is no `-`
abbrev pub no_dash : List ℕ → ℕ → Bool
no_dash w k = cond (eqb (get_or w k 0) 45) false true

abbrev pub both_of : Option ℕ → Option ℕ → Option Counts
both_of None y = None
both_of (Some a) None = None
both_of (Some a) (Some b) = Some (record { least = a; greatest = b })

-- by the first `-`
abbrev pub around : List ℕ → Option ℕ → Option Counts
around w (Some k) = both_of (count_of (take k w)) (count_of (drop (k + 1) w))
around w None = None

-- what a word says
unfoldable pub counts_of : List ℕ → Option Counts
counts_of w = around w (lowest (no_dash w) (length w))
