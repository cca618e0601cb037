-- The words that the programs take: a limit of frames in decimal digits (document 02, request 7: "1 to 1,024, any other
-- counting as 1,024"), and `wgsl` for the second pass (request 3).
use Rattle.std.specs.Prelude.{ℕ, zero, suc, ◌+◌, ◌*◌, ◌-◌, Bool, true, false, cond, ◌&&◌, List, leb, ltb, eqb, length}
use Rattle.std.specs.Prelude.{Option, Some, None}
use Rattle.std.specs.Prelude.{get_or}
use Rattle.scan.specs.Lowest.{all_below}
use Rattle.answers.specs.Limit.{max_frames}
use Rattle.text.specs.Reading.{most_frames}
use Rattle.program_limit.specs.declared.Word.{Word}
use Rattle.program_limit.specs.declared.Word.TheVariants.{Absent, Limit, Wgsl, Neither}
use Rattle.program_limit.specs.declared.Asked.{Asked}

-- A WORD

-- byte k of a word is a decimal digit
abbrev pub is_digit : List ℕ → ℕ → Bool
is_digit w k = leb 48 (get_or w k 0) && leb (get_or w k 0) 57

-- the number that the first n digits of a word spell
unfoldable pub spells : List ℕ → ℕ → ℕ
spells w zero = 0
spells w (suc n) = 10 * spells w n + (get_or w n 0 - 48)

-- the limit that holds by the number that a word spells, however long it is; a word that is empty or has another byte
-- is none
unfoldable pub limit_of : List ℕ → Word
limit_of w = cond (ltb 0 (length w) && all_below (is_digit w) (length w))
    (Limit (most_frames (spells w (length w)))) Neither

-- a word is the four letters `wgsl`
unfoldable pub is_wgsl : List ℕ → Bool
is_wgsl w =
    eqb (length w) 4 && (eqb (get_or w 0 0) 119
    && (eqb (get_or w 1 0) 103 && (eqb (get_or w 2 0) 115 && eqb (get_or w 3 0) 108)))

-- what a word says
unfoldable pub word_of : List ℕ → Word
word_of w = cond (is_wgsl w) Wgsl (limit_of w)

-- TWO WORDS, each absent or there

abbrev pub within : ℕ → Bool → Option Asked
within n second = Some (record { limit = n; wgsl = second })

-- one word: without a limit it is 1,024, without `wgsl` the first pass
abbrev pub alone : Word → Option Asked
alone Absent = within max_frames false
alone (Limit n) = within n false
alone Wgsl = within max_frames true
alone Neither = None

-- one beside a limit
abbrev pub beside_limit : ℕ → Word → Option Asked
beside_limit n Absent = within n false
beside_limit n (Limit m) = None
beside_limit n Wgsl = within n true
beside_limit n Neither = None

-- one beside `wgsl`
abbrev pub beside_wgsl : Word → Option Asked
beside_wgsl Absent = within max_frames true
beside_wgsl (Limit n) = within n true
beside_wgsl Wgsl = None
beside_wgsl Neither = None

-- what two words ask for, in either order, each at most once
abbrev pub asked_by : Word → Word → Option Asked
asked_by Absent w = alone w
asked_by (Limit n) w = beside_limit n w
asked_by Wgsl w = beside_wgsl w
asked_by Neither w = None
