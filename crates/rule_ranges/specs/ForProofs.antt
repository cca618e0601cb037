-- Not part of any public statement: for proofs and code only. The types before one by a table of marks, which types
-- go by counts, and a table of counts.
use Rattle.std.specs.Prelude.{ℕ, Bool, cond, List}
use Rattle.ir.specs.declared.TypeNumber.{TypeNumber}
use Rattle.ir.specs.declared.MemberNumber.{MemberNumber}
use Rattle.archive.specs.declared.Starts.{Starts}
use Rattle.rule_sizes.specs.declared.Measure.{Measure}
use Rattle.rule_sizes.specs.Sizes.{Parts, look, parts_of}
use Rattle.rule_sizes.specs.ForProofs.{Known}
use Rattle.rule_ranges.specs.Pending.{look_holds}
use Rattle.rule_ranges.specs.Counts.{fresh_parts, measures_by}
use Rattle.rule_ranges.specs.Ranges.{counts_of, measure_marked}

-- what a type before type n fills
abbrev pub earlier : List ℕ → Starts → List Bool → List ℕ → TypeNumber → TypeNumber → Measure
earlier fr s marks counts n = look (measures_by fr s (look_holds marks) (counts_of counts) n.0)

-- a table of measures
abbrev pub KnownMarked : List ℕ → Starts → List Bool → List ℕ → List ℕ → Type 0
KnownMarked fr s marks counts t = Known (measure_marked fr s marks counts) t

-- the first k members of a struct
abbrev pub parts_by : Bool → List ℕ → Starts → (TypeNumber → Measure) → MemberNumber → ℕ → Parts
parts_by afresh fr s past first k = cond afresh (fresh_parts fr s past first k) (parts_of fr s past first k)
