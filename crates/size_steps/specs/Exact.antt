-- How the members of a struct as the code has them stand for the exact ones, of crates rule_sizes and rule_ranges.
-- Every step keeps it, and the struct is the same (`member-like`, `struct-like`, proofs/Exact.antt).
use Rattle.std.specs.Prelude.{ℕ, ◌≤◌, Bool, false}
use Rattle.ir.specs.declared.TypeNumber.{TypeNumber}
use Rattle.rule_sizes.specs.declared.Alignment.{Alignment}
use Rattle.rule_sizes.specs.declared.SizeFault.{SizeFault}
use Rattle.rule_sizes.specs.Sizes.{Parts, Laid, Broken}
use Rattle.size_steps.specs.declared.SoFar.{SoFar}
use Rattle.size_steps.specs.declared.SoFar.TheVariants as C

-- no size holds what ends at e: it is past 32 bits; or, by the file's offsets, a member does not stand well
pub data Beyond : Bool → ℕ → Bool → Type 0 where
  far : {afresh : Bool} {e : ℕ} {ok : Bool} → 4294967296 ≤ e → Beyond afresh e ok
  overlaps : {e : ℕ} → Beyond false e false

-- what the code has of the exact members
pub data Like (afresh : Bool) : Parts → SoFar → Type 0 where
  laid : {a : Alignment} {e : ℕ} {ok : Bool} → Like afresh (Laid a e ok) (C.Laid a e ok)
  past : {a : Alignment} {e : ℕ} {ok : Bool} → Beyond afresh e ok → Like afresh (Laid a e ok) C.Past
  broken : {k : SizeFault} {p : TypeNumber} → Like afresh (Broken k p) (C.Broken k p)
