-- A struct member by member, as the code has it: an end of 32 bits, or that the members end past that. Exact.antt says
-- what it stands for.
use Rattle.std.specs.Prelude.{ℕ, ◌+◌, Bool, cond, ◌&&◌, eqb, ltb, leb}
use Rattle.ir.specs.declared.TypeNumber.{TypeNumber}
use Rattle.rule_sizes.specs.declared.Alignment.{Alignment}
use Rattle.rule_sizes.specs.declared.SizeFault.{SizeFault}
use Rattle.rule_sizes.specs.declared.SizeFault.TheVariants.{Unmeasured, Misplaced, Huge}
use Rattle.rule_sizes.specs.declared.Measure.{Measure}
use Rattle.rule_sizes.specs.declared.Measure.TheVariants.{Fills, Faulty}
use Rattle.rule_sizes.specs.Wgsl.{is_multiple, round_up, greater}
use Rattle.size_steps.specs.declared.SoFar.{SoFar}
use Rattle.size_steps.specs.declared.SoFar.TheVariants.{Laid, Past, Broken}

-- the fault of the lower type
abbrev pub lower_fault : SizeFault → TypeNumber → SizeFault → TypeNumber → SoFar
lower_fault k p j q = cond (leb p.0 q.0) (Broken k p) (Broken j q)

-- the next member's offset: WGSL's where the struct is laid out afresh, else the file's
abbrev pub offset_for : Bool → Alignment → ℕ → ℕ → ℕ
offset_for afresh a end offset = cond afresh (round_up a end) offset

-- members that end at e
abbrev pub up_to : Alignment → ℕ → Bool → SoFar
up_to a e ok = cond (ltb e 4294967296) (Laid a e ok) Past

-- a member at an offset, after those that end at e
abbrev pub laid_at : Alignment → ℕ → Bool → ℕ → Alignment → ℕ → SoFar
laid_at b e ok offset a z = up_to (greater b a) (offset + z) (ok && (is_multiple a offset && leb e offset))

-- one member more
unfoldable pub member_more : Bool → SoFar → ℕ → Measure → SoFar
member_more afresh (Broken k p) offset (Faulty j q) = lower_fault k p j q
member_more afresh (Broken k p) offset (Fills a z) = Broken k p
member_more afresh Past offset (Faulty j q) = Broken j q
member_more afresh Past offset (Fills a z) = Past
member_more afresh (Laid b e ok) offset (Faulty j q) = Broken j q
member_more afresh (Laid b e ok) offset (Fills a z) = laid_at b e ok (offset_for afresh a e offset) a z

-- struct n with members, by its span
unfoldable pub span_end : TypeNumber → SoFar → ℕ → Measure
span_end n (Broken k p) span = Faulty k p
span_end n Past span = Faulty Misplaced n
span_end n (Laid a e ok) span = cond (ok && (leb e span && is_multiple a span)) (Fills a span) (Faulty Misplaced n)

-- struct n laid out afresh
unfoldable pub fresh_end : TypeNumber → SoFar → Measure
fresh_end n (Broken k p) = Faulty k p
fresh_end n Past = Faulty Huge n
fresh_end n (Laid a e ok) = cond (ltb (round_up a e) 4294967296) (Fills a (round_up a e)) (Faulty Huge n)

-- struct n of so many members
unfoldable pub struct_by : Bool → TypeNumber → SoFar → ℕ → ℕ → Measure
struct_by afresh n c count span =
    cond afresh (fresh_end n c) (cond (eqb count 0) (Faulty Unmeasured n) (span_end n c span))
