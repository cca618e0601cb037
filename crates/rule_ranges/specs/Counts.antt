-- Alignment and size of each type at given counts, one for each override (document 02, request 6). A type that is a
-- pending array or holds one is measured by counts; every other type by request 5's rule, over the sizes of the types
-- that it names.
use Rattle.std.specs.Prelude.{ℕ, zero, suc, Bool, true, cond, List, ltb, Option, Some, None}
use Rattle.ir.specs.declared.TypeNumber.{TypeNumber}
use Rattle.ir.specs.declared.MemberNumber.{MemberNumber}
use Rattle.ir.specs.declared.ItemNumber.{ItemNumber}
use Rattle.ir.specs.declared.ArraySize.{ArraySize}
use Rattle.ir.specs.declared.ArraySize.TheVariants as As
use Rattle.ir.specs.declared.TypeInner.{TypeInner}
use Rattle.ir.specs.declared.TypeInner.TheVariants as Ti
use Rattle.archive.specs.declared.Starts.{Starts}
use Rattle.archive.specs.Access.{type_in, member_in}
use Rattle.rule.specs.InOrder.{in_order}
use Rattle.rule_sizes.specs.declared.Alignment.TheVariants.{Two}
use Rattle.rule_sizes.specs.declared.SizeFault.TheVariants.{Unmeasured, Huge}
use Rattle.rule_sizes.specs.declared.Measure.{Measure}
use Rattle.rule_sizes.specs.declared.Measure.TheVariants.{Fills, Faulty}
use Rattle.rule_sizes.specs.Wgsl.{round_up}
use Rattle.rule_sizes.specs.Sizes.{Parts, Laid, Broken, array_of, joined, of_form, look}
use Rattle.rule_ranges.specs.Pending.{holds_pending}

-- the count of each override
abbrev pub Counts : Type 0
Counts = ItemNumber → ℕ

-- A STRUCT laid out afresh, member by member: the offsets and the span of the file are not read

-- WGSL's offset of the next member: the end before it, rounded up to the member's alignment
abbrev pub fresh_offset : Parts → Measure → ℕ
fresh_offset (Laid b e ok) (Fills a z) = round_up a e
fresh_offset (Laid b e ok) (Faulty j q) = 0
fresh_offset (Broken k p) m = 0

-- the first k members, by what each type fills
unfoldable pub fresh_parts : List ℕ → Starts → (TypeNumber → Measure) → MemberNumber → ℕ → Parts
fresh_parts fr s past first zero = Laid Two 0 true
fresh_parts fr s past first (suc k) =
    let m = past (member_in fr s first k).ty in
    let before = fresh_parts fr s past first k in
    joined before (fresh_offset before m) m

-- WGSL's size of struct n: the last end, rounded up to the struct's alignment; 44 where that is 2 to the 32 or more
unfoldable pub fresh_struct : TypeNumber → Parts → Measure
fresh_struct n (Broken k p) = Faulty k p
fresh_struct n (Laid a e ok) = cond (ltb (round_up a e) 4294967296) (Fills a (round_up a e)) (Faulty Huge n)

-- A TYPE THAT IS A PENDING ARRAY OR HOLDS ONE; `holds` is whether an earlier type is one or holds one, `past` what it
-- fills

-- a pending array is measured as a constant one of so many elements; an array whose element is a pending array, or
-- holds one, is outside the list
abbrev pub counted_array : (TypeNumber → Bool) → Counts → (TypeNumber → Measure) → TypeNumber → TypeNumber → ArraySize
    → ℕ → Measure
counted_array holds counts past n b (As.Constant c) stride = Faulty Unmeasured n
counted_array holds counts past n b (As.Pending o) stride =
    cond (holds b) (Faulty Unmeasured n) (array_of n (past b) (counts o) stride)
counted_array holds counts past n b As.Dynamic stride = Faulty Unmeasured n

abbrev pub counted_inner : List ℕ → Starts → (TypeNumber → Bool) → Counts → (TypeNumber → Measure) → TypeNumber
    → TypeInner → Measure
counted_inner fr s holds counts past n (Ti.Array b z t) = counted_array holds counts past n b z t
counted_inner fr s holds counts past n (Ti.Struct m j t) = fresh_struct n (fresh_parts fr s past m j)
counted_inner fr s holds counts past n (Ti.Scalar k) = Faulty Unmeasured n
counted_inner fr s holds counts past n (Ti.Vector z k) = Faulty Unmeasured n
counted_inner fr s holds counts past n (Ti.Matrix c r k) = Faulty Unmeasured n
counted_inner fr s holds counts past n (Ti.CooperativeMatrix c r k o) = Faulty Unmeasured n
counted_inner fr s holds counts past n (Ti.Atomic k) = Faulty Unmeasured n
counted_inner fr s holds counts past n (Ti.Pointer b p) = Faulty Unmeasured n
counted_inner fr s holds counts past n (Ti.ValuePointer z k p) = Faulty Unmeasured n
counted_inner fr s holds counts past n (Ti.Image d a c) = Faulty Unmeasured n
counted_inner fr s holds counts past n (Ti.Sampler q) = Faulty Unmeasured n
counted_inner fr s holds counts past n (Ti.AccelerationStructure q) = Faulty Unmeasured n
counted_inner fr s holds counts past n (Ti.RayQuery q) = Faulty Unmeasured n
counted_inner fr s holds counts past n (Ti.BindingArray b z) = Faulty Unmeasured n

abbrev pub counted_form : List ℕ → Starts → (TypeNumber → Bool) → Counts → (TypeNumber → Measure) → TypeNumber
    → Option TypeInner → Measure
counted_form fr s holds counts past n (Some t) = counted_inner fr s holds counts past n t
counted_form fr s holds counts past n None = Faulty Unmeasured n

-- ANY TYPE: by counts where it holds a pending array, else by request 5's rule
abbrev pub form_by : List ℕ → Starts → (TypeNumber → Bool) → Counts → (TypeNumber → Measure) → TypeNumber
    → Option TypeInner
    → Measure
form_by fr s holds counts past n t = cond (holds n) (counted_form fr s holds counts past n t) (of_form fr s past n t)

-- TYPES IN ORDER, each over those before it

abbrev pub next_by : List ℕ → Starts → (TypeNumber → Bool) → Counts → List Measure → ℕ → Measure
next_by fr s holds counts l n = form_by fr s holds counts (look l) (record { 0 = n }) (type_in fr s (record { 0 = n }))

-- the measures of the first n types
unfoldable pub measures_by : List ℕ → Starts → (TypeNumber → Bool) → Counts → ℕ → List Measure
measures_by fr s holds counts n = in_order (next_by fr s holds counts) n

-- what type n fills, where the types that `holds` marks go by counts. With no type marked it is request 5's measure
-- (`no-counts`, proofs/Laws.antt)
unfoldable pub measure_by : List ℕ → Starts → (TypeNumber → Bool) → Counts → TypeNumber → Measure
measure_by fr s holds counts n = form_by fr s holds counts (look (measures_by fr s holds counts n.0)) n (type_in fr s n)

-- what type n fills at these counts
abbrev pub measure_at : List ℕ → Starts → Counts → TypeNumber → Measure
measure_at fr s counts n = measure_by fr s (holds_pending fr s) counts n
