-- What is to be known of other types before a type is measured, and its measure by that. `by-needs`
-- (proofs/Measured.antt): it is the measure of crate rule_ranges.
use Rattle.std.specs.Prelude.{ℕ, Bool, true, false, cond, List, Option, Some, None}
use Rattle.ir.specs.declared.TypeNumber.{TypeNumber}
use Rattle.ir.specs.declared.MemberNumber.{MemberNumber}
use Rattle.ir.specs.declared.ArraySize.{ArraySize}
use Rattle.ir.specs.declared.ArraySize.TheVariants as As
use Rattle.ir.specs.declared.TypeInner.{TypeInner}
use Rattle.ir.specs.declared.TypeInner.TheVariants as Ti
use Rattle.archive.specs.declared.Starts.{Starts}
use Rattle.rule_sizes.specs.declared.SizeFault.TheVariants.{Unmeasured}
use Rattle.rule_sizes.specs.declared.Measure.{Measure}
use Rattle.rule_sizes.specs.declared.Measure.TheVariants.{Faulty}
use Rattle.rule_sizes.specs.Sizes.{leaf_of, array_of, parts_of, struct_of}
use Rattle.rule_ranges.specs.Counts.{Counts, fresh_parts, fresh_struct}
use Rattle.size_needs.specs.declared.Needs.{Needs}
use Rattle.size_needs.specs.declared.Needs.TheVariants.{Nothing, Element, Members}

-- by the kind: an array, a struct, or any other
abbrev pub by_kind : TypeInner → (TypeNumber → ArraySize → ℕ → Needs) → (MemberNumber → ℕ → ℕ → Needs) → Needs → Needs
by_kind (Ti.Array b z t) array struct other = array b z t
by_kind (Ti.Struct m j t) array struct other = struct m j t
by_kind (Ti.Scalar k) array struct other = other
by_kind (Ti.Vector z k) array struct other = other
by_kind (Ti.Matrix c r k) array struct other = other
by_kind (Ti.CooperativeMatrix c r k o) array struct other = other
by_kind (Ti.Atomic k) array struct other = other
by_kind (Ti.Pointer b p) array struct other = other
by_kind (Ti.ValuePointer z k p) array struct other = other
by_kind (Ti.Image d a c) array struct other = other
by_kind (Ti.Sampler q) array struct other = other
by_kind (Ti.AccelerationStructure q) array struct other = other
by_kind (Ti.RayQuery q) array struct other = other
by_kind (Ti.BindingArray b z) array struct other = other

-- pending and dynamic arrays are outside the list
abbrev pub sized_needs : TypeNumber → TypeNumber → ArraySize → ℕ → Needs
sized_needs n b (As.Constant c) stride = Element b c stride
sized_needs n b (As.Pending o) stride = Nothing (Faulty Unmeasured n)
sized_needs n b As.Dynamic stride = Nothing (Faulty Unmeasured n)

-- a type by request 5's rule
abbrev pub inner_needs : TypeNumber → TypeInner → Needs
inner_needs n t = by_kind t (sized_needs n) (λ m j z. Members m j z false) (Nothing (leaf_of n t))

-- a pending array by its count; an array over a pending one, or over what holds one, is outside the list
abbrev pub counted_array_needs : (TypeNumber → Bool) → Counts → TypeNumber → TypeNumber → ArraySize → ℕ → Needs
counted_array_needs holds counts n b (As.Constant c) stride = Nothing (Faulty Unmeasured n)
counted_array_needs holds counts n b (As.Pending o) stride =
    cond (holds b) (Nothing (Faulty Unmeasured n)) (Element b (counts o) stride)
counted_array_needs holds counts n b As.Dynamic stride = Nothing (Faulty Unmeasured n)

-- a type that is a pending array or holds one: a struct is laid out afresh
abbrev pub counted_needs : (TypeNumber → Bool) → Counts → TypeNumber → TypeInner → Needs
counted_needs holds counts n t =
    by_kind t (counted_array_needs holds counts n) (λ m j z. Members m j z true) (Nothing (Faulty Unmeasured n))

-- what type n of this form needs; an unknown kind is outside the list
unfoldable pub needs_of : (TypeNumber → Bool) → Counts → TypeNumber → Option TypeInner → Needs
needs_of holds counts n (Some t) = cond (holds n) (counted_needs holds counts n t) (inner_needs n t)
needs_of holds counts n None = Nothing (Faulty Unmeasured n)

-- what type n fills, by what it needs; `past` is what the types fill that it names
abbrev pub by_needs : List ℕ → Starts → (TypeNumber → Measure) → TypeNumber → Needs → Measure
by_needs fr s past n (Nothing m) = m
by_needs fr s past n (Element b count stride) = array_of n (past b) count stride
by_needs fr s past n (Members m j span afresh) =
    cond afresh (fresh_struct n (fresh_parts fr s past m j)) (struct_of n (parts_of fr s past m j) j span)
