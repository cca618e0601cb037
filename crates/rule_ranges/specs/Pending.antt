-- Which types are a pending array or hold one, at any depth (document 02, request 6). What it means stands apart, in
-- Meaning.antt.
use Rattle.std.specs.Prelude.{ℕ, zero, suc, Bool, true, false, ◌||◌, List, get_or, Option, Some, None}
use Rattle.ir.specs.declared.TypeNumber.{TypeNumber}
use Rattle.ir.specs.declared.MemberNumber.{MemberNumber}
use Rattle.ir.specs.declared.ArraySize.{ArraySize}
use Rattle.ir.specs.declared.ArraySize.TheVariants as As
use Rattle.ir.specs.declared.TypeInner.{TypeInner}
use Rattle.ir.specs.declared.TypeInner.TheVariants as Ti
use Rattle.archive.specs.declared.Starts.{Starts}
use Rattle.archive.specs.Access.{type_in, member_in}
use Rattle.rule.specs.InOrder.{in_order}

-- an array holds what its element holds; `past` is whether an earlier type is a pending array or holds one
abbrev pub size_holds : (TypeNumber → Bool) → TypeNumber → ArraySize → Bool
size_holds past b (As.Constant c) = past b
size_holds past b (As.Pending o) = true
size_holds past b As.Dynamic = past b

-- a struct holds what one of its first k members is or holds
unfoldable pub member_holds : List ℕ → Starts → (TypeNumber → Bool) → MemberNumber → ℕ → Bool
member_holds fr s past first zero = false
member_holds fr s past first (suc k) = member_holds fr s past first k || past (member_in fr s first k).ty

-- no other type holds one: a pointer's base and the elements of a BindingArray fill nothing in it
abbrev pub inner_holds : List ℕ → Starts → (TypeNumber → Bool) → TypeInner → Bool
inner_holds fr s past (Ti.Array b z t) = size_holds past b z
inner_holds fr s past (Ti.Struct m j t) = member_holds fr s past m j
inner_holds fr s past (Ti.Scalar k) = false
inner_holds fr s past (Ti.Vector z k) = false
inner_holds fr s past (Ti.Matrix c r k) = false
inner_holds fr s past (Ti.CooperativeMatrix c r k o) = false
inner_holds fr s past (Ti.Atomic k) = false
inner_holds fr s past (Ti.Pointer b p) = false
inner_holds fr s past (Ti.ValuePointer z k p) = false
inner_holds fr s past (Ti.Image d a c) = false
inner_holds fr s past (Ti.Sampler q) = false
inner_holds fr s past (Ti.AccelerationStructure q) = false
inner_holds fr s past (Ti.RayQuery q) = false
inner_holds fr s past (Ti.BindingArray b z) = false

abbrev pub form_holds : List ℕ → Starts → (TypeNumber → Bool) → Option TypeInner → Bool
form_holds fr s past (Some t) = inner_holds fr s past t
form_holds fr s past None = false

-- TYPES IN ORDER, each over those before it

abbrev pub look_holds : List Bool → TypeNumber → Bool
look_holds l b = get_or l b.0 false

abbrev pub next_holds : List ℕ → Starts → List Bool → ℕ → Bool
next_holds fr s l n = form_holds fr s (look_holds l) (type_in fr s (record { 0 = n }))

-- the first n types
unfoldable pub holding : List ℕ → Starts → ℕ → List Bool
holding fr s n = in_order (next_holds fr s) n

-- type n is a pending array or holds one
unfoldable pub holds_pending : List ℕ → Starts → TypeNumber → Bool
holds_pending fr s n = form_holds fr s (look_holds (holding fr s n.0)) (type_in fr s n)
