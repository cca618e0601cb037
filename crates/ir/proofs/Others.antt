-- The arm `_` of a match over types. There it is told that the kind is one of those that no arm before it names; what
-- is to be shown of such a type is shown of each of these kinds, for all that a type of it may hold. Kinds are numbered
-- from 0 as `TypeInner` declares them.
use Rattle.std.specs.Prelude.{Option}
use Prim.Native.Nat.{ℕ}
use mathlib.Core.Bool.{Bool, true, false, not}
use mathlib.Core.List.{List, [], ◌∷◌}
use lib.Dec.{T}
use mir.Val.{has_key}
use types.Run.{OneOf, miss}
use denote.Enum.Declared.{tag_of}
use Rattle.ir.specs.declared.Scalar.{Scalar}
use Rattle.ir.specs.declared.VectorSize.{VectorSize}
use Rattle.ir.specs.declared.CooperativeSize.{CooperativeSize}
use Rattle.ir.specs.declared.CooperativeRole.{CooperativeRole}
use Rattle.ir.specs.declared.TypeNumber.{TypeNumber}
use Rattle.ir.specs.declared.MemberNumber.{MemberNumber}
use Rattle.ir.specs.declared.AddressSpace.{AddressSpace}
use Rattle.ir.specs.declared.ArraySize.{ArraySize}
use Rattle.ir.specs.declared.ImageDimension.{ImageDimension}
use Rattle.ir.specs.declared.ImageClass.{ImageClass}
use Rattle.ir.specs.declared.TypeInner.{TypeInner}
use Rattle.ir.specs.declared.TypeInner.TheVariants as Ti
use Rattle.ir.specs.contracts.TypeInner.{the_type}

abbrev unless : Bool → ℕ → List ℕ → List ℕ
unless true k ks = ks
unless false k ks = k ∷ ks

abbrev without : List ℕ → List ℕ → List ℕ
without l [] = []
without l (k ∷ ks) = unless (has_key l k) k (without l ks)

-- every kind but those of the list
abbrev pub kinds_but : List ℕ → List ℕ
kinds_but l = without l (0 ∷ 1 ∷ 2 ∷ 3 ∷ 4 ∷ 5 ∷ 6 ∷ 7 ∷ 8 ∷ 9 ∷ 10 ∷ 11 ∷ 12 ∷ 13 ∷ [])

-- P of every type whose kind is one of the list
pub record Others (l : List ℕ) (P : TypeInner → Type 0) : Type 0 where
  pub at : (t : TypeInner) → OneOf l (tag_of the_type t) → P t

-- A where b holds, and else nothing
abbrev pub On : Bool → Type 0 → Type 0
On true A = A
On false A = Unit {0}

on : (b : Bool) {A : Type 0} → On b A → (T (not b) → ⊥) → A
on true a h = a
on false a h = absurd (h tt)

-- the same kind by kind; where P is an equation that computes at each of them, `search needs` makes it
pub record Each (l : List ℕ) (P : TypeInner → Type 0) : Type 0 where
  pub scalar : On (has_key l 0) ((k : Scalar) → P (Ti.Scalar k))
  pub vector : On (has_key l 1) ((z : VectorSize) (k : Scalar) → P (Ti.Vector z k))
  pub matrix : On (has_key l 2) ((m n : VectorSize) (k : Scalar) → P (Ti.Matrix m n k))
  pub cooperative-matrix : On (has_key l 3)
      ((m n : CooperativeSize) (k : Scalar) (o : CooperativeRole) → P (Ti.CooperativeMatrix m n k o))
  pub atomic : On (has_key l 4) ((k : Scalar) → P (Ti.Atomic k))
  pub pointer : On (has_key l 5) ((b : TypeNumber) (p : AddressSpace) → P (Ti.Pointer b p))
  pub value-pointer : On (has_key l 6)
      ((z : Option VectorSize) (k : Scalar) (p : AddressSpace) → P (Ti.ValuePointer z k p))
  pub array : On (has_key l 7) ((b : TypeNumber) (z : ArraySize) (n : ℕ) → P (Ti.Array b z n))
  pub struct : On (has_key l 8) ((m : MemberNumber) (n z : ℕ) → P (Ti.Struct m n z))
  pub image : On (has_key l 9) ((d : ImageDimension) (q : Bool) (c : ImageClass) → P (Ti.Image d q c))
  pub sampler : On (has_key l 10) ((q : Bool) → P (Ti.Sampler q))
  pub acceleration-structure : On (has_key l 11) ((q : Bool) → P (Ti.AccelerationStructure q))
  pub ray-query : On (has_key l 12) ((q : Bool) → P (Ti.RayQuery q))
  pub binding-array : On (has_key l 13) ((b : TypeNumber) (z : ArraySize) → P (Ti.BindingArray b z))

by_kind : {l : List ℕ} {P : TypeInner → Type 0} → Each l P → (t : TypeInner) → OneOf l (tag_of the_type t) → P t
by_kind {l} e (Ti.Scalar k) h = on (has_key l 0) e.scalar (λ w. miss l 0 w h) k
by_kind {l} e (Ti.Vector z k) h = on (has_key l 1) e.vector (λ w. miss l 1 w h) z k
by_kind {l} e (Ti.Matrix m n k) h = on (has_key l 2) e.matrix (λ w. miss l 2 w h) m n k
by_kind {l} e (Ti.CooperativeMatrix m n k o) h = on (has_key l 3) e.cooperative-matrix (λ w. miss l 3 w h) m n k o
by_kind {l} e (Ti.Atomic k) h = on (has_key l 4) e.atomic (λ w. miss l 4 w h) k
by_kind {l} e (Ti.Pointer b p) h = on (has_key l 5) e.pointer (λ w. miss l 5 w h) b p
by_kind {l} e (Ti.ValuePointer z k p) h = on (has_key l 6) e.value-pointer (λ w. miss l 6 w h) z k p
by_kind {l} e (Ti.Array b z n) h = on (has_key l 7) e.array (λ w. miss l 7 w h) b z n
by_kind {l} e (Ti.Struct m n z) h = on (has_key l 8) e.struct (λ w. miss l 8 w h) m n z
by_kind {l} e (Ti.Image d q c) h = on (has_key l 9) e.image (λ w. miss l 9 w h) d q c
by_kind {l} e (Ti.Sampler q) h = on (has_key l 10) e.sampler (λ w. miss l 10 w h) q
by_kind {l} e (Ti.AccelerationStructure q) h = on (has_key l 11) e.acceleration-structure (λ w. miss l 11 w h) q
by_kind {l} e (Ti.RayQuery q) h = on (has_key l 12) e.ray-query (λ w. miss l 12 w h) q
by_kind {l} e (Ti.BindingArray b z) h = on (has_key l 13) e.binding-array (λ w. miss l 13 w h) b z

pub of-each : {l : List ℕ} {P : TypeInner → Type 0} → Each l P → Others l P
of-each e = record { at = by_kind e }
