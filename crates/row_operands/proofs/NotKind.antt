-- The arm `_` of a match over types: what no arm before it names is one of the other kinds.
use mathlib.Core.List.{[], ◌∷◌}
use mathlib.Core.Path.{◌≡◌, refl}
use types.Run.{OneOf, hit}
use denote.Enum.Declared.{tag_of}
use Rattle.ir.specs.declared.Scalar.{Scalar}
use Rattle.ir.specs.declared.VectorSize.{VectorSize}
use Rattle.ir.specs.declared.TypeNumber.{TypeNumber}
use Rattle.ir.specs.declared.AddressSpace.{AddressSpace}
use Rattle.ir.specs.declared.TypeInner.{TypeInner}
use Rattle.ir.specs.declared.TypeInner.TheVariants as Ti
use Rattle.ir.specs.contracts.TypeInner.{the_type}
use Rattle.ir.proofs.Others.{kinds_but}

pub not-pointer : (t : TypeInner) → ((b : TypeNumber) (p : AddressSpace) → t ≡ Ti.Pointer b p → ⊥)
    → OneOf (kinds_but (5 ∷ [])) (tag_of the_type t)
not-pointer (Ti.Scalar k) h = hit (kinds_but (5 ∷ [])) 0 tt
not-pointer (Ti.Vector z k) h = hit (kinds_but (5 ∷ [])) 1 tt
not-pointer (Ti.Matrix m n k) h = hit (kinds_but (5 ∷ [])) 2 tt
not-pointer (Ti.CooperativeMatrix m n k o) h = hit (kinds_but (5 ∷ [])) 3 tt
not-pointer (Ti.Atomic k) h = hit (kinds_but (5 ∷ [])) 4 tt
not-pointer (Ti.Pointer b p) h = absurd (h b p refl)
not-pointer (Ti.ValuePointer z k p) h = hit (kinds_but (5 ∷ [])) 6 tt
not-pointer (Ti.Array b z n) h = hit (kinds_but (5 ∷ [])) 7 tt
not-pointer (Ti.Struct m n z) h = hit (kinds_but (5 ∷ [])) 8 tt
not-pointer (Ti.Image d q c) h = hit (kinds_but (5 ∷ [])) 9 tt
not-pointer (Ti.Sampler q) h = hit (kinds_but (5 ∷ [])) 10 tt
not-pointer (Ti.AccelerationStructure q) h = hit (kinds_but (5 ∷ [])) 11 tt
not-pointer (Ti.RayQuery q) h = hit (kinds_but (5 ∷ [])) 12 tt
not-pointer (Ti.BindingArray b z) h = hit (kinds_but (5 ∷ [])) 13 tt

pub not-scalar : (t : TypeInner) → ((k : Scalar) → t ≡ Ti.Scalar k → ⊥)
    → OneOf (kinds_but (0 ∷ [])) (tag_of the_type t)
not-scalar (Ti.Scalar k) h = absurd (h k refl)
not-scalar (Ti.Vector z k) h = hit (kinds_but (0 ∷ [])) 1 tt
not-scalar (Ti.Matrix m n k) h = hit (kinds_but (0 ∷ [])) 2 tt
not-scalar (Ti.CooperativeMatrix m n k o) h = hit (kinds_but (0 ∷ [])) 3 tt
not-scalar (Ti.Atomic k) h = hit (kinds_but (0 ∷ [])) 4 tt
not-scalar (Ti.Pointer b p) h = hit (kinds_but (0 ∷ [])) 5 tt
not-scalar (Ti.ValuePointer z k p) h = hit (kinds_but (0 ∷ [])) 6 tt
not-scalar (Ti.Array b z n) h = hit (kinds_but (0 ∷ [])) 7 tt
not-scalar (Ti.Struct m n z) h = hit (kinds_but (0 ∷ [])) 8 tt
not-scalar (Ti.Image d q c) h = hit (kinds_but (0 ∷ [])) 9 tt
not-scalar (Ti.Sampler q) h = hit (kinds_but (0 ∷ [])) 10 tt
not-scalar (Ti.AccelerationStructure q) h = hit (kinds_but (0 ∷ [])) 11 tt
not-scalar (Ti.RayQuery q) h = hit (kinds_but (0 ∷ [])) 12 tt
not-scalar (Ti.BindingArray b z) h = hit (kinds_but (0 ∷ [])) 13 tt

pub not-vector : (t : TypeInner) → ((z : VectorSize) (k : Scalar) → t ≡ Ti.Vector z k → ⊥)
    → OneOf (kinds_but (1 ∷ [])) (tag_of the_type t)
not-vector (Ti.Scalar k) h = hit (kinds_but (1 ∷ [])) 0 tt
not-vector (Ti.Vector z k) h = absurd (h z k refl)
not-vector (Ti.Matrix m n k) h = hit (kinds_but (1 ∷ [])) 2 tt
not-vector (Ti.CooperativeMatrix m n k o) h = hit (kinds_but (1 ∷ [])) 3 tt
not-vector (Ti.Atomic k) h = hit (kinds_but (1 ∷ [])) 4 tt
not-vector (Ti.Pointer b p) h = hit (kinds_but (1 ∷ [])) 5 tt
not-vector (Ti.ValuePointer z k p) h = hit (kinds_but (1 ∷ [])) 6 tt
not-vector (Ti.Array b z n) h = hit (kinds_but (1 ∷ [])) 7 tt
not-vector (Ti.Struct m n z) h = hit (kinds_but (1 ∷ [])) 8 tt
not-vector (Ti.Image d q c) h = hit (kinds_but (1 ∷ [])) 9 tt
not-vector (Ti.Sampler q) h = hit (kinds_but (1 ∷ [])) 10 tt
not-vector (Ti.AccelerationStructure q) h = hit (kinds_but (1 ∷ [])) 11 tt
not-vector (Ti.RayQuery q) h = hit (kinds_but (1 ∷ [])) 12 tt
not-vector (Ti.BindingArray b z) h = hit (kinds_but (1 ∷ [])) 13 tt

pub not-matrix : (t : TypeInner) → ((m n : VectorSize) (k : Scalar) → t ≡ Ti.Matrix m n k → ⊥)
    → OneOf (kinds_but (2 ∷ [])) (tag_of the_type t)
not-matrix (Ti.Scalar k) h = hit (kinds_but (2 ∷ [])) 0 tt
not-matrix (Ti.Vector z k) h = hit (kinds_but (2 ∷ [])) 1 tt
not-matrix (Ti.Matrix m n k) h = absurd (h m n k refl)
not-matrix (Ti.CooperativeMatrix m n k o) h = hit (kinds_but (2 ∷ [])) 3 tt
not-matrix (Ti.Atomic k) h = hit (kinds_but (2 ∷ [])) 4 tt
not-matrix (Ti.Pointer b p) h = hit (kinds_but (2 ∷ [])) 5 tt
not-matrix (Ti.ValuePointer z k p) h = hit (kinds_but (2 ∷ [])) 6 tt
not-matrix (Ti.Array b z n) h = hit (kinds_but (2 ∷ [])) 7 tt
not-matrix (Ti.Struct m n z) h = hit (kinds_but (2 ∷ [])) 8 tt
not-matrix (Ti.Image d q c) h = hit (kinds_but (2 ∷ [])) 9 tt
not-matrix (Ti.Sampler q) h = hit (kinds_but (2 ∷ [])) 10 tt
not-matrix (Ti.AccelerationStructure q) h = hit (kinds_but (2 ∷ [])) 11 tt
not-matrix (Ti.RayQuery q) h = hit (kinds_but (2 ∷ [])) 12 tt
not-matrix (Ti.BindingArray b z) h = hit (kinds_but (2 ∷ [])) 13 tt
