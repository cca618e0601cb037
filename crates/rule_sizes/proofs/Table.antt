-- The rules give WGSL's printed table: both sides compute to the same. And forms outside the list have no size.
use Prim.Native.Nat.{ℕ}
use mathlib.Core.Path.{◌≡◌, refl}
use mathlib.Core.List.{List, [], ◌∷◌, map}
use Rattle.ir.specs.declared.ScalarKind.TheVariants as Sk
use Rattle.ir.specs.declared.Width.TheVariants as Wd
use Rattle.ir.specs.declared.VectorSize.TheVariants.{Bi, Tri, Quad}
use Rattle.ir.specs.declared.TypeInner.{TypeInner}
use Rattle.ir.specs.declared.TypeInner.TheVariants as Ti
use Rattle.ir.specs.Scalars.{I16, U16, I32, I64, U64, F64, BOOL, ABSTRACT-INT, ABSTRACT-FLOAT}
use Rattle.rule_sizes.specs.declared.Measure.{Measure}
use Rattle.rule_sizes.specs.declared.Measure.TheVariants.{Fills, Faulty}
use Rattle.rule_sizes.specs.Wgsl.{bytes}
use Rattle.rule_sizes.specs.WgslTable.{SizeLine, size_lines}
use Rattle.rule_sizes.specs.Sizes.{leaf_of}

-- alignment and size; nothing where there is no size
abbrev numbers : Measure → List ℕ
numbers (Fills a z) = bytes a ∷ z ∷ []
numbers (Faulty k p) = []

abbrev filled : TypeInner → List ℕ
filled t = numbers (leaf_of (record { 0 = 0 }) t)

pub in-the-table : map (λ (l : SizeLine). filled l.form) size_lines
    ≡ map (λ (l : SizeLine). l.align ∷ l.size ∷ []) size_lines
in-the-table = refl

-- bool, though WGSL gives it 4 and 4; integers and floats of other widths; abstract kinds; integer matrices; atomics
-- of other scalars
outside-the-list :
    filled (Ti.Scalar BOOL) ∷ filled (Ti.Scalar I16) ∷ filled (Ti.Scalar U16) ∷ filled (Ti.Scalar F64) ∷ filled
    (Ti.Scalar I64)
    ∷ filled (Ti.Scalar ABSTRACT-INT) ∷ filled (Ti.Scalar ABSTRACT-FLOAT) ∷ filled
    (Ti.Scalar (record { kind = Sk.AbstractFloat; width = Wd.Four }))
    ∷ filled (Ti.Vector Tri BOOL) ∷ filled (Ti.Vector Bi U16) ∷ filled (Ti.Matrix Bi Bi I32) ∷ filled
    (Ti.Matrix Quad Tri F64)
    ∷ filled (Ti.Atomic U64) ∷ filled (Ti.Atomic (record { kind = Sk.Float; width = Wd.Four })) ∷ []
    ≡ [] ∷ [] ∷ [] ∷ [] ∷ [] ∷ [] ∷ [] ∷ [] ∷ [] ∷ [] ∷ [] ∷ [] ∷ [] ∷ [] ∷ []
outside-the-list = refl
