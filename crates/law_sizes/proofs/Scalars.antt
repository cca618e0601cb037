-- The alignment that a scalar is given is this one exactly where the list has it. By what each test says. Assumes
-- nothing.
use Rattle.std.specs.Prelude.{Option, Some, None}
use mathlib.Core.Path.{◌≡◌, refl, sym, ap, ◌∙◌}
use mathlib.Core.Bool.{Bool, true, false, ◌||◌}
use lib.Dec.{eqb}
use borrow.Author.Tests.{eqb-true}
use Rattle.scan.proofs.Laws.{by-test, and_first, and_second}
use Rattle.ir.specs.declared.ScalarKind.{ScalarKind}
use Rattle.ir.specs.declared.Scalar.{Scalar}
use Rattle.ir.specs.declared.Width.{Width}
use Rattle.ir.specs.Numbers.{scalar_kind_number, scalar_kind_of, width_number, width_of}
use Rattle.ir.specs.Scalars.{I32, U32, F16, F32, equal_scalars}
use Rattle.ir.proofs.Numbered.{scalar_kind-back, width_back}
use Rattle.rule_sizes.specs.declared.Alignment.{Alignment}
use Rattle.rule_sizes.specs.Wgsl.{integer_align, float_align, or_float, number_align}
use Rattle.rule_sizes.specs.Meaning.{Integer, Float, Number}

scalar_is : (s r : Scalar) → equal_scalars s r ≡ true → s ≡ r
scalar_is s r e =
    let a = scalar_kind_number s.kind in
    let b = scalar_kind_number r.kind in
    let v = width_number s.width in
    let w = width_number r.width in
    let k : s.kind ≡ r.kind = sym (scalar_kind-back s.kind)
    ∙ ap scalar_kind_of (eqb-true a b (and_first (eqb a b) (eqb v w) e)) ∙ scalar_kind-back r.kind in
    let l : s.width ≡ r.width = sym (width_back s.width)
    ∙ ap width_of (eqb-true v w (and_second (eqb a b) (eqb v w) e)) ∙ width_back r.width in
    ap (λ (x : ScalarKind). record { kind = x; width = s.width }) k
    ∙ ap (λ (x : Width). record { kind = r.kind; width = x }) l

either : {X : Type 0} (a b : Bool) → (a || b) ≡ true → (a ≡ true → X) → (b ≡ true → X) → X
either true b e f g = f refl
either false b e f g = g e

-- WHAT IS GIVEN: an alignment that the list has, or none

abbrev pub Given : (Scalar → Alignment → Type 0) → Scalar → Option Alignment → Type 0
Given L k (Some a) = L k a
Given L k None = Unit {0}

pub integer-given : (k : Scalar) → Given Integer k (integer_align k)
integer-given k =
    by-test (Given Integer k) (equal_scalars k I32 || equal_scalars k U32)
    (λ e. either (equal_scalars k I32) (equal_scalars k U32) e (λ q. rw (scalar_is k I32 q) Integer.i32)
    (λ q. rw (scalar_is k U32 q) Integer.u32)) (λ e. tt)

pub float-given : (k : Scalar) → Given Float k (float_align k)
float-given k =
    by-test (Given Float k) (equal_scalars k F32) (λ q. rw (scalar_is k F32 q) Float.f32)
    (λ e. by-test (Given Float k) (equal_scalars k F16) (λ q. rw (scalar_is k F16 q) Float.f16) (λ q. tt))

or-float-given : (k : Scalar) (o : Option Alignment) → Given Integer k o → Given Number k (or_float o k)
or-float-given k (Some a) h = Number.integer k a h
or-float-given k None h = go (float_align k) (float-given k)
  where
    go : (f : Option Alignment) → Given Float k f → Given Number k f
    go (Some a) q = Number.float k a q
    go None q = tt

pub number-given : (k : Scalar) → Given Number k (number_align k)
number-given k = or-float-given k (integer_align k) (integer-given k)

-- WHAT THE LIST HAS is given: each scalar of it computes

pub integer-has : (k : Scalar) (a : Alignment) → Integer k a → integer_align k ≡ Some a
integer-has k a Integer.i32 = refl
integer-has k a Integer.u32 = refl

pub float-has : (k : Scalar) (a : Alignment) → Float k a → float_align k ≡ Some a
float-has k a Float.f32 = refl
float-has k a Float.f16 = refl

pub number-has : (k : Scalar) (a : Alignment) → Number k a → number_align k ≡ Some a
number-has k a (Number.integer j b Integer.i32) = refl
number-has k a (Number.integer j b Integer.u32) = refl
number-has k a (Number.float j b Float.f32) = refl
number-has k a (Number.float j b Float.f16) = refl
