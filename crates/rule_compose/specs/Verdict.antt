-- The verdict on a compose: the source's validate_compose (valid/compose.rs; document 01, "A compose's verdict"). The
-- composed type is looked into first; components are taken in order, and count from 0. What WGSL asks of a constructor
-- differs, and is listed in docs/DIFFERENCES.md; the source decides.
use Rattle.std.specs.Prelude.{ℕ, suc, ◌+◌, Bool, true, false, cond, List, [], ◌∷◌, eqb, length, get_or}
use Rattle.std.proofs.Math.Option.{Option, none, some}
use Rattle.ir.specs.declared.TypeNumber.{TypeNumber}
use Rattle.ir.specs.declared.RowNumber.{RowNumber}
use Rattle.ir.specs.declared.VectorSize.{VectorSize}
use Rattle.ir.specs.declared.Scalar.{Scalar}
use Rattle.ir.specs.declared.ArraySize.{ArraySize}
use Rattle.ir.specs.declared.ArraySize.TheVariants as As
use Rattle.ir.specs.declared.TypeInner.{TypeInner}
use Rattle.ir.specs.declared.TypeInner.TheVariants as Ti
use Rattle.ir.specs.Numbers.{vector_size_number}
use Rattle.rule.specs.Answers.{TypeAnswer, number, Typed, given, refused, chosen_refusal, component, composed}
use Rattle.rule.specs.Answers.{Judgement}
use Rattle.rule.specs.Answers.{passes, not_composed, count, part, broken}
use Rattle.rule.specs.Things.{Form, form}
use Rattle.rule.specs.Rule.{Rule, done, come, past}
use Rattle.rule_types.specs.Canonical.{equal_types}
use Rattle.rule_types.specs.Comparison.{compare}
use Rattle.rule_rows.specs.Selectors.{if_scalar, if_vector}
use Rattle.ir.specs.Scalars.{equal_scalars}

-- COMPONENTS

-- a component whose row is refused is number 33
abbrev pub or_broken : ℕ → (TypeAnswer → Rule Judgement) → Typed → Rule Judgement
or_broken i rest (given a) = rest a
or_broken i rest (refused e) = done (broken i)
or_broken i rest (chosen_refusal f) = done (broken i)

-- component i, which is row n, is come to; a newer thing met in that row's reading is number 22 at the component
abbrev pub come_to : ℕ → RowNumber → (TypeAnswer → Rule Judgement) → Rule Judgement
come_to i n rest = past n (λ p. component i) (or_broken i rest)

-- a component that is not as asked is number 32
abbrev pub or_part : ℕ → Rule Judgement → Bool → Rule Judgement
or_part i rest true = rest
or_part i rest false = done (part i)

-- each component, from component i on, is held against what is asked of it
unfoldable pub each_part : (ℕ → TypeAnswer → (Bool → Rule Judgement) → Rule Judgement) → ℕ → List RowNumber
    → Rule Judgement
each_part asked i [] = done passes
each_part asked i (n ∷ parts) = come_to i n (λ a. asked i a (or_part i (each_part asked (suc i) parts)))

-- the count is checked before any component is come to; number 31 has the true count as given
abbrev pub counted : ℕ → List RowNumber → Rule Judgement → Rule Judgement
counted expected parts rest = cond (eqb expected (length parts)) rest (done (count expected (length parts)))

-- VECTOR: from scalars and vectors of its scalar, as many components as its size

-- how many components of a vector of k a type makes; none where it is no part of one
abbrev pub adds : Scalar → TypeInner → Option ℕ
adds k t =
    if_scalar t (λ j. cond (equal_scalars j k) (some 1) none)
    (if_vector t (λ z j. cond (equal_scalars j k) (some (vector_size_number z)) none)
    none)

abbrev pub add_part : ℕ → (ℕ → Rule Judgement) → Option ℕ → Rule Judgement
add_part i rest (some m) = rest m
add_part i rest none = done (part i)

-- the total is checked last, even where it is over already; `total` is that of the components before component i
unfoldable pub vector_parts : VectorSize → Scalar → ℕ → ℕ → List RowNumber → Rule Judgement
vector_parts z k i total [] = done (cond (eqb (vector_size_number z) total) passes (count (vector_size_number z) total))
vector_parts z k i total (n ∷ parts) =
    come_to i n (λ a. come (component i) (form a)
    (λ y. add_part i (λ m. vector_parts z k (suc i) (total + m) parts) (adds k y.inner)))

-- MATRIX: from its columns, each the vector itself; no canonical forms here
abbrev pub column_is : VectorSize → Scalar → ℕ → TypeAnswer → (Bool → Rule Judgement) → Rule Judgement
column_is rows k i a rest = come (component i) (form a) (λ y. rest (equal_types y.inner (Ti.Vector rows k)))

abbrev pub matrix_parts : VectorSize → VectorSize → Scalar → List RowNumber → Rule Judgement
matrix_parts columns rows k parts = counted (vector_size_number columns) parts (each_part (column_is rows k) 0 parts)

-- ARRAY of constant size: from parts of the same type as its base
abbrev pub element_is : TypeNumber → ℕ → TypeAnswer → (Bool → Rule Judgement) → Rule Judgement
element_is base i a rest = compare (component i) (number base) a rest

abbrev pub array_parts : TypeNumber → ArraySize → List RowNumber → Rule Judgement
array_parts base (As.Constant n) parts = counted n parts (each_part (element_is base) 0 parts)
array_parts base (As.Pending o) parts = done not_composed
array_parts base As.Dynamic parts = done not_composed

-- STRUCT: from parts of the same types as its members, in order. The count holds, so there is a member for each
-- component.
abbrev pub member_is : List TypeNumber → ℕ → TypeAnswer → (Bool → Rule Judgement) → Rule Judgement
member_is members i a rest = compare (component i) (number (get_or members i (record { 0 = 0 }))) a rest

abbrev pub struct_parts : List TypeNumber → List RowNumber → Rule Judgement
struct_parts members parts = counted (length members) parts (each_part (member_is members) 0 parts)

-- THE VERDICT, by the composed type; every other type is number 30, whatever the components
abbrev pub by_form : List RowNumber → List TypeNumber → TypeInner → Rule Judgement
by_form parts members (Ti.Vector z k) = vector_parts z k 0 0 parts
by_form parts members (Ti.Matrix c r k) = matrix_parts c r k parts
by_form parts members (Ti.Array b z t) = array_parts b z parts
by_form parts members (Ti.Struct m n t) = struct_parts members parts
by_form parts members (Ti.Scalar k) = done not_composed
by_form parts members (Ti.CooperativeMatrix c r k o) = done not_composed
by_form parts members (Ti.Atomic k) = done not_composed
by_form parts members (Ti.Pointer b p) = done not_composed
by_form parts members (Ti.ValuePointer z k p) = done not_composed
by_form parts members (Ti.Image d a c) = done not_composed
by_form parts members (Ti.Sampler q) = done not_composed
by_form parts members (Ti.AccelerationStructure q) = done not_composed
by_form parts members (Ti.RayQuery q) = done not_composed
by_form parts members (Ti.BindingArray b z) = done not_composed

-- the rule of the verdict on a compose of type t from these rows
abbrev pub verdict : TypeNumber → List RowNumber → Rule Judgement
verdict t parts = come composed (form (number t)) (λ x. by_form parts x.members x.inner)
