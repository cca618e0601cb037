-- What a verdict comes to, in order, as a table with a line for each composed kind; written from document 01, "A
-- compose's verdict" and "Same type or not", and not from the rule. First the composed type is looked into. Then, by
-- its line, the count is checked, and the components are taken in order: the component's row, with its own reading, and
-- then what the component is held against. The reading ends with what decides.
use Rattle.std.specs.Prelude.{ℕ, suc, Bool, false, cond, not, ◌&&◌, ◌||◌, List, [], ◌∷◌, ◌++◌, eqb, length, get_or}
use Rattle.std.proofs.Math.Option.{Option, none, some}
use Rattle.ir.specs.declared.TypeNumber.{TypeNumber}
use Rattle.ir.specs.declared.RowNumber.{RowNumber}
use Rattle.ir.specs.declared.VectorSize.{VectorSize}
use Rattle.ir.specs.declared.Scalar.{Scalar}
use Rattle.ir.specs.declared.AddressSpace.{AddressSpace}
use Rattle.ir.specs.declared.ArraySize.{ArraySize}
use Rattle.ir.specs.declared.ArraySize.TheVariants as As
use Rattle.ir.specs.declared.TypeInner.{TypeInner}
use Rattle.ir.specs.declared.TypeInner.TheVariants as Ti
use Rattle.ir.specs.Numbers.{vector_size_number}
use Rattle.rule.specs.Answers.{TypeAnswer, number, Place, component, composed}
use Rattle.rule.specs.Things.{Form, Thing, form, struct_number, Sight}
use Rattle.rule.specs.Rule.{Step, step, Readings, placed}
use Rattle.rule_types.specs.Canonical.{if_pointer, canonical, equal_types, identical}
use Rattle.rule_rows.specs.Selectors.{if_scalar, if_vector}
use Rattle.ir.specs.Scalars.{equal_scalars}
use Rattle.law_rows.specs.Reads.{unless_refused, unless_newer}

-- what a component is held against
--   part_of k       to be the scalar k, or a vector of it: a part of a vector
--   column z k     to be that vector itself, no canonical forms: a part of a matrix
--   same_as t       to be the same type as type t, by the comparison: a part of an array or a struct
pub data Against : Type 0 where
  part_of : Scalar → Against
  column : VectorSize → Scalar → Against
  same_as : TypeNumber → Against

-- a line of the table: the count that is checked before any component is come to, if one is; and what component i is
-- held against
pub record ReadLine : Type 0 where
  pub counts : Option ℕ
  pub each : ℕ → Against

-- THE TABLE; a kind that has no line is never composed, and nothing is come to after it

-- an array of constant size has a line; of another size it has none
abbrev pub array_line : TypeNumber → ArraySize → Option ReadLine
array_line base (As.Constant n) = some (record { counts = some n; each = λ (i : ℕ). same_as base })
array_line base (As.Pending o) = none
array_line base As.Dynamic = none

-- the member of an index; the count is checked first, so no component lacks one
abbrev pub member_at : List TypeNumber → ℕ → TypeNumber
member_at members i = get_or members i (record { 0 = 0 })

-- by the composed type, with the types of a struct's members. A vector adds its components up, and its total is checked
-- last.
abbrev pub read_line : List TypeNumber → TypeInner → Option ReadLine
read_line members (Ti.Vector z k) = some (record { counts = none; each = λ (i : ℕ). part_of k })
read_line members (Ti.Matrix c r k) =
    some (record { counts = some (vector_size_number c); each = λ (i : ℕ). column r k })
read_line members (Ti.Array b z t) = array_line b z
read_line members (Ti.Struct m n t) = some
    (record { counts = some (length members); each = λ (i : ℕ). same_as (member_at members i) })
read_line members (Ti.Scalar k) = none
read_line members (Ti.CooperativeMatrix c r k o) = none
read_line members (Ti.Atomic k) = none
read_line members (Ti.Pointer b p) = none
read_line members (Ti.ValuePointer z k p) = none
read_line members (Ti.Image d a c) = none
read_line members (Ti.Sampler q) = none
read_line members (Ti.AccelerationStructure q) = none
read_line members (Ti.RayQuery q) = none
read_line members (Ti.BindingArray b z) = none

-- THE COMPARISON of two answers ("Same type or not"): what it comes to, and whether they are the same type, by what a
-- file shows

-- the base of a type that was looked into, if it is a pointer
abbrev pub base_of : Option Form → List Thing
base_of (some x) = if_pointer x.inner (λ b s. form (number b) ∷ []) []
base_of none = []

-- an answer that is looked into, with the base of a pointer
abbrev pub with_base : Sight → TypeAnswer → List Thing
with_base sight a = form a ∷ base_of (sight (form a))

-- yes, where that is shown
abbrev pub says_yes : Option Bool → Bool
says_yes (some b) = b
says_yes none = false

-- whether either answer is the number of a struct
abbrev pub either_struct : Sight → TypeAnswer → TypeAnswer → Bool
either_struct sight a b = says_yes (sight (struct_number a)) || says_yes (sight (struct_number b))

-- identical answers need nothing; else it is asked whether either is the number of a struct; else both are looked into,
-- with the base of a pointer
abbrev pub comparison : Sight → TypeAnswer → TypeAnswer → List Thing
comparison sight a b =
    cond (identical a b) []
    (struct_number a ∷ struct_number b ∷ cond (either_struct sight a b) [] (with_base sight a ++ with_base sight b))

-- the canonical form of a pointer, by what its base shows
abbrev pub pointer_form : TypeInner → AddressSpace → Option Form → Option TypeInner
pointer_form t s (some base) = some (canonical t s base.inner)
pointer_form t s none = none

-- the canonical form of a type that was looked into; none where that, or a pointer's base, is of unknown kind
abbrev pub canonical_form : Sight → Option Form → Option TypeInner
canonical_form sight (some x) = if_pointer x.inner (λ b s. pointer_form x.inner s (sight (form (number b))))
    (some x.inner)
canonical_form sight none = none

-- two canonical forms are equal; an unknown one is equal to none, and no reading goes on from it
abbrev pub equal_forms : Option TypeInner → Option TypeInner → Bool
equal_forms (some u) (some v) = equal_types u v
equal_forms (some u) none = false
equal_forms none v = false

-- identical answers are the same type; else the number of a struct is not; else canonical forms are compared
abbrev pub are_same : Sight → TypeAnswer → TypeAnswer → Bool
are_same sight a b =
    identical a b || (not (either_struct sight a b)
    && equal_forms (canonical_form sight (sight (form a))) (canonical_form sight (sight (form b))))

-- A COMPONENT, by its answer: what is come to, and whether it is as asked

-- a column's type, and that of a part of a vector, is looked into, and never a pointer's base
abbrev pub comes_to : Sight → Against → TypeAnswer → List Thing
comes_to sight (part_of k) a = form a ∷ []
comes_to sight (column z k) a = form a ∷ []
comes_to sight (same_as t) a = comparison sight (number t) a

-- a scalar k, or a vector of it
abbrev pub is_part_of : Scalar → TypeInner → Bool
is_part_of k t = if_scalar t (λ j. equal_scalars j k) (if_vector t (λ z j. equal_scalars j k) false)

-- a type that was looked into passes a test
abbrev pub form_is : (TypeInner → Bool) → Option Form → Bool
form_is test (some x) = test x.inner
form_is test none = false

-- whether a component is as asked: number 32 if it is not
abbrev pub is_as_asked : Sight → Against → TypeAnswer → Bool
is_as_asked sight (part_of k) a = form_is (is_part_of k) (sight (form a))
is_as_asked sight (column z k) a = form_is (λ t. equal_types t (Ti.Vector z k)) (sight (form a))
is_as_asked sight (same_as t) a = are_same sight (number t) a

-- THE READING of a line, over the earlier readings and what a file shows

-- things come to in order, at one place; one that shows nothing is newer, and ends the reading
abbrev pub thing_steps : Sight → Place → List Thing → List Step → List Step
thing_steps sight p [] rest = rest
thing_steps sight p (c ∷ cs) rest = step p c ∷ unless_newer (sight c) (thing_steps sight p cs rest)

-- the components from component i on: the row with its own reading, all of it at this component; then what the
-- component comes to; one that is refused, or newer, or not as asked, ends the reading
unfoldable pub part_steps : Sight → Readings → (ℕ → Against) → ℕ → List RowNumber → List Step
part_steps sight earlier each i [] = []
part_steps sight earlier each i (n ∷ parts) =
    placed (λ p. component i) (earlier n).steps
    ++ unless_refused (earlier n).end (λ a.
    thing_steps sight (component i) (comes_to sight (each i) a)
    (cond (is_as_asked sight (each i) a) (part_steps sight earlier each (suc i) parts) []))

-- a count that differs ends the reading
abbrev pub if_counted : Option ℕ → ℕ → List Step → List Step
if_counted (some expected) given rest = cond (eqb expected given) rest []
if_counted none given rest = rest

-- a line: the count, then the components
abbrev pub line_steps : Sight → Readings → List RowNumber → Option ReadLine → List Step
line_steps sight earlier parts (some l) = if_counted l.counts (length parts)
    (part_steps sight earlier l.each 0 parts)
line_steps sight earlier parts none = []

-- a composed type that shows nothing is newer
abbrev pub form_steps : Sight → Readings → List RowNumber → Option Form → List Step
form_steps sight earlier parts (some x) = line_steps sight earlier parts (read_line x.members x.inner)
form_steps sight earlier parts none = []

-- the reading of the verdict on a compose of type t from these rows
abbrev pub verdict_reading : Sight → Readings → TypeNumber → List RowNumber → List Step
verdict_reading sight earlier t parts = step composed (form (number t)) ∷ form_steps sight earlier parts
    (sight (form (number t)))
