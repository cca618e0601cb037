-- What each row reads and what it looks into, in order, as a table; written from document 01, "A row's type", and not
-- from the rules: the row's own kind, then the operands that it reads, with their own readings, then the types that it
-- looks at; the reading ends at the first refusal or newer thing.
use Rattle.std.specs.Prelude.{ℕ, Bool, true, false, List, [], ◌∷◌, ◌++◌}
use Rattle.std.proofs.Math.Option.{Option, none, some}
use Rattle.std.proofs.Math.ListN.{get_elem?}
use Rattle.ir.specs.declared.RowNumber.{RowNumber}
use Rattle.ir.specs.declared.ImageQuery.{ImageQuery}
use Rattle.ir.specs.declared.ImageQuery.TheVariants as Iq
use Rattle.ir.specs.declared.BinaryOperator.{BinaryOperator}
use Rattle.ir.specs.declared.BinaryOperator.TheVariants as Bo
use Rattle.ir.specs.declared.RelationalFunction.{RelationalFunction}
use Rattle.ir.specs.declared.RelationalFunction.TheVariants as Rf
use Rattle.rule.specs.Answers.{TypeAnswer, number, Typed, given, refused, chosen_refusal, Place, row}
use Rattle.rule.specs.Things.{Shown, Form, Thing, kind, form, texels, Sight}
use Rattle.rule.specs.Things as Row
use Rattle.rule.specs.Rule.{Step, step, Readings}
use Rattle.rule_types.specs.Canonical.{if_pointer}
use Rattle.rule_rows.specs.declared.Pass.{Pass}
use Rattle.rule_rows.specs.declared.Pass.TheVariants as Pa
use Rattle.rule_rows.specs.Selectors.{if_image}

-- what is looked into: the type of an operand, by its place among those read; that type's base, if it is a Pointer;
-- that type's class, if it is an Image
pub data Look : Type 0 where
  type base class : ℕ → Look

-- a line of the table: the operands read, in order; then what is looked into, in order
pub record Reads : Type 0 where
  pub operands : List RowNumber
  pub looks : List Look

-- no operand
abbrev nothing : Reads
nothing = record { operands = []; looks = [] }

-- one operand: its answer alone; its type looked into; that and a pointer's base; that and an image's class
abbrev answer : RowNumber → Reads
answer n = record { operands = n ∷ []; looks = [] }

abbrev into : RowNumber → Reads
into n = record { operands = n ∷ []; looks = type 0 ∷ [] }

abbrev into_base : RowNumber → Reads
into_base n = record { operands = n ∷ []; looks = type 0 ∷ base 0 ∷ [] }

abbrev into_class : RowNumber → Reads
into_class n = record { operands = n ∷ []; looks = type 0 ∷ class 0 ∷ [] }

-- left, then right, then into both
abbrev into_both : RowNumber → RowNumber → Reads
into_both l r = record { operands = l ∷ r ∷ []; looks = type 0 ∷ type 1 ∷ [] }

-- THE TABLE

-- a sample without gather, and a load, come to the class too
abbrev pub sample_reads : RowNumber → Bool → Reads
sample_reads n true = into n
sample_reads n false = into_class n

-- the three queries of numbers read nothing
abbrev pub query_reads : RowNumber → ImageQuery → Reads
query_reads n Iq.Size = into n
query_reads n Iq.NumLevels = nothing
query_reads n Iq.NumLayers = nothing
query_reads n Iq.NumSamples = nothing

-- Multiply reads left, then right; the other operators left only. Comparisons and logical operators look into its type;
-- arithmetic, bits and shifts do not.
abbrev pub binary_reads : BinaryOperator → RowNumber → RowNumber → Reads
binary_reads Bo.Add l r = answer l
binary_reads Bo.Subtract l r = answer l
binary_reads Bo.Multiply l r = into_both l r
binary_reads Bo.Divide l r = answer l
binary_reads Bo.Modulo l r = answer l
binary_reads Bo.Equal l r = into l
binary_reads Bo.NotEqual l r = into l
binary_reads Bo.Less l r = into l
binary_reads Bo.LessEqual l r = into l
binary_reads Bo.Greater l r = into l
binary_reads Bo.GreaterEqual l r = into l
binary_reads Bo.And l r = answer l
binary_reads Bo.ExclusiveOr l r = answer l
binary_reads Bo.InclusiveOr l r = answer l
binary_reads Bo.LogicalAnd l r = into l
binary_reads Bo.LogicalOr l r = into l
binary_reads Bo.ShiftLeft l r = answer l
binary_reads Bo.ShiftRight l r = answer l

-- by the pass: in the second every operator reads left, then right, and looks into both (document 02, request 3)
abbrev pub binary_reads_by : Pass → BinaryOperator → RowNumber → RowNumber → Reads
binary_reads_by Pa.First op l r = binary_reads op l r
binary_reads_by Pa.Second op l r = into_both l r

-- All and Any read nothing
abbrev pub relational_reads : RelationalFunction → RowNumber → Reads
relational_reads Rf.All n = nothing
relational_reads Rf.Any n = nothing
relational_reads Rf.IsNan n = into n
relational_reads Rf.IsInf n = into n

-- rows of kinds 1 to 34 but 22, Math, which shows nothing
abbrev pub reads : Pass → Shown → Reads
reads pass (Row.literal l) = nothing
reads pass (Row.constant t) = nothing
reads pass (Row.override t) = nothing
reads pass (Row.zero_value t) = nothing
reads pass (Row.compose t parts) = nothing
reads pass (Row.access n) = into_base n
reads pass (Row.access_index n i) = into_base n
reads pass (Row.splat z n) = into n
reads pass (Row.swizzle z n) = into n
reads pass (Row.function_argument i t) = nothing
reads pass (Row.global_variable t s) = nothing
reads pass (Row.local_variable t) = nothing
reads pass (Row.load n) = into_base n
reads pass (Row.image_sample n gather) = sample_reads n gather
reads pass (Row.image_load n) = into_class n
reads pass (Row.image_query n query) = query_reads n query
reads pass (Row.unary n) = answer n
reads pass (Row.binary op l r) = binary_reads_by pass op l r
reads pass (Row.select n) = answer n
reads pass (Row.derivative n) = answer n
reads pass (Row.relational fun n) = relational_reads fun n
reads pass (Row.cast n k w) = into n
reads pass (Row.call_result t) = nothing
reads pass (Row.atomic_result t) = nothing
reads pass (Row.work_group_uniform_load_result t) = nothing
reads pass Row.array_length = nothing
reads pass (Row.ray_query_vertex_positions t) = nothing
reads pass Row.ray_query_proceed_result = nothing
reads pass (Row.ray_query_get_intersection t) = nothing
reads pass Row.subgroup_ballot_result = nothing
reads pass (Row.subgroup_operation_result t) = nothing
reads pass (Row.cooperative_load c r o n) = into_base n
reads pass (Row.cooperative_multiply_add n) = answer n

-- THE READING of a line, over the earlier readings and what a file shows

-- an operand that is refused, or whose reading met a newer thing, ends the reading
abbrev pub unless_refused : Option Typed → (TypeAnswer → List Step) → List Step
unless_refused (some (given a)) rest = rest a
unless_refused (some (refused e)) rest = []
unless_refused (some (chosen_refusal f)) rest = []
unless_refused none rest = []

-- the operands in order, each with its own reading; the rest goes on with their types
abbrev pub operand_steps : Readings → List RowNumber → (List TypeAnswer → List Step) → List Step
operand_steps earlier [] rest = rest []
operand_steps earlier (n ∷ ns) rest = (earlier n).steps
    ++ unless_refused (earlier n).end (λ a. operand_steps earlier ns (λ ts. rest (a ∷ ts)))

-- a thing that shows nothing is newer, and ends the reading
abbrev pub unless_newer : {X : Type 0} → Option X → List Step → List Step
unless_newer (some x) rest = rest
unless_newer none rest = []

-- a type that is looked into
abbrev pub form_thing : Option TypeAnswer → Option Thing
form_thing (some a) = some (form a)
form_thing none = none

-- what a type that was looked into showed
abbrev pub form_at : Sight → Option TypeAnswer → Option Form
form_at sight (some a) = sight (form a)
form_at sight none = none

-- the base of a Pointer, the class of an Image; of every other type nothing is come to
abbrev pub base_thing : Option Form → Option Thing
base_thing (some x) = if_pointer x.inner (λ b s. some (form (number b))) none
base_thing none = none

abbrev pub class_thing : Option Form → Option Thing
class_thing (some x) = if_image x.inner (λ d c. some (texels c)) none
class_thing none = none

-- the thing that a look comes to
abbrev pub comes_to : Sight → List TypeAnswer → Look → Option Thing
comes_to sight ts (type i) = form_thing (get_elem? ts i)
comes_to sight ts (base i) = base_thing (form_at sight (get_elem? ts i))
comes_to sight ts (class i) = class_thing (form_at sight (get_elem? ts i))

-- a step to a thing, where there is one
abbrev pub step_to : Sight → Place → Option Thing → List Step → List Step
step_to sight p (some c) rest = step p c ∷ unless_newer (sight c) rest
step_to sight p none rest = rest

-- the looks in order, at the place of the row that looks
abbrev pub look_steps : Sight → Place → List TypeAnswer → List Look → List Step
look_steps sight p ts [] = []
look_steps sight p ts (l ∷ ls) = step_to sight p (comes_to sight ts l) (look_steps sight p ts ls)

-- a line of the table: the operands, then the looks
abbrev pub line_steps : Sight → Readings → RowNumber → Reads → List Step
line_steps sight earlier here r = operand_steps earlier r.operands (λ ts. look_steps sight (row here) ts r.looks)

-- a row that shows nothing is newer, and its reading ends with its kind
abbrev pub shown_steps : Pass → Sight → Readings → RowNumber → Option Shown → List Step
shown_steps pass sight earlier here (some s) = line_steps sight earlier here (reads pass s)
shown_steps pass sight earlier here none = []

-- the reading of the row `here`: its own kind, then its line of the table
abbrev pub row_reading : Pass → Sight → Readings → RowNumber → List Step
row_reading pass sight earlier here = step (row here) (kind here) ∷ shown_steps pass sight earlier here
    (sight (kind here))
