-- What a comparison looks into, in order, as a table over the shapes of its two answers; written from document 01,
-- "Same type or not", and not from the rule: identical answers, and the number of a struct, need no look. Else the left
-- is looked into, and its base if it is a pointer, then the right, and its base; the reading ends at the first kind
-- that is unknown. Nothing deeper than a pointer's base is looked into.
use Rattle.std.specs.Prelude.{ℕ, Bool, true, false, cond, List, [], ◌∷◌, ◌++◌, Option, Some, None}
use Rattle.ir.specs.declared.TypeNumber.{TypeNumber}
use Rattle.ir.specs.declared.TypeInner.{TypeInner}
use Rattle.ir.specs.declared.TypeInner.TheVariants as Ti
use Rattle.rule.specs.Answers.{TypeAnswer, number, value, malformed, nowhere}
use Rattle.archive.specs.Access.{type_at}
use Rattle.rule.specs.Things.{form, struct_number, fault}
use Rattle.rule.specs.Rule.{Step, step}
use Rattle.rule_types.specs.Canonical.{identical}

-- what an answer is to a comparison: a struct, of unknown kind, a pointer whose base's kind is known, one whose base's
-- kind is not, or another type
pub data Shape : Type 0 where
  struct unknown other : Shape
  pointer pointer_to_unknown : TypeNumber → Shape

abbrev pub pointer_shape : TypeNumber → Option TypeInner → Shape
pointer_shape b (Some t) = pointer b
pointer_shape b None = pointer_to_unknown b

abbrev pub inner_shape : List ℕ → TypeInner → Shape
inner_shape fr (Ti.Scalar k) = other
inner_shape fr (Ti.Vector z k) = other
inner_shape fr (Ti.Matrix c r k) = other
inner_shape fr (Ti.CooperativeMatrix c r k o) = other
inner_shape fr (Ti.Atomic k) = other
inner_shape fr (Ti.Pointer b p) = pointer_shape b (type_at fr b)
inner_shape fr (Ti.ValuePointer z k p) = other
inner_shape fr (Ti.Array b z t) = other
inner_shape fr (Ti.Struct m n t) = struct
inner_shape fr (Ti.Image d a c) = other
inner_shape fr (Ti.Sampler q) = other
inner_shape fr (Ti.AccelerationStructure q) = other
inner_shape fr (Ti.RayQuery q) = other
inner_shape fr (Ti.BindingArray b z) = other

abbrev pub form_shape : List ℕ → Option TypeInner → Shape
form_shape fr (Some t) = inner_shape fr t
form_shape fr None = unknown

abbrev pub shape_of : List ℕ → TypeAnswer → Shape
shape_of fr (number n) = form_shape fr (type_at fr n)
shape_of fr (value t) = inner_shape fr t
shape_of fr (malformed f) = unknown

-- THE TABLE: the types looked into, in order, for two answers that are not identical, by their shapes

abbrev pub looks : TypeAnswer → TypeAnswer → Shape → Shape → List TypeAnswer
looks a b struct struct = []
looks a b struct unknown = []
looks a b struct other = []
looks a b struct (pointer q) = []
looks a b struct (pointer_to_unknown q) = []
looks a b unknown struct = []
looks a b unknown unknown = a ∷ []
looks a b unknown other = a ∷ []
looks a b unknown (pointer q) = a ∷ []
looks a b unknown (pointer_to_unknown q) = a ∷ []
looks a b other struct = []
looks a b other unknown = a ∷ b ∷ []
looks a b other other = a ∷ b ∷ []
looks a b other (pointer q) = a ∷ b ∷ number q ∷ []
looks a b other (pointer_to_unknown q) = a ∷ b ∷ number q ∷ []
looks a b (pointer p) struct = []
looks a b (pointer p) unknown = a ∷ number p ∷ b ∷ []
looks a b (pointer p) other = a ∷ number p ∷ b ∷ []
looks a b (pointer p) (pointer q) = a ∷ number p ∷ b ∷ number q ∷ []
looks a b (pointer p) (pointer_to_unknown q) = a ∷ number p ∷ b ∷ number q ∷ []
looks a b (pointer_to_unknown p) struct = []
looks a b (pointer_to_unknown p) unknown = a ∷ number p ∷ []
looks a b (pointer_to_unknown p) other = a ∷ number p ∷ []
looks a b (pointer_to_unknown p) (pointer q) = a ∷ number p ∷ []
looks a b (pointer_to_unknown p) (pointer_to_unknown q) = a ∷ number p ∷ []

abbrev pub looked : List TypeAnswer → List Step
looked [] = []
looked (a ∷ l) = step nowhere (form a) ∷ looked l

-- THE READING of a comparison of two answers that get neither 5 nor 6: both are tested, then, unless identical, asked
-- whether they are a struct's number, then looked into by the table
abbrev pub comparison_reading : List ℕ → TypeAnswer → TypeAnswer → List Step
comparison_reading fr a b =
    step nowhere (fault a) ∷ step nowhere (fault b)
    ∷ cond (identical a b) []
    (step nowhere (struct_number a) ∷ step nowhere (struct_number b)
    ∷ looked (looks a b (shape_of fr a) (shape_of fr b)))
