-- The reading of a comparison is the table's (specs/Looks.antt): side by side, by the shape of each answer.
use Rattle.std.specs.Prelude.{Option as CodeOption, Some, None}
use Prim.Native.Nat.{ℕ}
use mathlib.Core.Path.{◌≡◌, refl, sym, ap, ◌∙◌}
use mathlib.Core.Bool.{Bool, true, false, cond, ◌||◌}
use mathlib.Core.List.{List, [], ◌∷◌, ◌++◌}
use mathlib.Core.Option.{Option, none, some}
use Rattle.ir.specs.declared.TypeNumber.{TypeNumber}
use Rattle.ir.specs.declared.AddressSpace.{AddressSpace}
use Rattle.ir.specs.declared.TypeInner.{TypeInner}
use Rattle.ir.specs.declared.TypeInner.TheVariants as Ti
use Rattle.archive.specs.Starts.{starts_of}
use Rattle.rule.specs.Answers.{TypeAnswer, number, value, malformed, nowhere, Compared}
use Rattle.archive.specs.Access.{type_at}
use Rattle.rule.specs.declared.Fault.{Fault}
use Rattle.rule.specs.declared.Fault.TheVariants as Fa
use Rattle.rule.specs.Things.{form, struct_number, fault, fault_of, value_fault, see, is_struct_form, is_struct}
use Rattle.rule.specs.Rule.{Rule, come, Step, step, Readings, Reading, follow}
use Rattle.rule_types.specs.Canonical.{canonical, equal_types, identical}
use Rattle.rule_types.specs.Comparison.{in_form, in_forms, by_struct, by_identical, answered, handed}
use Rattle.rule_types.specs.Looks.{Shape, struct, unknown, other, pointer, pointer_to_unknown, pointer_shape}
use Rattle.rule_types.specs.Looks.{inner_shape, form_shape, shape_of, looks, looked, comparison_reading}
use Rattle.rule_types.proofs.Seen.{never, neither}

-- the base that a shape has, looked into
abbrev bases : Shape → List TypeAnswer
bases struct = []
bases unknown = []
bases other = []
bases (pointer p) = number p ∷ []
bases (pointer_to_unknown p) = number p ∷ []

-- whether a reading ends at a shape
abbrev ends : Shape → Bool
ends struct = false
ends unknown = true
ends other = false
ends (pointer p) = false
ends (pointer_to_unknown p) = true

-- the base is looked into, and the rest read unless the reading ends
abbrev side : Shape → List Step → List Step
side s rest = looked (bases s) ++ cond (ends s) [] rest

abbrev is_struct_shape : Shape → Bool
is_struct_shape struct = true
is_struct_shape unknown = false
is_struct_shape other = false
is_struct_shape (pointer p) = false
is_struct_shape (pointer_to_unknown p) = false

pointer-struct : (b : TypeNumber) (f : CodeOption TypeInner) → false ≡ is_struct_shape (pointer_shape b f)
pointer-struct b (Some t) = refl
pointer-struct b None = refl

module _ (fr : List ℕ) (rd : Readings) where
  abbrev steps : Rule Compared → List Step
  steps r = (follow (see fr) rd r).steps

  base-steps : (k : TypeInner → Rule Compared) (rest : List Step) → ((u : TypeInner) → steps (k u) ≡ rest)
      → (t : TypeInner) (s : AddressSpace) (b : TypeNumber) (f : CodeOption TypeInner) → type_at fr b ≡ f
      → steps (come nowhere (form (number b)) (λ x. k (canonical t s x.inner))) ≡ side (pointer_shape b f) rest
  base-steps k rest h t s b (Some u) q =
      rw (q, steps, follow) (ap (λ (l : List Step). step nowhere (form (number b)) ∷ l) (h (canonical t s u)))
  base-steps k rest h t s b None q = rw (q, steps, follow)

  inner-steps : (k : TypeInner → Rule Compared) (rest : List Step) → ((u : TypeInner) → steps (k u) ≡ rest)
      → (t : TypeInner)
      → steps (in_form nowhere k t) ≡ side (inner_shape fr t) rest
  inner-steps k rest h (Ti.Pointer b s) = base-steps k rest h (Ti.Pointer b s) s b (type_at fr b) refl
  inner-steps k rest h (Ti.Scalar x0) = h (Ti.Scalar x0)
  inner-steps k rest h (Ti.Vector x0 x1) = h (Ti.Vector x0 x1)
  inner-steps k rest h (Ti.Matrix x0 x1 x2) = h (Ti.Matrix x0 x1 x2)
  inner-steps k rest h (Ti.CooperativeMatrix x0 x1 x2 x3) = h (Ti.CooperativeMatrix x0 x1 x2 x3)
  inner-steps k rest h (Ti.Atomic x0) = h (Ti.Atomic x0)
  inner-steps k rest h (Ti.ValuePointer x0 x1 x2) = h (Ti.ValuePointer x0 x1 x2)
  inner-steps k rest h (Ti.Array x0 x1 x2) = h (Ti.Array x0 x1 x2)
  inner-steps k rest h (Ti.Struct x0 x1 x2) = h (Ti.Struct x0 x1 x2)
  inner-steps k rest h (Ti.Image x0 x1 x2) = h (Ti.Image x0 x1 x2)
  inner-steps k rest h (Ti.Sampler x0) = h (Ti.Sampler x0)
  inner-steps k rest h (Ti.AccelerationStructure x0) = h (Ti.AccelerationStructure x0)
  inner-steps k rest h (Ti.RayQuery x0) = h (Ti.RayQuery x0)
  inner-steps k rest h (Ti.BindingArray x0 x1) = h (Ti.BindingArray x0 x1)

  abbrev look : (TypeInner → Rule Compared) → TypeAnswer → Rule Compared
  look k a = come nowhere (form a) (λ x. in_form nowhere k x.inner)

  number-steps : (k : TypeInner → Rule Compared) (rest : List Step) → ((u : TypeInner) → steps (k u) ≡ rest)
      → (n : TypeNumber) (f : CodeOption TypeInner) → type_at fr n ≡ f
      → steps (look k (number n)) ≡ step nowhere (form (number n)) ∷ side (form_shape fr f) rest
  number-steps k rest h n (Some t) q =
      rw (q, steps, follow) (ap (λ (l : List Step). step nowhere (form (number n)) ∷ l) (inner-steps k rest h t))
  number-steps k rest h n None q = rw (q, steps, follow)

  look-steps : (k : TypeInner → Rule Compared) (rest : List Step) → ((u : TypeInner) → steps (k u) ≡ rest)
      → (a : TypeAnswer)
      → fault_of (starts_of fr) a ≡ Fa.Sound
      → steps (look k a) ≡ step nowhere (form a) ∷ side (shape_of fr a) rest
  look-steps k rest h (number n) p = number-steps k rest h n (type_at fr n) refl
  look-steps k rest h (value t) p =
      rw (p, steps, follow) (ap (λ (l : List Step). step nowhere (form (value t)) ∷ l) (inner-steps k rest h t))
  look-steps k rest h (malformed f) p = refl

  answered-steps : (b : Bool) → steps (answered b) ≡ []
  answered-steps true = refl
  answered-steps false = refl

  forms-steps : (a b : TypeAnswer) → fault_of (starts_of fr) a ≡ Fa.Sound → fault_of (starts_of fr) b ≡ Fa.Sound
      → steps (in_forms nowhere a b answered)
      ≡ step nowhere (form a) ∷ side (shape_of fr a) (step nowhere (form b) ∷ side (shape_of fr b) [])
  forms-steps a b p q =
      look-steps (λ u. look (λ v. answered (equal_types u v)) b) _
      (λ u. look-steps (λ v. answered (equal_types u v)) [] (λ v. answered-steps (equal_types u v)) b q) a p

  -- the two sides together are the table's line
  line : (a b : TypeAnswer) (s t : Shape) → is_struct_shape s ≡ false → is_struct_shape t ≡ false
      → step nowhere (form a) ∷ side s (step nowhere (form b) ∷ side t []) ≡ looked (looks a b s t)
  line a b struct t p q = never (cc)
  line a b unknown struct p q = never (cc)
  line a b unknown unknown p q = refl
  line a b unknown other p q = refl
  line a b unknown (pointer y) p q = refl
  line a b unknown (pointer_to_unknown y) p q = refl
  line a b other struct p q = never (cc)
  line a b other unknown p q = refl
  line a b other other p q = refl
  line a b other (pointer y) p q = refl
  line a b other (pointer_to_unknown y) p q = refl
  line a b (pointer x) struct p q = never (cc)
  line a b (pointer x) unknown p q = refl
  line a b (pointer x) other p q = refl
  line a b (pointer x) (pointer y) p q = refl
  line a b (pointer x) (pointer_to_unknown y) p q = refl
  line a b (pointer_to_unknown x) struct p q = never (cc)
  line a b (pointer_to_unknown x) unknown p q = refl
  line a b (pointer_to_unknown x) other p q = refl
  line a b (pointer_to_unknown x) (pointer y) p q = refl
  line a b (pointer_to_unknown x) (pointer_to_unknown y) p q = refl

  no_line : (a b : TypeAnswer) (s t : Shape) → (is_struct_shape s || is_struct_shape t) ≡ true
      → looked (looks a b s t) ≡ []
  no_line a b struct struct e = refl
  no_line a b struct unknown e = refl
  no_line a b struct other e = refl
  no_line a b struct (pointer y) e = refl
  no_line a b struct (pointer_to_unknown y) e = refl
  no_line a b unknown struct e = refl
  no_line a b unknown unknown e = never (cc)
  no_line a b unknown other e = never (cc)
  no_line a b unknown (pointer y) e = never (cc)
  no_line a b unknown (pointer_to_unknown y) e = never (cc)
  no_line a b other struct e = refl
  no_line a b other unknown e = never (cc)
  no_line a b other other e = never (cc)
  no_line a b other (pointer y) e = never (cc)
  no_line a b other (pointer_to_unknown y) e = never (cc)
  no_line a b (pointer x) struct e = refl
  no_line a b (pointer x) unknown e = never (cc)
  no_line a b (pointer x) other e = never (cc)
  no_line a b (pointer x) (pointer y) e = never (cc)
  no_line a b (pointer x) (pointer_to_unknown y) e = never (cc)
  no_line a b (pointer_to_unknown x) struct e = refl
  no_line a b (pointer_to_unknown x) unknown e = never (cc)
  no_line a b (pointer_to_unknown x) other e = never (cc)
  no_line a b (pointer_to_unknown x) (pointer y) e = never (cc)
  no_line a b (pointer_to_unknown x) (pointer_to_unknown y) e = never (cc)

  -- a struct's number has the shape of a struct, and no other sound answer has it
  form-struct : (f : CodeOption TypeInner) → is_struct_form f ≡ is_struct_shape (form_shape fr f)
  form-struct None = refl
  form-struct (Some (Ti.Pointer b s)) = pointer-struct b (type_at fr b)
  form-struct (Some (Ti.Scalar x0)) = refl
  form-struct (Some (Ti.Vector x0 x1)) = refl
  form-struct (Some (Ti.Matrix x0 x1 x2)) = refl
  form-struct (Some (Ti.CooperativeMatrix x0 x1 x2 x3)) = refl
  form-struct (Some (Ti.Atomic x0)) = refl
  form-struct (Some (Ti.ValuePointer x0 x1 x2)) = refl
  form-struct (Some (Ti.Array x0 x1 x2)) = refl
  form-struct (Some (Ti.Struct x0 x1 x2)) = refl
  form-struct (Some (Ti.Image x0 x1 x2)) = refl
  form-struct (Some (Ti.Sampler x0)) = refl
  form-struct (Some (Ti.AccelerationStructure x0)) = refl
  form-struct (Some (Ti.RayQuery x0)) = refl
  form-struct (Some (Ti.BindingArray x0 x1)) = refl

  value-struct : (t : TypeInner) (v : Fault) → value_fault (starts_of fr) t ≡ v → v ≡ Fa.Sound
      → is_struct_shape (inner_shape fr t) ≡ false
  value-struct (Ti.Struct x0 x1 x2) v q e = never (cc)
  value-struct (Ti.Pointer b s) v q e = sym (pointer-struct b (type_at fr b))
  value-struct (Ti.Scalar x0) v q e = refl
  value-struct (Ti.Vector x0 x1) v q e = refl
  value-struct (Ti.Matrix x0 x1 x2) v q e = refl
  value-struct (Ti.CooperativeMatrix x0 x1 x2 x3) v q e = refl
  value-struct (Ti.Atomic x0) v q e = refl
  value-struct (Ti.ValuePointer x0 x1 x2) v q e = refl
  value-struct (Ti.Array x0 x1 x2) v q e = refl
  value-struct (Ti.Image x0 x1 x2) v q e = refl
  value-struct (Ti.Sampler x0) v q e = refl
  value-struct (Ti.AccelerationStructure x0) v q e = refl
  value-struct (Ti.RayQuery x0) v q e = refl
  value-struct (Ti.BindingArray x0 x1) v q e = refl

  struct_shape : (a : TypeAnswer) → fault_of (starts_of fr) a ≡ Fa.Sound → is_struct fr (starts_of fr) a
      ≡ is_struct_shape (shape_of fr a)
  struct_shape (number n) p = form-struct (type_at fr n)
  struct_shape (value t) p = sym (value-struct t _ p refl)
  struct_shape (malformed f) p = refl

  -- of two sound answers
  module _ (a b : TypeAnswer) (p : fault_of (starts_of fr) a ≡ Fa.Sound)
      (q : fault_of (starts_of fr) b ≡ Fa.Sound) where
    struct-steps : (s : Bool) → (is_struct_shape (shape_of fr a) || is_struct_shape (shape_of fr b)) ≡ s
        → steps (by_struct nowhere a b answered s) ≡ looked (looks a b (shape_of fr a) (shape_of fr b))
    struct-steps true e = sym (no_line a b (shape_of fr a) (shape_of fr b) e)
    struct-steps false e =
        let h = neither (is_struct_shape (shape_of fr a)) (is_struct_shape (shape_of fr b)) e in
        forms-steps a b p q ∙ line a b (shape_of fr a) (shape_of fr b) h.0 h.1

    identical-steps : (i : Bool)
        → steps (by_identical nowhere a b answered i)
        ≡ cond i [] (step nowhere (struct_number a) ∷ step nowhere (struct_number b) ∷ looked
        (looks a b (shape_of fr a) (shape_of fr b)))
    identical-steps true = refl
    identical-steps false =
        ap (λ (l : List Step). step nowhere (struct_number a) ∷ step nowhere (struct_number b) ∷ l)
        (struct-steps (is_struct fr (starts_of fr) a || is_struct fr (starts_of fr) b)
        (rw (struct_shape a p, struct_shape b q)))

    -- THE READING of a comparison is the table's
    pub looks-are : (follow (see fr) rd (handed a b)).steps ≡ comparison_reading fr a b
    looks-are =
        rw (p, q, follow) (ap (λ (l : List Step). step nowhere (fault a) ∷ step nowhere (fault b) ∷ l)
        (identical-steps (identical a b)))
