-- The canonical form of a type: the source's canonical_form (document 01, "Same type or not"). A pointer to a scalar or
-- a vector is the value pointer of its base; every other type is its own. WGSL has no value pointers; the source
-- decides. And equality of types and answers, by their frames.
use Rattle.answers.specs.declared.TypeError.TheVariants as Te
use Rattle.ir.specs.declared.TypeResolution.{TypeResolution}
use Rattle.std.specs.Prelude.{ℕ, Bool, true, false, cond, ◌&&◌, List, [], ◌∷◌, eqb, Option as CodeOption, Some, None}
use Rattle.std.specs.Prelude.{Ok, Err}
use Rattle.std.proofs.Math.Option.{Option, none, some}
use Rattle.ir.specs.declared.TypeNumber.{TypeNumber}
use Rattle.ir.specs.declared.AddressSpace.{AddressSpace}
use Rattle.ir.specs.declared.TypeInner.{TypeInner}
use Rattle.ir.specs.declared.TypeInner.TheVariants as Ti
use Rattle.ir.specs.declared.TypeResolution.TheVariants as Tr
use Rattle.ir.specs.TypeMethods.{pointer_base}
use Rattle.answers.specs.Asked.{PointerBase}
use Rattle.answers.specs.Asked.{CanonicalType}
use Rattle.frames.specs.declared.Frame.{Frame}
use Rattle.frames.specs.Bytes.{bytes_of}
use Rattle.frames.specs.Out.{type_frame}
use Rattle.archive.specs.declared.Starts.{Starts}
use Rattle.archive.specs.Names.{is_type}
use Rattle.archive.specs.Access.{type_in}
use Rattle.rule.specs.Answers.{TypeAnswer, type_answer_frame}
use Rattle.rule_types.specs.declared.CanonicalForm.{CanonicalForm}
use Rattle.rule_types.specs.declared.CanonicalForm.TheVariants as Cf

-- of a pointer what is asked with its base and space, of every other type the rest
abbrev pub if_pointer : {X : Type 0} → TypeInner → (TypeNumber → AddressSpace → X) → X → X
if_pointer (Ti.Pointer b p) f rest = f b p
if_pointer (Ti.Scalar k) f rest = rest
if_pointer (Ti.Vector z k) f rest = rest
if_pointer (Ti.Matrix c r k) f rest = rest
if_pointer (Ti.CooperativeMatrix c r k o) f rest = rest
if_pointer (Ti.Atomic k) f rest = rest
if_pointer (Ti.ValuePointer z k p) f rest = rest
if_pointer (Ti.Array b z t) f rest = rest
if_pointer (Ti.Struct m n t) f rest = rest
if_pointer (Ti.Image d a c) f rest = rest
if_pointer (Ti.Sampler q) f rest = rest
if_pointer (Ti.AccelerationStructure q) f rest = rest
if_pointer (Ti.RayQuery q) f rest = rest
if_pointer (Ti.BindingArray b z) f rest = rest

-- THE CANONICAL FORM

-- the source's canonical_form of a pointer in a space, by what its base is: the value pointer where the base is a
-- scalar or a vector, else None
abbrev pub value_pointer : AddressSpace → TypeInner → Option TypeInner
value_pointer p (Ti.Scalar k) = some (Ti.ValuePointer None k p)
value_pointer p (Ti.Vector z k) = some (Ti.ValuePointer (Some z) k p)
value_pointer p (Ti.Matrix c r k) = none
value_pointer p (Ti.CooperativeMatrix c r k o) = none
value_pointer p (Ti.Atomic k) = none
value_pointer p (Ti.Pointer b q) = none
value_pointer p (Ti.ValuePointer z k q) = none
value_pointer p (Ti.Array b z t) = none
value_pointer p (Ti.Struct m n t) = none
value_pointer p (Ti.Image d a c) = none
value_pointer p (Ti.Sampler q) = none
value_pointer p (Ti.AccelerationStructure q) = none
value_pointer p (Ti.RayQuery q) = none
value_pointer p (Ti.BindingArray b z) = none

-- the canonical form of a pointer in a space, by its base: the value pointer, or the pointer itself
abbrev pub or_own : TypeInner → Option TypeInner → TypeInner
or_own t none = t
or_own t (some u) = u

abbrev pub canonical : TypeInner → AddressSpace → TypeInner → TypeInner
canonical t p base = or_own t (value_pointer p base)

-- the source's Option, and newer
abbrev pub form_found : Option TypeInner → CanonicalForm
form_found none = Cf.None
form_found (some u) = Cf.Some u

abbrev pub through_base : AddressSpace → CodeOption TypeInner → CanonicalForm
through_base p (Some b) = form_found (value_pointer p b)
through_base p None = Cf.Newer

-- the source's canonical_form, over frames and where their families begin; newer where a pointer's base is of unknown
-- kind
abbrev pub canonical_form_in : List ℕ → Starts → TypeInner → CanonicalForm
canonical_form_in fr s t = if_pointer t (λ b p. through_base p (type_in fr s b)) Cf.None

-- OF A TYPE'S NUMBER: 6 where there is no such type, newer where its kind is unknown

abbrev pub base_of_form : CodeOption TypeInner → PointerBase
base_of_form (Some t) = Ok (pointer_base t)
base_of_form None = Err Te.Newer

-- the base of type n: its number or a value, or that type n is no pointer
unfoldable pub pointer_base_in : List ℕ → Starts → TypeNumber → PointerBase
pointer_base_in fr s n = cond (is_type s n) (base_of_form (type_in fr s n)) (Err Te.Index)

-- the number itself where the source gives None
abbrev pub form_given : TypeNumber → CanonicalForm → CanonicalType
form_given n Cf.None = Ok (Tr.Handle n)
form_given n (Cf.Some u) = Ok (Tr.Value u)
form_given n Cf.Newer = Err Te.Newer

abbrev pub canonical_of_form : List ℕ → Starts → TypeNumber → CodeOption TypeInner → CanonicalType
canonical_of_form fr s n (Some t) = form_given n (canonical_form_in fr s t)
canonical_of_form fr s n None = Err Te.Newer

-- the canonical form of type n
unfoldable pub canonical_type_in : List ℕ → Starts → TypeNumber → CanonicalType
canonical_type_in fr s n = cond (is_type s n) (canonical_of_form fr s n (type_in fr s n)) (Err Te.Index)

-- EQUALITY, byte by byte of what is written

abbrev pub alike_bytes : List ℕ → List ℕ → Bool
alike_bytes [] [] = true
alike_bytes [] (y ∷ ys) = false
alike_bytes (x ∷ xs) [] = false
alike_bytes (x ∷ xs) (y ∷ ys) = eqb x y && alike_bytes xs ys

-- two types, by their frames as values; the same exactly when the types are equal: `equal-types` (proofs/Equality.antt)
unfoldable pub equal_types : TypeInner → TypeInner → Bool
equal_types s t = alike_bytes (bytes_of (type_frame 9 s)) (bytes_of (type_frame 9 t))

-- two answers, by their frames
unfoldable pub identical : TypeAnswer → TypeAnswer → Bool
identical a b = alike_bytes (bytes_of (type_answer_frame a)) (bytes_of (type_answer_frame b))
