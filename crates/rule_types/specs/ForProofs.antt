-- Not part of any public statement: for proofs and code only. Canonical forms and the comparison in other words, for
-- the code and the laws.
use Rattle.answers.specs.declared.CompareError.TheVariants as Ce
use Rattle.std.specs.Prelude.{ℕ, Bool, true, false, cond, ◌||◌, List, ◌≡◌, Option as CodeOption, Some, None, Ok, Err}
use Rattle.std.proofs.Math.Option.{Option, none, some}
use Rattle.ir.specs.declared.TypeInner.{TypeInner}
use Rattle.ir.specs.declared.TypeInner.TheVariants as Ti
use Rattle.archive.specs.declared.Starts.{Starts}
use Rattle.archive.specs.Access.{type_in}
use Rattle.rule.specs.Answers.{TypeAnswer, Result, told, newer}
use Rattle.rule.specs.Things.{form_in, is_struct}
use Rattle.answers.specs.Asked.{Sameness}
use Rattle.rule_types.specs.declared.CanonicalForm.{CanonicalForm}
use Rattle.rule_types.specs.declared.CanonicalForm.TheVariants as Cf
use Rattle.rule_types.specs.Canonical.{if_pointer, canonical_form_in, equal_types, identical}

-- THE CANONICAL FORM OF AN ANSWER

-- a type that has no other canonical form is its own
abbrev pub or_self : TypeInner → CanonicalForm → CodeOption TypeInner
or_self t Cf.None = Some t
or_self t (Cf.Some u) = Some u
or_self t Cf.Newer = None

-- the canonical form of an answer, unknown where the type or a pointer's base is of unknown kind
abbrev pub canonical_through : List ℕ → Starts → CodeOption TypeInner → CodeOption TypeInner
canonical_through fr s (Some t) = or_self t (canonical_form_in fr s t)
canonical_through fr s None = None

abbrev pub canonical_of : List ℕ → Starts → TypeAnswer → CodeOption TypeInner
canonical_of fr s a = canonical_through fr s (form_in fr s a)

-- the source's is_atomic_pointer: whether a type is a pointer whose base is an atomic; none where a pointer's base is
-- of unknown kind, as in every look there
abbrev pub is_atomic : TypeInner → Bool
is_atomic (Ti.Scalar k) = false
is_atomic (Ti.Vector z k) = false
is_atomic (Ti.Matrix c r k) = false
is_atomic (Ti.CooperativeMatrix c r k o) = false
is_atomic (Ti.Atomic k) = true
is_atomic (Ti.Pointer b p) = false
is_atomic (Ti.ValuePointer z k p) = false
is_atomic (Ti.Array b z t) = false
is_atomic (Ti.Struct m n t) = false
is_atomic (Ti.Image d a c) = false
is_atomic (Ti.Sampler q) = false
is_atomic (Ti.AccelerationStructure q) = false
is_atomic (Ti.RayQuery q) = false
is_atomic (Ti.BindingArray b z) = false

abbrev pub is_atomic_form : CodeOption TypeInner → CodeOption Bool
is_atomic_form (Some t) = Some (is_atomic t)
is_atomic_form None = None

abbrev pub is_atomic_pointer : List ℕ → Starts → TypeInner → CodeOption Bool
is_atomic_pointer fr s t = if_pointer t (λ b p. is_atomic_form (type_in fr s b)) (Some false)

-- yes or no, without the tests for 5 and 6; none where it is newer
abbrev pub optional : Result Bool → CodeOption Bool
optional (told b) = Some b
optional (newer p) = None

-- THE COMPARISON IN OTHER WORDS: by two canonical forms, and what two answers give

-- yes or no by two canonical forms; none where one is unknown
abbrev pub by_forms : CodeOption TypeInner → CodeOption TypeInner → Option Bool
by_forms (Some u) (Some v) = some (equal_types u v)
by_forms (Some u) None = none
by_forms None v = none

abbrev pub found : Option Bool → CodeOption Bool
found (some b) = Some b
found none = None

-- yes and no, or newer, as the document numbers them
abbrev pub said_of : CodeOption Bool → Sameness
said_of (Some b) = cond b (Ok true) (Ok false)
said_of None = Err Ce.Newer

-- by whether the answers are identical, whether one is a struct's number, and their canonical forms
abbrev pub by_answers : Bool → Bool → CodeOption TypeInner → CodeOption TypeInner → Option Bool
by_answers true s u v = some true
by_answers false true u v = some false
by_answers false false u v = by_forms u v

abbrev pub likeness : List ℕ → Starts → TypeAnswer → TypeAnswer → Option Bool
likeness fr s a b = by_answers (identical a b) (is_struct fr s a || is_struct fr s b) (canonical_of fr s a)
    (canonical_of fr s b)

-- two answers of the same canonical form, neither of them a struct's number
pub record Equal (fr : List ℕ) (s : Starts) (a b : TypeAnswer) : Type 0 where
  pub shape : TypeInner
  pub unnamed : (is_struct fr s a || is_struct fr s b) ≡ false
  pub left : canonical_of fr s a ≡ Some shape
  pub right : canonical_of fr s b ≡ Some shape
