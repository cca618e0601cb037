-- What lies in range of a file: types, answers and places, and the things that a reading comes to. Definitions alone,
-- with the numbers of refusals.
use Prim.Native.Nat.{ℕ, ◌≤◌, ◌<◌}
use native.Mathlib.Omega.{arith}
use mathlib.Core.Path.{◌≡◌}
use mathlib.Core.Bool.{Bool, true, false, ◌&&◌, ◌||◌}
use mathlib.Core.List.{List, [], ◌∷◌}
use mathlib.Core.Option.{Option, none, some}
use lib.Dec.{eqb, leb}
use Rattle.ir.specs.declared.TypeInner.{TypeInner}
use Rattle.ir.specs.declared.TypeInner.TheVariants as Ti
use Rattle.ir.specs.declared.RowNumber.{RowNumber}
use Rattle.answers.specs.Numbers.{refusal_values}
use Rattle.answers.specs.declared.Refusal.{Refusal}
use Rattle.archive.specs.declared.Starts.{Starts}
use Rattle.archive.specs.Starts.{starts_of}
use Rattle.archive.specs.Names.{is_type, is_row}
use Rattle.rule.specs.declared.Fault.TheVariants as Fa
use Rattle.rule.specs.Answers.{TypeAnswer, number, value, malformed, Typed, given, refused, chosen_refusal, Place, row}
use Rattle.rule.specs.Answers.{component, composed, nowhere, chosen, Result, told, newer}
use Rattle.rule.specs.Things.{Form, Thing, Seen, kind, form, texels, struct_number, fault, value_fault, see}
use Rattle.rule.specs.Rule.{Rule, done, come, past, Step, step}
use Rattle.rule_rows.specs.declared.Pass.{Pass}
use Rattle.rule_rows.specs.declared.Pass.TheVariants as Pa

-- ANSWERS

-- the values that rules make: scalars, vectors, matrices, cooperative matrices and pointers
abbrev pub is_made : TypeInner → Bool
is_made (Ti.Scalar k) = true
is_made (Ti.Vector z k) = true
is_made (Ti.Matrix c r k) = true
is_made (Ti.CooperativeMatrix c r k o) = true
is_made (Ti.Atomic k) = false
is_made (Ti.Pointer b p) = true
is_made (Ti.ValuePointer z k p) = true
is_made (Ti.Array b z t) = false
is_made (Ti.Struct m n t) = false
is_made (Ti.Image d a c) = false
is_made (Ti.Sampler q) = false
is_made (Ti.AccelerationStructure q) = false
is_made (Ti.RayQuery q) = false
is_made (Ti.BindingArray b z) = false

-- a type answer: the number of a type of the file, or a value that a rule makes and that a comparison gives neither 5
-- nor 6; so no struct is one
abbrev pub TypeInRange : Starts → TypeAnswer → Type 0
TypeInRange s (number t) = is_type s t ≡ true
TypeInRange s (value t) = (value_fault s t ≡ Fa.Sound) × (is_made t ≡ true)
TypeInRange s (malformed f) = ⊥

-- the numbers of refusals: 10 to 20, and in the second pass 41 too (document 02, request 3); 22 is newer, and no
-- refusal here
abbrev pub is_refusal : Pass → ℕ → Bool
is_refusal Pa.First n = leb 10 n && leb n 20
is_refusal Pa.Second n = (leb 10 n && leb n 20) || eqb n 41

pub record RefusalInRange (pass : Pass) (e : Refusal) : Type 0 where
  pub number_is : is_refusal pass (refusal_values e).number ≡ true

-- a row's answer other than newer: such a type, or one of these refusals
abbrev pub TypedInRange : Pass → Starts → Typed → Type 0
TypedInRange pass s (given a) = TypeInRange s a
TypedInRange pass s (refused e) = RefusalInRange pass e
TypedInRange pass s (chosen_refusal f) = ⊥

-- the place of a newer thing: row m or an earlier one
abbrev pub PlaceInRange : ℕ → Place → Type 0
PlaceInRange m (row r) = r.0 ≤ m
PlaceInRange m (component i) = ⊥
PlaceInRange m composed = ⊥
PlaceInRange m nowhere = ⊥
PlaceInRange m (chosen f) = ⊥

-- an answer of row m
abbrev pub InRange : Pass → List ℕ → ℕ → Result Typed → Type 0
InRange pass fr m (told t) = TypedInRange pass (starts_of fr) t
InRange pass fr m (newer p) = PlaceInRange m p

-- READINGS

-- a thing that the reading of a row comes to is there: a row of the file, a type in range, or the class of an image
abbrev pub There : List ℕ → Thing → Type 0
There fr (kind r) = is_row (starts_of fr) r ≡ true
There fr (form a) = TypeInRange (starts_of fr) a
There fr (texels c) = Unit {0}
There fr (struct_number a) = ⊥
There fr (fault a) = ⊥

-- a step of the reading of row m: to a thing that is there, at row m or an earlier one
abbrev pub StepInRange : List ℕ → ℕ → Step → Type 0
StepInRange fr m (step p c) = PlaceInRange m p × There fr c

-- every item of a list, and an item that may be missing
abbrev pub Each : {A : Type 0} → (A → Type 0) → List A → Type 0
Each P [] = Unit {0}
Each P (x ∷ l) = P x × Each P l

abbrev pub IfSome : {A : Type 0} → (A → Type 0) → Option A → Type 0
IfSome P none = Unit {0}
IfSome P (some x) = P x

-- FORMS

-- the base of a pointer or an array is a type of the file
abbrev pub BaseInRange : Starts → TypeInner → Type 0
BaseInRange s (Ti.Scalar k) = Unit {0}
BaseInRange s (Ti.Vector z k) = Unit {0}
BaseInRange s (Ti.Matrix c r k) = Unit {0}
BaseInRange s (Ti.CooperativeMatrix c r k o) = Unit {0}
BaseInRange s (Ti.Atomic k) = Unit {0}
BaseInRange s (Ti.Pointer b p) = is_type s b ≡ true
BaseInRange s (Ti.ValuePointer z k p) = Unit {0}
BaseInRange s (Ti.Array b z t) = is_type s b ≡ true
BaseInRange s (Ti.Struct m n t) = Unit {0}
BaseInRange s (Ti.Image d a c) = Unit {0}
BaseInRange s (Ti.Sampler q) = Unit {0}
BaseInRange s (Ti.AccelerationStructure q) = Unit {0}
BaseInRange s (Ti.RayQuery q) = Unit {0}
BaseInRange s (Ti.BindingArray b z) = is_type s b ≡ true

-- what a type that is looked into shows: its base and its members' types are types of the file
pub record FormInRange (s : Starts) (x : Form) : Type 0 where
  pub base : BaseInRange s x.inner
  pub members : Each (λ t. is_type s t ≡ true) x.members

-- RULES

-- a rule of row m, along what it sees in a file: it ends in range, comes to things that are there, at row m or an
-- earlier one, and reads earlier rows only, whose newer things keep their places; over answers of theirs that are in
-- range
pub data Within (pass : Pass) (fr : List ℕ) (m : ℕ) : Rule Typed → Type 0 where
  ends : {t : Typed} → TypedInRange pass (starts_of fr) t → Within pass fr m (done t)
  comes : (p : Place) (c : Thing) {k : Seen c → Rule Typed} → PlaceInRange m p → There fr c
      → ((s : Seen c) → see fr c ≡ some s → Within pass fr m (k s))
      → Within pass fr m (come p c k)
  reads : {n : RowNumber} {k : Typed → Rule Typed} → n.0 < m
      → ((t : Typed) → TypedInRange pass (starts_of fr) t → Within pass fr m (k t))
      → Within pass fr m (past n (λ p. p) k)

-- a refusal with a number of the first pass is one of either
pub refusal-number : (pass : Pass) (e : Refusal) → is_refusal Pa.First (refusal_values e).number ≡ true
    → RefusalInRange pass e
refusal-number pass e h = record { number_is = go pass }
  where
    go : (p : Pass) → is_refusal p (refusal_values e).number ≡ true
    go Pa.First = h
    go Pa.Second = rw h

-- and none has number 22
pub refusal-not-newer : (pass : Pass) (e : Refusal) → RefusalInRange pass e → (refusal_values e).number ≡ 22 → ⊥
refusal-not-newer pass e h q = go pass (rw q at h.number_is)
  where
    go : (p : Pass) → is_refusal p 22 ≡ true → ⊥
    go Pa.First x = let z : ◌≡◌ {A = ℕ} 0 1 = cc in omega arith
    go Pa.Second x = let z : ◌≡◌ {A = ℕ} 0 1 = cc in omega arith
