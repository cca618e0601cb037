-- A row's own kind among the steps of a reading: where it stands in one of two parts, and that it never stands among
-- what is looked into, which is no row's kind.
use Prim.Native.Nat.{ℕ, ◌<◌}
use native.Mathlib.Omega.{arith}
use mathlib.Core.Path.{◌≡◌, refl}
use mathlib.Core.Logic.{◌⊎◌, inl, inr, ⊎_elim}
use mathlib.Core.List.{List, [], ◌∷◌, ◌++◌}
use mathlib.Core.Option.{Option, none, some}
use lib.ListN.{length, get_elem?}
use Rattle.ir.specs.declared.RowNumber.{RowNumber}
use Rattle.ir.specs.declared.TypeInner.{TypeInner}
use Rattle.ir.specs.declared.TypeInner.TheVariants as Ti
use Rattle.rule.specs.Answers.{TypeAnswer, number, Place}
use Rattle.rule.specs.Things.{Form, Thing, Sight, kind, form, texels, struct_number, fault}
use Rattle.rule.specs.Rule.{Step, step}
use Rattle.rule_types.specs.Canonical.{if_pointer}
use Rattle.rule_rows.specs.Selectors.{if_image}
use Rattle.law_rows.specs.Reads.{Look, type, base, class, unless_newer, form_thing, form_at, base_thing, class_thing}
use Rattle.law_rows.specs.Reads.{comes_to, step_to, look_steps}
use Rattle.law_cut.specs.Marks.{Stands, here, later}
use Rattle.law_cut.specs.Smallest.{In}

-- STEPS

pub stands-in : {k : RowNumber} (l m : List Step) → Stands k (l ++ m) → Stands k l ⊎ Stands k m
stands-in [] m h = inr h
stands-in (step p (kind n) ∷ l) m here = inl here
stands-in (x ∷ l) m (later h) = ⊎_elim (λ y. inl (later y)) inr (stands-in l m h)

pub stands-left : {k : RowNumber} (l m : List Step) → Stands k l → Stands k (l ++ m)
stands-left {k = k} [] m x = elim x [ ]
stands-left (step p (kind n) ∷ l) m here = here
stands-left (x ∷ l) m (later h) = later (stands-left l m h)

pub stands-right : {k : RowNumber} (l m : List Step) → Stands k m → Stands k (l ++ m)
stands-right [] m h = h
stands-right (x ∷ l) m h = later (stands-right l m h)

-- the first step is a row's kind: it is that row, or stands after it
pub at_first : (k n : RowNumber) (p : Place) (l : List Step) → Stands k (step p (kind n) ∷ l) → (k ≡ n) ⊎ Stands k l
at_first k n p l here = inl refl
at_first k n p l (later h) = inr h

length-stands : {k : RowNumber} (l : List Step) → Stands k l → 0 < length l
length-stands {k = k} [] h = elim h [ ]
length-stands (x ∷ l) h = omega arith

pub none-stands : {k : RowNumber} {P : Type 0} → Stands k [] → P
none-stands h = let l = length-stands [] h in absurd (omega arith)

in-length : {j : ℕ} (l : List ℕ) → In j l → 0 < length l
in-length {j = j} [] h = elim h [ ]
in-length (i ∷ l) h = omega arith

pub none_in : {j : ℕ} {P : Type 0} → In j [] → P
none_in z = let l = in-length [] z in absurd (omega arith)

-- WHAT IS LOOKED INTO is no row's kind

abbrev NoKind : Option Thing → Type 0
NoKind none = Unit {0}
NoKind (some (kind n)) = ⊥
NoKind (some (form a)) = Unit {0}
NoKind (some (texels c)) = Unit {0}
NoKind (some (struct_number a)) = Unit {0}
NoKind (some (fault a)) = Unit {0}

base-no-kind : (t : TypeInner) → NoKind (if_pointer t (λ b s. some (form (number b))) none)
base-no-kind (Ti.Scalar k) = tt
base-no-kind (Ti.Vector z k) = tt
base-no-kind (Ti.Matrix c j k) = tt
base-no-kind (Ti.CooperativeMatrix c j k o) = tt
base-no-kind (Ti.Atomic k) = tt
base-no-kind (Ti.Pointer b p) = tt
base-no-kind (Ti.ValuePointer z k p) = tt
base-no-kind (Ti.Array b z t) = tt
base-no-kind (Ti.Struct f n t) = tt
base-no-kind (Ti.Image d a c) = tt
base-no-kind (Ti.Sampler q) = tt
base-no-kind (Ti.AccelerationStructure q) = tt
base-no-kind (Ti.RayQuery q) = tt
base-no-kind (Ti.BindingArray b z) = tt

class-no-kind : (t : TypeInner) → NoKind (if_image t (λ d c. some (texels c)) none)
class-no-kind (Ti.Scalar k) = tt
class-no-kind (Ti.Vector z k) = tt
class-no-kind (Ti.Matrix c j k) = tt
class-no-kind (Ti.CooperativeMatrix c j k o) = tt
class-no-kind (Ti.Atomic k) = tt
class-no-kind (Ti.Pointer b p) = tt
class-no-kind (Ti.ValuePointer z k p) = tt
class-no-kind (Ti.Array b z t) = tt
class-no-kind (Ti.Struct f n t) = tt
class-no-kind (Ti.Image d a c) = tt
class-no-kind (Ti.Sampler q) = tt
class-no-kind (Ti.AccelerationStructure q) = tt
class-no-kind (Ti.RayQuery q) = tt
class-no-kind (Ti.BindingArray b z) = tt

form-no-kind : (o : Option TypeAnswer) → NoKind (form_thing o)
form-no-kind (some a) = tt
form-no-kind none = tt

based-no-kind : (o : Option Form) → NoKind (base_thing o)
based-no-kind (some x) = base-no-kind x.inner
based-no-kind none = tt

classed-no-kind : (o : Option Form) → NoKind (class_thing o)
classed-no-kind (some x) = class-no-kind x.inner
classed-no-kind none = tt

look-no-kind : (sight : Sight) (ts : List TypeAnswer) (l : Look) → NoKind (comes_to sight ts l)
look-no-kind sight ts (type i) = form-no-kind (get_elem? ts i)
look-no-kind sight ts (base i) = based-no-kind (form_at sight (get_elem? ts i))
look-no-kind sight ts (class i) = classed-no-kind (form_at sight (get_elem? ts i))

newer-stands : {X : Type 0} {k : RowNumber} {P : Type 0} (o : Option X) (l : List Step) → (Stands k l → P)
    → Stands k (unless_newer o l) → P
newer-stands (some x) l h y = h y
newer-stands none l h y = none-stands y

step-stands : {k : RowNumber} {P : Type 0} (sight : Sight) (p : Place) (c : Option Thing) (l : List Step) → NoKind c
    → (Stands k l → P) → Stands k (step_to sight p c l) → P
step-stands sight p none l n h y = h y
step-stands sight p (some (kind r)) l n h y = absurd n
step-stands sight p (some (form a)) l n h (later y) = newer-stands (sight (form a)) l h y
step-stands sight p (some (texels c)) l n h (later y) = newer-stands (sight (texels c)) l h y
step-stands sight p (some (struct_number a)) l n h (later y) = newer-stands (sight (struct_number a)) l h y
step-stands sight p (some (fault a)) l n h (later y) = newer-stands (sight (fault a)) l h y

pub looks-stand : {k : RowNumber} {P : Type 0} (sight : Sight) (p : Place) (ts : List TypeAnswer) (ls : List Look)
    → Stands k (look_steps sight p ts ls) → P
looks-stand sight p ts [] y = none-stands y
looks-stand sight p ts (l ∷ ls) y = step-stands sight p (comes_to sight ts l) (look_steps sight p ts ls)
    (look-no-kind sight ts l) (looks-stand sight p ts ls) y
