-- The comparison of two types: the source's compare_types (document 01, "Same type or not"; "Numbers handed back", last
-- paragraph).
use Rattle.answers.specs.declared.CompareError.TheVariants as Ce
use Rattle.std.specs.Prelude.{◌≡◌, Bool, true, false, ◌||◌, ℕ, List, [], Ok, Err}
use Rattle.ir.specs.declared.TypeInner.{TypeInner}
use Rattle.answers.specs.Asked.{Sameness}
use Rattle.frames.specs.declared.Frame.{Frame}
use Rattle.archive.specs.declared.Starts.{Starts}
use Rattle.archive.specs.Starts.{starts_of}
use Rattle.rule.specs.declared.Fault.{Fault}
use Rattle.rule.specs.declared.Fault.TheVariants as Fa
use Rattle.rule.specs.Answers.{TypeAnswer, number, value, malformed, type_answer_of, Place, nowhere, Result, told}
use Rattle.rule.specs.Answers.{newer}
use Rattle.rule.specs.Answers.{Compared, alike, unlike, field, index}
use Rattle.rule.specs.Things.{form, struct_number, fault, fault_of, see_in}
use Rattle.rule.specs.Rule.{Rule, done, come, run}
use Rattle.rule.specs.InOrder.{among}
use Rattle.rule_types.specs.Canonical.{if_pointer, canonical, equal_types, identical}

-- the canonical form of a type that was looked into: of a pointer the base is looked into too, and nothing deeper
abbrev pub in_form : {A : Type 0} → Place → (TypeInner → Rule A) → TypeInner → Rule A
in_form p rest t = if_pointer t (λ b s. come p (form (number b)) (λ c. rest (canonical t s c.inner))) (rest t)

-- both are looked into, the left with its base first
abbrev pub in_forms : {A : Type 0} → Place → TypeAnswer → TypeAnswer → (Bool → Rule A) → Rule A
in_forms p a b rest =
    come p (form a) (λ x. in_form p (λ u. come p (form b) (λ y. in_form p (λ v. rest (equal_types u v)) y.inner))
    x.inner)

-- the number of a struct is no other type; finding out that a number is a struct's is no look
abbrev pub by_struct : {A : Type 0} → Place → TypeAnswer → TypeAnswer → (Bool → Rule A) → Bool → Rule A
by_struct p a b rest true = rest false
by_struct p a b rest false = in_forms p a b rest

abbrev pub by_identical : {A : Type 0} → Place → TypeAnswer → TypeAnswer → (Bool → Rule A) → Bool → Rule A
by_identical p a b rest true = rest true
by_identical p a b rest false = come p (struct_number a)
    (λ s. come p (struct_number b) (λ t. by_struct p a b rest (s || t)))

-- identical answers are the same type; else the number of a struct is not; else canonical forms are compared. The rest
-- goes on with yes or no.
abbrev pub compare : {A : Type 0} → Place → TypeAnswer → TypeAnswer → (Bool → Rule A) → Rule A
compare p a b rest = by_identical p a b rest (identical a b)

abbrev pub answered : Bool → Rule Compared
answered true = done alike
answered false = done unlike

-- an answer that a comparison meets with neither 5 nor 6
abbrev pub Sound : Starts → TypeAnswer → Type 0
Sound s a = fault_of s a ≡ Fa.Sound

-- an answer handed in gets its 5 or 6 before any look
abbrev pub tested : Rule Compared → Fault → Rule Compared
tested rest Fa.Sound = rest
tested rest Fa.Field = done field
tested rest Fa.Index = done index

-- two answers handed in: the left is tested first, then the right
abbrev pub right_tested : TypeAnswer → TypeAnswer → Rule Compared
right_tested a b = come nowhere (fault b) (tested (compare nowhere a b answered))

abbrev pub handed : TypeAnswer → TypeAnswer → Rule Compared
handed a b = come nowhere (fault a) (tested (right_tested a b))

-- WHAT A COMPARISON GIVES; it reads no row

-- as the document numbers it
abbrev pub sameness_of : Result Compared → Sameness
sameness_of (told alike) = Ok true
sameness_of (told unlike) = Ok false
sameness_of (told field) = Err Ce.Field
sameness_of (told index) = Err Ce.Index
sameness_of (newer p) = Err Ce.Newer

-- what a rule over two answers gives, over frames and where their families begin
abbrev pub given : {A : Type 0} → List ℕ → Starts → Rule A → Result A
given fr s rule = run (see_in fr s) (among []) newer rule

-- of two frames of a file
unfoldable pub same_in : List ℕ → Starts → Frame → Frame → Result Compared
same_in fr s l r = given fr s (handed (type_answer_of l) (type_answer_of r))

unfoldable pub same_type : List ℕ → Frame → Frame → Result Compared
same_type fr l r = same_in fr (starts_of fr) l r
