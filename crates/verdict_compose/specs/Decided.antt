-- Not part of any public statement: for proofs and code only. What the code of a verdict goes by: what is asked of each
-- component, and what each decides.
use Rattle.std.specs.Prelude.{ℕ, Bool, cond, List, get_or, Option as CodeOption, Some, None, Result, Ok, Err}
use Rattle.std.proofs.Math.Option.{Option, none, some}
use Rattle.ir.specs.declared.TypeNumber.{TypeNumber}
use Rattle.ir.specs.declared.MemberNumber.{MemberNumber}
use Rattle.ir.specs.declared.Scalar.{Scalar}
use Rattle.ir.specs.declared.TypeInner.{TypeInner}
use Rattle.ir.specs.declared.TypeInner.TheVariants as Ti
use Rattle.ir.specs.declared.TypeResolution.{TypeResolution}
use Rattle.answers.specs.Answer.{Answer}
use Rattle.answers.specs.declared.Unresolved.{Unresolved}
use Rattle.answers.specs.declared.Unresolved.TheVariants as Un
use Rattle.answers.specs.declared.ComposeError.{ComposeError}
use Rattle.answers.specs.declared.ComposeError.TheVariants as Co
use Rattle.archive.specs.declared.Starts.{Starts}
use Rattle.rule.specs.Answers.{TypeAnswer, number, resolved, Judgement}
use Rattle.rule.specs.Things.{form_in}
use Rattle.rule.specs.Rule.{Rule}
use Rattle.rule_types.specs.Canonical.{equal_types}
use Rattle.rule_types.specs.ForProofs.{likeness}
use Rattle.rule_rows.specs.ForProofs.{members_in}
use Rattle.rule_compose.specs.Verdict.{adds, column_is, element_is, member_is}
use Rattle.verdict_compose.specs.declared.Part.{Part}
use Rattle.verdict_compose.specs.declared.Part.TheVariants as Pa

-- WHAT IS ASKED OF EACH COMPONENT: that it is a column, an element of an array, or the struct's member of its index

abbrev pub asked_of : List ℕ → Starts → Part → ℕ → TypeAnswer → (Bool → Rule Judgement) → Rule Judgement
asked_of fr s (Pa.Column rows k) = column_is rows k
asked_of fr s (Pa.Element base) = element_is base
asked_of fr s (Pa.Member first n) = member_is (members_in fr s first n)

-- the struct's member of an index; of an index past them type 0, which no verdict comes to
abbrev pub member_type : List ℕ → Starts → MemberNumber → ℕ → ℕ → TypeNumber
member_type fr s first n i = get_or (members_in fr s first n) i (record { 0 = 0 })

-- WHAT ONE COMPONENT DECIDES: how many parts it adds, or why the compose does not pass
abbrev pub Decided : Type 0
Decided = Result ℕ ComposeError

-- by how many it adds; none is 32
abbrev pub count_decides : ℕ → Option ℕ → Decided
count_decides i (some m) = Ok m
count_decides i none = Err (Co.ComponentType i)

-- by whether it is as asked: m parts, or none
abbrev pub adds_if : ℕ → Bool → ℕ → Decided
adds_if i b m = count_decides i (cond b (some m) none)

-- by an answer without a type: refused is 33, newer 22 at the component
abbrev pub end_decides : ℕ → Unresolved → Decided
end_decides i (Un.Refused e) = Err (Co.ComponentRefused i)
end_decides i (Un.Newer r) = Err (Co.NewerComponent i)

-- by the row's answer, and what its type decides
abbrev pub answer_decides : ℕ → (TypeResolution → Decided) → Answer → Decided
answer_decides i f (Ok t) = f t
answer_decides i f (Err (Un.Refused e)) = end_decides i (Un.Refused e)
answer_decides i f (Err (Un.Newer r)) = end_decides i (Un.Newer r)

-- by the form of its type, and what that decides; an unknown kind is 22
abbrev pub form_decides : ℕ → (TypeInner → Decided) → CodeOption TypeInner → Decided
form_decides i f (Some t) = f t
form_decides i f None = Err (Co.NewerComponent i)

-- by a comparison of its type; none, where a look comes to an unknown kind, is 22
abbrev pub like_decides : ℕ → Option Bool → Decided
like_decides i (some b) = adds_if i b 1
like_decides i none = Err (Co.NewerComponent i)

abbrev pub like_said : ℕ → CodeOption Bool → Decided
like_said i (Some b) = adds_if i b 1
like_said i None = Err (Co.NewerComponent i)

-- what the type of component i decides, where it is held to what is asked
abbrev pub part_decides : List ℕ → Starts → Part → ℕ → TypeAnswer → Decided
part_decides fr s (Pa.Column rows k) i a =
    form_decides i (λ t. adds_if i (equal_types t (Ti.Vector rows k)) 1) (form_in fr s a)
part_decides fr s (Pa.Element base) i a = like_decides i (likeness fr s (number base) a)
part_decides fr s (Pa.Member first n) i a = like_decides i (likeness fr s (number (member_type fr s first n i)) a)

-- and its answer
abbrev pub part_by : List ℕ → Starts → Part → ℕ → Answer → Decided
part_by fr s p i a = answer_decides i (λ t. part_decides fr s p i (resolved t)) a

-- and in a vector of k
abbrev pub added_by : List ℕ → Starts → Scalar → ℕ → Answer → Decided
added_by fr s k i a =
    answer_decides i (λ t. form_decides i (λ u. count_decides i (adds k u)) (form_in fr s (resolved t))) a
