-- The steps that the rules of rows are made of: an operand is read, a type is looked into (document 01, "A row's
-- type"). The row that looks is
-- `here`; the last argument of each is how the rule goes on.
use Rattle.ir.specs.declared.TypeNumber.{TypeNumber}
use Rattle.ir.specs.declared.RowNumber.{RowNumber}
use Rattle.ir.specs.declared.AddressSpace.{AddressSpace}
use Rattle.ir.specs.declared.TypeInner.{TypeInner}
use Rattle.rule.specs.Answers.{TypeAnswer, number, Typed, given, refused, chosen_refusal, row}
use Rattle.rule.specs.Things.{Form, form}
use Rattle.rule.specs.Rule.{Rule, done, come, past}
use Rattle.rule_types.specs.Canonical.{if_pointer}

-- an operand's refusal is the row's ("passes on unchanged")
abbrev pub pass_on : (TypeAnswer → Rule Typed) → Typed → Rule Typed
pass_on rest (given a) = rest a
pass_on rest (refused e) = done (refused e)
pass_on rest (chosen_refusal f) = done (chosen_refusal f)

-- operand n is read (the source's `past(n)?`); a newer thing met in its reading keeps its place
abbrev pub operand : RowNumber → (TypeAnswer → Rule Typed) → Rule Typed
operand n rest = past n (λ p. p) (pass_on rest)

-- a type is looked into (the source's `inner_with(types)`); of an unknown kind it is newer, and the place is the row
-- that looks
abbrev pub look : RowNumber → TypeAnswer → (Form → Rule Typed) → Rule Typed
look here a rest = come (row here) (form a) rest

-- operand n's type is the row's, and nothing is looked into
abbrev pub same_as : RowNumber → Rule Typed
same_as n = operand n (λ a. done (given a))

-- operand n is read, its type looked into, and the answer follows from the inner form
abbrev pub by_type : RowNumber → RowNumber → (TypeInner → Typed) → Rule Typed
by_type here n answer = operand n (λ a. look here a (λ x. done (answer x.inner)))

-- left is read, then right; then left's type is looked into, then right's; the answer follows from both answers and
-- both inner forms
abbrev pub by_both : RowNumber → RowNumber → RowNumber → (TypeAnswer → TypeAnswer → TypeInner → TypeInner → Typed)
    → Rule Typed
by_both here left right answer =
    operand left (λ a. operand right
    (λ b. look here a (λ x. look here b (λ y. done (answer a b x.inner y.inner)))))

-- a type that was looked into: of a Pointer its base is looked into too, and the answer follows from the base's number,
-- the pointer's space and the base's form; of every other type from its own form
abbrev pub through_base : RowNumber → (TypeNumber → AddressSpace → Form → Typed) → (Form → Typed) → Form → Rule Typed
through_base here through into x = if_pointer x.inner (λ b s. look here (number b) (λ c. done (through b s c)))
    (done (into x))

-- operand n is read, its type looked into and, of a Pointer, its base
abbrev pub by_base : RowNumber → RowNumber → (TypeNumber → AddressSpace → Form → Typed) → (Form → Typed) → Rule Typed
by_base here n through into = operand n (λ a. look here a (through_base here through into))
