-- A Binary row of an accepted text in the second pass (document 02, request 3), by what `row_type` gives for it and for
-- its operands: five cases, each with what is given then. Exactly one of them holds: `binary-one` (proofs/Binary.antt).
use Rattle.std.specs.Prelude.{ℕ, ◌≡◌, List, ◌⊎◌}
use Rattle.std.proofs.Math.Option.{none, some}
use Rattle.ir.specs.declared.RowNumber.{RowNumber}
use Rattle.ir.specs.declared.TypeInner.{TypeInner}
use Rattle.answers.specs.declared.Refusal.TheVariants.{Mismatch}
use Rattle.rule.specs.Answers.{TypeAnswer, value, given, refused, row, told, newer}
use Rattle.rule.specs.Things.{Form, form, see}
use Rattle.rule_rows.specs.WgslTables.{Wgsl}
use Rattle.rule_file.specs.Typing.{RowGiven, answer}
use Rattle.law_passes.specs.Passes.{operator_at, left_at, right_at}

-- a row is given the type a
abbrev pub GivesType : RowGiven → TypeAnswer → Type 0
GivesType r a = r ≡ answer (told (given a))

-- it is given no type: a refusal, or 22
abbrev pub NoType : RowGiven → Type 0
NoType r = (a : TypeAnswer) → GivesType r a → ⊥

pub data BinaryCase : Type 0 where
  left_passed right_passed unknown_kind judged mismatched : BinaryCase

-- row n of a file, whose frames these are, is a Binary row; `gives` is what each row of the file is given
module _ (gives : RowNumber → RowGiven) (fr : List ℕ) (n : ℕ) where
  -- its operands
  abbrev pub left_given : RowGiven
  left_given = gives (record { 0 = left_at fr n })

  abbrev pub right_given : RowGiven
  right_given = gives (record { 0 = right_at fr n })

  -- a line of WGSL's tables for its operator, these two types and the result t
  abbrev pub Line : Form → Form → TypeInner → Type 0
  Line x y t = Wgsl (operator_at fr n) x.inner y.inner t

  -- the case that holds, and what is given
  pub data BinaryGives : BinaryCase → RowGiven → Type 0 where
    -- the left operand has no type: its refusal, or its 22 with the place, is passed on
    of_left : NoType left_given → BinaryGives left_passed left_given
    -- else the right has none: the right's is passed on
    of_right : (a : TypeAnswer) → GivesType left_given a → NoType right_given → BinaryGives right_passed right_given
    -- else one of the two types, which are looked into, is of unknown kind: 22, and the place is this row
    of_unknown : (a b : TypeAnswer) → GivesType left_given a → GivesType right_given b
        → (see fr (form a) ≡ none) ⊎ (see fr (form b) ≡ none)
        → BinaryGives unknown_kind (answer (newer (row (record { 0 = n }))))
    -- else a line of WGSL's tables gives t: t, as a value
    of_line : (a b : TypeAnswer) → GivesType left_given a → GivesType right_given b → (x y : Form)
        → see fr (form a) ≡ some x
        → see fr (form b) ≡ some y → (t : TypeInner) → Line x y t → BinaryGives judged (answer (told (given (value t))))
    -- else, where no line gives anything: 41
    of_none : (a b : TypeAnswer) → GivesType left_given a → GivesType right_given b → (x y : Form)
        → see fr (form a) ≡ some x
        → see fr (form b) ≡ some y → ((t : TypeInner) → Line x y t → ⊥)
        → BinaryGives mismatched (answer (told (refused Mismatch)))

  -- exactly one case holds, with one outcome: what the row is given
  pub record OneCase : Type 0 where
    pub which : BinaryCase
    pub holds : BinaryGives which (gives (record { 0 = n }))
    pub only : (c : BinaryCase) (r : RowGiven) → BinaryGives c r → (c ≡ which) × (r ≡ gives (record { 0 = n }))
