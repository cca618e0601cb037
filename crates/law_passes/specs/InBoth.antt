-- What both passes type (document 02, request 3). A row over a Binary row may be typed by the second pass alone: the
-- two types of a scalar plus a vector do not show the same (`parted`, proofs/InBoth.antt). Rows whose readings come to
-- no such Binary row are typed by the first pass wherever the second types them (`typed-in-both`).
use Rattle.std.specs.Prelude.{ℕ, ◌≡◌, List, [], ◌∷◌}
use Rattle.ir.specs.declared.RowNumber.{RowNumber}
use Rattle.rule.specs.Answers.{TypeAnswer, Typed, given, Result, told}
use Rattle.rule.specs.Things.{kind, form, texels, struct_number, fault, see}
use Rattle.rule.specs.Rule.{Step, step}
use Rattle.rule.specs.InOrder.{reading}
use Rattle.rule_rows.specs.declared.Pass.TheVariants.{First, Second}
use Rattle.rule_rows.specs.Typed.{typing}
use Rattle.rule_answers.specs.Outputs.{row_answer}
use Rattle.rule_file.specs.Typing.{RowGiven, answer}
use Rattle.law_passes.specs.Passes.{IsBinary}

-- what is given is a type
pub record IsType (r : Result Typed) : Type 0 where
  pub type : TypeAnswer
  pub typed : r ≡ told (given type)

-- what `row_type` gives is
pub record RowIsType (r : RowGiven) : Type 0 where
  pub type : TypeAnswer
  pub typed : r ≡ answer (told (given type))

-- it is a type that shows in this file what the type y shows, as a number and a value of one form do
pub record ShowsAs (fr : List ℕ) (y : TypeAnswer) (r : Result Typed) : Type 0 where
  pub type : TypeAnswer
  pub typed : r ≡ told (given type)
  pub shows : see fr (form type) ≡ see fr (form y)

-- of what the first pass gives and the second: where the second gives a type, the first gives one that shows the same
abbrev pub Alike : List ℕ → Result Typed → Result Typed → Type 0
Alike fr one two = (y : TypeAnswer) → two ≡ told (given y) → ShowsAs fr y one

-- so at row n of a file, whose frames these are
abbrev pub AlikeAt : List ℕ → ℕ → Type 0
AlikeAt fr n = Alike fr (row_answer First (see fr) n) (row_answer Second (see fr) n)

-- a step of a reading comes to no Binary row but one where the passes are alike
abbrev pub NotToParted : List ℕ → Step → Type 0
NotToParted fr (step p (kind r)) = IsBinary fr r.0 → AlikeAt fr r.0
NotToParted fr (step p (form a)) = Unit {0}
NotToParted fr (step p (texels c)) = Unit {0}
NotToParted fr (step p (struct_number a)) = Unit {0}
NotToParted fr (step p (fault a)) = Unit {0}

abbrev pub ComesToNoParted : List ℕ → List Step → Type 0
ComesToNoParted fr [] = Unit {0}
ComesToNoParted fr (x ∷ xs) = NotToParted fr x × ComesToNoParted fr xs

-- the second pass's reading of row n
abbrev pub second_reading : List ℕ → ℕ → List Step
second_reading fr n = reading (see fr) (typing Second) n (typing Second n)

-- and of each of these rows
abbrev pub NoneParted : List ℕ → List RowNumber → Type 0
NoneParted fr [] = Unit {0}
NoneParted fr (m ∷ ms) = ComesToNoParted fr (second_reading fr m.0) × NoneParted fr ms
