-- What is said of one row, or of one compose, in document 01's numbers, follows from what is given: both write an
-- answer and a verdict as one frame. By cases.
use Rattle.std.specs.Prelude.{Ok, Err}
use Rattle.answers.specs.declared.VerdictError.TheVariants as Ve
use Rattle.answers.specs.declared.QueryError.TheVariants as Qe
use mathlib.Core.Path.{◌≡◌, refl, ap, ◌∙◌}
use Rattle.ir.specs.declared.RowNumber.{RowNumber}
use Rattle.answers.specs.Asked.{RowType}
use Rattle.answers.specs.Asked.{ComposeVerdict}
use Rattle.answers.specs.Numbers.{asked}
use Rattle.frames.specs.Out.{row_type_said, compose_verdict_said}
use Rattle.rule_rows.proofs.Written.{answer-framed}
use Rattle.rule_file.specs.Typing.{RowGiven, to_given, row_said, VerdictGiven, to_verdict, verdict_said}
use Rattle.law_file.proofs.Row.{verdict-framed}

pub row-said : (r : RowType) → row_type_said r ≡ row_said (to_given r)
row-said (Ok a) = ap asked (answer-framed a)
row-said (Err Qe.Index) = refl
row-said (Err (Qe.NotAccepted o)) = refl

pub verdict-said : (n : RowNumber) (r : ComposeVerdict) → compose_verdict_said n r ≡ verdict_said n (to_verdict r)
verdict-said n (Ok v) = ap asked (verdict-framed n v)
verdict-said n (Err Ve.NotCompose) = refl
verdict-said n (Err Ve.Index) = refl
verdict-said n (Err (Ve.NotAccepted o)) = refl

pub with_row : {B : Type 0} (r : RowType) {g : RowGiven} → to_given r ≡ g → B → (to_given r ≡ g)
    × ((row_type_said r ≡ row_said g) × B)
with_row r e b = (e, (row-said r ∙ ap row_said e, b))

pub with-verdict : {B : Type 0} (n : RowNumber) (r : ComposeVerdict) {g : VerdictGiven} → to_verdict r ≡ g → B
    → (to_verdict r ≡ g) × ((compose_verdict_said n r ≡ verdict_said n g) × B)
with-verdict n r e b = (e, (verdict-said n r ∙ ap (verdict_said n) e, b))
