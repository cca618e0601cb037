-- What is said of writing lines, in the document's numbers, is what is said of the outcome. By whether they fit.
use Rattle.std.specs.Prelude.{ℕ, Option, Some, None}
use Prim.Native.Nat.{ℕ}
use mathlib.Core.Path.{◌≡◌, refl, ap, ◌∙◌}
use mathlib.Core.Bool.{Bool, true, false, cond}
use mathlib.Core.List.{List}
use lib.Dec.{leb}
use lib.ListN.{length}
use Rattle.answers.specs.Numbers.{asked, instead, at, printed_said}
use Rattle.rule_file.specs.Printed.{printed}
use Rattle.rule_explain.specs.Explained.{lines_said}

pub lines-said : (lines : List ℕ) (o : ℕ) → printed_said (printed lines o) ≡ lines_said lines o
unfolding printed
lines-said lines o = go (leb (length lines) o)
  where
    go : (b : Bool) → printed_said (cond b (Some (length lines)) None)
        ≡ cond b (asked (length lines)) (instead (at 3 0))
    go true = refl
    go false = refl

pub with-lines : {B : Type 0} (lines : List ℕ) (o : ℕ) {r : Option ℕ} → r ≡ printed lines o → B
    → (r ≡ printed lines o) × ((printed_said r ≡ lines_said lines o) × B)
with-lines lines o e b = (e, (ap printed_said e ∙ lines-said lines o, b))
