-- WHAT ROWS FIND in a joinable file: an argument that a row names is there, since else the row would be answered 19; a
-- special type never is.
use Rattle.std.specs.Prelude.{Some, None}
use Prim.Native.Nat.{ℕ, ◌-◌, ◌≤◌, ◌<◌}
use native.Mathlib.Omega.{arith}
use mathlib.Core.Path.{◌≡◌, refl, ap, ◌∙◌}
use mathlib.Core.Bool.{false}
use mathlib.Core.List.{List}
use mathlib.Core.Option.{none, some}
use lib.Dec.{ltb}
use borrow.Author.Tests.{ltb-true, le-ltb}
use Rattle.ir.specs.declared.Expression.TheVariants as Ex
use Rattle.archive.specs.Starts.{starts_of, row_count}
use Rattle.archive.specs.Access.{row_in}
use Rattle.rule.specs.Things.{maybe_item, kind, see, see_row}
use Rattle.rule.specs.Things as Row
use Rattle.rule_rows.specs.declared.Pass.TheVariants as Pa
use Rattle.law_rows.proofs.Range.{row-there}
use Rattle.law_join.specs.Joinable.{Joinable}
use Rattle.law_join.proofs.Lacking.{argument-own}
use Rattle.law_join.proofs.Families.{cases}

-- no special type
pub no_item : (x : List ℕ) (first last : ℕ) → last ≤ first → maybe_item x first last (record { 0 = 0 }) ≡ none
no_item x first last l = let a : ltb 0 (last - first) ≡ false = le-ltb 0 (last - first) (omega arith) in rw a

-- a row that names an argument finds it, where no row is answered 19
pub argued : (x : List ℕ) → Joinable x → (n i : ℕ) → n < row_count (starts_of x)
    → row_in x (starts_of x) (record { 0 = n }) ≡ Some (Ex.FunctionArgument i)
    → i < (starts_of x).locals - (starts_of x).arguments
argued x j n i l e = cases (ltb i ((starts_of x).locals - (starts_of x).arguments))
    (λ h. ltb-true i ((starts_of x).locals - (starts_of x).arguments) h)
    (λ h. absurd (j.arguments Pa.First (record { 0 = n }) i (row-there x n l)
    (argument-own Pa.First (see x) n i (shows h))))
  where
    shows : ltb i ((starts_of x).locals - (starts_of x).arguments) ≡ false → see x (kind (record { 0 = n }))
        ≡ some (Row.function_argument i none)
    shows h = ap (see_row x (starts_of x)) e ∙ rw h refl

-- a row that is known is there
pub known-there : (x : List ℕ) (n i : ℕ) → row_in x (starts_of x) (record { 0 = n }) ≡ Some (Ex.FunctionArgument i)
    → n < row_count (starts_of x)
unfolding row_in
known-there x n i e =
    cases (ltb n (row_count (starts_of x))) (λ h. ltb-true n (row_count (starts_of x)) h)
    (λ h. let z : None ≡ Some (Ex.FunctionArgument i) = rw h at e in let y : ◌≡◌ {A = ℕ} 0 1 = cc in
    absurd (omega arith))
