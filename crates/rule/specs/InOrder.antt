-- The rows of a file in order: an outcome of ours, a later reader's, and its reading (document 01, "A row's type"). For
-- any rules.
use Rattle.std.specs.Prelude.{ℕ, zero, suc, List, [], ◌∷◌, ◌++◌, get_or}
use Rattle.std.proofs.Math.Option.{Option, some}
use Rattle.ir.specs.declared.RowNumber.{RowNumber}
use Rattle.answers.specs.declared.Refusal.TheVariants.{MissingSpecialType}
use Rattle.rule.specs.Answers.{Typed, refused, Place, Result, told, newer}
use Rattle.rule.specs.Things.{Sight}
use Rattle.rule.specs.Rule.{Rule, Answers, Step, Reading, Readings, run, follow}

-- each item made from those before it: the first n
abbrev pub in_order : {B : Type 0} → (List B → ℕ → B) → ℕ → List B
in_order next zero = []
in_order next (suc n) = let earlier = in_order next n in earlier ++ (next earlier n ∷ [])

-- what stands for a row that is not there; an accepted file's rows name earlier rows only, and never come to it
abbrev pub absent : Typed
absent = refused MissingSpecialType

abbrev pub among : List (Result Typed) → Answers
among l n = get_or l n.0 (told absent)

abbrev pub among_readings : List (Reading Typed) → Readings
among_readings l n = get_or l n.0 (record { steps = []; end = some absent })

-- the first n rows' answers; `new m p` is the answer of row m where its rule itself comes to a newer thing at the place
-- p
abbrev pub answers : Sight → (ℕ → Rule Typed) → (ℕ → Place → Result Typed) → ℕ → List (Result Typed)
answers sight rules new = in_order (λ earlier m. run sight (among earlier) (new m) (rules m))

-- the first n rows' readings
abbrev pub readings : Sight → (ℕ → Rule Typed) → ℕ → List (Reading Typed)
readings sight rules = in_order (λ earlier m. follow sight (among_readings earlier) (rules m))

-- an outcome of a rule over the first n rows: ours, a later reader's whose choice for it is c, and its reading
abbrev pub ours : {A : Type 0} → Sight → (ℕ → Rule Typed) → ℕ → Rule A → Result A
ours sight rules n rule = run sight (among (answers sight rules (λ m. newer) n)) newer rule

abbrev pub later : {A : Type 0} → Sight → (ℕ → Rule Typed) → (ℕ → Result Typed) → ℕ → Result A → Rule A → Result A
later sight rules choice n c rule = run sight (among (answers sight rules (λ m p. choice m) n)) (λ p. c) rule

abbrev pub reading : {A : Type 0} → Sight → (ℕ → Rule Typed) → ℕ → Rule A → List Step
reading sight rules n rule = (follow sight (among_readings (readings sight rules n)) rule).steps
