-- The rows that the reading of a row follows (document 01, "A row's type": a row's reading is the row's own kind, then
-- the operands its rule reads, with their own readings, to the first refusal), and their marks (document 02, request
-- 12).
use Rattle.std.specs.Prelude.{ℕ, zero, suc, Bool, true, false, cond, List, [], ◌∷◌, get_or, set, replicate}
use Rattle.std.proofs.Math.Option.{Option, none, some}
use Rattle.ir.specs.declared.RowNumber.{RowNumber}
use Rattle.rule.specs.Answers.{Typed, given, refused, chosen_refusal, Place, Result, told, newer}
use Rattle.rule.specs.Things.{Shown, kind, see}
use Rattle.rule.specs.Rule.{Answers, Step, step}
use Rattle.rule.specs.InOrder.{reading}
use Rattle.law_rows.specs.Reads.{reads}
use Rattle.rule_rows.specs.declared.Pass.{Pass}
use Rattle.rule_rows.specs.Typed.{typing}
use Rattle.rule_answers.specs.Outputs.{row_answer}

-- WHAT A READING FOLLOWS

-- a row's own kind stands among the steps of a reading
pub data Stands (k : RowNumber) : List Step → Type 0 where
  here : {p : Place} {l : List Step} → Stands k (step p (kind k) ∷ l)
  later : {x : Step} {l : List Step} → Stands k l → Stands k (x ∷ l)

-- row k is followed by the reading of row n
abbrev pub Follows : Pass → List ℕ → ℕ → ℕ → Type 0
Follows pass fr n k = Stands (record { 0 = k }) (reading (see fr) (typing pass) n (typing pass n))

-- WHAT A ROW READS

-- the rest is read after a row that has a type
abbrev pub goes_on : Result Typed → List RowNumber → List RowNumber
goes_on (told (given a)) rest = rest
goes_on (told (refused e)) rest = []
goes_on (told (chosen_refusal f)) rest = []
goes_on (newer p) rest = []

-- of the operands in order those up to the first without a type
abbrev pub read_to : Answers → List RowNumber → List RowNumber
read_to us [] = []
read_to us (n ∷ ns) = n ∷ goes_on (us n) (read_to us ns)

abbrev pub operands_of : Pass → Option Shown → List RowNumber
operands_of pass (some x) = (reads pass x).operands
operands_of pass none = []

abbrev pub numbers : List RowNumber → List ℕ
numbers [] = []
numbers (r ∷ l) = r.0 ∷ numbers l

-- the rows that row n reads, by the answers of a file
unfoldable pub rows_read : Pass → List ℕ → ℕ → List ℕ
rows_read pass fr n = numbers
    (read_to (λ (r : RowNumber). row_answer pass (see fr) r.0) (operands_of pass (see fr (kind (record { 0 = n })))))

-- MARKS, 1,024 of them: the named row is marked, and from the last row down a marked row marks what it reads

-- a mark set at each of these rows
abbrev pub set_each : List Bool → List ℕ → List Bool
set_each marks [] = marks
set_each marks (r ∷ l) = set_each (set marks r true) l

abbrev pub spread : (ℕ → List ℕ) → ℕ → List Bool → List Bool
spread read k marks = cond (get_or marks k false) (set_each marks (read k)) marks

-- the rows below n, the highest first
unfoldable pub sweep : (ℕ → List ℕ) → ℕ → List Bool → List Bool
sweep read zero marks = marks
sweep read (suc k) marks = sweep read k (spread read k marks)

-- how many marks there are
abbrev pub max_marks : ℕ
max_marks = 1024

abbrev pub no_marks : List Bool
no_marks = replicate max_marks false

unfoldable pub marks_by : (ℕ → List ℕ) → ℕ → List Bool
marks_by read n = sweep read max_marks (set no_marks n true)

-- the marks of row n of a file
abbrev pub marks_of : Pass → List ℕ → ℕ → List Bool
marks_of pass fr n = marks_by (rows_read pass fr) n

abbrev pub is_marked : List Bool → ℕ → Bool
is_marked marks k = get_or marks k false
