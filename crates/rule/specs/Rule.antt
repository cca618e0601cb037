-- A rule is a reading program. It is run, by us and by a later reader, and it is followed: that gives its reading
-- (document 01's words reading, meets and later reader, "A row's type").
use Rattle.std.specs.Prelude.{List, [], ◌∷◌, ◌++◌}
use Rattle.std.proofs.Math.Option.{Option, none, some}
use Rattle.ir.specs.declared.RowNumber.{RowNumber}
use Rattle.rule.specs.Answers.{Typed, Place, Result, told, newer}
use Rattle.rule.specs.Things.{Thing, Seen, Sight}

-- a rule with an outcome in A. It knows nothing of the file and of other rows' answers but what its steps bring:
--   done a          the outcome is a
--   come p c k      comes to the thing c, at the place p, and goes on with what it sees
--   past n at k     comes to row n, and goes on with its answer; a newer thing met there has for this rule the place
-- that `at` gives
pub data Rule (A : Type 0) : Type 0 where
  done : A → Rule A
  come : Place → (c : Thing) → (Seen c → Rule A) → Rule A
  past : RowNumber → (Place → Place) → (Typed → Rule A) → Rule A

-- RUNNING A RULE: `new` is the outcome where the rule itself comes to a newer thing

abbrev pub Answers : Type 0
Answers = RowNumber → Result Typed

abbrev pub run : {A : Type 0} → Sight → Answers → (Place → Result A) → Rule A → Result A
run sight earlier new (done a) = told a
run sight earlier new (come p c k) = elim (sight c) [ none ↦ new p | some s ↦ run sight earlier new (k s) ]
run sight earlier new (past n at k) = elim (earlier n) [ told t ↦ run sight earlier new (k t) | newer p ↦ newer (at p) ]

-- FOLLOWING A RULE: its reading, the things come to, each with its place, and its end, the outcome, which is missing
-- where it ends at a newer thing. It goes over earlier readings, and never over a buffer.

pub data Step : Type 0 where
  step : Place → Thing → Step

pub record Reading (A : Type 0) : Type 0 where
  pub steps : List Step
  pub end : Option A

abbrev pub Readings : Type 0
Readings = RowNumber → Reading Typed

-- the steps of another row's reading, with their places for this rule
abbrev pub placed : (Place → Place) → List Step → List Step
placed at [] = []
placed at (step p c ∷ xs) = step (at p) c ∷ placed at xs

abbrev pub after : {A : Type 0} → List Step → Reading A → Reading A
after xs r = record { steps = xs ++ r.steps; end = r.end }

abbrev pub stop : {A : Type 0} → List Step → Reading A
stop xs = record { steps = xs; end = none }

abbrev pub follow : {A : Type 0} → Sight → Readings → Rule A → Reading A
follow sight earlier (done a) = record { steps = []; end = some a }
follow sight earlier (come p c k) =
    elim (sight c) [ none ↦ stop (step p c ∷ []) | some s ↦ after (step p c ∷ []) (follow sight earlier (k s)) ]
follow sight earlier (past n at k) =
    elim (earlier n).end [
      | none ↦ stop (placed at (earlier n).steps)
      | some t ↦ after (placed at (earlier n).steps)
          (follow sight earlier (k t))
    ]

-- the place of the first newer thing that a reading comes to: what it meets; missing if it meets none
abbrev pub met : Sight → List Step → Option Place
met sight [] = none
met sight (step p c ∷ xs) = elim (sight c) [ none ↦ some p | some s ↦ met sight xs ]
