-- Not part of any public statement: for proofs and code only. An answer as the code's resolution, what the claim for
-- any rules says of one outcome, and the outcome that a reading tells (proofs/Later.antt).
use Rattle.ir.specs.declared.TypeResolution.{TypeResolution}
use Rattle.std.specs.Prelude.{◌≡◌, ◌↔◌, List, Option as CodeOption, Some, None}
use Rattle.std.proofs.Math.Option.{Option, none, some}
use Rattle.ir.specs.declared.TypeResolution.TheVariants as Tr
use Rattle.rule.specs.Answers.{TypeAnswer, number, value, malformed, Place, nowhere, Result, told, newer}
use Rattle.rule.specs.Things.{Sight}
use Rattle.rule.specs.Rule.{Step, Reading, met}

-- the resolution that an answer is; none where it is malformed
abbrev pub resolution : TypeAnswer → CodeOption TypeResolution
resolution (number n) = Some (Tr.Handle n)
resolution (value t) = Some (Tr.Value t)
resolution (malformed f) = None

-- an outcome that a reader gives is right by the reading of the rule, against a later reader's
pub record Right (sight : Sight) {A : Type 0} (steps : List Step) (ours theirs : Result A) : Type 0 where
  -- where the reading meets nothing newer, the two are equal in every field
  pub same : met sight steps ≡ none → ours ≡ theirs
  -- ours is newer, naming p, exactly where the reading meets a newer thing at p
  pub exactly : (p : Place) → (ours ≡ newer p) ↔ (met sight steps ≡ some p)

-- the outcome that a reading tells: its end; without one, newer where something newer was met
abbrev pub newer_at : {A : Type 0} → Option Place → Result A
newer_at (some p) = newer p
newer_at none = newer nowhere

abbrev pub end_or : {A : Type 0} → Option Place → Option A → Result A
end_or p (some a) = told a
end_or p none = newer_at p

abbrev pub outcome_of : {A : Type 0} → Sight → Reading A → Result A
outcome_of sight r = end_or (met sight r.steps) r.end
