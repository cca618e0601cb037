-- Answers in groups of one type, as a screen shows them (document 02, request 13): each with the first of a list that
-- is the same as it. For any comparison of two frames; that over a text, `same_types`, is meant. Only yes is the same:
-- an answer that gets 5 or 6 is in no group, and one of unknown kind is in one with identical ones alone.
use Rattle.answers.specs.declared.CompareError.TheVariants as Ce
use Rattle.std.specs.Prelude.{◌≡◌, Bool, true, false, cond, List, [], ◌∷◌, Ok, Err}
use Rattle.std.proofs.Math.Option.{Option, none, some}
use Rattle.answers.specs.Outcome.{Outcome}
use Rattle.answers.specs.Asked.{Sameness}
use Rattle.frames.specs.declared.Frame.{Frame}

-- yes
abbrev pub is_same : Sameness → Bool
is_same (Ok true) = true
is_same (Ok false) = false
is_same (Err Ce.Newer) = false
is_same (Err Ce.Field) = false
is_same (Err Ce.Index) = false
is_same (Err (Ce.NotAccepted o)) = false

-- the group of the answer a in a list: its first member that is the same as a, if there is one
abbrev pub group : (Frame → Frame → Sameness) → List Frame → Frame → Option Frame
group compare [] a = none
group compare (x ∷ l) a = cond (is_same (compare x a)) (some x) (group compare l a)

-- two answers are in one group of a list
pub record OneGroup (compare : Frame → Frame → Sameness) (l : List Frame) (a b : Frame) : Type 0 where
  pub first : Frame
  pub left : group compare l a ≡ some first
  pub right : group compare l b ≡ some first

-- the members of that group: those of the list that are the same as a, in its order
abbrev pub members : (Frame → Frame → Sameness) → List Frame → Frame → List Frame
members compare [] a = []
members compare (x ∷ l) a = cond (is_same (compare x a)) (x ∷ members compare l a) (members compare l a)
