-- The rows that an answer names (document 01, "A row's type"): the place of a refusal, or of 22, where it is a row. N
-- is what is said of each.
use Rattle.std.specs.Prelude.{ℕ}
use Rattle.answers.specs.declared.Refusal.{Refusal}
use Rattle.answers.specs.declared.Refusal.TheVariants as R
use Rattle.rule.specs.Answers.{Typed, given, refused, chosen_refusal, Place, row, component, composed, nowhere, chosen}
use Rattle.rule.specs.Answers.{Result, told, newer}

module _ (N : ℕ → Type 0) where
  -- the rows that a refusal names: the operand of 10, 11 and 13 to 16; 12 names a type, 19 an index
  abbrev pub RefusalNames : Refusal → Type 0
  RefusalNames (R.OutOfBoundsIndex r i) = N r.0
  RefusalNames (R.InvalidAccess r q) = N r.0
  RefusalNames (R.InvalidSubAccess t q) = Unit {0}
  RefusalNames (R.InvalidScalar r) = N r.0
  RefusalNames (R.InvalidVector r) = N r.0
  RefusalNames (R.InvalidPointer r) = N r.0
  RefusalNames (R.InvalidImage r) = N r.0
  RefusalNames R.FunctionReturnsVoid = Unit {0}
  RefusalNames R.IncompatibleOperands = Unit {0}
  RefusalNames (R.FunctionArgumentNotFound i) = Unit {0}
  RefusalNames R.MissingSpecialType = Unit {0}
  RefusalNames R.Mismatch = Unit {0}

  abbrev pub TypedNames : Typed → Type 0
  TypedNames (given a) = Unit {0}
  TypedNames (refused e) = RefusalNames e
  TypedNames (chosen_refusal f) = Unit {0}

  abbrev pub PlaceNames : Place → Type 0
  PlaceNames (row r) = N r.0
  PlaceNames (component i) = Unit {0}
  PlaceNames composed = Unit {0}
  PlaceNames nowhere = Unit {0}
  PlaceNames (chosen f) = Unit {0}

  abbrev pub ResultNames : Result Typed → Type 0
  ResultNames (told t) = TypedNames t
  ResultNames (newer p) = PlaceNames p
