-- Document 01's number and values for each case of each answer ("Numbers handed back", and "Out" at the end of "The
-- file").
-- Every promise on an answer speaks through these.
use Rattle.answers.specs.declared.TypeError.TheVariants as Te
use Rattle.answers.specs.declared.CompareError.TheVariants as Ce
use Rattle.std.specs.Prelude.{ℕ, Bool, true, false, Option, Some, None, Ok, Err}
use Rattle.answers.specs.Outcome.{Outcome}
use Rattle.answers.specs.declared.FileError.{FileError}
use Rattle.answers.specs.declared.FileError.TheVariants as Fe
use Rattle.answers.specs.declared.Refusal.{Refusal}
use Rattle.answers.specs.declared.Refusal.TheVariants as R
use Rattle.answers.specs.Asked.{Verdict}
use Rattle.answers.specs.declared.ComposeError.TheVariants as Co
use Rattle.answers.specs.Asked.{Sameness}
use Rattle.answers.specs.Asked.{PointerBase}
use Rattle.answers.specs.Asked.{CanonicalType}
use Rattle.ir.specs.declared.TypeResolution.{TypeResolution}

-- the values of a refusal's frame, family 10: number, place, index, indexed
pub record Refused : Type 0 where
  pub number : ℕ
  pub place : ℕ
  pub index : ℕ
  pub indexed : Bool

-- a refusal that carries a place alone
abbrev pub at : ℕ → ℕ → Refused
at n p = record { number = n; place = p; index = 0; indexed = false }

-- nothing is refused (docs/DECISIONS.md: the papers number refusals only)
abbrev pub no_refusal : Refused
no_refusal = at 0 0

-- a row or a type that the file does not have: number 6, place 0
abbrev pub not_there : Refused
not_there = at 6 0

-- why a file is not accepted: numbers 1 to 6
abbrev pub error_values : FileError → Refused
error_values (Fe.Long m) = at 1 m
error_values (Fe.Torn k) = at 2 k
error_values Fe.Short = at 3 0
error_values (Fe.Order k) = at 4 k
error_values (Fe.Field k) = at 5 k
error_values (Fe.Index k) = at 6 k

-- what reading a file gives: numbers 1 to 6, and 0 for a file that is accepted
abbrev pub outcome_values : Outcome → Refused
outcome_values (Ok n) = no_refusal
outcome_values (Err e) = error_values e

-- why a row has no type: numbers 10 to 20, and 41 (document 02, request 3)
abbrev pub refusal_values : Refusal → Refused
refusal_values (R.OutOfBoundsIndex r i) = record { number = 10; place = r.0; index = i; indexed = false }
refusal_values (R.InvalidAccess r q) = record { number = 11; place = r.0; index = 0; indexed = q }
refusal_values (R.InvalidSubAccess t q) = record { number = 12; place = t.0; index = 0; indexed = q }
refusal_values (R.InvalidScalar r) = at 13 r.0
refusal_values (R.InvalidVector r) = at 14 r.0
refusal_values (R.InvalidPointer r) = at 15 r.0
refusal_values (R.InvalidImage r) = at 16 r.0
refusal_values R.FunctionReturnsVoid = at 17 0
refusal_values R.IncompatibleOperands = at 18 0
refusal_values (R.FunctionArgumentNotFound i) = record { number = 19; place = 0; index = i; indexed = false }
refusal_values R.MissingSpecialType = at 20 0
refusal_values R.Mismatch = at 41 0

-- the values of a verdict's frame, family 11, after its number and its compose row: expected or component, and given
pub record Judged : Type 0 where
  pub number : ℕ
  pub first : ℕ
  pub given : ℕ

-- a compose's verdict: 0 where it passes, else 22 or 30 to 33
abbrev pub verdict_values : Verdict → Judged
verdict_values (Ok u) = record { number = 0; first = 0; given = 0 }
verdict_values (Err Co.ComposedType) = record { number = 30; first = 0; given = 0 }
verdict_values (Err (Co.ComponentCount e g)) = record { number = 31; first = e; given = g }
verdict_values (Err (Co.ComponentType i)) = record { number = 32; first = i; given = 0 }
verdict_values (Err (Co.ComponentRefused i)) = record { number = 33; first = i; given = 0 }
verdict_values (Err Co.NewerComposed) = record { number = 22; first = 0xffff_ffff; given = 0 }
verdict_values (Err (Co.NewerComponent i)) = record { number = 22; first = i; given = 0 }

-- what a comparison says: yes, no, or a number with its place
pub data Said : Type 0 where
  alike different : Said
  numbered : Refused → Said

abbrev pub sameness_said : Sameness → Said
sameness_said (Ok true) = alike
sameness_said (Ok false) = different
sameness_said (Err Ce.Newer) = numbered (at 22 0)
sameness_said (Err Ce.Field) = numbered (at 5 0)
sameness_said (Err Ce.Index) = numbered not_there
sameness_said (Err (Ce.NotAccepted e)) = numbered (error_values e)

-- what is said of a type: a type, that it is no pointer, or a number with its place
pub data SaidOf : Type 0 where
  type : TypeResolution → SaidOf
  no_pointer : SaidOf
  refused : Refused → SaidOf

abbrev pub base_said : PointerBase → SaidOf
base_said (Ok (Some t)) = type t
base_said (Ok None) = no_pointer
base_said (Err Te.Newer) = refused (at 22 0)
base_said (Err Te.Index) = refused not_there
base_said (Err (Te.NotAccepted e)) = refused (error_values e)

abbrev pub canonical_said : CanonicalType → SaidOf
canonical_said (Ok t) = type t
canonical_said (Err Te.Newer) = refused (at 22 0)
canonical_said (Err Te.Index) = refused not_there
canonical_said (Err (Te.NotAccepted e)) = refused (error_values e)

-- what is said where one thing is asked for: what was asked for, or a number with its place. For a row's answer and a
-- compose's verdict: `row_type_said`, `compose_verdict_said` (frames/specs/Out.antt)
pub data SaidOne (A : Type 0) : Type 0 where
  asked : A → SaidOne A
  instead : Refused → SaidOne A

-- lines: how many bytes are written, or number 3
abbrev pub printed_said : Option ℕ → SaidOne ℕ
printed_said (Some n) = asked n
printed_said None = instead (error_values Fe.Short)
