-- Load through a Pointer to an Atomic gives the atomic's scalar, by value (document 01, "A row's type"), and not the
-- base's number. Both sides are the same.
use mathlib.Core.Path.{◌≡◌, refl}
use Rattle.ir.specs.declared.TypeNumber.{TypeNumber}
use Rattle.ir.specs.declared.Scalar.{Scalar}
use Rattle.ir.specs.declared.TypeInner.TheVariants as Ti
use Rattle.rule.specs.Answers.{value, given}
use Rattle.rule_rows.specs.Variables.{load_through}

pub load-atomic : (base : TypeNumber) (k : Scalar) → load_through base (Ti.Atomic k) ≡ given (value (Ti.Scalar k))
load-atomic base k = refl
