-- WHICH REFUSALS RULES MAKE: but for the rules of an argument and of the special types none answers with 19 or 20,
-- whatever it is given. By the forms that answers are made from.
use Rattle.std.specs.Prelude.{Option as CodeOption, Some, None}
use Rattle.ir.specs.declared.Width.{Width}
use Rattle.ir.specs.declared.TypeResolution.{TypeResolution}
use Rattle.ir.specs.declared.VectorSize.{VectorSize}
use Prim.Native.Nat.{ℕ}
use mathlib.Core.Bool.{Bool, true, false, cond}
use mathlib.Core.List.{List}
use mathlib.Core.Option.{Option, none, some}
use lib.Dec.{ltb}
use lib.ListN.{get_elem?}
use Rattle.scan.proofs.Laws.{by-test}
use Rattle.ir.specs.declared.TypeNumber.{TypeNumber}
use Rattle.ir.specs.declared.RowNumber.{RowNumber}
use Rattle.ir.specs.declared.CooperativeSize.{CooperativeSize}
use Rattle.ir.specs.declared.CooperativeRole.{CooperativeRole}
use Rattle.ir.specs.declared.Scalar.{Scalar}
use Rattle.ir.specs.declared.AddressSpace.{AddressSpace}
use Rattle.ir.specs.declared.AddressSpace.TheVariants as Sp
use Rattle.ir.specs.declared.ScalarKind.{ScalarKind}
use Rattle.ir.specs.declared.TypeInner.{TypeInner}
use Rattle.ir.specs.declared.TypeInner.TheVariants as Ti
use Rattle.ir.specs.Scalars.{BOOL, equal_scalars}
use Rattle.answers.specs.declared.Refusal.{Refusal}
use Rattle.answers.specs.declared.Refusal.TheVariants as R
use Rattle.rule.specs.Answers.{TypeAnswer, value, Typed, given, refused, chosen_refusal}
use Rattle.rule_rows.specs.Access.{access_component, access_into, access_through, bounded, member, member_pointer}
use Rattle.rule_rows.specs.Access.{index_component, index_into, index_through}
use Rattle.rule_rows.specs.Variables.{variable, loaded}
use Rattle.rule_rows.specs.Operators.{times_scalar, product, bools_of, logical_of, cast_of, or_mismatch}
use Rattle.rule_rows.specs.Results.{result_of, cooperative_of}
use Rattle.law_rows.proofs.Selected.{by_scalar, by-vector, by-matrix, by-cooperative-matrix, by-value-pointer}
use Rattle.law_rows.proofs.Selected.{by-struct}
use Rattle.law_join.proofs.Selected.{any_array, any-binding}

-- neither 19 nor 20
abbrev pub RefusalApart : Refusal → Type 0
RefusalApart (R.OutOfBoundsIndex r i) = Unit {0}
RefusalApart (R.InvalidAccess r q) = Unit {0}
RefusalApart (R.InvalidSubAccess t q) = Unit {0}
RefusalApart (R.InvalidScalar r) = Unit {0}
RefusalApart (R.InvalidVector r) = Unit {0}
RefusalApart (R.InvalidPointer r) = Unit {0}
RefusalApart (R.InvalidImage r) = Unit {0}
RefusalApart R.FunctionReturnsVoid = Unit {0}
RefusalApart R.IncompatibleOperands = Unit {0}
RefusalApart (R.FunctionArgumentNotFound i) = ⊥
RefusalApart R.MissingSpecialType = ⊥
RefusalApart R.Mismatch = Unit {0}

abbrev pub Apart : Typed → Type 0
Apart (given a) = Unit {0}
Apart (refused e) = RefusalApart e
Apart (chosen_refusal f) = Unit {0}

-- ANSWERS BY FORM

pub bounded-apart : (base : RowNumber) (i bound : ℕ) (a : TypeAnswer) → Apart (bounded base i bound a)
bounded-apart base i bound a = by-test Apart (ltb i bound) (λ q. tt) (λ q. tt)

pub member_apart : (base : RowNumber) (i : ℕ) (o : Option TypeNumber) → Apart (member base i o)
member_apart base i (some t) = tt
member_apart base i none = tt

pub pointer-apart : (base : RowNumber) (i : ℕ) (p : AddressSpace) (o : Option TypeNumber)
    → Apart (member_pointer base i p o)
pointer-apart base i p (some t) = tt
pointer-apart base i p none = tt

pub component-apart : (base : RowNumber) (k : Scalar) (p : AddressSpace) (z : CodeOption VectorSize)
    → Apart (access_component base k p z)
component-apart base k p (Some z) = tt
component-apart base k p None = tt

pub index-component : (base : RowNumber) (i : ℕ) (k : Scalar) (p : AddressSpace) (z : CodeOption VectorSize)
    → Apart (index_component base i k p z)
index-component base i k p (Some z) = bounded-apart base i _ _
index-component base i k p None = tt

pub access-into : (base : RowNumber) (t : TypeInner) → Apart (access_into base t)
access-into base t =
    any_array Apart t (λ b. tt) (by-matrix Apart t (λ c r k. tt) (by-vector Apart t (λ z k. tt)
    (by-value-pointer Apart t (λ z k p. component-apart base k p z) (any-binding Apart t (λ b. tt) tt))))

pub access-through : (b : TypeNumber) (p : AddressSpace) (t : TypeInner) → Apart (access_through b p t)
access-through b p t =
    any_array Apart t (λ b. tt)
    (by-vector Apart t (λ z k. tt)
    (by-matrix Apart t (λ c r k. tt) (any-binding Apart t (λ b. tt) tt)))

pub index-into : (base : RowNumber) (i : ℕ) (l : List TypeNumber) (t : TypeInner) → Apart (index_into base i l t)
index-into base i l t =
    by-vector Apart t (λ z k. bounded-apart base i _ _)
    (by-matrix Apart t (λ c r k. bounded-apart base i _ _) (any_array Apart t (λ b. tt)
    (by-struct Apart t (member_apart base i (get_elem? l i))
    (by-value-pointer Apart t (λ z k p. index-component base i k p z)
    (any-binding Apart t (λ b. tt) tt)))))

pub index-through : (base : RowNumber) (i : ℕ) (b : TypeNumber) (p : AddressSpace) (l : List TypeNumber) (t : TypeInner)
    → Apart (index_through base i b p l t)
index-through base i b p l t =
    any_array Apart t (λ b. tt)
    (by-vector Apart t (λ z k. bounded-apart base i _ _)
    (by-matrix Apart t (λ c r k. bounded-apart base i _ _)
    (by-struct Apart t (pointer-apart base i p (get_elem? l i)) (any-binding Apart t (λ b. tt) tt))))

pub loaded-apart : (n : RowNumber) (o : CodeOption TypeResolution) → Apart (loaded n o)
loaded-apart n (Some r) = tt
loaded-apart n None = tt

pub cooperative-apart : (c r : CooperativeSize) (o : CooperativeRole) (n : RowNumber) (k : CodeOption Scalar)
    → Apart (cooperative_of c r o n k)
cooperative-apart c r o n (Some k) = tt
cooperative-apart c r o n None = tt

pub variable-apart : (t : TypeNumber) (p : AddressSpace) → Apart (variable t p)
variable-apart t Sp.Handle = tt
variable-apart t Sp.Function = tt
variable-apart t Sp.Private = tt
variable-apart t Sp.WorkGroup = tt
variable-apart t Sp.Uniform = tt
variable-apart t (Sp.Storage a) = tt
variable-apart t Sp.Immediate = tt
variable-apart t Sp.TaskPayload = tt
variable-apart t Sp.RayPayload = tt
variable-apart t Sp.IncomingRayPayload = tt

pub result-apart : (r : CodeOption TypeNumber) → Apart (result_of r)
result-apart (Some t) = tt
result-apart None = tt

pub times-apart : (a : TypeAnswer) (y : TypeInner) → Apart (times_scalar a y)
times-apart a y = by_scalar Apart y (λ j. tt) tt

pub product-apart : (a b : TypeAnswer) (x y : TypeInner) → Apart (product a b x y)
product-apart a b x y =
    by-matrix Apart x
    (λ c r k. by-matrix Apart y (λ d q j. tt) (by-vector Apart y (λ z j. tt) (times-apart a y)))
    (by-vector Apart x
    (λ z k. by-matrix Apart y (λ d q j. tt) (by-vector Apart y (λ z j. tt) (times-apart a y)))
    (by_scalar Apart x (λ k. tt)
    (by-cooperative-matrix Apart x
    (λ c r k o. by-cooperative-matrix Apart y (λ d q j w. tt) (times-apart a y)) (times-apart a y))))

pub wgsl-apart : (o : Option TypeInner) → Apart (or_mismatch o)
wgsl-apart (some t) = tt
wgsl-apart none = tt

pub bools-apart : (t : TypeInner) → Apart (bools_of t)
bools-apart t = by_scalar Apart t (λ k. tt) (by-vector Apart t (λ z k. tt) tt)

pub equal-apart : (b : Bool) → Apart (cond b (given (value (Ti.Scalar BOOL))) (refused R.IncompatibleOperands))
equal-apart true = tt
equal-apart false = tt

pub logical-apart : (t : TypeInner) → Apart (logical_of t)
logical-apart t = by_scalar Apart t (λ k. equal-apart (equal_scalars k BOOL)) tt

pub cast-apart : (to : ScalarKind) (w : CodeOption Width) (t : TypeInner) → Apart (cast_of to w t)
cast-apart to w t = by_scalar Apart t (λ k. tt)
    (by-vector Apart t (λ z k. tt) (by-matrix Apart t (λ c r k. tt) tt))
