-- What is handed back is read as what was handed back: each number's bytes give the number, and each case's number
-- gives the case.
use Rattle.answers.specs.declared.Unresolved.TheVariants as Un
use Rattle.std.specs.Prelude.{Option, Some, None, Ok, Err}
use Rattle.ir.specs.declared.VectorSize.{VectorSize}
use Prim.Native.Nat.{ℕ, ◌+◌, ◌*◌, ◌/◌, ◌%◌}
use native.Mathlib.Omega.{arith}
use mathlib.Core.Path.{◌≡◌, refl, ap}
use borrow.Author.Tests.{ne_eqb}
use Rattle.ir.proofs.Numbered.{vector_size-back, cooperative_size-back, cooperative_role-back, scalar_kind-back}
use Rattle.ir.proofs.Numbered.{width_back}
use Rattle.ir.proofs.Numbered.{image_dimension-back, storage_format-back, flag-back, access-back, space-back}
use Rattle.ir.specs.declared.RowNumber.{RowNumber}
use Rattle.ir.specs.declared.VectorSize.TheVariants as Vs
use Rattle.ir.specs.declared.ArraySize.{ArraySize}
use Rattle.ir.specs.declared.ArraySize.TheVariants as As
use Rattle.ir.specs.declared.ImageClass.TheVariants as Ic
use Rattle.ir.specs.declared.StorageAccess.{StorageAccess}
use Rattle.ir.specs.declared.TypeInner.{TypeInner}
use Rattle.ir.specs.declared.TypeInner.TheVariants as Ti
use Rattle.answers.specs.Answer.{Answer}
use Rattle.answers.specs.declared.Refusal.TheVariants as Re
use Rattle.ir.specs.declared.TypeResolution.TheVariants as Tr
use Rattle.answers.specs.Asked.{Verdict}
use Rattle.answers.specs.declared.ComposeError.TheVariants as Co
use Rattle.frames.specs.Bytes.{half}
use Rattle.frames.specs.Fields.{option_size_of, option_size_number, array_size_of, form_number, form_count}
use Rattle.frames.specs.Forms.{type_of}
use Rattle.frames.specs.Out.{type_frame, answer_frame, verdict_frame}
use Rattle.frames.specs.ForProofs.{value_of, unresolved_of, answer_of, verdict_of}

-- the two bytes of a number give it again
pub half_back : (n : ℕ) → n % 256 + n / 256 * 256 ≡ n
half_back n = omega arith

-- the four bytes of a number give it again
pub word_back : (n : ℕ) → n % 256 + n / 256 % 256 * 256 + n / 256 / 256 % 256 * 65536 + n / 256 / 256 / 256 * 16777216
    ≡ n
word_back n = omega arith

option_back : (n : Option VectorSize) → option_size_of (option_size_number n) ≡ n
option_back None = refl
option_back (Some Vs.Bi) = refl
option_back (Some Vs.Tri) = refl
option_back (Some Vs.Quad) = refl

size_back : (z : ArraySize)
    → array_size_of (form_number z)
    (form_count z % 256 + form_count z / 256 % 256 * 256 + form_count z / 256 / 256 % 256 * 65536 + form_count z / 256 /
    256 / 256 * 16777216) ≡ z
size_back (As.Constant n) = ap As.Constant (word_back n)
size_back (As.Pending o) = rw (word_back o.0)
size_back As.Dynamic = refl

-- a type's frame, of any family, reads as the type
pub type-back : (t : TypeInner) (family : ℕ) → type_of (type_frame family t) ≡ Some t
unfolding type_of
type-back (Ti.Scalar s) family = rw (scalar_kind-back s.kind, width_back s.width)
type-back (Ti.Vector n s) family = rw (vector_size-back n, scalar_kind-back s.kind, width_back s.width)
type-back (Ti.Matrix c r s) family
    = rw (vector_size-back c, vector_size-back r, scalar_kind-back s.kind, width_back s.width)
type-back (Ti.CooperativeMatrix c r s o) family =
    rw (
      cooperative_size-back c,
      cooperative_size-back r,
      scalar_kind-back s.kind,
      width_back s.width,
      cooperative_role-back o,
    )
type-back (Ti.Atomic s) family = rw (scalar_kind-back s.kind, width_back s.width)
type-back (Ti.Pointer b p) family = rw (half_back b.0, space-back p)
type-back (Ti.ValuePointer n s p) family
    = rw (option_back n, scalar_kind-back s.kind, width_back s.width, space-back p)
type-back (Ti.Array b z t) family = rw (half_back b.0, size_back z, word_back t)
type-back (Ti.Struct m n t) family = rw (half_back m.0, half_back n, word_back t)
type-back (Ti.Image d a (Ic.Sampled k m)) family
    = rw (image_dimension-back d, flag-back a, scalar_kind-back k, flag-back m)
type-back (Ti.Image d a (Ic.Depth m)) family = rw (image_dimension-back d, flag-back a, flag-back m)
type-back (Ti.Image d a Ic.External) family = rw (image_dimension-back d, flag-back a)
type-back (Ti.Image d a (Ic.Storage f x)) family =
    rw (image_dimension-back d, flag-back a, storage_format-back f)
    (ap (λ (y : StorageAccess). Some (Ti.Image d a (Ic.Storage f y))) (access-back x))
type-back (Ti.Sampler q) family = rw (flag-back q)
type-back (Ti.AccelerationStructure q) family = rw (flag-back q)
type-back (Ti.RayQuery q) family = rw (flag-back q)
type-back (Ti.BindingArray b z) family = rw (half_back b.0, size_back z)

-- an answer's frame reads as the answer
pub answer_back : (a : Answer) → answer_of (answer_frame a) ≡ a
unfolding answer_of unresolved_of
answer_back (Ok (Tr.Handle n)) = rw (half_back n.0)
answer_back (Ok (Tr.Value t)) = ap value_of (type-back t 9)
answer_back (Err (Un.Refused (Re.OutOfBoundsIndex r i))) = rw (half_back r.0, word_back i)
answer_back (Err (Un.Refused (Re.InvalidAccess r q))) = rw (half_back r.0, flag-back q)
answer_back (Err (Un.Refused (Re.InvalidSubAccess t q))) = rw (half_back t.0, flag-back q)
answer_back (Err (Un.Refused (Re.InvalidScalar r))) = rw (half_back r.0)
answer_back (Err (Un.Refused (Re.InvalidVector r))) = rw (half_back r.0)
answer_back (Err (Un.Refused (Re.InvalidPointer r))) = rw (half_back r.0)
answer_back (Err (Un.Refused (Re.InvalidImage r))) = rw (half_back r.0)
answer_back (Err (Un.Refused Re.FunctionReturnsVoid)) = refl
answer_back (Err (Un.Refused Re.IncompatibleOperands)) = refl
answer_back (Err (Un.Refused (Re.FunctionArgumentNotFound i))) = rw (word_back i)
answer_back (Err (Un.Refused Re.MissingSpecialType)) = refl
answer_back (Err (Un.Refused Re.Mismatch)) = refl
answer_back (Err (Un.Newer r)) = rw (half_back r.0)

-- a verdict's frame reads as the verdict; a newer component's index is not hex ffffffff, which stands for the composed
-- type
pub verdict-back : (r : RowNumber) (v : Verdict) → (v ≡ Err (Co.NewerComponent 0xffff_ffff) → ⊥)
    → verdict_of (verdict_frame r v) ≡ v
unfolding verdict_of
verdict-back r (Ok u) h = refl
verdict-back r (Err Co.ComposedType) h = refl
verdict-back r (Err (Co.ComponentCount e g)) h = rw (word_back e, word_back g)
verdict-back r (Err (Co.ComponentType i)) h = rw (word_back i)
verdict-back r (Err (Co.ComponentRefused i)) h = rw (word_back i)
verdict-back r (Err Co.NewerComposed) h = refl
verdict-back r (Err (Co.NewerComponent i)) h =
    rw (word_back i, ne_eqb i 0xffff_ffff (λ e. h (ap (λ (k : ℕ). Err (Co.NewerComponent k)) e)))

-- bytes 2 and 3 of a verdict's frame are its row
pub verdict-row : (r : RowNumber) (v : Verdict) → half (verdict_frame r v) 2 ≡ r.0
verdict-row r v = half_back r.0
