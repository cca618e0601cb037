-- AccessIndex bounds a struct by its members (document 01, "A row's type"): of n members listed in order, part i is the
-- i-th where i is below n, and past them there is none. By the place in the list. On Array and BindingArray no bound is
-- checked: both sides are the same.
use Prim.Native.Nat.{ℕ, zero, suc, ◌≤◌, ◌<◌}
use native.Mathlib.Omega.{arith}
use mathlib.Core.Path.{◌≡◌, refl, ap, ◌∙◌}
use mathlib.Core.List.{List, [], ◌∷◌}
use mathlib.Core.Option.{none, some}
use lib.ListN.{length, get_or, get_elem?}
use Rattle.ir.specs.declared.TypeNumber.{TypeNumber}
use Rattle.ir.specs.declared.RowNumber.{RowNumber}
use Rattle.ir.specs.declared.MemberNumber.{MemberNumber}
use Rattle.ir.specs.declared.AddressSpace.{AddressSpace}
use Rattle.ir.specs.declared.ArraySize.{ArraySize}
use Rattle.ir.specs.declared.TypeInner.TheVariants as Ti
use Rattle.answers.specs.declared.Refusal.TheVariants.{OutOfBoundsIndex}
use Rattle.rule.specs.Answers.{number, value, given, refused}
use Rattle.rule.specs.Things.{listed}
use Rattle.rule.proofs.Named.{listed-length, listed_at}
use Rattle.rule_rows.specs.Access.{member, member_pointer, index_into, index_through}

at-within : {A : Type 0} (l : List A) (d : A) (i : ℕ) → i < length l → get_elem? l i ≡ some (get_or l i d)
at-within [] d i h = absurd (omega arith)
at-within (x ∷ l) d zero h = refl
at-within (x ∷ l) d (suc i) h = at-within l d i (omega arith)

at-past : {A : Type 0} (l : List A) (i : ℕ) → length l ≤ i → get_elem? l i ≡ none
at-past [] i h = refl
at-past (x ∷ l) zero h = absurd (omega arith)
at-past (x ∷ l) (suc i) h = at-past l i (omega arith)

pub listed-within : {A : Type 0} (f : ℕ → A) (n i : ℕ) → i < n → get_elem? (listed f n) i ≡ some (f i)
listed-within f n i h = at-within (listed f n) (f i) i (rw (listed-length f n) h) ∙ ap some (listed_at f (f i) n i h)

pub listed-past : {A : Type 0} (f : ℕ → A) (n i : ℕ) → n ≤ i → get_elem? (listed f n) i ≡ none
listed-past f n i h = at-past (listed f n) i (rw (listed-length f n) h)

-- a struct, and a pointer to one, at an index below its count and at any other
module _ (base : RowNumber) (i : ℕ) (f : ℕ → TypeNumber) (m : MemberNumber) (n t : ℕ) where
  pub index-member : i < n → index_into base i (listed f n) (Ti.Struct m n t) ≡ given (number (f i))
  index-member h = ap (member base i) (listed-within f n i h)

  pub index-past : n ≤ i → index_into base i (listed f n) (Ti.Struct m n t) ≡ refused (OutOfBoundsIndex base i)
  index-past h = ap (member base i) (listed-past f n i h)

  pub pointer-member : (ty : TypeNumber) (s : AddressSpace) → i < n
      → index_through base i ty s (listed f n) (Ti.Struct m n t) ≡ given (value (Ti.Pointer (f i) s))
  pointer-member ty s h = ap (member_pointer base i s) (listed-within f n i h)

  pub pointer-past : (ty : TypeNumber) (s : AddressSpace) → n ≤ i
      → index_through base i ty s (listed f n) (Ti.Struct m n t) ≡ refused (OutOfBoundsIndex base i)
  pointer-past ty s h = ap (member_pointer base i s) (listed-past f n i h)

-- an array and a binding array, at every index, and the pointers to them
module _ (base : RowNumber) (i : ℕ) (l : List TypeNumber) (b : TypeNumber) (z : ArraySize) (t : ℕ) where
  pub index-array : index_into base i l (Ti.Array b z t) ≡ given (number b)
  index-array = refl

  pub index-binding-array : index_into base i l (Ti.BindingArray b z) ≡ given (number b)
  index-binding-array = refl

  pub pointer-array : (ty : TypeNumber) (s : AddressSpace) → index_through base i ty s l (Ti.Array b z t)
      ≡ given (value (Ti.Pointer b s))
  pointer-array ty s = refl

  pub pointer-binding-array : (ty : TypeNumber) (s : AddressSpace)
      → index_through base i ty s l (Ti.BindingArray b z) ≡ given (value (Ti.Pointer b s))
  pointer-binding-array ty s = refl
