-- A type's own number with the order of the three causes in the premises, as the tests of a size go. `fault-ordered`
-- (First.antt): it is the first cause that holds.
use Rattle.std.specs.Prelude.{Some}
use Prim.Native.Nat.{ℕ, ◌*◌, ◌≤◌, ◌<◌}
use mathlib.Core.Path.{◌≡◌}
use mathlib.Core.List.{List}
use Rattle.ir.specs.declared.TypeNumber.{TypeNumber}
use Rattle.ir.specs.declared.MemberNumber.{MemberNumber}
use Rattle.ir.specs.declared.ArraySize.TheVariants as As
use Rattle.ir.specs.declared.TypeInner.TheVariants as Ti
use Rattle.archive.specs.Access.{type_at}
use Rattle.rule_sizes.specs.declared.Alignment.{Alignment}
use Rattle.rule_sizes.specs.declared.SizeFault.{SizeFault}
use Rattle.rule_sizes.specs.declared.SizeFault.TheVariants.{Unmeasured, Misplaced, Huge}
use Rattle.rule_sizes.specs.Meaning.{Listed, struct_member, Greatest, Strided, Placed, Has}

pub data Ordered (fr : List ℕ) : TypeNumber → SizeFault → Type 0 where
  outside : (n : TypeNumber) → (Listed (type_at fr n) → ⊥) → Ordered fr n Unmeasured
  stride : (n b : TypeNumber) (count stride : ℕ) (a : Alignment) (z : ℕ)
      → type_at fr n ≡ Some (Ti.Array b (As.Constant count) stride)
      → Has fr b a z → (Strided a z stride → ⊥) → Ordered fr n Misplaced
  members : (n : TypeNumber) (first : MemberNumber) (count span : ℕ) (aligns : ℕ → Alignment) (sizes : ℕ → ℕ)
      (a : Alignment)
      → type_at fr n ≡ Some (Ti.Struct first count span)
      → ((i : ℕ) → i < count → Has fr (struct_member fr first i).ty (aligns i) (sizes i)) → Greatest aligns count a
      → (Placed fr first count aligns sizes a span → ⊥) → Ordered fr n Misplaced
  huge : (n b : TypeNumber) (count stride : ℕ) (a : Alignment) (z : ℕ)
      → type_at fr n ≡ Some (Ti.Array b (As.Constant count) stride)
      → Has fr b a z → Strided a z stride → 4294967296 ≤ count * stride → Ordered fr n Huge
