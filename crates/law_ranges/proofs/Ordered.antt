-- A type's own number at given counts, with the order of the three causes in the premises, as the tests of a size go.
-- `fault-at-ordered` (FirstAt.antt): it is the first cause that holds.
use Rattle.std.specs.Prelude.{Some}
use Prim.Native.Nat.{ℕ, ◌*◌, ◌≤◌, ◌<◌}
use mathlib.Core.Path.{◌≡◌}
use mathlib.Core.List.{List}
use Rattle.ir.specs.declared.TypeNumber.{TypeNumber}
use Rattle.ir.specs.declared.MemberNumber.{MemberNumber}
use Rattle.ir.specs.declared.ItemNumber.{ItemNumber}
use Rattle.ir.specs.declared.ArraySize.{ArraySize}
use Rattle.ir.specs.declared.ArraySize.TheVariants as As
use Rattle.ir.specs.declared.TypeInner.TheVariants as Ti
use Rattle.archive.specs.Access.{type_at}
use Rattle.rule_sizes.specs.declared.Alignment.{Alignment}
use Rattle.rule_sizes.specs.declared.SizeFault.{SizeFault}
use Rattle.rule_sizes.specs.declared.SizeFault.TheVariants.{Unmeasured, Misplaced, Huge}
use Rattle.rule_sizes.specs.Meaning.{struct_member, Greatest, Strided, Has, Fault}
use Rattle.rule_ranges.specs.Counts.{Counts}
use Rattle.rule_ranges.specs.MeaningAt.{Holds, Fresh, HasAt}

pub data OrderedAt (fr : List ℕ) (c : Counts) : TypeNumber → SizeFault → Type 0 where
  fixed : (n : TypeNumber) (k : SizeFault) → (Holds fr n → ⊥) → Fault fr n k → OrderedAt fr c n k
  over : (n b : TypeNumber) (z : ArraySize) (stride : ℕ) → type_at fr n ≡ Some (Ti.Array b z stride) → Holds fr b
      → OrderedAt fr c n Unmeasured
  stride : (n b : TypeNumber) (o : ItemNumber) (stride : ℕ) (a : Alignment) (z : ℕ)
      → type_at fr n ≡ Some (Ti.Array b (As.Pending o) stride)
      → (Holds fr b → ⊥) → Has fr b a z → (Strided a z stride → ⊥) → OrderedAt fr c n Misplaced
  array : (n b : TypeNumber) (o : ItemNumber) (stride : ℕ) (a : Alignment) (z : ℕ)
      → type_at fr n ≡ Some (Ti.Array b (As.Pending o) stride)
      → (Holds fr b → ⊥) → Has fr b a z → Strided a z stride → 4294967296 ≤ c o * stride → OrderedAt fr c n Huge
  struct : (n : TypeNumber) (first : MemberNumber) (count span : ℕ) (aligns : ℕ → Alignment) (sizes offsets : ℕ
      → ℕ) (a : Alignment) (z : ℕ)
      → type_at fr n ≡ Some (Ti.Struct first count span) → Holds fr n
      → ((i : ℕ) → i < count → HasAt fr c (struct_member fr first i).ty (aligns i) (sizes i)) → Greatest aligns count a
      → Fresh count aligns sizes offsets a z → 4294967296 ≤ z → OrderedAt fr c n Huge
