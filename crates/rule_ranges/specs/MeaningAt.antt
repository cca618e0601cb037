-- What sizes at given counts, and their faults, mean (document 02, request 6), apart from how they are worked out. A
-- type that holds no pending array has request 5's size, rests on what it rested on, and has the faults that it had.
use Rattle.std.specs.Prelude.{ℕ, suc, ◌+◌, ◌*◌, ◌≤◌, ◌<◌, ◌≡◌, List, Some}
use Rattle.ir.specs.declared.TypeNumber.{TypeNumber}
use Rattle.ir.specs.declared.MemberNumber.{MemberNumber}
use Rattle.ir.specs.declared.ItemNumber.{ItemNumber}
use Rattle.ir.specs.declared.ArraySize.{ArraySize}
use Rattle.ir.specs.declared.ArraySize.TheVariants as As
use Rattle.ir.specs.declared.TypeInner.TheVariants as Ti
use Rattle.archive.specs.Access.{type_at}
use Rattle.rule_sizes.specs.declared.Alignment.{Alignment}
use Rattle.rule_sizes.specs.declared.SizeFault.{SizeFault}
use Rattle.rule_sizes.specs.declared.SizeFault.TheVariants.{Unmeasured, Misplaced, Huge}
use Rattle.rule_sizes.specs.Wgsl.{round_up}
use Rattle.rule_sizes.specs.Sizes.{fault_number}
use Rattle.rule_sizes.specs.Meaning.{struct_member, Greatest, Strided, Has, RestsOn, Outside, Breaks, Exceeds}
use Rattle.rule_ranges.specs.Counts.{Counts}
use Rattle.rule_ranges.specs.Meaning.{Over}

-- a type is a pending array, or holds one: it is over some count
abbrev pub Holds : List ℕ → TypeNumber → Type 0
Holds fr n = (o : ItemNumber) × Over fr o n

-- WGSL's layout of a struct's members, by their alignments and sizes: the first offset is 0, each other one is the end
-- before it rounded up to the member's alignment, and the struct's size is the last end rounded up to the struct's
-- alignment
pub record Fresh (count : ℕ) (aligns : ℕ → Alignment) (sizes offsets : ℕ
    → ℕ) (align : Alignment) (size : ℕ) : Type 0 where
  pub first : offsets 0 ≡ 0
  pub next : (i : ℕ) → suc i < count → offsets (suc i) ≡ round_up (aligns (suc i)) (offsets i + sizes i)
  pub whole : (i : ℕ) → suc i ≡ count → size ≡ round_up align (offsets i + sizes i)

-- A TYPE HAS this alignment and this size at these counts
pub data HasAt (fr : List ℕ) (c : Counts) : TypeNumber → Alignment → ℕ → Type 0 where
  fixed : (n : TypeNumber) (a : Alignment) (z : ℕ) → (Holds fr n → ⊥) → Has fr n a z → HasAt fr c n a z
  array : (n b : TypeNumber) (o : ItemNumber) (stride : ℕ) (a : Alignment) (z : ℕ)
      → type_at fr n ≡ Some (Ti.Array b (As.Pending o) stride)
      → (Holds fr b → ⊥) → Has fr b a z → Strided a z stride → c o * stride < 4294967296
      → HasAt fr c n a (c o * stride)
  struct : (n : TypeNumber) (first : MemberNumber) (count span : ℕ) (aligns : ℕ → Alignment) (sizes offsets : ℕ
      → ℕ) (a : Alignment) (z : ℕ)
      → type_at fr n ≡ Some (Ti.Struct first count span) → Holds fr n
      → ((i : ℕ) → i < count → HasAt fr c (struct_member fr first i).ty (aligns i) (sizes i)) → Greatest aligns count a
      → Fresh count aligns sizes offsets a z → z < 4294967296 → HasAt fr c n a z

-- WHAT A SIZE RESTS ON: an array over a pending array, or over what holds one, is outside the list and rests on itself
-- alone
pub data RestsOnAt (fr : List ℕ) : TypeNumber → TypeNumber → Type 0 where
  itself : (n : TypeNumber) → RestsOnAt fr n n
  fixed : (n m : TypeNumber) → (Holds fr n → ⊥) → RestsOn fr n m → RestsOnAt fr n m
  element : (n b m : TypeNumber) (o : ItemNumber) (stride : ℕ)
      → type_at fr n ≡ Some (Ti.Array b (As.Pending o) stride) → (Holds fr b → ⊥)
      → RestsOn fr b m → RestsOnAt fr n m
  part : (n m : TypeNumber) (first : MemberNumber) (count span i : ℕ)
      → type_at fr n ≡ Some (Ti.Struct first count span) → Holds fr n → i < count
      → RestsOnAt fr (struct_member fr first i).ty m → RestsOnAt fr n m

-- THE THREE CAUSES of a number at these counts, each by itself; those of a type that holds no pending array are request
-- 5's

-- 42: the type is outside the list, or an array over what is a pending array or holds one
pub data OutsideAt (fr : List ℕ) : TypeNumber → Type 0 where
  fixed : (n : TypeNumber) → (Holds fr n → ⊥) → Outside fr n → OutsideAt fr n
  over : (n b : TypeNumber) (z : ArraySize) (stride : ℕ) → type_at fr n ≡ Some (Ti.Array b z stride) → Holds fr b
      → OutsideAt fr n

-- 43: a pending array's element has a size, and the stride breaks the rules; never a struct that holds a pending array
pub data BreaksAt (fr : List ℕ) (c : Counts) : TypeNumber → Type 0 where
  fixed : (n : TypeNumber) → (Holds fr n → ⊥) → Breaks fr n → BreaksAt fr c n
  stride : (n b : TypeNumber) (o : ItemNumber) (stride : ℕ) (a : Alignment) (z : ℕ)
      → type_at fr n ≡ Some (Ti.Array b (As.Pending o) stride)
      → HasAt fr c b a z → (Strided a z stride → ⊥) → BreaksAt fr c n

-- 44: a pending array's element has a size, and count times stride is 2 to the 32 or more; or the members of a struct
-- that holds a pending array have sizes, and its own is 2 to the 32 or more
pub data ExceedsAt (fr : List ℕ) (c : Counts) : TypeNumber → Type 0 where
  fixed : (n : TypeNumber) → (Holds fr n → ⊥) → Exceeds fr n → ExceedsAt fr c n
  array : (n b : TypeNumber) (o : ItemNumber) (stride : ℕ) (a : Alignment) (z : ℕ)
      → type_at fr n ≡ Some (Ti.Array b (As.Pending o) stride)
      → HasAt fr c b a z → 4294967296 ≤ c o * stride → ExceedsAt fr c n
  struct : (n : TypeNumber) (first : MemberNumber) (count span : ℕ) (aligns : ℕ → Alignment) (sizes offsets : ℕ
      → ℕ) (a : Alignment) (z : ℕ)
      → type_at fr n ≡ Some (Ti.Struct first count span) → Holds fr n
      → ((i : ℕ) → i < count → HasAt fr c (struct_member fr first i).ty (aligns i) (sizes i)) → Greatest aligns count a
      → Fresh count aligns sizes offsets a z → 4294967296 ≤ z → ExceedsAt fr c n

-- the cause of each number
abbrev pub CauseAt : List ℕ → Counts → TypeNumber → SizeFault → Type 0
CauseAt fr c n Unmeasured = OutsideAt fr n
CauseAt fr c n Misplaced = BreaksAt fr c n
CauseAt fr c n Huge = ExceedsAt fr c n

-- A TYPE'S OWN NUMBER at these counts is that of the first cause that holds: 42 precedes 43, and 43 precedes 44
pub record FaultAt (fr : List ℕ) (c : Counts) (n : TypeNumber) (k : SizeFault) : Type 0 where
  pub cause : CauseAt fr c n k
  pub first : (j : SizeFault) → fault_number j < fault_number k → CauseAt fr c n j → ⊥

-- THE LOWEST FAULTY TYPE that a type rests on, and its number
pub record LowestFaultAt (fr : List ℕ) (c : Counts) (n m : TypeNumber) (k : SizeFault) : Type 0 where
  pub rests : RestsOnAt fr n m
  pub fault : FaultAt fr c m k
  pub lowest : (j : TypeNumber) (l : SizeFault) → RestsOnAt fr n j → FaultAt fr c j l → m.0 ≤ j.0
