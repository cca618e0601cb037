-- What sizes and their faults mean (document 02, request 5), apart from how they are worked out: what a type rests
-- on, which alignment and size it has, and which number is its own. Over the types of a file.
use Rattle.ir.specs.declared.TypeInner.{TypeInner}
use Rattle.std.specs.Prelude.{ℕ, suc, ◌+◌, ◌*◌, ◌≤◌, ◌<◌, ◌≡◌, true, List, Option, Some}
use Rattle.ir.specs.declared.TypeNumber.{TypeNumber}
use Rattle.ir.specs.declared.MemberNumber.{MemberNumber}
use Rattle.ir.specs.declared.StructMember.{StructMember}
use Rattle.ir.specs.declared.VectorSize.{VectorSize}
use Rattle.ir.specs.declared.Scalar.{Scalar}
use Rattle.ir.specs.declared.ArraySize.TheVariants as As
use Rattle.ir.specs.declared.TypeInner.TheVariants as Ti
use Rattle.ir.specs.Scalars.{I32, U32, F16, F32}
use Rattle.archive.specs.Starts.{starts_of}
use Rattle.archive.specs.Access.{type_at, member_in}
use Rattle.rule_sizes.specs.declared.Alignment.{Alignment}
use Rattle.rule_sizes.specs.declared.Alignment.TheVariants.{Two, Four}
use Rattle.rule_sizes.specs.declared.SizeFault.{SizeFault}
use Rattle.rule_sizes.specs.declared.SizeFault.TheVariants.{Unmeasured, Misplaced, Huge}
use Rattle.rule_sizes.specs.Wgsl.{bytes, is_multiple, vector_align, vector_bytes, matrix_bytes}
use Rattle.rule_sizes.specs.Sizes.{fault_number}

-- THE LIST

-- the scalars of the list, with their alignment, which is their size too
pub data Integer : Scalar → Alignment → Type 0 where
  i32 : Integer I32 Four
  u32 : Integer U32 Four

pub data Float : Scalar → Alignment → Type 0 where
  f32 : Float F32 Four
  f16 : Float F16 Two

pub data Number : Scalar → Alignment → Type 0 where
  integer : (k : Scalar) (a : Alignment) → Integer k a → Number k a
  float : (k : Scalar) (a : Alignment) → Float k a → Number k a

-- the forms of the list: a constant array whatever its elements, and a struct with members whatever they are
pub data Listed : Option TypeInner → Type 0 where
  scalar : (k : Scalar) (a : Alignment) → Number k a → Listed (Some (Ti.Scalar k))
  vector : (z : VectorSize) (k : Scalar) (a : Alignment) → Number k a → Listed (Some (Ti.Vector z k))
  matrix : (c r : VectorSize) (k : Scalar) (a : Alignment) → Float k a → Listed (Some (Ti.Matrix c r k))
  atomic : (k : Scalar) (a : Alignment) → Integer k a → Listed (Some (Ti.Atomic k))
  array : (b : TypeNumber) (count stride : ℕ) → Listed (Some (Ti.Array b (As.Constant count) stride))
  struct : (first : MemberNumber) (count span : ℕ) → 0 < count → Listed (Some (Ti.Struct first count span))

-- WHAT STANDS WHERE

-- member i of a struct whose members begin at `first`
abbrev pub struct_member : List ℕ → MemberNumber → ℕ → StructMember
struct_member fr first i = member_in fr (starts_of fr) first i

-- a is the greatest of so many alignments
pub record Greatest (aligns : ℕ → Alignment) (count : ℕ) (a : Alignment) : Type 0 where
  pub one : ℕ
  pub there : one < count
  pub is : aligns one ≡ a
  pub bound : (i : ℕ) → i < count → bytes (aligns i) ≤ bytes a

-- an array's elements: the stride is a multiple of the element's alignment, and elements do not overlap
pub record Strided (align : Alignment) (size stride : ℕ) : Type 0 where
  pub multiple : is_multiple align stride ≡ true
  pub holds : size ≤ stride

-- a struct's members, by their alignments and sizes: each offset is a multiple of the member's own alignment; each
-- member begins at or past the end of the one before it; the span holds the last member and is a multiple of the
-- struct's alignment
pub record Placed (fr : List ℕ) (first : MemberNumber) (count : ℕ) (aligns : ℕ → Alignment) (sizes : ℕ → ℕ)
    (align : Alignment) (span : ℕ) : Type 0 where
  pub multiples : (i : ℕ) → i < count → is_multiple (aligns i) (struct_member fr first i).offset ≡ true
  pub apart : (i : ℕ) → suc i < count
      → (struct_member fr first i).offset + sizes i ≤ (struct_member fr first (suc i)).offset
  pub holds : (i : ℕ) → suc i ≡ count → (struct_member fr first i).offset + sizes i ≤ span
  pub whole : is_multiple align span ≡ true

-- A TYPE HAS this alignment and this size: a constructor for each form of the list
pub data Has (fr : List ℕ) : TypeNumber → Alignment → ℕ → Type 0 where
  scalar : (n : TypeNumber) (k : Scalar) (a : Alignment) → type_at fr n ≡ Some (Ti.Scalar k) → Number k a
      → Has fr n a (bytes a)
  vector : (n : TypeNumber) (z : VectorSize) (k : Scalar) (a : Alignment) → type_at fr n ≡ Some (Ti.Vector z k)
      → Number k a
      → Has fr n (vector_align z a) (vector_bytes z a)
  matrix : (n : TypeNumber) (c r : VectorSize) (k : Scalar) (a : Alignment) → type_at fr n ≡ Some (Ti.Matrix c r k)
      → Float k a
      → Has fr n (vector_align r a) (matrix_bytes c r a)
  atomic : (n : TypeNumber) (k : Scalar) (a : Alignment) → type_at fr n ≡ Some (Ti.Atomic k) → Integer k a
      → Has fr n a (bytes a)
  array : (n b : TypeNumber) (count stride : ℕ) (a : Alignment) (z : ℕ)
      → type_at fr n ≡ Some (Ti.Array b (As.Constant count) stride)
      → Has fr b a z → Strided a z stride → count * stride < 4294967296 → Has fr n a (count * stride)
  struct : (n : TypeNumber) (first : MemberNumber) (count span : ℕ) (aligns : ℕ → Alignment) (sizes : ℕ → ℕ)
      (a : Alignment)
      → type_at fr n ≡ Some (Ti.Struct first count span)
      → ((i : ℕ) → i < count → Has fr (struct_member fr first i).ty (aligns i) (sizes i)) → Greatest aligns count a
      → Placed fr first count aligns sizes a span → Has fr n a span

-- WHAT A SIZE RESTS ON: the type itself, and what the parts of a constant array or of a struct rest on; a type
-- outside the list rests on itself alone
pub data RestsOn (fr : List ℕ) : TypeNumber → TypeNumber → Type 0 where
  itself : (n : TypeNumber) → RestsOn fr n n
  element : (n b m : TypeNumber) (count stride : ℕ) → type_at fr n ≡ Some (Ti.Array b (As.Constant count) stride)
      → RestsOn fr b m → RestsOn fr n m
  part : (n m : TypeNumber) (first : MemberNumber) (count span i : ℕ)
      → type_at fr n ≡ Some (Ti.Struct first count span) → i < count
      → RestsOn fr (struct_member fr first i).ty m → RestsOn fr n m

-- THE THREE CAUSES of a number, each by itself

-- 42: the type is outside the list
abbrev pub Outside : List ℕ → TypeNumber → Type 0
Outside fr n = Listed (type_at fr n) → ⊥

-- 43: the type's parts have sizes, and a stride, an offset or the span breaks the rules
pub data Breaks (fr : List ℕ) : TypeNumber → Type 0 where
  stride : (n b : TypeNumber) (count stride : ℕ) (a : Alignment) (z : ℕ)
      → type_at fr n ≡ Some (Ti.Array b (As.Constant count) stride)
      → Has fr b a z → (Strided a z stride → ⊥) → Breaks fr n
  members : (n : TypeNumber) (first : MemberNumber) (count span : ℕ) (aligns : ℕ → Alignment) (sizes : ℕ → ℕ)
      (a : Alignment)
      → type_at fr n ≡ Some (Ti.Struct first count span)
      → ((i : ℕ) → i < count → Has fr (struct_member fr first i).ty (aligns i) (sizes i)) → Greatest aligns count a
      → (Placed fr first count aligns sizes a span → ⊥) → Breaks fr n

-- 44: the array's element has a size, and count times stride is 2 to the 32 or more
pub data Exceeds (fr : List ℕ) : TypeNumber → Type 0 where
  array : (n b : TypeNumber) (count stride : ℕ) (a : Alignment) (z : ℕ)
      → type_at fr n ≡ Some (Ti.Array b (As.Constant count) stride)
      → Has fr b a z → 4294967296 ≤ count * stride → Exceeds fr n

-- the cause of each number
abbrev pub Cause : List ℕ → TypeNumber → SizeFault → Type 0
Cause fr n Unmeasured = Outside fr n
Cause fr n Misplaced = Breaks fr n
Cause fr n Huge = Exceeds fr n

-- A TYPE'S OWN NUMBER is that of the first cause that holds: 42 precedes 43, and 43 precedes 44
pub record Fault (fr : List ℕ) (n : TypeNumber) (k : SizeFault) : Type 0 where
  pub cause : Cause fr n k
  pub first : (j : SizeFault) → fault_number j < fault_number k → Cause fr n j → ⊥

-- THE LOWEST FAULTY TYPE that a type rests on, and its number
pub record LowestFault (fr : List ℕ) (n m : TypeNumber) (k : SizeFault) : Type 0 where
  pub rests : RestsOn fr n m
  pub fault : Fault fr m k
  pub lowest : (j : TypeNumber) (l : SizeFault) → RestsOn fr n j → Fault fr j l → m.0 ≤ j.0
