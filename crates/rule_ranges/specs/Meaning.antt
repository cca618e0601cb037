-- What holds a pending array, and choices of counts (document 02, request 6), apart from how sizes are worked out.
-- Over the types of a file.
use Rattle.rule_ranges.specs.declared.RangeError.TheVariants as Ge
use Rattle.std.specs.Prelude.{ℕ, zero, suc, ◌+◌, ◌≤◌, ◌<◌, ◌≡◌, true, cond, List, ltb, Some, Ok, Err}
use Rattle.ir.specs.declared.TypeNumber.{TypeNumber}
use Rattle.ir.specs.declared.MemberNumber.{MemberNumber}
use Rattle.ir.specs.declared.ItemNumber.{ItemNumber}
use Rattle.ir.specs.declared.ArraySize.{ArraySize}
use Rattle.ir.specs.declared.ArraySize.TheVariants as As
use Rattle.ir.specs.declared.TypeInner.TheVariants as Ti
use Rattle.archive.specs.Starts.{starts_of, override_count}
use Rattle.archive.specs.Names.{is_type}
use Rattle.archive.specs.Access.{type_at}
use Rattle.rule_sizes.specs.Meaning.{struct_member}
use Rattle.rule_sizes.specs.declared.Alignment.{Alignment}
use Rattle.rule_sizes.specs.declared.SizeFault.TheVariants.{Huge}
use Rattle.rule_sizes.specs.declared.Measure.{Measure}
use Rattle.rule_sizes.specs.declared.Measure.TheVariants as Me
use Rattle.rule_ranges.specs.declared.Range.{Range}
use Rattle.rule_ranges.specs.declared.Range.TheVariants.{Spans, Faulty}
use Rattle.rule_ranges.specs.TypeRange.{TypeRange}
use Rattle.rule_ranges.specs.Counts.{Counts, measure_at}
use Rattle.rule_ranges.specs.Ranges.{range_in}

-- A TYPE IS OVER A COUNT: it is a pending array of this override, or holds one at any depth, through elements of
-- arrays and members of structs
pub data Over (fr : List ℕ) : ItemNumber → TypeNumber → Type 0 where
  pending : (o : ItemNumber) (n b : TypeNumber) (stride : ℕ)
      → type_at fr n ≡ Some (Ti.Array b (As.Pending o) stride) → Over fr o n
  element : (o : ItemNumber) (n b : TypeNumber) (z : ArraySize) (stride : ℕ)
      → type_at fr n ≡ Some (Ti.Array b z stride) → Over fr o b → Over fr o n
  part : (o : ItemNumber) (n : TypeNumber) (first : MemberNumber) (count span i : ℕ)
      → type_at fr n ≡ Some (Ti.Struct first count span) → i < count
      → Over fr o (struct_member fr first i).ty → Over fr o n

-- CHOICES: one count for each override of the file

-- no count is above the other's
abbrev pub AtMost : List ℕ → Counts → Counts → Type 0
AtMost fr c d = (o : ItemNumber) → o.0 < override_count (starts_of fr) → c o ≤ d o

-- the same counts
abbrev pub Alike : List ℕ → Counts → Counts → Type 0
Alike fr c d = (o : ItemNumber) → o.0 < override_count (starts_of fr) → c o ≡ d o

-- between the least and the greatest counts
pub record Choice (fr : List ℕ) (least greatest c : Counts) : Type 0 where
  pub above : AtMost fr least c
  pub below : AtMost fr c greatest

-- the count of override o raised by one, and that of no other override of the file
pub record Raised (fr : List ℕ) (o : ItemNumber) (c d : Counts) : Type 0 where
  pub one : d o ≡ suc (c o)
  pub others : (p : ItemNumber) → p.0 < override_count (starts_of fr) → (p ≡ o → ⊥) → d p ≡ c p

-- A MEMBER BESIDE A COUNT: an array over it, with its stride; or not over it at any depth, which counts as stride 0
pub data Beside (fr : List ℕ) (o : ItemNumber) : TypeNumber → ℕ → Type 0 where
  array : (n b : TypeNumber) (stride : ℕ) → type_at fr n ≡ Some (Ti.Array b (As.Pending o) stride)
      → Beside fr o n stride
  still : (n : TypeNumber) → (Over fr o n → ⊥) → Beside fr o n 0

-- the sum of the first k
abbrev pub sum : (ℕ → ℕ) → ℕ → ℕ
sum f zero = 0
sum f (suc k) = sum f k + f k

-- RANGES

-- each override of the file has a least count of 1 or more, and no greater than its greatest
abbrev pub AllSpan : List ℕ → Counts → Counts → Type 0
AllSpan fr least greatest = (o : ItemNumber) → o.0 < override_count (starts_of fr)
    → (1 ≤ least o) × (least o ≤ greatest o)

-- the size of type n at some choice of counts
pub record Reached (fr : List ℕ) (least greatest : Counts) (n : TypeNumber) (a : Alignment) (z : ℕ) : Type 0 where
  pub counts : Counts
  pub choice : Choice fr least greatest counts
  pub is : measure_at fr (starts_of fr) counts n ≡ Me.Fills a z

-- a size between two
pub record Between (m : Measure) (a : Alignment) (y z : ℕ) : Type 0 where
  pub size : ℕ
  pub is : m ≡ Me.Fills a size
  pub low : y ≤ size
  pub high : size ≤ z

-- asked of a type that is there, all overrides with good spans
pub record Asked (fr : List ℕ) (least greatest : Counts) (n : TypeNumber) (r : Range) : Type 0 where
  pub there : is_type (starts_of fr) n ≡ true
  pub spans : AllSpan fr least greatest
  pub is : range_in fr (starts_of fr) least greatest n ≡ r

-- request 5's measure as a range: least and greatest are its size
abbrev pub once : Measure → Range
once (Me.Fills a z) = Spans a z z
once (Me.Faulty k p) = Faulty k p

-- STEPS

-- a size of so many bytes, or 44 of type n where they are 2 to the 32 or more
abbrev pub or_huge : TypeNumber → Alignment → ℕ → Measure
or_huge n a z = cond (ltb z 4294967296) (Me.Fills a z) (Me.Faulty Huge n)

-- a size that was y: of the same alignment, no less, and by no more than a total
pub record Steps (a b : Alignment) (y z total : ℕ) : Type 0 where
  pub same : a ≡ b
  pub kept : y ≤ z
  pub most : z ≤ y + total

-- short of 44
abbrev pub StepsTo : Alignment → ℕ → ℕ → Measure → Type 0
StepsTo a y total (Me.Fills b z) = Steps a b y z total
StepsTo a y total (Me.Faulty k p) = k ≡ Huge

-- a range up to z, or 44 of type n where z is 2 to the 32 or more
abbrev pub spans_or_huge : TypeNumber → Alignment → ℕ → ℕ → Range
spans_or_huge n a y z = cond (ltb z 4294967296) (Spans a y z) (Faulty Huge n)

-- a range that was from y to z, after a greatest count was raised: its greatest size moves by no more than a total, or
-- there is 44
pub data GreatestSteps (a : Alignment) (y z total : ℕ) : TypeRange → Type 0 where
  moves : (w : ℕ) → z ≤ w → w ≤ z + total → GreatestSteps a y z total (Ok (Spans a y w))
  huge : (p : TypeNumber) → GreatestSteps a y z total (Ok (Faulty Huge p))

-- after the least count of override o was raised: its least size moves by no more than a total, or there is 45 of that
-- override
pub data LeastSteps (o : ItemNumber) (a : Alignment) (y z total : ℕ) : TypeRange → Type 0 where
  moves : (w : ℕ) → y ≤ w → w ≤ y + total → LeastSteps o a y z total (Ok (Spans a w z))
  span : LeastSteps o a y z total (Err (Ge.Span o.0))
