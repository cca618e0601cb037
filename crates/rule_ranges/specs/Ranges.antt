-- Least and greatest size of each type, between a least and a greatest count for each override; numbers 42 to 44 by
-- the greatest counts; number 45 (document 02, request 6).
use Rattle.rule_ranges.specs.declared.RangeError.TheVariants as Ge
use Rattle.std.specs.Prelude.{ℕ, Bool, cond, ◌&&◌, List, leb, get_or, Option, Some, None, Ok, Err}
use Rattle.scan.specs.Lowest.{lowest}
use Rattle.ir.specs.declared.TypeNumber.{TypeNumber}
use Rattle.ir.specs.declared.ItemNumber.{ItemNumber}
use Rattle.answers.specs.Numbers.{SaidOne, asked, instead, at, not_there, error_values}
use Rattle.frames.specs.declared.Frame.{Frame}
use Rattle.frames.specs.Out.{refused_frame, ranged_frame}
use Rattle.archive.specs.declared.Starts.{Starts}
use Rattle.archive.specs.Starts.{override_count}
use Rattle.archive.specs.Names.{is_type}
use Rattle.rule_sizes.specs.declared.Measure.{Measure}
use Rattle.rule_sizes.specs.declared.Measure.TheVariants as Me
use Rattle.rule_sizes.specs.Wgsl.{bytes}
use Rattle.rule_sizes.specs.Sizes.{fault_number}
use Rattle.rule_ranges.specs.declared.Range.{Range}
use Rattle.rule_ranges.specs.declared.Range.TheVariants.{Spans, Faulty}
use Rattle.rule_ranges.specs.TypeRange.{TypeRange}
use Rattle.rule_ranges.specs.Pending.{look_holds}
use Rattle.rule_ranges.specs.Counts.{Counts, measure_by, measure_at}

-- the counts of a table; entries past the file's overrides are not looked at
abbrev pub counts_of : List ℕ → Counts
counts_of table o = get_or table o.0 0

-- what type n fills by a table of marks, which types go by counts, and a table of counts
abbrev pub measure_marked : List ℕ → Starts → List Bool → List ℕ → TypeNumber → Measure
measure_marked fr s marks counts = measure_by fr s (look_holds marks) (counts_of counts)

-- THE RANGE, by what a type fills at the least and at the greatest counts: a fault at the greatest counts is the
-- type's. Where it has a size there it has one at the least counts too, and the same alignment (`range-reached`, crate
-- law_ranges)
abbrev pub range_of : Measure → Measure → Range
range_of (Me.Fills b y) (Me.Fills a z) = Spans a y z
range_of (Me.Faulty j q) (Me.Fills a z) = Faulty j q
range_of (Me.Fills b y) (Me.Faulty k p) = Faulty k p
range_of (Me.Faulty j q) (Me.Faulty k p) = Faulty k p

unfoldable pub range_in : List ℕ → Starts → Counts → Counts → TypeNumber → Range
range_in fr s least greatest n = range_of (measure_at fr s least n) (measure_at fr s greatest n)

-- NUMBER 45: of the file's overrides, whether or not an array is over it, the lowest whose least count is 0 or above
-- its greatest

abbrev pub span_ok : Counts → Counts → ItemNumber → Bool
span_ok least greatest o = leb 1 (least o) && leb (least o) (greatest o)

unfoldable pub faulty_span : Starts → Counts → Counts → Option ℕ
faulty_span s least greatest = lowest (λ (o : ℕ). span_ok least greatest (record { 0 = o })) (override_count s)

-- before any size
abbrev pub unless_span : Option ℕ → Range → TypeRange
unless_span (Some o) r = Err (Ge.Span o)
unless_span None r = Ok r

-- what is said of type n: number 6 where there is no such type
unfoldable pub type_range_in : List ℕ → Starts → Counts → Counts → TypeNumber → TypeRange
type_range_in fr s least greatest n =
    cond (is_type s n) (unless_span (faulty_span s least greatest) (range_in fr s least greatest n)) (Err Ge.Index)

-- THE NUMBERS handed back: alignment, least and greatest size in bytes; or a number with the type, or with the
-- override, as its place; number 6 with place 0

pub record SizeRange : Type 0 where
  pub align : ℕ
  pub least : ℕ
  pub greatest : ℕ

-- the number of a range: 0 where there are sizes
abbrev pub range_number : Range → ℕ
range_number (Spans a y z) = 0
range_number (Faulty k p) = fault_number k

abbrev pub range_said : Range → SaidOne SizeRange
range_said (Spans a y z) = asked (record { align = bytes a; least = y; greatest = z })
range_said (Faulty k p) = instead (at (fault_number k) p.0)

abbrev pub type_range_said : TypeRange → SaidOne SizeRange
type_range_said (Ok r) = range_said r
type_range_said (Err (Ge.Span o)) = instead (at 45 o)
type_range_said (Err Ge.Index) = instead not_there
type_range_said (Err (Ge.NotAccepted e)) = instead (error_values e)

-- AS A FRAME: family 13; a number is family 10, as every other

abbrev pub range_said_frame : SaidOne SizeRange → Frame
range_said_frame (asked r) = ranged_frame r.align r.least r.greatest
range_said_frame (instead r) = refused_frame r

-- the range of type n
abbrev pub range_frame : List ℕ → Starts → Counts → Counts → ℕ → Frame
range_frame fr s least greatest n = range_said_frame (range_said (range_in fr s least greatest (record { 0 = n })))
