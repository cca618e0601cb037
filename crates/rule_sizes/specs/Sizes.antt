-- Alignment and size of each type, from those of the types that it names (document 02, request 5); or number 42, 43
-- or 44 and the lowest faulty type that it rests on. What these mean stands apart, in Meaning.antt; crate law_sizes
-- has the laws that join the two.
use Rattle.answers.specs.declared.QueryError.TheVariants as Qe
use Rattle.std.specs.Prelude.{ℕ, zero, suc, ◌+◌, ◌*◌, ◌/◌, ◌%◌, Bool, true, cond, ◌&&◌, List, [], ◌++◌, eqb, ltb, leb}
use Rattle.std.specs.Prelude.{Ok, Err}
use Rattle.std.specs.Prelude.{Option, Some, None}
use Rattle.std.specs.Prelude.{length, drop, get_or}
use Rattle.ir.specs.declared.TypeNumber.{TypeNumber}
use Rattle.ir.specs.declared.MemberNumber.{MemberNumber}
use Rattle.ir.specs.declared.VectorSize.{VectorSize}
use Rattle.ir.specs.declared.ArraySize.{ArraySize}
use Rattle.ir.specs.declared.ArraySize.TheVariants as As
use Rattle.ir.specs.declared.TypeInner.{TypeInner}
use Rattle.ir.specs.declared.TypeInner.TheVariants as Ti
use Rattle.answers.specs.Limit.{max_frames}
use Rattle.answers.specs.Numbers.{SaidOne, asked, instead, at, not_there, error_values}
use Rattle.frames.specs.declared.Frame.{Frame}
use Rattle.frames.specs.Bytes.{half, word, bytes_of}
use Rattle.frames.specs.Out.{refused_frame, sized_frame}
use Rattle.archive.specs.declared.Starts.{Starts}
use Rattle.archive.specs.Starts.{type_count}
use Rattle.archive.specs.Names.{is_type}
use Rattle.archive.specs.Access.{type_in, member_in}
use Rattle.rule.specs.InOrder.{in_order}
use Rattle.rule_sizes.specs.declared.Alignment.{Alignment}
use Rattle.rule_sizes.specs.declared.Alignment.TheVariants.{Two}
use Rattle.rule_sizes.specs.declared.SizeFault.{SizeFault}
use Rattle.rule_sizes.specs.declared.SizeFault.TheVariants.{Unmeasured, Misplaced, Huge}
use Rattle.rule_sizes.specs.declared.Measure.{Measure}
use Rattle.rule_sizes.specs.declared.Measure.TheVariants.{Fills, Faulty}
use Rattle.rule_sizes.specs.TypeSize.{TypeSize}
use Rattle.rule_sizes.specs.Wgsl.{bytes, is_multiple, greater, integer_align, float_align, number_align, vector_align}
use Rattle.rule_sizes.specs.Wgsl.{vector_bytes, matrix_bytes, alignment_of}

-- A TYPE THAT NAMES NONE, by the alignment of its scalar; number 42 where that is not in the list

abbrev pub scalar_measure : TypeNumber → Option Alignment → Measure
scalar_measure n (Some a) = Fills a (bytes a)
scalar_measure n None = Faulty Unmeasured n

abbrev pub vector_measure : TypeNumber → VectorSize → Option Alignment → Measure
vector_measure n z (Some a) = Fills (vector_align z a) (vector_bytes z a)
vector_measure n z None = Faulty Unmeasured n

abbrev pub matrix_measure : TypeNumber → VectorSize → VectorSize → Option Alignment → Measure
matrix_measure n c r (Some a) = Fills (vector_align r a) (matrix_bytes c r a)
matrix_measure n c r None = Faulty Unmeasured n

abbrev pub leaf_of : TypeNumber → TypeInner → Measure
leaf_of n (Ti.Scalar k) = scalar_measure n (number_align k)
leaf_of n (Ti.Vector z k) = vector_measure n z (number_align k)
leaf_of n (Ti.Matrix c r k) = matrix_measure n c r (float_align k)
leaf_of n (Ti.CooperativeMatrix c r k o) = Faulty Unmeasured n
leaf_of n (Ti.Atomic k) = scalar_measure n (integer_align k)
leaf_of n (Ti.Pointer b p) = Faulty Unmeasured n
leaf_of n (Ti.ValuePointer z k p) = Faulty Unmeasured n
leaf_of n (Ti.Array b z t) = Faulty Unmeasured n
leaf_of n (Ti.Struct m j t) = Faulty Unmeasured n
leaf_of n (Ti.Image d a c) = Faulty Unmeasured n
leaf_of n (Ti.Sampler q) = Faulty Unmeasured n
leaf_of n (Ti.AccelerationStructure q) = Faulty Unmeasured n
leaf_of n (Ti.RayQuery q) = Faulty Unmeasured n
leaf_of n (Ti.BindingArray b z) = Faulty Unmeasured n

-- AN ARRAY, type n, of so many elements that fill so much: the stride is a multiple of the element's alignment and
-- holds the element, else 43; the size is count times stride, and 44 where that is 2 to the 32 or more
unfoldable pub array_of : TypeNumber → Measure → ℕ → ℕ → Measure
array_of n (Faulty k p) count stride = Faulty k p
array_of n (Fills a z) count stride =
    cond (is_multiple a stride && leb z stride)
    (cond (ltb (count * stride) 4294967296) (Fills a (count * stride)) (Faulty Huge n)) (Faulty Misplaced n)

-- A STRUCT, member by member

-- the members so far: their greatest alignment, where the last one ends, and whether all stand well; or the lowest
-- faulty type
pub data Parts : Type 0 where
  Laid : Alignment → ℕ → Bool → Parts
  Broken : SizeFault → TypeNumber → Parts

-- the fault of the lower type
abbrev pub lower : SizeFault → TypeNumber → SizeFault → TypeNumber → Parts
lower k p j q = cond (leb p.0 q.0) (Broken k p) (Broken j q)

-- one member more, at an offset: a multiple of its own alignment, at or past the end of the member before it
unfoldable pub joined : Parts → ℕ → Measure → Parts
joined (Broken k p) offset (Faulty j q) = lower k p j q
joined (Broken k p) offset (Fills a z) = Broken k p
joined (Laid b e ok) offset (Faulty j q) = Broken j q
joined (Laid b e ok) offset (Fills a z) = Laid (greater b a) (offset + z) (ok && (is_multiple a offset && leb e offset))

-- the first k members, by what each type fills
unfoldable pub parts_of : List ℕ → Starts → (TypeNumber → Measure) → MemberNumber → ℕ → Parts
parts_of fr s past first zero = Laid Two 0 true
parts_of fr s past first (suc k) =
    let m = member_in fr s first k in joined (parts_of fr s past first k) m.offset (past m.ty)

-- the span of struct n holds the last member and is a multiple of the struct's alignment, else 43
unfoldable pub spanned : TypeNumber → Parts → ℕ → Measure
spanned n (Broken k p) span = Faulty k p
spanned n (Laid a e ok) span = cond (ok && (leb e span && is_multiple a span)) (Fills a span) (Faulty Misplaced n)

-- a struct without members is outside the list
unfoldable pub struct_of : TypeNumber → Parts → ℕ → ℕ → Measure
struct_of n parts count span = cond (eqb count 0) (Faulty Unmeasured n) (spanned n parts span)

-- ANY TYPE, by its form; `past` is what the types fill that it names

-- pending and dynamic arrays are outside the list
abbrev pub sized_array : TypeNumber → (TypeNumber → Measure) → TypeNumber → ArraySize → ℕ → Measure
sized_array n past b (As.Constant c) stride = array_of n (past b) c stride
sized_array n past b (As.Pending o) stride = Faulty Unmeasured n
sized_array n past b As.Dynamic stride = Faulty Unmeasured n

abbrev pub of_inner : List ℕ → Starts → (TypeNumber → Measure) → TypeNumber → TypeInner → Measure
of_inner fr s past n (Ti.Array b z t) = sized_array n past b z t
of_inner fr s past n (Ti.Struct m j t) = struct_of n (parts_of fr s past m j) j t
of_inner fr s past n (Ti.Scalar k) = leaf_of n (Ti.Scalar k)
of_inner fr s past n (Ti.Vector z k) = leaf_of n (Ti.Vector z k)
of_inner fr s past n (Ti.Matrix c r k) = leaf_of n (Ti.Matrix c r k)
of_inner fr s past n (Ti.CooperativeMatrix c r k o) = leaf_of n (Ti.CooperativeMatrix c r k o)
of_inner fr s past n (Ti.Atomic k) = leaf_of n (Ti.Atomic k)
of_inner fr s past n (Ti.Pointer b p) = leaf_of n (Ti.Pointer b p)
of_inner fr s past n (Ti.ValuePointer z k p) = leaf_of n (Ti.ValuePointer z k p)
of_inner fr s past n (Ti.Image d a c) = leaf_of n (Ti.Image d a c)
of_inner fr s past n (Ti.Sampler q) = leaf_of n (Ti.Sampler q)
of_inner fr s past n (Ti.AccelerationStructure q) = leaf_of n (Ti.AccelerationStructure q)
of_inner fr s past n (Ti.RayQuery q) = leaf_of n (Ti.RayQuery q)
of_inner fr s past n (Ti.BindingArray b z) = leaf_of n (Ti.BindingArray b z)

-- an unknown kind is outside the list
abbrev pub of_form : List ℕ → Starts → (TypeNumber → Measure) → TypeNumber → Option TypeInner → Measure
of_form fr s past n (Some t) = of_inner fr s past n t
of_form fr s past n None = Faulty Unmeasured n

-- TYPES IN ORDER, each over those before it

-- the measure of an earlier type; an accepted file's types name no other
abbrev pub look : List Measure → TypeNumber → Measure
look l b = get_or l b.0 (Faulty Unmeasured b)

abbrev pub next : List ℕ → Starts → List Measure → ℕ → Measure
next fr s l n = of_form fr s (look l) (record { 0 = n }) (type_in fr s (record { 0 = n }))

-- the measures of the first n types
unfoldable pub measures : List ℕ → Starts → ℕ → List Measure
measures fr s n = in_order (next fr s) n

-- what type n fills
unfoldable pub measure_in : List ℕ → Starts → TypeNumber → Measure
measure_in fr s n = of_form fr s (look (measures fr s n.0)) n (type_in fr s n)

-- what is said of type n: number 6 where there is no such type
unfoldable pub type_size_in : List ℕ → Starts → TypeNumber → TypeSize
type_size_in fr s n = cond (is_type s n) (Ok (measure_in fr s n)) (Err Qe.Index)

-- THE NUMBERS handed back: alignment and size in bytes, or a number with the type as its place; number 6 with place 0

abbrev pub fault_number : SizeFault → ℕ
fault_number Unmeasured = 42
fault_number Misplaced = 43
fault_number Huge = 44

pub record Size : Type 0 where
  pub align : ℕ
  pub size : ℕ

-- the number of a measure: 0 where there is a size
abbrev pub measure_number : Measure → ℕ
measure_number (Fills a z) = 0
measure_number (Faulty k p) = fault_number k

abbrev pub measure_said : Measure → SaidOne Size
measure_said (Fills a z) = asked (record { align = bytes a; size = z })
measure_said (Faulty k p) = instead (at (fault_number k) p.0)

abbrev pub size_said : TypeSize → SaidOne Size
size_said (Ok m) = measure_said m
size_said (Err Qe.Index) = instead not_there
size_said (Err (Qe.NotAccepted e)) = instead (error_values e)

-- AS A FRAME: alignment and size are family 12; a number is family 10, as every other

abbrev pub size_said_frame : SaidOne Size → Frame
size_said_frame (asked s) = sized_frame s.align s.size
size_said_frame (instead r) = refused_frame r

-- the frame of a measure
abbrev pub measure_frame : Measure → Frame
measure_frame m = size_said_frame (measure_said m)

-- and back: the fault of a number
abbrev pub size_fault_of : ℕ → SizeFault
size_fault_of b = cond (eqb b 42) Unmeasured (cond (eqb b 43) Misplaced Huge)

-- the measure of a frame: family 12, else a number
unfoldable pub measure_of : Frame → Measure
measure_of f = cond (eqb f.b0 12) (Fills (alignment_of f.b4) (word f 8))
    (Faulty (size_fault_of f.b1) (record { 0 = half f 2 }))

-- frames one after the other, the first n
unfoldable pub frames_of : (ℕ → Frame) → ℕ → List ℕ
frames_of frame zero = []
frames_of frame (suc n) = frames_of frame n ++ bytes_of (frame n)

-- what type n fills
abbrev pub size_frame : List ℕ → Starts → ℕ → Frame
size_frame fr s n = measure_frame (measure_in fr s (record { 0 = n }))

-- EVERY TYPE of a file, a frame each, in order: the first n
abbrev pub size_frames : List ℕ → Starts → ℕ → List ℕ
size_frames fr s n = frames_of (size_frame fr s) n

-- a buffer with a frame for every type at its front; as it was where it has no room for them, or there are more than
-- 1,024
unfoldable pub frames_written : (ℕ → Frame) → Starts → List ℕ → List ℕ
frames_written frame s o =
    cond (leb (type_count s) max_frames && leb (16 * type_count s) (length o))
    (frames_of frame (type_count s) ++ drop (16 * type_count s) o) o
