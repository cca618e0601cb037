-- The fields of a frame (document 01, "The file"): for each, the bytes that it takes, what it reads from them, which
-- bytes may stand there, and the bytes that it writes. A layout is a list of fields; every byte that no field takes is
-- zero.
use Rattle.ir.specs.declared.Width.{Width}
use Rattle.std.specs.Prelude.{ℕ, zero, suc, ◌+◌, ◌*◌, ◌-◌, ◌/◌, ◌%◌, Bool, true, false, cond, not, ◌&&◌, ◌||◌, List, []}
use Rattle.std.specs.Prelude.{Option, Some, None}
use Rattle.std.specs.Prelude.{◌∷◌, ◌++◌, map, leb, ltb, eqb, get_or}
use Rattle.ir.specs.declared.TypeNumber.{TypeNumber}
use Rattle.ir.specs.declared.Scalar.{Scalar}
use Rattle.ir.specs.declared.ScalarKind.{ScalarKind}
use Rattle.ir.specs.declared.VectorSize.{VectorSize}
use Rattle.ir.specs.declared.CooperativeSize.{CooperativeSize}
use Rattle.ir.specs.declared.CooperativeRole.{CooperativeRole}
use Rattle.ir.specs.declared.AddressSpace.{AddressSpace}
use Rattle.ir.specs.declared.ArraySize.{ArraySize}
use Rattle.ir.specs.declared.ArraySize.TheVariants as As
use Rattle.ir.specs.declared.ImageDimension.{ImageDimension}
use Rattle.ir.specs.declared.ImageClass.{ImageClass}
use Rattle.ir.specs.declared.ImageClass.TheVariants as Ic
use Rattle.ir.specs.declared.Literal.{Literal}
use Rattle.ir.specs.declared.BinaryOperator.{BinaryOperator}
use Rattle.ir.specs.declared.RelationalFunction.{RelationalFunction}
use Rattle.ir.specs.declared.ImageQuery.{ImageQuery}
use Rattle.ir.specs.Numbers.{scalar_kind_of, scalar_kind_number, vector_size_of, vector_size_number}
use Rattle.ir.specs.Numbers.{cooperative_size_of}
use Rattle.ir.specs.Numbers.{cooperative_size_number}
use Rattle.ir.specs.Numbers.{cooperative_role_of, cooperative_role_number, space_of, space_number, space_access}
use Rattle.ir.specs.Numbers.{access_of}
use Rattle.ir.specs.Numbers.{access_number}
use Rattle.ir.specs.Numbers.{image_dimension_of, image_dimension_number, storage_format_of, storage_format_number}
use Rattle.ir.specs.Numbers.{flag_of}
use Rattle.ir.specs.Numbers.{flag_number}
use Rattle.ir.specs.Numbers.{is_width, width_of, width_number}
use Rattle.ir.specs.Numbers.{literal_of, literal_number, binary_operator_of, binary_operator_number}
use Rattle.ir.specs.Numbers.{relational_function_of, relational_function_number, image_query_of, image_query_number}
use Rattle.frames.specs.declared.Frame.{Frame}
use Rattle.frames.specs.Bytes.{byte, half, word, framed}

pub data Field : Type 0 where
  -- one byte, at the place given
  vector_size option_size cooperative_size role scalar_kind dimension flag literal operator : ℕ → Field
  -- a number of two bytes, or of four, from the place given on
  number wide : ℕ → Field
  -- byte 4 the kind, byte 5 the width, 1, 2, 4 or 8
  scalar : Field
  -- byte 6 the space, byte 7 the access, which only Storage has
  space : Field
  -- byte 4 the form, bytes 8 to 11 the count or the override
  array_size : Field
  -- byte 4 the class, bytes 5 to 7 what it has
  class : Field
  -- byte 4 whether there is a result, bytes 2 and 3 its type
  result : Field
  -- byte 6 the query or the function, bytes 2 and 3 the operand, where it is read
  query relational : Field
  -- byte 7 the flag, byte 8 the width, 1, 2, 4 or 8 where the flag is set
  convert : Field

-- what a field holds
abbrev pub Val : Field → Type 0
Val (vector_size i) = VectorSize
Val (option_size i) = Option VectorSize
Val (cooperative_size i) = CooperativeSize
Val (role i) = CooperativeRole
Val (scalar_kind i) = ScalarKind
Val (dimension i) = ImageDimension
Val (flag i) = Bool
Val (literal i) = Literal
Val (operator i) = BinaryOperator
Val (number i) = ℕ
Val (wide i) = ℕ
Val scalar = Scalar
Val space = AddressSpace
Val array_size = ArraySize
Val class = ImageClass
Val result = Option TypeNumber
Val query = ImageQuery × ℕ
Val relational = RelationalFunction × ℕ
Val convert = Option Width

-- WHICH BYTES

-- k is one of the n places from i on
abbrev pub among : ℕ → ℕ → ℕ → Bool
among i n k = leb i k && ltb k (i + n)

-- whether a field takes byte k
abbrev pub takes : Field → ℕ → Bool
takes (vector_size i) k = eqb k i
takes (option_size i) k = eqb k i
takes (cooperative_size i) k = eqb k i
takes (role i) k = eqb k i
takes (scalar_kind i) k = eqb k i
takes (dimension i) k = eqb k i
takes (flag i) k = eqb k i
takes (literal i) k = eqb k i
takes (operator i) k = eqb k i
takes (number i) k = among i 2 k
takes (wide i) k = among i 4 k
takes scalar k = among 4 2 k
takes space k = among 6 2 k
takes array_size k = eqb k 4 || among 8 4 k
takes class k = among 4 4 k
takes result k = among 2 3 k
takes query k = eqb k 6 || among 2 2 k
takes relational k = eqb k 6 || among 2 2 k
takes convert k = among 7 2 k

-- WHAT IS READ

abbrev pub option_size_of : ℕ → Option VectorSize
option_size_of b = cond (eqb b 0) None (Some (vector_size_of b))

-- form 0 is constant, 1 pending, 2 dynamic
abbrev pub array_size_of : ℕ → ℕ → ArraySize
array_size_of form n = cond (eqb form 0) (As.Constant n) (cond (eqb form 1) (As.Pending (record { 0 = n })) As.Dynamic)

-- class 0 is sampled, 1 depth, 2 external, 3 storage; bytes 5 to 7 follow
abbrev pub class_of : ℕ → ℕ → ℕ → ℕ → ImageClass
class_of c b5 b6 b7 =
    get_or (Ic.Sampled (scalar_kind_of b5) (flag_of b6) ∷ Ic.Depth (flag_of b6) ∷ Ic.External ∷ Ic.Storage
    (storage_format_of b5) (access_of b7) ∷ [])
    c Ic.External

abbrev pub result_of : ℕ → TypeNumber → Option TypeNumber
result_of b t = cond (flag_of b) (Some t) None

abbrev pub convert_of : ℕ → ℕ → Option Width
convert_of b w = cond (flag_of b) (Some (width_of w)) None

abbrev pub read : (x : Field) → Frame → Val x
read (vector_size i) f = vector_size_of (byte f i)
read (option_size i) f = option_size_of (byte f i)
read (cooperative_size i) f = cooperative_size_of (byte f i)
read (role i) f = cooperative_role_of (byte f i)
read (scalar_kind i) f = scalar_kind_of (byte f i)
read (dimension i) f = image_dimension_of (byte f i)
read (flag i) f = flag_of (byte f i)
read (literal i) f = literal_of (byte f i)
read (operator i) f = binary_operator_of (byte f i)
read (number i) f = half f i
read (wide i) f = word f i
read scalar f = record { kind = scalar_kind_of (byte f 4); width = width_of (byte f 5) }
read space f = space_of (byte f 6) (byte f 7)
read array_size f = array_size_of (byte f 4) (word f 8)
read class f = class_of (byte f 4) (byte f 5) (byte f 6) (byte f 7)
read result f = result_of (byte f 4) (record { 0 = half f 2 })
read query f = (image_query_of (byte f 6), half f 2)
read relational f = (relational_function_of (byte f 6), half f 2)
read convert f = convert_of (byte f 7) (byte f 8)

-- WHICH BYTES MAY STAND

-- a size of a vector, 2 to 4
abbrev pub is_size : ℕ → Bool
is_size b = leb 2 b && ltb b 5

-- the space is 0 to 9; the access 0 to 7 for Storage, else zero
abbrev pub is_space : ℕ → ℕ → Bool
is_space s a = ltb s 10 && cond (eqb s 4) (ltb a 8) (eqb a 0)

-- a constant count is at least 1, a pending array has any override number, and a dynamic one zero
abbrev pub is_array_size : ℕ → ℕ → Bool
is_array_size form n = cond (eqb form 0) (not (eqb n 0)) (cond (eqb form 1) true (cond (eqb form 2) (eqb n 0) false))

-- sampled: kind 0 to 5, multi; depth: multi; external: nothing; storage: format 0 to 40, access 0 to 7
abbrev pub is_class : ℕ → ℕ → ℕ → ℕ → Bool
is_class c b5 b6 b7 =
    get_or
    ((ltb b5 6 && (ltb b6 2 && eqb b7 0)) ∷ (eqb b5 0 && (ltb b6 2 && eqb b7 0)) ∷ (eqb b5 0 && (eqb b6 0 && eqb b7 0))
    ∷ (ltb b5 41 && (eqb b6 0 && ltb b7 8)) ∷ [])
    c false

-- a flag; where it is clear, what stands beside it is zero
abbrev pub is_option : ℕ → ℕ → Bool
is_option b n = ltb b 2 && (flag_of b || eqb n 0)

-- As: a flag; where it is set, the width converted to, and where it is clear zero
abbrev pub is_convert : ℕ → ℕ → Bool
is_convert b w = ltb b 2 && cond (flag_of b) (is_width w) (eqb w 0)

abbrev pub fits : Field → Frame → Bool
fits (vector_size i) f = is_size (byte f i)
fits (option_size i) f = eqb (byte f i) 0 || is_size (byte f i)
fits (cooperative_size i) f = eqb (byte f i) 8 || eqb (byte f i) 16
fits (role i) f = ltb (byte f i) 3
fits (scalar_kind i) f = ltb (byte f i) 6
fits (dimension i) f = leb 1 (byte f i) && ltb (byte f i) 5
fits (flag i) f = ltb (byte f i) 2
fits (literal i) f = ltb (byte f i) 12
fits (operator i) f = ltb (byte f i) 18
fits (number i) f = true
fits (wide i) f = true
fits scalar f = ltb (byte f 4) 6 && is_width (byte f 5)
fits space f = is_space (byte f 6) (byte f 7)
fits array_size f = is_array_size (byte f 4) (word f 8)
fits class f = is_class (byte f 4) (byte f 5) (byte f 6) (byte f 7)
fits result f = is_option (byte f 4) (half f 2)
-- the operand is read for a size, and for IsNan and IsInf; else it is zero
fits query f = ltb (byte f 6) 4 && (eqb (byte f 6) 0 || eqb (half f 2) 0)
fits relational f = ltb (byte f 6) 4 && (leb 2 (byte f 6) || eqb (half f 2) 0)
fits convert f = is_convert (byte f 7) (byte f 8)

-- WHAT IS WRITTEN

-- byte j of a number of two bytes, and of four
abbrev pub half_byte : ℕ → ℕ → ℕ
half_byte n j = get_or (n % 256 ∷ n / 256 ∷ []) j 0

abbrev pub word_byte : ℕ → ℕ → ℕ
word_byte n j = get_or (n % 256 ∷ n / 256 % 256 ∷ n / 256 / 256 % 256 ∷ n / 256 / 256 / 256 ∷ []) j 0

abbrev pub option_size_number : Option VectorSize → ℕ
option_size_number None = 0
option_size_number (Some n) = vector_size_number n

abbrev pub form_number : ArraySize → ℕ
form_number (As.Constant n) = 0
form_number (As.Pending o) = 1
form_number As.Dynamic = 2

abbrev pub form_count : ArraySize → ℕ
form_count (As.Constant n) = n
form_count (As.Pending o) = o.0
form_count As.Dynamic = 0

-- bytes 4 to 7
abbrev pub class_bytes : ImageClass → List ℕ
class_bytes (Ic.Sampled k m) = 0 ∷ scalar_kind_number k ∷ flag_number m ∷ 0 ∷ []
class_bytes (Ic.Depth m) = 1 ∷ 0 ∷ flag_number m ∷ 0 ∷ []
class_bytes Ic.External = 2 ∷ 0 ∷ 0 ∷ 0 ∷ []
class_bytes (Ic.Storage f a) = 3 ∷ storage_format_number f ∷ 0 ∷ access_number a ∷ []

-- bytes 2 to 4
abbrev pub result_bytes : Option TypeNumber → List ℕ
result_bytes None = 0 ∷ 0 ∷ 0 ∷ []
result_bytes (Some t) = t.0 % 256 ∷ t.0 / 256 ∷ 1 ∷ []

-- bytes 7 and 8
abbrev pub convert_bytes : Option Width → List ℕ
convert_bytes None = 0 ∷ 0 ∷ []
convert_bytes (Some w) = 1 ∷ width_number w ∷ []

-- the byte that a field writes at place k, one of those that it takes
abbrev pub write : (x : Field) → Val x → ℕ → ℕ
write (vector_size i) v k = vector_size_number v
write (option_size i) v k = option_size_number v
write (cooperative_size i) v k = cooperative_size_number v
write (role i) v k = cooperative_role_number v
write (scalar_kind i) v k = scalar_kind_number v
write (dimension i) v k = image_dimension_number v
write (flag i) v k = flag_number v
write (literal i) v k = literal_number v
write (operator i) v k = binary_operator_number v
write (number i) v k = half_byte v (k - i)
write (wide i) v k = word_byte v (k - i)
write scalar v k = get_or (scalar_kind_number v.kind ∷ width_number v.width ∷ []) (k - 4) 0
write space v k = get_or (space_number v ∷ space_access v ∷ []) (k - 6) 0
write array_size v k = cond (eqb k 4) (form_number v) (word_byte (form_count v) (k - 8))
write class v k = get_or (class_bytes v) (k - 4) 0
write result v k = get_or (result_bytes v) (k - 2) 0
write query v k = cond (eqb k 6) (image_query_number v.0) (half_byte v.1 (k - 2))
write relational v k = cond (eqb k 6) (relational_function_number v.0) (half_byte v.1 (k - 2))
write convert v k = get_or (convert_bytes v) (k - 7) 0

-- LAYOUTS

-- the layout of a frame of some kind: the bytes are free, or these fields stand there
pub data Layout : Type 0 where
  free : Layout
  fields : List Field → Layout

abbrev pub ValsOf : List Field → Type 0
ValsOf [] = Unit {0}
ValsOf (x ∷ l) = Val x × ValsOf l

-- what a layout holds
abbrev pub Vals : Layout → Type 0
Vals free = Unit {0}
Vals (fields l) = ValsOf l

abbrev pub read_each : (l : List Field) → Frame → ValsOf l
read_each [] f = tt
read_each (x ∷ l) f = (read x f, read_each l f)

abbrev pub read_all : (l : Layout) → Frame → Vals l
read_all free f = tt
read_all (fields l) f = read_each l f

abbrev pub taken : List Field → ℕ → Bool
taken [] k = false
taken (x ∷ l) k = takes x k || taken l k

-- the places after the family and the kind
abbrev pub places : List ℕ
places = 2 ∷ 3 ∷ 4 ∷ 5 ∷ 6 ∷ 7 ∷ 8 ∷ 9 ∷ 10 ∷ 11 ∷ 12 ∷ 13 ∷ 14 ∷ 15 ∷ []

abbrev pub all_of : List Bool → Bool
all_of [] = true
all_of (b ∷ bs) = b && all_of bs

-- the tests of a layout: each field's bytes are within its values, and every byte that no field takes is zero
abbrev pub tests : List Field → Frame → List Bool
tests l f = map (λ (x : Field). fits x f) l ++ map (λ (k : ℕ). taken l k || eqb (byte f k) 0) places

-- the bytes of a frame are within the values of its layout
abbrev pub fits_all : Layout → Frame → Bool
fits_all free f = true
fits_all (fields l) f = all_of (tests l f)

-- the byte that a layout writes at place k
abbrev pub write_each : (l : List Field) → ValsOf l → ℕ → ℕ
write_each [] vs k = 0
write_each (x ∷ l) vs k = cond (takes x k) (write x vs.0 k) (write_each l vs.1 k)

abbrev pub write_all : (l : Layout) → Vals l → ℕ → ℕ
write_all free vs k = 0
write_all (fields l) vs k = write_each l vs k

-- the frame of a family and a kind with the values of a layout
abbrev pub laid : ℕ → ℕ → (l : Layout) → Vals l → Frame
laid family kind l vs = framed (λ (k : ℕ). get_or (family ∷ kind ∷ []) k (write_all l vs k))
