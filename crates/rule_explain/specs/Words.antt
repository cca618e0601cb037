-- The words of the lines for people (docs/EXPLAIN.md; those of refusals and faults are document 01's, "Numbers handed
-- back"), each by its number, and their names. A name that stands for several (as `space`) is the number of the first;
-- the others follow it, in the order of their codes.
use Rattle.std.specs.Prelude.{ℕ, List, [], ◌∷◌, get_or}
use Prim.Native.Char.{code}
use Prim.Native.String.{String}
use Prim.Native.String as S

-- the characters of a word, by their numbers
abbrev pub characters : String → List ℕ
characters S.[] = []
characters (S.◌∷◌ c s) = code c ∷ characters s

-- THE WORDS
unfoldable pub word_table : List String
word_table =
    "" ∷
    "row " ∷
    "  " ∷
    "\n" ∷
    "  (type " ∷
    ")\n" ∷
    "type " ∷
    "unknown kind " ∷
    ", " ∷
    "<" ∷
    ">" ∷
    "x" ∷
    "i32" ∷
    "u32" ∷
    "f32" ∷
    "bool" ∷
    "{AbstractInt}" ∷
    "{AbstractFloat}" ∷
    "i16" ∷
    "i64" ∷
    "u16" ∷
    "u64" ∷
    "f16" ∷
    "f64" ∷
    "sint(" ∷
    "uint(" ∷
    "float(" ∷
    "bool(" ∷
    "{AbstractInt}(" ∷
    "{AbstractFloat}(" ∷
    " bytes)" ∷
    "vec" ∷
    "mat" ∷
    "atomic<" ∷
    "coop_mat" ∷
    ", A" ∷
    ", B" ∷
    ", C" ∷
    "ptr<" ∷
    "value_ptr<" ∷
    "function" ∷
    "private" ∷
    "workgroup" ∷
    "uniform" ∷
    "storage" ∷
    "handle" ∷
    "immediate" ∷
    "task_payload" ∷
    "ray_payload" ∷
    "incoming_ray_payload" ∷
    "no_access" ∷
    "read" ∷
    "write" ∷
    "read_write" ∷
    "atomic_only" ∷
    "read_atomic" ∷
    "write_atomic" ∷
    "atomic" ∷
    "array<" ∷
    "binding_array<" ∷
    ", override " ∷
    "struct" ∷
    "texture_" ∷
    "texture_external" ∷
    "multisampled_" ∷
    "depth_" ∷
    "depth_multisampled_" ∷
    "storage_" ∷
    "1d" ∷
    "2d" ∷
    "3d" ∷
    "cube" ∷
    "_array" ∷
    "r8unorm" ∷
    "r8snorm" ∷
    "r8uint" ∷
    "r8sint" ∷
    "r16uint" ∷
    "r16sint" ∷
    "r16float" ∷
    "rg8unorm" ∷
    "rg8snorm" ∷
    "rg8uint" ∷
    "rg8sint" ∷
    "r32uint" ∷
    "r32sint" ∷
    "r32float" ∷
    "rg16uint" ∷
    "rg16sint" ∷
    "rg16float" ∷
    "rgba8unorm" ∷
    "rgba8snorm" ∷
    "rgba8uint" ∷
    "rgba8sint" ∷
    "bgra8unorm" ∷
    "rgb10a2uint" ∷
    "rgb10a2unorm" ∷
    "rg11b10ufloat" ∷
    "r64uint" ∷
    "rg32uint" ∷
    "rg32sint" ∷
    "rg32float" ∷
    "rgba16uint" ∷
    "rgba16sint" ∷
    "rgba16float" ∷
    "rgba32uint" ∷
    "rgba32sint" ∷
    "rgba32float" ∷
    "r16unorm" ∷
    "r16snorm" ∷
    "rg16unorm" ∷
    "rg16snorm" ∷
    "rgba16unorm" ∷
    "rgba16snorm" ∷
    "sampler" ∷
    "sampler_comparison" ∷
    "acceleration_structure" ∷
    "acceleration_structure<vertex_return>" ∷
    "ray_query" ∷
    "ray_query<vertex_return>" ∷
    "refused " ∷
    " bound: operand row " ∷
    " access: operand row " ∷
    " subaccess: type " ∷
    " scalar: operand row " ∷
    " vector: operand row " ∷
    " pointer: operand row " ∷
    " image: operand row " ∷
    " void: the function gives nothing" ∷
    " clash: the operands do not go together" ∷
    " argument: index " ∷
    " special: the special type is missing" ∷
    " mismatch: not in WGSL with these operand types" ∷
    ", index " ∷
    ", by a computed index" ∷
    ", by a constant index" ∷
    "refused 22 newer: met at row " ∷
    "verdict: " ∷
    "passes" ∷
    "22 newer: component " ∷
    "22 newer: the composed type" ∷
    " type: not one that is composed" ∷
    " count: expected " ∷
    " part: component " ∷
    " broken part: component " ∷
    ", given " ∷
    "line " ∷
    ": " ∷
    "number " ∷
    ", long: over " ∷
    ", torn: not 32 digits and a line feed" ∷
    ", short: a lent buffer is too small" ∷
    ", order: unknown or out of order" ∷
    ", field: a byte is outside its values" ∷
    ", index: a number is out of range or not earlier" ∷
    " frames (" ∷
    "align " ∷
    ", size " ∷
    " unmeasured: type " ∷
    " misplaced: type " ∷
    " huge: type " ∷
    " to " ∷
    ", span: override " ∷ []

-- the characters of word w; none past the table
unfoldable pub word_bytes : ℕ → List ℕ
word_bytes w = characters (get_or word_table w "")

-- NAMES
abbrev pub none : ℕ
none = 0

abbrev pub row : ℕ
row = 1

abbrev pub gap : ℕ
gap = 2

abbrev pub feed : ℕ
feed = 3

abbrev pub numbered : ℕ
numbered = 4

abbrev pub ends : ℕ
ends = 5

abbrev pub type : ℕ
type = 6

abbrev pub unknown : ℕ
unknown = 7

abbrev pub comma : ℕ
comma = 8

abbrev pub less : ℕ
less = 9

abbrev pub more : ℕ
more = 10

abbrev pub x : ℕ
x = 11

abbrev pub sampled : ℕ
sampled = 12

abbrev pub i32 : ℕ
i32 = 12

abbrev pub u32 : ℕ
u32 = 13

abbrev pub f32 : ℕ
f32 = 14

abbrev pub bool : ℕ
bool = 15

abbrev pub abstract_int : ℕ
abstract_int = 16

abbrev pub abstract_float : ℕ
abstract_float = 17

abbrev pub i16 : ℕ
i16 = 18

abbrev pub i64 : ℕ
i64 = 19

abbrev pub u16 : ℕ
u16 = 20

abbrev pub u64 : ℕ
u64 = 21

abbrev pub f16 : ℕ
f16 = 22

abbrev pub f64 : ℕ
f64 = 23

abbrev pub plain : ℕ
plain = 24

abbrev pub bytes : ℕ
bytes = 30

abbrev pub vec : ℕ
vec = 31

abbrev pub mat : ℕ
mat = 32

abbrev pub atomic : ℕ
atomic = 33

abbrev pub cooperative : ℕ
cooperative = 34

abbrev pub role : ℕ
role = 35

abbrev pub pointer : ℕ
pointer = 38

abbrev pub value : ℕ
value = 39

abbrev pub space : ℕ
space = 40

abbrev pub access : ℕ
access = 50

abbrev pub array : ℕ
array = 58

abbrev pub bindings : ℕ
bindings = 59

abbrev pub override : ℕ
override = 60

abbrev pub struct : ℕ
struct = 61

abbrev pub texture : ℕ
texture = 62

abbrev pub external : ℕ
external = 63

abbrev pub multisampled : ℕ
multisampled = 64

abbrev pub depth : ℕ
depth = 65

abbrev pub deep_multi : ℕ
deep_multi = 66

abbrev pub storage : ℕ
storage = 67

abbrev pub dimension : ℕ
dimension = 68

abbrev pub arrayed : ℕ
arrayed = 72

abbrev pub format : ℕ
format = 73

abbrev pub sampler : ℕ
sampler = 114

abbrev pub structure : ℕ
structure = 116

abbrev pub query : ℕ
query = 118

abbrev pub refused : ℕ
refused = 120

abbrev pub reason : ℕ
reason = 121

abbrev pub mismatch : ℕ
mismatch = 132

abbrev pub index : ℕ
index = 133

abbrev pub computed : ℕ
computed = 134

abbrev pub constant : ℕ
constant = 135

abbrev pub newer : ℕ
newer = 136

abbrev pub verdict : ℕ
verdict = 137

abbrev pub passes : ℕ
passes = 138

abbrev pub newer_part : ℕ
newer_part = 139

abbrev pub newer_whole : ℕ
newer_whole = 140

abbrev pub judged : ℕ
judged = 141

abbrev pub given : ℕ
given = 145

abbrev pub line : ℕ
line = 146

abbrev pub colon : ℕ
colon = 147

abbrev pub number : ℕ
number = 148

abbrev pub fault : ℕ
fault = 149

abbrev pub frames_of : ℕ
frames_of = 155

abbrev pub align : ℕ
align = 156

abbrev pub size : ℕ
size = 157

abbrev pub unmeasured : ℕ
unmeasured = 158

abbrev pub to : ℕ
to = 161

abbrev pub span : ℕ
span = 162
