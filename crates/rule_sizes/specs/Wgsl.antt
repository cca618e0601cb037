-- Alignment and size of scalars, vectors, matrices and atomics (WGSL, "Memory Layout", "Alignment and Size"), for
-- what document 02's request 5 lists. `in-the-table` (proofs/Table.antt): these rules give WGSL's printed table.
use Rattle.std.specs.Prelude.{ℕ, ◌+◌, ◌*◌, ◌/◌, ◌%◌, Bool, cond, ◌||◌, eqb, ltb, Option, Some, None}
use Rattle.ir.specs.declared.Scalar.{Scalar}
use Rattle.ir.specs.declared.VectorSize.{VectorSize}
use Rattle.ir.specs.declared.VectorSize.TheVariants as Vs
use Rattle.ir.specs.Numbers.{vector_size_number}
use Rattle.ir.specs.Scalars.{I32, U32, F16, F32, equal_scalars}
use Rattle.rule_sizes.specs.declared.Alignment.{Alignment}
use Rattle.rule_sizes.specs.declared.Alignment.TheVariants.{Two, Four, Eight, Sixteen}

-- ALIGNMENTS are 2, 4, 8 and 16 bytes
abbrev pub bytes : Alignment → ℕ
bytes Two = 2
bytes Four = 4
bytes Eight = 8
bytes Sixteen = 16

-- the alignment of so many bytes
abbrev pub alignment_of : ℕ → Alignment
alignment_of b = cond (eqb b 2) Two (cond (eqb b 4) Four (cond (eqb b 8) Eight Sixteen))

-- n is a multiple of an alignment
abbrev pub is_multiple : Alignment → ℕ → Bool
is_multiple Two n = eqb (n % 2) 0
is_multiple Four n = eqb (n % 4) 0
is_multiple Eight n = eqb (n % 8) 0
is_multiple Sixteen n = eqb (n % 16) 0

-- WGSL's round_up: the lowest multiple of an alignment that is at least n
abbrev pub round_up : Alignment → ℕ → ℕ
round_up Two n = (n + 1) / 2 * 2
round_up Four n = (n + 3) / 4 * 4
round_up Eight n = (n + 7) / 8 * 8
round_up Sixteen n = (n + 15) / 16 * 16

abbrev pub greater : Alignment → Alignment → Alignment
greater a b = cond (ltb (bytes a) (bytes b)) b a

-- SCALARS of the list: i32, u32 and f32 have 4 bytes, f16 has 2; each is aligned to its own size

abbrev pub integer_align : Scalar → Option Alignment
integer_align k = cond (equal_scalars k I32 || equal_scalars k U32) (Some Four) None

abbrev pub float_align : Scalar → Option Alignment
float_align k = cond (equal_scalars k F32) (Some Four) (cond (equal_scalars k F16) (Some Two) None)

abbrev pub or_float : Option Alignment → Scalar → Option Alignment
or_float (Some a) k = Some a
or_float None k = float_align k

abbrev pub number_align : Scalar → Option Alignment
number_align k = or_float (integer_align k) k

-- VECTORS of scalars that are aligned to a: as many scalars long as they have components; three components are
-- aligned as four
abbrev pub align_count : VectorSize → ℕ
align_count Vs.Bi = 2
align_count Vs.Tri = 4
align_count Vs.Quad = 4

abbrev pub vector_align : VectorSize → Alignment → Alignment
vector_align z a = alignment_of (align_count z * bytes a)

abbrev pub vector_bytes : VectorSize → Alignment → ℕ
vector_bytes z a = vector_size_number z * bytes a

-- MATRICES of c columns and r rows are laid as arrays of c columns, each a vector of r: AlignOf(vecR),
-- SizeOf(array<vecR, C>)
abbrev pub matrix_bytes : VectorSize → VectorSize → Alignment → ℕ
matrix_bytes c r a = vector_size_number c * round_up (vector_align r a) (vector_bytes r a)
