-- Vectors and matrices are small: their numbers fit.
use Prim.Native.Nat.{ℕ, ◌+◌, ◌*◌, ◌≤◌}
use native.Mathlib.Omega.{arith}
use mir.Syntax.{w8, w32}
use mir.Val.{Fits}
use Rattle.ir.specs.declared.VectorSize.{VectorSize}
use Rattle.ir.specs.declared.VectorSize.TheVariants.{Bi, Tri, Quad}
use Rattle.ir.specs.Numbers.{vector_size_number}
use Rattle.rule_sizes.specs.declared.Alignment.{Alignment}
use Rattle.rule_sizes.specs.declared.Alignment.TheVariants.{Two, Four, Eight, Sixteen}
use Rattle.rule_sizes.specs.Wgsl.{bytes, round_up, align_count, vector_align, vector_bytes, matrix_bytes}

bytes_small : (a : Alignment) → bytes a ≤ 16
bytes_small Two = omega arith
bytes_small Four = omega arith
bytes_small Eight = omega arith
bytes_small Sixteen = omega arith

count_small : (z : VectorSize) (a : Alignment) → align_count z * bytes a ≤ 64
count_small Bi a = omega (arith, bytes_small a)
count_small Tri a = omega (arith, bytes_small a)
count_small Quad a = omega (arith, bytes_small a)

vector-small : (z : VectorSize) (a : Alignment) → vector_size_number z * bytes a ≤ 64
vector-small Bi a = omega (arith, bytes_small a)
vector-small Tri a = omega (arith, bytes_small a)
vector-small Quad a = omega (arith, bytes_small a)

pub round-small : (a : Alignment) (n : ℕ) → round_up a n ≤ n + 15
round-small Two n = omega arith
round-small Four n = omega arith
round-small Eight n = omega arith
round-small Sixteen n = omega arith

pub round-least : (a : Alignment) (n : ℕ) → n ≤ round_up a n
round-least Two n = omega arith
round-least Four n = omega arith
round-least Eight n = omega arith
round-least Sixteen n = omega arith

-- a column of a matrix, and its columns
column-small : (r : VectorSize) (a : Alignment) → round_up (vector_align r a) (vector_bytes r a) ≤ 79
column-small r a = omega (arith, round-small (vector_align r a) (vector_bytes r a), vector-small r a)

columns-small : (c : VectorSize) (n : ℕ) → n ≤ 79 → vector_size_number c * n ≤ 316
columns-small Bi n h = omega arith
columns-small Tri n h = omega arith
columns-small Quad n h = omega arith

-- so each fits
pub count_fits : (z : VectorSize) (a : Alignment) → Fits w8 (align_count z * bytes a)
count_fits z a = record { fits = omega (arith, count_small z a) }

pub vector-fits : (z : VectorSize) (a : Alignment) → Fits w32 (vector_size_number z * bytes a)
vector-fits z a = record { fits = omega (arith, vector-small z a) }

pub column_fits : (r : VectorSize) (a : Alignment) → Fits w32 (round_up (vector_align r a) (vector_bytes r a))
column_fits r a = record { fits = omega (arith, column-small r a) }

pub matrix-fits : (c r : VectorSize) (a : Alignment) → Fits w32 (matrix_bytes c r a)
matrix-fits c r a = record { fits = omega (arith, columns-small c _ (column-small r a)) }
