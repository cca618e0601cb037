-- A number of one byte, as a number of two: its low byte is itself, and it has no high one.
use Prim.Native.Nat.{ℕ, ◌<◌, ◌/◌, ◌%◌}
use native.Mathlib.Omega.{arith}
use mathlib.Core.Path.{◌≡◌}

pub low_byte : (n : ℕ) → n < 256 → n % 256 ≡ n
low_byte n h = omega (arith, h)

pub high_byte : (n : ℕ) → n < 256 → n / 256 ≡ 0
high_byte n h = omega (arith, h)
