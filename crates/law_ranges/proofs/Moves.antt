-- Rounding up, where an end moves by a multiple of the same or a greater alignment: it moves by no more. By
-- arithmetic, for each two alignments.
use Prim.Native.Nat.{ℕ, ◌+◌, ◌*◌, ◌/◌, ◌≤◌}
use native.Mathlib.Omega.{arith}
use mathlib.Core.Path.{◌≡◌, refl}
use Rattle.rule_sizes.specs.declared.Alignment.{Alignment}
use Rattle.rule_sizes.specs.declared.Alignment.TheVariants.{Two, Four, Eight, Sixteen}
use Rattle.rule_sizes.specs.Wgsl.{bytes, round_up}

pub round-moves : (b a : Alignment) → bytes a ≤ bytes b → (k e f : ℕ) → f ≤ e + k * bytes b
    → round_up a f ≤ round_up a e + k * bytes b
round-moves Two Two h k e f l = omega arith
round-moves Two Four h k e f l = absurd (omega (arith, h))
round-moves Two Eight h k e f l = absurd (omega (arith, h))
round-moves Two Sixteen h k e f l = absurd (omega (arith, h))
round-moves Four Two h k e f l = omega arith
round-moves Four Four h k e f l = omega arith
round-moves Four Eight h k e f l = absurd (omega (arith, h))
round-moves Four Sixteen h k e f l = absurd (omega (arith, h))
round-moves Eight Two h k e f l = omega arith
round-moves Eight Four h k e f l = omega arith
round-moves Eight Eight h k e f l = omega arith
round-moves Eight Sixteen h k e f l = absurd (omega (arith, h))
round-moves Sixteen Two h k e f l = omega arith
round-moves Sixteen Four h k e f l = omega arith
round-moves Sixteen Eight h k e f l = omega arith
round-moves Sixteen Sixteen h k e f l = omega arith

-- what is rounded up is a multiple, and no less
pub record Multiple (b : Alignment) (n : ℕ) : Type 0 where
  pub times : ℕ
  pub is : round_up b n ≡ times * bytes b
  pub holds : n ≤ times * bytes b

pub rounded : (b : Alignment) (n : ℕ) → Multiple b n
rounded Two n = record { times = (n + 1) / 2; is = refl; holds = omega arith }
rounded Four n = record { times = (n + 3) / 4; is = refl; holds = omega arith }
rounded Eight n = record { times = (n + 7) / 8; is = refl; holds = omega arith }
rounded Sixteen n = record { times = (n + 15) / 16; is = refl; holds = omega arith }

-- two moves make one
pub both-move : (b : Alignment) (k j r s y z : ℕ) → s ≤ r + k * bytes b → z ≤ y + j * bytes b
    → s + z ≤ r + y + (k + j) * bytes b
both-move Two k j r s y z h g = omega arith
both-move Four k j r s y z h g = omega arith
both-move Eight k j r s y z h g = omega arith
both-move Sixteen k j r s y z h g = omega arith

pub both-times : (b : Alignment) (k j : ℕ) → k * bytes b + j * bytes b ≡ (k + j) * bytes b
both-times Two k j = omega arith
both-times Four k j = omega arith
both-times Eight k j = omega arith
both-times Sixteen k j = omega arith
