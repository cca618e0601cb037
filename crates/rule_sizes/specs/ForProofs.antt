-- Not part of any public statement: for proofs and code only. A table of measures, a frame each, as they are handed
-- back.
use Rattle.std.specs.Prelude.{ℕ, ◌≡◌, false, List, eqb}
use Rattle.ir.specs.declared.TypeNumber.{TypeNumber}
use Rattle.frames.specs.declared.Frame.{Frame}
use Rattle.frames.specs.Bytes.{frame_at}
use Rattle.rule_sizes.specs.declared.Measure.{Measure}
use Rattle.rule_sizes.specs.Sizes.{measure_of}

-- what a frame of a table holds of type n: what it fills by `measure`, or zeros, nothing yet
abbrev pub Held : (TypeNumber → Measure) → ℕ → Frame → Type 0
Held measure n f = eqb f.b0 0 ≡ false → measure_of f ≡ measure (record { 0 = n })

-- a table of measures
abbrev pub Known : (TypeNumber → Measure) → List ℕ → Type 0
Known measure t = (n : ℕ) → Held measure n (frame_at t n)
