-- The verdicts that are ours, and what their frames hold (document 01, "Numbers handed back" and the end of "The
-- file").
use Rattle.std.specs.Prelude.{ℕ, ◌<◌, ◌≡◌, ◌↔◌}
use Rattle.frames.specs.declared.Frame.{Frame}
use Rattle.frames.specs.Bytes.{byte, half, word}
use Rattle.rule.specs.Answers.{Judgement, passes, not_composed, count, part, broken, component, composed, Result, told}
use Rattle.rule.specs.Answers.{newer, verdict_frame}

-- a verdict of ours on a compose of m components: it passes, the type is not composed, two counts differ, a component
-- is not as asked or refused, or newer at the composed type or at a component. A chosen verdict is none, and so is a
-- newer thing at any other place.
pub data OurVerdict (m : ℕ) : Result Judgement → Type 0 where
  it_passes : OurVerdict m (told passes)
  no_composed : OurVerdict m (told not_composed)
  other_count : (expected given : ℕ) → (expected ≡ given → ⊥) → OurVerdict m (told (count expected given))
  other_part : (i : ℕ) → i < m → OurVerdict m (told (part i))
  broken_part : (i : ℕ) → i < m → OurVerdict m (told (broken i))
  newer_composed : OurVerdict m (newer composed)
  newer_part : (i : ℕ) → i < m → OurVerdict m (newer (component i))

-- what such a verdict writes: its number in b1, then b4-7, then b8-11
pub data Writes (m : ℕ) : ℕ → ℕ → ℕ → Type 0 where
  number0 : Writes m 0 0 0
  number30 : Writes m 30 0 0
  number31 : (expected given : ℕ) → (expected ≡ given → ⊥) → Writes m 31 expected given
  number32 : (i : ℕ) → i < m → Writes m 32 i 0
  number33 : (i : ℕ) → i < m → Writes m 33 i 0
  number22 : (i : ℕ) → i < m → Writes m 22 i 0
  number22composed : Writes m 22 0xffff_ffff 0

-- the frame of a verdict on row n
abbrev pub frame_of : ℕ → Result Judgement → Frame
frame_of n v = verdict_frame (record { 0 = n }) v

-- the frame of a verdict on row n, a compose of m components: family 11, the values above, and the compose row in b2-3
pub record VerdictLaid (n m : ℕ) (v : Result Judgement) : Type 0 where
  pub family : byte (frame_of n v) 0 ≡ 11
  pub values : Writes m (byte (frame_of n v) 1) (word (frame_of n v) 4) (word (frame_of n v) 8)
  pub row : half (frame_of n v) 2 ≡ n
  -- b4-7 of a 22 are hex ffffffff exactly where the composed type itself is newer: a count, of b4-5 of its row, is at
  -- most 65,535
  pub whole : m < 65536 → byte (frame_of n v) 1 ≡ 22 → (word (frame_of n v) 4 ≡ 0xffff_ffff) ↔ (v ≡ newer composed)
