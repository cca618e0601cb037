-- A frame that was put and a number that was given are those that the calls before ensure. By the two equations.
use Prim.Native.Nat.{ℕ}
use mathlib.Core.Path.{◌≡◌, ap, ◌∙◌}
use mathlib.Core.List.{List}
use Rattle.frames.specs.declared.Frame.{Frame}
use Rattle.frames.specs.Bytes.{put_frame}

pub framed : (out : List ℕ) {last : List ℕ} {r n m : ℕ} {f g : Frame} → (r ≡ n) × (last ≡ put_frame out 0 f) → n ≡ m
    → f ≡ g → (r ≡ m) × (last ≡ put_frame out 0 g)
framed out p e h = (p.0 ∙ e, p.1 ∙ ap (put_frame out 0) h)
