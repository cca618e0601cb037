-- A frame moved where the code finds its numbers, one after the other, where they fit their bytes.
use Prim.Native.Nat.{ℕ, ◌+◌, ◌<◌}
use native.Mathlib.Omega.{arith}
use mathlib.Core.Path.{◌≡◌, refl, sym, ap, ◌∙◌, subst}
use mathlib.Core.List.{List, [], ◌∷◌}
use Rattle.frames.specs.declared.Frame.{Frame}
use Rattle.frames.specs.Bytes.{half, word}
use Rattle.law_moved.specs.Moves.{Moves}
use Rattle.law_moved.specs.Frames.{Counted, Spot, two, four, move_of, with_half, with_word, moved_at, moved_in}
use Rattle.law_moved.specs.Frames.{numbers_of}
use Rattle.law_moved.specs.Frames.{moved_frame}
use Rattle.law_moved.proofs.Written.{Fits, AllFit}
use Rattle.frames_numbers.specs.declared.Spot as Sp
use Rattle.frames_numbers.specs.declared.Numbers.{Numbers}
use Rattle.frames_numbers.specs.declared.Numbers.TheVariants as Nu
use Rattle.frames_numbers.specs.Spots.{spot_of, spots_of}

-- a number moved past w, where it fits below a limit
pub number-moved : (move : ℕ → ℕ) (w limit : ℕ) {old n r : ℕ} → n ≡ old → ((y : ℕ) → move y ≡ y + w)
    → (n + w < limit → r ≡ n + w)
    → move old < limit
    → r ≡ move old
number-moved move w limit {old} en past er l = let p = past old in omega (arith, er (omega arith))

module _ (m : Moves) where
  -- a number of two bytes moved past w, as `past` of src/moved.rt gives it, and put back into the frame
  pub two-moved : (f : Frame) (w : ℕ) {x : Spot} {c : Counted} {i : ℕ} → x ≡ two c i → {n : ℕ} → n ≡ half f i
      → ((y : ℕ) → move_of m c y ≡ y + w)
      → {r : ℕ} → (n + w < 65536 → r ≡ n + w)
      → {g : Frame} → g ≡ with_half f i r
      → Fits m f x
      → g ≡ moved_at m x f
  two-moved f w {c = c} {i = i} ex {n} en past er eg fits =
      let l : move_of m c (half f i) < 65536 = subst (Fits m f) ex fits in
      eg ∙ ap (with_half f i) (number-moved (move_of m c) w 65536 en past er l)
      ∙ ap (λ (y : Spot). moved_at m y f) (sym ex)

  -- and of four
  pub four-moved : (f : Frame) (w : ℕ) {x : Spot} {c : Counted} {i : ℕ} → x ≡ four c i → {n : ℕ} → n ≡ word f i
      → ((y : ℕ) → move_of m c y ≡ y + w)
      → {r : ℕ} → (n + w < 4294967296 → r ≡ n + w)
      → {g : Frame} → g ≡ with_word f i r
      → Fits m f x
      → g ≡ moved_at m x f
  four-moved f w {c = c} {i = i} ex {n} en past er eg fits =
      let l : move_of m c (word f i) < 4294967296 = subst (Fits m f) ex fits in
      eg ∙ ap (with_word f i) (number-moved (move_of m c) w 4294967296 en past er l)
      ∙ ap (λ (y : Spot). moved_at m y f) (sym ex)

  -- one number, then the others
  in-turn : (x : Spot) (l : List Spot) (f g : Frame) {r : Frame} → (Fits m f x → g ≡ moved_at m x f)
      → (AllFit m l g → r ≡ moved_in m l g)
      → AllFit m (x ∷ l) f
      → r ≡ moved_in m (x ∷ l) f
  in-turn x l f g one rest h = let e = one h.0 in rest (subst (AllFit m l) (sym e) h.1) ∙ ap (moved_in m l) e

  -- in the places that the code found
  module _ (f : Frame) {n : Numbers} (e : spots_of n ≡ numbers_of f) where
    found : (x : Numbers) → n ≡ x → {r : Frame} → (AllFit m (spots_of x) f → r ≡ moved_in m (spots_of x) f)
        → AllFit m (numbers_of f) f
        → r ≡ moved_frame m f
    unfolding moved_frame
    found x q k h =
        let p : spots_of x ≡ numbers_of f = ap spots_of (sym q) ∙ e in
        k (subst (λ (l : List Spot). AllFit m l f) (sym p) h) ∙ ap (λ (l : List Spot). moved_in m l f) p

    pub found_none : n ≡ Nu.Nothing → AllFit m (numbers_of f) f → f ≡ moved_frame m f
    found_none q = found Nu.Nothing q (λ h. refl)

    pub found-one : {a : Sp.Spot} → n ≡ Nu.One a → {r : Frame} → (Fits m f (spot_of a) → r ≡ moved_at m (spot_of a) f)
        → AllFit m (numbers_of f) f
        → r ≡ moved_frame m f
    found-one {a} q {r} k = found (Nu.One a) q (in-turn (spot_of a) [] f r k (λ h. refl))

    pub found-two : {a b : Sp.Spot} → n ≡ Nu.Two a b → {g r : Frame}
        → (Fits m f (spot_of a) → g ≡ moved_at m (spot_of a) f)
        → (Fits m g (spot_of b) → r ≡ moved_at m (spot_of b) g)
        → AllFit m (numbers_of f) f
        → r ≡ moved_frame m f
    found-two {a} {b} q {g} {r} k l =
        found (Nu.Two a b) q (in-turn (spot_of a) (spot_of b ∷ []) f g k (in-turn (spot_of b) [] g r l (λ h. refl)))

    pub found-three : {a b c : Sp.Spot} → n ≡ Nu.Three a b c → {g h r : Frame}
        → (Fits m f (spot_of a) → g ≡ moved_at m (spot_of a) f)
        → (Fits m g (spot_of b) → h ≡ moved_at m (spot_of b) g)
        → (Fits m h (spot_of c) → r ≡ moved_at m (spot_of c) h)
        → AllFit m (numbers_of f) f
        → r ≡ moved_frame m f
    found-three {a} {b} {c} q {g} {h} {r} k l o =
        found (Nu.Three a b c) q
        (in-turn (spot_of a) (spot_of b ∷ spot_of c ∷ []) f g k
        (in-turn (spot_of b) (spot_of c ∷ []) g h l (in-turn (spot_of c) [] h r o (λ y. refl))))
