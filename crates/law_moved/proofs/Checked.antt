-- Checks 4 and 5 of a moved frame: its rank is what it was, and its bytes stay within their values. And the range of a
-- moved struct or compose.
use Prim.Native.Nat.{ℕ, zero, suc, ◌+◌, ◌*◌}
use mathlib.Core.Path.{◌≡◌, refl, sym, ap, ◌∙◌}
use mathlib.Core.Bool.{true, cond}
use lib.Dec.{eqb}
use Rattle.frames.specs.declared.Frame.{Frame}
use Rattle.frames.specs.Bytes.{byte, half, word}
use Rattle.frames.specs.Forms.{fields_fit}
use Rattle.frames.proofs.Families.{fit-type, fit-member, fit-item, fit_row, fit-component}
use Rattle.frames.proofs.ReadBack.{half_back, word_back}
use Rattle.archive.specs.Order.{rank_of}
use Rattle.law_moved.specs.Moves.{Moves}
use Rattle.law_moved.specs.Frames.{moved_in, moved_type, moved_member, moved_item, moved_row, moved_component}
use Rattle.law_moved.specs.Frames.{numbers_by, moved_frame}
use Rattle.law_moved.proofs.Frames.{type-moved, member-moved, item-moved, row_moved, component-moved, frame-type}
use Rattle.law_moved.proofs.Frames.{frame-member, frame-item, frame_row, frame-component}

-- a frame's rank goes by its family and kind
pub same_rank : (f g : Frame) → byte g 0 ≡ byte f 0 → byte g 1 ≡ byte f 1 → rank_of g ≡ rank_of f
same_rank f g a b = ap (λ (x : ℕ). cond (eqb x 3) (768 + byte g 1) (256 * x)) a
    ∙ ap (λ (y : ℕ). cond (eqb (byte f 0) 3) (768 + y) (256 * byte f 0)) b

module _ (m : Moves) where
  pub type-fits-moved : (f : Frame) → byte f 0 ≡ 1 → fields_fit f ≡ true → fields_fit (moved_type m f) ≡ true
  type-fits-moved f e h = let x = type-moved m f in
      fit-type (moved_type m f) (x.family ∙ e) ∙ x.fit (sym (fit-type f e) ∙ h)

  pub member-fits-moved : (f : Frame) → byte f 0 ≡ 2 → fields_fit f ≡ true → fields_fit (moved_member m f) ≡ true
  member-fits-moved f e h = let x = member-moved m f in
      fit-member (moved_member m f) (x.family ∙ e) ∙ x.fit (sym (fit-member f e) ∙ h)

  pub item-fits-moved : (f : Frame) → byte f 0 ≡ 3 → fields_fit f ≡ true → fields_fit (moved_item m f) ≡ true
  item-fits-moved f e h = let x = item-moved m f in
      fit-item (moved_item m f) (x.family ∙ e) ∙ x.fit (sym (fit-item f e) ∙ h)

  pub row-fits-moved : (f : Frame) → byte f 0 ≡ 4 → fields_fit f ≡ true → fields_fit (moved_row m f) ≡ true
  row-fits-moved f e h = let x = row_moved m f in
      fit_row (moved_row m f) (x.family ∙ e) ∙ x.fit (sym (fit_row f e) ∙ h)

  pub component-fits-moved : (f : Frame) → byte f 0 ≡ 5 → fields_fit f ≡ true → fields_fit (moved_component m f) ≡ true
  component-fits-moved f e h = let x = component-moved m f in
      fit-component (moved_component m f) (x.family ∙ e) ∙ x.fit (sym (fit-component f e) ∙ h)

  -- of any family
  pub frame-fits-moved : (f : Frame) → fields_fit f ≡ true → fields_fit (moved_frame m f) ≡ true
  unfolding moved_frame
  frame-fits-moved f h = go (byte f 0) refl
    where
      go : (b : ℕ) → byte f 0 ≡ b → fields_fit (moved_frame m f) ≡ true
      go zero e = ap (λ (b : ℕ). fields_fit (moved_in m (numbers_by b f) f)) e ∙ h
      go (suc zero) e = ap fields_fit (frame-type m f e) ∙ type-fits-moved f e h
      go (suc (suc zero)) e = ap fields_fit (frame-member m f e) ∙ member-fits-moved f e h
      go (suc (suc (suc zero))) e = ap fields_fit (frame-item m f e) ∙ item-fits-moved f e h
      go (suc (suc (suc (suc zero)))) e = ap fields_fit (frame_row m f e) ∙ row-fits-moved f e h
      go (suc (suc (suc (suc (suc zero))))) e = ap fields_fit (frame-component m f e) ∙ component-fits-moved f e h
      go (suc (suc (suc (suc (suc (suc b)))))) e = ap (λ (b : ℕ). fields_fit (moved_in m (numbers_by b f) f)) e ∙ h

  -- RANGES

  pub record RangeMoved (f g : Frame) (first : Frame → ℕ) (to : ℕ → ℕ) (counts : ℕ → ℕ) : Type 0 where
    pub first-is : first g ≡ to (first f)
    pub count-is : half g 4 ≡ counts (half f 4)

  pub struct-range : (f : Frame) → byte f 1 ≡ 9 → RangeMoved f (moved_type m f) (λ x. half x 2) m.members (λ n. n)
  unfolding moved_type
  struct-range f e = record { first-is = rw (e, half_back (m.members (half f 2))); count-is = rw e }

  pub compose-range : (f : Frame) → byte f 1 ≡ 5
      → RangeMoved f (moved_row m f) (λ x. word x 12) m.components m.counts
  unfolding moved_row
  compose-range f e = record
      { first-is = rw (e, word_back (m.components (word f 12))); count-is = rw (e, half_back (m.counts (half f 4))) }
