-- A frame with its numbers moved reads as what it read as, with its numbers moved; its family and kind stay, and its
-- bytes stay within their values. A frame of any family is moved as one of its own.
use Prim.Native.Nat.{ℕ, zero, suc}
use mathlib.Core.Path.{◌≡◌, refl, ap, ◌∙◌}
use mathlib.Core.Bool.{Bool, true, ◌&&◌}
use lib.Dec.{eqb}
use Rattle.ir.specs.Numbers.{type_kind_of, item_kind_of, row_kind_of}
use Rattle.frames.specs.declared.Frame.{Frame}
use Rattle.frames.specs.Bytes.{byte, half}
use Rattle.frames.specs.Fields.{fits_all}
use Rattle.frames.specs.Layout.{type_layout, member_layout, item_layout, row_layout, component_layout}
use Rattle.frames.specs.Forms.{type_as, item_as, row_as, type_of, item_of, row_of, member_of, component_of}
use Rattle.frames.proofs.ReadBack.{half_back}
use Rattle.law_moved.specs.Moves.{Moves, row_to, type_form_to, member_to, item_to, row_form_to}
use Rattle.law_moved.specs.Frames.{types, type_numbers, item_numbers, row_numbers, moved_in, moved_type, moved_member}
use Rattle.law_moved.specs.Frames.{moved_item, moved_row, moved_component, numbers_by, moved_frame}
use Rattle.law_moved.proofs.RowFrames.{Stays, row_reads, row_stays, row_fits}
use Rattle.law_moved.proofs.TypeFrames.{type_reads, type-stays, type-fits, item-reads, item-stays, item-fits}

module _ (m : Moves) where
  -- WHAT A MOVED FRAME IS: of the same family and kind, within its values where it was, and read as moved
  pub record Moved {A : Type 0} (of : Frame → A) (to : A → A) (fits : Frame → Bool) (f g : Frame) : Type 0 where
    pub family : byte g 0 ≡ byte f 0
    pub kind : byte g 1 ≡ byte f 1
    pub is : of g ≡ to (of f)
    pub fit : fits f ≡ true → fits g ≡ true

  pub type-moved : (f : Frame)
      → Moved type_of (type_form_to m) (λ g. fits_all (type_layout (type_kind_of (byte g 1))) g) f (moved_type m f)
  unfolding moved_type type_of
  type-moved f =
      let k = type_kind_of (byte f 1) in
      let s = type-stays m k f in
      record {
        family = s.0;
        kind = s.1;
        is = ap (λ (b : ℕ). type_as (type_kind_of b) (moved_in m (type_numbers k f) f)) s.1 ∙ type_reads m k f;
        fit = λ h. ap (λ (b : ℕ). fits_all (type_layout (type_kind_of b)) (moved_in m (type_numbers k f) f)) s.1
            ∙ type-fits m k f h;
      }

  pub item-moved : (f : Frame)
      → Moved item_of (item_to m) (λ g. fits_all (item_layout (item_kind_of (byte g 1))) g) f (moved_item m f)
  unfolding moved_item item_of
  item-moved f =
      let k = item_kind_of (byte f 1) in
      let s = item-stays m k f in
      record {
        family = s.0;
        kind = s.1;
        is = ap (λ (b : ℕ). item_as (item_kind_of b) (moved_in m (item_numbers k f) f)) s.1 ∙ item-reads m k f;
        fit = λ h. ap (λ (b : ℕ). fits_all (item_layout (item_kind_of b)) (moved_in m (item_numbers k f) f)) s.1
            ∙ item-fits m k f h;
      }

  pub row_moved : (f : Frame)
      → Moved row_of (row_form_to m) (λ g. fits_all (row_layout (row_kind_of (byte g 1))) g) f (moved_row m f)
  unfolding moved_row row_of
  row_moved f =
      let k = row_kind_of (byte f 1) in
      let s = row_stays m k f in
      record {
        family = s.0;
        kind = s.1;
        is = ap (λ (b : ℕ). row_as (row_kind_of b) (moved_in m (row_numbers k f) f)) s.1 ∙ row_reads m k f;
        fit = λ h. ap (λ (b : ℕ). fits_all (row_layout (row_kind_of b)) (moved_in m (row_numbers k f) f)) s.1
            ∙ row_fits m k f h;
      }

  pub member-moved : (f : Frame)
      → Moved member_of (member_to m) (λ g. eqb (byte g 1) 0 && fits_all member_layout g) f (moved_member m f)
  unfolding moved_member member_of
  member-moved f = record { family = refl; kind = refl; is = rw (half_back (m.types (half f 2))); fit = λ h. h }

  pub component-moved : (f : Frame)
      → Moved component_of (row_to m) (λ g. eqb (byte g 1) 0 && fits_all component_layout g) f (moved_component m f)
  unfolding moved_component component_of
  component-moved f = record { family = refl; kind = refl; is = rw (half_back (m.rows (half f 2))); fit = λ h. h }

  -- A FRAME OF ANY FAMILY

  pub frame-type : (f : Frame) → byte f 0 ≡ 1 → moved_frame m f ≡ moved_type m f
  unfolding moved_frame moved_type
  frame-type f e = ap (λ (b : ℕ). moved_in m (numbers_by b f) f) e

  pub frame-member : (f : Frame) → byte f 0 ≡ 2 → moved_frame m f ≡ moved_member m f
  unfolding moved_frame moved_member
  frame-member f e = ap (λ (b : ℕ). moved_in m (numbers_by b f) f) e

  pub frame-item : (f : Frame) → byte f 0 ≡ 3 → moved_frame m f ≡ moved_item m f
  unfolding moved_frame moved_item
  frame-item f e = ap (λ (b : ℕ). moved_in m (numbers_by b f) f) e

  pub frame_row : (f : Frame) → byte f 0 ≡ 4 → moved_frame m f ≡ moved_row m f
  unfolding moved_frame moved_row
  frame_row f e = ap (λ (b : ℕ). moved_in m (numbers_by b f) f) e

  pub frame-component : (f : Frame) → byte f 0 ≡ 5 → moved_frame m f ≡ moved_component m f
  unfolding moved_frame moved_component
  frame-component f e = ap (λ (b : ℕ). moved_in m (numbers_by b f) f) e

  by-family : (b : ℕ) (f : Frame) → Stays f (moved_in m (numbers_by b f) f)
  by-family zero f = (refl, refl)
  by-family (suc zero) f = type-stays m (type_kind_of (byte f 1)) f
  by-family (suc (suc zero)) f = (refl, refl)
  by-family (suc (suc (suc zero))) f = item-stays m (item_kind_of (byte f 1)) f
  by-family (suc (suc (suc (suc zero)))) f = row_stays m (row_kind_of (byte f 1)) f
  by-family (suc (suc (suc (suc (suc zero))))) f = (refl, refl)
  by-family (suc (suc (suc (suc (suc (suc b)))))) f = (refl, refl)

  pub frame-family : (f : Frame) → byte (moved_frame m f) 0 ≡ byte f 0
  unfolding moved_frame
  frame-family f = (by-family (byte f 0) f).0

  pub frame-kind : (f : Frame) → byte (moved_frame m f) 1 ≡ byte f 1
  unfolding moved_frame
  frame-kind f = (by-family (byte f 0) f).1
