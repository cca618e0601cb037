-- Number 5 by family: a frame of a family is within its values exactly when it is within those of its layout.
use Prim.Native.Nat.{ℕ}
use mathlib.Core.Path.{◌≡◌, ap}
use mathlib.Core.Bool.{Bool, true, ◌&&◌}
use mathlib.Core.List.{[], ◌∷◌}
use lib.Dec.{eqb}
use lib.ListN.{get_or}
use Rattle.ir.specs.Numbers.{type_kind_of, item_kind_of, row_kind_of}
use Rattle.frames.specs.declared.Frame.{Frame}
use Rattle.frames.specs.Bytes.{byte}
use Rattle.frames.specs.Fields.{fits_all}
use Rattle.frames.specs.Layout.{type_layout, member_layout, item_layout, row_layout, component_layout}
use Rattle.frames.specs.Forms.{fields_fit}

abbrev table : Frame → ℕ → Bool
table f family =
    get_or
    (true ∷ fits_all (type_layout (type_kind_of (byte f 1))) f ∷ (eqb (byte f 1) 0 && fits_all member_layout f)
    ∷ fits_all (item_layout (item_kind_of (byte f 1))) f ∷ fits_all (row_layout (row_kind_of (byte f 1))) f
    ∷ (eqb (byte f 1) 0 && fits_all component_layout f) ∷ [])
    family true

-- a type
pub fit-type : (f : Frame) → byte f 0 ≡ 1 → fields_fit f ≡ fits_all (type_layout (type_kind_of (byte f 1))) f
unfolding fields_fit
fit-type f e = ap (table f) e

-- a member, whose kind is 0
pub fit-member : (f : Frame) → byte f 0 ≡ 2 → fields_fit f ≡ (eqb (byte f 1) 0 && fits_all member_layout f)
unfolding fields_fit
fit-member f e = ap (table f) e

-- an item
pub fit-item : (f : Frame) → byte f 0 ≡ 3 → fields_fit f ≡ fits_all (item_layout (item_kind_of (byte f 1))) f
unfolding fields_fit
fit-item f e = ap (table f) e

-- a row
pub fit_row : (f : Frame) → byte f 0 ≡ 4 → fields_fit f ≡ fits_all (row_layout (row_kind_of (byte f 1))) f
unfolding fields_fit
fit_row f e = ap (table f) e

-- a component, whose kind is 0
pub fit-component : (f : Frame) → byte f 0 ≡ 5 → fields_fit f ≡ (eqb (byte f 1) 0 && fits_all component_layout f)
unfolding fields_fit
fit-component f e = ap (table f) e
