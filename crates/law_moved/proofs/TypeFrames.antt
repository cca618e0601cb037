-- A TYPE'S FRAME, AND AN ITEM'S, with its numbers moved reads as what it read as, moved; its family and kind stay, and
-- its bytes stay within their values. Kind by kind: a number that is written is read again.
use mathlib.Core.Path.{◌≡◌, refl}
use mathlib.Core.Bool.{Bool, true, false}
use mathlib.Core.List.{◌∷◌}
use lib.Dec.{eqb}
use Rattle.scan.proofs.Laws.{by-test}
use Rattle.ir.specs.declared.TypeKind.{TypeKind}
use Rattle.ir.specs.declared.TypeKind.TheVariants as Tk
use Rattle.ir.specs.declared.ItemKind.{ItemKind}
use Rattle.ir.specs.declared.ItemKind.TheVariants as Ik
use Rattle.ir.specs.declared.ArraySize.{ArraySize}
use Rattle.ir.specs.declared.ArraySize.TheVariants as As
use Rattle.ir.specs.Numbers.{flag_of}
use Rattle.frames.specs.declared.Frame.{Frame}
use Rattle.frames.specs.Bytes.{byte, half, word}
use Rattle.frames.specs.Fields.{fits_all, array_size_of}
use Rattle.frames.specs.Layout.{type_layout, item_layout}
use Rattle.frames.specs.Forms.{type_as, item_as}
use Rattle.frames.proofs.ReadBack.{half_back, word_back}
use Rattle.law_moved.specs.Moves.{Moves, type_form_to, item_to}
use Rattle.law_moved.specs.Frames.{two, types, size_numbers, type_numbers, result_numbers, item_numbers, moved_in}
use Rattle.law_moved.proofs.RowFrames.{Stays}

module _ (m : Moves) where
  -- TYPES

  -- a statement of a frame whose kind has an array's size, by its form: constant, pending, or another
  pub by_form : (f : Frame) (P : ArraySize → Type 0) → (eqb (byte f 4) 0 ≡ true → P (As.Constant (word f 8)))
      → (eqb (byte f 4) 0 ≡ false → eqb (byte f 4) 1 ≡ true → P (As.Pending (record { 0 = word f 8 })))
      → (eqb (byte f 4) 0 ≡ false → eqb (byte f 4) 1 ≡ false → P As.Dynamic) → P (array_size_of (byte f 4) (word f 8))
  by_form f P constant pending rest =
      by-test P (eqb (byte f 4) 0) constant (λ q. by-test P (eqb (byte f 4) 1) (pending q) (rest q))

  array-reads : (f : Frame)
      → type_as Tk.Array (moved_in m (type_numbers Tk.Array f) f) ≡ type_form_to m (type_as Tk.Array f)
  array-reads f =
      by_form f (λ z. type_as Tk.Array (moved_in m (two types 2 ∷ size_numbers z) f)
      ≡ type_form_to m (type_as Tk.Array f))
      (λ q. rw (q, half_back (m.types (half f 2))))
      (λ q e. rw (q, e, half_back (m.types (half f 2)), word_back (m.overrides (word f 8))))
      (λ q e. rw (q, e, half_back (m.types (half f 2))))

  array-stays : (f : Frame) → Stays f (moved_in m (type_numbers Tk.Array f) f)
  array-stays f = by_form f (λ z. Stays f (moved_in m (two types 2 ∷ size_numbers z) f)) (λ q. (refl, refl))
      (λ q e. (refl, refl)) (λ q e. (refl, refl))

  array-fits : (f : Frame) → fits_all (type_layout Tk.Array) f ≡ true
      → fits_all (type_layout Tk.Array) (moved_in m (type_numbers Tk.Array f) f) ≡ true
  array-fits f h =
      by_form f (λ z. fits_all (type_layout Tk.Array) (moved_in m (two types 2 ∷ size_numbers z) f) ≡ true) (λ q. h)
      (λ q e. rw (q, e) (rw (q, e) at h)) (λ q e. h)

  binding-reads : (f : Frame) → type_as Tk.BindingArray (moved_in m (type_numbers Tk.BindingArray f) f)
      ≡ type_form_to m (type_as Tk.BindingArray f)
  binding-reads f =
      by_form f (λ z. type_as Tk.BindingArray (moved_in m (two types 2 ∷ size_numbers z) f)
      ≡ type_form_to m (type_as Tk.BindingArray f)) (λ q. rw (q, half_back (m.types (half f 2))))
      (λ q e. rw (q, e, half_back (m.types (half f 2)), word_back (m.overrides (word f 8))))
      (λ q e. rw (q, e, half_back (m.types (half f 2))))

  binding-stays : (f : Frame) → Stays f (moved_in m (type_numbers Tk.BindingArray f) f)
  binding-stays f = by_form f (λ z. Stays f (moved_in m (two types 2 ∷ size_numbers z) f)) (λ q. (refl, refl))
      (λ q e. (refl, refl)) (λ q e. (refl, refl))

  binding-fits : (f : Frame) → fits_all (type_layout Tk.BindingArray) f ≡ true
      → fits_all (type_layout Tk.BindingArray) (moved_in m (type_numbers Tk.BindingArray f) f) ≡ true
  binding-fits f h =
      by_form f (λ z. fits_all (type_layout Tk.BindingArray) (moved_in m (two types 2 ∷ size_numbers z) f) ≡ true)
      (λ q. h)
      (λ q e. rw (q, e) (rw (q, e) at h)) (λ q e. h)

  pub type_reads : (k : TypeKind) (f : Frame)
      → type_as k (moved_in m (type_numbers k f) f) ≡ type_form_to m (type_as k f)
  type_reads Tk.Unknown f = refl
  type_reads Tk.Scalar f = refl
  type_reads Tk.Vector f = refl
  type_reads Tk.Matrix f = refl
  type_reads Tk.CooperativeMatrix f = refl
  type_reads Tk.Atomic f = refl
  type_reads Tk.Pointer f = rw (half_back (m.types (half f 2)))
  type_reads Tk.ValuePointer f = refl
  type_reads Tk.Array f = array-reads f
  type_reads Tk.Struct f = rw (half_back (m.members (half f 2)))
  type_reads Tk.Image f = refl
  type_reads Tk.Sampler f = refl
  type_reads Tk.AccelerationStructure f = refl
  type_reads Tk.RayQuery f = refl
  type_reads Tk.BindingArray f = binding-reads f

  pub type-stays : (k : TypeKind) (f : Frame) → Stays f (moved_in m (type_numbers k f) f)
  type-stays Tk.Unknown f = (refl, refl)
  type-stays Tk.Scalar f = (refl, refl)
  type-stays Tk.Vector f = (refl, refl)
  type-stays Tk.Matrix f = (refl, refl)
  type-stays Tk.CooperativeMatrix f = (refl, refl)
  type-stays Tk.Atomic f = (refl, refl)
  type-stays Tk.Pointer f = (refl, refl)
  type-stays Tk.ValuePointer f = (refl, refl)
  type-stays Tk.Array f = array-stays f
  type-stays Tk.Struct f = (refl, refl)
  type-stays Tk.Image f = (refl, refl)
  type-stays Tk.Sampler f = (refl, refl)
  type-stays Tk.AccelerationStructure f = (refl, refl)
  type-stays Tk.RayQuery f = (refl, refl)
  type-stays Tk.BindingArray f = binding-stays f

  pub type-fits : (k : TypeKind) (f : Frame) → fits_all (type_layout k) f ≡ true
      → fits_all (type_layout k) (moved_in m (type_numbers k f) f) ≡ true
  type-fits Tk.Unknown f h = h
  type-fits Tk.Scalar f h = h
  type-fits Tk.Vector f h = h
  type-fits Tk.Matrix f h = h
  type-fits Tk.CooperativeMatrix f h = h
  type-fits Tk.Atomic f h = h
  type-fits Tk.Pointer f h = h
  type-fits Tk.ValuePointer f h = h
  type-fits Tk.Array f h = array-fits f h
  type-fits Tk.Struct f h = h
  type-fits Tk.Image f h = h
  type-fits Tk.Sampler f h = h
  type-fits Tk.AccelerationStructure f h = h
  type-fits Tk.RayQuery f h = h
  type-fits Tk.BindingArray f h = binding-fits f h

  -- ITEMS, MEMBERS AND COMPONENTS

  result-reads : (f : Frame) (b : Bool) → flag_of (byte f 4) ≡ b → item_as Ik.Function (moved_in m (result_numbers b) f)
      ≡ item_to m (item_as Ik.Function f)
  result-reads f true e = rw (e, half_back (m.types (half f 2)))
  result-reads f false e = rw e

  result-stays : (b : Bool) (f : Frame) → Stays f (moved_in m (result_numbers b) f)
  result-stays true f = (refl, refl)
  result-stays false f = (refl, refl)

  result_fits : (f : Frame) (b : Bool) → flag_of (byte f 4) ≡ b → fits_all (item_layout Ik.Function) f ≡ true
      → fits_all (item_layout Ik.Function) (moved_in m (result_numbers b) f) ≡ true
  result_fits f true e h = rw e (rw e at h)
  result_fits f false e h = h

  pub item-reads : (k : ItemKind) (f : Frame) → item_as k (moved_in m (item_numbers k f) f) ≡ item_to m (item_as k f)
  item-reads Ik.Unknown f = refl
  item-reads Ik.Constant f = rw (half_back (m.types (half f 2)))
  item-reads Ik.Override f = rw (half_back (m.types (half f 2)))
  item-reads Ik.GlobalVariable f = rw (half_back (m.types (half f 2)))
  item-reads Ik.FunctionArgument f = rw (half_back (m.types (half f 2)))
  item-reads Ik.LocalVariable f = rw (half_back (m.types (half f 2)))
  item-reads Ik.Function f = result-reads f (flag_of (byte f 4)) refl
  item-reads Ik.RayIntersection f = rw (half_back (m.types (half f 2)))
  item-reads Ik.RayVertexReturn f = rw (half_back (m.types (half f 2)))

  pub item-stays : (k : ItemKind) (f : Frame) → Stays f (moved_in m (item_numbers k f) f)
  item-stays Ik.Unknown f = (refl, refl)
  item-stays Ik.Constant f = (refl, refl)
  item-stays Ik.Override f = (refl, refl)
  item-stays Ik.GlobalVariable f = (refl, refl)
  item-stays Ik.FunctionArgument f = (refl, refl)
  item-stays Ik.LocalVariable f = (refl, refl)
  item-stays Ik.Function f = result-stays (flag_of (byte f 4)) f
  item-stays Ik.RayIntersection f = (refl, refl)
  item-stays Ik.RayVertexReturn f = (refl, refl)

  pub item-fits : (k : ItemKind) (f : Frame) → fits_all (item_layout k) f ≡ true
      → fits_all (item_layout k) (moved_in m (item_numbers k f) f) ≡ true
  item-fits Ik.Unknown f h = h
  item-fits Ik.Constant f h = h
  item-fits Ik.Override f h = h
  item-fits Ik.GlobalVariable f h = h
  item-fits Ik.FunctionArgument f h = h
  item-fits Ik.LocalVariable f h = h
  item-fits Ik.Function f h = result_fits f (flag_of (byte f 4)) refl h
  item-fits Ik.RayIntersection f h = h
  item-fits Ik.RayVertexReturn f h = h
