-- A FRAME MOVED TWICE is the frame moved once by both (document 02, request 14, where more than two files are joined):
-- what the first move writes is what the second reads, at the same places, since family, kind and the bytes that say
-- where numbers stand do not move. Kind by kind.
use Prim.Native.Nat.{ℕ, zero, suc}
use mathlib.Core.Path.{◌≡◌, refl, ap, ◌∙◌}
use mathlib.Core.Bool.{Bool, true, false}
use mathlib.Core.List.{List, [], ◌∷◌}
use Rattle.ir.specs.declared.TypeKind.{TypeKind}
use Rattle.ir.specs.declared.TypeKind.TheVariants as Tk
use Rattle.ir.specs.declared.ItemKind.{ItemKind}
use Rattle.ir.specs.declared.ItemKind.TheVariants as Ik
use Rattle.ir.specs.declared.RowKind.{RowKind}
use Rattle.ir.specs.declared.RowKind.TheVariants as Rk
use Rattle.ir.specs.declared.ImageQuery.{ImageQuery}
use Rattle.ir.specs.declared.ImageQuery.TheVariants as Iq
use Rattle.ir.specs.declared.RelationalFunction.{RelationalFunction}
use Rattle.ir.specs.declared.RelationalFunction.TheVariants as Rl
use Rattle.ir.specs.Numbers.{type_kind_of, item_kind_of, row_kind_of, image_query_of, relational_function_of, flag_of}
use Rattle.frames.specs.declared.Frame.{Frame}
use Rattle.frames.specs.Bytes.{byte, half, word}
use Rattle.frames.proofs.ReadBack.{half_back, word_back}
use Rattle.law_moved.specs.Moves.{Moves}
use Rattle.law_moved.specs.Frames.{Counted, types, members, constants, overrides, globals, arguments, locals}
use Rattle.law_moved.specs.Frames.{functions, rows, components, counts, Spot, two, four, size_numbers, type_numbers}
use Rattle.law_moved.specs.Frames.{result_numbers, item_numbers, query_numbers, relational_numbers, row_numbers}
use Rattle.law_moved.specs.Frames.{numbers_by, move_of, moved_in, moved_frame}
use Rattle.law_moved.proofs.RowFrames.{row_stays}
use Rattle.law_moved.proofs.TypeFrames.{by_form, type-stays, item-stays}
use Rattle.law_moved.proofs.Frames.{frame-family}

-- m after l is k
module _ (m l k : Moves) (both : (c : Counted) (n : ℕ) → move_of m c (move_of l c n) ≡ move_of k c n) where
  -- moved by one list of places, then by another
  abbrev Twice : List Spot → List Spot → Frame → Type 0
  Twice x y f = moved_in m y (moved_in l x f) ≡ moved_in k x f

  -- THE PLACES: a number in bytes 2 and 3, two of them, one in bytes 12 to 15, and those of a compose
  half_twice : (c : Counted) (f : Frame) → Twice (two c 2 ∷ []) (two c 2 ∷ []) f
  half_twice c f = rw (half_back (move_of l c (half f 2)), both c (half f 2))

  halves-twice : (c d : Counted) (f : Frame) → Twice (two c 2 ∷ two d 4 ∷ []) (two c 2 ∷ two d 4 ∷ []) f
  halves-twice c d f =
      rw (half_back (move_of l c (half f 2)), half_back (move_of l d (half f 4)), both c (half f 2), both d (half f 4))

  word-twice : (c : Counted) (f : Frame) → Twice (four c 12 ∷ []) (four c 12 ∷ []) f
  word-twice c f = rw (word_back (move_of l c (word f 12)), both c (word f 12))

  compose-twice : (f : Frame) → Twice (row_numbers Rk.Compose f) (row_numbers Rk.Compose f) f
  compose-twice f =
      rw (
        half_back (l.types (half f 2)),
        half_back (l.counts (half f 4)),
        word_back (l.components (word f 12)),
        both types (half f 2),
        both counts (half f 4),
        both components (word f 12),
      )

  -- TYPES
  array-twice : (f : Frame)
      → Twice (type_numbers Tk.Array f) (type_numbers Tk.Array (moved_in l (type_numbers Tk.Array f) f)) f
  array-twice f =
      by_form l f (λ z. Twice (two types 2 ∷ size_numbers z)
      (type_numbers Tk.Array (moved_in l (two types 2 ∷ size_numbers z) f)) f)
      (λ q. rw (q, half_back (l.types (half f 2)), both types (half f 2)))
      (λ q e. rw (
        q,
        e,
        half_back (l.types (half f 2)),
        word_back (l.overrides (word f 8)),
        both types (half f 2),
        both overrides (word f 8),
      ))
      (λ q e. rw (q, e, half_back (l.types (half f 2)), both types (half f 2)))

  type-twice : (x : TypeKind) (f : Frame)
      → Twice (type_numbers x f) (type_numbers x (moved_in l (type_numbers x f) f)) f
  type-twice Tk.Unknown f = refl
  type-twice Tk.Scalar f = refl
  type-twice Tk.Vector f = refl
  type-twice Tk.Matrix f = refl
  type-twice Tk.CooperativeMatrix f = refl
  type-twice Tk.Atomic f = refl
  type-twice Tk.Pointer f = half_twice types f
  type-twice Tk.ValuePointer f = refl
  type-twice Tk.Array f = array-twice f
  type-twice Tk.Struct f = half_twice members f
  type-twice Tk.Image f = refl
  type-twice Tk.Sampler f = refl
  type-twice Tk.AccelerationStructure f = refl
  type-twice Tk.RayQuery f = refl
  type-twice Tk.BindingArray f = array-twice f

  -- ITEMS
  result-twice : (f : Frame) (b : Bool) → flag_of (byte f 4) ≡ b
      → Twice (result_numbers b) (item_numbers Ik.Function (moved_in l (result_numbers b) f)) f
  result-twice f true e = rw (e, half_back (l.types (half f 2)), both types (half f 2))
  result-twice f false e = rw e

  item-twice : (x : ItemKind) (f : Frame)
      → Twice (item_numbers x f) (item_numbers x (moved_in l (item_numbers x f) f)) f
  item-twice Ik.Unknown f = refl
  item-twice Ik.Constant f = half_twice types f
  item-twice Ik.Override f = half_twice types f
  item-twice Ik.GlobalVariable f = half_twice types f
  item-twice Ik.FunctionArgument f = half_twice types f
  item-twice Ik.LocalVariable f = half_twice types f
  item-twice Ik.Function f = result-twice f (flag_of (byte f 4)) refl
  item-twice Ik.RayIntersection f = half_twice types f
  item-twice Ik.RayVertexReturn f = half_twice types f

  -- ROWS
  query-twice : (f : Frame) (q : ImageQuery) → image_query_of (byte f 6) ≡ q
      → Twice (query_numbers q) (row_numbers Rk.ImageQuery (moved_in l (query_numbers q) f)) f
  query-twice f Iq.Size e = rw (e, half_back (l.rows (half f 2)), both rows (half f 2))
  query-twice f Iq.NumLevels e = rw e
  query-twice f Iq.NumLayers e = rw e
  query-twice f Iq.NumSamples e = rw e

  relational-twice : (f : Frame) (q : RelationalFunction) → relational_function_of (byte f 6) ≡ q
      → Twice (relational_numbers q) (row_numbers Rk.Relational (moved_in l (relational_numbers q) f)) f
  relational-twice f Rl.All e = rw e
  relational-twice f Rl.Any e = rw e
  relational-twice f Rl.IsNan e = rw (e, half_back (l.rows (half f 2)), both rows (half f 2))
  relational-twice f Rl.IsInf e = rw (e, half_back (l.rows (half f 2)), both rows (half f 2))

  row-twice : (x : RowKind) (f : Frame) → Twice (row_numbers x f) (row_numbers x (moved_in l (row_numbers x f) f)) f
  row-twice Rk.Unknown f = refl
  row-twice Rk.Literal f = refl
  row-twice Rk.Constant f = half_twice constants f
  row-twice Rk.Override f = half_twice overrides f
  row-twice Rk.ZeroValue f = half_twice types f
  row-twice Rk.Compose f = compose-twice f
  row-twice Rk.Access f = half_twice rows f
  row-twice Rk.AccessIndex f = half_twice rows f
  row-twice Rk.Splat f = half_twice rows f
  row-twice Rk.Swizzle f = half_twice rows f
  row-twice Rk.FunctionArgument f = word-twice arguments f
  row-twice Rk.GlobalVariable f = half_twice globals f
  row-twice Rk.LocalVariable f = half_twice locals f
  row-twice Rk.Load f = half_twice rows f
  row-twice Rk.ImageSample f = half_twice rows f
  row-twice Rk.ImageLoad f = half_twice rows f
  row-twice Rk.ImageQuery f = query-twice f (image_query_of (byte f 6)) refl
  row-twice Rk.Unary f = half_twice rows f
  row-twice Rk.Binary f = halves-twice rows rows f
  row-twice Rk.Select f = half_twice rows f
  row-twice Rk.Derivative f = half_twice rows f
  row-twice Rk.Relational f = relational-twice f (relational_function_of (byte f 6)) refl
  row-twice Rk.Math f = refl
  row-twice Rk.As f = half_twice rows f
  row-twice Rk.CallResult f = half_twice functions f
  row-twice Rk.AtomicResult f = half_twice types f
  row-twice Rk.WorkGroupUniformLoadResult f = half_twice types f
  row-twice Rk.ArrayLength f = refl
  row-twice Rk.RayQueryVertexPositions f = refl
  row-twice Rk.RayQueryProceedResult f = refl
  row-twice Rk.RayQueryGetIntersection f = refl
  row-twice Rk.SubgroupBallotResult f = refl
  row-twice Rk.SubgroupOperationResult f = half_twice types f
  row-twice Rk.CooperativeLoad f = half_twice rows f
  row-twice Rk.CooperativeMultiplyAdd f = half_twice rows f

  -- A FRAME OF ANY FAMILY
  by-family : (b : ℕ) (f : Frame) → Twice (numbers_by b f) (numbers_by b (moved_in l (numbers_by b f) f)) f
  by-family zero f = refl
  by-family (suc zero) f =
      let x = type_kind_of (byte f 1) in let g = moved_in l (type_numbers x f) f in
      ap (λ (y : ℕ). moved_in m (type_numbers (type_kind_of y) g) g) (type-stays l x f).1 ∙ type-twice x f
  by-family (suc (suc zero)) f = half_twice types f
  by-family (suc (suc (suc zero))) f =
      let x = item_kind_of (byte f 1) in let g = moved_in l (item_numbers x f) f in
      ap (λ (y : ℕ). moved_in m (item_numbers (item_kind_of y) g) g) (item-stays l x f).1 ∙ item-twice x f
  by-family (suc (suc (suc (suc zero)))) f =
      let x = row_kind_of (byte f 1) in let g = moved_in l (row_numbers x f) f in
      ap (λ (y : ℕ). moved_in m (row_numbers (row_kind_of y) g) g) (row_stays l x f).1 ∙ row-twice x f
  by-family (suc (suc (suc (suc (suc zero))))) f = half_twice rows f
  by-family (suc (suc (suc (suc (suc (suc b)))))) f = refl

  pub frame-twice : (f : Frame) → moved_frame m (moved_frame l f) ≡ moved_frame k f
  unfolding moved_frame
  frame-twice f =
      ap (λ (b : ℕ). moved_in m (numbers_by b (moved_frame l f)) (moved_frame l f)) (frame-family l f)
      ∙ by-family (byte f 0) f
