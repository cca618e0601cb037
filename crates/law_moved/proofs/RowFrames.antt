-- A ROW'S FRAME with its numbers moved reads as the row, moved; its family and kind stay, and its bytes stay within
-- their values. Kind by kind: a number that is written is read again.
use Prim.Native.Nat.{◌<◌}
use mathlib.Core.Path.{◌≡◌, refl, sym, ap, ◌∙◌}
use mathlib.Core.Bool.{true}
use lib.Dec.{ltb}
use borrow.Author.Tests.{ltb-true}
use Rattle.scan.proofs.Laws.{and_first}
use Rattle.ir.specs.declared.RowKind.{RowKind}
use Rattle.ir.specs.declared.RowKind.TheVariants as Rk
use Rattle.ir.specs.declared.ImageQuery.{ImageQuery}
use Rattle.ir.specs.declared.ImageQuery.TheVariants as Iq
use Rattle.ir.specs.declared.RelationalFunction.{RelationalFunction}
use Rattle.ir.specs.declared.RelationalFunction.TheVariants as Rl
use Rattle.ir.specs.Numbers.{image_query_of, relational_function_of}
use Rattle.frames.specs.declared.Frame.{Frame}
use Rattle.frames.specs.Bytes.{byte, half, word}
use Rattle.frames.specs.Fields.{fits_all}
use Rattle.frames.specs.Layout.{row_layout}
use Rattle.frames.specs.Forms.{row_as}
use Rattle.ir.specs.Numbers.{image_query_number, relational_function_number}
use Rattle.ir.proofs.Numbered.{image_query-number, relational_function-number}
use Rattle.frames.proofs.ReadBack.{half_back, word_back}
use Rattle.law_moved.specs.Moves.{Moves, row_form_to}
use Rattle.law_moved.specs.Frames.{types, query_numbers, relational_numbers, row_numbers, moved_in}

-- bytes 0 and 1 of a frame are as they were
abbrev pub Stays : Frame → Frame → Type 0
Stays f g = (byte g 0 ≡ byte f 0) × (byte g 1 ≡ byte f 1)

module _ (m : Moves) where
  query-reads : (f : Frame) (q : ImageQuery) → image_query_of (byte f 6) ≡ q
      → row_as Rk.ImageQuery (moved_in m (query_numbers q) f) ≡ row_form_to m (row_as Rk.ImageQuery f)
  query-reads f Iq.Size e = rw (e, half_back (m.rows (half f 2)))
  query-reads f Iq.NumLevels e = rw e
  query-reads f Iq.NumLayers e = rw e
  query-reads f Iq.NumSamples e = rw e

  relational-reads : (f : Frame) (q : RelationalFunction) → relational_function_of (byte f 6) ≡ q
      → row_as Rk.Relational (moved_in m (relational_numbers q) f) ≡ row_form_to m (row_as Rk.Relational f)
  relational-reads f Rl.All e = rw e
  relational-reads f Rl.Any e = rw e
  relational-reads f Rl.IsNan e = rw (e, half_back (m.rows (half f 2)))
  relational-reads f Rl.IsInf e = rw (e, half_back (m.rows (half f 2)))

  pub row_reads : (k : RowKind) (f : Frame) → row_as k (moved_in m (row_numbers k f) f) ≡ row_form_to m (row_as k f)
  row_reads Rk.Unknown f = refl
  row_reads Rk.Literal f = refl
  row_reads Rk.Constant f = rw (half_back (m.constants (half f 2)))
  row_reads Rk.Override f = rw (half_back (m.overrides (half f 2)))
  row_reads Rk.ZeroValue f = rw (half_back (m.types (half f 2)))
  row_reads Rk.Compose f
      = rw (half_back (m.types (half f 2)), half_back (m.counts (half f 4)), word_back (m.components (word f 12)))
  row_reads Rk.Access f = rw (half_back (m.rows (half f 2)))
  row_reads Rk.AccessIndex f = rw (half_back (m.rows (half f 2)))
  row_reads Rk.Splat f = rw (half_back (m.rows (half f 2)))
  row_reads Rk.Swizzle f = rw (half_back (m.rows (half f 2)))
  row_reads Rk.FunctionArgument f = rw (word_back (m.arguments (word f 12)))
  row_reads Rk.GlobalVariable f = rw (half_back (m.globals (half f 2)))
  row_reads Rk.LocalVariable f = rw (half_back (m.locals (half f 2)))
  row_reads Rk.Load f = rw (half_back (m.rows (half f 2)))
  row_reads Rk.ImageSample f = rw (half_back (m.rows (half f 2)))
  row_reads Rk.ImageLoad f = rw (half_back (m.rows (half f 2)))
  row_reads Rk.ImageQuery f = query-reads f (image_query_of (byte f 6)) refl
  row_reads Rk.Unary f = rw (half_back (m.rows (half f 2)))
  row_reads Rk.Binary f = rw (half_back (m.rows (half f 2)), half_back (m.rows (half f 4)))
  row_reads Rk.Select f = rw (half_back (m.rows (half f 2)))
  row_reads Rk.Derivative f = rw (half_back (m.rows (half f 2)))
  row_reads Rk.Relational f = relational-reads f (relational_function_of (byte f 6)) refl
  row_reads Rk.Math f = refl
  row_reads Rk.As f = rw (half_back (m.rows (half f 2)))
  row_reads Rk.CallResult f = rw (half_back (m.functions (half f 2)))
  row_reads Rk.AtomicResult f = rw (half_back (m.types (half f 2)))
  row_reads Rk.WorkGroupUniformLoadResult f = rw (half_back (m.types (half f 2)))
  row_reads Rk.ArrayLength f = refl
  row_reads Rk.RayQueryVertexPositions f = refl
  row_reads Rk.RayQueryProceedResult f = refl
  row_reads Rk.RayQueryGetIntersection f = refl
  row_reads Rk.SubgroupBallotResult f = refl
  row_reads Rk.SubgroupOperationResult f = rw (half_back (m.types (half f 2)))
  row_reads Rk.CooperativeLoad f = rw (half_back (m.rows (half f 2)))
  row_reads Rk.CooperativeMultiplyAdd f = rw (half_back (m.rows (half f 2)))

  query-stays : (q : ImageQuery) (f : Frame) → Stays f (moved_in m (query_numbers q) f)
  query-stays Iq.Size f = (refl, refl)
  query-stays Iq.NumLevels f = (refl, refl)
  query-stays Iq.NumLayers f = (refl, refl)
  query-stays Iq.NumSamples f = (refl, refl)

  relational-stays : (q : RelationalFunction) (f : Frame) → Stays f (moved_in m (relational_numbers q) f)
  relational-stays Rl.All f = (refl, refl)
  relational-stays Rl.Any f = (refl, refl)
  relational-stays Rl.IsNan f = (refl, refl)
  relational-stays Rl.IsInf f = (refl, refl)

  pub row_stays : (k : RowKind) (f : Frame) → Stays f (moved_in m (row_numbers k f) f)
  row_stays Rk.Unknown f = (refl, refl)
  row_stays Rk.Literal f = (refl, refl)
  row_stays Rk.Constant f = (refl, refl)
  row_stays Rk.Override f = (refl, refl)
  row_stays Rk.ZeroValue f = (refl, refl)
  row_stays Rk.Compose f = (refl, refl)
  row_stays Rk.Access f = (refl, refl)
  row_stays Rk.AccessIndex f = (refl, refl)
  row_stays Rk.Splat f = (refl, refl)
  row_stays Rk.Swizzle f = (refl, refl)
  row_stays Rk.FunctionArgument f = (refl, refl)
  row_stays Rk.GlobalVariable f = (refl, refl)
  row_stays Rk.LocalVariable f = (refl, refl)
  row_stays Rk.Load f = (refl, refl)
  row_stays Rk.ImageSample f = (refl, refl)
  row_stays Rk.ImageLoad f = (refl, refl)
  row_stays Rk.ImageQuery f = query-stays (image_query_of (byte f 6)) f
  row_stays Rk.Unary f = (refl, refl)
  row_stays Rk.Binary f = (refl, refl)
  row_stays Rk.Select f = (refl, refl)
  row_stays Rk.Derivative f = (refl, refl)
  row_stays Rk.Relational f = relational-stays (relational_function_of (byte f 6)) f
  row_stays Rk.Math f = (refl, refl)
  row_stays Rk.As f = (refl, refl)
  row_stays Rk.CallResult f = (refl, refl)
  row_stays Rk.AtomicResult f = (refl, refl)
  row_stays Rk.WorkGroupUniformLoadResult f = (refl, refl)
  row_stays Rk.ArrayLength f = (refl, refl)
  row_stays Rk.RayQueryVertexPositions f = (refl, refl)
  row_stays Rk.RayQueryProceedResult f = (refl, refl)
  row_stays Rk.RayQueryGetIntersection f = (refl, refl)
  row_stays Rk.SubgroupBallotResult f = (refl, refl)
  row_stays Rk.SubgroupOperationResult f = (refl, refl)
  row_stays Rk.CooperativeLoad f = (refl, refl)
  row_stays Rk.CooperativeMultiplyAdd f = (refl, refl)

  -- what is not a number stays within its values
  query-fits : (f : Frame) (q : ImageQuery) → image_query_of (byte f 6) ≡ q
      → fits_all (row_layout Rk.ImageQuery) f ≡ true
      → fits_all (row_layout Rk.ImageQuery) (moved_in m (query_numbers q) f) ≡ true
  query-fits f Iq.Size e h =
      let l : byte f 6 < 4 = ltb-true (byte f 6) 4 (and_first (ltb (byte f 6) 4) _ (and_first _ _ h)) in
      let z : byte f 6 ≡ 0 = sym (image_query-number (byte f 6) l) ∙ ap image_query_number e in
      rw z (rw z at h)
  query-fits f Iq.NumLevels e h = h
  query-fits f Iq.NumLayers e h = h
  query-fits f Iq.NumSamples e h = h

  relational-fits : (f : Frame) (q : RelationalFunction) → relational_function_of (byte f 6) ≡ q
      → fits_all (row_layout Rk.Relational) f ≡ true
      → fits_all (row_layout Rk.Relational) (moved_in m (relational_numbers q) f) ≡ true
  relational-fits f Rl.All e h = h
  relational-fits f Rl.Any e h = h
  relational-fits f Rl.IsNan e h =
      let l : byte f 6 < 4 = ltb-true (byte f 6) 4 (and_first (ltb (byte f 6) 4) _ (and_first _ _ h)) in
      let z : byte f 6 ≡ 2 = sym (relational_function-number (byte f 6) l) ∙ ap relational_function_number e in
      rw z (rw z at h)
  relational-fits f Rl.IsInf e h =
      let l : byte f 6 < 4 = ltb-true (byte f 6) 4 (and_first (ltb (byte f 6) 4) _ (and_first _ _ h)) in
      let z : byte f 6 ≡ 3 = sym (relational_function-number (byte f 6) l) ∙ ap relational_function_number e in
      rw z (rw z at h)

  pub row_fits : (k : RowKind) (f : Frame) → fits_all (row_layout k) f ≡ true
      → fits_all (row_layout k) (moved_in m (row_numbers k f) f) ≡ true
  row_fits Rk.Unknown f h = h
  row_fits Rk.Literal f h = h
  row_fits Rk.Constant f h = h
  row_fits Rk.Override f h = h
  row_fits Rk.ZeroValue f h = h
  row_fits Rk.Compose f h = h
  row_fits Rk.Access f h = h
  row_fits Rk.AccessIndex f h = h
  row_fits Rk.Splat f h = h
  row_fits Rk.Swizzle f h = h
  row_fits Rk.FunctionArgument f h = h
  row_fits Rk.GlobalVariable f h = h
  row_fits Rk.LocalVariable f h = h
  row_fits Rk.Load f h = h
  row_fits Rk.ImageSample f h = h
  row_fits Rk.ImageLoad f h = h
  row_fits Rk.ImageQuery f h = query-fits f (image_query_of (byte f 6)) refl h
  row_fits Rk.Unary f h = h
  row_fits Rk.Binary f h = h
  row_fits Rk.Select f h = h
  row_fits Rk.Derivative f h = h
  row_fits Rk.Relational f h = relational-fits f (relational_function_of (byte f 6)) refl h
  row_fits Rk.Math f h = h
  row_fits Rk.As f h = h
  row_fits Rk.CallResult f h = h
  row_fits Rk.AtomicResult f h = h
  row_fits Rk.WorkGroupUniformLoadResult f h = h
  row_fits Rk.ArrayLength f h = h
  row_fits Rk.RayQueryVertexPositions f h = h
  row_fits Rk.RayQueryProceedResult f h = h
  row_fits Rk.RayQueryGetIntersection f h = h
  row_fits Rk.SubgroupBallotResult f h = h
  row_fits Rk.SubgroupOperationResult f h = h
  row_fits Rk.CooperativeLoad f h = h
  row_fits Rk.CooperativeMultiplyAdd f h = h
