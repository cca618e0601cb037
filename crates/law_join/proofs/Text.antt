-- THE JOIN AS LINES: they are read back as the join's frames, and accepted within every limit that the join is within.
-- A moved number is one of the join, so it fits its bytes; an argument index, which is free, was found.
use Rattle.std.specs.Prelude.{Ok, Some}
use Prim.Native.Nat.{ℕ, zero, suc, ◌+◌, ◌-◌, ◌*◌, ◌≤◌, ◌<◌}
use native.Mathlib.Omega.{arith}
use mathlib.Core.Path.{◌≡◌, refl, ap, subst}
use mathlib.Core.Bool.{true}
use mathlib.Core.List.{List}
use lib.ListN.{length}
use native.Mathlib.Decide.{dec_lt}
use borrow.Author.Tests.{lt-ltb}
use Rattle.scan.proofs.Laws.{and_first}
use Rattle.ir.specs.declared.RowKind.{RowKind}
use Rattle.ir.specs.declared.RowKind.TheVariants as Rk
use Rattle.ir.specs.declared.Expression.TheVariants as Ex
use Rattle.ir.specs.Numbers.{type_kind_of, item_kind_of, row_kind_of}
use Rattle.frames.specs.declared.Frame.{Frame}
use Rattle.frames.specs.Bytes.{byte, half, word, frame_at, frame_count}
use Rattle.frames.specs.Forms.{row_as, type_of, item_of, row_of, member_of, component_of}
use Rattle.frames.proofs.FieldBack.{Below}
use Rattle.frames.proofs.Put.{below_at}
use Rattle.text.specs.declared.AnswerRoom.TheVariants.{NotLent}
use Rattle.text.specs.Lines.{text_of}
use Rattle.text.specs.Reading.{most_frames}
use Rattle.text.proofs.Laws.{Bytes}
use Rattle.archive.specs.declared.Starts.{Starts}
use Rattle.archive.specs.Order.{rank_of}
use Rattle.archive.specs.Access.{row_in}
use Rattle.archive.proofs.Files.{from_start}
use Rattle.archive.specs.Starts.{start, starts_of, row_count}
use Rattle.archive.specs.Names.{is_type, is_row, names_by, names_of, names_ok}
use Rattle.archive.specs.Checks.{index_ok}
use Rattle.archive.specs.Parts.{early_ok}
use Rattle.rule_file.specs.File.{read_file}
use Rattle.law_rows.proofs.Good.{Good}
use Rattle.law_moved.specs.Frames.{member_numbers, component_numbers, numbers_by, moved_frame}
use Rattle.law_moved.proofs.Files.{starts-ordered, file-count, file-at}
use Rattle.law_moved.proofs.Written.{AllFit, in-below, frames-bytes, written-accepted}
use Rattle.law_join.specs.Join.{bound, join_moves, join_frames, join_file}
use Rattle.law_join.specs.Joinable.{Joinable}
use Rattle.law_join.proofs.Fits.{Few, type-fit, own-row-fit, type-fits, item-fits, row_fits}
use Rattle.law_join.proofs.Frames.{join-count, by_part}
use Rattle.law_join.proofs.Found.{argued}
use Rattle.law_join.proofs.Order.{end_is, within}
use Rattle.law_join.proofs.Accepted.{join-good}

few-of : (x : List ℕ) → frame_count x ≤ 1024 → Few (starts_of x)
unfolding starts_of
few-of x l = record { ordered = starts-ordered x; few = l }

-- a row's frame is among the rows
module _ (x : List ℕ) (good : Good x) where
  rank-4 : (f : Frame) → byte f 0 ≡ 4 → rank_of f ≡ 1024
  rank-4 f e = rw e

  row-place : (k : ℕ) → k < frame_count x → byte (frame_at x k) 0 ≡ 4 → ((starts_of x).rows ≤ k)
      × (k < (starts_of x).components)
  unfolding starts_of
  row-place k l e = (
    (from_start x good.order 1024 k l).1 (let r = rank-4 (frame_at x k) e in omega arith),
    go (dec_lt k (start x 1280)),
  )
    where
      go : Dec (k < start x 1280) → k < start x 1280
      go (yes w) = w
      go (no w) = let q = (from_start x good.order 1280 k l).0 (omega arith) in let r = rank-4 (frame_at x k) e in
          absurd (omega arith)

  named : (k : ℕ) → k < frame_count x → names_of (starts_of x) k (frame_at x k) ≡ true
  unfolding index_ok names_ok
  named k l = and_first (names_of (starts_of x) k (frame_at x k)) (early_ok x k) (good.index k l)

  argument-reads : (f : Frame) → row_kind_of (byte f 1) ≡ Rk.FunctionArgument → row_of f
      ≡ Some (Ex.FunctionArgument (word f 12))
  unfolding row_of
  argument-reads f e = ap (λ (k : RowKind). row_as k f) e

module _ (fr gr : List ℕ) (good : Good fr) (also : Good gr) (jf : Joinable fr) (jg : Joinable gr)
    (few : frame_count fr ≤ 1024) (fewer : frame_count gr ≤ 1024) (bytes : Bytes fr) (more : Bytes gr) where
  abbrev J : List ℕ
  J = join_file fr gr

  abbrev s : Starts
  s = starts_of fr

  abbrev t : Starts
  t = starts_of gr

  found : (k : ℕ) → k < frame_count gr → byte (frame_at gr k) 0 ≡ 4 → row_kind_of (byte (frame_at gr k) 1)
      ≡ Rk.FunctionArgument → word (frame_at gr k) 12 < t.locals - t.arguments
  unfolding row_in
  found k l e q =
      let w = row-place gr also k l e in
      let x = w.0 in let y = w.1 in
      let n = k - t.rows in
      let i : t.rows + (k - t.rows) ≡ k = omega arith in
      let h : is_row t (record { 0 = k - t.rows }) ≡ true = lt-ltb (k - t.rows) (row_count t) (omega arith) in
      argued gr jg (k - t.rows) (word (frame_at gr k) 12) (omega arith)
      (rw (h, i) (argument-reads gr also (frame_at gr k) q))

  member-fit : (f : Frame) → is_type t (member_of f).ty ≡ true → AllFit (join_moves s) member_numbers f
  unfolding member_of
  member-fit f h = (type-fit s t (few-of fr few) (few-of gr fewer) (half f 2) h, tt)

  component-fit : (f : Frame) → is_row t (component_of f) ≡ true → AllFit (join_moves s) component_numbers f
  unfolding component_of
  component-fit f h = (own-row-fit s t (few-of fr few) (few-of gr fewer) (half f 2) h, tt)

  -- by the family of a frame of the second
  frame-fits : (k : ℕ) → k < frame_count gr → (b : ℕ) → byte (frame_at gr k) 0 ≡ b
      → names_by b t k (frame_at gr k) ≡ true
      → AllFit (join_moves s) (numbers_by b (frame_at gr k)) (frame_at gr k)
  unfolding type_of item_of row_of
  frame-fits k l zero e h = tt
  frame-fits k l (suc zero) e h =
      type-fits s t (few-of fr few) (few-of gr fewer) (type_kind_of (byte (frame_at gr k) 1))
      (frame_at gr k) k (omega arith) h
  frame-fits k l (suc (suc zero)) e h = member-fit (frame_at gr k) h
  frame-fits k l (suc (suc (suc zero))) e h = item-fits s t (few-of fr few) (few-of gr fewer)
      (item_kind_of (byte (frame_at gr k) 1)) (frame_at gr k) h
  frame-fits k l (suc (suc (suc (suc zero)))) e h =
      row_fits s t (few-of fr few) (few-of gr fewer) (row_kind_of (byte (frame_at gr k) 1)) (frame_at gr k)
      (below_at gr more k) (k - t.rows) (omega arith) h (found k l e)
  frame-fits k l (suc (suc (suc (suc (suc zero))))) e h = component-fit (frame_at gr k) h
  frame-fits k l (suc (suc (suc (suc (suc (suc b)))))) e h = tt

  second_below : (k : ℕ) → k < frame_count gr → Below (moved_frame (join_moves s) (frame_at gr k))
  unfolding moved_frame
  second_below k l =
      in-below (join_moves s) (numbers_by (byte (frame_at gr k) 0) (frame_at gr k)) (frame_at gr k) (below_at gr more k)
      (frame-fits k l (byte (frame_at gr k) 0) refl (named gr also k l))

  join-below : (k : ℕ) → k < frame_count J → Below (frame_at J k)
  join-below = by_part fr gr (λ k f. Below f) (λ i y l w. below_at fr bytes (bound s i + y))
      (λ i y l w. second_below (bound t i + y) (within gr i y l w))

  pub join-bytes : Bytes (join_file fr gr)
  join-bytes =
      frames-bytes (join_frames fr gr) (λ i l. let c = file-count (join_frames fr gr) in
      subst Below (file-at (join_frames fr gr) i l) (join-below i (omega arith)))

  -- THE JOIN, AS LINES, IS ACCEPTED
  pub join-read : (limit f : ℕ) → frame_count fr + frame_count gr ≤ most_frames limit
      → 16 * (frame_count fr + frame_count gr) ≤ f
      → read_file limit (text_of (join_file fr gr) (frame_count fr + frame_count gr)) f NotLent
      ≡ Ok (frame_count fr + frame_count gr)
  join-read limit f w room =
      let c = file-count (join_frames fr gr) in
      let d = join-count fr gr in
      let e1 = end_is fr in let e2 = end_is gr in
      let e : length (join_frames fr gr) ≡ frame_count fr + frame_count gr = omega arith in
      subst (λ (k : ℕ). read_file limit (text_of J k) f NotLent ≡ Ok k) e
      (written-accepted (join_frames fr gr) (join-good fr gr good also jf jg) join-bytes limit f (omega arith)
      (omega arith))
