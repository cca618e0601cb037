-- THE CUT AS LINES: they are read back as the cut's frames, and accepted within every limit that the file is within. No
-- number of the cut is higher than it was, so each fits its bytes.
use Rattle.std.specs.Prelude.{Ok}
use Prim.Native.Nat.{ℕ, ◌+◌, ◌-◌, ◌*◌, ◌≤◌, ◌<◌}
use native.Mathlib.Decide.{dec_lt}
use native.Mathlib.Omega.{arith}
use mathlib.Core.Path.{◌≡◌, sym, subst}
use mathlib.Core.Bool.{Bool}
use mathlib.Core.List.{List}
use Rattle.scan.proofs.Laws.{by-test}
use Rattle.ir.specs.Numbers.{row_kind_of}
use Rattle.frames.specs.declared.Frame.{Frame}
use Rattle.frames.specs.Bytes.{byte, frame_at, frame_count}
use Rattle.frames.proofs.FieldBack.{Below}
use Rattle.frames.proofs.Put.{below_at}
use Rattle.text.specs.declared.AnswerRoom.TheVariants.{NotLent}
use Rattle.text.specs.Lines.{text_of}
use Rattle.text.specs.Reading.{most_frames}
use Rattle.text.proofs.Laws.{Bytes}
use Rattle.archive.specs.Starts.{starts_of, row_count}
use Rattle.rule_rows.specs.declared.Pass.{Pass}
use Rattle.rule_answers.specs.Outputs.{frames_bytes}
use Rattle.rule_file.specs.File.{read_file}
use Rattle.law_rows.proofs.Good.{Good}
use Rattle.law_moved.specs.Frames.{Counted, types, members, constants, overrides, globals, arguments, locals, functions}
use Rattle.law_moved.specs.Frames.{rows, components, counts, move_of, row_numbers, moved_row}
use Rattle.law_moved.proofs.Files.{file-count, file-at}
use Rattle.law_moved.proofs.Written.{low_below, frames-bytes, written-accepted}
use Rattle.law_cut.specs.Marks.{max_marks, marks_of, is_marked}
use Rattle.law_cut.specs.Cut.{rank, cut_moves, cut_frames, cut_file}
use Rattle.law_cut.proofs.Frames.{rank_most, gr-count, front_at, row_is, row_from}
use Rattle.law_cut.proofs.Part.{part-good, part-few}

module _ (marks : List Bool) where
  -- no number is higher than it was
  pub lower : (c : Counted) (n : ℕ) → move_of (cut_moves marks) c n ≤ n
  lower types n = omega arith
  lower members n = omega arith
  lower constants n = omega arith
  lower overrides n = omega arith
  lower globals n = omega arith
  lower arguments n = omega arith
  lower locals n = omega arith
  lower functions n = omega arith
  lower rows n = by-test (λ (x : ℕ). x ≤ n) (is_marked marks n) (λ q. rank_most marks n) (λ q. omega arith)
  lower components n = omega arith
  lower counts n = omega arith

  row_below : (f : Frame) → Below f → Below (moved_row (cut_moves marks) f)
  unfolding moved_row
  row_below f b = low_below (cut_moves marks) lower (row_numbers (row_kind_of (byte f 1)) f) f b

  module _ (fr : List ℕ) (good : Good fr) (bytes : Bytes fr) where
    frame_below : (k : ℕ) → k < frame_count (cut_file marks fr) → Below (frame_at (cut_file marks fr) k)
    frame_below k l = go (dec_lt k (starts_of fr).rows)
      where
        go : Dec (k < (starts_of fr).rows) → Below (frame_at (cut_file marks fr) k)
        go (yes w) = subst Below (sym (front_at marks fr good k w)) (below_at fr bytes k)
        go (no w) =
            let c = gr-count marks fr good in
            let x = row_from marks fr good (k - (starts_of fr).rows) (omega arith) in
            let q = x.ranked in
            let e : (starts_of fr).rows + rank marks x.row ≡ k = omega arith in
            subst (λ (j : ℕ). Below (frame_at (cut_file marks fr) j)) e
            (subst Below (sym (row_is marks fr good x.row x.below x.marked))
            (row_below (frame_at fr ((starts_of fr).rows + x.row)) (below_at fr bytes ((starts_of fr).rows + x.row))))

    pub cut-bytes : Bytes (cut_file marks fr)
    cut-bytes =
        frames-bytes (cut_frames marks fr) (λ i l. let c = file-count (cut_frames marks fr) in
        subst Below (file-at (cut_frames marks fr) i l) (frame_below i (omega arith)))

-- THE SMALLEST PART, AS LINES, IS ACCEPTED
module _ (pass : Pass) (fr : List ℕ) (good : Good fr) (bytes : Bytes fr) (n : ℕ) (there : n < row_count (starts_of fr))
    (few : row_count (starts_of fr) ≤ max_marks) (limit f : ℕ)
    (within : frame_count fr ≤ most_frames limit) (room : 16 * frame_count (cut_file (marks_of pass fr n) fr) ≤ f) where
  pub part-read : read_file limit
      (text_of (cut_file (marks_of pass fr n) fr) (frame_count (cut_file (marks_of pass fr n) fr))) f NotLent
      ≡ Ok (frame_count (cut_file (marks_of pass fr n) fr))
  part-read =
      let l = cut_frames (marks_of pass fr n) fr in
      let c = file-count l in
      let d = part-few pass fr good n there few in
      subst (λ (k : ℕ). read_file limit (text_of (frames_bytes l) k) f NotLent ≡ Ok k) (sym c)
      (written-accepted l (part-good pass fr good n there few) (cut-bytes (marks_of pass fr n) fr good bytes) limit f
      (omega arith) (omega arith))
