-- OF THE PUBLIC FUNCTIONS, over any texts, limit and buffers: where `join_files` makes a join (document 02, request
-- 14), its lines stand in the lent buffer and are accepted within the same limit, and `type_rows` answers every row as
-- it was answered alone, in both passes: the first text's as they were, the second's with its numbers moved past the
-- first's. A join is made of accepted texts that may be joined (Outcomes.antt), so the laws of frames hold.
use Rattle.answers.specs.declared.FileError.{FileError}
use Rattle.std.specs.Prelude.{Ok}
use Prim.Native.Nat.{ℕ, ◌+◌, ◌*◌, ◌≤◌}
use native.Mathlib.Omega.{arith}
use mathlib.Core.Path.{◌≡◌, sym, ap, ◌∙◌}
use mathlib.Core.List.{List, ◌++◌}
use lib.ListN.{length, drop, length-append, length-map}
use Rattle.answers.specs.Outcome.{Outcome}
use Rattle.answers.specs.Limit.{max_frame_bytes, max_answer_bytes}
use Rattle.text.specs.declared.AnswerRoom.TheVariants.{NotLent, Lent}
use Rattle.text.specs.Lines.{line_count, decoded, text_of}
use Rattle.text.specs.Reading.{most_frames}
use Rattle.text.proofs.Laws.{most-small}
use Rattle.text.proofs.RoundTrip.{decoded-text, count-text}
use Rattle.frames.specs.Bytes.{frame_count}
use Rattle.archive.specs.Starts.{starts_of, row_count}
use Rattle.rule.specs.Things.{see}
use Rattle.rule_rows.specs.declared.Pass.{Pass}
use Rattle.rule_answers.specs.Outputs.{outputs, frames_bytes, output_bytes}
use Rattle.rule_file.specs.File.{over_file, read_file}
use Rattle.rule_file.specs.Typing.{answers_written, answers_after, output_count, error_text, output_text, typed_text}
use Rattle.law_answers.proofs.Bytes.{bytes-length, bytes-append}
use Rattle.law_moved.specs.Out.{moved_out}
use Rattle.law_moved.specs.Texts.{text_frames}
use Rattle.law_moved.proofs.Files.{file-count}
use Rattle.law_moved.proofs.Lines.{lines-append}
use Rattle.law_moved.proofs.Texts.{Accepting, accepting, with-buffers, with-answers, over-accepted}
use Rattle.law_join.specs.declared.JoinedFile.TheVariants as Jf
use Rattle.law_join.specs.Join.{join_moves, join_frames, join_file}
use Rattle.law_join.specs.File.{join_text, join_files, second_outputs, join_outputs}
use Rattle.law_join.proofs.Text as T
use Rattle.law_join.proofs.Outputs as Outs
use Rattle.law_join.proofs.Outcomes.{Joined, joined-when, joined-count, joined_length, frames-lines}

module _ (limit : ℕ) (t u : List ℕ) (f g o k : ℕ) (joins : join_files limit t u f g o ≡ Jf.Frames k) where
  abbrev fr : List ℕ
  fr = text_frames t

  abbrev gr : List ℕ
  gr = text_frames u

  -- WHAT FOLLOWS: both texts are accepted, each may be joined, and k is the frames of both
  pub is-joined : Joined limit t u f g o k
  is-joined = (joined-when limit t u f g o k).0 joins

  pub first_read : Accepting limit (text_frames t)
  first_read = accepting limit t f NotLent (line_count t) is-joined.able.both.first

  pub second-read : Accepting limit (text_frames u)
  second-read = accepting limit u g NotLent (line_count u) is-joined.able.both.second

  pub join-frames : frame_count (join_file (text_frames t) (text_frames u)) ≡ k
  join-frames =
      let a = joined-count fr gr in let b = frames-lines t in let c = frames-lines u in let d = is-joined.frames in
      omega arith

  -- the lines have room
  pub lines_fit : length (join_text (text_frames t) (text_frames u)) ≤ o
  lines_fit = let a = joined_length t u in let b = is-joined.room in omega arith

  within : frame_count fr + frame_count gr ≤ most_frames limit
  within = let a = is-joined.within in let b = frames-lines t in let c = frames-lines u in omega arith

  -- THE JOIN'S LINES ARE ACCEPTED within the same limit, with any frame buffer of 16 bytes a frame
  pub join-accepted : (b : ℕ) → 16 * k ≤ b → read_file limit (join_text (text_frames t) (text_frames u)) b NotLent ≡
      Ok k
  join-accepted b room =
      let s = most-small limit in let w = within in
      let c = frames-lines t in let d = frames-lines u in let e = is-joined.frames in
      let n : frame_count (join_file fr gr) ≡ frame_count fr + frame_count gr = joined-count fr gr in
      let q : frame_count fr + frame_count gr ≡ k = omega arith in
      ap (λ (i : ℕ). read_file limit (text_of (join_file fr gr) i) b NotLent) n
      ∙ T.join-read fr gr first_read.good second-read.good is-joined.able.first is-joined.able.second
      (omega arith) (omega arith) first_read.bytes second-read.bytes limit b w (omega arith) ∙ ap Ok q

  -- and read back as the join
  pub join-lines : line_count (join_text (text_frames t) (text_frames u)) ≡ k
  join-lines = let n = join-frames in let c = count-text (join_file fr gr) (frame_count (join_file fr gr)) in
      omega arith

  pub join-decoded : text_frames (join_text (text_frames t) (text_frames u)) ≡ join_file (text_frames t) (text_frames u)
  join-decoded =
      let l = join_frames fr gr in
      let s = most-small limit in let w = within in
      let b = T.join-bytes fr gr first_read.good second-read.good is-joined.able.first
      is-joined.able.second (omega arith) (omega arith) first_read.bytes second-read.bytes in
      ap (decoded (join_text fr gr)) (count-text (join_file fr gr) (frame_count (join_file fr gr)))
      ∙ decoded-text (join_file fr gr) (frame_count (join_file fr gr)) b
      (bytes-length l ∙ ap (λ (i : ℕ). 16 * i) (sym (file-count l)))

  -- what is asked of the join's lines is asked of its frames: without an answer buffer, and with one of 32 bytes a
  -- frame
  module _ {A : Type 0} (refused : FileError → A) (given : List ℕ → A) (b : ℕ) (frames : 16 * k ≤ b) where
    pub asked-join : over_file refused given (join_text (text_frames t) (text_frames u))
        (read_file limit (join_text (text_frames t) (text_frames u)) b NotLent)
        ≡ given (join_file (text_frames t) (text_frames u))
    asked-join =
        over-accepted limit (join_text fr gr) b NotLent refused given
        (join-accepted b frames ∙ ap Ok (sym join-lines)) ∙ ap given join-decoded

    pub answered-join : (a : ℕ) → 32 * k ≤ a
        → over_file refused given (join_text (text_frames t) (text_frames u))
        (read_file limit (join_text (text_frames t) (text_frames u)) b (Lent a))
        ≡ given (join_file (text_frames t) (text_frames u))
    answered-join a answers =
        over-accepted limit (join_text fr gr) b (Lent a) refused given
        (with-answers limit (join_text fr gr) b k a (join-accepted b frames) answers ∙ ap Ok (sym join-lines))
        ∙ ap given join-decoded

  -- TYPE_ROWS, in both passes: first the frames that the first text hands back, then those of the second, each with
  -- its numbers moved; the buffer's bytes past them stay
  module _ (pass : Pass) where
    handed-back : output_bytes pass (join_file fr gr) ≡ join_outputs pass fr gr
    handed-back = Outs.join-bytes fr gr first_read.good second-read.good is-joined.able.first
        is-joined.able.second pass

    pub join-answers : (b : ℕ) → 16 * k ≤ b → (an : List ℕ) → 32 * k ≤ length an
        → answers_after pass limit (join_text (text_frames t) (text_frames u)) b an
        ≡ join_outputs pass (text_frames t) (text_frames u)
        ++ drop (length (join_outputs pass (text_frames t) (text_frames u))) an
    unfolding answers_after
    join-answers b frames an answers =
        answered-join (λ (x : FileError). an) (λ (x : List ℕ). answers_written pass an x) b frames (length an) answers
        ∙ ap (λ (x : List ℕ). x ++ drop (length x) an) handed-back

    -- as many frames as the two texts hand back
    pub join-outputs : (b : ℕ) → 16 * k ≤ b → (a : ℕ) → 32 * k ≤ a
        → output_count pass limit (join_text (text_frames t) (text_frames u)) b a
        ≡ frame_count (output_bytes pass (text_frames t)) + frame_count (output_bytes pass (text_frames u))
    unfolding output_count
    join-outputs b frames a answers =
        let one = outputs pass (see fr) (row_count (starts_of fr)) in
        let other = outputs pass (see gr) (row_count (starts_of gr)) in
        let c = file-count one in let d = file-count other in
        let e = length-map other (moved_out (join_moves (starts_of fr))) in
        answered-join (λ (x : FileError). 0) (λ (x : List ℕ). frame_count (output_bytes pass x)) b frames a answers
        ∙ ap frame_count (handed-back ∙ sym (bytes-append one (second_outputs pass fr gr)))
        ∙ file-count (one ++ second_outputs pass fr gr) ∙ length-append one (second_outputs pass fr gr) ∙ omega arith

    -- AS LINES, what the typing program prints: those of the first text, then the second's moved
    pub join-printed : typed_text pass limit (join_text (text_frames t) (text_frames u))
        ≡ typed_text pass limit t
        ++ text_of (frames_bytes (second_outputs pass (text_frames t) (text_frames u)))
        (length (second_outputs pass (text_frames t) (text_frames u)))
    unfolding typed_text
    join-printed =
        let one = outputs pass (see fr) (row_count (starts_of fr)) in
        let other = second_outputs pass fr gr in
        let s = most-small limit in let w = is-joined.within in let e = is-joined.frames in
        let alone : read_file limit t max_frame_bytes (Lent max_answer_bytes) ≡ Ok (line_count t) =
        with-buffers limit t f (line_count t) max_frame_bytes max_answer_bytes is-joined.able.both.first (omega arith)
        (omega arith) in
        let first : over_file error_text (output_text pass) t
        (read_file limit t max_frame_bytes (Lent max_answer_bytes))
        ≡ text_of (frames_bytes one) (length one) =
        over-accepted limit t max_frame_bytes (Lent max_answer_bytes) error_text (output_text pass) alone
        ∙ ap (text_of (frames_bytes one)) (file-count one) in
        answered-join error_text (output_text pass) max_frame_bytes (omega arith) max_answer_bytes (omega arith)
        ∙ ap (λ (x : List ℕ). text_of x (frame_count x)) (handed-back ∙ sym (bytes-append one other))
        ∙ ap (text_of (frames_bytes (one ++ other))) (file-count (one ++ other) ∙ length-append one other)
        ∙ lines-append one other ∙ ap (λ (x : List ℕ). x ++ text_of (frames_bytes other) (length other)) (sym first)
