-- WHAT IS HANDED BACK OF A JOIN, frame by frame (document 02, request 14): the frames of the first file as they are,
-- then those of the second, each with its numbers moved past the first's; in both passes. Rows and verdicts answer so,
-- and the frame of a moved answer is the answer's frame, moved.
use Prim.Native.Nat.{ℕ, zero, suc, ◌+◌, ◌≤◌, ◌<◌}
use native.Mathlib.Omega.{arith}
use mathlib.Core.Path.{◌≡◌, refl, sym, ap, ◌∙◌}
use mathlib.Core.List.{List, [], ◌∷◌, ◌++◌, map, map-append, append_assoc, append-nil}
use mathlib.Core.Option.{Option, none, some}
use Rattle.frames.specs.declared.Frame.{Frame}
use Rattle.archive.specs.Starts.{starts_of, row_count}
use Rattle.rule.specs.Answers.{Result, Judgement, row_frame, verdict_frame}
use Rattle.rule.specs.Things.{see}
use Rattle.rule_rows.specs.declared.Pass.{Pass}
use Rattle.rule_compose.specs.Rows.{verdict_of}
use Rattle.rule_answers.specs.Outputs.{row_answer, verdict_frames, row_frames, outputs, frames_bytes, output_bytes}
use Rattle.law_rows.proofs.Good.{Good}
use Rattle.law_answers.proofs.Bytes.{bytes-append}
use Rattle.law_verdicts.specs.Numbers.{OurVerdict, it_passes, no_composed, other_count, other_part, broken_part}
use Rattle.law_verdicts.specs.Numbers.{newer_composed, newer_part}
use Rattle.law_verdicts.proofs.Numbers.{verdict-numbers}
use Rattle.law_moved.specs.Moves.{Moves, result_to, judged_to}
use Rattle.law_moved.specs.Out.{moved_out}
use Rattle.law_moved.proofs.Files.{starts-ordered}
use Rattle.law_moved.proofs.Out.{row_out, verdict-out}
use Rattle.law_join.specs.Join.{join_moves, join_file}
use Rattle.law_join.specs.Joinable.{Joinable}
use Rattle.law_join.proofs.Frames.{join-starts}
use Rattle.law_join.proofs.Answers.{first_rows, first-verdicts, second-rows, second-verdicts}

-- no verdict of ours has a row as the place of a newer thing, so its number stays
pub judged-same : (m : Moves) (parts : ℕ) (x : Result Judgement) → OurVerdict parts x
    → result_to m (λ (j : Judgement). j) x ≡ x
judged-same m parts x it_passes = refl
judged-same m parts x no_composed = refl
judged-same m parts x (other_count e g h) = refl
judged-same m parts x (other_part i h) = refl
judged-same m parts x (broken_part i h) = refl
judged-same m parts x newer_composed = refl
judged-same m parts x (newer_part i h) = refl

module _ (fr gr : List ℕ) (good : Good fr) (also : Good gr) (jf : Joinable fr) (jg : Joinable gr) (pass : Pass) where
  abbrev J : List ℕ
  J = join_file fr gr

  abbrev m : Moves
  m = join_moves (starts_of fr)

  abbrev a : ℕ
  a = row_count (starts_of fr)

  abbrev b : ℕ
  b = row_count (starts_of gr)

  -- THE FIRST

  -- the frames of row n of the first
  pub first-frames : (n : ℕ) → n < row_count (starts_of fr) → row_frames pass (see (join_file fr gr)) n
      ≡ row_frames pass (see fr) n
  first-frames n l = rw (first_rows fr gr good also jf jg pass n l, first-verdicts fr gr good also jf jg pass n l)

  first-outputs : (n : ℕ) → n ≤ row_count (starts_of fr) → outputs pass (see (join_file fr gr)) n
      ≡ outputs pass (see fr) n
  unfolding outputs
  first-outputs zero l = refl
  first-outputs (suc n) l = rw (first-outputs n (omega arith), first-frames n (omega arith))

  -- THE SECOND

  verdict-moved : (n : ℕ) (o : Option (Result Judgement)) → verdict_of pass (see gr) n ≡ o
      → verdict_frames (n + a) (judged_to m o) ≡ map (moved_out m) (verdict_frames n o)
  verdict-moved n (some x) q =
      let v = verdict-numbers pass gr n x q in
      ap (λ (f : Frame). f ∷ [])
      (ap (verdict_frame (record { 0 = n + a })) (judged-same m _ x v.is) ∙ verdict-out m pass gr n x q)
  verdict-moved n none q = refl

  -- the frames of row n of the second
  pub second-frames : (n : ℕ) → n < row_count (starts_of gr)
      → row_frames pass (see (join_file fr gr)) (n + row_count (starts_of fr))
      ≡ map (moved_out (join_moves (starts_of fr))) (row_frames pass (see gr) n)
  second-frames n l =
      rw (second-rows fr gr good also jf jg pass n l, second-verdicts fr gr good also jf jg pass n l)
      (ap (λ (f : Frame). f ∷ verdict_frames (n + a) (judged_to m (verdict_of pass (see gr) n)))
      (row_out m pass gr also n l)
      ∙ ap (λ (k : List Frame). moved_out m (row_frame (row_answer pass (see gr) n)) ∷ k)
      (verdict-moved n (verdict_of pass (see gr) n) refl))

  second-outputs : (n : ℕ) → n ≤ row_count (starts_of gr)
      → outputs pass (see (join_file fr gr)) (n + row_count (starts_of fr))
      ≡ outputs pass (see fr) (row_count (starts_of fr))
      ++ map (moved_out (join_moves (starts_of fr))) (outputs pass (see gr) n)
  unfolding outputs
  second-outputs zero l =
      let e : zero + a ≡ a = omega arith in
      ap (outputs pass (see J)) e ∙ first-outputs a (omega arith) ∙ sym (append-nil (outputs pass (see fr) a))
  second-outputs (suc n) l =
      let e : suc n + a ≡ suc (n + a) = omega arith in
      let moved = map (moved_out m) (outputs pass (see gr) n) in
      let next = map (moved_out m) (row_frames pass (see gr) n) in
      ap (outputs pass (see J)) e
      ∙ ap (λ (k : List Frame). k ++ row_frames pass (see J) (n + a)) (second-outputs n (omega arith))
      ∙ ap (λ (k : List Frame). (outputs pass (see fr) a ++ moved) ++ k) (second-frames n (omega arith))
      ∙ append_assoc (outputs pass (see fr) a) moved next
      ∙ ap (λ (k : List Frame). outputs pass (see fr) a ++ k)
      (sym (map-append (moved_out m) (outputs pass (see gr) n) (row_frames pass (see gr) n)))

  -- the rows of both
  pub join-rows : row_count (starts_of (join_file fr gr)) ≡ row_count (starts_of gr) + row_count (starts_of fr)
  join-rows = let c = (starts-ordered fr).components in let d = (starts-ordered gr).components in
      rw (join-starts fr gr good also) (omega arith)

  -- ALL THAT IS HANDED BACK
  pub join-outputs : outputs pass (see (join_file fr gr)) (row_count (starts_of (join_file fr gr)))
      ≡ outputs pass (see fr) (row_count (starts_of fr))
      ++ map (moved_out (join_moves (starts_of fr))) (outputs pass (see gr) (row_count (starts_of gr)))
  join-outputs = ap (outputs pass (see J)) join-rows ∙ second-outputs b (omega arith)

  -- and as bytes
  pub join-bytes : output_bytes pass (join_file fr gr)
      ≡ output_bytes pass fr
      ++ frames_bytes (map (moved_out (join_moves (starts_of fr))) (outputs pass (see gr) (row_count (starts_of gr))))
  join-bytes = ap frames_bytes join-outputs
      ∙ bytes-append (outputs pass (see fr) a) (map (moved_out m) (outputs pass (see gr) b))
