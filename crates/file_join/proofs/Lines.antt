-- The lines of the join: those of the frames that were put, all of them or none.
use Rattle.std.specs.Prelude.{ℕ, Option, Some, None}
use Prim.Native.Nat.{ℕ, ◌+◌, ◌*◌, ◌≤◌}
use native.Mathlib.Omega.{arith}
use mathlib.Core.Path.{◌≡◌, sym, ap, ◌∙◌}
use mathlib.Core.List.{List}
use lib.ListN.{length, take}
use Rattle.text.specs.Lines.{text_of}
use Rattle.frames.specs.Bytes.{frame_count}
use Rattle.rule_file.specs.Printed.{printed, printed_after}
use Rattle.law_moved.proofs.Files.{file-count}
use Rattle.law_join.specs.declared.JoinedFile.TheVariants as Jf
use Rattle.law_join.specs.Join.{join_frames, join_file}
use Rattle.law_join.specs.File.{join_text, as_frames}
use Rattle.law_join.proofs.Frames.{join-count}
use Rattle.law_join.proofs.Order.{end_is}
use Rattle.file_join.specs.ForProofs.{put_all}
use Rattle.file_join.proofs.Put.{all-front}

pub both : {a b x y : ℕ} → a ≡ x → b ≡ y → a + b ≡ x + y
both p q = rw (p, q)

pub frames-count : (fr gr : List ℕ) → length (join_frames fr gr) ≡ frame_count fr + frame_count gr
frames-count fr gr = omega (arith, file-count (join_frames fr gr), join-count fr gr, end_is fr, end_is gr)

-- x are the first n frames of a buffer that was b, and n is how many frames the two files have
module _ (fr gr b : List ℕ) (room : 16 * (frame_count fr + frame_count gr) ≤ length b) {n : ℕ} {last x : List ℕ}
    (put : last ≡ put_all b 0 (join_frames fr gr)) (en : n ≡ frame_count fr + frame_count gr)
    (ex : x ≡ take (16 * n) last) where
  join_is : x ≡ join_file fr gr
  join_is =
      let e : 16 * n ≡ 16 * length (join_frames fr gr) = omega (arith, frames-count fr gr) in
      ex ∙ ap (λ (k : ℕ). take k last) e ∙ ap (take (16 * length (join_frames fr gr))) put
      ∙ all-front b (join_frames fr gr) (omega (arith, frames-count fr gr))

  module _ (o : ℕ) {p : Option ℕ} (ep : p ≡ printed (text_of x (frame_count x)) o) where
    printed-is : p ≡ printed (join_text fr gr) o
    printed-is = ep ∙ ap (λ (y : List ℕ). printed (text_of y (frame_count y)) o) join_is

    pub joined-all : {k : ℕ} → p ≡ Some k
        → Jf.Frames n ≡ as_frames (frame_count fr + frame_count gr) (printed (join_text fr gr) o)
    joined-all q = ap Jf.Frames en ∙ ap (as_frames (frame_count fr + frame_count gr)) (sym q ∙ printed-is)

    pub joined-none : p ≡ None
        → Jf.Short ≡ as_frames (frame_count fr + frame_count gr) (printed (join_text fr gr) o)
    joined-none q = ap (as_frames (frame_count fr + frame_count gr)) (sym q ∙ printed-is)

  -- the buffer for the lines
  pub lines_after : (out : List ℕ) {v : List ℕ} → v ≡ printed_after (text_of x (frame_count x)) out
      → v ≡ printed_after (join_text fr gr) out
  lines_after out e = e ∙ ap (λ (y : List ℕ). printed_after (text_of y (frame_count y)) out) join_is
