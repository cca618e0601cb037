-- THE PARTS OF TWO FILES, as the code reads their bounds: the frames of each are there, and put in turn they are those
-- of the join.
use Prim.Native.Nat.{ℕ, zero, suc, ◌+◌, ◌-◌, ◌≤◌, ◌<◌}
use native.Mathlib.Numerals.{add-one}
use native.Mathlib.Omega.{arith}
use mathlib.Core.Path.{◌≡◌, refl, ap, ◌∙◌}
use mathlib.Core.List.{List, [], ◌∷◌}
use lib.ListN.{length, get_or}
use Rattle.frames.specs.declared.Frame.{Frame}
use Rattle.frames.specs.Bytes.{frame_at, frame_count}
use Rattle.archive.specs.declared.Starts.{Starts}
use Rattle.archive.specs.Starts.{starts_of}
use Rattle.rule.specs.Things.{listed}
use Rattle.law_moved.specs.Frames.{moved_frame}
use Rattle.law_moved.proofs.Files.{starts-ordered}
use Rattle.law_join.specs.Join.{bounds, bound, regrouped, join_moves}
use Rattle.law_join.proofs.Regrouped.{rises-far}
use Rattle.law_join.proofs.Frames.{rise}
use Rattle.law_join.proofs.Order.{end_is}
use Rattle.file_join.specs.ForProofs.{put_all}
use Rattle.file_join.proofs.Put.{no_part, one-part}

any-default : (l : List ℕ) (i c d : ℕ) → i < length l → get_or l i c ≡ get_or l i d
any-default [] i c d h = let g : i < 0 = h in absurd (omega arith)
any-default (x ∷ l) zero c d h = refl
any-default (x ∷ l) (suc i) c d h = let g : suc i < suc (length l) = h in any-default l i c d (omega arith)

-- from a up to b are the frames of part i
pub record IsPart (fr : List ℕ) (i a b : ℕ) : Type 0 where
  pub from : a ≡ bound (starts_of fr) i
  pub to : b ≡ bound (starts_of fr) (suc i)
  pub rises : a ≤ b
  pub within : b ≤ frame_count fr

pub part-read : (fr l : List ℕ) (i : ℕ) → i < 12 → l ≡ bounds (starts_of fr)
    → IsPart fr i (get_or l i 0) (get_or l (i + 1) 0)
part-read fr l i h e =
    let s = starts_of fr in
    let a : get_or l i 0 ≡ bound s i = ap (λ (m : List ℕ). get_or m i 0) e ∙ any-default (bounds s) i 0 s.end
    (omega arith) in
    let b : get_or l (i + 1) 0 ≡ bound s (suc i) = ap (λ (m : List ℕ). get_or m (i + 1) 0) e
    ∙ any-default (bounds s) (i + 1) 0 s.end (omega arith) ∙ ap (bound s) (add-one i) in
    let up = rise s (starts-ordered fr) i in
    let top = rises-far (bound s) (rise s (starts-ordered fr)) (suc i) 12 (omega arith) in
    let end = end_is fr in
    record { from = a; to = b; rises = omega arith; within = omega arith }

module _ (fr gr : List ℕ) where
  abbrev s : Starts
  s = starts_of fr

  abbrev t : Starts
  t = starts_of gr

  -- the frames of the first i parts
  abbrev pub parts_to : ℕ → List Frame
  parts_to i =
      regrouped (frame_at fr) (λ (k : ℕ). moved_frame (join_moves (starts_of fr)) (frame_at gr k))
      (bound (starts_of fr))
      (bound (starts_of gr)) i

  pub none-joined : (x : List ℕ) → x ≡ put_all x 0 (parts_to 0)
  none-joined x =
      no_part (frame_at fr) (λ (k : ℕ). moved_frame (join_moves s) (frame_at gr k)) (bound s) (bound t) refl refl
      (rise s (starts-ordered fr)) (rise t (starts-ordered gr)) x

  pub one-joined : (i : ℕ) (x : List ℕ) {a b c d : ℕ} {r : Starts} {y z v : List ℕ} → IsPart fr i a b → IsPart gr i c d
      → r ≡ starts_of fr → y ≡ put_all x 0 (parts_to i)
      → z ≡ put_all y (a + c) (listed (λ (k : ℕ). frame_at fr (a + k)) (b - a))
      → v ≡ put_all z (c + b) (listed (λ (k : ℕ). moved_frame (join_moves r) (frame_at gr (c + k))) (d - c))
      → v ≡ put_all x 0 (parts_to (i + 1))
  one-joined i x p q er ey ez ev =
      rw add-one
      (one-part (frame_at fr) (λ (k : ℕ). moved_frame (join_moves s) (frame_at gr k)) (bound s) (bound t) refl refl
      (rise s (starts-ordered fr)) (rise t (starts-ordered gr)) i x ey (rw (p.from, p.to, q.from) at ez)
      (rw (er, p.to, q.from, q.to) at ev))
