-- THREE FILES (document 02, request 14): the first two joined, and the third joined to that, are the same frames as the
-- first joined to the last two. In each part stand the first's frames, then the second's moved past the first's, then
-- the third's moved past both; and a frame moved past the second's, then past the first's, is moved past both.
use Prim.Native.Nat.{ℕ, zero, suc, ◌+◌, ◌-◌, ◌≤◌, ◌<◌}
use native.Mathlib.Decide.{dec_lt}
use native.Mathlib.Omega.{arith}
use mathlib.Core.Path.{◌≡◌, refl, sym, ap, ◌∙◌}
use mathlib.Core.List.{List, [], ◌∷◌}
use lib.ListN.{length, get_or}
use lib.Seq.{ext_get_or}
use Rattle.frames.specs.declared.Frame.{Frame}
use Rattle.frames.specs.Bytes.{frame_at, frame_count, zero_frame}
use Rattle.archive.specs.declared.Starts.{Starts}
use Rattle.archive.specs.Starts.{starts_of}
use Rattle.rule_answers.specs.Outputs.{frames_bytes}
use Rattle.law_rows.proofs.Good.{Good}
use Rattle.law_moved.specs.Frames.{Counted, types, members, constants, overrides, globals, arguments, locals, functions}
use Rattle.law_moved.specs.Frames.{rows, components, counts, move_of, moved_frame}
use Rattle.law_moved.proofs.Files.{starts-ordered, file-count, file-at}
use Rattle.law_moved.proofs.Twice.{frame-twice}
use Rattle.law_join.specs.Join.{bounds, bound, join_moves, join_frames, join_file}
use Rattle.law_join.proofs.Frames.{rise, join-count, at_first, at_second, by_part, join-starts}

-- bounds put together, one by one
sums : List ℕ → List ℕ → List ℕ
sums [] y = []
sums (a ∷ x) [] = []
sums (a ∷ x) (b ∷ y) = (a + b) ∷ sums x y

sums_at : (x y : List ℕ) (d e i : ℕ) → length x ≡ length y → get_or (sums x y) i (d + e) ≡ get_or x i d + get_or y i e
unfolding sums
sums_at [] [] d e i h = refl
sums_at [] (b ∷ y) d e i h = absurd (omega arith)
sums_at (a ∷ x) [] d e i h = absurd (omega arith)
sums_at (a ∷ x) (b ∷ y) d e zero h = refl
sums_at (a ∷ x) (b ∷ y) d e (suc i) h = sums_at x y d e i (omega arith)

-- TWO FILES: the bounds of the join, and its moves
module _ (fr gr : List ℕ) (good : Good fr) (also : Good gr) where
  bound-sum : (i : ℕ) → bound (starts_of (join_file fr gr)) i ≡ bound (starts_of fr) i + bound (starts_of gr) i
  unfolding sums
  bound-sum i =
      ap (λ (s : Starts). bound s i) (join-starts fr gr good also)
      ∙ sums_at (bounds (starts_of fr)) (bounds (starts_of gr)) (starts_of fr).end (starts_of gr).end i refl

  moves_both : (c : Counted) (n : ℕ)
      → move_of (join_moves (starts_of fr)) c (move_of (join_moves (starts_of gr)) c n)
      ≡ move_of (join_moves (starts_of (join_file fr gr))) c n
  moves_both types n = rw (join-starts fr gr good also) (omega arith)
  moves_both members n = let a = (starts-ordered fr).constants in let b = (starts-ordered gr).constants in
      rw (join-starts fr gr good also) (omega arith)
  moves_both constants n = let a = (starts-ordered fr).overrides in let b = (starts-ordered gr).overrides in
      rw (join-starts fr gr good also) (omega arith)
  moves_both overrides n = let a = (starts-ordered fr).globals in let b = (starts-ordered gr).globals in
      rw (join-starts fr gr good also) (omega arith)
  moves_both globals n = let a = (starts-ordered fr).arguments in let b = (starts-ordered gr).arguments in
      rw (join-starts fr gr good also) (omega arith)
  moves_both arguments n = let a = (starts-ordered fr).locals in let b = (starts-ordered gr).locals in
      rw (join-starts fr gr good also) (omega arith)
  moves_both locals n = let a = (starts-ordered fr).functions in let b = (starts-ordered gr).functions in
      rw (join-starts fr gr good also) (omega arith)
  moves_both functions n = let a = (starts-ordered fr).intersections in let b = (starts-ordered gr).intersections in
      rw (join-starts fr gr good also) (omega arith)
  moves_both rows n = let a = (starts-ordered fr).components in let b = (starts-ordered gr).components in
      rw (join-starts fr gr good also) (omega arith)
  moves_both components n = let a = (starts-ordered fr).end in let b = (starts-ordered gr).end in
      rw (join-starts fr gr good also) (omega arith)
  moves_both counts n = refl

-- THREE
module _ (a b c : List ℕ) (ga : Good a) (gb : Good b) (gc : Good c) where
  abbrev L : List ℕ
  L = join_file (join_file a b) c

  abbrev R : List ℕ
  R = join_file a (join_file b c)

  -- where the parts begin
  abbrev p : ℕ → ℕ
  p = bound (starts_of a)

  abbrev q : ℕ → ℕ
  q = bound (starts_of b)

  abbrev r : ℕ → ℕ
  r = bound (starts_of c)

  abbrev pq : ℕ → ℕ
  pq = bound (starts_of (join_file a b))

  abbrev qr : ℕ → ℕ
  qr = bound (starts_of (join_file b c))

  abbrev past : Frame → Frame
  past = moved_frame (join_moves (starts_of a))

  module _ (i : ℕ) (l : i < 12) where
    pq-at : pq i ≡ p i + q i
    pq-at = bound-sum a b ga gb i

    qr-at : qr i ≡ q i + r i
    qr-at = bound-sum b c gb gc i

    pq-next : pq (suc i) ≡ p (suc i) + q (suc i)
    pq-next = bound-sum a b ga gb (suc i)

    qr-next : qr (suc i) ≡ q (suc i) + r (suc i)
    qr-next = bound-sum b c gb gc (suc i)

    p-rise : p i ≤ p (suc i)
    p-rise = rise (starts_of a) (starts-ordered a) i

    q-rise : q i ≤ q (suc i)
    q-rise = rise (starts_of b) (starts-ordered b) i

    r-rise : r i ≤ r (suc i)
    r-rise = rise (starts_of c) (starts-ordered c) i

    -- a frame of the first, of the second, and of the third
    first-place : (x : ℕ) → x < p (suc i) - p i → frame_at R (p i + (q i + r i) + x) ≡ frame_at a (p i + x)
    first-place x w = ap (λ (k : ℕ). frame_at R (p i + k + x)) (sym qr-at) ∙ at_first a (join_file b c) i x l w

    second-place : (x : ℕ) → x < q (suc i) - q i
        → frame_at R (p (suc i) + (q i + r i) + x) ≡ past (frame_at b (q i + x))
    second-place x w =
        let e1 = qr-at in let e2 = qr-next in let u = r-rise in
        ap (λ (k : ℕ). frame_at R (p (suc i) + k + x)) (sym qr-at)
        ∙ at_second a (join_file b c) i x l (omega arith)
        ∙ ap (λ (k : ℕ). past (frame_at (join_file b c) (k + x))) qr-at ∙ ap past (at_first b c i x l w)

    third-place : (x : ℕ) → x < r (suc i) - r i
        → frame_at R (p (suc i) + (q (suc i) + r i) + x)
        ≡ moved_frame (join_moves (starts_of (join_file a b))) (frame_at c (r i + x))
    third-place x w =
        let e1 = qr-at in let e2 = qr-next in let u = q-rise in
        let y = (q (suc i) - q i) + x in
        let e : p (suc i) + (q (suc i) + r i) + x ≡ p (suc i) + qr i + ((q (suc i) - q i) + x) = omega arith in
        let f : qr i + ((q (suc i) - q i) + x) ≡ q (suc i) + r i + x = omega arith in
        ap (frame_at R) e ∙ at_second a (join_file b c) i ((q (suc i) - q i) + x) l (omega arith)
        ∙ ap (λ (k : ℕ). past (frame_at (join_file b c) k)) f ∙ ap past (at_second b c i x l w)
        ∙ frame-twice (join_moves (starts_of a)) (join_moves (starts_of b)) (join_moves (starts_of (join_file a b)))
        (moves_both a b ga gb) (frame_at c (r i + x))

    -- a frame of the first two
    both-place : (x : ℕ) → x < pq (suc i) - pq i → frame_at (join_file a b) (pq i + x) ≡ frame_at R (pq i + r i + x)
    both-place x w = go (dec_lt x (p (suc i) - p i))
      where
        go : Dec (x < p (suc i) - p i) → frame_at (join_file a b) (pq i + x) ≡ frame_at R (pq i + r i + x)
        go (yes v) =
            let e1 = pq-at in
            let e : p i + (q i + r i) + x ≡ pq i + r i + x = omega arith in
            ap (λ (k : ℕ). frame_at (join_file a b) (k + x)) pq-at ∙ at_first a b i x l v ∙ sym (first-place x v)
            ∙ ap (frame_at R) e
        go (no v) =
            let e1 = pq-at in let e2 = pq-next in let u = p-rise in let z = q-rise in
            let y = x - (p (suc i) - p i) in
            let e : pq i + x ≡ p (suc i) + q i + (x - (p (suc i) - p i)) = omega arith in
            let f : p (suc i) + (q i + r i) + (x - (p (suc i) - p i)) ≡ pq i + r i + x = omega arith in
            ap (frame_at (join_file a b)) e ∙ at_second a b i (x - (p (suc i) - p i)) l (omega arith)
            ∙ sym (second-place (x - (p (suc i) - p i)) (omega arith)) ∙ ap (frame_at R) f

    last-place : (x : ℕ) → x < r (suc i) - r i
        → moved_frame (join_moves (starts_of (join_file a b))) (frame_at c (r i + x))
        ≡ frame_at R (pq (suc i) + r i + x)
    last-place x w =
        let e2 = pq-next in
        let e : p (suc i) + (q (suc i) + r i) + x ≡ pq (suc i) + r i + x = omega arith in
        sym (third-place x w) ∙ ap (frame_at R) e

  -- FRAME BY FRAME
  same-frame : (k : ℕ) → k < frame_count L → frame_at L k ≡ frame_at R k
  same-frame = by_part (join_file a b) c (λ k f. f ≡ frame_at R k) (λ i x l w. both-place i l x w)
      (λ i x l w. last-place i l x w)

  same_count : length (join_frames (join_file a b) c) ≡ length (join_frames a (join_file b c))
  unfolding starts_of
  same_count =
      let w = file-count (join_frames (join_file a b) c) in let x = join-count (join_file a b) c in
      let y = file-count (join_frames a (join_file b c)) in let z = join-count a (join_file b c) in
      let u = join-count a b in let v = join-count b c in omega arith

  -- THE SAME FILE
  pub join-three : join_file (join_file a b) c ≡ join_file a (join_file b c)
  join-three =
      let s = same_count in let w = file-count (join_frames (join_file a b) c) in
      ap frames_bytes (ext_get_or zero_frame (join_frames (join_file a b) c) (join_frames a (join_file b c)) same_count
      (λ i h.
      sym (file-at (join_frames (join_file a b) c) i h) ∙ same-frame i (omega arith)
      ∙ file-at (join_frames a (join_file b c)) i (omega arith)))
