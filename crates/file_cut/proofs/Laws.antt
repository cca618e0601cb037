-- A frame put after those of a list joins them; the rows of the cut, one by one; and a row's part, from the answers in
-- the buffer.
use Prim.Native.Nat.{ℕ, ◌+◌, ◌*◌, ◌≤◌}
use native.Mathlib.Numerals.{add-one}
use native.Mathlib.Omega.{arith}
use mathlib.Core.Path.{◌≡◌, refl, sym, ap, ◌∙◌}
use mathlib.Core.Bool.{Bool, true, false, cond}
use mathlib.Core.List.{List, [], ◌∷◌, ◌++◌, append_assoc, append-nil}
use lib.ListN.{length, take, drop, length-append, length-drop, take-append-drop}
use lib.Seq.{take_at}
use Rattle.frames.specs.declared.Frame.{Frame}
use Rattle.frames.specs.Bytes.{frame_at, frame_count, put_frame}
use Rattle.frames.proofs.Put.{put-length}
use Rattle.archive.specs.Starts.{starts_of, row_count}
use Rattle.archive.proofs.Ranks.{begins}
use Rattle.rule.specs.Things.{listed}
use Rattle.rule_answers.specs.Outputs.{frames_bytes}
use Rattle.law_answers.proofs.Bytes.{bytes-length, put-after}
use Rattle.law_moved.specs.Frames.{moved_row}
use Rattle.law_cut.specs.Marks.{is_marked}
use Rattle.law_cut.specs.Cut.{cut_moves, cut_rows, cut_frames}
use Rattle.file_cut.specs.ForProofs.{Pushed}

-- nothing is pushed yet
pub none-pushed : (b : List ℕ) → Pushed [] 0 b
unfolding frames_bytes
none-pushed b = record { count = refl; front = refl }

-- one more
pub pushed : {l : List Frame} {n : ℕ} {b : List ℕ} → Pushed l n b → (f : Frame) → 16 * n + 16 ≤ length b
    → Pushed (l ++ (f ∷ [])) (n + 1) (put_frame b n f)
pushed {l} {n} {b} p f h =
    let whole : b ≡ frames_bytes l ++ drop (16 * n) b =
    sym (take-append-drop (16 * n) b) ∙ ap (λ (x : List ℕ). x ++ drop (16 * n) b) p.front in
    let put : put_frame b n f ≡ frames_bytes (l ++ (f ∷ [])) ++ drop 16 (drop (16 * n) b) =
    ap (λ (x : List ℕ). put_frame x n f) whole
    ∙ ap (λ (k : ℕ). put_frame (frames_bytes l ++ drop (16 * n) b) k f) p.count
    ∙ put-after l f (drop (16 * n) b) (omega (arith, length-drop (16 * n) b)) in
    let long : length (l ++ (f ∷ [])) ≡ n + 1 = omega (arith, length-append l (f ∷ []), p.count) in
    record {
      count = sym long;
      front = ap (take (16 * (n + 1))) put
          ∙ take_at (frames_bytes (l ++ (f ∷ []))) (drop 16 (drop (16 * n) b)) (16 * (n + 1))
          (omega (arith, bytes-length (l ++ (f ∷ [])), long));
    }

-- THE FRONT, frame by frame
pub front-more : (fr : List ℕ) (k : ℕ) {b c : List ℕ} {f : Frame} → Pushed (listed (frame_at fr) k) k b
    → f ≡ frame_at fr k → c ≡ put_frame b k f → 16 * k + 16 ≤ length b → Pushed (listed (frame_at fr) (k + 1)) (k + 1) c
unfolding listed
front-more fr k p ef ec h = rw (ec, ef, add-one) (rw add-one at (pushed p (frame_at fr k) h))

pub front-none : (fr b : List ℕ) → Pushed (listed (frame_at fr) 0) 0 b
unfolding listed
front-none fr b = none-pushed b

-- THE ROWS, one by one
module _ (marks : List Bool) (fr : List ℕ) where
  abbrev rows_to : ℕ → List Frame
  rows_to k = listed (frame_at fr) (starts_of fr).rows
      ++ cut_rows marks (λ (i : ℕ). frame_at fr ((starts_of fr).rows + i)) k

  pub no-row : {b : List ℕ} → Pushed (listed (frame_at fr) (starts_of fr).rows) (starts_of fr).rows b
      → Pushed
      (listed (frame_at fr) (starts_of fr).rows ++ cut_rows marks (λ (i : ℕ). frame_at fr ((starts_of fr).rows + i)) 0)
      (starts_of fr).rows b
  unfolding cut_rows
  no-row p = rw (append-nil (listed (frame_at fr) (starts_of fr).rows)) p

  -- after row k, by its mark
  pub row_more : (k : ℕ) {n m : ℕ} {b c : List ℕ}
      → Pushed
      (listed (frame_at fr) (starts_of fr).rows ++ cut_rows marks (λ (i : ℕ). frame_at fr ((starts_of fr).rows + i)) k)
      n b
      → 16 * n + 16 ≤ length b → m ≡ n + cond (is_marked marks k) 1 0
      → c ≡ cond (is_marked marks k)
      (put_frame b n (moved_row (cut_moves marks) (frame_at fr ((starts_of fr).rows + k)))) b
      → Pushed
      (listed (frame_at fr) (starts_of fr).rows
      ++ cut_rows marks (λ (i : ℕ). frame_at fr ((starts_of fr).rows + i)) (k + 1))
      m c
  unfolding cut_rows
  row_more k {n} {m} {b} {c} p room em ec = rw add-one (go (is_marked marks k) em ec)
    where
      f : Frame
      f = moved_row (cut_moves marks) (frame_at fr ((starts_of fr).rows + k))

      at : ℕ → Frame
      at i = frame_at fr ((starts_of fr).rows + i)

      go : (x : Bool) → m ≡ n + cond x 1 0 → c ≡ cond x (put_frame b n f) b
          → Pushed (listed (frame_at fr) (starts_of fr).rows ++ (cut_rows marks at k ++ cond x (f ∷ []) [])) m c
      go true e d = rw (d, e)
          (rw (append_assoc (listed (frame_at fr) (starts_of fr).rows) (cut_rows marks at k) (f ∷ []))
          at (pushed p f room))
      go false e d =
          let z : m ≡ n = omega (arith, e) in
          rw (d, z, append-nil (cut_rows marks at k)) p

pub one-most : (b : Bool) (n : ℕ) {m : ℕ} → m ≡ n + cond b 1 0 → m ≤ n + 1
one-most true n e = omega arith
one-most false n e = omega arith

-- the rows lie within the file
pub rows-within : (fr : List ℕ) → (starts_of fr).rows + row_count (starts_of fr) ≤ frame_count fr
unfolding starts_of
rows-within fr = omega (arith, (begins fr 1024).within, (begins fr 1280).within)

-- all rows passed, the frames are those of the cut
pub all-pushed : (marks : List Bool) (fr : List ℕ) {k n m : ℕ} {b : List ℕ}
    → Pushed
    (listed (frame_at fr) (starts_of fr).rows ++ cut_rows marks (λ (i : ℕ). frame_at fr ((starts_of fr).rows + i)) k) m
    b
    → k ≡ n → n ≡ row_count (starts_of fr) → Pushed (cut_frames marks fr) m b
all-pushed marks fr p e d = rw (← d, ← e) p

-- a frame put or not, the buffer is as long as it was
pub put-if-length : (x : Bool) (b : List ℕ) (n : ℕ) (f : Frame) → length (cond x (put_frame b n f) b) ≡ length b
put-if-length true b n f = put-length b n f
put-if-length false b n f = refl
