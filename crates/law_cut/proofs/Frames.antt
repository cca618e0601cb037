-- The frames of a cut: what stands before the rows as it was, then the marked rows, each at its rank; and where the
-- cut's families begin. For any marks. Assumes nothing.
use Prim.Native.Nat.{ℕ, zero, suc, ◌+◌, ◌-◌, ◌≤◌, ◌<◌}
use native.Mathlib.Decide.{dec_lt}
use native.Mathlib.Nat.{eq-or-lt_of_le, le_of_suc-le-suc}
use native.Mathlib.Omega.{arith}
use mathlib.Core.Path.{◌≡◌, refl, sym, ap, ◌∙◌, subst}
use mathlib.Core.Bool.{Bool, true, false}
use mathlib.Core.Logic.{⊎_elim}
use mathlib.Core.List.{List, [], ◌∷◌, ◌++◌}
use lib.ListN.{length, get_or, length-append, get_or-append}
use lib.Seq.{get_or-append_seam, get_or-append-add}
use Rattle.frames.specs.declared.Frame.{Frame}
use Rattle.frames.specs.Bytes.{byte, frame_at, frame_count, zero_frame}
use Rattle.archive.specs.declared.Starts.{Starts}
use Rattle.archive.specs.Order.{rank_of, rank_at}
use Rattle.archive.specs.Starts.{start, starts_of, row_count}
use Rattle.archive.proofs.Ranks.{begins}
use Rattle.rule.specs.Things.{listed}
use Rattle.rule.proofs.Named.{listed-length, listed_at}
use Rattle.law_rows.proofs.Good.{Good, row-at}
use Rattle.law_moved.specs.Frames.{moved_row}
use Rattle.law_moved.proofs.Frames.{row_moved}
use Rattle.law_moved.proofs.Files.{file-count, file-at, start_is, starts-rise}
use Rattle.law_cut.specs.Marks.{is_marked}
use Rattle.law_cut.specs.Cut.{rank, cut_moves, cut_rows, cut_frames, cut_file}

-- RANKS

module _ (marks : List Bool) where
  cases : (k : ℕ) {P : Type 0} → (is_marked marks k ≡ true → P) → (is_marked marks k ≡ false → P) → P
  cases k {P} f g = go (is_marked marks k) f g
    where
      go : (b : Bool) → (b ≡ true → P) → (b ≡ false → P) → P
      go true f g = f refl
      go false f g = g refl

  pub rank-le : (k n : ℕ) → k ≤ n → rank marks k ≤ rank marks n
  unfolding rank
  rank-le k zero l = let z : k ≡ 0 = omega arith in rw z (omega arith)
  rank-le k (suc n) l = ⊎_elim (λ e. rw e (omega arith)) (λ q. let w = rank-le k n (le_of_suc-le-suc q) in omega arith)
      (eq-or-lt_of_le l)

  rank-next : (k : ℕ) → is_marked marks k ≡ true → rank marks (suc k) ≡ rank marks k + 1
  unfolding rank
  rank-next k h = rw h

  rank-stays : (k : ℕ) → is_marked marks k ≡ false → rank marks (suc k) ≡ rank marks k
  unfolding rank
  rank-stays k h = rw h (omega arith)

  -- no more stand before row k than there are rows
  pub rank_most : (k : ℕ) → rank marks k ≤ k
  unfolding rank
  rank_most zero = omega arith
  rank_most (suc k) = let a = rank_most k in
      cases k (λ h. let e = rank-next k h in omega arith) (λ h. let e = rank-stays k h in omega arith)

  -- ranks of marked rows rise
  pub rank_rises : (k n : ℕ) → k < n → is_marked marks k ≡ true → rank marks k < rank marks n
  rank_rises k n l h = let a : rank marks (suc k) ≤ rank marks n = rank-le (suc k) n (omega arith) in
      let b = rank-next k h in omega arith

  -- the marked row of rank j, of the first n
  pub record Nth (n j : ℕ) : Type 0 where
    pub row : ℕ
    pub below : row < n
    pub marked : is_marked marks row ≡ true
    pub ranked : rank marks row ≡ j

  pub nth : (n j : ℕ) → j < rank marks n → Nth n j
  unfolding rank
  nth zero j l = absurd (omega arith)
  nth (suc n) j l = go (dec_lt j (rank marks n)) (nth n j)
    where
      at_last : rank marks n ≤ j → is_marked marks n ≡ true → Nth (suc n) j
      at_last q h = let a = rank-next n h in record { row = n; below = omega arith; marked = h; ranked = omega arith }

      go : Dec (j < rank marks n) → (j < rank marks n → Nth n j) → Nth (suc n) j
      go (yes q) ih = let x = ih q in
          record { row = x.row; below = let b = x.below in omega arith; marked = x.marked; ranked = x.ranked }
      go (no q) ih = cases n (at_last (omega arith)) (λ h. let a = rank-stays n h in absurd (omega arith))

  module _ (f : ℕ → Frame) where
    rows_next : (k : ℕ) → is_marked marks k ≡ true → cut_rows marks f (suc k) ≡ cut_rows marks f k
        ++ (moved_row (cut_moves marks) (f k) ∷ [])
    unfolding cut_rows
    rows_next k h = rw h

    rows_stay : (k : ℕ) → is_marked marks k ≡ false → cut_rows marks f (suc k) ≡ cut_rows marks f k ++ []
    unfolding cut_rows
    rows_stay k h = rw h

    no_rows : cut_rows marks f 0 ≡ []
    unfolding cut_rows
    no_rows = refl

    no-rank : rank marks 0 ≡ 0
    unfolding rank
    no-rank = refl

    pub cut-length : (n : ℕ) → length (cut_rows marks f n) ≡ rank marks n
    cut-length zero = ap length no_rows ∙ sym no-rank
    cut-length (suc n) =
        cases n
        (λ h. ap length (rows_next n h) ∙ length-append (cut_rows marks f n) (moved_row (cut_moves marks) (f n) ∷ [])
        ∙ (let a = cut-length n in let b = rank-next n h in omega arith))
        (λ h. ap length (rows_stay n h) ∙ length-append (cut_rows marks f n) []
        ∙ (let a = cut-length n in let b = rank-stays n h in omega arith))

    -- a marked row stands at its rank
    pub cut_at : (n k : ℕ) → k < n → is_marked marks k ≡ true → get_or (cut_rows marks f n) (rank marks k) zero_frame
        ≡ moved_row (cut_moves marks) (f k)
    cut_at zero k l h = absurd (omega arith)
    cut_at (suc n) k l h =
        ⊎_elim
        (λ e. let q : is_marked marks n ≡ true = subst (λ (i : ℕ). is_marked marks i ≡ true) e h in
        ap (λ (l : List Frame). get_or l (rank marks k) zero_frame) (rows_next n q)
        ∙ ap (λ (j : ℕ). get_or (cut_rows marks f n ++ (moved_row (cut_moves marks) (f n) ∷ [])) j zero_frame)
        (ap (rank marks) e ∙ sym (cut-length n))
        ∙ get_or-append_seam (cut_rows marks f n) (moved_row (cut_moves marks) (f n)) [] zero_frame
        ∙ ap (λ (j : ℕ). moved_row (cut_moves marks) (f j)) (sym e))
        (λ q. let w = rank_rises k n (omega arith) h in let a = cut-length n in
        cases n
        (λ g. ap (λ (l : List Frame). get_or l (rank marks k) zero_frame) (rows_next n g)
        ∙ get_or-append (cut_rows marks f n) _ zero_frame (rank marks k) (omega arith)
        ∙ cut_at n k (omega arith) h)
        (λ g. ap (λ (l : List Frame). get_or l (rank marks k) zero_frame) (rows_stay n g)
        ∙ get_or-append (cut_rows marks f n) _ zero_frame (rank marks k) (omega arith)
        ∙ cut_at n k (omega arith) h))
        (eq-or-lt_of_le (le_of_suc-le-suc l))

-- THE FILE

module _ (marks : List Bool) (fr : List ℕ) (good : Good fr) where
  abbrev s : Starts
  s = starts_of fr

  abbrev count : ℕ
  count = row_count s

  abbrev gr : List ℕ
  gr = cut_file marks fr

  abbrev row_frame : ℕ → Frame
  row_frame k = frame_at fr (s.rows + k)

  front_length : length (listed (frame_at fr) s.rows) ≡ s.rows
  front_length = listed-length (frame_at fr) s.rows

  frames-length : length (cut_frames marks fr) ≡ s.rows + rank marks count
  frames-length = length-append (listed (frame_at fr) s.rows) (cut_rows marks row_frame count)
      ∙ (let a = front_length in let b = cut-length marks row_frame count in omega arith)

  pub gr-count : frame_count (cut_file marks fr) ≡ s.rows + rank marks count
  gr-count = file-count (cut_frames marks fr) ∙ frames-length

  pub front_at : (k : ℕ) → k < s.rows → frame_at (cut_file marks fr) k ≡ frame_at fr k
  front_at k l =
      let a = front_length in let b = frames-length in
      file-at (cut_frames marks fr) k (omega arith)
      ∙ get_or-append (listed (frame_at fr) s.rows) (cut_rows marks row_frame count) zero_frame k (omega arith)
      ∙ listed_at (frame_at fr) zero_frame s.rows k l

  back_at : (j : ℕ) → j < rank marks count → frame_at (cut_file marks fr) (s.rows + j)
      ≡ get_or (cut_rows marks row_frame count) j zero_frame
  back_at j l =
      let b = frames-length in
      file-at (cut_frames marks fr) (s.rows + j) (omega arith)
      ∙ ap (λ (i : ℕ). get_or (cut_frames marks fr) (i + j) zero_frame) (sym front_length)
      ∙ get_or-append-add (listed (frame_at fr) s.rows) (cut_rows marks row_frame count) j zero_frame

  -- a marked row is at its rank
  pub row_is : (k : ℕ) → k < count → is_marked marks k ≡ true → frame_at (cut_file marks fr) (s.rows + rank marks k)
      ≡ moved_row (cut_moves marks) (frame_at fr (s.rows + k))
  row_is k l h = back_at (rank marks k) (rank_rises marks k count l h) ∙ cut_at marks row_frame count k l h

  -- each row of the cut is a marked one
  pub row_from : (j : ℕ) → j < rank marks count → Nth marks count j
  row_from j l = nth marks count j l

  row-family : (k : ℕ) → k < count → byte (frame_at fr (s.rows + k)) 0 ≡ 4
  unfolding starts_of
  row-family k l = (row-at fr good (start fr 1024 + k) (omega arith) (omega arith)).family-is

  pub cut-family : (k : ℕ) → k < count → is_marked marks k ≡ true
      → byte (frame_at (cut_file marks fr) (s.rows + rank marks k)) 0 ≡ 4
  cut-family k l h = ap (λ (f : Frame). byte f 0) (row_is k l h)
      ∙ (row_moved (cut_moves marks) (frame_at fr (s.rows + k))).family ∙ row-family k l

  rank-4 : (f : Frame) → byte f 0 ≡ 4 → rank_of f ≡ 1024
  rank-4 f e = rw e

  pub cut-rank : (j : ℕ) → j < rank marks count → rank_at (cut_file marks fr) (s.rows + j) ≡ 1024
  cut-rank j l =
      let x = row_from j l in
      subst (λ (i : ℕ). rank_at (cut_file marks fr) (s.rows + i) ≡ 1024) x.ranked
      (rank-4 (frame_at (cut_file marks fr) (s.rows + rank marks x.row))
      (cut-family x.row x.below x.marked))

  front-rank : (k : ℕ) → k < s.rows → rank_at (cut_file marks fr) k ≡ rank_at fr k
  front-rank k l = ap rank_of (front_at k l)

  rows_start : s.rows ≡ start fr 1024
  unfolding starts_of
  rows_start = refl

  pub cut-start : (r : ℕ) → r ≤ 1024 → start (cut_file marks fr) r ≡ start fr r
  cut-start r l = start_is (cut_file marks fr) r (start fr r) (record { within = within; lower = lower; there = there })
    where
      up : start fr r ≤ s.rows
      up = let a = starts-rise fr r 1024 l in let b = rows_start in omega arith

      within : start fr r ≤ frame_count (cut_file marks fr)
      within = let a = gr-count in let b = up in omega arith

      lower : (k : ℕ) → k < start fr r → rank_at (cut_file marks fr) k < r
      lower k q = let u = up in let e = front-rank k (omega arith) in let w = (begins fr r).lower k q in omega arith

      there : start fr r < frame_count (cut_file marks fr) → r ≤ rank_at (cut_file marks fr) (start fr r)
      there q = go (dec_lt (start fr r) s.rows)
        where
          go : Dec (start fr r < s.rows) → r ≤ rank_at (cut_file marks fr) (start fr r)
          go (yes w) = let e = front-rank (start fr r) w in let b = (begins fr 1024).within in let c = rows_start in
              let d = (begins fr r).there (omega arith) in omega arith
          go (no w) =
              let u = up in
              let c = gr-count in
              let e : start fr r ≡ s.rows + 0 = omega arith in
              let d : rank_at (cut_file marks fr) (start fr r) ≡ 1024 = ap (rank_at (cut_file marks fr)) e
              ∙ cut-rank 0 (omega arith) in
              omega arith

  pub cut-end : start (cut_file marks fr) 1280 ≡ frame_count (cut_file marks fr)
  cut-end = start_is (cut_file marks fr) 1280 (frame_count (cut_file marks fr))
      (record { within = omega arith; lower = lower; there = λ q. absurd (omega arith) })
    where
      lower : (k : ℕ) → k < frame_count (cut_file marks fr) → rank_at (cut_file marks fr) k < 1280
      lower k q = go (dec_lt k s.rows)
        where
          go : Dec (k < s.rows) → rank_at (cut_file marks fr) k < 1280
          go (yes w) = let e = front-rank k w in let c = rows_start in let d = (begins fr 1024).lower k (omega arith) in
              omega arith
          go (no w) =
              let c = gr-count in
              let e : k ≡ s.rows + (k - s.rows) = omega arith in
              let d : rank_at (cut_file marks fr) k ≡ 1024 = ap (rank_at (cut_file marks fr)) e
              ∙ cut-rank (k - s.rows) (omega arith) in
              omega arith

  -- WHERE THE CUT'S FAMILIES BEGIN: where the file's do, and its rows end it
  pub cut-starts : starts_of (cut_file marks fr)
      ≡ record {
        members = (starts_of fr).members;
        constants = (starts_of fr).constants;
        overrides = (starts_of fr).overrides;
        globals = (starts_of fr).globals;
        arguments = (starts_of fr).arguments;
        locals = (starts_of fr).locals;
        functions = (starts_of fr).functions;
        intersections = (starts_of fr).intersections;
        vertex_returns = (starts_of fr).vertex_returns;
        rows = (starts_of fr).rows;
        components = frame_count (cut_file marks fr);
        end = frame_count (cut_file marks fr);
      }
  unfolding starts_of
  cut-starts =
      rw (
        cut-start 512 (omega arith),
        cut-start 769 (omega arith),
        cut-start 770 (omega arith),
        cut-start 771 (omega arith),
        cut-start 772 (omega arith),
        cut-start 773 (omega arith),
        cut-start 774 (omega arith),
        cut-start 775 (omega arith),
        cut-start 776 (omega arith),
        cut-start 1024 (omega arith),
        cut-end,
      )
