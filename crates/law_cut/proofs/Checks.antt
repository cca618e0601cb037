-- THE CUT PASSES CHECKS 4 AND 5: what stands before the rows is as it was, and a row keeps its family, kind and
-- values.
use Prim.Native.Nat.{ℕ, ◌+◌, ◌-◌, ◌*◌, ◌≤◌, ◌<◌}
use native.Mathlib.Decide.{dec_lt}
use native.Mathlib.Omega.{arith}
use mathlib.Core.Path.{◌≡◌, refl, ap, ◌∙◌, subst}
use mathlib.Core.Bool.{Bool, true, ◌&&◌, ◌||◌}
use mathlib.Core.List.{List}
use lib.Dec.{eqb}
use borrow.Author.Tests.{lt-ltb, eqb-true, eqb-false}
use Rattle.frames.specs.declared.Frame.{Frame}
use Rattle.frames.specs.Bytes.{byte, frame_at, frame_count}
use Rattle.frames.specs.Forms.{fields_fit}
use Rattle.archive.specs.declared.Starts.{Starts}
use Rattle.archive.specs.Order.{rank_of, rank_at, is_known, follows, order_ok}
use Rattle.archive.specs.Starts.{starts_of, row_count}
use Rattle.archive.specs.Checks.{field_ok}
use Rattle.archive.proofs.Checked.{Holds}
use Rattle.archive.proofs.Ranks.{begins}
use Rattle.law_rows.proofs.Good.{Good}
use Rattle.law_rows.proofs.Named.{row-frame}
use Rattle.law_rows.proofs.Range.{row-there}
use Rattle.law_moved.specs.Moves.{Moves}
use Rattle.law_moved.proofs.Checked.{row-fits-moved}
use Rattle.law_cut.specs.Marks.{is_marked}
use Rattle.law_cut.specs.Cut.{rank, cut_moves, cut_file}
use Rattle.law_cut.proofs.Frames.{rank_rises, gr-count, front_at, row_is, row_from, cut-family, cut-rank}
use Rattle.law_cut.proofs.Sweep.{cases}

-- a frame of a rank below the rows' is of family 1 to 3, or of none
pub low-family : (f : Frame) → rank_of f < 1024 → byte f 0 < 4
low-family f l =
    cases (eqb (byte f 0) 3) (λ e. let z = eqb-true (byte f 0) 3 e in omega arith)
    (λ e. let z : 256 * byte f 0 < 1024 = rw e at l in omega arith)

module _ (marks : List Bool) (fr : List ℕ) (good : Good fr) where
  abbrev m : Moves
  m = cut_moves marks

  abbrev s : Starts
  s = starts_of fr

  abbrev gr : List ℕ
  gr = cut_file marks fr

  abbrev count : ℕ
  count = row_count s

  pub rows-within : s.rows ≤ frame_count fr
  unfolding starts_of
  rows-within = (begins fr 1024).within

  pub front_low : (k : ℕ) → k < s.rows → rank_at fr k < 1024
  unfolding starts_of
  front_low k l = (begins fr 1024).lower k l

  -- a frame of the cut: before the rows, or a row
  pub by_place : (P : ℕ → Type 0) → ((k : ℕ) → k < s.rows → P k)
      → ((r : ℕ) → r < count → is_marked marks r ≡ true → P (s.rows + rank marks r)) → (k : ℕ) → k < frame_count gr
      → P k
  by_place P front row k l = go (dec_lt k s.rows)
    where
      go : Dec (k < s.rows) → P k
      go (yes w) = front k w
      go (no w) =
          let c = gr-count marks fr good in
          let x = row_from marks fr good (k - s.rows) (omega arith) in
          let q = x.ranked in
          let e : s.rows + rank marks x.row ≡ k = omega arith in
          subst P e (row x.row x.below x.marked)

  -- CHECK 4

  known-4 : (f : Frame) → byte f 0 ≡ 4 → is_known f ≡ true
  known-4 f e = rw e

  follows-rows : (q : ℕ) → q ≤ 1024 → follows q 1024 ≡ true
  follows-rows q l =
      cases (eqb q 1024) (λ e. let z = eqb-true q 1024 e in rw z refl)
      (λ e. let n = eqb-false q 1024 e in rw (lt-ltb q 1024 (lower q l n)) refl)
    where
      lower : (q : ℕ) → q ≤ 1024 → (q ≡ 1024 → ⊥) → q < 1024
      lower q l n = go (dec_lt q 1024)
        where
          go : Dec (q < 1024) → q < 1024
          go (yes w) = w
          go (no w) = absurd (n (omega arith))

  rank-at-most : (k : ℕ) → k < frame_count gr → rank_at gr k ≤ 1024
  rank-at-most =
      by_place (λ k. rank_at gr k ≤ 1024)
      (λ k l. let e : rank_at gr k ≡ rank_at fr k = ap rank_of (front_at marks fr good k l) in let w = front_low k l in
      omega arith)
      (λ r l h. let e = cut-rank marks fr good (rank marks r) (rank_rises marks r count l h) in omega arith)

  pub cut-order : Holds order_ok (cut_file marks fr)
  unfolding order_ok
  cut-order k w =
      by_place (λ k. k < frame_count gr
      → (is_known (frame_at gr k) && (eqb k 0 || follows (rank_at gr (k - 1)) (rank_at gr k))) ≡ true)
      (λ k l q. let a = rows-within in
      rw (front_at marks fr good k l, front_at marks fr good (k - 1) (omega arith)) (good.order k (omega arith)))
      (λ r l h q.
      let e = cut-rank marks fr good (rank marks r) (rank_rises marks r count l h) in
      let d = known-4 (frame_at gr (s.rows + rank marks r)) (cut-family marks fr good r l h) in
      rw (d, e) (cases (eqb (s.rows + rank marks r) 0) (λ z. rw z refl)
      (λ z. rw z (follows-rows (rank_at gr (s.rows + rank marks r - 1))
      (rank-at-most (s.rows + rank marks r - 1) (omega arith)))))) k w w

  -- CHECK 5

  pub row-family : (r : ℕ) → r < count → byte (frame_at fr (s.rows + r)) 0 ≡ 4
  row-family r l = (row-frame fr good (record { 0 = r }) (row-there fr r l)).family-is

  pub row_within : (r : ℕ) → r < count → s.rows + r < frame_count fr
  row_within r l = (row-frame fr good (record { 0 = r }) (row-there fr r l)).within

  pub cut-fields : Holds field_ok (cut_file marks fr)
  cut-fields =
      by_place (λ k. fields_fit (frame_at gr k) ≡ true)
      (λ k l. let a = rows-within in ap fields_fit (front_at marks fr good k l) ∙ good.fields k (omega arith))
      (λ r l h. ap fields_fit (row_is marks fr good r l h)
      ∙ row-fits-moved m (frame_at fr (s.rows + r)) (row-family r l) (good.fields (s.rows + r) (row_within r l)))
