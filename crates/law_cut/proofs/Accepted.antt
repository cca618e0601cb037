-- THE CUT IS ACCEPTED: its frames pass check 6 too. What a row names is there: a marked row at its rank, and for a
-- row that is not marked row 0, which is earlier, since a row that names rows reads one. Members are as they were,
-- and no compose has components.
use Prim.Native.Nat.{ℕ, zero, suc, ◌+◌, ◌-◌, ◌<◌, min}
use native.Mathlib.Decide.{dec_lt}
use native.Mathlib.Omega.{arith}
use mathlib.Core.Path.{◌≡◌, refl, sym, ap, ◌∙◌, subst}
use mathlib.Core.Bool.{Bool, true, false}
use mathlib.Core.Logic.{inl, inr}
use mathlib.Core.List.{List}
use lib.Dec.{eqb}
use borrow.Author.Tests.{eqb-true}
use Rattle.scan.proofs.Laws.{and_first, and_second, all-each, each_all}
use Rattle.frames.specs.declared.Frame.{Frame}
use Rattle.frames.specs.Bytes.{byte, half, word, frame_at, frame_count}
use Rattle.frames.specs.Forms.{type_of, member_of, item_of, row_of}
use Rattle.archive.specs.declared.Starts.{Starts}
use Rattle.archive.specs.declared.Owner.TheVariants as Ow
use Rattle.archive.specs.declared.Held.{Held}
use Rattle.archive.specs.Starts.{starts_of, row_count}
use Rattle.archive.specs.Names.{type_form_names, item_names, row_form_names, names_by, names_of, names_ok}
use Rattle.archive.specs.Parts.{is_struct, is_compose, members_of, components_of, held_by, early_in, early_for}
use Rattle.archive.specs.Parts.{early_ok}
use Rattle.archive.specs.Checks.{index_ok}
use Rattle.archive.proofs.Checked.{Holds}
use Rattle.archive.proofs.Owners.{outside}
use Rattle.law_rows.proofs.Good.{Good}
use Rattle.law_moved.specs.Moves.{Moves}
use Rattle.law_moved.proofs.Frames.{row_moved}
use Rattle.law_moved.proofs.Files.{starts-ordered}
use Rattle.law_moved.proofs.Checked.{compose-range}
use Rattle.law_moved.proofs.Unmoved.{form-stays, item-stays}
use Rattle.law_moved.proofs.Named.{InPlace, FormNamesRow, type-names-moved, item-names-moved, member-names-moved}
use Rattle.law_moved.proofs.Named.{row-names-moved}
use Rattle.law_cut.specs.Marks.{is_marked}
use Rattle.law_cut.specs.Cut.{rank, cut_row, cut_moves, cut_file}
use Rattle.law_cut.proofs.Frames.{rank_rises, front_at, row_is, cut-family, cut-starts}
use Rattle.law_cut.proofs.Refused.{stays, row-rank, rows-begin}
use Rattle.law_cut.proofs.Sweep.{cases}
use Rattle.law_cut.proofs.Checks.{low-family, rows-within, front_low, by_place, row-family, row_within}
use Rattle.law_cut.proofs.Checks.{cut-order, cut-fields}

module _ (marks : List Bool) (fr : List ℕ) (good : Good fr)
    (first : (r : ℕ) → r < row_count (starts_of fr) → is_marked marks r ≡ true
    → FormNamesRow (row_of (frame_at fr ((starts_of fr).rows + r))) → 0 < rank marks r) where
  abbrev m : Moves
  m = cut_moves marks

  abbrev s : Starts
  s = starts_of fr

  abbrev gr : List ℕ
  gr = cut_file marks fr

  abbrev count : ℕ
  count = row_count s

  in_place : InPlace m s (starts_of gr)
  in_place =
      record {
        type-in = λ n l. rw (cut-starts marks fr good) l;
        type-rises = λ k n l. l;
        member-range = λ n j l. rw (cut-starts marks fr good) l;
        constant-in = λ n l. rw (cut-starts marks fr good) l;
        override-in = λ n l. rw (cut-starts marks fr good) l;
        global-in = λ n l. rw (cut-starts marks fr good) l;
        local-in = λ n l. rw (cut-starts marks fr good) l;
        function-in = λ n l. rw (cut-starts marks fr good) l;
        component-range = λ n j l. omega arith;
      }

  -- a frame before the rows names what it named
  front-names : (b k : ℕ) (f : Frame) → b < 4 → names_by b s k f ≡ true → names_by b (starts_of gr) k f ≡ true
  front-names zero k f l h = refl
  front-names (suc zero) k f l h =
      subst (λ (x : _). type_form_names (starts_of gr) (record { 0 = k }) x ≡ true)
      (form-stays m (stays marks) (type_of f))
      (type-names-moved m s (starts_of gr) in_place (record { 0 = k }) (type_of f) h)
  front-names (suc (suc zero)) k f l h = member-names-moved m s (starts_of gr) in_place (member_of f).ty h
  front-names (suc (suc (suc zero))) k f l h =
      subst (λ (x : _). item_names (starts_of gr) x ≡ true) (item-stays m (stays marks) (item_of f))
      (item-names-moved m s (starts_of gr) in_place (item_of f) h)
  front-names (suc (suc (suc (suc b)))) k f l h = absurd (omega arith)

  named-fr : (k : ℕ) → k < frame_count fr → names_of s k (frame_at fr k) ≡ true
  unfolding index_ok names_ok
  named-fr k l = and_first (names_of s k (frame_at fr k)) (early_ok fr k) (good.index k l)

  -- an earlier row is earlier in the cut
  earlier-row : (r : ℕ) → is_marked marks r ≡ true → 0 < rank marks r → (i : ℕ) → i < r
      → cut_row marks i < cut_row marks r
  earlier-row r h z i l =
      cases (is_marked marks i)
      (λ e. rw (row-rank marks fr good i e, row-rank marks fr good r h) (rank_rises marks i r l e))
      (λ e. rw (row-rank marks fr good r h) (let q : cut_row marks i ≡ 0 = rw e in omega arith))

  names-4 : (t : Starts) (k : ℕ) (f : Frame) → byte f 0 ≡ 4 → names_of t k f
      ≡ row_form_names t (record { 0 = k - t.rows }) (row_of f)
  names-4 t k f e = ap (λ (b : ℕ). names_by b t k f) e

  row-named : (r : ℕ) → r < count → is_marked marks r ≡ true
      → names_of (starts_of gr) (s.rows + rank marks r) (frame_at gr (s.rows + rank marks r)) ≡ true
  row-named r l h =
      let i : s.rows + r - s.rows ≡ r = omega arith in
      let j : s.rows + rank marks r - (starts_of gr).rows
      ≡ cut_row marks r = rw (rows-begin marks fr good, row-rank marks fr good r h) (omega arith) in
      let n : row_form_names s (record { 0 = r }) (row_of (frame_at fr (s.rows + r))) ≡ true =
      ap (λ (x : ℕ). row_form_names s (record { 0 = x }) (row_of (frame_at fr (s.rows + r)))) (sym i)
      ∙ sym (names-4 s (s.rows + r) (frame_at fr (s.rows + r)) (row-family marks fr good r l))
      ∙ named-fr (s.rows + r) (row_within marks fr good r l) in
      names-4 (starts_of gr) (s.rows + rank marks r) (frame_at gr (s.rows + rank marks r))
      (cut-family marks fr good r l h)
      ∙ ap (λ (x : ℕ). row_form_names (starts_of gr) (record { 0 = x }) (row_of (frame_at gr (s.rows + rank marks r))))
      j
      ∙ ap (row_form_names (starts_of gr) (record { 0 = cut_row marks r }))
      (ap row_of (row_is marks fr good r l h) ∙ (row_moved m (frame_at fr (s.rows + r))).is)
      ∙ row-names-moved m s (starts_of gr) in_place (record { 0 = r }) (row_of (frame_at fr (s.rows + r)))
      (λ w. earlier-row r h (first r l h w)) n

  cut-names : (k : ℕ) → k < frame_count gr → names_ok gr k ≡ true
  unfolding names_ok
  cut-names =
      by_place marks fr good (λ k. names_of (starts_of gr) k (frame_at gr k) ≡ true)
      (λ k l. let a = rows-within marks fr good in
      ap (names_of (starts_of gr) k) (front_at marks fr good k l)
      ∙ front-names (byte (frame_at fr k) 0) k (frame_at fr k)
      (low-family (frame_at fr k) (front_low marks fr good k l))
      (named-fr k (omega arith)))
      row-named

  -- PARTS: members as they were, and no components

  early-fr : (o k : ℕ) → o < frame_count fr → k < frame_count fr → early_for fr o k ≡ true
  unfolding index_ok early_ok
  early-fr o k a b = all-each (λ (j : ℕ). early_for fr j k) (frame_count fr) o
      (and_second (names_ok fr k) (early_ok fr k) (good.index k b)) a

  same-members : (o : ℕ) (f : Frame)
      → members_of (starts_of gr) (record { 0 = o }) f ≡ members_of s (record { 0 = o }) f
  same-members o f = ap (λ (t : Starts). members_of t (record { 0 = o }) f) (cut-starts marks fr good)

  -- the members of a struct stand before the rows
  struct-early : (o k : ℕ) → o < s.rows → is_struct (frame_at fr o) ≡ true
      → early_in gr (members_of s (record { 0 = o }) (frame_at fr o)) k ≡ true
  struct-early o k l h = go (dec_lt k s.rows)
    where
      holds : held_by s o (frame_at fr o) ≡ members_of s (record { 0 = o }) (frame_at fr o)
      holds = rw h

      go : Dec (k < s.rows) → early_in gr (members_of s (record { 0 = o }) (frame_at fr o)) k ≡ true
      go (yes w) =
          let a = rows-within marks fr good in
          rw (front_at marks fr good k w)
          (ap (λ (x : Held). early_in fr x k) (sym holds) ∙ early-fr o k (omega arith) (omega arith))
      go (no w) =
          let x = starts-ordered fr in
          let a = x.overrides in let b = x.globals in let c = x.arguments in let d = x.locals in
          let e = x.functions in let f = x.intersections in let g = x.vertex-returns in let i = x.rows in
          outside gr (s.members + half (frame_at fr o) 2)
          (min (s.members + half (frame_at fr o) 2 + half (frame_at fr o) 4) s.constants)
          (Ow.Struct (record { 0 = o })) k (inr (omega arith))

  no-compose : (f : Frame) → byte f 0 < 4 → is_compose f ≡ false
  no-compose f l = cases (eqb (byte f 0) 4) (λ e. let z = eqb-true (byte f 0) 4 e in absurd (omega arith))
      (λ e. rw e refl)

  front-early : (k o : ℕ) → o < s.rows → early_in gr (held_by (starts_of gr) o (frame_at gr o)) k ≡ true
  front-early k o l =
      ap (λ (f : Frame). early_in gr (held_by (starts_of gr) o f) k) (front_at marks fr good o l)
      ∙ cases (is_struct (frame_at fr o)) (λ h. ap (λ (x : Held). early_in gr x k) (held h) ∙ struct-early o k l h)
      (λ h. rw (h, no-compose (frame_at fr o) (low-family (frame_at fr o) (front_low marks fr good o l))) refl)
    where
      held : is_struct (frame_at fr o) ≡ true → held_by (starts_of gr) o (frame_at fr o)
          ≡ members_of s (record { 0 = o }) (frame_at fr o)
      held h = rw h (same-members o (frame_at fr o))

  -- a compose of the cut has no components
  no-components : (r : ℕ) → r < count → is_marked marks r ≡ true → byte (frame_at gr (s.rows + rank marks r)) 1 ≡ 5
      → half (frame_at gr (s.rows + rank marks r)) 4 ≡ 0
  no-components r l h e =
      ap (λ (f : Frame). half f 4) (row_is marks fr good r l h)
      ∙ (compose-range m (frame_at fr (s.rows + r))
      (sym (row_moved m (frame_at fr (s.rows + r))).kind
      ∙ sym (ap (λ (f : Frame). byte f 1) (row_is marks fr good r l h)) ∙ e)).count-is

  row-early : (k r : ℕ) → r < count → is_marked marks r ≡ true
      → early_in gr (held_by (starts_of gr) (s.rows + rank marks r) (frame_at gr (s.rows + rank marks r))) k ≡ true
  row-early k r l h = cases (eqb (byte f 1) 5) compose (λ e. rw (no-struct, four, e) refl)
    where
      f : Frame
      f = frame_at gr (s.rows + rank marks r)

      four : byte f 0 ≡ 4
      four = cut-family marks fr good r l h

      no-struct : is_struct f ≡ false
      no-struct = rw four refl

      compose : eqb (byte f 1) 5 ≡ true → early_in gr (held_by (starts_of gr) (s.rows + rank marks r) f) k ≡ true
      compose e =
          let z = no-components r l h (eqb-true (byte f 1) 5 e) in
          rw (no-struct, four, e) (go (dec_lt k ((starts_of gr).components + word f 12)) z)
        where
          go : Dec (k < (starts_of gr).components + word f 12) → half f 4 ≡ 0
              → early_in gr (components_of (starts_of gr) (record { 0 = s.rows + rank marks r - (starts_of gr).rows })
              f) k
              ≡ true
          go (yes w) z = outside gr ((starts_of gr).components + word f 12)
              (min ((starts_of gr).components + word f 12 + half f 4) (starts_of gr).end)
              (Ow.Compose (record { 0 = s.rows + rank marks r - (starts_of gr).rows })) k (inl w)
          go (no w) z = outside gr ((starts_of gr).components + word f 12)
              (min ((starts_of gr).components + word f 12 + half f 4) (starts_of gr).end)
              (Ow.Compose (record { 0 = s.rows + rank marks r - (starts_of gr).rows })) k (inr (omega arith))

  cut-early : (k : ℕ) → early_ok gr k ≡ true
  unfolding early_ok
  cut-early k =
      each_all (λ (o : ℕ). early_for gr o k) (frame_count gr)
      (by_place marks fr good (λ o. early_in gr (held_by (starts_of gr) o (frame_at gr o)) k ≡ true) (front-early k)
      (row-early k))

  pub cut-index : Holds index_ok (cut_file marks fr)
  unfolding index_ok
  cut-index k l = rw (cut-names k l) (cut-early k)

  -- THE CUT'S FRAMES PASS CHECKS 4 TO 6
  pub cut-good : Good (cut_file marks fr)
  cut-good = record { order = cut-order marks fr good; fields = cut-fields marks fr good; index = cut-index }
