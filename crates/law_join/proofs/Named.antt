-- WHAT THE FRAMES OF A JOIN NAME IS THERE (check 6): part by part, for each file.
use Prim.Native.Nat.{ℕ, zero, suc, ◌+◌, ◌-◌, ◌≤◌, ◌<◌}
use native.Mathlib.Omega.{arith}
use mathlib.Core.Path.{◌≡◌, refl, sym, ap, ◌∙◌}
use mathlib.Core.Bool.{true}
use mathlib.Core.List.{List}
use Rattle.frames.specs.Bytes.{frame_at, frame_count}
use Rattle.frames.specs.Forms.{type_of, member_of, item_of, row_of, component_of}
use Rattle.archive.specs.declared.Starts.{Starts}
use Rattle.archive.specs.Starts.{starts_of}
use Rattle.archive.specs.Names.{names_of, names_ok}
use Rattle.law_rows.proofs.Good.{Good}
use Rattle.law_moved.specs.Moves.{Moves}
use Rattle.law_moved.specs.Frames.{moved_frame}
use Rattle.law_moved.proofs.Frames.{type-moved, member-moved, item-moved, row_moved, component-moved, frame-type}
use Rattle.law_moved.proofs.Frames.{frame-member, frame-item, frame_row, frame-component, frame-family}
use Rattle.law_moved.proofs.Files.{starts-ordered}
use Rattle.law_moved.proofs.Named.{InPlace}
use Rattle.law_moved.proofs.Unmoved.{Stay, StayAll, form-stays, member-stays, item-stays, row-form-stays}
use Rattle.law_join.specs.Join.{bound, join_moves, first_moves, join_file}
use Rattle.law_join.proofs.Regrouped.{rises-far}
use Rattle.law_join.proofs.Frames.{rise, by_part}
use Rattle.law_join.proofs.Families.{type-family, member-family, item-family, row-family, component-family}
use Rattle.law_join.proofs.First.{stay_all}
use Rattle.law_join.proofs.Order.{within}
use Rattle.law_join.proofs.Places.{type-names, member-names, item-names, row-names, component-names, first-place}
use Rattle.law_join.proofs.Places.{second-place, rows-begin, first-row-in, second-row-in}

module _ (fr gr : List ℕ) (good : Good fr) (also : Good gr) where
  abbrev s : Starts
  s = starts_of fr

  abbrev t : Starts
  t = starts_of gr

  abbrev J : List ℕ
  J = join_file fr gr

  abbrev m : Moves
  m = join_moves s

  in-first : InPlace first_moves (starts_of fr) (starts_of (join_file fr gr))
  in-first = first-place fr gr good also

  in-second : InPlace (join_moves (starts_of fr)) (starts_of gr) (starts_of (join_file fr gr))
  in-second = second-place fr gr good also

  -- THE FIRST's frames

  abbrev NamesFirst : ℕ → ℕ → Type 0
  NamesFirst i y = names_of (starts_of J) (bound s i + bound t i + y) (frame_at fr (bound s i + y)) ≡ true

  first-stays : Stay first_moves
  first-stays = (stay_all fr gr good also).named

  first-stays-all : StayAll first_moves
  first-stays-all = stay_all fr gr good also

  first-item-names : (i y : ℕ) → 2 ≤ i → i < 10 → i < 12 → y < bound s (suc i) - bound s i → NamesFirst i y
  first-item-names i y a b l w =
      let c = rises-far (bound s) (rise s (starts-ordered fr)) 2 i a in
      let d = rises-far (bound s) (rise s (starts-ordered fr)) (suc i) 10 b in
      let e = item-family fr good (bound s i + y) (omega arith) (omega arith) in
      item-names first_moves fr J good in-first (bound s i + y) (bound s i + bound t i + y)
      (frame_at fr (bound s i + y)) (within fr i y l w) e e
      (sym (item-stays first_moves (first-stays) (item_of (frame_at fr (bound s i + y)))))

  names-first : (i y : ℕ) → i < 12 → y < bound s (suc i) - bound s i → NamesFirst i y
  names-first zero y l w =
      let e = type-family fr good (0 + y) (omega arith) in
      type-names first_moves fr J good in-first (0 + y) (0 + 0 + y) (frame_at fr (0 + y)) (within fr 0 y l w) e e
      (sym (form-stays first_moves first-stays (type_of (frame_at fr (0 + y))))) (omega arith)
  names-first (suc zero) y l w =
      let e = member-family fr good (s.members + y) (omega arith) (omega arith) in
      member-names first_moves fr J good in-first (s.members + y) (s.members + t.members + y)
      (frame_at fr (s.members + y)) (within fr 1 y l w) e e
      (sym (member-stays first_moves first-stays (member_of (frame_at fr (s.members + y)))))
  names-first (suc (suc zero)) y l w = first-item-names 2 y (omega arith) (omega arith) l w
  names-first (suc (suc (suc zero))) y l w = first-item-names 3 y (omega arith) (omega arith) l w
  names-first (suc (suc (suc (suc zero)))) y l w = first-item-names 4 y (omega arith) (omega arith) l w
  names-first (suc (suc (suc (suc (suc zero))))) y l w = first-item-names 5 y (omega arith) (omega arith) l w
  names-first (suc (suc (suc (suc (suc (suc zero)))))) y l w = first-item-names 6 y (omega arith) (omega arith) l w
  names-first (suc (suc (suc (suc (suc (suc (suc zero))))))) y l w = first-item-names 7 y (omega arith)
      (omega arith) l w
  names-first (suc (suc (suc (suc (suc (suc (suc (suc zero)))))))) y l w = first-item-names 8 y (omega arith)
      (omega arith) l w
  names-first (suc (suc (suc (suc (suc (suc (suc (suc (suc zero))))))))) y l w = first-item-names 9 y (omega arith)
      (omega arith) l w
  names-first (suc (suc (suc (suc (suc (suc (suc (suc (suc (suc zero)))))))))) y l w =
      let e = row-family fr good (s.rows + y) (omega arith) (omega arith) in
      row-names first_moves fr J good in-first (λ a b c. c) y (s.rows + t.rows + y) (frame_at fr (s.rows + y))
      (within fr 10 y l w) e e (sym (row-form-stays first_moves first-stays-all (row_of (frame_at fr (s.rows + y)))))
      (let a = rows-begin fr gr good also in omega arith)
  names-first (suc (suc (suc (suc (suc (suc (suc (suc (suc (suc (suc zero))))))))))) y l w =
      let e = component-family fr good (s.components + y) (omega arith) (omega arith) in
      component-names first_moves fr J good in-first (first-row-in fr gr good also) (s.components + y)
      (s.components + t.components + y) (frame_at fr (s.components + y)) (within fr 11 y l w) e e refl
  names-first (suc (suc (suc (suc (suc (suc (suc (suc (suc (suc (suc (suc i)))))))))))) y l w = absurd (omega arith)

  -- THE SECOND's

  abbrev NamesSecond : ℕ → ℕ → Type 0
  NamesSecond i y = names_of (starts_of J) (bound s (suc i) + bound t i + y)
      (moved_frame m (frame_at gr (bound t i + y)))
      ≡ true

  second-item-names : (i y : ℕ) → 2 ≤ i → i < 10 → i < 12 → y < bound t (suc i) - bound t i → NamesSecond i y
  second-item-names i y a b l w =
      let c = rises-far (bound t) (rise t (starts-ordered gr)) 2 i a in
      let d = rises-far (bound t) (rise t (starts-ordered gr)) (suc i) 10 b in
      let f = frame_at gr (bound t i + y) in
      let e = item-family gr also (bound t i + y) (omega arith) (omega arith) in
      item-names m gr J also in-second (bound t i + y) (bound s (suc i) + bound t i + y) (moved_frame m f)
      (within gr i y l w) e (frame-family m f ∙ e) (ap item_of (frame-item m f e) ∙ (item-moved m f).is)

  names-second : (i y : ℕ) → i < 12 → y < bound t (suc i) - bound t i → NamesSecond i y
  names-second zero y l w =
      let f = frame_at gr (0 + y) in
      let e = type-family gr also (0 + y) (omega arith) in
      type-names m gr J also in-second (0 + y) (s.members + 0 + y) (moved_frame m f) (within gr 0 y l w) e
      (frame-family m f ∙ e) (ap type_of (frame-type m f e) ∙ (type-moved m f).is) (omega arith)
  names-second (suc zero) y l w =
      let f = frame_at gr (t.members + y) in
      let e = member-family gr also (t.members + y) (omega arith) (omega arith) in
      member-names m gr J also in-second (t.members + y) (s.constants + t.members + y) (moved_frame m f)
      (within gr 1 y l w) e (frame-family m f ∙ e) (ap member_of (frame-member m f e) ∙ (member-moved m f).is)
  names-second (suc (suc zero)) y l w = second-item-names 2 y (omega arith) (omega arith) l w
  names-second (suc (suc (suc zero))) y l w = second-item-names 3 y (omega arith) (omega arith) l w
  names-second (suc (suc (suc (suc zero)))) y l w = second-item-names 4 y (omega arith) (omega arith) l w
  names-second (suc (suc (suc (suc (suc zero))))) y l w = second-item-names 5 y (omega arith) (omega arith) l w
  names-second (suc (suc (suc (suc (suc (suc zero)))))) y l w = second-item-names 6 y (omega arith) (omega arith) l w
  names-second (suc (suc (suc (suc (suc (suc (suc zero))))))) y l w = second-item-names 7 y (omega arith)
      (omega arith) l w
  names-second (suc (suc (suc (suc (suc (suc (suc (suc zero)))))))) y l w = second-item-names 8 y (omega arith)
      (omega arith) l w
  names-second (suc (suc (suc (suc (suc (suc (suc (suc (suc zero))))))))) y l w = second-item-names 9 y (omega arith)
      (omega arith) l w
  names-second (suc (suc (suc (suc (suc (suc (suc (suc (suc (suc zero)))))))))) y l w =
      let f = frame_at gr (t.rows + y) in
      let e = row-family gr also (t.rows + y) (omega arith) (omega arith) in
      row-names m gr J also in-second (λ a b c. omega arith) y (s.components + t.rows + y) (moved_frame m f)
      (within gr 10 y l w) e (frame-family m f ∙ e) (ap row_of (frame_row m f e) ∙ (row_moved m f).is)
      (let a = rows-begin fr gr good also in let b = (starts-ordered fr).components in omega arith)
  names-second (suc (suc (suc (suc (suc (suc (suc (suc (suc (suc (suc zero))))))))))) y l w =
      let f = frame_at gr (t.components + y) in
      let e = component-family gr also (t.components + y) (omega arith) (omega arith) in
      component-names m gr J also in-second (second-row-in fr gr good also) (t.components + y)
      (s.end + t.components + y) (moved_frame m f) (within gr 11 y l w) e (frame-family m f ∙ e)
      (ap component_of (frame-component m f e) ∙ (component-moved m f).is)
  names-second (suc (suc (suc (suc (suc (suc (suc (suc (suc (suc (suc (suc i)))))))))))) y l w = absurd (omega arith)

  -- every frame of the join names what is there
  pub join_names : (k : ℕ) → k < frame_count (join_file fr gr) → names_ok (join_file fr gr) k ≡ true
  unfolding names_ok
  join_names = by_part fr gr (λ k f. names_of (starts_of J) k f ≡ true) names-first names-second
