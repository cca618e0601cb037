-- THE PARTS OF A JOIN ARE EARLIER THAN THEIR OWNERS (check 6): a struct's members and a compose's components stand in
-- the join as they stood, moved, and moved numbers rise; no other frame owns parts.
use Prim.Native.Nat.{ℕ, zero, suc, ◌+◌, ◌-◌, ◌≤◌, ◌<◌}
use native.Mathlib.Omega.{arith}
use mathlib.Core.Path.{◌≡◌, refl, ap, ◌∙◌, subst}
use mathlib.Core.Bool.{true, false}
use mathlib.Core.List.{List}
use lib.Dec.{eqb}
use Rattle.scan.proofs.Laws.{each_all}
use Rattle.frames.specs.declared.Frame.{Frame}
use Rattle.frames.specs.Bytes.{byte, half, word, frame_at, frame_count}
use Rattle.frames.specs.Forms.{component_of}
use Rattle.archive.specs.declared.Starts.{Starts}
use Rattle.archive.specs.Starts.{starts_of, component_count}
use Rattle.archive.specs.Parts.{held_by, early_in, early_for, early_ok}
use Rattle.law_rows.proofs.Good.{Good}
use Rattle.law_moved.specs.Moves.{Moves, row_to}
use Rattle.law_moved.specs.Frames.{moved_frame}
use Rattle.law_moved.proofs.Frames.{frame-type, frame_row, frame-family, frame-kind}
use Rattle.law_moved.proofs.Files.{starts-ordered}
use Rattle.law_moved.proofs.Checked.{struct-range, compose-range}
use Rattle.law_moved.proofs.Owned.{struct-early, compose-early, none-early}
use Rattle.law_join.specs.Join.{bound, join_moves, first_moves, join_file}
use Rattle.law_join.specs.Joinable.{Joinable}
use Rattle.law_join.proofs.Regrouped.{rises-far}
use Rattle.law_join.proofs.Frames.{rise, at_first, by_part, join-starts}
use Rattle.law_join.proofs.Families.{type-family, member-family, item-family, row-family, component-family}
use Rattle.law_join.proofs.First.{first-carried}
use Rattle.law_join.proofs.Second.{second-component, second-carried}
use Rattle.law_join.proofs.Places.{rows-begin}

module _ (fr gr : List ℕ) (good : Good fr) (also : Good gr) (jf : Joinable fr) (jg : Joinable gr) where
  abbrev s : Starts
  s = starts_of fr

  abbrev t : Starts
  t = starts_of gr

  abbrev J : List ℕ
  J = join_file fr gr

  abbrev m : Moves
  m = join_moves s

  first-component : (n : ℕ) → n < component_count s → component_of (frame_at J ((starts_of J).components + n))
      ≡ row_to first_moves (component_of (frame_at fr (s.components + n)))
  first-component n l = ap (λ (z : Starts). component_of (frame_at J (z.components + n))) (join-starts fr gr good also)
      ∙ ap component_of (at_first fr gr 11 n (omega arith) l)

  next-component : (n : ℕ) → n < component_count t
      → component_of (frame_at J ((starts_of J).components + (n + component_count s)))
      ≡ row_to m (component_of (frame_at gr (t.components + n)))
  next-component n l =
      ap (λ (z : Starts). component_of (frame_at J (z.components + (n + component_count s))))
      (join-starts fr gr good also)
      ∙ second-component fr gr good also n (s.components + t.components + (n + component_count s)) l
      (let a = (starts-ordered fr).end in omega arith)

  no-owner : (b o : ℕ) (g : Frame) → byte g 0 ≡ b → eqb b 1 ≡ false → eqb b 4 ≡ false → (k : ℕ)
      → early_in J (held_by (starts_of J) o g) k ≡ true
  no-owner b o g e x y k = none-early J (starts_of J) o g (ap (λ (z : ℕ). eqb z 1) e ∙ x)
      (ap (λ (z : ℕ). eqb z 4) e ∙ y) k

  module _ (k : ℕ) where
    abbrev EarlyFirst : ℕ → ℕ → Type 0
    EarlyFirst i y = early_in J (held_by (starts_of J) (bound s i + bound t i + y) (frame_at fr (bound s i + y))) k
        ≡ true

    first-item-early : (i y : ℕ) → 2 ≤ i → i < 10 → i < 12 → y < bound s (suc i) - bound s i → EarlyFirst i y
    first-item-early i y a b l w =
        let c = rises-far (bound s) (rise s (starts-ordered fr)) 2 i a in
        let d = rises-far (bound s) (rise s (starts-ordered fr)) (suc i) 10 b in
        no-owner 3 (bound s i + bound t i + y) (frame_at fr (bound s i + y))
        (item-family fr good (bound s i + y) (omega arith) (omega arith)) refl refl k

    early-first : (i y : ℕ) → i < 12 → y < bound s (suc i) - bound s i → EarlyFirst i y
    early-first zero y l w =
        let c = first-carried fr gr good also jf jg in
        let e : 0 + y ≡ 0 + 0 + y = omega arith in
        subst (λ (o : ℕ). early_in J (held_by (starts_of J) o (frame_at fr (0 + y))) k ≡ true) e
        (struct-early fr good first_moves J c.members c.member-run (λ a b z. z) (0 + y) (omega arith)
        (frame_at fr (0 + y)) (type-family fr good (0 + y) (omega arith)) refl (λ q. refl) (λ q. refl) k)
    early-first (suc zero) y l w = no-owner 2 (s.members + t.members + y) (frame_at fr (s.members + y))
        (member-family fr good (s.members + y) (omega arith) (omega arith)) refl refl k
    early-first (suc (suc zero)) y l w = first-item-early 2 y (omega arith) (omega arith) l w
    early-first (suc (suc (suc zero))) y l w = first-item-early 3 y (omega arith) (omega arith) l w
    early-first (suc (suc (suc (suc zero)))) y l w = first-item-early 4 y (omega arith) (omega arith) l w
    early-first (suc (suc (suc (suc (suc zero))))) y l w = first-item-early 5 y (omega arith) (omega arith) l w
    early-first (suc (suc (suc (suc (suc (suc zero)))))) y l w = first-item-early 6 y (omega arith) (omega arith) l w
    early-first (suc (suc (suc (suc (suc (suc (suc zero))))))) y l w = first-item-early 7 y (omega arith)
        (omega arith) l w
    early-first (suc (suc (suc (suc (suc (suc (suc (suc zero)))))))) y l w = first-item-early 8 y (omega arith)
        (omega arith) l w
    early-first (suc (suc (suc (suc (suc (suc (suc (suc (suc zero))))))))) y l w = first-item-early 9 y (omega arith)
        (omega arith) l w
    early-first (suc (suc (suc (suc (suc (suc (suc (suc (suc (suc zero)))))))))) y l w =
        compose-early fr good first_moves J first-component (λ a b. refl) (λ a b z. z) y w (s.rows + t.rows + y)
        (frame_at fr (s.rows + y)) (let a = rows-begin fr gr good also in omega arith)
        (row-family fr good (s.rows + y) (omega arith) (omega arith)) refl (λ q. refl) (λ q. refl) k
    early-first (suc (suc (suc (suc (suc (suc (suc (suc (suc (suc (suc zero))))))))))) y l w = no-owner 5
        (s.components + t.components + y) (frame_at fr (s.components + y))
        (component-family fr good (s.components + y) (omega arith) (omega arith)) refl refl k
    early-first (suc (suc (suc (suc (suc (suc (suc (suc (suc (suc (suc (suc i)))))))))))) y l w = absurd (omega arith)

    abbrev EarlySecond : ℕ → ℕ → Type 0
    EarlySecond i y = early_in J
        (held_by (starts_of J) (bound s (suc i) + bound t i + y) (moved_frame m (frame_at gr (bound t i + y)))) k ≡ true

    second-item-early : (i y : ℕ) → 2 ≤ i → i < 10 → i < 12 → y < bound t (suc i) - bound t i → EarlySecond i y
    second-item-early i y a b l w =
        let c = rises-far (bound t) (rise t (starts-ordered gr)) 2 i a in
        let d = rises-far (bound t) (rise t (starts-ordered gr)) (suc i) 10 b in
        let f = frame_at gr (bound t i + y) in
        no-owner 3 (bound s (suc i) + bound t i + y) (moved_frame m f)
        (frame-family m f ∙ item-family gr also (bound t i + y) (omega arith) (omega arith)) refl refl k

    early-second : (i y : ℕ) → i < 12 → y < bound t (suc i) - bound t i → EarlySecond i y
    early-second zero y l w =
        let c = second-carried fr gr good also jf jg in
        let f = frame_at gr (0 + y) in
        let g = moved_frame m f in
        let q = type-family gr also (0 + y) (omega arith) in
        let e : 0 + y + s.members ≡ s.members + 0 + y = omega arith in
        subst (λ (o : ℕ). early_in J (held_by (starts_of J) o (moved_frame m (frame_at gr (0 + y)))) k ≡ true) e
        (struct-early gr also m J c.members c.member-run (λ a b z. omega arith) (0 + y) (omega arith)
        (moved_frame m (frame_at gr (0 + y))) (frame-family m f ∙ q) (frame-kind m f)
        (λ h. ap (λ (z : Frame). half z 2) (frame-type m f q) ∙ (struct-range m f h).first-is)
        (λ h. ap (λ (z : Frame). half z 4) (frame-type m f q) ∙ (struct-range m f h).count-is) k)
    early-second (suc zero) y l w =
        let f = frame_at gr (t.members + y) in
        no-owner 2 (s.constants + t.members + y) (moved_frame m f)
        (frame-family m f ∙ member-family gr also (t.members + y) (omega arith) (omega arith)) refl refl k
    early-second (suc (suc zero)) y l w = second-item-early 2 y (omega arith) (omega arith) l w
    early-second (suc (suc (suc zero))) y l w = second-item-early 3 y (omega arith) (omega arith) l w
    early-second (suc (suc (suc (suc zero)))) y l w = second-item-early 4 y (omega arith) (omega arith) l w
    early-second (suc (suc (suc (suc (suc zero))))) y l w = second-item-early 5 y (omega arith) (omega arith) l w
    early-second (suc (suc (suc (suc (suc (suc zero)))))) y l w = second-item-early 6 y (omega arith) (omega arith) l w
    early-second (suc (suc (suc (suc (suc (suc (suc zero))))))) y l w = second-item-early 7 y (omega arith)
        (omega arith) l w
    early-second (suc (suc (suc (suc (suc (suc (suc (suc zero)))))))) y l w = second-item-early 8 y (omega arith)
        (omega arith) l w
    early-second (suc (suc (suc (suc (suc (suc (suc (suc (suc zero))))))))) y l w = second-item-early 9 y (omega arith)
        (omega arith) l w
    early-second (suc (suc (suc (suc (suc (suc (suc (suc (suc (suc zero)))))))))) y l w =
        let f = frame_at gr (t.rows + y) in
        let q = row-family gr also (t.rows + y) (omega arith) (omega arith) in
        compose-early gr also m J next-component (λ a b. omega arith) (λ a b z. omega arith) y w
        (s.components + t.rows + y) (moved_frame m (frame_at gr (t.rows + y)))
        (let a = rows-begin fr gr good also in let b = (starts-ordered fr).components in omega arith)
        (frame-family m f ∙ q) (frame-kind m f)
        (λ h. ap (λ (z : Frame). word z 12) (frame_row m f q) ∙ (compose-range m f h).first-is)
        (λ h. ap (λ (z : Frame). half z 4) (frame_row m f q) ∙ (compose-range m f h).count-is) k
    early-second (suc (suc (suc (suc (suc (suc (suc (suc (suc (suc (suc zero))))))))))) y l w =
        let f = frame_at gr (t.components + y) in
        no-owner 5 (s.end + t.components + y) (moved_frame m f)
        (frame-family m f ∙ component-family gr also (t.components + y) (omega arith) (omega arith)) refl refl k
    early-second (suc (suc (suc (suc (suc (suc (suc (suc (suc (suc (suc (suc i)))))))))))) y l w = absurd (omega arith)

  -- every part is earlier than each of its owners
  pub join-early : (k : ℕ) → early_ok (join_file fr gr) k ≡ true
  unfolding early_ok
  join-early k =
      each_all (λ (o : ℕ). early_for J o k) (frame_count J)
      (by_part fr gr (λ o f. early_in J (held_by (starts_of J) o f) k ≡ true) (early-first k) (early-second k))
