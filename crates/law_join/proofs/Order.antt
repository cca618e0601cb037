-- THE JOIN PASSES CHECKS 4 AND 5: each part holds frames of one rank, parts stand in order, and no special type item
-- stands twice, since none stands; and a moved frame keeps its family, its kind and the values of its fields.
use Prim.Native.Nat.{ℕ, zero, suc, ◌+◌, ◌-◌, ◌*◌, ◌≤◌, ◌<◌}
use native.Mathlib.Decide.{dec_lt}
use native.Mathlib.Omega.{arith}
use mathlib.Core.Path.{◌≡◌, refl, ap, ◌∙◌}
use mathlib.Core.Bool.{true, false, cond, not, ◌&&◌, ◌||◌}
use mathlib.Core.List.{List, [], ◌∷◌}
use lib.Dec.{ltb, leb, eqb}
use lib.ListN.{get_or}
use borrow.Author.Tests.{ltb-false, eqb-false}
use Rattle.scan.proofs.Laws.{and_first}
use Rattle.frames.specs.declared.Frame.{Frame}
use Rattle.frames.specs.Bytes.{byte, frame_at, frame_count}
use Rattle.frames.specs.Forms.{fields_fit}
use Rattle.archive.specs.declared.Starts.{Starts}
use Rattle.archive.specs.Order.{rank_of, rank_at, is_known, is_once, follows, order_ok}
use Rattle.archive.specs.Starts.{start, starts_of}
use Rattle.archive.specs.Checks.{field_ok}
use Rattle.archive.proofs.Checked.{Holds}
use Rattle.law_rows.proofs.Good.{Good, item-at, last-item-at}
use Rattle.law_moved.specs.Moves.{Moves}
use Rattle.law_moved.specs.Frames.{moved_frame}
use Rattle.law_moved.proofs.Frames.{frame-family, frame-kind}
use Rattle.law_moved.proofs.Files.{starts-ordered}
use Rattle.law_moved.proofs.Checked.{frame-fits-moved}
use Rattle.law_join.specs.Join.{bound, join_moves, join_file}
use Rattle.law_join.specs.Joinable.{Joinable}
use Rattle.law_join.proofs.Regrouped.{rises-far}
use Rattle.law_join.proofs.Frames.{rise, by_part, moved-rank}
use Rattle.law_join.proofs.Families.{cases, type-family, member-family, row-family, component-family}

-- RANKS

-- the rank of part i's frames
abbrev ranks : ℕ → ℕ
ranks i = get_or (256 ∷ 512 ∷ 769 ∷ 770 ∷ 771 ∷ 772 ∷ 773 ∷ 774 ∷ 775 ∷ 776 ∷ 1024 ∷ 1280 ∷ []) i 1280

ranks-next : (i : ℕ) → ranks i ≤ ranks (suc i)
ranks-next zero = omega arith
ranks-next (suc zero) = omega arith
ranks-next (suc (suc zero)) = omega arith
ranks-next (suc (suc (suc zero))) = omega arith
ranks-next (suc (suc (suc (suc zero)))) = omega arith
ranks-next (suc (suc (suc (suc (suc zero))))) = omega arith
ranks-next (suc (suc (suc (suc (suc (suc zero)))))) = omega arith
ranks-next (suc (suc (suc (suc (suc (suc (suc zero))))))) = omega arith
ranks-next (suc (suc (suc (suc (suc (suc (suc (suc zero)))))))) = omega arith
ranks-next (suc (suc (suc (suc (suc (suc (suc (suc (suc zero))))))))) = omega arith
ranks-next (suc (suc (suc (suc (suc (suc (suc (suc (suc (suc zero)))))))))) = omega arith
ranks-next (suc (suc (suc (suc (suc (suc (suc (suc (suc (suc (suc zero))))))))))) = omega arith
ranks-next (suc (suc (suc (suc (suc (suc (suc (suc (suc (suc (suc (suc i)))))))))))) = omega arith

family-rank : (f : Frame) (b : ℕ) → byte f 0 ≡ b → eqb b 3 ≡ false → rank_of f ≡ 256 * b
family-rank f b e h = ap (λ (x : ℕ). cond (eqb x 3) (768 + byte f 1) (256 * x)) e ∙ rw h refl

item-rank : (f : Frame) (j : ℕ) → byte f 0 ≡ 3 → byte f 1 ≡ j → rank_of f ≡ 768 + j
item-rank f j a b = ap (λ (x : ℕ). cond (eqb x 3) (768 + byte f 1) (256 * x)) a ∙ ap (λ (x : ℕ). 768 + x) b

module _ (x : List ℕ) (good : Good x) where
  kind-rank : (j k : ℕ) → 1 ≤ j → j ≤ 7 → start x (768 + j) ≤ k → k < start x (769 + j) → rank_at x k ≡ 768 + j
  kind-rank j k a b c d = let i = item-at x good j k a b c d in item-rank (frame_at x k) j i.family-is i.kind-is

  -- every frame of a part is of its rank
  exact : (i y : ℕ) → i < 12 → y < bound (starts_of x) (suc i) - bound (starts_of x) i
      → rank_at x (bound (starts_of x) i + y) ≡ ranks i
  unfolding starts_of
  exact zero y l w = family-rank (frame_at x (0 + y)) 1 (type-family x good (0 + y) (omega arith)) refl
  exact (suc zero) y l w = family-rank (frame_at x (start x 512 + y)) 2
      (member-family x good (start x 512 + y) (omega arith) (omega arith)) refl
  exact (suc (suc zero)) y l w = kind-rank 1 (start x 769 + y) (omega arith) (omega arith) (omega arith) (omega arith)
  exact (suc (suc (suc zero))) y l w = kind-rank 2 (start x 770 + y) (omega arith) (omega arith) (omega arith)
      (omega arith)
  exact (suc (suc (suc (suc zero)))) y l w = kind-rank 3 (start x 771 + y) (omega arith) (omega arith) (omega arith)
      (omega arith)
  exact (suc (suc (suc (suc (suc zero))))) y l w = kind-rank 4 (start x 772 + y) (omega arith) (omega arith)
      (omega arith) (omega arith)
  exact (suc (suc (suc (suc (suc (suc zero)))))) y l w = kind-rank 5 (start x 773 + y) (omega arith) (omega arith)
      (omega arith) (omega arith)
  exact (suc (suc (suc (suc (suc (suc (suc zero))))))) y l w = kind-rank 6 (start x 774 + y) (omega arith) (omega arith)
      (omega arith) (omega arith)
  exact (suc (suc (suc (suc (suc (suc (suc (suc zero)))))))) y l w = kind-rank 7 (start x 775 + y) (omega arith)
      (omega arith) (omega arith) (omega arith)
  exact (suc (suc (suc (suc (suc (suc (suc (suc (suc zero))))))))) y l w =
      let i = last-item-at x good (start x 776 + y) (omega arith) (omega arith) in
      item-rank (frame_at x (start x 776 + y)) 8 i.family-is i.kind-is
  exact (suc (suc (suc (suc (suc (suc (suc (suc (suc (suc zero)))))))))) y l w = family-rank
      (frame_at x (start x 1024 + y)) 4 (row-family x good (start x 1024 + y) (omega arith) (omega arith)) refl
  exact (suc (suc (suc (suc (suc (suc (suc (suc (suc (suc (suc zero))))))))))) y l w = family-rank
      (frame_at x (start x 1280 + y)) 5 (component-family x good (start x 1280 + y) (omega arith) (omega arith)) refl
  exact (suc (suc (suc (suc (suc (suc (suc (suc (suc (suc (suc (suc i)))))))))))) y l w = absurd (omega arith)

-- a frame of this rank may stand after one of a rank that is not higher, unless it stands once
follows-le : (q r : ℕ) → q ≤ r → is_once r ≡ false → follows q r ≡ true
follows-le q r l h =
    cases (ltb q r) (λ e. rw e refl)
    (λ e. let w = ltb-false q r e in let z : q ≡ r = omega arith in rw (e, z, h, self r) refl)
  where
    self : (r : ℕ) → eqb r r ≡ true
    self r = cases (eqb r r) (λ e. e) (λ e. absurd (eqb-false r r e refl))

known_same : (f g : Frame) → byte g 0 ≡ byte f 0 → byte g 1 ≡ byte f 1 → is_known g ≡ is_known f
known_same f g a b =
    ap (λ (x : ℕ). (leb 1 x && ltb x 6) && (not (eqb x 3) || (leb 1 (byte g 1) && ltb (byte g 1) 9))) a
    ∙ ap (λ (y : ℕ). (leb 1 (byte f 0) && ltb (byte f 0) 6) && (not (eqb (byte f 0) 3) || (leb 1 y && ltb y 9))) b

pub end_is : (x : List ℕ) → (starts_of x).end ≡ frame_count x
unfolding starts_of
end_is x = refl

-- a frame of a part is one of the file, and of a family
pub within : (x : List ℕ) (i y : ℕ) → i < 12 → y < bound (starts_of x) (suc i) - bound (starts_of x) i
    → bound (starts_of x) i + y < frame_count x
within x i y l w =
    let a = rises-far (bound (starts_of x)) (rise (starts_of x) (starts-ordered x)) (suc i) 12 l in
    let b = rise (starts_of x) (starts-ordered x) i in let c = end_is x in omega arith

known-one : (x : List ℕ) → Good x → (k : ℕ) → k < frame_count x → is_known (frame_at x k) ≡ true
unfolding order_ok
known-one x g k l = and_first (is_known (frame_at x k)) _ (g.order k l)

module _ (fr gr : List ℕ) (good : Good fr) (also : Good gr) (jf : Joinable fr) (jg : Joinable gr) where
  abbrev s : Starts
  s = starts_of fr

  abbrev t : Starts
  t = starts_of gr

  abbrev J : List ℕ
  J = join_file fr gr

  abbrev m : Moves
  m = join_moves s

  -- frame k of the join stands in a part
  record InPart (k : ℕ) (f : Frame) : Type 0 where
    pub part : ℕ
    pub fewer : part < 12
    pub from : bound s part + bound t part ≤ k
    pub to : k < bound s (suc part) + bound t (suc part)
    pub ranked : rank_of f ≡ ranks part

  in-part : (k : ℕ) → k < frame_count J → InPart k (frame_at J k)
  in-part =
      by_part fr gr InPart
      (λ i y l w. let c = rise t (starts-ordered gr) i in
      record { part = i; fewer = l; from = omega arith; to = omega arith; ranked = exact fr good i y l w })
      (λ i y l w. let c = rise s (starts-ordered fr) i in
      record {
        part = i;
        fewer = l;
        from = omega arith;
        to = omega arith;
        ranked = moved-rank fr gr
            (frame_at gr (bound t i + y)) ∙ exact gr also i y l w;
      })

  -- CHECK 4

  not-once : (i k : ℕ) → i < 12 → bound s i + bound t i ≤ k → k < bound s (suc i) + bound t (suc i) → is_once (ranks i)
      ≡ false
  not-once zero k l a b = refl
  not-once (suc zero) k l a b = refl
  not-once (suc (suc zero)) k l a b = refl
  not-once (suc (suc (suc zero))) k l a b = refl
  not-once (suc (suc (suc (suc zero)))) k l a b = refl
  not-once (suc (suc (suc (suc (suc zero))))) k l a b = refl
  not-once (suc (suc (suc (suc (suc (suc zero)))))) k l a b = refl
  not-once (suc (suc (suc (suc (suc (suc (suc zero))))))) k l a b = refl
  not-once (suc (suc (suc (suc (suc (suc (suc (suc zero)))))))) k l a b =
      let c = jf.specials in let d = jg.specials in let e = (starts-ordered fr).rows in
      let f = (starts-ordered gr).rows in absurd (omega arith)
  not-once (suc (suc (suc (suc (suc (suc (suc (suc (suc zero))))))))) k l a b =
      let c = jf.specials in let d = jg.specials in let e = (starts-ordered fr).vertex-returns in
      let f = (starts-ordered gr).vertex-returns in absurd (omega arith)
  not-once (suc (suc (suc (suc (suc (suc (suc (suc (suc (suc zero)))))))))) k l a b = refl
  not-once (suc (suc (suc (suc (suc (suc (suc (suc (suc (suc (suc zero))))))))))) k l a b = refl
  not-once (suc (suc (suc (suc (suc (suc (suc (suc (suc (suc (suc (suc i)))))))))))) k l a b = absurd (omega arith)

  known : (k : ℕ) → k < frame_count J → is_known (frame_at J k) ≡ true
  known =
      by_part fr gr (λ k f. is_known f ≡ true) (λ i y l w. known-one fr good (bound s i + y) (within fr i y l w))
      (λ i y l w. known_same (frame_at gr (bound t i + y)) (moved_frame m (frame_at gr (bound t i + y)))
      (frame-family m (frame_at gr (bound t i + y))) (frame-kind m (frame_at gr (bound t i + y)))
      ∙ known-one gr also (bound t i + y) (within gr i y l w))

  pub join-order : Holds order_ok (join_file fr gr)
  unfolding order_ok
  join-order k l = rw (known k l) (cases (eqb k 0) (λ e. rw e refl) (λ e. rw e (later (eqb-false k 0 e))))
    where
      later : (k ≡ 0 → ⊥) → follows (rank_at J (k - 1)) (rank_at J k) ≡ true
      later n =
          let z : 0 < k = positive (dec_lt 0 k) n in
          let a = in-part (k - 1) (omega arith) in
          let b = in-part k l in
          let i = a.part in
          let j = b.part in
          let u = a.from in let v = b.to in
          let c = a.ranked in let d = b.ranked in
          let o : i ≤ j = ordered (dec_lt j i) u v in
          let r = rises-far ranks ranks-next i j o in
          follows-le (rank_at J (k - 1)) (rank_at J k) (omega arith)
          (ap is_once d ∙ not-once j k b.fewer b.from b.to)
        where
          positive : Dec (0 < k) → (k ≡ 0 → ⊥) → 0 < k
          positive (yes w) n = w
          positive (no w) n = absurd (n (omega arith))

          ordered : {i j : ℕ} → Dec (j < i) → bound s i + bound t i ≤ k - 1 → k < bound s (suc j) + bound t (suc j)
              → i ≤ j
          ordered {i} {j} (yes w) u v =
              let a = rises-far (bound s) (rise s (starts-ordered fr)) (suc j) i w in
              let b = rises-far (bound t) (rise t (starts-ordered gr)) (suc j) i w in
              absurd (omega arith)
          ordered {i} {j} (no w) u v = omega arith

  -- CHECK 5

  pub join-fields : Holds field_ok (join_file fr gr)
  join-fields =
      by_part fr gr (λ k f. fields_fit f ≡ true) (λ i y l w. good.fields (bound s i + y) (within fr i y l w))
      (λ i y l w. frame-fits-moved m (frame_at gr (bound t i + y)) (also.fields (bound t i + y) (within gr i y l w)))
