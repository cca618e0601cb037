-- A file whose frames pass checks 4 to 6, and the family and kind of the frames that numbers and ranges lead to: ranks
-- rise, so the frames from one start up to the next are of one family, and items of one kind.
use Rattle.std.specs.Prelude.{Ok}
use Prim.Native.Nat.{ℕ, ◌+◌, ◌*◌, ◌≤◌, ◌<◌}
use native.Mathlib.Omega.{arith}
use mathlib.Core.Path.{◌≡◌, refl, ap}
use mathlib.Core.Bool.{Bool, true, false, cond, not, ◌&&◌, ◌||◌}
use mathlib.Core.List.{List}
use mathlib.Core.Logic.{◌↔◌}
use lib.Dec.{leb, ltb, eqb}
use borrow.Author.Tests.{eqb-true, eqb-false, ltb-true, leb-true}
use Rattle.scan.proofs.Laws.{and_first, and_second}
use Rattle.frames.specs.declared.Frame.{Frame}
use Rattle.frames.specs.Bytes.{byte, frame_at, frame_count}
use Rattle.archive.specs.Order.{rank_of, is_known, order_ok}
use Rattle.answers.specs.Limit.{max_frames}
use Rattle.archive.specs.Checks.{field_ok, index_ok, check_frames}
use Rattle.archive.specs.Starts.{start}
use Rattle.archive.proofs.Checked.{Holds, accepted-when}
use Rattle.archive.proofs.Ranks.{begins}
use Rattle.archive.proofs.Files.{from_start}

-- the frames of an accepted file: every frame meets checks 4, 5 and 6 (`Accepts`, law_file/proofs/Laws.antt)
pub record Good (fr : List ℕ) : Type 0 where
  pub order : Holds order_ok fr
  pub fields : Holds field_ok fr
  pub index : Holds index_ok fr

-- exactly these are what checks 4 to 6 accept
pub good-when : (fr : List ℕ) → frame_count fr ≤ max_frames → (check_frames fr ≡ Ok (frame_count fr)) ↔ Good fr
good-when fr few = (
  λ e. let a = (accepted-when fr few (frame_count fr)).0 e in record { order = a.1; fields = a.2; index = a.3 },
  λ good. (accepted-when fr few (frame_count fr)).1 (refl, good.order, good.fields, good.index),
)

-- frame k of a file is there, and is of a family
pub record OfFamily (fr : List ℕ) (family k : ℕ) : Type 0 where
  pub within : k < frame_count fr
  pub family-is : byte (frame_at fr k) 0 ≡ family

-- frame k of a file is there, and is an item of a kind
pub record IsItem (fr : List ℕ) (kind k : ℕ) : Type 0 where
  pub within : k < frame_count fr
  pub family-is : byte (frame_at fr k) 0 ≡ 3
  pub kind-is : byte (frame_at fr k) 1 ≡ kind

-- what a frame's rank says: of an item its kind, of every other frame its family
pub record RankOfItem (f : Frame) : Type 0 where
  pub is : f.b0 ≡ 3
  pub low : 1 ≤ f.b1
  pub high : f.b1 ≤ 8
  pub rank : rank_of f ≡ 768 + f.b1

pub record RankOfOther (f : Frame) : Type 0 where
  pub is-not : f.b0 ≡ 3 → ⊥
  pub low : 1 ≤ f.b0
  pub high : f.b0 ≤ 5
  pub rank : rank_of f ≡ 256 * f.b0

by_rank : (Q : Type 0) (f : Frame) → is_known f ≡ true → (RankOfItem f → Q) → (RankOfOther f → Q) → Q
by_rank Q f known item other = go (eqb f.b0 3) refl (and_first _ _ known)
    (and_second (leb 1 f.b0 && ltb f.b0 6) _ known)
  where
    go : (e : Bool) → eqb f.b0 3 ≡ e → (leb 1 f.b0 && ltb f.b0 6) ≡ true
        → (not e || (leb 1 f.b1 && ltb f.b1 9)) ≡ true → Q
    go true q a b =
        item (record {
          is = eqb-true _ _ q;
          low = leb-true _ _ (and_first _ _ b);
          high = omega (arith, ltb-true f.b1 9 (and_second (leb 1 f.b1) _ b));
          rank = ap (λ (c : Bool). cond c (768 + f.b1) (256 * f.b0)) q;
        })
    go false q a b =
        other (record {
          is-not = eqb-false _ _ q;
          low = leb-true _ _ (and_first _ _ a);
          high = omega (arith, ltb-true f.b0 6 (and_second (leb 1 f.b0) _ a));
          rank = ap (λ (c : Bool). cond c (768 + f.b1) (256 * f.b0)) q;
        })

module _ (fr : List ℕ) (good : Good fr) where
  known_at : (k : ℕ) → k < frame_count fr → is_known (frame_at fr k) ≡ true
  unfolding order_ok
  known_at k h = and_first (is_known (frame_at fr k)) _ (good.order k h)

  -- types begin the file
  pub type-at : (k : ℕ) → k < start fr 512 → OfFamily fr 1 k
  type-at k h =
      let w : k < frame_count fr = omega (arith, (begins fr 512).within) in
      let r = (begins fr 512).lower k h in
      record {
        within = w;
        family-is = by_rank _ (frame_at fr k) (known_at k w) (λ i. absurd (omega arith))
            (λ o. omega arith);
      }

  pub member-at : (k : ℕ) → start fr 512 ≤ k → k < start fr 769 → OfFamily fr 2 k
  member-at k l h =
      let w : k < frame_count fr = omega (arith, (begins fr 769).within) in
      let r = (begins fr 769).lower k h in
      let q = (from_start fr good.order 512 k w).0 l in
      record {
        within = w;
        family-is = by_rank _ (frame_at fr k) (known_at k w) (λ i. absurd (omega arith))
            (λ o. omega arith);
      }

  -- the items of kind j stand before those of the next kind, and those of the last kind before the rows
  pub item-at : (j k : ℕ) → 1 ≤ j → j ≤ 7 → start fr (768 + j) ≤ k → k < start fr (769 + j) → IsItem fr j k
  item-at j k a b l h =
      let w : k < frame_count fr = omega (arith, (begins fr (769 + j)).within) in
      let r = (begins fr (769 + j)).lower k h in
      let q = (from_start fr good.order (768 + j) k w).0 l in
      record {
        within = w;
        family-is = by_rank _ (frame_at fr k) (known_at k w) (λ i. i.is) (λ o. absurd (omega arith));
        kind-is = by_rank _ (frame_at fr k) (known_at k w) (λ i. omega arith) (λ o. absurd (omega arith));
      }

  pub last-item-at : (k : ℕ) → start fr 776 ≤ k → k < start fr 1024 → IsItem fr 8 k
  last-item-at k l h =
      let w : k < frame_count fr = omega (arith, (begins fr 1024).within) in
      let r = (begins fr 1024).lower k h in
      let q = (from_start fr good.order 776 k w).0 l in
      record {
        within = w;
        family-is = by_rank _ (frame_at fr k) (known_at k w) (λ i. i.is) (λ o. absurd (omega arith));
        kind-is = by_rank _ (frame_at fr k) (known_at k w) (λ i. omega arith) (λ o. absurd (omega arith));
      }

  pub row-at : (k : ℕ) → start fr 1024 ≤ k → k < start fr 1280 → OfFamily fr 4 k
  row-at k l h =
      let w : k < frame_count fr = omega (arith, (begins fr 1280).within) in
      let r = (begins fr 1280).lower k h in
      let q = (from_start fr good.order 1024 k w).0 l in
      record {
        within = w;
        family-is = by_rank _ (frame_at fr k) (known_at k w) (λ i. absurd (omega arith))
            (λ o. omega arith);
      }

  pub component-at : (k : ℕ) → start fr 1280 ≤ k → k < frame_count fr → OfFamily fr 5 k
  component-at k l w =
      let q = (from_start fr good.order 1280 k w).0 l in
      record {
        within = w;
        family-is = by_rank _ (frame_at fr k) (known_at k w) (λ i. absurd (omega arith))
            (λ o. omega arith);
      }
