-- WHERE AN UNKNOWN KIND MAY STAND, for 49: in an accepted file only types and rows have one. An unknown family and an
-- item's unknown kind are number 4, a member's and a component's kind that is not 0 number 5.
use Prim.Native.Nat.{ℕ, ◌≤◌, ◌<◌}
use native.Mathlib.Omega.{arith}
use mathlib.Core.Path.{◌≡◌, sym, ap, ◌∙◌}
use mathlib.Core.Bool.{true, not, ◌&&◌, ◌||◌}
use mathlib.Core.List.{List}
use mathlib.Core.Logic.{⊎_elim}
use lib.Dec.{leb, ltb, eqb}
use borrow.Author.Tests.{eqb-true, ltb-true, leb-true}
use Rattle.scan.proofs.Laws.{and_first, and_second}
use Rattle.ir.specs.declared.ItemKind.TheVariants as Ik
use Rattle.ir.specs.Numbers.{item_kind_of}
use Rattle.ir.proofs.Numbered.{unknown-item}
use Rattle.frames.specs.declared.Frame.{Frame}
use Rattle.frames.specs.Bytes.{byte, frame_at, frame_count}
use Rattle.frames.specs.Forms.{fields_fit}
use Rattle.frames.proofs.Families.{fit-member, fit-component}
use Rattle.archive.specs.Order.{is_known, order_ok}
use Rattle.law_rows.proofs.Good.{Good}

-- frame f is of a family 1 to 5, and of a kind that is known where it is no type and no row
pub record KindKnown (f : Frame) : Type 0 where
  pub low : 1 ≤ byte f 0
  pub high : byte f 0 ≤ 5
  pub item : byte f 0 ≡ 3 → item_kind_of (byte f 1) ≡ Ik.Unknown → ⊥
  pub member : byte f 0 ≡ 2 → byte f 1 ≡ 0
  pub component : byte f 0 ≡ 5 → byte f 1 ≡ 0

known-kind : (f : Frame) → is_known f ≡ true → fields_fit f ≡ true → KindKnown f
known-kind f known fit =
    let a = and_first (leb 1 (byte f 0) && ltb (byte f 0) 6) _ known in
    let b = and_second (leb 1 (byte f 0) && ltb (byte f 0) 6) _ known in
    record {
      low = leb-true _ _ (and_first (leb 1 (byte f 0)) _ a);
      high = omega (arith, ltb-true (byte f 0) 6 (and_second (leb 1 (byte f 0)) _ a));
      item = λ e u.
          let c : (leb 1 (byte f 1) && ltb (byte f 1) 9) ≡ true =
          ap (λ (x : ℕ). not (eqb x 3) || (leb 1 (byte f 1) && ltb (byte f 1) 9)) (sym e) ∙ b in
          let l = leb-true 1 (byte f 1) (and_first (leb 1 (byte f 1)) _ c) in
          let h = ltb-true (byte f 1) 9 (and_second (leb 1 (byte f 1)) _ c) in
          ⊎_elim (λ z. omega arith) (λ z. omega arith) ((unknown-item (byte f 1)).0 u);
      member = λ e. eqb-true _ _ (and_first (eqb (byte f 1) 0) _ (sym (fit-member f e) ∙ fit));
      component = λ e. eqb-true _ _ (and_first (eqb (byte f 1) 0) _ (sym (fit-component f e) ∙ fit));
    }

-- every frame of an accepted file
pub kinds-known : (fr : List ℕ) → Good fr → (k : ℕ) → k < frame_count fr → KindKnown (frame_at fr k)
unfolding order_ok
kinds-known fr good k l =
    known-kind (frame_at fr k) (and_first (is_known (frame_at fr k)) _ (good.order k l)) (good.fields k l)
