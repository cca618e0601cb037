-- What holds in a file whose frames pass checks 4 to 6: ranks rise, so a family is the frames from its start up to the
-- next start; what each frame names is there and earlier; each part is earlier than each of its owners.
use Prim.Native.Nat.{ℕ, zero, suc, ◌+◌, ◌-◌, ◌≤◌, ◌<◌}
use native.Mathlib.Decide.{dec_le}
use native.Mathlib.Nat.{le_of_suc-le-suc, eq-or-lt_of_le}
use native.Mathlib.Omega.{arith}
use mathlib.Core.Path.{◌≡◌, refl, sym, ap, ◌∙◌}
use mathlib.Core.Bool.{Bool, true, false, not, ◌&&◌, ◌||◌}
use mathlib.Core.List.{List, [], ◌∷◌}
use mathlib.Core.Logic.{◌↔◌, ⊎_elim}
use lib.Dec.{leb, ltb, eqb, eqb-suc-zero}
use borrow.Author.Tests.{ltb-true, ltb-false, eqb-true, leb-true}
use Rattle.scan.specs.Lowest.{lowest, all_below}
use Rattle.scan.proofs.Laws.{and_first, and_second, all-each}
use Rattle.frames.specs.declared.Frame.{Frame}
use Rattle.frames.specs.Bytes.{frame_at, frame_count}
use Rattle.frames.specs.Forms.{type_of, member_of, item_of, row_of, component_of}
use Rattle.archive.specs.declared.Starts.{Starts}
use Rattle.archive.specs.declared.Owner.{Owner}
use Rattle.archive.specs.declared.Held.{Held}
use Rattle.archive.specs.declared.Held.TheVariants.{Parts}
use Rattle.archive.specs.Order.{rank_at, is_known, is_once, follows, order_ok}
use Rattle.archive.specs.Starts.{start, starts_of}
use Rattle.archive.specs.Names.{is_type, is_row, type_form_names, item_names, row_form_names, names_by, names_of}
use Rattle.archive.specs.Names.{names_ok}
use Rattle.archive.specs.Parts.{held_by, is_early, early_in, early_for, early_ok}
use Rattle.archive.specs.Checks.{field_ok, index_ok}
use Rattle.archive.proofs.Ranks.{begins}
use Rattle.archive.proofs.Owners.{inside}
use Rattle.archive.proofs.Checked.{Holds}

follows-le : (q r : ℕ) → follows q r ≡ true → q ≤ r
follows-le q r e = go (ltb q r) (eqb q r) refl refl e
  where
    go : (a b : Bool) → ltb q r ≡ a → eqb q r ≡ b → (a || (b && not (is_once r))) ≡ true → q ≤ r
    go true b ea eb h = omega (arith, ltb-true q r ea)
    go false true ea eb h = omega (arith, eqb-true q r eb)
    go false false ea eb h = absurd (let z : ◌≡◌ {A = ℕ} 0 1 = cc in omega arith)

module _ (fr : List ℕ) (ordered : Holds order_ok fr) where
  step : (k : ℕ) → suc k < frame_count fr → rank_at fr k ≤ rank_at fr (suc k)
  unfolding order_ok
  step k h =
      let p : suc k - 1 ≡ k = omega arith in
      let e = and_second (is_known (frame_at fr (suc k))) _ (ordered (suc k) h) in
      follows-le (rank_at fr k) (rank_at fr (suc k)) (rw (eqb-suc-zero k, p) at e)

  -- ranks rise
  pub rise : (j k : ℕ) → j ≤ k → k < frame_count fr → rank_at fr j ≤ rank_at fr k
  rise j zero l h = let z : j ≡ 0 = omega arith in rw z (omega arith)
  rise j (suc k) l h =
      ⊎_elim (λ e. rw e (omega arith)) (λ lt. omega (arith, rise j k (le_of_suc-le-suc lt) (omega arith), step k h))
      (eq-or-lt_of_le l)

  -- a frame is of a rank or a higher one exactly from the start of that rank on
  pub from_start : (rank k : ℕ) → k < frame_count fr → (start fr rank ≤ k) ↔ (rank ≤ rank_at fr k)
  from_start rank k h = (
    λ l. omega (arith, (begins fr rank).there (omega arith), rise (start fr rank) k l h),
    λ l. go (dec_le (start fr rank) k) l,
  )
    where
      go : Dec (start fr rank ≤ k) → rank ≤ rank_at fr k → start fr rank ≤ k
      go (yes y) l = y
      go (no n) l = absurd (omega (arith, (begins fr rank).lower k (omega arith)))

module _ (fr : List ℕ) (indexed : Holds index_ok fr) (k : ℕ) (h : k < frame_count fr) where
  named : names_of (starts_of fr) k (frame_at fr k) ≡ true
  unfolding index_ok names_ok
  named = and_first (names_ok fr k) (early_ok fr k) (indexed k h)

  of-family : (family : ℕ) → (frame_at fr k).b0 ≡ family → names_by family (starts_of fr) k (frame_at fr k) ≡ true
  of-family family e = ap (λ (b : ℕ). names_by b (starts_of fr) k (frame_at fr k)) (sym e) ∙ named

  -- what a frame of each family names is there, and earlier where that is asked
  pub type-names : (frame_at fr k).b0 ≡ 1
      → type_form_names (starts_of fr) (record { 0 = k }) (type_of (frame_at fr k)) ≡ true
  type-names e = of-family 1 e

  pub member-names : (frame_at fr k).b0 ≡ 2 → is_type (starts_of fr) (member_of (frame_at fr k)).ty ≡ true
  member-names e = of-family 2 e

  pub item-names : (frame_at fr k).b0 ≡ 3 → item_names (starts_of fr) (item_of (frame_at fr k)) ≡ true
  item-names e = of-family 3 e

  pub row-names : (frame_at fr k).b0 ≡ 4
      → row_form_names (starts_of fr) (record { 0 = k - (starts_of fr).rows }) (row_of (frame_at fr k)) ≡ true
  row-names e = of-family 4 e

  pub component-names : (frame_at fr k).b0 ≡ 5 → is_row (starts_of fr) (component_of (frame_at fr k)) ≡ true
  component-names e = of-family 5 e

  -- a part is earlier than each of its owners
  pub part-early : (o from to : ℕ) (owner : Owner) → o < frame_count fr → held_by (starts_of fr) o (frame_at fr o)
      ≡ Parts from to owner
      → from ≤ k → k < to → is_early owner (frame_at fr k) ≡ true
  unfolding index_ok early_ok
  part-early o from to owner l holds a b =
      let early = all-each (λ (j : ℕ). early_for fr j k) (frame_count fr) o
      (and_second (names_ok fr k) (early_ok fr k) (indexed k h)) l in
      sym (inside fr from to owner k a b) ∙ ap (λ (x : Held). early_in fr x k) (sym holds) ∙ early
