-- Parts of one owner: a frame outside its range passes, and one inside passes exactly when it is earlier than the
-- owner; so the lowest that fails is found by looking at the range alone.
use Rattle.std.specs.Prelude.{Option, Some, None}
use Rattle.std.specs.Option.{MatchOption}
use Prim.Native.Nat.{ℕ, ◌≤◌, ◌<◌, zero-le}
use native.Mathlib.Decide.{dec_lt}
use native.Mathlib.Omega.{arith}
use mathlib.Core.Path.{◌≡◌, refl, sym, ap, ◌∙◌}
use mathlib.Core.Bool.{Bool, true, false, and-false}
use mathlib.Core.List.{List}
use mathlib.Core.Logic.{◌⊎◌, inl, inr}
use lib.Dec.{leb, ltb}
use borrow.Author.Tests.{lt-ltb, le-ltb, le-leb, lt-leb}
use Rattle.scan.specs.Lowest.{lowest, all_below}
use Rattle.scan.proofs.Laws.{by-test, lowest-all, at-found, none-all}
use Rattle.frames.specs.declared.Frame.{Frame}
use Rattle.frames.specs.Bytes.{frame_at, frame_count}
use Rattle.archive.specs.declared.Owner.{Owner}
use Rattle.archive.specs.declared.Held.{Held}
use Rattle.archive.specs.declared.Held.TheVariants.{Parts}
use Rattle.archive.specs.declared.Held.TheVariants as He
use Rattle.archive.specs.Starts.{starts_of}
use Rattle.archive.specs.Parts.{is_struct, is_compose, held_by, is_early, early_in}
use Rattle.archive.specs.ForProofs.{held_to}
use Rattle.archive.proofs.Ranks.{begins}

module _ (fr : List ℕ) (from to : ℕ) (owner : Owner) where
  abbrev early : ℕ → Bool
  early = early_in fr (Parts from to owner)

  -- outside the range
  pub outside : (k : ℕ) → (k < from) ⊎ (to ≤ k) → early_in fr (Parts from to owner) k ≡ true
  outside k (inl l) = rw (lt-leb from k l)
  outside k (inr l) = rw (le-ltb k to l, and-false)

  -- inside it
  pub inside : (k : ℕ) → from ≤ k → k < to → early_in fr (Parts from to owner) k ≡ is_early owner (frame_at fr k)
  inside k l m = rw (le-leb from k l, lt-ltb k to m)

  -- none before the range
  pub none_before : lowest (early_in fr (Parts from to owner)) from ≡ None
  none_before = lowest-all early from (λ k l. outside k (inl l))

  -- none up to the end of the range: none at all
  pub none_after : (k n : ℕ) → lowest (early_in fr (Parts from to owner)) k ≡ None → to ≤ k
      → None ≡ lowest (early_in fr (Parts from to owner)) n
  none_after k n none l = sym (lowest-all early n (λ j m. go j (dec_lt j k)))
    where
      go : (j : ℕ) → Dec (j < k) → early j ≡ true
      go j (yes lt) = none-all early k j none lt
      go j (no nlt) = outside j (inr (omega arith))

  -- each is early up to m: each frame below m passes
  passed : (m : ℕ) → m ≤ to → ((k : ℕ) → from ≤ k → k < m → is_early owner (frame_at fr k) ≡ true) → (k : ℕ) → k < m
      → early k ≡ true
  passed m w h k l = go (dec_lt k from)
    where
      go : Dec (k < from) → early k ≡ true
      go (yes below) = outside k (inl below)
      go (no past) = inside k (omega arith) (omega arith) ∙ h k (omega arith) l

  -- the first in the range that is not early, else none, is the lowest that fails
  pub first_in : (n : ℕ) (r : Option ℕ) → to ≤ n
      → MatchOption r ((k : ℕ) → from ≤ k → k < to → is_early owner (frame_at fr k) ≡ true)
      (λ i. (from ≤ i) × (i < to) × (is_early owner (frame_at fr i) ≡ false)
      × ((k : ℕ) → from ≤ k → k < i → is_early owner (frame_at fr k) ≡ true))
      → r ≡ lowest (early_in fr (Parts from to owner)) n
  first_in n None w h = sym (lowest-all early n (λ k l. go k (dec_lt k to)))
    where
      go : (k : ℕ) → Dec (k < to) → early k ≡ true
      go k (yes m) = passed to (omega arith) h k m
      go k (no m) = outside k (inr (omega arith))
  first_in n (Some i) w h =
      let below : i < to = h.1 in
      sym (at-found early n i (record {
        inside = omega arith;
        fails = inside i h.0 h.1 ∙ h.2;
        before = passed i (omega arith) h.3;
      }))

-- a frame that holds nothing
pub none-held : (fr : List ℕ) (n : ℕ) → None ≡ lowest (early_in fr He.Nothing) n
none-held fr n = sym (lowest-all (early_in fr He.Nothing) n (λ k l. refl))

-- with no owner looked at yet nothing fails
pub no-owner : (ok : ℕ → ℕ → Bool) (n : ℕ) → None ≡ lowest (λ (k : ℕ). all_below (λ (o : ℕ). ok o k) 0) n
unfolding all_below
no-owner ok n = sym (lowest-all (λ (k : ℕ). true) n (λ k l. refl))

-- starts are within the file
pub starts-small : (fr : List ℕ) (m : ℕ) → frame_count fr ≤ m → ((starts_of fr).members ≤ m)
    × ((starts_of fr).components ≤ m)
unfolding starts_of
starts-small fr m l = (omega (arith, (begins fr 512).within), omega (arith, (begins fr 1280).within))

-- the parts that a frame holds lie within the file
pub held-within : (fr : List ℕ) (o : ℕ) (f : Frame) → held_to (held_by (starts_of fr) o f) ≤ frame_count fr
unfolding starts_of
held-within fr o f =
    by-test (λ (h : Held). held_to h ≤ frame_count fr) (is_struct f) (λ _. omega (arith, (begins fr 769).within))
    (λ _. by-test (λ (h : Held). held_to h ≤ frame_count fr) (is_compose f) (λ _. omega arith) (λ _. zero-le))
