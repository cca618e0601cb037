-- Checks 4 to 6, both ways: each outcome is given exactly when its check fails lowest there and all checks before it
-- hold of every frame.
-- By what each search for the lowest found.
use Rattle.std.specs.Prelude.{ℕ, Option, Some, None, Ok, Err}
use Prim.Native.Nat.{ℕ, ◌≤◌, ◌<◌}
use native.Mathlib.Omega.{arith}
use mathlib.Core.Path.{◌≡◌, refl, sym, ap, ◌∙◌}
use mathlib.Core.Bool.{Bool, true}
use mathlib.Core.List.{List}
use mathlib.Core.Logic.{◌↔◌}
use borrow.Author.Tests.{le-ltb}
use Rattle.scan.specs.Lowest.{lowest}
use Rattle.scan.proofs.Laws.{LowestAt, lowest-all, none-all, found_at, at-found}
use Rattle.answers.specs.Outcome.{Outcome}
use Rattle.answers.specs.declared.FileError.TheVariants.{Long, Torn, Short, Order, Field, Index}
use Rattle.answers.specs.Limit.{max_frames}
use Rattle.frames.specs.Bytes.{frame_count}
use Rattle.archive.specs.Order.{order_ok}
use Rattle.archive.specs.Checks.{field_ok, index_ok, unless, check_frames}

-- a test holds of every frame
abbrev pub Holds : (List ℕ → ℕ → Bool) → List ℕ → Type 0
Holds ok fr = (k : ℕ) → k < frame_count fr → ok fr k ≡ true

-- a test fails at frame p, and holds of every frame before it
abbrev pub FailsAt : (List ℕ → ℕ → Bool) → List ℕ → ℕ → Type 0
FailsAt ok fr p = LowestAt (ok fr) (frame_count fr) p

never : {X : Type 0} → ◌≡◌ {A = ℕ} 0 1 → X
never z = absurd (omega arith)

module _ (fr : List ℕ) (few : frame_count fr ≤ max_frames) where
  -- the four outcomes of checks 4 to 6, and what each says
  pub by-check : (P : Outcome → Type 0) → ((p : ℕ) → FailsAt order_ok fr p → P (Err (Order p)))
      → ((p : ℕ) → Holds order_ok fr → FailsAt field_ok fr p → P (Err (Field p)))
      → ((p : ℕ) → Holds order_ok fr → Holds field_ok fr → FailsAt index_ok fr p → P (Err (Index p)))
      → (Holds order_ok fr → Holds field_ok fr → Holds index_ok fr → P (Ok (frame_count fr)))
      → P (check_frames fr)
  unfolding check_frames
  by-check P order field index accepted =
      rw (le-ltb max_frames (frame_count fr) few)
      (one (lowest (order_ok fr) (frame_count fr)) (lowest (field_ok fr) (frame_count fr))
      (lowest (index_ok fr) (frame_count fr)) refl refl refl)
    where
      one : (f g h : Option ℕ) → lowest (order_ok fr) (frame_count fr) ≡ f → lowest (field_ok fr) (frame_count fr) ≡ g
          → lowest (index_ok fr) (frame_count fr) ≡ h
          → P (unless Order f (unless Field g (unless Index h (Ok (frame_count fr)))))
      one (Some p) g h e d b = order p (found_at (order_ok fr) (frame_count fr) p e)
      one None (Some p) h e d b = field p (λ k. none-all (order_ok fr) (frame_count fr) k e)
          (found_at (field_ok fr) (frame_count fr) p d)
      one None None (Some p) e d b =
          index p (λ k. none-all (order_ok fr) (frame_count fr) k e) (λ k. none-all (field_ok fr) (frame_count fr) k d)
          (found_at (index_ok fr) (frame_count fr) p b)
      one None None None e d b =
          accepted (λ k. none-all (order_ok fr) (frame_count fr) k e) (λ k. none-all (field_ok fr) (frame_count fr) k d)
          (λ k. none-all (index_ok fr) (frame_count fr) k b)

  -- number 4 at p: exactly when p is the lowest frame out of order
  pub order-when : (p : ℕ) → (check_frames fr ≡ Err (Order p)) ↔ FailsAt order_ok fr p
  unfolding check_frames
  order-when p = (
    by-check (λ r. r ≡ Err (Order p) → FailsAt order_ok fr p) (λ j a e. let q : j ≡ p = cc in rw q at a)
        (λ j h a e. never (cc)) (λ j h g a e. never (cc)) (λ h g i e. never (cc)),
    λ a. rw (le-ltb max_frames (frame_count fr) few, at-found (order_ok fr) (frame_count fr) p a),
  )

  -- number 5 at p: exactly when all frames are in order, and p is the lowest with a byte outside its values
  pub field-when : (p : ℕ) → (check_frames fr ≡ Err (Field p)) ↔ (Holds order_ok fr × FailsAt field_ok fr p)
  unfolding check_frames
  field-when p = (
    by-check (λ r. r ≡ Err (Field p) → Holds order_ok fr × FailsAt field_ok fr p) (λ j a e. never (cc))
        (λ j h a e. let q : j ≡ p = cc in (h, rw q at a)) (λ j h g a e. never (cc)) (λ h g i e. never (cc)),
    λ a. rw (
      le-ltb max_frames (frame_count fr) few,
      lowest-all (order_ok fr) (frame_count fr) a.0,
      at-found (field_ok fr) (frame_count fr) p a.1,
    ),
  )

  -- number 6 at p: exactly when checks 4 and 5 hold of all frames, and p is the lowest that names wrongly
  pub index-when : (p : ℕ) → (check_frames fr ≡ Err (Index p))
      ↔ (Holds order_ok fr × Holds field_ok fr × FailsAt index_ok fr p)
  unfolding check_frames
  index-when p = (
    by-check (λ r. r ≡ Err (Index p) → Holds order_ok fr × Holds field_ok fr × FailsAt index_ok fr p) (λ j a e. never
        (cc))
        (λ j h a e. never (cc)) (λ j h g a e. let q : j ≡ p = cc in (h, g, rw q at a)) (λ h g i e. never (cc)),
    λ a. rw (
      le-ltb max_frames (frame_count fr) few,
      lowest-all (order_ok fr) (frame_count fr) a.0,
      lowest-all (field_ok fr) (frame_count fr) a.1,
      at-found (index_ok fr) (frame_count fr) p a.2,
    ),
  )

  -- accepted: exactly when all three hold of all frames
  pub accepted-when : (n : ℕ)
      → (check_frames fr ≡ Ok n)
      ↔ ((n ≡ frame_count fr) × Holds order_ok fr × Holds field_ok fr × Holds index_ok fr)
  unfolding check_frames
  accepted-when n = (
    by-check (λ r. r ≡ Ok n → (n ≡ frame_count fr) × Holds order_ok fr × Holds field_ok fr × Holds index_ok fr)
        (λ j a e. never (cc)) (λ j h a e. never (cc)) (λ j h g a e. never (cc)) (λ h g i e. ((cc), h, g, i)),
    λ a. rw (
      le-ltb max_frames (frame_count fr) few,
      lowest-all (order_ok fr) (frame_count fr) a.1,
      lowest-all (field_ok fr) (frame_count fr) a.2,
      lowest-all (index_ok fr) (frame_count fr) a.3,
      ← a.0,
    ),
  )
