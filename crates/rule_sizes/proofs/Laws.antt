-- Measures taken in order: an earlier type's is its own. A table of them keeps what is put there.
use Prim.Native.Nat.{ℕ, zero, suc, ◌+◌, ◌*◌, ◌≤◌, ◌<◌}
use native.Mathlib.Decide.{dec_lt}
use native.Mathlib.Omega.{arith}
use mathlib.Core.Path.{◌≡◌, refl, sym, ◌∙◌}
use mathlib.Core.Bool.{true, false}
use mathlib.Core.List.{List}
use lib.ListN.{get_or, replicate, get_or-eq_default}
use borrow.Author.Tests.{lt-ltb, le-ltb}
use Rattle.ir.specs.declared.TypeNumber.{TypeNumber}
use Rattle.frames.specs.declared.Frame.{Frame}
use Rattle.frames.specs.Bytes.{frame_count, frame_at, put_frame}
use Rattle.frames.proofs.Put.{put_same, put_other}
use Rattle.frames.proofs.ReadBack.{half_back, word_back}
use Rattle.archive.specs.declared.Starts.{Starts}
use Rattle.rule.specs.InOrder.{in_order}
use Rattle.rule.proofs.InOrder.{in-order-length, in-order-at}
use Rattle.rule_sizes.specs.declared.Alignment.TheVariants.{Two, Four, Eight, Sixteen}
use Rattle.rule_sizes.specs.declared.SizeFault.TheVariants.{Unmeasured, Misplaced, Huge}
use Rattle.rule_sizes.specs.declared.Measure.{Measure}
use Rattle.rule_sizes.specs.declared.Measure.TheVariants.{Fills, Faulty}
use Rattle.rule_sizes.specs.Sizes.{next, look, measures, measure_in, measure_frame}
use Rattle.rule_sizes.specs.Sizes.{measure_of}
use Rattle.rule_sizes.specs.ForProofs.{Held, Known}

-- an earlier type's measure is its own
pub look-earlier : (fr : List ℕ) (s : Starts) (n b : TypeNumber) → b.0 < n.0
    → measure_in fr s b ≡ look (measures fr s n.0) b
unfolding measures measure_in
look-earlier fr s n b h = sym (in-order-at (next fr s) (Faulty Unmeasured b) n.0 b.0 h)

-- A TABLE

-- a measure's frame reads as the measure
pub measure-back : (m : Measure) → measure_of (measure_frame m) ≡ m
unfolding measure_of
measure-back (Fills Two z) = rw (word_back z)
measure-back (Fills Four z) = rw (word_back z)
measure-back (Fills Eight z) = rw (word_back z)
measure-back (Fills Sixteen z) = rw (word_back z)
measure-back (Faulty Unmeasured p) = rw (half_back p.0)
measure-back (Faulty Misplaced p) = rw (half_back p.0)
measure-back (Faulty Huge p) = rw (half_back p.0)

dec_nat : (a b : ℕ) → Dec (a ≡ b)
dec_nat a b = go (dec_lt a b) (dec_lt b a)
  where
    go : Dec (a < b) → Dec (b < a) → Dec (a ≡ b)
    go (yes l) r = no (λ e. omega arith)
    go (no l) (yes r) = no (λ e. omega arith)
    go (no l) (no r) = yes (omega arith)

put-none : (s : List ℕ) (k : ℕ) (f : Frame) → frame_count s ≤ k → put_frame s k f ≡ s
unfolding put_frame
put-none s k f h = rw (le-ltb k (frame_count s) h)

-- a table with one measure more
pub known-put : (f : TypeNumber → Measure) (t : List ℕ) (n : TypeNumber) (m : Measure) → Known f t → m ≡ f n
    → Known f (put_frame t n.0 (measure_frame m))
known-put f t n m k e j = go (dec_nat j n.0) (dec_lt n.0 (frame_count t))
  where
    go : Dec (j ≡ n.0) → Dec (n.0 < frame_count t) → Held f j (frame_at (put_frame t n.0 (measure_frame m)) j)
    go (yes q) (yes l) h = rw (q, put_same t n.0 (measure_frame m) l) (measure-back m ∙ e)
    go (yes q) (no l) h =
        rw (put-none t n.0 (measure_frame m) (omega arith))
        (k j (rw (put-none t n.0 (measure_frame m) (omega arith)) at h))
    go (no q) l h = rw (put_other t n.0 (measure_frame m) j q)
        (k j (rw (put_other t n.0 (measure_frame m) j q) at h))

zeros : (n i : ℕ) → ◌≡◌ {A = ℕ} (get_or (replicate n 0) i 0) 0
zeros zero i = refl
zeros (suc n) zero = refl
zeros (suc n) (suc i) = zeros n i

zero-at : (n j : ℕ) → (frame_at (replicate n 0) j).b0 ≡ 0
unfolding frame_at
zero-at n j = go (dec_lt j (frame_count (replicate n 0)))
  where
    go : Dec (j < frame_count (replicate n 0)) → (frame_at (replicate n 0) j).b0 ≡ 0
    go (yes l) = rw (lt-ltb j (frame_count (replicate n 0)) l) (zeros n (16 * j + 0))
    go (no l) = rw (le-ltb j (frame_count (replicate n 0)) (omega arith))

never : {A : Type 0} → true ≡ false → A
never z = let q : ◌≡◌ {A = ℕ} 0 1 = cc in absurd (omega arith)

-- a table of zeros
pub known-none : (f : TypeNumber → Measure) (n : ℕ) → Known f (replicate n 0)
known-none f n j h = never (rw (zero-at n j) at h)
