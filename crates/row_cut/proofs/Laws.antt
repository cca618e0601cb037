-- The rank, turn by turn and as a count; a row past the table; and a frame moved where the code finds its numbers.
use mathlib.Core.Path.{◌≡◌, refl, sym, ap, ◌∙◌}
use Prim.Native.Nat.{ℕ, zero, suc, ◌+◌, ◌≤◌}
use native.Mathlib.Numerals.{add-one}
use native.Mathlib.Omega.{arith}
use mathlib.Core.Bool.{Bool, true, false, cond}
use mathlib.Core.List.{List}
use Rattle.std.specs.List.{count_by}
use Rattle.std.proofs.lemmas.List.Sums.{sum_by_more}
use lib.ListN.{length, take, get_or-eq_default}
use Rattle.ir.specs.Numbers.{row_kind_of}
use Rattle.frames.specs.declared.Frame.{Frame}
use Rattle.frames.specs.Bytes.{byte}
use Rattle.law_moved.specs.Moves.{Moves}
use Rattle.law_moved.specs.Frames.{Spot, row_numbers, moved_in, moved_row}
use Rattle.law_cut.specs.Marks.{is_marked}
use Rattle.law_cut.specs.Cut.{rank, cut_row}
use Rattle.frames_numbers.specs.declared.Numbers.{Numbers}
use Rattle.frames_numbers.specs.Spots.{spots_of}

-- no row is before the first
pub rank-none : (marks : List Bool) → 0 ≡ rank marks 0
unfolding rank
rank-none marks = refl

-- one row more, by its mark
pub rank-more : (marks : List Bool) (i : ℕ) {n v : ℕ} {b : Bool} → n ≡ rank marks i → b ≡ is_marked marks i
    → v ≡ cond b 1 0 → n + v ≡ rank marks (i + 1)
unfolding rank
rank-more marks i e eb ev = rw (add-one, e, ev, eb)

-- a mark adds at most one
pub one-most : (b : Bool) {v : ℕ} → v ≡ cond b 1 0 → v ≤ 1
one-most true e = omega arith
one-most false e = omega arith

-- a row past the table has no mark
pub cut-past : (marks : List Bool) (k : ℕ) → length marks ≤ k → 0 ≡ cut_row marks k
cut-past marks k h = sym (ap (λ (b : Bool). cond b (rank marks k) 0) (get_or-eq_default marks false {n = k} h))

-- the rank is how many of the marks before it are set
pub rank_counts : (marks : List Bool) (k : ℕ) → k ≤ length marks → count_by (λ b. b) (take k marks) ≡ rank marks k
unfolding rank
rank_counts marks zero h = refl
rank_counts marks (suc k) h =
    rw (← add-one k, sum_by_more (λ b. cond b 1 0) marks k false (omega arith), rank_counts marks k (omega arith))

-- a row's frame is moved in the places that the code found
pub moved-row : (m : Moves) (f : Frame) {n : Numbers} → spots_of n ≡ row_numbers (row_kind_of (byte f 1)) f
    → {x : Numbers} → n ≡ x → moved_in m (spots_of x) f ≡ moved_row m f
unfolding moved_row
moved-row m f e q = ap (λ (l : List Spot). moved_in m l f) (ap spots_of (sym q) ∙ e)
