-- A file made frame by frame: its frames are those, and a family begins where the frames before are of a lower rank and
-- the one there is not.
use Prim.Native.Nat.{ℕ, ◌/◌, ◌≤◌, ◌<◌}
use native.Mathlib.Decide.{dec_lt}
use native.Mathlib.Omega.{arith}
use mathlib.Core.Path.{◌≡◌, sym, ap, ◌∙◌}
use mathlib.Core.List.{List, [], append-nil}
use lib.ListN.{length, get_or}
use Rattle.frames.specs.declared.Frame.{Frame}
use Rattle.frames.specs.Bytes.{frame_at, frame_count, zero_frame}
use Rattle.archive.specs.declared.Starts.{Starts}
use Rattle.archive.specs.Starts.{start, starts_of}
use Rattle.archive.proofs.Ranks.{Begins, begins}
use Rattle.rule_answers.specs.Outputs.{frames_bytes}
use Rattle.law_answers.proofs.Bytes.{bytes-length}
use Rattle.law_answers.proofs.Placed.{frame-at-list}

pub file-count : (l : List Frame) → frame_count (frames_bytes l) ≡ length l
file-count l = ap (λ (n : ℕ). n / 16) (bytes-length l) ∙ omega arith

pub file-at : (l : List Frame) (i : ℕ) → i < length l → frame_at (frames_bytes l) i ≡ get_or l i zero_frame
file-at l i h = ap (λ (b : List ℕ). frame_at b i) (sym (append-nil (frames_bytes l))) ∙ frame-at-list l [] i h

-- a start is where it is found to be
pub start_is : (fr : List ℕ) (rank p : ℕ) → Begins fr rank p → start fr rank ≡ p
start_is fr rank p b = go (dec_lt (start fr rank) p) (dec_lt p (start fr rank))
  where
    q : Begins fr rank (start fr rank)
    q = begins fr rank

    go : Dec (start fr rank < p) → Dec (p < start fr rank) → start fr rank ≡ p
    go (yes l) x = let u = b.lower (start fr rank) l in let v = b.within in let w = q.there (omega arith) in
        absurd (omega arith)
    go (no l) (yes x) = let u = q.lower p x in let v = q.within in let w = b.there (omega arith) in
        absurd (omega arith)
    go (no l) (no x) = omega arith

-- starts rise with their ranks
pub starts-rise : (fr : List ℕ) (low high : ℕ) → low ≤ high → start fr low ≤ start fr high
starts-rise fr low high l = go (dec_lt (start fr high) (start fr low))
  where
    go : Dec (start fr high < start fr low) → start fr low ≤ start fr high
    go (yes h) = let u = (begins fr low).lower (start fr high) h in let v = (begins fr low).within in
        let w = (begins fr high).there (omega arith) in absurd (omega arith)
    go (no h) = omega arith

-- each family begins at or after the one before it
pub record Ordered (s : Starts) : Type 0 where
  pub constants : s.members ≤ s.constants
  pub overrides : s.constants ≤ s.overrides
  pub globals : s.overrides ≤ s.globals
  pub arguments : s.globals ≤ s.arguments
  pub locals : s.arguments ≤ s.locals
  pub functions : s.locals ≤ s.functions
  pub intersections : s.functions ≤ s.intersections
  pub vertex-returns : s.intersections ≤ s.vertex_returns
  pub rows : s.vertex_returns ≤ s.rows
  pub components : s.rows ≤ s.components
  pub end : s.components ≤ s.end

pub starts-ordered : (fr : List ℕ) → Ordered (starts_of fr)
unfolding starts_of
starts-ordered fr =
    record {
      constants = starts-rise fr 512 769 (omega arith);
      overrides = starts-rise fr 769 770 (omega arith);
      globals = starts-rise fr 770 771 (omega arith);
      arguments = starts-rise fr 771 772 (omega arith);
      locals = starts-rise fr 772 773 (omega arith);
      functions = starts-rise fr 773 774 (omega arith);
      intersections = starts-rise fr 774 775 (omega arith);
      vertex-returns = starts-rise fr 775 776 (omega arith);
      rows = starts-rise fr 776 1024 (omega arith);
      components = starts-rise fr 1024 1280 (omega arith);
      end = (begins fr 1280).within;
    }
