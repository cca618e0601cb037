-- The frames of a join: where each frame of either file stands, and where the join's families begin.
use Prim.Native.Nat.{ℕ, zero, suc, ◌+◌, ◌-◌, ◌≤◌, ◌<◌}
use native.Mathlib.Decide.{dec_lt}
use native.Mathlib.Omega.{arith}
use mathlib.Core.Path.{◌≡◌, refl, sym, ◌∙◌, subst}
use mathlib.Core.List.{List}
use lib.ListN.{length}
use Rattle.frames.specs.declared.Frame.{Frame}
use Rattle.frames.specs.Bytes.{frame_at, frame_count}
use Rattle.archive.specs.declared.Starts.{Starts}
use Rattle.archive.specs.Order.{rank_of, rank_at}
use Rattle.archive.specs.Starts.{start, starts_of}
use Rattle.archive.proofs.Ranks.{begins}
use Rattle.archive.proofs.Files.{from_start}
use Rattle.law_rows.proofs.Good.{Good}
use Rattle.law_moved.specs.Moves.{Moves}
use Rattle.law_moved.specs.Frames.{moved_frame}
use Rattle.law_moved.proofs.Frames.{frame-family, frame-kind}
use Rattle.law_moved.proofs.Files.{file-count, file-at, start_is, Ordered, starts-ordered}
use Rattle.law_moved.proofs.Checked.{same_rank}
use Rattle.law_join.specs.Join.{bound, join_moves, join_frames, join_file}
use Rattle.law_join.proofs.Regrouped.{rises-far, regrouped-length, first-at, second_at, all-parts}

-- the bounds of a file's parts rise
pub rise : (s : Starts) → Ordered s → (i : ℕ) → bound s i ≤ bound s (suc i)
rise s o zero = omega arith
rise s o (suc zero) = o.constants
rise s o (suc (suc zero)) = o.overrides
rise s o (suc (suc (suc zero))) = o.globals
rise s o (suc (suc (suc (suc zero)))) = o.arguments
rise s o (suc (suc (suc (suc (suc zero))))) = o.locals
rise s o (suc (suc (suc (suc (suc (suc zero)))))) = o.functions
rise s o (suc (suc (suc (suc (suc (suc (suc zero))))))) = o.intersections
rise s o (suc (suc (suc (suc (suc (suc (suc (suc zero)))))))) = o.vertex-returns
rise s o (suc (suc (suc (suc (suc (suc (suc (suc (suc zero))))))))) = o.rows
rise s o (suc (suc (suc (suc (suc (suc (suc (suc (suc (suc zero)))))))))) = o.components
rise s o (suc (suc (suc (suc (suc (suc (suc (suc (suc (suc (suc zero))))))))))) = o.end
rise s o (suc (suc (suc (suc (suc (suc (suc (suc (suc (suc (suc (suc zero)))))))))))) = omega arith
rise s o (suc (suc (suc (suc (suc (suc (suc (suc (suc (suc (suc (suc (suc i))))))))))))) = omega arith

module _ (fr gr : List ℕ) where
  abbrev p : ℕ → ℕ
  p = bound (starts_of fr)

  abbrev q : ℕ → ℕ
  q = bound (starts_of gr)

  abbrev m : Moves
  m = join_moves (starts_of fr)

  abbrev second : ℕ → Frame
  second k = moved_frame m (frame_at gr k)

  p-rise : (i : ℕ) → p i ≤ p (suc i)
  p-rise = rise (starts_of fr) (starts-ordered fr)

  q-rise : (i : ℕ) → q i ≤ q (suc i)
  q-rise = rise (starts_of gr) (starts-ordered gr)

  frames-length : length (join_frames fr gr) ≡ (starts_of fr).end + (starts_of gr).end
  frames-length = regrouped-length (frame_at fr) second p q refl refl p-rise q-rise 12

  pub join-count : frame_count (join_file fr gr) ≡ (starts_of fr).end + (starts_of gr).end
  join-count = file-count (join_frames fr gr) ∙ frames-length

  -- WHERE THEY STAND: frame x of part i of the first, and of the second
  pub at_first : (i x : ℕ) → i < 12 → x < bound (starts_of fr) (suc i) - bound (starts_of fr) i
      → frame_at (join_file fr gr) (bound (starts_of fr) i + bound (starts_of gr) i + x)
      ≡ frame_at fr (bound (starts_of fr) i + x)
  at_first i x l w =
      let a = rises-far p p-rise (suc i) 12 l in let b = rises-far q q-rise (suc i) 12 l in let c = q-rise i in
      let d = frames-length in
      file-at (join_frames fr gr) (p i + q i + x) (omega arith)
      ∙ first-at (frame_at fr) second p q refl refl p-rise q-rise 12 i x l w

  pub at_second : (i x : ℕ) → i < 12 → x < bound (starts_of gr) (suc i) - bound (starts_of gr) i
      → frame_at (join_file fr gr) (bound (starts_of fr) (suc i) + bound (starts_of gr) i + x)
      ≡ moved_frame (join_moves (starts_of fr)) (frame_at gr (bound (starts_of gr) i + x))
  at_second i x l w =
      let a = rises-far p p-rise (suc i) 12 l in let b = rises-far q q-rise (suc i) 12 l in let d = frames-length in
      file-at (join_frames fr gr) (p (suc i) + q i + x) (omega arith)
      ∙ second_at (frame_at fr) second p q refl refl p-rise q-rise 12 i x l w

  -- what holds of each frame of each part at its place holds of all
  pub by_part : (P : ℕ → Frame → Type 0)
      → ((i x : ℕ) → i < 12 → x < bound (starts_of fr) (suc i) - bound (starts_of fr) i
      → P (bound (starts_of fr) i + bound (starts_of gr) i + x) (frame_at fr (bound (starts_of fr) i + x)))
      → ((i x : ℕ) → i < 12 → x < bound (starts_of gr) (suc i) - bound (starts_of gr) i
      → P (bound (starts_of fr) (suc i) + bound (starts_of gr) i + x)
      (moved_frame (join_moves (starts_of fr)) (frame_at gr (bound (starts_of gr) i + x))))
      → (k : ℕ) → k < frame_count (join_file fr gr) → P k (frame_at (join_file fr gr) k)
  by_part P f g k l =
      let d = frames-length in let c = join-count in
      subst (λ (z : Frame). P k z) (sym (file-at (join_frames fr gr) k (omega arith)))
      (all-parts (frame_at fr) second p q refl refl p-rise q-rise P 12 f g k (omega arith))

  -- a moved frame's rank is what it was
  pub moved-rank : (f : Frame) → rank_of (moved_frame (join_moves (starts_of fr)) f) ≡ rank_of f
  moved-rank f = same_rank f (moved_frame m f) (frame-family m f) (frame-kind m f)

  end_is : (x : List ℕ) → (starts_of x).end ≡ frame_count x
  unfolding starts_of
  end_is x = refl

  module _ (good : Good fr) (also : Good gr) where
    -- part i stands before bound j, or not
    before : (x : List ℕ) (i j y : ℕ) → i < j → y < bound (starts_of x) (suc i) - bound (starts_of x) i
        → bound (starts_of x) i + y < bound (starts_of x) j
    before x i j y l w = let a = rise (starts_of x) (starts-ordered x) i in
        let b = rises-far (bound (starts_of x)) (rise (starts_of x) (starts-ordered x)) (suc i) j l in omega arith

    -- WHERE A FAMILY BEGINS, at bound j
    pub join-start : (j r : ℕ) → j < 12 → bound (starts_of fr) j ≡ start fr r → bound (starts_of gr) j ≡ start gr r
        → start (join_file fr gr) r ≡ bound (starts_of fr) j + bound (starts_of gr) j
    join-start j r jl a b = start_is (join_file fr gr) r (p j + q j)
        (record { within = within; lower = lower; there = λ h. there h })
      where
        within : p j + q j ≤ frame_count (join_file fr gr)
        within = let c = join-count in let d = rises-far p p-rise j 12 (omega arith) in
            let e = rises-far q q-rise j 12 (omega arith) in omega arith

        in-file : (x : List ℕ) (i y : ℕ) → i < 12 → y < bound (starts_of x) (suc i) - bound (starts_of x) i
            → bound (starts_of x) i + y < frame_count x
        in-file x i y l w = let c = before x i 12 y l w in let d = end_is x in omega arith

        low_first : (i x : ℕ) → i < 12 → x < p (suc i) - p i → p i + q i + x < p j + q j
            → rank_of (frame_at fr (p i + x)) < r
        low_first i x l w h = go (dec_lt i j)
          where
            go : Dec (i < j) → rank_of (frame_at fr (p i + x)) < r
            go (yes v) = (begins fr r).lower (p i + x) (let c = before fr i j x v w in omega arith)
            go (no v) = let c = rises-far p p-rise j i (omega arith) in let d = rises-far q q-rise j i (omega arith) in
                absurd (omega arith)

        low_second : (i x : ℕ) → i < 12 → x < q (suc i) - q i → p (suc i) + q i + x < p j + q j
            → rank_of (second (q i + x)) < r
        low_second i x l w h = go (dec_lt i j)
          where
            go : Dec (i < j) → rank_of (second (q i + x)) < r
            go (yes v) = let e = moved-rank (frame_at gr (q i + x)) in
                let f = (begins gr r).lower (q i + x) (let c = before gr i j x v w in omega arith) in omega arith
            go (no v) = let c = rises-far p p-rise j (suc i) (omega arith) in
                let d = rises-far q q-rise j i (omega arith) in absurd (omega arith)

        lower : (k : ℕ) → k < p j + q j → rank_at (join_file fr gr) k < r
        lower k h = by_part (λ k f. k < p j + q j → rank_of f < r) low_first low_second k
            (let c = within in omega arith) h

        high-first : (i x : ℕ) → i < 12 → x < p (suc i) - p i → p j + q j ≤ p i + q i + x
            → r ≤ rank_of (frame_at fr (p i + x))
        high-first i x l w h = go (dec_lt i j)
          where
            go : Dec (i < j) → r ≤ rank_of (frame_at fr (p i + x))
            go (yes v) = let c = before fr i j x v w in let d = rises-far q q-rise i j (omega arith) in
                absurd (omega arith)
            go (no v) = let c = rises-far p p-rise j i (omega arith) in
                (from_start fr good.order r (p i + x) (in-file fr i x l w)).0 (omega arith)

        high-second : (i x : ℕ) → i < 12 → x < q (suc i) - q i → p j + q j ≤ p (suc i) + q i + x
            → r ≤ rank_of (second (q i + x))
        high-second i x l w h = go (dec_lt i j)
          where
            go : Dec (i < j) → r ≤ rank_of (second (q i + x))
            go (yes v) = let c = before gr i j x v w in let d = rises-far p p-rise (suc i) j v in absurd (omega arith)
            go (no v) =
                let c = rises-far q q-rise j i (omega arith) in let e = moved-rank (frame_at gr (q i + x)) in
                let f = (from_start gr also.order r (q i + x) (in-file gr i x l w)).0 (omega arith) in omega arith

        there : p j + q j < frame_count (join_file fr gr) → r ≤ rank_at (join_file fr gr) (p j + q j)
        there h = by_part (λ k f. p j + q j ≤ k → r ≤ rank_of f) high-first high-second (p j + q j) h (omega arith)

    -- WHERE THE JOIN'S FAMILIES BEGIN: each where the first's and the second's do, put together
    pub join-starts : starts_of (join_file fr gr)
        ≡ record {
          members = (starts_of fr).members + (starts_of gr).members;
          constants = (starts_of fr).constants + (starts_of gr).constants;
          overrides = (starts_of fr).overrides + (starts_of gr).overrides;
          globals = (starts_of fr).globals + (starts_of gr).globals;
          arguments = (starts_of fr).arguments + (starts_of gr).arguments;
          locals = (starts_of fr).locals + (starts_of gr).locals;
          functions = (starts_of fr).functions + (starts_of gr).functions;
          intersections = (starts_of fr).intersections + (starts_of gr).intersections;
          vertex_returns = (starts_of fr).vertex_returns + (starts_of gr).vertex_returns;
          rows = (starts_of fr).rows + (starts_of gr).rows;
          components = (starts_of fr).components + (starts_of gr).components;
          end = (starts_of fr).end + (starts_of gr).end;
        }
    unfolding starts_of
    join-starts =
        rw (
          join-start 1 512 (omega arith) refl refl,
          join-start 2 769 (omega arith) refl refl,
          join-start 3 770 (omega arith) refl refl,
          join-start 4 771 (omega arith) refl refl,
          join-start 5 772 (omega arith) refl refl,
          join-start 6 773 (omega arith) refl refl,
          join-start 7 774 (omega arith) refl refl,
          join-start 8 775 (omega arith) refl refl,
          join-start 9 776 (omega arith) refl refl,
          join-start 10 1024 (omega arith) refl refl,
          join-start 11 1280 (omega arith) refl refl,
          join-count,
        )
