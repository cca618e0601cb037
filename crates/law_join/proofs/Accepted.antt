-- THE JOIN IS ACCEPTED: its frames pass checks 4 to 6. Each part holds frames of one rank, and parts stand in order; a
-- frame keeps its family, kind and values; and what it names is there and earlier, for both files.
use Rattle.std.specs.Prelude.{Ok}
use Prim.Native.Nat.{ℕ, ◌+◌, ◌≤◌}
use native.Mathlib.Omega.{arith}
use mathlib.Core.Path.{◌≡◌, ap, ◌∙◌}
use mathlib.Core.List.{List}
use Rattle.answers.specs.Limit.{max_frames}
use Rattle.frames.specs.Bytes.{frame_count}
use Rattle.archive.specs.Checks.{index_ok, check_frames}
use Rattle.archive.proofs.Checked.{Holds}
use Rattle.law_rows.proofs.Good.{Good, good-when}
use Rattle.law_join.specs.Join.{join_file}
use Rattle.law_join.specs.Joinable.{Joinable}
use Rattle.law_join.proofs.Frames.{join-count}
use Rattle.law_join.proofs.Order.{end_is, join-order, join-fields}
use Rattle.law_join.proofs.Named.{join_names}
use Rattle.law_join.proofs.Owned.{join-early}

module _ (fr gr : List ℕ) (good : Good fr) (also : Good gr) (jf : Joinable fr) (jg : Joinable gr) where
  abbrev J : List ℕ
  J = join_file fr gr

  pub join-index : Holds index_ok (join_file fr gr)
  unfolding index_ok
  join-index k l = rw (join_names fr gr good also k l) (join-early fr gr good also jf jg k)

  -- THE JOIN'S FRAMES PASS CHECKS 4 TO 6
  pub join-good : Good (join_file fr gr)
  join-good =
      record {
        order = join-order fr gr good also jf jg;
        fields = join-fields fr gr good also jf jg;
        index = join-index;
      }

  -- and the join is accepted where it has no more frames than a file may have
  pub join-accepted : frame_count fr + frame_count gr ≤ max_frames → check_frames (join_file fr gr)
      ≡ Ok (frame_count fr + frame_count gr)
  join-accepted l =
      let a = join-count fr gr in let b = end_is fr in let c = end_is gr in
      let e : frame_count J ≡ frame_count fr + frame_count gr = omega arith in
      (good-when J (omega arith)).1 join-good ∙ ap Ok e
