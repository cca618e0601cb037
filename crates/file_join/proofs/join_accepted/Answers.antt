-- `join_accepted`: the test of 49 found the numbers of the second, so they fit; the join is within the limit.
use native.Mathlib.Omega.{arith}
use lib.ListN.{length}
use Rattle.file_join.proofs.Fits.{fitting}
use Rattle.file_join.proofs.Tests.{second-joins}
use Rattle.file_join.proofs.join_accepted.Goals as goal

pub put_join-requires : goal.put_join-requires
put_join-requires c =
    let g = c.args in (
      omega (
        arith,
        c.if-m-frame_count.false,
        c.most-m.ensures.1,
        c.frame_count.ensures,
        c.frame_count-then-joins.ensures,
      ),
      fitting g.frames.now g.more.now c.requires.0 c.requires.1 (λ i. omega (arith, c.type_inv.more i))
          (second-joins g.limit g.frames.now g.more.now (length g.joined.now) g.joined.now c.joins.ensures
          c.joins-2.ensures c.if-joins.true),
    )
