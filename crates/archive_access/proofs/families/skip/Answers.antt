-- `skip`: every frame passed is of a lower rank, so the first that is not is the lowest.
use Rattle.std.proofs.Common.{arith, ◌≡◌, refl, ap, ◌∙◌}
use borrow.Author.Tests.{lt-ltb, le-ltb}
use Rattle.scan.proofs.Laws.{lowest-more, lowest-hit}
use Rattle.archive.specs.Order.{rank_of, rank_at}
use Rattle.archive.specs.Starts.{place_or, start}
use Rattle.archive_access.proofs.families.skip.Goals as goal

pub loop-k-preserved : goal.loop-k-preserved
loop-k-preserved c =
    let ranked : c.rank_of.result ≡ rank_at c.args.frames.now c.loop-k.k = c.rank_of.ensures
    ∙ ap rank_of c.frame_at.ensures in
    lowest-more _ _ c.loop-k.invariant refl (rw (← ranked) (lt-ltb _ _ c.if-rank-rank_of.false))

pub returns-then-rank-rank_of : goal.returns-then-rank-rank_of
unfolding start
returns-then-rank-rank_of c =
    let ranked : c.rank_of.result ≡ rank_at c.args.frames.now c.loop-k.k = c.rank_of.ensures
    ∙ ap rank_of c.frame_at.ensures in
    ap (place_or _) (lowest-hit _ c.loop-k.k _ (omega (arith, c.loop-k-test.true, c.frame_count-n.ensures))
    c.loop-k.invariant refl (rw (← ranked) (le-ltb _ _ c.if-rank-rank_of.true)))
