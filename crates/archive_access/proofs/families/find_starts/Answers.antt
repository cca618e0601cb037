-- `find_starts`: each call begins where the one before it ended, and every frame before that is lower.
use Prim.Native.Nat.{zero-le}
use lib.Dec.{lit≤}
use Rattle.scan.proofs.Laws.{lowest-zero}
use Rattle.archive.proofs.Ranks.{begins, skipped}
use Rattle.archive_access.proofs.families.find_starts.Goals as goal

pub skip-members-requires : goal.skip-members-requires
skip-members-requires c = (zero-le, lowest-zero _)

pub skip-constants-requires : goal.skip-constants-requires
skip-constants-requires c = rw c.skip-members.ensures ((begins _ _).within, skipped _ _ _ (lit≤ tt))

pub skip-overrides-requires : goal.skip-overrides-requires
skip-overrides-requires c = rw c.skip-constants.ensures ((begins _ _).within, skipped _ _ _ (lit≤ tt))

pub skip-globals-requires : goal.skip-globals-requires
skip-globals-requires c = rw c.skip-overrides.ensures ((begins _ _).within, skipped _ _ _ (lit≤ tt))

pub skip-arguments-requires : goal.skip-arguments-requires
skip-arguments-requires c = rw c.skip-globals.ensures ((begins _ _).within, skipped _ _ _ (lit≤ tt))

pub skip-locals-requires : goal.skip-locals-requires
skip-locals-requires c = rw c.skip-arguments.ensures ((begins _ _).within, skipped _ _ _ (lit≤ tt))

pub skip-functions-requires : goal.skip-functions-requires
skip-functions-requires c = rw c.skip-locals.ensures ((begins _ _).within, skipped _ _ _ (lit≤ tt))

pub skip-intersections-requires : goal.skip-intersections-requires
skip-intersections-requires c = rw c.skip-functions.ensures ((begins _ _).within, skipped _ _ _ (lit≤ tt))

pub skip-vertex_returns-requires : goal.skip-vertex_returns-requires
skip-vertex_returns-requires c = rw c.skip-intersections.ensures ((begins _ _).within, skipped _ _ _ (lit≤ tt))

pub skip-rows-requires : goal.skip-rows-requires
skip-rows-requires c = rw c.skip-vertex_returns.ensures ((begins _ _).within, skipped _ _ _ (lit≤ tt))

pub skip-components-requires : goal.skip-components-requires
skip-components-requires c = rw c.skip-rows.ensures ((begins _ _).within, skipped _ _ _ (lit≤ tt))
