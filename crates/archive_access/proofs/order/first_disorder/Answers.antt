-- `first_disorder`: the first frame that is out of order is the lowest.
use Rattle.std.proofs.Common.{rules, ◌∙◌, ap}
use borrow.Author.Tests.{tests}
use Rattle.scan.specs.Lowest.{lowest}
use Rattle.scan.proofs.Find.{lowest_find}
use Rattle.archive.specs.Order.{order_ok}
use Rattle.archive_access.proofs.order.first_disorder.Goals as goal

pub returns : goal.returns
returns c =
    let ok = order_ok c.args.frames.now in
    lowest_find ok _ _ _ _ c.find.result (cc) c.find.ensures.ran (λ x q k. search (rules, tests)) (λ x q k. search
    (rules, tests))
    ∙ ap (lowest ok) c.frame_count-n.ensures
