-- `first_misnamed`: the first frame that names wrongly is the lowest.
use Rattle.std.proofs.Common.{rules, ◌∙◌, ap}
use borrow.Author.Tests.{tests}
use Rattle.scan.specs.Lowest.{lowest}
use Rattle.scan.proofs.Find.{lowest_find}
use Rattle.archive.specs.Names.{names_ok}
use Rattle.check_file.proofs.first_misnamed.Goals as goal

pub returns : goal.returns
unfolding names_ok
returns c =
    let ok = names_ok c.args.frames.now in
    lowest_find ok _ _ _ _ c.find.result (cc) c.find.ensures.ran (λ x q k. search (rules, tests)) (λ x q k. search
    (rules, tests))
    ∙ ap (lowest ok) c.frame_count-n.ensures
