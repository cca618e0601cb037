-- The first torn line is the lowest.
use Rattle.std.proofs.Common.{rules, ◌∙◌, ap}
use borrow.Author.Tests.{tests}
use Rattle.scan.specs.Lowest.{lowest}
use Rattle.scan.proofs.Find.{lowest_find}
use Rattle.text.specs.Lines.{line_ok}
use Rattle.text_decode.proofs.first_torn.Goals as goal

pub returns : goal.returns
returns c =
    let ok = line_ok c.args.text.now in
    lowest_find ok _ _ _ _ c.find.result (cc) c.find.ensures.ran (λ x q k. search (rules, tests)) (λ x q k. search
    (rules, tests))
    ∙ ap (lowest ok) c.line_count-n.ensures
