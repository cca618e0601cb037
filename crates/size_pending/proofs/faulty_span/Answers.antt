-- `faulty_span`: the first override whose span is not good is the lowest.
use Rattle.std.proofs.Common.{rules, arith, ℕ, ◌≡◌}
use borrow.Author.Tests.{tests}
use Rattle.scan.proofs.Find.{lowest_find}
use Rattle.archive.specs.Starts.{override_count}
use Rattle.rule_ranges.specs.Ranges.{counts_of, span_ok, faulty_span}
use Rattle.size_pending.proofs.faulty_span.Goals as goal

pub returns : goal.returns
unfolding faulty_span
returns c =
    let count : c.saturating_sub-n.result ≡ override_count c.args.s = omega arith in
    lowest_find (λ (k : ℕ). span_ok (counts_of c.args.least.now) (counts_of c.args.greatest.now)
    (record { 0 = k })) _ _ _ _
    c.find.result (cc) c.find.ensures.ran (λ x q k. search (rules, tests)) (λ x q k. search (rules, tests))
