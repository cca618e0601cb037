-- `size_range`: where both tables have room, what it asks of the frames is asked of the text.
use Rattle.std.proofs.lemmas.Result.{err_from_is_err_and}
use Rattle.rule_ranges.specs.TypeRange.{range_error}
use Rattle.std.proofs.Common.{ℕ, List, sym, ap, ◌∙◌}
use Rattle.archive.specs.Starts.{starts_of}
use Rattle.rule_ranges.specs.Ranges.{counts_of, type_range_in, type_range_said}
use Rattle.rule_file_sizes.specs.Ranges.{tables_short, size_range, frames_ranged}
use Rattle.law_file.proofs.Over.{refused, given}
use Rattle.law_file_sizes.proofs.Said.{range-said}
use Rattle.file_sizes.proofs.Ranged.{few-starts, is-short, not_short}
use Rattle.file_sizes.proofs.size_range.Goals as goal

pub returns-then-short-clause-said : goal.returns-then-short-clause-said
unfolding size_range
returns-then-short-clause-said c =
    let g = c.args in
    ap type_range_said
    (ap range_error c.short_read.ensures
    ∙ is-short (tables_short g.least.now g.greatest.now) _ _ c.if-short.true)
    ∙ range-said g.limit g.text.now _ g.least.now g.greatest.now g.n

pub type_range-requires : goal.type_range-requires
type_range-requires c =
    let e = c.read_file.ensures in
    few-starts _ _ _ _ _ _ _ e.outcome e.frames c.in_ok-k.was _
    (c.find_starts.ensures ∙ ap starts_of c.first_frames-fr.ensures)

pub returns-in_err-k : goal.returns-in_err-k
unfolding size_range frames_ranged
returns-in_err-k c =
    let g = c.args in
    let e = c.read_file.ensures in
    let p = err_from_is_err_and c.from_residual.result c.from_residual.ensures.1 in
    let o =
    refused _ _ _ _ _ _ (e.outcome, (e.said, e.frames)) c.in_err-k.was range_error
    (λ (x : List ℕ). type_range_in x (starts_of x) (counts_of g.least.now) (counts_of g.greatest.now) g.n)
    ∙ not_short (tables_short g.least.now g.greatest.now) _ _ c.if-short.false in
    rw (p.1, p.2)
    (record {
      outcome = o;
      said = ap type_range_said o ∙ range-said g.limit g.text.now _ g.least.now g.greatest.now g.n;
      frames = e.frames ∙ not_short (tables_short g.least.now g.greatest.now) _ _ c.if-short.false;
    })

pub returns-clause-outcome : goal.returns-clause-outcome
unfolding size_range
returns-clause-outcome c =
    let g = c.args in
    let e = c.read_file.ensures in
    given _ _ _ _ _ _ (e.outcome, (e.said, e.frames)) c.in_ok-k.was c.first_frames-fr.ensures
    range_error
    (λ (x : List ℕ). type_range_in x (starts_of x) (counts_of g.least.now) (counts_of g.greatest.now) g.n)
    (rw c.find_starts.ensures at c.type_range.ensures)
    ∙ not_short (tables_short g.least.now g.greatest.now) _ _ c.if-short.false

pub returns-clause-said : goal.returns-clause-said
returns-clause-said c =
    ap type_range_said (returns-clause-outcome c) ∙ range-said _ _ _ _ _ _
