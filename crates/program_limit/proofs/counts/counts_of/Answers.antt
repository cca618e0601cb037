-- By the first dash.
use Rattle.std.proofs.Common.{sym, ap, ◌∙◌, ◌+◌, ℕ, List, take, length, arith}
use Rattle.std.proofs.lemmas.Slice.{between_to_end}
use Rattle.program_limit.specs.Counts.{count_of, both_of, around, counts_of}
use Rattle.program_limit.proofs.Dash.{dash-found}
use Rattle.program_limit.proofs.counts.counts_of.Goals as goal

pub returns-in_err-k : goal.returns-in_err-k
unfolding counts_of
returns-in_err-k c =
    let w = c.args.word.now in
    c.from_residual.ensures ∙ ap (around w) (sym c.in_err-k.was ∙ dash-found w _ c.first_dash.ensures)

pub returns : goal.returns
unfolding counts_of
returns c =
    let w = c.args.word.now in
    let k = c.in_ok-k.k in
    rw (c.both.ensures, c.count_of.ensures, c.count_of-2.ensures)
    (ap (λ (x : List ℕ). both_of (count_of (take k w)) (count_of x)) (between_to_end w (k + 1) (length w) (omega arith))
    ∙ ap (around w) (sym c.in_ok-k.was ∙ dash-found w _ c.first_dash.ensures))
