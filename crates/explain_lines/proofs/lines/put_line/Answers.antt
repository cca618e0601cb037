-- Three runs of pieces, where the buffer is large enough.
use Rattle.std.proofs.Common.{◌≡◌, ap, ◌∙◌, ◌≤◌, ℕ, [], ◌∷◌, length}
use borrow.Author.Tests.{le-ltb}
use Rattle.ir.specs.declared.RowNumber.{RowNumber}
use Rattle.rule_explain.specs.Words as W
use Rattle.rule_explain.specs.Lines.{num}
use Rattle.rule_explain.specs.Answers.{said, shown, ending, line_of}
use Rattle.explain_words.specs.ForProofs.{written}
use Rattle.explain_lines.specs.LinesForProofs.{made_in, made_long}
use Rattle.explain_lines.proofs.Runs.{runs-filled}
use Rattle.explain_lines.proofs.lines.put_line.Goals as goal

pub returns : goal.returns
unfolding made_in made_long line_of
returns c =
    let g = c.args in
    let q = c.put_runs in
    let long : 1296 ≤ length g.line.now = c.if-line-lt1296.false in
    let h : c.num.result ≡ num (shown g.row g.f).0 =
    c.num.ensures ∙ ap (λ (r : RowNumber). num r.0) c.shown-r.ensures in
    let e =
    runs-filled (W.row ∷ num (shown g.row g.f).0 ∷ W.gap ∷ []) (said g.frames.now g.f) (ending g.f)
    _ _ _ 16 3
    (ap (λ (k : ℕ). W.row ∷ k ∷ W.gap ∷ []) h)
    c.said-body.ensures
    c.ending-end.ensures in
    rw (le-ltb _ _ long)
    (q.ensures.long ∙ ap length e, q.ensures.small, q.ensures.line ∙ ap (written g.line.now 0) e)
