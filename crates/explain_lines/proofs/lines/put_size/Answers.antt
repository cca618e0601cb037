-- Three runs of pieces, where the buffer is large enough.
use Rattle.std.proofs.Common.{ap, ◌∙◌, ◌≤◌, ℕ, [], ◌∷◌, length}
use borrow.Author.Tests.{le-ltb}
use Rattle.frames.specs.Bytes.{frame_at}
use Rattle.rule_explain.specs.Words as W
use Rattle.rule_explain.specs.Lines.{num}
use Rattle.rule_explain.specs.Types.{whole}
use Rattle.rule_explain.specs.Sizes.{size_words, size_line_of}
use Rattle.explain_words.specs.ForProofs.{written}
use Rattle.explain_lines.specs.LinesForProofs.{made_in, made_long}
use Rattle.explain_lines.proofs.Runs.{runs-filled}
use Rattle.explain_lines.proofs.lines.put_size.Goals as goal

pub returns : goal.returns
unfolding made_in made_long size_line_of
returns c =
    let g = c.args in
    let q = c.put_runs in
    let long : 1296 ≤ length g.line.now = c.if-line-lt1296.false in
    let e =
    runs-filled (W.type ∷ num g.n.0 ∷ W.gap ∷ []) (whole g.frames.now (frame_at g.frames.now g.n.0)) (size_words g.f)
    _ _ _ 16 8
    (ap (λ (k : ℕ). W.type ∷ k ∷ W.gap ∷ []) c.num.ensures)
    (c.whole-body.ensures ∙ rw c.frame_at.ensures)
    c.size_words-end.ensures in
    rw (le-ltb _ _ long)
    (q.ensures.long ∙ ap length e, q.ensures.small, q.ensures.line ∙ ap (written g.line.now 0) e)
