-- The pieces of the line, written.
use Rattle.std.proofs.Common.{◌≡◌, ap, ◌∙◌, ◌+◌, ◌*◌, ◌≤◌, ℕ, List, [], ◌∷◌, length, arith}
use native.Mathlib.Nat.{zero-add}
use borrow.Author.Tests.{le-ltb}
use Rattle.rule_explain.specs.Words as W
use Rattle.rule_explain.specs.Lines.{num, spelled}
use Rattle.rule_explain.specs.Sizes.{span_words, span_of}
use Rattle.explain_words.specs.ForProofs.{written}
use Rattle.explain_words.proofs.Writing.{pieces-fit}
use Rattle.explain_lines.specs.LinesForProofs.{made_in, made_long}
use Rattle.explain_lines.proofs.lines.put_span.Goals as goal

same : (o m n : ℕ) → m ≡ num 45 → n ≡ num o → spelled (W.number ∷ m ∷ W.span ∷ n ∷ W.feed ∷ []) ≡ span_of o
unfolding span_words
same o m n e f = rw (e, f)

pub returns : goal.returns
unfolding made_in made_long
returns c =
    let g = c.args in
    let m = c.num in
    let n = c.num-2 in
    let w : List ℕ = W.number ∷ m.result ∷ W.span ∷ n.result ∷ W.feed ∷ [] in
    let q = c.put_pieces in
    let long : 1296 ≤ length g.line.now = c.if-line-lt1296.false in
    let room : 0 + 48 * length w ≤ length g.line.now = omega arith in
    let f = pieces-fit g.line.now w q.new.out 0 q.result room q.ensures.0 q.ensures.2 in
    let e = same g.o m.result n.result m.ensures n.ensures in
    rw (le-ltb _ _ long) (
      f.0 ∙ ap (λ (l : List ℕ). 0 + length l) e ∙ zero-add (length (span_of g.o)),
      omega (arith, q.ensures.1),
      f.1 ∙ ap (written g.line.now 0) e,
    )
