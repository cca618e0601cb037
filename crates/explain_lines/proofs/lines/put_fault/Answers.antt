-- The pieces of the fault, written.
use Rattle.std.proofs.Common.{◌≡◌, ap, ◌∙◌, ◌+◌, ◌*◌, ◌≤◌, ℕ, List, length, arith}
use native.Mathlib.Nat.{zero-add}
use borrow.Author.Tests.{le-ltb}
use Rattle.rule_explain.specs.Lines.{spelled}
use Rattle.rule_explain.specs.Answers.{fault_words, fault_line}
use Rattle.explain_words.specs.ForProofs.{written}
use Rattle.explain_words.proofs.Writing.{pieces-fit}
use Rattle.explain_lines.specs.LinesForProofs.{made_in, made_long}
use Rattle.explain_lines.proofs.Runs.{spelled-filled}
use Rattle.explain_lines.proofs.lines.put_fault.Goals as goal

pub returns : goal.returns
unfolding made_in made_long
returns c =
    let g = c.args in
    let w = c.fault_words-words in
    let q = c.put_pieces in
    let long : 1296 ≤ length g.line.now = c.if-line-lt1296.false in
    let room : 0 + 48 * length w.result ≤ length g.line.now = omega arith in
    let f = pieces-fit g.line.now w.result q.new.out 0 q.result room q.ensures.0 q.ensures.2 in
    let e : spelled w.result ≡ fault_line g.f = ap spelled w.ensures ∙ spelled-filled 8 (fault_words g.f) in
    rw (le-ltb _ _ long) (
      f.0 ∙ ap (λ (l : List ℕ). 0 + length l) e ∙ zero-add (length (fault_line g.f)),
      omega (arith, q.ensures.1),
      f.1 ∙ ap (written g.line.now 0) e,
    )
