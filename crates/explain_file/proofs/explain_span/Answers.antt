-- One line.
use Rattle.std.proofs.Common.{◌≡◌, refl, ◌∙◌, ◌+◌, take, arith}
use native.Mathlib.Nat.{zero-add}
use Rattle.explain_words.proofs.Writing.{put-fits}
use Rattle.rule_explain.specs.Sizes.{span_of}
use Rattle.explain_lines.proofs.Long.{span-long}
use Rattle.rule_explain.specs.Sized.{span_lines}
use Rattle.explain_file.proofs.Fitting.{before, turn, shown-all, made, made-long, made_at}
use Rattle.explain_file.proofs.explain_span.Goals as goal

pub returns : goal.returns
returns c =
    let s = c.requires in
    let g = c.args in
    let p = c.put_span-m in
    let q = c.copy in
    let x = span_of g.o in
    let w = made_at g.line.now p.new.line x p.result s.0 p.ensures.0 p.ensures.2 in
    let m = made-long g.line.now p.new.line x p.result w.1 w.0 p.ensures.1 s.0 in
    let y = take p.result p.new.line in
    let e : y ≡ x = made g.line.now p.new.line x p.result w.1 w.0 in
    let n = span-long g.o in
    rw zero-add at
    (shown-all (span_lines g.o) g.out.now q.new.out 1 (0 + p.result) refl
    (turn (span_lines g.o).line 0 g.out.now g.out.now q.new.out y 0 p.result
    (before (span_lines g.o).line g.out.now) e w.0 (omega (arith, w.0, n, s.1))
    (q.ensures ∙ put-fits g.out.now y 0 (omega (arith, m.1, w.0, n, s.1)))))
