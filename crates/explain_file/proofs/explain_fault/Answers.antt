-- One line.
use Rattle.std.specs.Prelude.{Err}
use Rattle.std.proofs.Common.{◌≡◌, refl, ap, ◌∙◌, ◌+◌, take, length, arith}
use native.Mathlib.Nat.{zero-add}
use Rattle.frames.specs.Out.{outcome_frame}
use Rattle.explain_words.proofs.Writing.{put-fits}
use Rattle.rule_explain.specs.Answers.{fault_line}
use Rattle.explain_lines.proofs.Long.{fault-long}
use Rattle.rule_explain.specs.Explained.{fault_lines}
use Rattle.explain_file.proofs.Fitting.{before, turn, shown-all, made, made-long, made_at}
use Rattle.explain_file.proofs.explain_fault.Goals as goal

pub returns : goal.returns
returns c =
    let s = c.requires in
    let g = c.args in
    let p = c.put_fault-m in
    let q = c.copy in
    let f = c.outcome_frame in
    let w = made_at g.line.now p.new.line (fault_line f.result) p.result s.0 p.ensures.0 p.ensures.2 in
    let m = made-long g.line.now p.new.line (fault_line f.result) p.result w.1 w.0 p.ensures.1 s.0 in
    let e : fault_line f.result ≡ fault_line (outcome_frame (Err g.e)) = ap fault_line f.ensures in
    let y = take p.result p.new.line in
    let x : y ≡ fault_line (outcome_frame (Err g.e)) =
    made g.line.now p.new.line (fault_line f.result) p.result w.1 w.0 ∙ e in
    let n = fault-long f.result in
    rw zero-add at
    (shown-all (fault_lines g.e) g.out.now q.new.out 1 (0 + p.result) refl
    (turn (fault_lines g.e).line 0 g.out.now g.out.now q.new.out y 0 p.result
    (before (fault_lines g.e).line g.out.now) x (w.0 ∙ ap length e) (omega (arith, w.0, n, s.1))
    (q.ensures ∙ put-fits g.out.now y 0 (omega (arith, m.1, w.0, n, s.1)))))
