-- Three runs of pieces, one after the other, where the buffer is large enough.
use Rattle.std.proofs.Common.{◌+◌, ◌*◌, ◌≤◌, length, arith}
use Rattle.rule_explain.specs.Lines.{spelled}
use Rattle.explain_words.proofs.Writing.{pieces-fit}
use Rattle.explain_lines.proofs.Runs.{three, three-spelled}
use Rattle.explain_lines.proofs.lines.put_runs.Goals as goal

pub returns : goal.returns
returns c =
    let g = c.args in
    let s = c.requires in
    let p₁ = c.put_pieces-a in
    let p₂ = c.put_pieces-b in
    let p₃ = c.put_pieces in
    let h = g.head.now in
    let b = g.body.now in
    let t = g.end.now in
    let few : length h + length b + length t ≤ 27 = s.few in
    let room₁ : 0 + 48 * length h ≤ length g.line.now = omega (arith, s.room) in
    let room₂ : p₁.result + 48 * length b ≤ length p₁.new.out = omega (arith, p₁.ensures.1, s.room) in
    let room₃ : p₂.result + 48 * length t ≤ length p₂.new.out =
    omega (arith, p₁.ensures.1, p₂.ensures.1, s.room) in
    let f₁ = pieces-fit g.line.now h p₁.new.out 0 p₁.result room₁ p₁.ensures.0 p₁.ensures.2 in
    let f₂ = pieces-fit p₁.new.out b p₂.new.out p₁.result p₂.result room₂ p₂.ensures.0 p₂.ensures.2 in
    let f₃ = pieces-fit p₂.new.out t p₃.new.out p₂.result p₃.result room₃ p₃.ensures.0 p₃.ensures.2 in
    let small : p₃.result ≤ 1296 = omega (arith, p₁.ensures.1, p₂.ensures.1, p₃.ensures.1) in
    let q =
    three g.line.now p₁.new.out p₂.new.out p₃.new.out (spelled h) (spelled b) (spelled t) p₁.result p₂.result p₃.result
    f₁.0 f₂.0 f₃.0 (omega (arith, s.room)) f₁.1 f₂.1 f₃.1 in
    let e = three-spelled h b t in
    record { long = rw e q.0; small = small; line = rw e q.1 }
