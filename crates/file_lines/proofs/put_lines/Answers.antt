-- `put_lines`: all lines where there is room for them.
use Rattle.std.proofs.Common.{◌*◌, ◌/◌, length, refl, arith}
use Rattle.law_file.proofs.Printed.{lines-short, lines-all}
use Rattle.file_lines.proofs.put_lines.Goals as goal

pub returns-then-short : goal.returns-then-short
returns-then-short c =
    let g = c.args in
    let q = lines-short g.frames.now g.out.now (33 * (length g.frames.now / 16)) refl
    (omega (arith, c.if-short.true)) in
    record { outcome = q.0; out = q.1 }

pub returns : goal.returns
returns c =
    let g = c.args in
    let w = c.write_text in
    let q = lines-all g.frames.now g.out.now (33 * (length g.frames.now / 16)) refl w.new.text w.result
    (omega (arith, c.if-short.false)) w.ensures.outcome w.ensures.text in
    record { outcome = q.0; out = q.1 }
