-- A turn writes two digits of a line, and at its end the line feed.
use Rattle.std.proofs.Common.{◌≡◌, ◌∙◌, ◌+◌, ◌*◌, arith}
use Rattle.scan.proofs.Fill.{build-zero, build-turn}
use Rattle.text.specs.Lines.{char_of}
use Rattle.text.proofs.Turn.{high_digit, low_digit, line-end, ended}
use Rattle.text_encode.proofs.encode.Goals as goal

pub lines-init : goal.lines-init
lines-init c = build-zero _ _

-- two digits are written
pub digits-preserved : goal.digits-preserved
digits-preserved c =
    let i = c.digits in
    let k = c.lines.k in
    let fr = c.args.frames.now in
    let l = c.digits-test.true in
    let a : 33 * k + 2 * (i.j + 1) ≡ 33 * k + 2 * i.j + 1 + 1 = omega arith in
    let first = build-turn (char_of fr) _ i.text _ _ i.invariant (omega arith)
    (c.digit.ensures ∙ high_digit fr k i.j l) in
    rw a (build-turn (char_of fr) _ _ _ _ first (omega arith) (c.digit-in-digits.ensures ∙ low_digit fr k i.j l))

-- the line feed is written
pub lines-preserved : goal.lines-preserved
lines-preserved c =
    let i = c.digits in
    let o = c.lines in
    let s = c.args in
    let a : 33 * (o.k + 1) ≡ 33 * o.k + 32 + 1 = omega arith in
    let filled = ended _ o.text s.text.now (33 * o.k) o.invariant i.text 32 (2 * i.j) (omega arith) i.invariant in
    rw a (build-turn (char_of s.frames.now) _ i.text _ _ filled (omega arith) (line-end s.frames.now o.k))
