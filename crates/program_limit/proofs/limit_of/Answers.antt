-- A turn reads one digit more; a byte that is none ends the loop.
use Rattle.std.proofs.Common.{refl, sym, length, arith, ◌≡◌}
use Rattle.program_limit.proofs.Digits.{begin, step, no_number, no_word, whole, digit-small}
use Rattle.program_limit.proofs.limit_of.Goals as goal

pub returns-then-is_empty : goal.returns-then-is_empty
returns-then-is_empty c = no_word c.args.word.now (grind (arith, c.if-is_empty.ensures))

pub loop-b-init : goal.loop-b-init
loop-b-init c = begin c.args.word.now

pub returns-then-not-is_digit : goal.returns-then-not-is_digit
returns-then-not-is_digit c =
    no_number c.args.word.now c.loop-b.b-index (omega arith) (sym c.if-not-is_digit.ensures)

pub loop-b-preserved : goal.loop-b-preserved
loop-b-preserved c =
    let w = c.args.word.now in
    let l = c.loop-b in
    let here = sym c.if-not-is_digit.ensures in
    let d = digit-small w l.b-index here in
    step w l.n l.b-index _ c.next-n.result l.invariant (omega arith) here refl (omega (arith, d)) c.next-n.ensures

pub returns : goal.returns
returns c =
    let l = c.loop-b in
    let e : l.b-index ≡ length c.args.word.now = omega arith in
    whole c.args.word.now l.n l.b-index c.most.result l.invariant e (grind
    (arith, c.if-is_empty.ensures)) c.most.ensures.0
