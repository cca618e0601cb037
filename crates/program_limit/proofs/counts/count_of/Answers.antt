-- A turn reads one digit more; a byte that is none, or a number too large, ends the loop.
use Rattle.std.proofs.Common.{sym, arith, ◌≡◌, length}
use Rattle.program_limit.proofs.Exact.{begin, one-digit, step, no_number, too_large, no_word, whole}
use Rattle.program_limit.proofs.counts.count_of.Goals as goal

pub returns-then-is_empty : goal.returns-then-is_empty
returns-then-is_empty c = no_word c.args.word.now (grind (arith, c.if-is_empty.ensures))

pub loop-b-init : goal.loop-b-init
loop-b-init c = begin c.args.word.now

pub returns-then-not-is_digit : goal.returns-then-not-is_digit
returns-then-not-is_digit c =
    no_number c.args.word.now c.loop-b.b-index (omega arith) (sym c.if-not-is_digit.ensures)

pub returns-then-n-gt4294967295 : goal.returns-then-n-gt4294967295
returns-then-n-gt4294967295 c =
    let w = c.args.word.now in
    let l = c.loop-b in
    too_large w _ _ (one-digit w l.n l.b-index _ l.invariant.exact c.from.ensures)
    (omega arith) c.if-n-gt4294967295.true

pub loop-b-preserved : goal.loop-b-preserved
loop-b-preserved c =
    let w = c.args.word.now in
    let l = c.loop-b in
    step w l.n l.b-index _ l.invariant (omega arith) (sym c.if-not-is_digit.ensures) c.from.ensures
    c.if-n-gt4294967295.false

pub returns : goal.returns
returns c =
    let l = c.loop-b in
    let e : l.b-index ≡ length c.args.word.now = omega arith in
    whole c.args.word.now l.n l.b-index l.invariant e (grind (arith, c.if-is_empty.ensures))
