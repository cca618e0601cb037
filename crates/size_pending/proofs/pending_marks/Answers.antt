-- `pending_marks`: each type is marked from those before it.
use Rattle.std.proofs.Common.{arith}
use Rattle.size_pending.proofs.Marks.{marks-none, marks-more}
use Rattle.size_pending.proofs.pending_marks.Goals as goal

pub loop-n-init : goal.loop-n-init
loop-n-init c = marks-none _ _ 1024

pub loop-n-preserved : goal.loop-n-preserved
loop-n-preserved c =
    let l = c.loop-n in
    marks-more _ _ l.marks l.n l.invariant _ _ (omega (arith, c.loop-n-test.true))
    c.form_holds-one.ensures c.type_at-t.ensures
