-- `pending_marks`: the types passed are marked, each from those before it.
use Rattle.size_pending.proofs.Marks.{Marked}
use Rattle.size_pending.proofs.pending_marks.Given as goal

abbrev pub invariant-loop-n : goal.invariant-loop-n
invariant-loop-n l = Marked l.frames l.s l.marks l.n
