-- `put_marks`: the bytes of the rows passed stand in the table, and its other bytes are as they were.
use Rattle.std.proofs.Common.{◌≡◌, ◌++◌, drop}
use Rattle.scan.specs.Lists.{build}
use Rattle.law_cut.specs.Exported.{mark_byte}
use Rattle.gelmusko.proofs.cuts.put_marks.Given as goal

abbrev pub invariant-loop-k : goal.invariant-loop-k
invariant-loop-k l = l.table ≡ build (mark_byte l.fn.marks) l.k ++ drop l.k l.initial.table
