-- `member_holds`: whether one of the members passed is or holds a pending array.
use Rattle.std.proofs.Common.{◌≡◌}
use Rattle.rule_ranges.specs.Pending.{member_holds, look_holds}
use Rattle.size_pending.proofs.member_holds.Given as goal

abbrev pub invariant-loop-i : goal.invariant-loop-i
invariant-loop-i l = l.any ≡ member_holds l.frames l.s (look_holds l.marks) l.first l.i
