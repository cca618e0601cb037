-- Sizes over a table. The functions call each other; a type names earlier ones, so three times the number and the place
-- of the function in the round falls.
use Rattle.std.proofs.Common.{◌+◌, ◌*◌}
use Rattle.type_sizes.proofs.Found.{Turn}
use Rattle.type_sizes.proofs.+measured_part_parts.Given as goal

abbrev pub decreases-measured : goal.decreases-measured
decreases-measured l = 3 * l.n.0 + 2

abbrev pub decreases-part : goal.decreases-part
decreases-part l = 3 * l.n.0 + 0

abbrev pub decreases-parts : goal.decreases-parts
decreases-parts l = 3 * l.n.0 + 1

-- the members passed stand for the exact ones, and the table holds what was found
abbrev pub invariant-parts-loop-i : goal.invariant-parts-loop-i
invariant-parts-loop-i l =
    Turn l.frames l.s l.marks l.counts l.n l.first l.afresh l.table l.so_far l.i
