-- The invariant: the sum of the lines passed, at most 2 for each.
use Rattle.std.proofs.Common.{◌≡◌, ◌≤◌, ◌*◌}
use Rattle.scan.specs.Lists.{sum_below}
use Rattle.text.specs.Reading.{answer_frames}
use Rattle.text_decode.proofs.answer_frames.Given as goal

abbrev pub invariant-loop-k : goal.invariant-loop-k
invariant-loop-k l = (l.sum ≡ sum_below (answer_frames l.text) l.k) × (l.sum ≤ 2 * l.k)
