-- What is lent to be written is a part of the buffer: the lines are within it.
use Rattle.std.proofs.Common.{sym}
use lib.Seq.{length-take-le}
use Rattle.law_file.proofs.Printed.{bytes-within}
use Rattle.replay_wgsl.proofs.print_answers.Goals as goal

pub slice_bounds-out-end : goal.slice_bounds-out-end
slice_bounds-out-end g c =
    let t = c.type_text in bytes-within _ _ _ _ _ t.ensures.outcome t.ensures.out c.in-Some.is

pub slice_bounds-print_cells-end : goal.slice_bounds-print_cells-end
slice_bounds-print_cells-end g c =
    let t = c.type_text in
    sym (length-take-le _ _ (bytes-within _ _ _ _ _ t.ensures.outcome t.ensures.out c.in-Some.is))
