-- What is lent to be written is a part of the buffer: the lines are within it.
use Rattle.std.proofs.Common.{sym}
use lib.Seq.{length-take-le}
use Rattle.law_file.proofs.Printed.{bytes-within}
use Rattle.explain.proofs.explain_rows.Goals as goal

pub slice_bounds-lines-end : goal.slice_bounds-lines-end
slice_bounds-lines-end g c =
    let t = c.explain_text in bytes-within _ _ _ _ _ t.ensures.outcome t.ensures.out c.in-Some.is

pub slice_bounds-write_all-end : goal.slice_bounds-write_all-end
slice_bounds-write_all-end g c =
    let t = c.explain_text in
    sym (length-take-le _ _ (bytes-within _ _ _ _ _ t.ensures.outcome t.ensures.out c.in-Some.is))
