-- The line of a fault, or the lines of all that the types fill.
use Rattle.std.proofs.Common.{sym, ap, ◌∙◌, subst}
use Rattle.archive.specs.Starts.{starts_of}
use Rattle.rule_explain.specs.Explained.{Lines}
use Rattle.explain_file.specs.ForProofs.{Shown}
use Rattle.explain_file.proofs.FileSizes.{refused-sizes, accepted-sizes}
use Rattle.explain_file.proofs.sizes_with.Goals as goal

pub returns-in-Err : goal.returns-in-Err
returns-in-Err c =
    let e = c.read_file.ensures in
    let q = c.explain_fault in
    subst (λ (l : Lines). Shown l c.args.out.now q.result q.new.out)
    (refused-sizes _ _ _ _ _ e.outcome e.frames c.requires.frames c.in-Err.is) q.ensures

pub returns-in-Ok : goal.returns-in-Ok
returns-in-Ok c =
    let s = c.requires in
    let e = c.read_file.ensures in
    let x = c.first_frames-fr.ensures in
    let q = c.size_lines in
    subst (λ (l : Lines). Shown l c.args.out.now q.result q.new.out)
    (accepted-sizes _ _ _ _ _ e.outcome e.frames s.frames _ c.in-Ok.is _
    (c.find_starts-s.ensures ∙ ap starts_of x) _ _ s.sizes (rw x at c.measure_all.ensures))
    (rw (x, c.first_frames.ensures) at q.ensures)
