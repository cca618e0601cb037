-- The line of a fault, or the lines of an accepted file.
use Rattle.std.proofs.Common.{sym, ap, ◌∙◌, subst}
use Rattle.archive.specs.Starts.{starts_of}
use Rattle.rule_ranges.specs.Ranges.{counts_of}
use Rattle.rule_explain.specs.Explained.{Lines}
use Rattle.explain_file.specs.ForProofs.{Shown}
use Rattle.explain_file.proofs.FileSizes.{few, few-overrides, refused-ranges, accepted-ranges}
use Rattle.explain_file.proofs.ranges_with.Goals as goal

pub range_lines-requires-clause-starts : goal.range_lines-requires-clause-starts
range_lines-requires-clause-starts c =
    let s = c.requires in
    let e = c.read_file.ensures in
    let n = c.in-Ok.is in
    let z = c.find_starts.ensures ∙ ap starts_of c.first_frames-fr.ensures in (
      few _ _ _ _ _ e.outcome e.frames s.frames _ n _ z,
      few-overrides _ _ _ _ _ e.outcome e.frames s.frames (counts_of c.args.least.now)
          (counts_of c.args.greatest.now) _ n _ z,
    )

pub returns-in-Err : goal.returns-in-Err
returns-in-Err c =
    let e = c.read_file.ensures in
    let q = c.explain_fault in
    subst (λ (l : Lines). Shown l c.args.out.now q.result q.new.out)
    (refused-ranges _ _ _ _ _ e.outcome e.frames c.requires.frames (counts_of c.args.least.now)
    (counts_of c.args.greatest.now) c.in-Err.is)
    q.ensures

pub returns-in-Ok : goal.returns-in-Ok
returns-in-Ok c =
    let e = c.read_file.ensures in
    let x = c.first_frames-fr.ensures in
    let q = c.range_lines in
    subst (λ (l : Lines). Shown l c.args.out.now q.result q.new.out)
    (accepted-ranges _ _ _ _ _ e.outcome e.frames c.requires.frames (counts_of c.args.least.now)
    (counts_of c.args.greatest.now) _ c.in-Ok.is _
    (c.find_starts.ensures ∙ ap starts_of x))
    (rw x at q.ensures)
