-- The line of number 45, or the lines of all ranges.
use Rattle.std.specs.Prelude.{ℕ, Option}
use Rattle.std.proofs.Common.{sym, ap, ◌∙◌, subst, arith}
use Rattle.archive.specs.Starts.{type_count}
use Rattle.rule_sizes.specs.Sizes.{frames_of}
use Rattle.rule_ranges.specs.Ranges.{counts_of, range_frame}
use Rattle.size_pending.proofs.Marks.{span-within}
use Rattle.rule_explain.specs.Explained.{Lines}
use Rattle.rule_explain.specs.Sized.{size_lines, or_span}
use Rattle.explain_file.specs.ForProofs.{Shown}
use Rattle.explain_file.proofs.FileSizes.{frames-front}
use Rattle.explain_file.proofs.range_lines.Goals as goal

pub overflow_cast-o : goal.overflow_cast-o
overflow_cast-o c =
    let g = c.args in
    let w =
    span-within g.s (counts_of g.least.now) (counts_of g.greatest.now) _ (sym c.faulty_span.ensures ∙ c.in-Some.is) in
    omega (arith, w, c.requires.starts.1)

pub returns-in-None : goal.returns-in-None
returns-in-None c =
    let s = c.requires in
    let g = c.args in
    let q = c.size_lines in
    let m = c.range_all in
    let frame = range_frame g.frames.now g.s (counts_of g.least.now) (counts_of g.greatest.now) in
    let e = sym c.faulty_span.ensures ∙ c.in-None.is in
    subst (λ (l : Lines). Shown l g.out.now q.result q.new.out)
    (ap (size_lines g.frames.now) (frames-front frame g.s s.starts.0 _ m.new.out s.sizes m.ensures)
    ∙ ap (λ (f : Option ℕ). or_span f (size_lines g.frames.now (frames_of frame (type_count g.s)))) (sym e))
    q.ensures
