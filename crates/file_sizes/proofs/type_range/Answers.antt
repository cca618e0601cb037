-- `type_range`: the override at fault is one of the file's; else the range goes by marks of all types.
use Rattle.std.specs.Prelude.{Ok}
use Rattle.std.proofs.Common.{arith, sym, ap, ◌∙◌}
use Rattle.rule_ranges.specs.Ranges.{type_range_in}
use Rattle.size_pending.proofs.Marks.{range_all, span-within}
use Rattle.file_sizes.proofs.type_range.Goals as goal

pub overflow_cast-result : goal.overflow_cast-result
overflow_cast-result c =
    let w = span-within c.args.s _ _ c.in-Some.o (sym c.faulty_span.ensures ∙ c.in-Some.is) in
    omega (arith, w, c.requires.1)

pub returns-in-None : goal.returns-in-None
unfolding type_range_in
returns-in-None c =
    let g = c.args in
    rw (sym c.is_type.ensures ∙ c.if-is_type.true, sym c.faulty_span.ensures ∙ c.in-None.is)
    (ap Ok
    (c.range_marked.ensures
    ∙ range_all g.frames.now g.s c.pending_marks-marks.result g.least.now g.greatest.now g.n c.requires.0
    c.pending_marks-marks.ensures))
