-- What is found, by what the type needs, is the definition's, and is kept in the table.
use Rattle.std.proofs.Common.{arith, refl, sym, ◌∙◌}
use Rattle.rule_ranges.specs.ForProofs.{earlier}
use Rattle.rule_ranges.proofs.Laws.{by-earlier, by-late}
use Rattle.type_sizes.proofs.Found.{none_yet, one_more, array-by, struct-by, found-kept}
use Rattle.type_sizes.proofs.+measured_part_parts.Goals as goal

pub measured-returns-in-Nothing : goal.measured-returns-in-Nothing
measured-returns-in-Nothing t c =
    let g = c.args in
    found-kept g.frames.now g.s g.marks.now g.counts.now _ _ g.n _ _ _ _ c.requires refl
    (sym c.in-Nothing.is ∙ c.needs_of-needs.ensures) c.type_at.ensures c.kept.ensures

pub measured-returns-in-Element : goal.measured-returns-in-Element
measured-returns-in-Element t c =
    let g = c.args in
    let p = c.part-e.ensures in
    found-kept g.frames.now g.s g.marks.now g.counts.now _ _ g.n _ _ _ _ p.1
    (array-by g.frames.now g.s (earlier g.frames.now g.s g.marks.now g.counts.now g.n) _ _ _ _ _ _
    c.array_of.ensures p.0)
    (sym c.in-Element.is ∙ c.needs_of-needs.ensures) c.type_at.ensures c.kept-in-Element.ensures

pub measured-returns-in-Members : goal.measured-returns-in-Members
measured-returns-in-Members t c =
    let g = c.args in
    let p = c.parts-p.ensures in
    found-kept g.frames.now g.s g.marks.now g.counts.now _ _ g.n _ _ _ _ p.1
    (struct-by g.frames.now g.s (earlier g.frames.now g.s g.marks.now g.counts.now g.n) _ _ _ _ _ _ _
    c.struct_by.ensures p.0 (omega arith))
    (sym c.in-Members.is ∙ c.needs_of-needs.ensures) c.type_at.ensures c.kept-in-Members.ensures

pub part-returns-then-b-n : goal.part-returns-then-b-n
part-returns-then-b-n t c =
    (c.measured.ensures.0 ∙ sym (by-earlier _ _ _ _ c.args.n c.args.b c.if-b-n.true), c.measured.ensures.1)

pub part-returns-else-b-n : goal.part-returns-else-b-n
part-returns-else-b-n t c =
    (c.unmeasured.ensures ∙ sym (by-late _ _ _ _ c.args.n c.args.b c.if-b-n.false), c.requires)

pub parts-loop-i-init : goal.parts-loop-i-init
parts-loop-i-init t c =
    let g = c.args in
    record {
      like = none_yet g.frames.now g.s (earlier g.frames.now g.s g.marks.now g.counts.now g.n) g.first g.afresh;
      known = c.requires;
    }

pub parts-loop-i-preserved : goal.parts-loop-i-preserved
parts-loop-i-preserved t c =
    let l = c.loop-i in
    let g = c.args in
    let p = c.part-e in
    record {
      like =
          one_more g.frames.now g.s (earlier g.frames.now g.s g.marks.now g.counts.now g.n) g.first g.afresh l.i _ _
          _ _ l.invariant.like (omega arith) c.member_at-m.ensures p.ensures.0 c.member_more-so_far.ensures;
      known = p.ensures.1;
    }
