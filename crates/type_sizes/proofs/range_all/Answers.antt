-- `range_all`: the ranges of the types passed stand at the front of the buffer, and each table holds what was found.
use Rattle.std.proofs.Common.{arith, ◌≡◌, ap, ◌∙◌}
use Rattle.rule_sizes.specs.declared.Measure.{Measure}
use Rattle.rule_sizes.proofs.Laws.{known-none}
use Rattle.rule_ranges.specs.declared.Range.{Range}
use Rattle.rule_ranges.specs.Ranges.{counts_of, range_of, range_said, range_said_frame, range_frame, measure_marked}
use Rattle.size_pending.proofs.Marks.{range_all}
use Rattle.type_sizes.proofs.Written.{none_yet, one_more, too_many, no_room, all-written}
use Rattle.type_sizes.proofs.range_all.Goals as goal

pub returns-then-n-gt-MAX_FRAMES : goal.returns-then-n-gt-MAX_FRAMES
returns-then-n-gt-MAX_FRAMES c = too_many _ _ _ c.if-n-gt-MAX_FRAMES.true

pub returns-then-room-n : goal.returns-then-room-n
returns-then-room-n c = no_room _ _ _ c.if-room-n.true

pub loop-k-init : goal.loop-k-init
loop-k-init c =
    let g = c.args in
    let marks = c.pending_marks-marks.result in
    record {
      written = none_yet (range_frame g.frames.now g.s (counts_of g.least.now) (counts_of g.greatest.now)) g.s _;
      low = known-none (measure_marked g.frames.now g.s marks g.least.now) 16384;
      high = known-none (measure_marked g.frames.now g.s marks g.greatest.now) 16384;
    }

pub loop-k-preserved : goal.loop-k-preserved
loop-k-preserved c =
    let g = c.args in
    let l = c.loop-k in
    let marks = c.pending_marks-marks in
    let low = c.measured-small in
    let high = c.measured-large in
    let p = c.put_frame in
    let there = c.loop-k-test.true in
    let e : c.range_frame.result ≡ range_frame g.frames.now g.s (counts_of g.least.now) (counts_of g.greatest.now) l.k =
    c.range_frame.ensures
    ∙ ap (λ (x : Range). range_said_frame (range_said x))
    (c.range_of.ensures
    ∙ ap (λ (x : Measure). range_of x high.result) low.ensures.0
    ∙ ap (range_of (measure_marked g.frames.now g.s marks.result g.least.now (record { 0 = l.k }))) high.ensures.0
    ∙ range_all g.frames.now g.s marks.result g.least.now g.greatest.now (record { 0 = l.k })
    c.if-n-gt-MAX_FRAMES.false marks.ensures) in
    record {
      written =
          one_more (range_frame g.frames.now g.s (counts_of g.least.now) (counts_of g.greatest.now)) g.s g.out.now l.out
          p.new.s l.k _ l.invariant.written (omega (arith, there, c.if-room-n.false)) e p.ensures;
      low = low.ensures.1;
      high = high.ensures.1;
    }

pub returns : goal.returns
returns c =
    let l = c.loop-k in
    all-written _ _ _ l.out l.k c.if-n-gt-MAX_FRAMES.false c.if-room-n.false
    (omega arith) l.invariant.written
