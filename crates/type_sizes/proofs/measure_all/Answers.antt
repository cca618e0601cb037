-- `measure_all`: what the types passed fill stands at the front of the buffer, and the table holds what was found.
use Rattle.std.proofs.Common.{arith, ◌≡◌, ap, ◌∙◌, []}
use Rattle.rule_sizes.specs.declared.Measure.{Measure}
use Rattle.rule_sizes.specs.Sizes.{measure_said, size_said_frame, size_frame}
use Rattle.rule_sizes.proofs.Laws.{known-none}
use Rattle.rule_ranges.specs.Ranges.{measure_marked}
use Rattle.rule_ranges.proofs.Laws.{no-counts}
use Rattle.type_sizes.proofs.Written.{none_yet, one_more, too_many, no_room, all-written}
use Rattle.type_sizes.proofs.measure_all.Goals as goal

pub returns-then-n-gt-MAX_FRAMES : goal.returns-then-n-gt-MAX_FRAMES
returns-then-n-gt-MAX_FRAMES c = too_many _ _ _ c.if-n-gt-MAX_FRAMES.true

pub returns-then-out-n : goal.returns-then-out-n
returns-then-out-n c = no_room _ _ _ c.if-out-n.true

pub loop-k-init : goal.loop-k-init
loop-k-init c =
    let g = c.args in
    record {
      written = none_yet (size_frame g.frames.now g.s) g.s _;
      known = known-none (measure_marked g.frames.now g.s [] []) 16384;
    }

pub loop-k-preserved : goal.loop-k-preserved
loop-k-preserved c =
    let g = c.args in
    let l = c.loop-k in
    let m = c.measured-m in
    let p = c.put_frame in
    let there = c.loop-k-test.true in
    let e : c.measure_frame.result ≡ size_frame g.frames.now g.s l.k = c.measure_frame.ensures
    ∙ ap (λ (x : Measure). size_said_frame (measure_said x)) (m.ensures.0 ∙ no-counts g.frames.now g.s _ _) in
    record {
      written =
          one_more (size_frame g.frames.now g.s) g.s g.out.now l.out p.new.s l.k _ l.invariant.written
          (omega (arith, there, c.if-out-n.false)) e p.ensures;
      known = m.ensures.1;
    }

pub returns : goal.returns
returns c =
    let l = c.loop-k in
    all-written _ _ _ l.out l.k c.if-n-gt-MAX_FRAMES.false c.if-out-n.false
    (omega arith) l.invariant.written
