-- `moved_spot`: in each place the number moved.
use Rattle.std.proofs.Common.{ap, ◌∙◌}
use Rattle.law_moved.specs.Frames.{with_half, with_word}
use Rattle.frames_join.proofs.Laws.{number-moved}
use Rattle.frames_join.proofs.moved.moved_spot.Goals as goal

pub returns-in-B2 : goal.returns-in-B2
returns-in-B2 c =
    rw c.in-B2.is
    (λ h. c.with_b2.ensures ∙ ap (with_half c.args.f 2)
    (number-moved _ _ _ c.named.ensures c.count_of.ensures c.past-n.ensures.moved h))

pub returns-in-B4 : goal.returns-in-B4
returns-in-B4 c =
    rw c.in-B4.is
    (λ h. c.with_b4.ensures ∙ ap (with_half c.args.f 4)
    (number-moved _ _ _ c.count.ensures c.count_of-in-B4.ensures c.past-n-in-B4.ensures.moved h))

pub returns-in-B8 : goal.returns-in-B8
returns-in-B8 c =
    rw c.in-B8.is
    (λ h. c.with_b8.ensures ∙ ap (with_word c.args.f 8)
    (number-moved _ _ _ c.third.ensures c.count_of-in-B8.ensures c.past-n-in-B8.ensures.moved h))

pub returns-in-B12 : goal.returns-in-B12
returns-in-B12 c =
    rw c.in-B12.is
    (λ h. c.with_b12.ensures ∙ ap (with_word c.args.f 12)
    (number-moved _ _ _ c.last.ensures c.count_of-in-B12.ensures c.past-n-in-B12.ensures.moved h))
