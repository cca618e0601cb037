-- `first_late`: the parts that are looked at are those that each frame holds, one frame after the other.
use Rattle.std.proofs.Common.{arith, ◌≡◌, ap, ◌∙◌}
use Rattle.scan.specs.Lowest.{lowest}
use Rattle.scan.proofs.Laws.{lowest-tests}
use Rattle.answers.specs.Limit.{max_frames}
use Rattle.frames.specs.Bytes.{frame_at, frame_count}
use Rattle.archive.specs.declared.Starts.{Starts}
use Rattle.archive.specs.declared.Held.{Held}
use Rattle.archive.specs.Starts.{starts_of}
use Rattle.archive.specs.Parts.{held_by, early_in, early_for}
use Rattle.archive.proofs.Owners.{no-owner, starts-small, held-within}
use Rattle.check_file.proofs.first_late.Goals as goal

pub loop-o-init : goal.loop-o-init
loop-o-init c = no-owner (early_for c.args.frames.now) _

pub held_by-h-requires : goal.held_by-h-requires
held_by-h-requires c =
    let small = starts-small c.args.frames.now max_frames c.requires.1 in
    rw c.requires.0
    (omega (arith, c.loop-o-test.true, c.frame_count-n.ensures, c.requires.1), small.0, small.1)

pub first_late_of-late-requires : goal.first_late_of-late-requires
first_late_of-late-requires c =
    let a = c.args.frames.now in
    let o = c.loop-o.o in
    let holds : c.held_by-h.result ≡ held_by (starts_of a) o (frame_at a o) = c.held_by-h.ensures
    ∙ ap (held_by c.args.s o) c.frame_at.ensures
    ∙ ap (λ (s : Starts). held_by s o (frame_at a o)) c.requires.0 in
    rw holds (held-within a o (frame_at a o))

pub loop-o-preserved : goal.loop-o-preserved
loop-o-preserved c =
    let a = c.args.frames.now in
    let o = c.loop-o.o in
    let holds : c.held_by-h.result ≡ held_by (starts_of a) o (frame_at a o) = c.held_by-h.ensures
    ∙ ap (held_by c.args.s o) c.frame_at.ensures
    ∙ ap (λ (s : Starts). held_by s o (frame_at a o)) c.requires.0 in
    c.lower-found.ensures
    ∙ lowest-tests (early_for a) _ _ c.loop-o.invariant
    (c.first_late_of-late.ensures ∙ ap (λ (h : Held). lowest (early_in a h) (frame_count a)) holds)
