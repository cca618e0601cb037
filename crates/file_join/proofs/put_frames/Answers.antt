-- `put_frames`: a turn puts one more part, between the bounds that were read.
use Rattle.std.proofs.Common.{arith, rules, refl, ap, ◌∙◌}
use Rattle.frames.specs.Bytes.{frame_at}
use Rattle.law_moved.specs.Frames.{moved_frame}
use Rattle.law_join.specs.Join.{bounds, join_moves}
use Rattle.file_join.specs.ForProofs.{Fitting}
use Rattle.file_join.proofs.Fits.{moved_at}
use Rattle.file_join.proofs.Parts.{part-read, none-joined, one-joined}
use Rattle.file_join.proofs.put_frames.Goals as goal

pub loop-i-init : goal.loop-i-init
loop-i-init c = none-joined _ _ _

pub put_part-requires-clause-bounds : goal.put_part-requires-clause-bounds
put_part-requires-clause-bounds c =
    let g = c.args in
    let i = c.loop-i.i in
    let l = c.loop-i-test.true in
    let a = part-read g.frames.now _ i l (c.bounds-p.ensures ∙ ap bounds c.find_starts-s.ensures) in
    let b = part-read g.more.now _ i l (c.bounds-q.ensures ∙ ap bounds c.find_starts.ensures) in (
      a.rises,
      (omega (arith, a.within, c.requires.0), omega (arith, b.within, b.rises, c.requires.1.0)),
    )

pub put_part-requires-in-loop-i-clause-bounds : goal.put_part-requires-in-loop-i-clause-bounds
put_part-requires-in-loop-i-clause-bounds c =
    let g = c.args in
    let i = c.loop-i.i in
    let l = c.loop-i-test.true in
    let a = part-read g.frames.now _ i l (c.bounds-p.ensures ∙ ap bounds c.find_starts-s.ensures) in
    let b = part-read g.more.now _ i l (c.bounds-q.ensures ∙ ap bounds c.find_starts.ensures) in (
      b.rises,
      (omega (arith, b.within, c.requires.1.0), omega (arith, a.within, c.requires.0)),
    )

pub loop-i-preserved : goal.loop-i-preserved
loop-i-preserved c =
    let g = c.args in
    let i = c.loop-i.i in
    let l = c.loop-i-test.true in
    let a = part-read g.frames.now _ i l (c.bounds-p.ensures ∙ ap bounds c.find_starts-s.ensures) in
    let b = part-read g.more.now _ i l (c.bounds-q.ensures ∙ ap bounds c.find_starts.ensures) in
    let s = c.find_starts-s.result in
    let fits : Fitting s g.more.now = rw c.find_starts-s.ensures c.requires.1.1 in
    one-joined g.frames.now g.more.now i _ a b c.find_starts-s.ensures c.loop-i.invariant
    (c.put_part.ensures (frame_at g.frames.now) (λ k f l p. search rules))
    (c.put_part-in-loop-i.ensures (λ k. moved_frame (join_moves s) (frame_at g.more.now k))
    (λ k f l p. moved_at s g.more.now fits k (omega (arith, b.within, l)) refl (search rules)))
