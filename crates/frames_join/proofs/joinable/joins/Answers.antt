-- `joins`: a turn asks one frame more, and the last one has asked all.
use Rattle.std.proofs.Common.{ℕ, ap, ◌∙◌}
use Rattle.scan.proofs.Laws.{all-and}
use Rattle.frames.specs.Bytes.{frame_at}
use Rattle.law_join.specs.Joinable.{frame_joins}
use Rattle.frames_join.proofs.joinable.joins.Goals as goal

pub loop-k-preserved : goal.loop-k-preserved
loop-k-preserved c =
    all-and (λ (i : ℕ). frame_joins c.find_starts-s.result (frame_at c.args.frames.now i)) c.loop-k.k c.loop-k.invariant
    (c.frame_joins-ok.ensures ∙ ap (frame_joins c.find_starts-s.result) c.frame_at.ensures)
