-- `check_frames`: a place that was found is below 1,024.
use Rattle.std.proofs.Common.{arith, sym, ◌∙◌}
use Rattle.scan.proofs.Laws.{found_at}
use Rattle.check_file.proofs.check_frames.Goals as goal

pub overflow_cast-result-in-Some : goal.overflow_cast-result-in-Some
overflow_cast-result-in-Some c =
    omega (arith, (found_at _ _ _ (sym c.first_disorder.ensures ∙ c.in-Some.is)).inside, c.frame_count.ensures)
