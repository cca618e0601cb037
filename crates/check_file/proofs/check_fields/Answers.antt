-- `check_fields`: a place that was found is below 1,024.
use Rattle.std.proofs.Common.{arith, sym, ◌∙◌}
use Rattle.scan.proofs.Laws.{found_at}
use Rattle.check_file.proofs.check_fields.Goals as goal

pub overflow_cast-result : goal.overflow_cast-result
overflow_cast-result c =
    omega (arith, (found_at _ _ _ (sym c.first_unfit.ensures ∙ c.in-Some.is)).inside, c.requires)
