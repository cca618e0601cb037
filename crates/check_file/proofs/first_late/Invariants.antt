-- `first_late`: what was found is the lowest part that is late for one of the owners passed.
use Rattle.std.proofs.Common.{◌≡◌, ℕ}
use Rattle.scan.specs.Lowest.{lowest, all_below}
use Rattle.frames.specs.Bytes.{frame_count}
use Rattle.archive.specs.Parts.{early_for}
use Rattle.check_file.proofs.first_late.Given as goal

abbrev pub invariant-loop-o : goal.invariant-loop-o
invariant-loop-o l =
    l.found ≡ lowest (λ (k : ℕ). all_below (λ (j : ℕ). early_for l.frames j k) l.o) (frame_count l.frames)
