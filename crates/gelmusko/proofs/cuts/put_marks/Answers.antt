-- `put_marks`: a turn writes one byte, and the last one has written all.
use Rattle.std.proofs.Common.{◌≡◌, ◌++◌, ℕ, List, drop, ap, ◌∙◌, arith}
use Rattle.scan.specs.Lists.{build}
use Rattle.scan.proofs.Fill.{build-zero, build-turn}
use Rattle.gelmusko.proofs.cuts.put_marks.Goals as goal

-- all rows passed
all-put : (f : ℕ → ℕ) (d table : List ℕ) (k : ℕ) → table ≡ build f k ++ drop k d → k ≡ 1024
    → table ≡ build f 1024 ++ drop 1024 d
all-put f d table k e q = e ∙ ap (λ (j : ℕ). build f j ++ drop j d) q

pub loop-k-init : goal.loop-k-init
loop-k-init c = build-zero _ _

pub loop-k-preserved : goal.loop-k-preserved
loop-k-preserved c =
    build-turn _ c.args.table.now c.loop-k.table c.loop-k.k _ c.loop-k.invariant
    (omega (arith, c.requires)) c.mark_byte.ensures

pub returns : goal.returns
returns c =
    all-put _ _ _ c.loop-k.k c.loop-k.invariant (omega arith)
