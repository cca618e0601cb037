-- All of the lines, or none.
use Rattle.std.proofs.Common.{refl, ap, ◌∙◌, ℕ, ◌++◌, length, drop, arith}
use native.Mathlib.Nat.{zero-add}
use Rattle.law_file.proofs.Printed.{not-printed, all-printed}
use Rattle.explain_words.proofs.Writing.{put-fits}
use Rattle.explain_file.proofs.print.Goals as goal

pub returns-then-out-lines : goal.returns-then-out-lines
returns-then-out-lines c =
    let e = not-printed _ _ c.if-out-lines.true in record { outcome = e.0; out = e.1 }

pub returns : goal.returns
returns c =
    let l = c.args.lines.now in
    let o = c.args.out.now in
    let p = c.copy in
    let h = c.if-out-lines.false in
    let e =
    all-printed l o p.new.out (length l) refl (omega (arith, h))
    (p.ensures ∙ put-fits o l 0 (omega (arith, h)) ∙ ap (λ (k : ℕ). l ++ drop k o) (zero-add (length l))) in
    record { outcome = e.0; out = e.1 }
