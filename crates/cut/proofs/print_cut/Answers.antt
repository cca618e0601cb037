-- The lines of the cut are a part of the buffer.
use Rattle.std.proofs.Common.{◌≡◌, ◌≤◌, ◌*◌, sym, ap, ◌∙◌, ℕ, List, length, take, arith}
use lib.ListN.{length-take}
use lib.Seq.{length-take-le}
use Rattle.ir.specs.declared.RowNumber.{RowNumber}
use Rattle.law_file.proofs.Printed.{lines_long}
use Rattle.law_cut.specs.declared.CutText.{CutText}
use Rattle.law_cut.specs.declared.CutText.TheVariants.{Lines}
use Rattle.law_cut.specs.File.{cut_text, cut_after}
use Rattle.law_cut.proofs.Outcomes.{Wrote, wrote}
use Rattle.cut.proofs.print_cut.Goals as goal

lines-within : (limit : ℕ) (t : List ℕ) (f : ℕ) (n : RowNumber) (out last : List ℕ) (r : CutText) (k : ℕ)
    → r ≡ cut_text limit t f n (length out) → last ≡ cut_after limit t f n out → r ≡ Lines k → 33 * k ≤ length last
lines-within limit t f n out last r k er el ek =
    let w : Wrote limit t f n out k = wrote limit t f n out k (sym er ∙ ek) in
    let q : length (take (33 * k) last) ≡ 33 * k =
    ap (λ (l : List ℕ). length (take (33 * k) l)) el
    ∙ (ap length w.text ∙ (lines_long _ _ ∙ ap (λ (j : ℕ). 33 * j) (sym w.lines))) in
    omega (arith, q, length-take (33 * k) last)

pub slice_bounds-lines-end : goal.slice_bounds-lines-end
slice_bounds-lines-end g c =
    let t = c.cut_text in lines-within _ _ _ _ _ _ _ _ t.ensures.outcome t.ensures.cut c.in-Lines.is

pub slice_bounds-write_all-end : goal.slice_bounds-write_all-end
slice_bounds-write_all-end g c =
    let t = c.cut_text in
    sym (length-take-le _ _ (lines-within _ _ _ _ _ _ _ _ t.ensures.outcome t.ensures.cut c.in-Lines.is))
