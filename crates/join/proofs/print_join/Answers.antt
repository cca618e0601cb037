-- The lines of the join are a part of the buffer.
use Rattle.std.proofs.Common.{◌≡◌, ◌≤◌, ◌+◌, ◌*◌, sym, ap, ◌∙◌, ℕ, List, length, take, arith}
use lib.ListN.{length-take}
use lib.Seq.{length-take-le}
use Rattle.text.specs.Lines.{line_count}
use Rattle.law_join.specs.declared.JoinedFile.{JoinedFile}
use Rattle.law_join.specs.declared.JoinedFile.TheVariants.{Frames}
use Rattle.law_join.specs.File.{join_files, joined_after}
use Rattle.law_join.proofs.Outcomes.{Joined, joined_length, joined-when}
use Rattle.law_join.proofs.Buffers.{written-front}
use Rattle.join.proofs.print_join.Goals as goal

lines-within : (limit : ℕ) (t u : List ℕ) (f g : ℕ) (out last : List ℕ) (r : JoinedFile) (k : ℕ)
    → r ≡ join_files limit t u f g (length out) → last ≡ joined_after limit t u f g out → r ≡ Frames k
    → 33 * k ≤ length last
lines-within limit t u f g out last r k er el ek =
    let joins : join_files limit t u f g (length out) ≡ Frames k = sym er ∙ ek in
    let j : Joined limit t u f g (length out) k = (joined-when limit t u f g (length out) k).0 joins in
    let q : length (take (33 * k) last) ≡ 33 * (line_count t + line_count u) =
    ap (λ (l : List ℕ). length (take (33 * k) l)) el
    ∙ (ap length (written-front limit t u f g out k joins) ∙ joined_length t u) in
    omega (arith, q, j.frames, length-take (33 * k) last)

pub slice_bounds-lines-end : goal.slice_bounds-lines-end
slice_bounds-lines-end g c =
    let t = c.join_files in lines-within _ _ _ _ _ _ _ _ _ t.ensures.outcome t.ensures.joined c.in-Frames.is

pub slice_bounds-write_all-end : goal.slice_bounds-write_all-end
slice_bounds-write_all-end g c =
    let t = c.join_files in
    sym (length-take-le _ _ (lines-within _ _ _ _ _ _ _ _ _ t.ensures.outcome t.ensures.joined c.in-Frames.is))
