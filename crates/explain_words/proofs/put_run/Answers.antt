-- A turn writes one piece more, where those before it end.
use Rattle.std.proofs.Common.{◌≡◌, refl, ap, ◌∙◌, ◌+◌, ◌*◌, ◌<◌, ◌≤◌, ℕ, List, ◌++◌, length, take, arith}
use lib.ListN.{get_or, length-append}
use Rattle.rule_explain.specs.Lines.{piece_bytes, spelled}
use Rattle.explain_words.specs.ForProofs.{written}
use Rattle.explain_words.proofs.Writing.{join, written-long, spelled-one}
use Rattle.explain_words.proofs.put_run.Goals as goal

-- one piece more
more : (ps out₀ out last : List ℕ) (at next r i p : ℕ) → i < length ps → at + 48 * length ps ≤ length out₀
    → next ≡ at + length (spelled (take i ps)) → next ≤ at + 48 * i → out ≡ written out₀ at (spelled (take i ps))
    → p ≡ get_or ps i 0 → r ≡ next + length (piece_bytes p) → r ≤ next + 48 → last ≡ written out next (piece_bytes p)
    → (r ≡ at + length (spelled (take (i + 1) ps))) × (last ≡ written out₀ at (spelled (take (i + 1) ps)))
    × (length last ≡ length out₀)
more ps out₀ out last at next r i p h room en ln eo ep er lr el =
    let x = spelled (take i ps) in
    let y = piece_bytes (get_or ps i 0) in
    let s = spelled-one ps i h in
    let yp : piece_bytes p ≡ y = ap piece_bytes ep in
    let l : last ≡ written out₀ at (x ++ y) =
    el ∙ ap (written out next) yp ∙ ap (λ (o : List ℕ). written o next y) eo
    ∙ ap (λ (k : ℕ). written (written out₀ at x) k y) en ∙ join out₀ x y at (omega arith) in
    let long : length (x ++ y) ≡ length x + length y = length-append x y in
    let fits : at + length (x ++ y) ≤ length out₀ = omega (arith, ap length yp) in
    (rw s (omega (arith, ap length yp)), rw s l, ap length l ∙ written-long out₀ (x ++ y) at fits)

pub loop-p-preserved : goal.loop-p-preserved
loop-p-preserved c =
    let g = c.args in
    let l = c.loop-p in
    let q = c.put_piece-next in
    let i = l.invariant in
    let m =
    more g.pieces.now g.out.now l.out q.new.out g.at l.next q.result l.p-index _
    (omega arith) c.requires i.0 i.1 i.2 refl q.ensures.0 q.ensures.1 q.ensures.2 in
    (m.0, omega (arith, i, q.ensures.1), m.1, m.2)
