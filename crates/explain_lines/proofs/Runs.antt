-- Pieces with empty words after them are the same bytes; three runs, one after the other, are one. From the laws of
-- runs of bytes.
use Prim.Native.Nat.{ℕ, zero, suc, ◌+◌, ◌≤◌}
use native.Mathlib.Omega.{arith}
use mathlib.Core.Path.{◌≡◌, refl, sym, ap, ◌∙◌}
use mathlib.Core.List.{List, [], ◌∷◌, ◌++◌}
use lib.ListN.{length, length-append}
use Rattle.rule_explain.specs.Words.{word_table, word_bytes}
use Rattle.rule_explain.specs.Lines.{piece_bytes, spelled}
use Rattle.explain_words.specs.ForProofs.{written}
use Rattle.explain_words.proofs.Writing.{join, spelled-more}
use Rattle.explain_lines.specs.ForProofs.{filled}

no_bytes : piece_bytes 0 ≡ []
unfolding piece_bytes word_bytes word_table
no_bytes = refl

empty : (k : ℕ) → spelled (filled k []) ≡ []
unfolding filled spelled
empty zero = refl
empty (suc k) = ap (λ (l : List ℕ). l ++ spelled (filled k [])) no_bytes ∙ empty k

pub spelled-filled : (k : ℕ) (l : List ℕ) → spelled (filled k l) ≡ spelled l
unfolding filled spelled
spelled-filled zero l = refl
spelled-filled (suc k) [] = ap (λ (l : List ℕ). l ++ spelled (filled k [])) no_bytes ∙ empty k
spelled-filled (suc k) (p ∷ l) = ap (λ (r : List ℕ). piece_bytes p ++ r) (spelled-filled k l)

pub three : (o₀ o₁ o₂ o₃ x y z : List ℕ) (a s r : ℕ) → a ≡ 0 + length x → s ≡ a + length y → r ≡ s + length z
    → r ≤ length o₀
    → o₁ ≡ written o₀ 0 x → o₂ ≡ written o₁ a y → o₃ ≡ written o₂ s z → (r ≡ length (x ++ y ++ z))
    × (o₃ ≡ written o₀ 0 (x ++ y ++ z))
three o₀ o₁ o₂ o₃ x y z a s r ea es er h e₁ e₂ e₃ =
    let xy : length (x ++ y) ≡ length x + length y = length-append x y in
    let sum : s ≡ 0 + length (x ++ y) = omega arith in
    let two : o₂ ≡ written o₀ 0 (x ++ y) =
    e₂ ∙ ap (λ (k : ℕ). written o₁ k y) ea ∙ ap (λ (o : List ℕ). written o (0 + length x) y) e₁
    ∙ join o₀ x y 0 (omega arith) in (
      omega (arith, length-append (x ++ y) z),
      e₃ ∙ ap (λ (k : ℕ). written o₂ k z) sum ∙ ap (λ (o : List ℕ). written o (0 + length (x ++ y)) z) two
          ∙ join o₀ (x ++ y) z 0 (omega arith),
    )

-- the same of pieces
pub three-spelled : (h b t : List ℕ) → spelled (h ++ b ++ t) ≡ spelled h ++ spelled b ++ spelled t
three-spelled h b t = spelled-more (h ++ b) t ∙ ap (λ (l : List ℕ). l ++ spelled t) (spelled-more h b)

-- and where empty words fill up two of them
pub runs-filled : (h b t hw bw tw : List ℕ) (i j : ℕ) → hw ≡ h → bw ≡ filled i b → tw ≡ filled j t
    → spelled (hw ++ bw ++ tw) ≡ spelled (h ++ b ++ t)
runs-filled h b t hw bw tw i j eh eb et =
    three-spelled hw bw tw ∙ ap (λ (l : List ℕ). spelled l ++ spelled bw ++ spelled tw) eh
    ∙ ap (λ (l : List ℕ). spelled h ++ l ++ spelled tw) (ap spelled eb ∙ spelled-filled i b)
    ∙ ap (λ (l : List ℕ). spelled h ++ spelled b ++ l) (ap spelled et ∙ spelled-filled j t)
    ∙ sym (three-spelled h b t)
