-- Words that the programs take: `wgsl` is these four letters and no others, and of two words either may come first. By
-- cases.
use Prim.Native.Nat.{ℕ}
use mathlib.Core.Path.{◌≡◌, refl}
use mathlib.Core.Bool.{true, ◌&&◌}
use mathlib.Core.List.{List, [], ◌∷◌}
use native.Mathlib.Omega.{arith}
use lib.Dec.{eqb}
use lib.ListN.{length}
use borrow.Author.Tests.{eqb-true}
use Rattle.scan.proofs.Laws.{and_first, and_second}
use Rattle.program_limit.specs.declared.Word.{Word}
use Rattle.program_limit.specs.declared.Word.TheVariants.{Absent, Limit, Wgsl, Neither}
use Rattle.program_limit.specs.Word.{is_wgsl, asked_by}

abbrev wgsl : List ℕ
wgsl = 119 ∷ 103 ∷ 115 ∷ 108 ∷ []

pub wgsl-taken : is_wgsl wgsl ≡ true
unfolding is_wgsl
wgsl-taken = refl

pub wgsl-only : (w : List ℕ) → is_wgsl w ≡ true → w ≡ wgsl
unfolding is_wgsl
wgsl-only [] e = cc
wgsl-only (a ∷ []) e = cc
wgsl-only (a ∷ b ∷ []) e = cc
wgsl-only (a ∷ b ∷ c ∷ []) e = cc
wgsl-only (a ∷ b ∷ c ∷ d ∷ []) e =
    let bcd = and_second (eqb a 119) (eqb b 103 && (eqb c 115 && eqb d 108)) e in
    let cd = and_second (eqb b 103) (eqb c 115 && eqb d 108) bcd in
    rw (
      eqb-true a 119 (and_first (eqb a 119) _ e),
      eqb-true b 103 (and_first (eqb b 103) _ bcd),
      eqb-true c 115 (and_first (eqb c 115) _ cd),
      eqb-true d 108 (and_second (eqb c 115) _ cd),
    )
wgsl-only (a ∷ b ∷ c ∷ d ∷ x ∷ w) e =
    let n : length (a ∷ b ∷ c ∷ d ∷ x ∷ w)
    ≡ 4 = eqb-true _ 4 (and_first (eqb (length (a ∷ b ∷ c ∷ d ∷ x ∷ w)) 4) _ e) in
    absurd (omega (arith, n))

pub either_order : (v w : Word) → asked_by v w ≡ asked_by w v
either_order Absent Absent = refl
either_order Absent (Limit n) = refl
either_order Absent Wgsl = refl
either_order Absent Neither = refl
either_order (Limit m) Absent = refl
either_order (Limit m) (Limit n) = refl
either_order (Limit m) Wgsl = refl
either_order (Limit m) Neither = refl
either_order Wgsl Absent = refl
either_order Wgsl (Limit n) = refl
either_order Wgsl Wgsl = refl
either_order Wgsl Neither = refl
either_order Neither Absent = refl
either_order Neither (Limit n) = refl
either_order Neither Wgsl = refl
either_order Neither Neither = refl
