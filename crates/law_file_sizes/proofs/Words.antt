-- Sentences of requests 5 and 6, each by itself: the relations hold them by their cases.
use Rattle.std.specs.Prelude.{Some}
use Prim.Native.Nat.{ℕ}
use native.Mathlib.Omega.{arith}
use mathlib.Core.Path.{◌≡◌, refl, sym, ◌∙◌, subst}
use mathlib.Core.List.{List}
use Rattle.ir.specs.declared.TypeNumber.{TypeNumber}
use Rattle.ir.specs.declared.MemberNumber.{MemberNumber}
use Rattle.ir.specs.declared.TypeInner.TheVariants as Ti
use Rattle.archive.specs.Access.{type_at}
use Rattle.rule_sizes.specs.declared.SizeFault.TheVariants.{Misplaced}
use Rattle.rule_sizes.specs.Meaning.{Listed, RestsOn}
use Rattle.law_sizes.proofs.Folded.{never}
use Rattle.rule_ranges.specs.Counts.{Counts}
use Rattle.rule_ranges.specs.MeaningAt.{Holds, BreaksAt, FaultAt}

module _ (fr : List ℕ) where
  -- a type outside the list rests on itself alone
  pub outside_alone : (n m : TypeNumber) → (Listed (type_at fr n) → ⊥) → RestsOn fr n m → m ≡ n
  outside_alone n m h (RestsOn.itself x) = refl
  outside_alone n m h (RestsOn.element x b y count stride e r) =
      absurd (h (subst Listed (sym e) (Listed.array b count stride)))
  outside_alone n m h (RestsOn.part x y first count span i e l r) =
      absurd (h (subst Listed (sym e) (Listed.struct first count span (omega (arith, l)))))

  -- a struct that holds a pending array can't give 43
  pub never-misplaced : (c : Counts) (n : TypeNumber) (first : MemberNumber) (count span : ℕ)
      → type_at fr n ≡ Some (Ti.Struct first count span) → Holds fr n → FaultAt fr c n Misplaced → ⊥
  never-misplaced c n first count span e h f = go f.cause
    where
      go : BreaksAt fr c n → ⊥
      go (BreaksAt.fixed m g b) = g h
      go (BreaksAt.stride m b o stride a z q x s) = never (let y = sym e ∙ q in cc)
