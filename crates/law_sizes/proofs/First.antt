-- `fault-ordered`: the first of the three causes that holds is the one that the tests find. What has a cause of 43 or
-- 44 is in the list, and a type has no more than one alignment and size, so that a stride that stands well at one
-- breaks no rule at another.
use Rattle.std.specs.Prelude.{Some}
use Prim.Native.Nat.{ℕ, ◌<◌}
use native.Mathlib.Omega.{arith}
use mathlib.Core.Path.{◌≡◌, refl, sym, ◌∙◌}
use mathlib.Core.Bool.{Bool, true, false, ◌&&◌}
use mathlib.Core.List.{List}
use mathlib.Core.Logic.{◌↔◌}
use lib.Dec.{leb}
use Rattle.ir.specs.declared.TypeNumber.{TypeNumber}
use Rattle.ir.specs.declared.MemberNumber.{MemberNumber}
use Rattle.ir.specs.declared.ArraySize.TheVariants as As
use Rattle.ir.specs.declared.TypeInner.TheVariants as Ti
use Rattle.archive.specs.Access.{type_at}
use Rattle.law_rows.proofs.Good.{Good}
use Rattle.rule_sizes.specs.declared.Alignment.{Alignment}
use Rattle.rule_sizes.specs.declared.SizeFault.{SizeFault}
use Rattle.rule_sizes.specs.declared.SizeFault.TheVariants.{Unmeasured, Misplaced, Huge}
use Rattle.rule_sizes.specs.declared.Measure.TheVariants.{Fills}
use Rattle.rule_sizes.specs.Wgsl.{is_multiple}
use Rattle.rule_sizes.specs.Sizes.{fault_number}
use Rattle.rule_sizes.specs.Meaning.{Listed, Strided, Has, Outside, Breaks, Exceeds, Cause, Fault}
use Rattle.law_sizes.proofs.Folded.{never}
use Rattle.law_sizes.proofs.Ordered.{Ordered}
use Rattle.law_sizes.proofs.Meant.{strided, strided-is}
use Rattle.law_sizes.proofs.Own.{has-is}

-- what comes before 42, 43 and 44

pub before-42 : (C : SizeFault → Type 0) (j : SizeFault) → fault_number j < 42 → C j → ⊥
before-42 C Unmeasured l h = omega (arith, l)
before-42 C Misplaced l h = omega (arith, l)
before-42 C Huge l h = omega (arith, l)

pub before-43 : (C : SizeFault → Type 0) → (C Unmeasured → ⊥) → (j : SizeFault) → fault_number j < 43 → C j → ⊥
before-43 C o Unmeasured l h = o h
before-43 C o Misplaced l h = omega (arith, l)
before-43 C o Huge l h = omega (arith, l)

pub before-44 : (C : SizeFault → Type 0) → (C Unmeasured → ⊥) → (C Misplaced → ⊥) → (j : SizeFault)
    → fault_number j < 44
    → C j → ⊥
before-44 C o b Unmeasured l h = o h
before-44 C o b Misplaced l h = b h
before-44 C o b Huge l h = omega (arith, l)

module _ (fr : List ℕ) (good : Good fr) where
  -- what is an array or a struct with members is in the list
  array-in : (n b : TypeNumber) (count stride : ℕ) → type_at fr n ≡ Some (Ti.Array b (As.Constant count) stride)
      → Outside fr n → ⊥
  array-in n b count stride e h = h (rw e (Listed.array b count stride))

  struct-in : (n : TypeNumber) (first : MemberNumber) (count span : ℕ)
      → type_at fr n ≡ Some (Ti.Struct first count span) → 0 < count → Outside fr n → ⊥
  struct-in n first count span e l h = h (rw e (Listed.struct first count span l))

  -- a stride that stands well for an element's alignment and size breaks no rule
  stands-well : (n b : TypeNumber) (count stride : ℕ) (a : Alignment) (z : ℕ)
      → type_at fr n ≡ Some (Ti.Array b (As.Constant count) stride) → Has fr b a z → Strided a z stride
      → Breaks fr n → ⊥
  stands-well n b count stride a z e h s (Breaks.stride m c count' stride' a' z' e' h' s') =
      let q : Some (Ti.Array b (As.Constant count) stride) ≡ Some (Ti.Array c (As.Constant count') stride')
      = sym e ∙ e' in
      let p : b ≡ c = cc in
      let r : stride ≡ stride' = cc in
      let k : Has fr b a' z' = rw p h' in
      let w : Fills a z ≡ Fills a' z' = sym (has-is fr good b a z h) ∙ has-is fr good b a' z' k in
      let u : a ≡ a' = cc in
      let v : z ≡ z' = cc in
      s' (rw (sym u, sym v, sym r) s)
  stands-well n b count stride a z e h s (Breaks.members m first c span aligns sizes a' e' h' g p) =
      never (let x = sym e ∙ e' in cc)

  is-first : (n : TypeNumber) (k : SizeFault) → Ordered fr n k → Fault fr n k
  is-first n k (Ordered.outside m h) = record { cause = h; first = before-42 (Cause fr n) }
  is-first n k (Ordered.stride m b count stride a z e h s) = record {
    cause = Breaks.stride n b count stride a z e h s;
    first = before-43 (Cause fr n) (array-in n b count stride e);
  }
  is-first n k (Ordered.members m first count span aligns sizes a e h g p) = record {
    cause = Breaks.members n first count span aligns sizes a e h g p;
    first = before-43 (Cause fr n) (struct-in n first count span e (omega (arith, g.there)));
  }
  is-first n k (Ordered.huge m b count stride a z e h s l) = record {
    cause = Exceeds.array n b count stride a z e h l;
    first = before-44 (Cause fr n) (array-in n b count stride e) (stands-well n b count stride a z e h s);
  }

  exceeds-fault : (n : TypeNumber) → Exceeds fr n → (Breaks fr n → ⊥) → Ordered fr n Huge
  exceeds-fault n (Exceeds.array m b count stride a z e h l) well = go (is_multiple a stride && leb z stride) refl
    where
      go : (t : Bool) → (is_multiple a stride && leb z stride) ≡ t → Ordered fr n Huge
      go true q = Ordered.huge n b count stride a z e h (strided fr a z stride q) l
      go false q =
          absurd
          (well
          (Breaks.stride n b count stride a z e h (λ s. never (let x = sym q ∙ strided-is fr a z stride s in cc))))

  breaks-fault : (n : TypeNumber) → Breaks fr n → Ordered fr n Misplaced
  breaks-fault n (Breaks.stride m b count stride a z e h s) = Ordered.stride n b count stride a z e h s
  breaks-fault n (Breaks.members m first count span aligns sizes a e h g p) =
      Ordered.members n first count span aligns sizes a e h g p

  first-is : (n : TypeNumber) (k : SizeFault) → Fault fr n k → Ordered fr n k
  first-is n Unmeasured f = Ordered.outside n f.cause
  first-is n Misplaced f = breaks-fault n f.cause
  first-is n Huge f = exceeds-fault n f.cause (f.first Misplaced (omega arith))

  pub fault-ordered : (n : TypeNumber) (k : SizeFault) → Fault fr n k ↔ Ordered fr n k
  fault-ordered n k = (first-is n k, is-first n k)
