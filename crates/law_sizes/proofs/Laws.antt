-- The two laws of sizes, for every accepted file, both ways. `fills-when`: what is worked out of a type is this
-- alignment and size exactly where the type has them. `fault-when`: it is this number at this type exactly where that
-- is the lowest faulty type that it rests on. One way by Meant.antt; the other because what a type has, and a fault
-- of its own, is what is worked out of it (Own.antt).
use Prim.Native.Nat.{ℕ, ◌≤◌}
use native.Mathlib.Omega.{arith}
use mathlib.Core.Path.{◌≡◌, refl, sym, ap, ◌∙◌}
use mathlib.Core.List.{List}
use mathlib.Core.Logic.{◌↔◌}
use Rattle.ir.specs.declared.TypeNumber.{TypeNumber}
use Rattle.archive.specs.Starts.{starts_of}
use Rattle.law_rows.proofs.Good.{Good}
use Rattle.rule_sizes.specs.declared.Alignment.{Alignment}
use Rattle.rule_sizes.specs.declared.SizeFault.{SizeFault}
use Rattle.rule_sizes.specs.declared.Measure.{Measure}
use Rattle.rule_sizes.specs.declared.Measure.TheVariants.{Fills, Faulty}
use Rattle.rule_sizes.specs.Sizes.{measure_in}
use Rattle.rule_sizes.specs.Meaning.{Has, RestsOn, Fault, LowestFault}
use Rattle.law_sizes.proofs.Ordered.{Ordered}
use Rattle.law_sizes.proofs.Meant.{meant}
use Rattle.law_sizes.proofs.Own.{has-is, own_is, Low, own-low}
use Rattle.law_sizes.proofs.First.{fault-ordered}

module _ (fr : List ℕ) (good : Good fr) where
  -- a fault of its own is worked out of a type, so that it has no other
  pub fault-is : (n : TypeNumber) (k : SizeFault) → Fault fr n k → measure_in fr (starts_of fr) n ≡ Faulty k n
  fault-is n k h = own_is fr good n k ((fault-ordered fr good n k).0 h)

  -- no lower fault
  pub low : (n j : TypeNumber) (l : SizeFault) → RestsOn fr n j → Fault fr j l
      → Low fr good j (measure_in fr (starts_of fr) n)
  low n j l r h = own-low fr good n j l r ((fault-ordered fr good j l).0 h)

  -- THE LAWS

  pub fills-when : (n : TypeNumber) (a : Alignment) (z : ℕ) → (measure_in fr (starts_of fr) n ≡ Fills a z)
      ↔ Has fr n a z
  fills-when n a z = (λ e. rw e at (meant fr good n), has-is fr good n a z)

  lowest-fault : (n m : TypeNumber) (k : SizeFault) → measure_in fr (starts_of fr) n ≡ Faulty k m → LowestFault fr n m k
  lowest-fault n m k e =
      let h : RestsOn fr n m × Ordered fr m k = rw e at (meant fr good n) in
      record {
        rests = h.0;
        fault = (fault-ordered fr good m k).1 h.1;
        lowest = λ j l r f. let g : Low fr good j (Faulty k m) = rw e at (low n j l r f) in
            g;
      }

  pub same_number : (m q : TypeNumber) → m.0 ≤ q.0 → q.0 ≤ m.0 → m ≡ q
  same_number m q a b = let e : m.0 ≡ q.0 = omega (arith, a, b) in ap (λ (x : ℕ). record { 0 = x }) e

  is-lowest : (n m : TypeNumber) (k : SizeFault) → LowestFault fr n m k → (x : Measure)
      → measure_in fr (starts_of fr) n ≡ x → x ≡ Faulty k m
  is-lowest n m k h (Fills a z) e = absurd (rw e at (low n m k h.rests h.fault))
  is-lowest n m k h (Faulty l q) e =
      let g = lowest-fault n q l e in
      let s : m ≡ q = same_number m q (h.lowest q l g.rests g.fault) (g.lowest m k h.rests h.fault) in
      let own : Fault fr m l = rw s g.fault in
      let d : Faulty k m ≡ Faulty l m = sym (fault-is m k h.fault) ∙ fault-is m l own in rw (sym s) (sym d)

  pub fault-when : (n m : TypeNumber) (k : SizeFault)
      → (measure_in fr (starts_of fr) n ≡ Faulty k m) ↔ LowestFault fr n m k
  fault-when n m k = (lowest-fault n m k, λ h. is-lowest n m k h (measure_in fr (starts_of fr) n) refl)
