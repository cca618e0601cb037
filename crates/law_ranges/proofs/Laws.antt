-- The two laws of sizes at given counts, for every accepted file, both ways. `has-at-when`: what is worked out of a
-- type is this alignment and size exactly where the type has them. `fault-at-when`: it is this number at this type
-- exactly where that is the lowest faulty type that it rests on. One way by Meant.antt; the other because what a type
-- has, and a fault of its own, is what is worked out of it (Own.antt).
use Prim.Native.Nat.{ℕ}
use mathlib.Core.Path.{◌≡◌, refl, sym, ◌∙◌}
use mathlib.Core.List.{List}
use mathlib.Core.Logic.{◌↔◌}
use Rattle.ir.specs.declared.TypeNumber.{TypeNumber}
use Rattle.archive.specs.Starts.{starts_of}
use Rattle.law_rows.proofs.Good.{Good}
use Rattle.rule_sizes.specs.declared.Alignment.{Alignment}
use Rattle.rule_sizes.specs.declared.SizeFault.{SizeFault}
use Rattle.rule_sizes.specs.declared.Measure.{Measure}
use Rattle.rule_sizes.specs.declared.Measure.TheVariants.{Fills, Faulty}
use Rattle.law_sizes.proofs.Own.{Low}
use Rattle.law_sizes.proofs.Laws.{same_number}
use Rattle.rule_ranges.specs.Counts.{Counts, measure_at}
use Rattle.rule_ranges.specs.MeaningAt.{HasAt, RestsOnAt, FaultAt, LowestFaultAt}
use Rattle.law_ranges.proofs.Ordered.{OrderedAt}
use Rattle.law_ranges.proofs.Meant.{meant-at}
use Rattle.law_ranges.proofs.Own as O
use Rattle.law_ranges.proofs.FirstAt.{fault-at-ordered}

module _ (fr : List ℕ) (good : Good fr) (c : Counts) where
  abbrev at : TypeNumber → Measure
  at n = measure_at fr (starts_of fr) c n

  -- a fault of its own is worked out of a type, so that it has no other
  pub fault-at-is : (n : TypeNumber) (k : SizeFault) → FaultAt fr c n k → measure_at fr (starts_of fr) c n ≡ Faulty k n
  fault-at-is n k h = O.own-at-is fr good c n k ((fault-at-ordered fr good c n k).0 h)

  low-at : (n j : TypeNumber) (l : SizeFault) → RestsOnAt fr n j → FaultAt fr c j l → Low fr good j (at n)
  low-at n j l r h = O.low-at fr good c n j l r ((fault-at-ordered fr good c j l).0 h)

  -- THE LAWS

  pub has-at-when : (n : TypeNumber) (a : Alignment) (z : ℕ)
      → (measure_at fr (starts_of fr) c n ≡ Fills a z) ↔ HasAt fr c n a z
  has-at-when n a z = (λ e. rw e at (meant-at fr good c n), O.has-at-is fr good c n a z)

  lowest-fault-at : (n m : TypeNumber) (k : SizeFault) → at n ≡ Faulty k m → LowestFaultAt fr c n m k
  lowest-fault-at n m k e =
      let h : RestsOnAt fr n m × OrderedAt fr c m k = rw e at (meant-at fr good c n) in
      record {
        rests = h.0;
        fault = (fault-at-ordered fr good c m k).1 h.1;
        lowest = λ j l r f. let g : Low fr good j (Faulty k m) = rw e at
            (low-at n j l r f) in g;
      }

  is-lowest-at : (n m : TypeNumber) (k : SizeFault) → LowestFaultAt fr c n m k → (x : Measure) → at n ≡ x
      → x ≡ Faulty k m
  is-lowest-at n m k h (Fills a z) e = absurd (rw e at (low-at n m k h.rests h.fault))
  is-lowest-at n m k h (Faulty l q) e =
      let g = lowest-fault-at n q l e in
      let s : m ≡ q =
      same_number fr good m q (h.lowest q l g.rests g.fault) (g.lowest m k h.rests h.fault) in
      let own : FaultAt fr c m l = rw s g.fault in
      let d : Faulty k m ≡ Faulty l m = sym (fault-at-is m k h.fault) ∙ fault-at-is m l own in rw (sym s) (sym d)

  pub fault-at-when : (n m : TypeNumber) (k : SizeFault)
      → (measure_at fr (starts_of fr) c n ≡ Faulty k m) ↔ LowestFaultAt fr c n m k
  fault-at-when n m k = (lowest-fault-at n m k, λ h. is-lowest-at n m k h (at n) refl)
