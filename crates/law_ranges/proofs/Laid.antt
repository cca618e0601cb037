-- A struct's members laid afresh: where all have sizes, the ends are WGSL's; else the lowest of their faults is passed
-- on, as in a struct of request 5. By the members in order.
use Prim.Native.Nat.{ℕ, zero, suc, ◌+◌, ◌<◌}
use native.Mathlib.Omega.{arith}
use mathlib.Core.Path.{◌≡◌, refl, sym, ap, ◌∙◌}
use mathlib.Core.Bool.{Bool, true, false, cond}
use mathlib.Core.List.{List}
use lib.Dec.{leb}
use Rattle.ir.specs.declared.TypeNumber.{TypeNumber}
use Rattle.ir.specs.declared.MemberNumber.{MemberNumber}
use Rattle.archive.specs.Starts.{starts_of}
use Rattle.rule_sizes.specs.declared.Alignment.{Alignment}
use Rattle.rule_sizes.specs.declared.Alignment.TheVariants.{Two, Four, Eight, Sixteen}
use Rattle.rule_sizes.specs.declared.SizeFault.{SizeFault}
use Rattle.rule_sizes.specs.declared.Measure.{Measure}
use Rattle.rule_sizes.specs.declared.Measure.TheVariants.{Fills, Faulty}
use Rattle.rule_sizes.specs.Wgsl.{round_up}
use Rattle.rule_sizes.specs.Sizes.{Parts, Laid, Broken, joined, parts_of}
use Rattle.rule_sizes.specs.Meaning.{struct_member}
use Rattle.law_sizes.proofs.Greatest.{top_of}
use Rattle.rule_ranges.specs.Counts.{fresh_parts}
use Rattle.rule_ranges.specs.MeaningAt.{Fresh}

-- ENDS AND OFFSETS, by the alignments and sizes of members
module _ (aligns : ℕ → Alignment) (sizes : ℕ → ℕ) where
  -- where the first k members end
  abbrev pub fresh_end : ℕ → ℕ
  fresh_end zero = 0
  fresh_end (suc k) = round_up (aligns k) (fresh_end k) + sizes k

  abbrev pub offset_of : ℕ → ℕ
  offset_of i = round_up (aligns i) (fresh_end i)

  round-zero : (a : Alignment) → round_up a 0 ≡ 0
  round-zero Two = refl
  round-zero Four = refl
  round-zero Eight = refl
  round-zero Sixteen = refl

  pub fresh-is : (count : ℕ) (a : Alignment) → Fresh count aligns sizes offset_of a (round_up a (fresh_end count))
  fresh-is count a = record { first = round-zero (aligns 0); next = λ i l. refl; whole = λ i e. rw (sym e) }

  fresh-end : (count : ℕ) (offsets : ℕ → ℕ) (a : Alignment) (z : ℕ) → Fresh count aligns sizes offsets a z → (i : ℕ)
      → i < count
      → fresh_end (suc i) ≡ offsets i + sizes i
  fresh-end count offsets a z f zero l = rw (round-zero (aligns 0), f.first)
  fresh-end count offsets a z f (suc i) l =
      ap (λ (x : ℕ). round_up (aligns (suc i)) x + sizes (suc i)) (fresh-end count offsets a z f i (omega arith))
      ∙ ap (λ (x : ℕ). x + sizes (suc i)) (sym (f.next i l))

  pub fresh-size : (count : ℕ) (offsets : ℕ → ℕ) (a : Alignment) (z : ℕ) → Fresh count aligns sizes offsets a z
      → 0 < count
      → round_up a (fresh_end count) ≡ z
  fresh-size zero offsets a z f l = absurd (omega arith)
  fresh-size (suc i) offsets a z f l = ap (round_up a) (fresh-end (suc i) offsets a z f i (omega arith))
      ∙ sym (f.whole i refl)

-- THE MEMBERS IN ORDER, by what each type fills

pub record LaidAs (p : Parts) (a : Alignment) (e : ℕ) : Type 0 where
  pub placed : Bool
  pub is : p ≡ Laid a e placed

module _ (fr : List ℕ) (f : TypeNumber → Measure) (first : MemberNumber) where
  pub fresh-laid : (aligns : ℕ → Alignment) (sizes : ℕ → ℕ) (k : ℕ)
      → ((i : ℕ) → i < k → f (struct_member fr first i).ty ≡ Fills (aligns i) (sizes i))
      → LaidAs (fresh_parts fr (starts_of fr) f first k) (top_of aligns k) (fresh_end aligns sizes k)
  unfolding fresh_parts joined
  fresh-laid aligns sizes zero h = record { placed = true; is = refl }
  fresh-laid aligns sizes (suc k) h =
      let p =
      fresh-laid aligns sizes k (λ i l. h i (omega arith)) in rw (p.is, h k (omega arith))
      (record { placed = _; is = refl })

  -- a fault does not hang on the offsets
  abbrev SameFault : Parts → Parts → Type 0
  SameFault (Broken j p) q = q ≡ Broken j p
  SameFault (Laid a e x) (Laid b g y) = Unit {0}
  SameFault (Laid a e x) (Broken j p) = ⊥

  joined-fault : (p q : Parts) (x y : ℕ) (m : Measure) → SameFault p q → SameFault (joined p x m) (joined q y m)
  unfolding joined
  joined-fault (Broken j p) q x y (Fills a z) h = rw h
  joined-fault (Broken j p) q x y (Faulty k r) h = rw h (same (leb p.0 r.0))
    where
      same : (t : Bool) → SameFault (cond t (Broken j p) (Broken k r)) (cond t (Broken j p) (Broken k r))
      same true = refl
      same false = refl
  joined-fault (Laid a e u) (Laid b g v) x y (Fills c z) h = tt
  joined-fault (Laid a e u) (Laid b g v) x y (Faulty k r) h = refl
  joined-fault (Laid a e u) (Broken j p) x y m h = absurd h

  same-fault : (k : ℕ) → SameFault (parts_of fr (starts_of fr) f first k) (fresh_parts fr (starts_of fr) f first k)
  unfolding parts_of fresh_parts
  same-fault zero = tt
  same-fault (suc k) = joined-fault _ _ _ _ _ (same-fault k)

  pub fresh-broken : (k : ℕ) (j : SizeFault) (p : TypeNumber) → parts_of fr (starts_of fr) f first k ≡ Broken j p
      → fresh_parts fr (starts_of fr) f first k ≡ Broken j p
  fresh-broken k j p e =
      let h : SameFault (Broken j p) (fresh_parts fr (starts_of fr) f first k) = rw e at (same-fault k) in h
