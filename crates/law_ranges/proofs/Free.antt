-- Entries past the file's overrides are free: in an accepted file a type is over counts of the file's overrides alone,
-- and number 45 is asked of those alone. So what is said of a type hangs on no other entry.
use Rattle.std.specs.Prelude.{Some}
use Prim.Native.Nat.{ℕ, zero, suc, ◌<◌}
use native.Mathlib.Omega.{arith}
use mathlib.Core.Path.{◌≡◌, refl}
use mathlib.Core.Bool.{Bool}
use mathlib.Core.List.{List}
use borrow.Author.Tests.{ltb-true}
use Rattle.scan.specs.Lowest.{lowest}
use Rattle.ir.specs.declared.TypeNumber.{TypeNumber}
use Rattle.ir.specs.declared.ItemNumber.{ItemNumber}
use Rattle.ir.specs.declared.ArraySize.TheVariants as As
use Rattle.ir.specs.declared.TypeInner.TheVariants as Ti
use Rattle.archive.specs.Starts.{starts_of, override_count}
use Rattle.law_rows.proofs.Good.{Good}
use Rattle.law_rows.proofs.There.{TypeThere}
use Rattle.law_sizes.proofs.Fixed.{there}
use Rattle.rule_ranges.specs.Counts.{Counts, measure_at}
use Rattle.rule_ranges.specs.Ranges.{range_in, span_ok, faulty_span, type_range_in}
use Rattle.rule_ranges.specs.Meaning.{Over, Alike}
use Rattle.law_ranges.proofs.Same.{same-counts}

lowest-alike : (ok also : ℕ → Bool) (n : ℕ) → ((k : ℕ) → k < n → ok k ≡ also k) → lowest ok n ≡ lowest also n
unfolding lowest
lowest-alike ok also zero h = refl
lowest-alike ok also (suc n) h = rw (lowest-alike ok also n (λ k l. h k (omega arith)), h n (omega arith))

module _ (fr : List ℕ) (good : Good fr) where
  -- what a type is over is an override of the file
  pub over-there : (o : ItemNumber) (n : TypeNumber) → Over fr o n → o.0 < override_count (starts_of fr)
  over-there o n (Over.pending p m b stride e) =
      let h : TypeThere fr n (Some (Ti.Array b (As.Pending o) stride)) = rw e at (there fr good n) in
      ltb-true o.0 (override_count (starts_of fr)) h.1
  over-there o n (Over.element p m b z stride e h) = over-there o b h
  over-there o n (Over.part p m first count span i e l h) = over-there o _ h

  measure-alike : (c d : Counts) → Alike fr c d → (n : TypeNumber)
      → measure_at fr (starts_of fr) c n ≡ measure_at fr (starts_of fr) d n
  measure-alike c d h n = same-counts fr good c d n (λ o v. h o (over-there o n v))

  pub entries-free : (least low greatest high : Counts) → Alike fr least low → Alike fr greatest high
      → (n : TypeNumber)
      → type_range_in fr (starts_of fr) least greatest n ≡ type_range_in fr (starts_of fr) low high n
  unfolding type_range_in range_in faulty_span
  entries-free least low greatest high h g n =
      rw (
        measure-alike least low h n,
        measure-alike greatest high g n,
        lowest-alike (λ (o : ℕ). span_ok least greatest (record { 0 = o }))
            (λ (o : ℕ). span_ok low high (record { 0 = o }))
            (override_count (starts_of fr)) (λ k l. rw (h (record { 0 = k }) l, g (record { 0 = k }) l)),
      )
