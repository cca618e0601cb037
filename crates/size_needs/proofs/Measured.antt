-- What a type fills by its needs is what it fills by its form: the same case of each kind, marked and not.
use Rattle.std.specs.Prelude.{Option, Some, None}
use Prim.Native.Nat.{ℕ}
use mathlib.Core.Path.{◌≡◌, refl}
use mathlib.Core.Bool.{Bool, true, false, cond}
use mathlib.Core.List.{List}
use Rattle.ir.specs.declared.TypeNumber.{TypeNumber}
use Rattle.ir.specs.declared.ArraySize.TheVariants as As
use Rattle.ir.specs.declared.TypeInner.{TypeInner}
use Rattle.ir.specs.declared.TypeInner.TheVariants as Ti
use Rattle.archive.specs.declared.Starts.{Starts}
use Rattle.rule_sizes.specs.declared.SizeFault.TheVariants.{Unmeasured}
use Rattle.rule_sizes.specs.declared.Measure.{Measure}
use Rattle.rule_sizes.specs.declared.Measure.TheVariants.{Faulty}
use Rattle.rule_sizes.specs.Sizes.{of_inner}
use Rattle.rule_ranges.specs.Counts.{Counts, counted_inner, form_by}
use Rattle.size_needs.specs.declared.Needs.{Needs}
use Rattle.size_needs.specs.Needs.{inner_needs, counted_needs, needs_of, by_needs}

either : (h : Bool) (x : Measure) → cond h x x ≡ x
either true x = refl
either false x = refl

module _ (fr : List ℕ) (s : Starts) (holds : TypeNumber → Bool) (counts : Counts) (past : TypeNumber → Measure)
    (n : TypeNumber) where
  by-test : (h : Bool) (x y : Needs)
      → cond h (by_needs fr s past n x) (by_needs fr s past n y) ≡ by_needs fr s past n (cond h x y)
  by-test true x y = refl
  by-test false x y = refl

  -- a type by counts, and by request 5's rule
  abbrev Same : TypeInner → Type 0
  Same t =
      (counted_inner fr s holds counts past n t ≡ by_needs fr s past n (counted_needs holds counts n t))
      × (of_inner fr s past n t ≡ by_needs fr s past n (inner_needs n t))

  same : (t : TypeInner) → Same t
  same (Ti.Array b (As.Constant c) z) = (refl, refl)
  same (Ti.Array b (As.Pending o) z) = (by-test (holds b) _ _, refl)
  same (Ti.Array b As.Dynamic z) = (refl, refl)
  same (Ti.Struct m j z) = (refl, refl)
  same (Ti.Scalar k) = (refl, refl)
  same (Ti.Vector z k) = (refl, refl)
  same (Ti.Matrix c r k) = (refl, refl)
  same (Ti.CooperativeMatrix c r k o) = (refl, refl)
  same (Ti.Atomic k) = (refl, refl)
  same (Ti.Pointer b p) = (refl, refl)
  same (Ti.ValuePointer z k p) = (refl, refl)
  same (Ti.Image d a c) = (refl, refl)
  same (Ti.Sampler q) = (refl, refl)
  same (Ti.AccelerationStructure q) = (refl, refl)
  same (Ti.RayQuery q) = (refl, refl)
  same (Ti.BindingArray b z) = (refl, refl)

  pub by-needs : (form : Option TypeInner)
      → form_by fr s holds counts past n form ≡ by_needs fr s past n (needs_of holds counts n form)
  unfolding needs_of
  by-needs (Some t) = rw ((same t).0, (same t).1) (by-test (holds n) _ _)
  by-needs None = either (holds n) (Faulty Unmeasured n)
