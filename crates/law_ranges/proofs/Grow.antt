-- Sizes grow with counts: where a type has a size at some counts, it has one at all lower counts, with the same
-- alignment, and no greater; at higher counts it has one, or number 44: 42 and 43 do not hang on counts. By the parts
-- of a type: a product grows with its factor, a sum with its parts, and rounding up keeps order.
use Rattle.std.specs.Prelude.{Option}
use Rattle.ir.specs.declared.TypeInner.{TypeInner}
use Prim.Native.Nat.{ℕ, zero, suc, ◌*◌, ◌≤◌, ◌<◌}
use native.Mathlib.Nat.{mul-le-mul}
use native.Mathlib.Omega.{arith}
use mathlib.Core.Path.{◌≡◌, refl, sym, ap, ◌∙◌}
use mathlib.Core.Bool.{Bool, true, false, cond, ◌&&◌}
use mathlib.Core.List.{List}
use lib.Dec.{ltb, leb}
use borrow.Author.Tests.{ltb-true, ltb-false}
use Rattle.scan.proofs.Laws.{by-test}
use Rattle.ir.specs.declared.TypeNumber.{TypeNumber}
use Rattle.ir.specs.declared.MemberNumber.{MemberNumber}
use Rattle.ir.specs.declared.ArraySize.TheVariants as As
use Rattle.archive.specs.Starts.{starts_of, override_count}
use Rattle.archive.specs.Access.{type_at}
use Rattle.law_rows.proofs.Good.{Good}
use Rattle.law_rows.proofs.There.{TypeThere}
use Rattle.rule_sizes.specs.declared.Alignment.{Alignment}
use Rattle.rule_sizes.specs.declared.Alignment.TheVariants.{Two, Four, Eight, Sixteen}
use Rattle.rule_sizes.specs.declared.SizeFault.{SizeFault}
use Rattle.rule_sizes.specs.declared.SizeFault.TheVariants.{Unmeasured, Misplaced, Huge}
use Rattle.rule_sizes.specs.declared.Measure.{Measure}
use Rattle.rule_sizes.specs.declared.Measure.TheVariants.{Fills, Faulty}
use Rattle.rule_sizes.specs.Wgsl.{is_multiple, round_up}
use Rattle.rule_sizes.specs.Sizes.{Parts, Laid, Broken, array_of, lower, joined, measure_in}
use Rattle.rule_sizes.specs.Meaning.{struct_member}
use Rattle.law_sizes.proofs.Fixed.{PartOf, there}
use Rattle.rule_ranges.specs.Pending.{holds_pending}
use Rattle.rule_ranges.specs.Counts.{Counts, fresh_offset, fresh_parts, fresh_struct, counted_form, measure_at}
use Rattle.rule_ranges.specs.Meaning.{AtMost}
use Rattle.law_ranges.proofs.Shapes.{Shape, shape, by_parts, by-fixed}
use Rattle.law_ranges.proofs.Same.{fixed_same}

-- a size, with this alignment, of at most so many bytes
pub record Smaller (m : Measure) (a : Alignment) (z : ℕ) : Type 0 where
  pub size : ℕ
  pub is : m ≡ Fills a size
  pub most : size ≤ z

-- at lower and at higher counts
abbrev pub Grows : Measure → Measure → Type 0
Grows (Fills a y) (Fills b z) = (a ≡ b) × (y ≤ z)
Grows (Fills a y) (Faulty k p) = k ≡ Huge
Grows (Faulty j q) (Fills b z) = ⊥
Grows (Faulty j q) (Faulty k p) = Unit {0}

grows_same : (m : Measure) → Grows m m
grows_same (Fills a z) = (refl, omega arith)
grows_same (Faulty k p) = tt

pub round-grows : (a : Alignment) (x y : ℕ) → x ≤ y → round_up a x ≤ round_up a y
round-grows Two x y l = omega arith
round-grows Four x y l = omega arith
round-grows Eight x y l = omega arith
round-grows Sixteen x y l = omega arith

-- A SIZE, or 44 where it is 2 to the 32 or more
below-grows : (a : Alignment) (n : TypeNumber) (x y : ℕ) → x ≤ y
    → Grows (cond (ltb x 4294967296) (Fills a x) (Faulty Huge n)) (cond (ltb y 4294967296) (Fills a y) (Faulty Huge n))
below-grows a n x y l = go (ltb x 4294967296) (ltb y 4294967296) refl refl
  where
    go : (t u : Bool) → ltb x 4294967296 ≡ t → ltb y 4294967296 ≡ u
        → Grows (cond t (Fills a x) (Faulty Huge n)) (cond u (Fills a y) (Faulty Huge n))
    go true true e f = (refl, l)
    go true false e f = refl
    go false true e f = omega (arith, ltb-false x 4294967296 e, ltb-true y 4294967296 f)
    go false false e f = tt

-- AN ARRAY of more elements
either-grows : (t : Bool) (m k j : Measure) → Grows m k → Grows (cond t m j) (cond t k j)
either-grows true m k j h = h
either-grows false m k j h = grows_same j

array-grows : (n : TypeNumber) (m : Measure) (x y stride : ℕ) → x ≤ y
    → Grows (array_of n m x stride) (array_of n m y stride)
unfolding array_of
array-grows n (Faulty k p) x y stride l = tt
array-grows n (Fills a z) x y stride l =
    either-grows (is_multiple a stride && leb z stride) _ _ (Faulty Misplaced n)
    (below-grows a n (x * stride) (y * stride)
    (mul-le-mul {n₁ = x} {m₁ = stride} {n₂ = y} {m₂ = stride} l (omega arith)))

-- A STRUCT of greater members

abbrev PartsGrow : Parts → Parts → Type 0
PartsGrow (Laid a e x) (Laid b f y) = (a ≡ b) × (e ≤ f)
PartsGrow (Laid a e x) (Broken k p) = k ≡ Huge
PartsGrow (Broken j q) (Laid b f y) = ⊥
PartsGrow (Broken j q) (Broken k p) = Unit {0}

lower-grows : (p : Parts) (i k : SizeFault) (r s : TypeNumber) → PartsGrow p (Broken i r) → PartsGrow p (Broken k s)
    → PartsGrow p (lower i r k s)
lower-grows p i k r s h g = by-test (PartsGrow p) (leb r.0 s.0) (λ e. h) (λ e. g)

lower-broken : (i j k : SizeFault) (r s q : TypeNumber) → PartsGrow (lower i r j s) (Broken k q)
lower-broken i j k r s q = by-test (λ (p : Parts). PartsGrow p (Broken k q)) (leb r.0 s.0) (λ e. tt) (λ e. tt)

joined-grows : (p q : Parts) (m k : Measure) → PartsGrow p q → Grows m k
    → PartsGrow (joined p (fresh_offset p m) m) (joined q (fresh_offset q k) k)
unfolding joined
joined-grows (Laid a e x) (Laid b f y) (Fills c w) (Fills d z) h g =
    let r : round_up c f ≡ round_up d f = ap (λ (v : Alignment). round_up v f) g.0 in
    (rw (h.0, g.0), omega (arith, r, g.1, round-grows c e f h.1))
joined-grows (Laid a e x) (Laid b f y) (Fills c w) (Faulty k p) h g = g
joined-grows (Laid a e x) (Laid b f y) (Faulty j s) (Fills d z) h g = absurd g
joined-grows (Laid a e x) (Laid b f y) (Faulty j s) (Faulty k p) h g = tt
joined-grows (Laid a e x) (Broken i r) (Fills c w) (Fills d z) h g = h
joined-grows (Laid a e x) (Broken i r) (Fills c w) (Faulty k p) h g =
    lower-grows (joined (Laid a e x) (round_up c e) (Fills c w)) i k r p h g
joined-grows (Laid a e x) (Broken i r) (Faulty j s) (Fills d z) h g = absurd g
joined-grows (Laid a e x) (Broken i r) (Faulty j s) (Faulty k p) h g = lower-grows (Broken j s) i k r p tt tt
joined-grows (Broken l q) (Laid b f y) m k h g = absurd h
joined-grows (Broken l q) (Broken i r) (Fills c w) (Fills d z) h g = tt
joined-grows (Broken l q) (Broken i r) (Fills c w) (Faulty k p) h g = lower-grows (Broken l q) i k r p tt tt
joined-grows (Broken l q) (Broken i r) (Faulty j s) (Fills d z) h g = absurd g
joined-grows (Broken l q) (Broken i r) (Faulty j s) (Faulty k p) h g =
    lower-grows (lower l q j s) i k r p (lower-broken l j i q s r) (lower-broken l j k q s p)

fresh-grows : (fr : List ℕ) (f g : TypeNumber → Measure) (first : MemberNumber) (k : ℕ)
    → ((i : ℕ) → i < k → Grows (f (struct_member fr first i).ty) (g (struct_member fr first i).ty))
    → PartsGrow (fresh_parts fr (starts_of fr) f first k) (fresh_parts fr (starts_of fr) g first k)
unfolding fresh_parts
fresh-grows fr f g first zero h = (refl, omega arith)
fresh-grows fr f g first (suc k) h =
    joined-grows _ _ _ _ (fresh-grows fr f g first k (λ i l. h i (omega arith))) (h k (omega arith))

struct-grows : (n : TypeNumber) (p q : Parts) → PartsGrow p q → Grows (fresh_struct n p) (fresh_struct n q)
unfolding fresh_struct
struct-grows n (Laid a e x) (Laid b f y) h =
    rw (sym h.0) (below-grows a n (round_up a e) (round_up a f) (round-grows a e f h.1))
struct-grows n (Laid a e x) (Broken k p) h =
    by-test (λ (m : Measure). Grows m (Faulty k p)) (ltb (round_up a e) 4294967296) (λ t. h) (λ t. tt)
struct-grows n (Broken j r) (Laid b f y) h = absurd h
struct-grows n (Broken j r) (Broken k p) h = tt

module _ (fr : List ℕ) (good : Good fr) where
  abbrev holds : TypeNumber → Bool
  holds = holds_pending fr (starts_of fr)

  abbrev at : Counts → TypeNumber → Measure
  at c n = measure_at fr (starts_of fr) c n

  -- a type that holds a pending array is measured by counts
  pub by-counts : (c : Counts) (n : TypeNumber) (t : Option TypeInner) → type_at fr n ≡ t
      → holds_pending fr (starts_of fr) n ≡ true
      → measure_at fr (starts_of fr) c n ≡ counted_form fr (starts_of fr) (holds_pending fr (starts_of fr)) c
      (measure_at fr (starts_of fr) c) n t
  by-counts c n t f e = by-fixed fr good n holds c ∙ rw (e, f)

  grows-as : {m k j l : Measure} → m ≡ j → k ≡ l → Grows j l → Grows m k
  grows-as a b h = rw (a, b) h

  module _ (c d : Counts) (less : AtMost fr c d) where
    form-grows : (n : TypeNumber) (t : Option TypeInner) → TypeThere fr n t → Shape fr t
        → ((b : TypeNumber) → PartOf fr t b → Grows (at c b) (at d b))
        → Grows (counted_form fr (starts_of fr) holds c (at c) n t) (counted_form fr (starts_of fr) holds d (at d) n t)
    form-grows n t w (Shape.array b (As.Constant x) stride) ih = tt
    form-grows n t w (Shape.array b (As.Pending o) stride) ih = go (holds b) refl
      where
        go : (x : Bool) → holds b ≡ x
            → Grows (cond x (Faulty Unmeasured n) (array_of n (at c b) (c o) stride))
            (cond x (Faulty Unmeasured n) (array_of n (at d b) (d o) stride))
        go true e = tt
        go false e =
            rw (fixed_same fr good c b e, fixed_same fr good d b e)
            (array-grows n (measure_in fr (starts_of fr) b) (c o) (d o) stride
            (less o (ltb-true o.0 (override_count (starts_of fr)) w.1)))
    form-grows n t w (Shape.array b As.Dynamic stride) ih = tt
    form-grows n t w (Shape.struct first count span) ih =
        struct-grows n _ _ (fresh-grows fr (at c) (at d) first count (λ i l. ih _ (PartOf.part first count span i l)))
    form-grows n t w (Shape.other u o) ih = rw (o.out holds c (at c) n, o.out holds d (at d) n) tt

    pub grows : (n : TypeNumber) → Grows (measure_at fr (starts_of fr) c n) (measure_at fr (starts_of fr) d n)
    grows = by_parts fr good (λ n. Grows (at c n) (at d n)) (λ n ih. go n ih (holds n) refl)
      where
        go : (n : TypeNumber) → ((b : TypeNumber) → PartOf fr (type_at fr n) b → Grows (at c b) (at d b)) → (x : Bool)
            → holds n ≡ x → Grows (at c n) (at d n)
        go n ih true e =
            grows-as (by-counts c n (type_at fr n) refl e) (by-counts d n (type_at fr n) refl e)
            (form-grows n (type_at fr n) (there fr good n) (shape fr (type_at fr n)) ih)
        go n ih false e =
            grows-as (fixed_same fr good c n e) (fixed_same fr good d n e) (grows_same (measure_in fr (starts_of fr) n))

    -- a size at the higher counts is one at the lower
    fills-grow : (m : Measure) (a : Alignment) (z : ℕ) → Grows m (Fills a z) → Smaller m a z
    fills-grow (Fills b y) a z g = record { size = y; is = rw g.0; most = g.1 }
    fills-grow (Faulty k p) a z g = absurd g

    pub fills_below : (n : TypeNumber) (a : Alignment) (z : ℕ) → measure_at fr (starts_of fr) d n ≡ Fills a z
        → Smaller (measure_at fr (starts_of fr) c n) a z
    fills_below n a z e = fills-grow (at c n) a z (rw e at (grows n))

    -- and higher counts take a size away by 44 alone
    pub only-huge : (n : TypeNumber) (a : Alignment) (z : ℕ) → measure_at fr (starts_of fr) c n ≡ Fills a z
        → (k : SizeFault) (p : TypeNumber)
        → measure_at fr (starts_of fr) d n ≡ Faulty k p → k ≡ Huge
    only-huge n a z e k p f = let h : Grows (Fills a z) (Faulty k p) = rw (e, f) at (grows n) in h
