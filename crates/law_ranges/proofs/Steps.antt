-- One count raised by one. `array_steps`: an array over it grows by exactly its stride, or is 44. `struct-steps`: a
-- struct with such arrays among its members, and no other member over that count, never shrinks, and grows by no more
-- than the sum of their strides, each rounded up to the struct's alignment: each end before a member moves by a
-- multiple of that alignment, and rounding up moves it no further.
use Rattle.std.specs.Prelude.{Some}
use Prim.Native.Nat.{ℕ, zero, suc, ◌+◌, ◌*◌, ◌≤◌, ◌<◌}
use native.Mathlib.Nat.{suc-mul}
use native.Mathlib.Decide.{dec_lt}
use native.Mathlib.Omega.{arith}
use mathlib.Core.Path.{◌≡◌, refl, sym, ap, ◌∙◌}
use mathlib.Core.Bool.{Bool, true, false, cond, ◌&&◌}
use mathlib.Core.List.{List}
use lib.Dec.{ltb, leb}
use Rattle.ir.specs.declared.TypeNumber.{TypeNumber}
use Rattle.ir.specs.declared.ItemNumber.{ItemNumber}
use Rattle.ir.specs.declared.MemberNumber.{MemberNumber}
use Rattle.ir.specs.declared.ArraySize.TheVariants as As
use Rattle.ir.specs.declared.TypeInner.TheVariants as Ti
use Rattle.archive.specs.Starts.{starts_of}
use Rattle.archive.specs.Access.{type_at}
use Rattle.law_rows.proofs.Good.{Good}
use Rattle.rule_sizes.specs.declared.Alignment.{Alignment}
use Rattle.rule_sizes.specs.declared.SizeFault.TheVariants.{Unmeasured, Misplaced, Huge}
use Rattle.rule_sizes.specs.declared.Measure.{Measure}
use Rattle.rule_sizes.specs.declared.Measure.TheVariants.{Fills, Faulty}
use Rattle.rule_sizes.specs.Wgsl.{bytes, is_multiple, round_up, greater}
use Rattle.rule_sizes.specs.Sizes.{Parts, Laid, Broken, array_of, joined, measure_in}
use Rattle.rule_sizes.specs.Meaning.{struct_member}
use Rattle.law_sizes.proofs.Greatest.{greater-left, greater-right}
use Rattle.law_sizes.proofs.Folded.{never}
use Rattle.rule_ranges.specs.Pending.{holds_pending}
use Rattle.rule_ranges.specs.Counts.{Counts, fresh_offset, fresh_parts, fresh_struct, measure_at}
use Rattle.rule_ranges.specs.Meaning.{AtMost, Raised, Beside, sum, or_huge, StepsTo}
use Rattle.law_ranges.proofs.Shapes.{holds-fixed}
use Rattle.law_ranges.proofs.Same.{fixed_same, same-counts}
use Rattle.law_ranges.proofs.Free.{over-there}
use Rattle.law_ranges.proofs.Grow.{by-counts, fills_below, only-huge}
use Rattle.law_ranges.proofs.Moves.{round-moves, rounded, both-move, both-times}

-- RAISED COUNTS are no lower

pub item-is : (p o : ItemNumber) → p.0 ≡ o.0 → p ≡ o
item-is p o e = ap (λ (x : ℕ). record { 0 = x }) e

pub raised-above : (fr : List ℕ) (o : ItemNumber) (c d : Counts) → Raised fr o c d → AtMost fr c d
raised-above fr o c d r p i = go (dec_lt p.0 o.0) (dec_lt o.0 p.0)
  where
    apart : (p ≡ o → ⊥) → c p ≤ d p
    apart n = let e = r.others p i n in omega (arith, e)

    go : Dec (p.0 < o.0) → Dec (o.0 < p.0) → c p ≤ d p
    go (yes l) m = apart (λ q. let e : p.0 ≡ o.0 = ap (λ (x : ItemNumber). x.0) q in omega (arith, e))
    go (no l) (yes m) = apart (λ q. let e : p.0 ≡ o.0 = ap (λ (x : ItemNumber). x.0) q in omega (arith, e))
    go (no l) (no m) = let e : p ≡ o = item-is p o (omega arith) in rw e (let f = r.one in omega (arith, f))

-- AN ARRAY of one element more

filled_more : (n : TypeNumber) (m : Measure) (x stride : ℕ) (a : Alignment) (z : ℕ) → array_of n m x stride ≡ Fills a z
    → array_of n m (suc x) stride ≡ or_huge n a (z + stride)
unfolding array_of
filled_more n (Faulty k p) x stride a z e = never (cc)
filled_more n (Fills b y) x stride a z e =
    go (is_multiple b stride && leb y stride) (ltb (x * stride) 4294967296) refl refl e
  where
    go : (t u : Bool) → (is_multiple b stride && leb y stride) ≡ t → ltb (x * stride) 4294967296 ≡ u
        → cond t (cond u (Fills b (x * stride)) (Faulty Huge n)) (Faulty Misplaced n) ≡ Fills a z
        → cond (is_multiple b stride && leb y stride)
        (cond (ltb (suc x * stride) 4294967296) (Fills b (suc x * stride)) (Faulty Huge n)) (Faulty Misplaced n)
        ≡ or_huge n a (z + stride)
    go true true et eu h =
        let q : b ≡ a = cc in
        let s : x * stride ≡ z = cc in
        rw (et, q, sym s, suc-mul x stride)
    go true false et eu h = never (cc)
    go false u et eu h = never (cc)

pub or-huge-is : (n : TypeNumber) (a b : Alignment) (y z : ℕ) → or_huge n a y ≡ Fills b z → y ≡ z
or-huge-is n a b y z e = go (ltb y 4294967296) e
  where
    go : (t : Bool) → cond t (Fills a y) (Faulty Huge n) ≡ Fills b z → y ≡ z
    go true h = cc
    go false h = never (cc)

-- A STRUCT, one member less
pub record LaidFrom (p : Parts) (m : Measure) (b : Alignment) (e : ℕ) : Type 0 where
  pub before : Alignment
  pub end : ℕ
  pub placed : Bool
  pub laid : p ≡ Laid before end placed
  pub align : Alignment
  pub size : ℕ
  pub fills : m ≡ Fills align size
  pub top : greater before align ≡ b
  pub is : round_up align end + size ≡ e

laid_from : (p : Parts) (m : Measure) (b : Alignment) (e : ℕ) (ok : Bool) → joined p (fresh_offset p m) m ≡ Laid b e ok
    → LaidFrom p m b e
unfolding joined
laid_from (Laid c f x) (Fills a z) b e ok h =
    record { before = c; end = f; placed = x; laid = refl; align = a; size = z; fills = refl; top = cc; is = cc }
laid_from (Laid c f x) (Faulty j q) b e ok h = never (cc)
laid_from (Broken k p) (Fills a z) b e ok h = never (cc)
laid_from (Broken k p) (Faulty j q) b e ok h = go (leb p.0 q.0) h
  where
    go : (t : Bool) → cond t (Broken k p) (Broken j q) ≡ Laid b e ok → LaidFrom (Broken k p) (Faulty j q) b e
    go true r = never (cc)
    go false r = never (cc)

pub record StructFrom (p : Parts) (a : Alignment) (z : ℕ) : Type 0 where
  pub end : ℕ
  pub placed : Bool
  pub laid : p ≡ Laid a end placed
  pub is : round_up a end ≡ z

struct_from : (n : TypeNumber) (p : Parts) (a : Alignment) (z : ℕ) → fresh_struct n p ≡ Fills a z → StructFrom p a z
unfolding fresh_struct
struct_from n (Broken k q) a z h = never (cc)
struct_from n (Laid b e ok) a z h = go (ltb (round_up b e) 4294967296) h
  where
    go : (t : Bool) → cond t (Fills b (round_up b e)) (Faulty Huge n) ≡ Fills a z → StructFrom (Laid b e ok) a z
    go true r =
        let q : b ≡ a =
        cc in record { end = e; placed = ok; laid = rw q; is = let s : round_up b e ≡ z = cc in rw (sym q) s }
    go false r = never (cc)

-- an end that moves by no more than a sum, which is a multiple of an alignment
record Moved (b : Alignment) (total e f : ℕ) : Type 0 where
  times : ℕ
  is : total ≡ times * bytes b
  by : f ≤ e + times * bytes b

module _ (fr : List ℕ) (good : Good fr) (o : ItemNumber) (c d : Counts) (raised : Raised fr o c d) where
  abbrev holds : TypeNumber → Bool
  holds = holds_pending fr (starts_of fr)

  abbrev at : Counts → TypeNumber → Measure
  at k n = measure_at fr (starts_of fr) k n

  pending-holds : (n b : TypeNumber) (stride : ℕ) → type_at fr n ≡ Some (Ti.Array b (As.Pending o) stride)
      → holds n ≡ true
  pending-holds n b stride e = holds-fixed fr good n ∙ rw e

  pub array_steps : (n b : TypeNumber) (stride : ℕ) → type_at fr n ≡ Some (Ti.Array b (As.Pending o) stride)
      → (a : Alignment) (z : ℕ)
      → measure_at fr (starts_of fr) c n ≡ Fills a z → measure_at fr (starts_of fr) d n ≡ or_huge n a (z + stride)
  array_steps n b stride f a z h = by-counts fr good d n _ f (pending-holds n b stride f)
      ∙ go (holds b) refl (sym (by-counts fr good c n _ f (pending-holds n b stride f)) ∙ h)
    where
      go : (x : Bool) → holds b ≡ x → cond x (Faulty Unmeasured n) (array_of n (at c b) (c o) stride) ≡ Fills a z
          → cond x (Faulty Unmeasured n) (array_of n (at d b) (d o) stride) ≡ or_huge n a (z + stride)
      go true e k = never (cc)
      go false e k =
          let m = measure_in fr (starts_of fr) b in
          let q : array_of n m (c o) stride ≡ Fills a z = rw (fixed_same fr good c b e) at k in
          rw (fixed_same fr good d b e, raised.one) (filled_more n m (c o) stride a z q)

  -- A MEMBER grows by no more than its stride
  member-moves : (n : TypeNumber) (stride : ℕ) → Beside fr o n stride → (a b : Alignment) (y z : ℕ)
      → at c n ≡ Fills a y → at d n ≡ Fills b z
      → z ≤ y + stride
  member-moves n stride (Beside.array m e s f) a b y z h g =
      let q = or-huge-is n a b (y + stride) z (sym (array_steps n e stride f a y h) ∙ g) in omega (arith, q)
  member-moves n stride (Beside.still m apart) a b y z h g =
      let s : at c n ≡ at d n =
      same-counts fr good c d n
      (λ p v. sym (raised.others p (over-there fr good p n v) (λ q. apart (rw q at v)))) in
      let t : Fills a y ≡ Fills b z = sym h ∙ s ∙ g in
      let q : y ≡ z = cc in omega (arith, q)

  align_same : (n : TypeNumber) (a b : Alignment) (y z : ℕ) → at c n ≡ Fills a y → at d n ≡ Fills b z
      → (a ≡ b) × (y ≤ z)
  align_same n a b y z h g =
      let s = fills_below fr good c d (raised-above fr o c d raised) n b z g in
      let t : Fills a y ≡ Fills b s.size = sym h ∙ s.is in
      let q : y ≡ s.size = cc in (cc, omega (arith, q, s.most))

  -- THE MEMBERS IN ORDER
  module _ (first : MemberNumber) (strides : ℕ → ℕ) (top : Alignment) where
    abbrev steps : ℕ → ℕ
    steps i = round_up top (strides i)

    ends-move : (k : ℕ) → ((i : ℕ) → i < k → Beside fr o (struct_member fr first i).ty (strides i))
        → (a b : Alignment) (e f : ℕ) (x y : Bool)
        → fresh_parts fr (starts_of fr) (at c) first k ≡ Laid a e x
        → fresh_parts fr (starts_of fr) (at d) first k ≡ Laid b f y → bytes a ≤ bytes top
        → Moved top (sum steps k) e f
    unfolding fresh_parts
    ends-move zero each a b e f x y p q l =
        let s : 0 ≡ e = cc in
        let t : 0 ≡ f = cc in
        record { times = 0; is = zero-times top; by = omega (arith, s, t) }
      where
        zero-times : (t : Alignment) → 0 ≡ 0 * bytes t
        zero-times t = omega arith
    ends-move (suc k) each a b e f x y p q l =
        let u = laid_from _ _ a e x p in
        let v = laid_from _ _ b f y q in
        let w = each k (omega arith) in
        let n = (struct_member fr first k).ty in
        let same = align_same n u.align v.align u.size v.size u.fills v.fills in
        let left : bytes u.before ≤ bytes a = rw u.top at (greater-left u.before u.align) in
        let right : bytes u.align ≤ bytes a = rw u.top at (greater-right u.before u.align) in
        let ih =
        ends-move k (λ i m. each i (omega arith)) u.before v.before u.end v.end u.placed v.placed
        u.laid v.laid (omega (arith, l, left)) in
        let r = rounded top (strides k) in
        let g : v.size ≤ u.size + strides k =
        member-moves n (strides k) w u.align v.align u.size v.size u.fills v.fills in
        let g : v.size ≤ u.size + r.times * bytes top = omega (arith, g, r.holds) in
        let h : round_up u.align v.end ≤ round_up u.align u.end + ih.times * bytes top =
        round-moves top u.align (omega (arith, l, right)) ih.times u.end v.end ih.by in
        let j : round_up v.align v.end ≤ round_up u.align u.end + ih.times * bytes top =
        rw (sym same.0) h in
        let z = both-move top ih.times r.times _ _ u.size v.size j g in
        let ue = u.is in
        let ve = v.is in
        record {
          times = ih.times + r.times;
          is = ap (λ (m : ℕ). m + steps k) ih.is ∙ ap (λ (m : ℕ). ih.times * bytes top + m) r.is
              ∙ both-times top ih.times r.times;
          by = omega (arith, z, ue, ve);
        }

  moved_by : (n : TypeNumber) (first : MemberNumber) (count span : ℕ)
      → type_at fr n ≡ Some (Ti.Struct first count span)
      → (strides : ℕ → ℕ) → ((i : ℕ) → i < count → Beside fr o (struct_member fr first i).ty (strides i))
      → (a b : Alignment) (y z : ℕ) → at c n ≡ Fills a y → at d n ≡ Fills b z → (x : Bool) → holds n ≡ x
      → z ≤ y + sum (λ i. round_up a (strides i)) count
  moved_by n first count span e strides each a b y z h g false q =
      let t : Fills a y ≡ Fills b z = sym h ∙ fixed_same fr good c n q ∙ sym (fixed_same fr good d n q) ∙ g in
      let r : y ≡ z = cc in omega (arith, r)
  moved_by n first count span e strides each a b y z h g true q =
      let u = struct_from n _ a y (sym (by-counts fr good c n _ e q) ∙ h) in
      let v = struct_from n _ b z (sym (by-counts fr good d n _ e q) ∙ g) in
      let m =
      ends-move first strides a count each a b u.end v.end u.placed v.placed u.laid v.laid
      (omega arith) in
      let w = round-moves a a (omega arith) m.times u.end v.end m.by in
      let i = ap (λ (x : Alignment). round_up x v.end) (align_same n a b y z h g).0 in
      let ui = u.is in
      let vi = v.is in
      let mi = m.is in
      omega (arith, i, w, ui, vi, mi)

  pub struct-steps : (n : TypeNumber) (first : MemberNumber) (count span : ℕ)
      → type_at fr n ≡ Some (Ti.Struct first count span) → (strides : ℕ → ℕ)
      → ((i : ℕ) → i < count → Beside fr o (struct_member fr first i).ty (strides i)) → (a : Alignment) (y : ℕ)
      → measure_at fr (starts_of fr) c n ≡ Fills a y
      → StepsTo a y (sum (λ i. round_up a (strides i)) count) (measure_at fr (starts_of fr) d n)
  struct-steps n first count span e strides each a y h = go (at d n) refl
    where
      go : (m : Measure) → at d n ≡ m → StepsTo a y (sum (λ i. round_up a (strides i)) count) m
      go (Fills b z) g =
          let s = align_same n a b y z h g in
          record {
            same = s.0;
            kept = s.1;
            most = moved_by n first count span e strides each a b y z h g (holds n) refl;
          }
      go (Faulty k p) g = only-huge fr good c d (raised-above fr o c d raised) n a y h k p g
