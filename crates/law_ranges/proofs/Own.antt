-- What a type has at given counts, and a number of its own, is what is worked out of it; and where it rests on a type
-- with a number of its own, it is refused there or at a lower one. By the form of the type, and request 5's laws.
use Rattle.std.specs.Prelude.{Some}
use Prim.Native.Nat.{ℕ, ◌*◌, ◌<◌}
use native.Mathlib.Omega.{arith}
use mathlib.Core.Path.{◌≡◌, ◌∙◌}
use mathlib.Core.Bool.{cond}
use mathlib.Core.List.{List}
use lib.Dec.{ltb}
use borrow.Author.Tests.{lt-ltb, le-ltb}
use Rattle.ir.specs.declared.TypeNumber.{TypeNumber}
use Rattle.ir.specs.declared.ItemNumber.{ItemNumber}
use Rattle.ir.specs.declared.MemberNumber.{MemberNumber}
use Rattle.ir.specs.declared.ArraySize.{ArraySize}
use Rattle.ir.specs.declared.ArraySize.TheVariants as As
use Rattle.ir.specs.declared.TypeInner.TheVariants as Ti
use Rattle.archive.specs.Starts.{starts_of}
use Rattle.archive.specs.Access.{type_at}
use Rattle.law_rows.proofs.Good.{Good}
use Rattle.rule_sizes.specs.declared.Alignment.{Alignment}
use Rattle.rule_sizes.specs.declared.SizeFault.{SizeFault}
use Rattle.rule_sizes.specs.declared.SizeFault.TheVariants.{Unmeasured, Huge}
use Rattle.rule_sizes.specs.declared.Measure.{Measure}
use Rattle.rule_sizes.specs.declared.Measure.TheVariants.{Fills, Faulty}
use Rattle.rule_sizes.specs.Sizes.{array_of, measure_in}
use Rattle.rule_sizes.specs.Meaning.{struct_member, Greatest, Fault}
use Rattle.law_sizes.proofs.Greatest.{greatest-top}
use Rattle.law_sizes.proofs.Folded.{Folded, folded}
use Rattle.law_sizes.proofs.Meant.{strided, strided-is}
use Rattle.law_sizes.proofs.Own.{untrue, has-is, Low, array-low, lower-yet}
use Rattle.law_sizes.proofs.Laws.{fault-is, low}
use Rattle.rule_ranges.specs.Counts.{Counts, fresh_parts, fresh_struct, measure_at}
use Rattle.rule_ranges.specs.Meaning.{Over}
use Rattle.rule_ranges.specs.MeaningAt.{Holds, Fresh, HasAt, RestsOnAt}
use Rattle.law_ranges.proofs.Ordered.{OrderedAt}
use Rattle.law_ranges.proofs.Same.{fixed_same, holds-when}
use Rattle.law_ranges.proofs.Grow.{by-counts}
use Rattle.law_ranges.proofs.Laid.{fresh-size, fresh-laid, fresh-broken}
use Rattle.law_ranges.proofs.Meant.{is_free, rests-free}

module _ (fr : List ℕ) (good : Good fr) (c : Counts) where
  abbrev at : TypeNumber → Measure
  at n = measure_at fr (starts_of fr) c n

  -- WHAT A TYPE HAS is worked out of it

  pending-holds : (n b : TypeNumber) (o : ItemNumber) (stride : ℕ)
      → type_at fr n ≡ Some (Ti.Array b (As.Pending o) stride) → Holds fr n
  pending-holds n b o stride e = (o, Over.pending o n b stride e)

  -- a pending array whose element is fixed
  of_array : (n b : TypeNumber) (o : ItemNumber) (stride : ℕ)
      → type_at fr n ≡ Some (Ti.Array b (As.Pending o) stride) → (Holds fr b → ⊥)
      → at n ≡ array_of n (measure_in fr (starts_of fr) b) (c o) stride
  of_array n b o stride e f =
      by-counts fr good c n _ e ((holds-when fr good n).1 (pending-holds n b o stride e))
      ∙ rw (is_free fr good c b f, fixed_same fr good c b (is_free fr good c b f))

  of_struct : (n : TypeNumber) (first : MemberNumber) (count span : ℕ)
      → type_at fr n ≡ Some (Ti.Struct first count span) → Holds fr n
      → at n ≡ fresh_struct n (fresh_parts fr (starts_of fr) at first count)
  of_struct n first count span e h = by-counts fr good c n _ e ((holds-when fr good n).1 h)

  -- a struct whose members have sizes
  of_members : (n : TypeNumber) (first : MemberNumber) (count span : ℕ) (aligns : ℕ → Alignment) (sizes offsets : ℕ
      → ℕ) (a : Alignment) (z : ℕ)
      → type_at fr n ≡ Some (Ti.Struct first count span) → Holds fr n
      → ((i : ℕ) → i < count → at (struct_member fr first i).ty ≡ Fills (aligns i) (sizes i)) → Greatest aligns count a
      → Fresh count aligns sizes offsets a z → at n ≡ cond (ltb z 4294967296) (Fills a z) (Faulty Huge n)
  unfolding fresh_struct
  of_members n first count span aligns sizes offsets a z e held h g f =
      let p = fresh-laid fr at first aligns sizes count h in
      of_struct n first count span e held
      ∙ rw (p.is, greatest-top aligns count a g, fresh-size aligns sizes count offsets a z f (omega (arith, g.there)))

  pub has-at-is : (n : TypeNumber) (a : Alignment) (z : ℕ) → HasAt fr c n a z
      → measure_at fr (starts_of fr) c n ≡ Fills a z
  unfolding array_of
  has-at-is n a z (HasAt.fixed m b y f h) = fixed_same fr good c n (is_free fr good c n f) ∙ has-is fr good n a z h
  has-at-is n a z (HasAt.array m b o stride k y e f h s l) =
      of_array n b o stride e f
      ∙ rw (has-is fr good b k y h, strided-is fr k y stride s, lt-ltb (c o * stride) 4294967296 l)
  has-at-is n a z (HasAt.struct m first count span aligns sizes offsets k y e held h g f l) =
      of_members n first count span aligns sizes offsets a z e held
      (λ i q. has-at-is _ (aligns i) (sizes i) (h i q)) g f ∙ rw (lt-ltb z 4294967296 l)

  -- A FAULT OF ITS OWN is worked out of it
  over-out : (n b : TypeNumber) (z : ArraySize) (stride : ℕ) → type_at fr n ≡ Some (Ti.Array b z stride)
      → Holds fr b → at n ≡ Faulty Unmeasured n
  over-out n b (As.Constant x) stride e h =
      by-counts fr good c n _ e ((holds-when fr good n).1 (h.0, Over.element h.0 n b _ stride e h.1))
  over-out n b (As.Pending o) stride e h =
      by-counts fr good c n _ e ((holds-when fr good n).1 (pending-holds n b o stride e))
      ∙ rw ((holds-when fr good b).1 h)
  over-out n b As.Dynamic stride e h =
      by-counts fr good c n _ e ((holds-when fr good n).1 (h.0, Over.element h.0 n b _ stride e h.1))

  pub own-at-is : (n : TypeNumber) (k : SizeFault) → OrderedAt fr c n k → measure_at fr (starts_of fr) c n ≡ Faulty k n
  unfolding array_of
  own-at-is n k (OrderedAt.fixed m j f h) = fixed_same fr good c n (is_free fr good c n f) ∙ fault-is fr good n k h
  own-at-is n k (OrderedAt.over m b z stride e h) = over-out n b z stride e h
  own-at-is n k (OrderedAt.stride m b o stride a z e f h s) =
      of_array n b o stride e f ∙ rw (has-is fr good b a z h, untrue _ (λ q. s (strided fr a z stride q)))
  own-at-is n k (OrderedAt.array m b o stride a z e f h s l) =
      of_array n b o stride e f
      ∙ rw (has-is fr good b a z h, strided-is fr a z stride s, le-ltb (c o * stride) 4294967296 l)
  own-at-is n k (OrderedAt.struct m first count span aligns sizes offsets a z e held h g f l) =
      of_members n first count span aligns sizes offsets a z e held
      (λ i q. has-at-is _ (aligns i) (sizes i) (h i q)) g f ∙ rw (le-ltb z 4294967296 l)

  -- NO LOWER FAULT: where a type rests on one with a fault of its own, the fault that it is given is at that type or a
  -- lower one

  -- a fixed type's fault is request 5's
  fixed-fault : (j : TypeNumber) (l : SizeFault) → (Holds fr j → ⊥) → OrderedAt fr c j l → Fault fr j l
  fixed-fault j l f (OrderedAt.fixed m k g h) = h
  fixed-fault j l f (OrderedAt.over m b z stride e h) = absurd (f (h.0, Over.element h.0 j b z stride e h.1))
  fixed-fault j l f (OrderedAt.stride m b o stride a z e g h s) = absurd (f (pending-holds j b o stride e))
  fixed-fault j l f (OrderedAt.array m b o stride a z e g h s q) = absurd (f (pending-holds j b o stride e))
  fixed-fault j l f (OrderedAt.struct m first count span aligns sizes offsets a z e held h g q r) = absurd (f held)

  members-low : (j n : TypeNumber) (first : MemberNumber) (count i : ℕ) → i < count → Folded fr at first count
      → Low fr good j (at (struct_member fr first i).ty)
      → Low fr good j (fresh_struct n (fresh_parts fr (starts_of fr) at first count))
  unfolding fresh_struct
  members-low j n first count i l (Folded.filled all) h = absurd (rw (all i l) at h)
  members-low j n first count i l (Folded.broken k p b o) h =
      rw (fresh-broken fr at first count k p b)
      (lower-yet fr good j p (at (struct_member fr first i).ty) (λ r q e. o.low i r q l e) h)

  pub low-at : (n j : TypeNumber) (l : SizeFault) → RestsOnAt fr n j → OrderedAt fr c j l → Low fr good j (at n)
  low-at n j l (RestsOnAt.itself m) h = rw (own-at-is n l h) (omega arith)
  low-at n j l (RestsOnAt.fixed m i f r) h =
      rw (fixed_same fr good c n (is_free fr good c n f))
      (low fr good n j l r (fixed-fault j l (rests-free fr good c n j r f) h))
  low-at n j l (RestsOnAt.element m b i o stride e f r) h =
      rw (of_array n b o stride e f)
      (array-low fr good j n (measure_in fr (starts_of fr) b) (c o) stride
      (low fr good b j l r (fixed-fault j l (rests-free fr good c b j r f) h)))
  low-at n j l (RestsOnAt.part m i first count span p e held q r) h =
      rw (of_struct n first count span e held)
      (members-low j n first count p q (folded fr at first count) (low-at _ j l r h))
