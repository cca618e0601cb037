-- WHAT A TYPE FILLS, of a file that is carried into another (document 02, requests 5 and 14): the same alignment and
-- size, or the same number 42 to 44 at the lowest faulty type, moved. Type by type: a type's form is moved, what its
-- parts fill is what they did, and moves that keep the order of types keep the lowest.
use Rattle.std.specs.Prelude.{Option, Some, None}
use Rattle.rule_sizes.specs.declared.Alignment.{Alignment}
use Rattle.ir.specs.declared.TypeInner.{TypeInner}
use Prim.Native.Nat.{ℕ, zero, suc, ◌+◌, ◌*◌, ◌≤◌, ◌<◌}
use native.Mathlib.Omega.{arith}
use mathlib.Core.Path.{◌≡◌, refl, sym, ap, ◌∙◌}
use mathlib.Core.Bool.{Bool, true, false, cond, ◌&&◌}
use mathlib.Core.List.{List}
use lib.Dec.{eqb, ltb, leb}
use borrow.Author.Tests.{ltb-true, lt-ltb, leb-true}
use Rattle.ir.specs.declared.TypeNumber.{TypeNumber}
use Rattle.ir.specs.declared.MemberNumber.{MemberNumber}
use Rattle.ir.specs.declared.StructMember.{StructMember}
use Rattle.ir.specs.declared.VectorSize.{VectorSize}
use Rattle.ir.specs.declared.ArraySize.{ArraySize}
use Rattle.ir.specs.declared.ArraySize.TheVariants as As
use Rattle.ir.specs.declared.TypeInner.TheVariants as Ti
use Rattle.frames.specs.Bytes.{frame_at}
use Rattle.frames.specs.Forms.{member_of}
use Rattle.archive.specs.declared.Starts.{Starts}
use Rattle.archive.specs.Starts.{starts_of, type_count, member_count}
use Rattle.archive.specs.Names.{is_type, type_form_names}
use Rattle.archive.specs.Access.{type_at, member_in}
use Rattle.rule_sizes.specs.declared.Measure.{Measure}
use Rattle.rule_sizes.specs.declared.Measure.TheVariants.{Fills, Faulty}
use Rattle.rule_sizes.specs.Wgsl.{is_multiple, integer_align, float_align, number_align}
use Rattle.rule_sizes.specs.Sizes.{scalar_measure, vector_measure, matrix_measure, array_of, Parts, joined, parts_of}
use Rattle.rule_sizes.specs.Sizes.{spanned, struct_of, sized_array, of_form, measure_in}
use Rattle.rule_sizes.specs.Sizes as Sz
use Rattle.law_rows.proofs.Good.{Good}
use Rattle.law_sizes.proofs.Fixed.{PartOf, early, fixed}
use Rattle.law_moved.specs.Moves.{Moves, type_to, size_to, type_form_to, member_to}
use Rattle.law_moved.proofs.Carries.{Carries}
use Rattle.law_moved.proofs.CarriedTypes.{type-carried, type-named}

-- WHAT IS MOVED: the faulty type

abbrev pub measure_to : Moves → Measure → Measure
measure_to m (Fills a z) = Fills a z
measure_to m (Faulty k p) = Faulty k (type_to m p)

abbrev parts_to : Moves → Parts → Parts
parts_to m (Sz.Laid a e ok) = Sz.Laid a e ok
parts_to m (Sz.Broken k p) = Sz.Broken k (type_to m p)

module _ (m : Moves) (n : TypeNumber) where
  scalar-to : (o : Option Alignment) → scalar_measure (type_to m n) o ≡ measure_to m (scalar_measure n o)
  scalar-to (Some a) = refl
  scalar-to None = refl

  vector-to : (z : VectorSize) (o : Option Alignment) → vector_measure (type_to m n) z o
      ≡ measure_to m (vector_measure n z o)
  vector-to z (Some a) = refl
  vector-to z None = refl

  matrix-to : (c r : VectorSize) (o : Option Alignment) → matrix_measure (type_to m n) c r o
      ≡ measure_to m (matrix_measure n c r o)
  matrix-to c r (Some a) = refl
  matrix-to c r None = refl

  array-to : (x : Measure) (count stride : ℕ) → array_of (type_to m n) (measure_to m x) count stride
      ≡ measure_to m (array_of n x count stride)
  unfolding array_of
  array-to (Faulty k p) count stride = refl
  array-to (Fills a z) count stride = go (is_multiple a stride && leb z stride) refl
      (ltb (count * stride) 4294967296) refl
    where
      go : (b : Bool) → (is_multiple a stride && leb z stride) ≡ b → (d : Bool)
          → ltb (count * stride) 4294967296 ≡ d
          → array_of (type_to m n) (Fills a z) count stride ≡ measure_to m (array_of n (Fills a z) count stride)
      go true q true r = rw (q, r)
      go true q false r = rw (q, r)
      go false q d r = rw q

  spanned-to : (p : Parts) (span : ℕ) → spanned (type_to m n) (parts_to m p) span ≡ measure_to m (spanned n p span)
  unfolding spanned
  spanned-to (Sz.Broken k p) span = refl
  spanned-to (Sz.Laid a e ok) span = go (ok && (leb e span && is_multiple a span)) refl
    where
      go : (b : Bool) → (ok && (leb e span && is_multiple a span)) ≡ b
          → spanned (type_to m n) (Sz.Laid a e ok) span ≡ measure_to m (spanned n (Sz.Laid a e ok) span)
      go true q = rw q
      go false q = rw q

  struct-to : (p : Parts) (count span : ℕ) → struct_of (type_to m n) (parts_to m p) count span
      ≡ measure_to m (struct_of n p count span)
  unfolding struct_of
  struct-to p count span = go (eqb count 0) refl
    where
      go : (b : Bool) → eqb count 0 ≡ b → struct_of (type_to m n) (parts_to m p) count span
          ≡ measure_to m (struct_of n p count span)
      go true q = rw q
      go false q = rw q (spanned-to p span)

-- A STRUCT'S MEMBERS, one by one: the fault of the lower type is that of the lower type moved, where moves keep order
module _ (m : Moves) (ordered : (p q : ℕ) → leb (m.types p) (m.types q) ≡ leb p q) where
  joined_to : (p : Parts) (offset : ℕ) (x : Measure) → joined (parts_to m p) offset (measure_to m x)
      ≡ parts_to m (joined p offset x)
  unfolding joined
  joined_to (Sz.Broken k p) offset (Faulty j q) = rw (ordered p.0 q.0) (go (leb p.0 q.0))
    where
      go : (b : Bool) → cond b (Sz.Broken k (type_to m p)) (Sz.Broken j (type_to m q))
          ≡ parts_to m (cond b (Sz.Broken k p) (Sz.Broken j q))
      go true = refl
      go false = refl
  joined_to (Sz.Broken k p) offset (Fills a z) = refl
  joined_to (Sz.Laid b e ok) offset (Faulty j q) = refl
  joined_to (Sz.Laid b e ok) offset (Fills a z) = refl

  module _ (kept : ℕ → Type 0) (fr gr : List ℕ) (good : Good fr) (also : Good gr) (to : Carries m kept fr gr) where
    abbrev s : Starts
    s = starts_of fr

    abbrev t : Starts
    t = starts_of gr

    abbrev moved : MemberNumber → MemberNumber
    moved first = record { 0 = m.members first.0 }

    member-to : (first : MemberNumber) (i : ℕ) → first.0 + i < member_count s
        → member_in gr t (moved first) i ≡ member_to m (member_in fr s first i)
    member-to first i l =
        let a : t.members + m.members first.0 + i
        ≡ t.members + m.members (first.0 + i) = omega (arith, to.member-run first.0 i) in
        let b : s.members + (first.0 + i) ≡ s.members + first.0 + i = omega arith in
        ap (λ (k : ℕ). member_of (frame_at gr k)) a ∙ to.members (first.0 + i) l
        ∙ ap (λ (k : ℕ). member_to m (member_of (frame_at fr k))) b

    module _ (f g : TypeNumber → Measure) where
      parts-to : (first : MemberNumber) (k : ℕ) → first.0 + k ≤ member_count s
          → ((i : ℕ) → i < k
          → g (type_to m (member_in fr s first i).ty) ≡ measure_to m (f (member_in fr s first i).ty))
          → parts_of gr t g (moved first) k ≡ parts_to m (parts_of fr s f first k)
      unfolding parts_of
      parts-to first zero w h = refl
      parts-to first (suc k) w h =
          let x = member_in fr s first k in
          ap (λ (y : StructMember). joined (parts_of gr t g (moved first) k) y.offset (g y.ty))
          (member-to first k (omega arith))
          ∙ ap (joined (parts_of gr t g (moved first) k) (member_in fr s first k).offset) (h k (omega arith))
          ∙ ap (λ (y : Parts). joined y (member_in fr s first k).offset (measure_to m (f (member_in fr s first k).ty)))
          (parts-to first k (omega arith) (λ i l. h i (omega arith)))
          ∙ joined_to (parts_of fr s f first k) (member_in fr s first k).offset (f (member_in fr s first k).ty)

      sized-to : (n b : TypeNumber) (z : ArraySize) (stride : ℕ) → g (type_to m b) ≡ measure_to m (f b)
          → sized_array (type_to m n) g (type_to m b) (size_to m z) stride ≡ measure_to m (sized_array n f b z stride)
      sized-to n b (As.Constant c) stride h = ap (λ (x : Measure). array_of (type_to m n) x c stride) h
          ∙ array-to m n (f b) c stride
      sized-to n b (As.Pending o) stride h = refl
      sized-to n b As.Dynamic stride h = refl

      form-to : (n : TypeNumber) (x : Option TypeInner) → type_form_names s n x ≡ true
          → ((b : TypeNumber) → PartOf fr x b → g (type_to m b) ≡ measure_to m (f b))
          → of_form gr t g (type_to m n) (type_form_to m x) ≡ measure_to m (of_form fr s f n x)
      form-to n (Some (Ti.Scalar k)) w h = scalar-to m n (number_align k)
      form-to n (Some (Ti.Vector z k)) w h = vector-to m n z (number_align k)
      form-to n (Some (Ti.Matrix c r k)) w h = matrix-to m n c r (float_align k)
      form-to n (Some (Ti.CooperativeMatrix c r k o)) w h = refl
      form-to n (Some (Ti.Atomic k)) w h = scalar-to m n (integer_align k)
      form-to n (Some (Ti.Pointer b p)) w h = refl
      form-to n (Some (Ti.ValuePointer z k p)) w h = refl
      form-to n (Some (Ti.Array b z stride)) w h = sized-to n b z stride (h b (PartOf.element b z stride))
      form-to n (Some (Ti.Struct first count span)) w h =
          let l : first.0 + count ≤ member_count s = leb-true (first.0 + count) (member_count s) w in
          ap (λ (p : Parts). struct_of (type_to m n) p count span)
          (parts-to first count l (λ i d. h _ (PartOf.part first count span i d)))
          ∙ struct-to m n (parts_of fr s f first count) count span
      form-to n (Some (Ti.Image d a c)) w h = refl
      form-to n (Some (Ti.Sampler q)) w h = refl
      form-to n (Some (Ti.AccelerationStructure q)) w h = refl
      form-to n (Some (Ti.RayQuery q)) w h = refl
      form-to n (Some (Ti.BindingArray b z)) w h = refl
      form-to n None w h = refl

    below : (k : ℕ) (n : TypeNumber) → n.0 < k → n.0 < type_count s
        → measure_in gr t (type_to m n) ≡ measure_to m (measure_in fr s n)
    below zero n l w = absurd (omega arith)
    below (suc k) n l w =
        let here : is_type s n ≡ true = lt-ltb n.0 (type_count s) w in
        fixed gr also (type_to m n)
        ∙ ap (of_form gr t (measure_in gr t) (type_to m n)) (type-carried m kept fr gr good to n here)
        ∙ form-to (measure_in fr s) (measure_in gr t) n (type_at fr n) (type-named m kept fr gr good to n here)
        (λ b p. let e = early fr good n b p in below k b (omega arith) (omega arith))
        ∙ ap (measure_to m) (sym (fixed fr good n))

    -- WHAT A TYPE FILLS
    pub measure-carried : (n : TypeNumber) → is_type (starts_of fr) n ≡ true
        → measure_in gr (starts_of gr) (type_to m n) ≡ measure_to m (measure_in fr (starts_of fr) n)
    measure-carried n here = below (suc n.0) n (omega arith) (ltb-true n.0 (type_count s) here)
