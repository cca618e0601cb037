-- A verdict takes the same steps with its numbers moved, where moves can be undone: its components are read in the same
-- order, and compared alike.
use Prim.Native.Nat.{ℕ, zero, suc, ◌+◌, ◌≤◌, ◌<◌}
use native.Mathlib.Omega.{arith}
use mathlib.Core.Path.{◌≡◌, refl, sym, ap, subst}
use mathlib.Core.Bool.{Bool, true, false, cond}
use mathlib.Core.List.{List, [], ◌∷◌, map}
use mathlib.Core.Option.{Option, none, some}
use lib.Dec.{eqb}
use lib.ListN.{length, get_or}
use borrow.Author.Tests.{eqb-true}
use Rattle.ir.specs.declared.TypeNumber.{TypeNumber}
use Rattle.ir.specs.declared.RowNumber.{RowNumber}
use Rattle.ir.specs.declared.VectorSize.{VectorSize}
use Rattle.ir.specs.declared.Scalar.{Scalar}
use Rattle.ir.specs.declared.ArraySize.{ArraySize}
use Rattle.ir.specs.declared.ArraySize.TheVariants as As
use Rattle.ir.specs.declared.TypeInner.{TypeInner}
use Rattle.ir.specs.declared.TypeInner.TheVariants as Ti
use Rattle.ir.specs.Numbers.{vector_size_number}
use Rattle.rule.specs.Answers.{TypeAnswer, number, Typed, given, refused, chosen_refusal, component, Judgement, count}
use Rattle.rule.specs.Things.{form}
use Rattle.rule.specs.Rule.{Rule, done}
use Rattle.rule_types.specs.Canonical.{equal_types}
use Rattle.rule_types.specs.Comparison.{compare}
use Rattle.rule_compose.specs.Verdict.{or_broken, come_to, or_part, each_part, counted, adds, add_part, vector_parts}
use Rattle.rule_compose.specs.Verdict.{column_is, element_is, array_parts, member_is, struct_parts, by_form, verdict}
use Rattle.law_moved.specs.Moves.{Moves, type_to, row_to, size_to, inner_to, answer_to, typed_to}
use Rattle.law_moved.proofs.Alike.{PlainType, Plain, Alike, ends, comes, reads}
use Rattle.law_moved.proofs.Compared.{Undone, equal-moved, compare_alike}

module _ (m i : Moves) (u : Undone m i) where
  abbrev Judges : Rule Judgement → Rule Judgement → Type 0
  Judges = Alike m (λ (c : Judgement). c)

  length_moved : {A B : Type 0} (f : A → B) (l : List A) → length (map f l) ≡ length l
  length_moved f [] = refl
  length_moved f (x ∷ l) = ap suc (length_moved f l)

  come-alike : (j : ℕ) (n : RowNumber) (k q : TypeAnswer → Rule Judgement)
      → ((a : TypeAnswer) → PlainType a → Judges (k a) (q (answer_to m a)))
      → Judges (come_to j n k) (come_to j (row_to m n) q)
  come-alike j n k q h = reads (λ p. refl) go
    where
      go : (t : Typed) → Plain t → Judges (or_broken j k t) (or_broken j q (typed_to m t))
      go (given a) w = h a w
      go (refused e) w = ends refl
      go (chosen_refusal f) w = absurd w

  part-alike : (j : ℕ) (k q : Rule Judgement) → Judges k q → (x : Bool) → Judges (or_part j k x) (or_part j q x)
  part-alike j k q h true = h
  part-alike j k q h false = ends refl

  abbrev Asked : Type 0
  Asked = ℕ → TypeAnswer → (Bool → Rule Judgement) → Rule Judgement

  -- what is asked of the components from j on, up to `last`
  each-alike : (f g : Asked) (last : ℕ)
      → ((j : ℕ) (a : TypeAnswer) (k q : Bool → Rule Judgement) → j < last → PlainType a
      → ((x : Bool) → Judges (k x) (q x)) → Judges (f j a k) (g j (answer_to m a) q))
      → (j : ℕ) (parts : List RowNumber) → j + length parts ≤ last
      → Judges (each_part f j parts) (each_part g j (map (row_to m) parts))
  unfolding each_part
  each-alike f g last h j [] l = ends refl
  each-alike f g last h j (n ∷ parts) l =
      come-alike j n _ _ (λ a w. h j a _ _ (omega arith) w
      (part-alike j _ _ (each-alike f g last h (suc j) parts (omega arith))))

  counted-alike : (e : ℕ) (parts : List RowNumber) (k q : Rule Judgement) → (e ≡ length parts → Judges k q)
      → Judges (counted e parts k) (counted e (map (row_to m) parts) q)
  counted-alike e parts k q h =
      subst (λ (x : ℕ). Judges (counted e parts k) (cond (eqb e x) q (done (count e x))))
      (sym (length_moved (row_to m) parts)) (go (eqb e (length parts)) refl)
    where
      go : (b : Bool) → eqb e (length parts) ≡ b
          → Judges (cond (eqb e (length parts)) k (done (count e (length parts))))
          (cond (eqb e (length parts)) q (done (count e (length parts))))
      go true x = rw x (h (eqb-true e (length parts) x))
      go false x = rw x (ends refl)

  adds-moved : (k : Scalar) (t : TypeInner) → adds k (inner_to m t) ≡ adds k t
  adds-moved k (Ti.Scalar y) = refl
  adds-moved k (Ti.Vector z y) = refl
  adds-moved k (Ti.Matrix c j y) = refl
  adds-moved k (Ti.CooperativeMatrix c j y o) = refl
  adds-moved k (Ti.Atomic y) = refl
  adds-moved k (Ti.Pointer b p) = refl
  adds-moved k (Ti.ValuePointer z y p) = refl
  adds-moved k (Ti.Array b z t) = refl
  adds-moved k (Ti.Struct f n t) = refl
  adds-moved k (Ti.Image d a c) = refl
  adds-moved k (Ti.Sampler q) = refl
  adds-moved k (Ti.AccelerationStructure q) = refl
  adds-moved k (Ti.RayQuery q) = refl
  adds-moved k (Ti.BindingArray b z) = refl

  add-alike : (j : ℕ) (f g : ℕ → Rule Judgement) → ((n : ℕ) → Judges (f n) (g n)) → (x : Option ℕ)
      → Judges (add_part j f x) (add_part j g x)
  add-alike j f g h (some n) = h n
  add-alike j f g h none = ends refl

  vector-alike : (z : VectorSize) (k : Scalar) (j total : ℕ) (parts : List RowNumber)
      → Judges (vector_parts z k j total parts) (vector_parts z k j total (map (row_to m) parts))
  unfolding vector_parts
  vector-alike z k j total [] = ends refl
  vector-alike z k j total (n ∷ parts) =
      come-alike j n _ _ (λ a w. comes (λ y.
      subst (λ (x : Option ℕ). Judges (add_part j (λ q. vector_parts z k (suc j) (total + q) parts) (adds k y.inner))
      (add_part j (λ q. vector_parts z k (suc j) (total + q) (map (row_to m) parts)) x))
      (sym (adds-moved k y.inner))
      (add-alike j _ _ (λ q. vector-alike z k (suc j) (total + q) parts) (adds k y.inner))))

  get-moved : (l : List TypeNumber) (j : ℕ) (d e : TypeNumber) → j < length l → get_or (map (type_to m) l) j e
      ≡ type_to m (get_or l j d)
  get-moved [] j d e h = absurd (omega arith)
  get-moved (t ∷ l) zero d e h = refl
  get-moved (t ∷ l) (suc j) d e h = get-moved l j d e (omega arith)

  array-alike : (b : TypeNumber) (z : ArraySize) (parts : List RowNumber)
      → Judges (array_parts b z parts) (array_parts (type_to m b) (size_to m z) (map (row_to m) parts))
  array-alike b (As.Constant n) parts =
      counted-alike n parts _ _ (λ e. each-alike (element_is b) (element_is (type_to m b)) (length parts)
      (λ j a k q l w h. compare_alike m i u (λ (c : Judgement). c) (component j) (number b) a k q tt w h) 0 parts
      (omega arith))
  array-alike b (As.Pending o) parts = ends refl
  array-alike b As.Dynamic parts = ends refl

  struct-alike : (l : List TypeNumber) (parts : List RowNumber)
      → Judges (struct_parts l parts) (struct_parts (map (type_to m) l) (map (row_to m) parts))
  struct-alike l parts =
      subst (λ (x : ℕ). Judges (struct_parts l parts)
      (counted x (map (row_to m) parts) (each_part (member_is (map (type_to m) l)) 0 (map (row_to m) parts))))
      (sym (length_moved (type_to m) l))
      (counted-alike (length l) parts _ _ (λ e. each-alike (member_is l) (member_is (map (type_to m) l)) (length l)
      (λ j a k q n w h. subst
      (λ (t : TypeNumber). Judges (member_is l j a k) (compare (component j) (number t) (answer_to m a) q))
      (sym (get-moved l j (record { 0 = 0 }) (record { 0 = 0 }) n))
      (compare_alike m i u (λ (c : Judgement). c) (component j) (number (get_or l j (record { 0 = 0 }))) a k q tt w
      h)) 0 parts
      (omega arith)))

  form-judges : (parts : List RowNumber) (l : List TypeNumber) (t : TypeInner)
      → Judges (by_form parts l t) (by_form (map (row_to m) parts) (map (type_to m) l) (inner_to m t))
  form-judges parts l (Ti.Scalar k) = ends refl
  form-judges parts l (Ti.Vector z k) = vector-alike z k 0 0 parts
  form-judges parts l (Ti.Matrix c j k) =
      counted-alike (vector_size_number c) parts _ _ (λ e. each-alike (column_is j k) (column_is j k) (length parts)
      (λ c a x q n w h. comes
      (λ y. subst (λ (z : Bool). Judges (x (equal_types y.inner (Ti.Vector j k))) (q z))
      (sym (equal-moved m i u y.inner (Ti.Vector j k))) (h (equal_types y.inner (Ti.Vector j k))))) 0 parts
      (omega arith))
  form-judges parts l (Ti.CooperativeMatrix c j k o) = ends refl
  form-judges parts l (Ti.Atomic k) = ends refl
  form-judges parts l (Ti.Pointer b p) = ends refl
  form-judges parts l (Ti.ValuePointer z k p) = ends refl
  form-judges parts l (Ti.Array b z t) = array-alike b z parts
  form-judges parts l (Ti.Struct f n t) = struct-alike l parts
  form-judges parts l (Ti.Image d a c) = ends refl
  form-judges parts l (Ti.Sampler q) = ends refl
  form-judges parts l (Ti.AccelerationStructure q) = ends refl
  form-judges parts l (Ti.RayQuery q) = ends refl
  form-judges parts l (Ti.BindingArray b z) = ends refl

  -- THE VERDICT on a compose
  pub verdict-alike : (t : TypeNumber) (parts : List RowNumber)
      → Judges (verdict t parts) (verdict (type_to m t) (map (row_to m) parts))
  verdict-alike t parts = comes {c = form (number t)} (λ x. form-judges parts x.members x.inner)
