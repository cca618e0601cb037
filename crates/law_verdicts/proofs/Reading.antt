-- The reading of every verdict is the table's (specs/Reads.antt), whatever a file shows and whatever the earlier
-- readings are: each step of the rule is a step of the composed type's line. By the steps that the rule is made of,
-- then over the components.
use Prim.Native.Nat.{ℕ, suc, ◌+◌}
use mathlib.Core.Path.{◌≡◌, refl, sym, ap, ◌∙◌}
use mathlib.Core.Bool.{Bool, true, false, cond, not, ◌&&◌, ◌||◌}
use mathlib.Core.List.{List, [], ◌∷◌, ◌++◌, append-nil}
use mathlib.Core.Option.{Option, none, some}
use lib.Dec.{eqb}
use lib.ListN.{length}
use Rattle.ir.specs.declared.TypeNumber.{TypeNumber}
use Rattle.ir.specs.declared.RowNumber.{RowNumber}
use Rattle.ir.specs.declared.VectorSize.{VectorSize}
use Rattle.ir.specs.declared.Scalar.{Scalar}
use Rattle.ir.specs.declared.AddressSpace.{AddressSpace}
use Rattle.ir.specs.declared.ArraySize.{ArraySize}
use Rattle.ir.specs.declared.ArraySize.TheVariants as As
use Rattle.ir.specs.declared.TypeInner.{TypeInner}
use Rattle.ir.specs.declared.TypeInner.TheVariants as Ti
use Rattle.rule.specs.Answers.{TypeAnswer, number, Typed, given, refused, chosen_refusal, Place, component, composed}
use Rattle.rule.specs.Answers.{Judgement, count}
use Rattle.rule.specs.Things.{Form, Thing, Seen, Sight, form, struct_number, see}
use Rattle.rule.specs.Rule.{Rule, done, come, Step, step, Readings, placed, follow}
use Rattle.rule.specs.InOrder.{reading, readings, among_readings}
use Rattle.rule_types.specs.Canonical.{if_pointer, canonical, equal_types, identical}
use Rattle.rule_types.specs.Comparison.{in_form, in_forms, by_struct, by_identical, compare}
use Rattle.ir.specs.Scalars.{equal_scalars}
use Rattle.rule_rows.specs.declared.Pass.{Pass}
use Rattle.rule_rows.specs.Typed.{typing}
use Rattle.law_rows.specs.Reads.{unless_refused, unless_newer}
use Rattle.rule_compose.specs.Verdict.{come_to, or_part, each_part, counted, adds, add_part, vector_parts, column_is}
use Rattle.rule_compose.specs.Verdict.{element_is, member_is, array_parts, by_form, verdict}
use Rattle.rule_compose.specs.Rows.{verdict_rule}
use Rattle.law_verdicts.specs.Reads.{Against, part_of, column, same_as, member_at, array_line, read_line, base_of}
use Rattle.law_verdicts.specs.Reads.{with_base}
use Rattle.law_verdicts.specs.Reads.{either_struct, comparison}
use Rattle.law_verdicts.specs.Reads.{canonical_form, equal_forms, are_same, comes_to, is_part_of, form_is, is_as_asked}
use Rattle.law_verdicts.specs.Reads.{thing_steps, part_steps, line_steps, form_steps, verdict_reading}
use Rattle.law_verdicts.proofs.Composes.{Composes, composes, rule-is}

-- two canonical forms that are known
known-forms : (o w : Option TypeInner) (u v : TypeInner) → o ≡ some u → w ≡ some v → equal_types u v ≡ equal_forms o w
known-forms o w u v e f = rw (e, f)

-- what holds of outcomes of `if_pointer` on one type: what holds where it is a pointer, and where it is not
pub by-pointer : {X Y Z : Type 0} (P : X → Y → Z → Type 0)
    (t : TypeInner) {f : TypeNumber → AddressSpace → X} {g : TypeNumber → AddressSpace → Y}
    {h : TypeNumber → AddressSpace → Z} {x : X} {y : Y} {z : Z}
    → ((b : TypeNumber) (s : AddressSpace) → P (f b s) (g b s) (h b s)) → P x y z
    → P (if_pointer t f x) (if_pointer t g y) (if_pointer t h z)
by-pointer P (Ti.Pointer b s) is other = is b s
by-pointer P (Ti.Scalar x0) is other = other
by-pointer P (Ti.Vector x0 x1) is other = other
by-pointer P (Ti.Matrix x0 x1 x2) is other = other
by-pointer P (Ti.CooperativeMatrix x0 x1 x2 x3) is other = other
by-pointer P (Ti.Atomic x0) is other = other
by-pointer P (Ti.ValuePointer x0 x1 x2) is other = other
by-pointer P (Ti.Array x0 x1 x2) is other = other
by-pointer P (Ti.Struct x0 x1 x2) is other = other
by-pointer P (Ti.Image x0 x1 x2) is other = other
by-pointer P (Ti.Sampler x0) is other = other
by-pointer P (Ti.AccelerationStructure x0) is other = other
by-pointer P (Ti.RayQuery x0) is other = other
by-pointer P (Ti.BindingArray x0 x1) is other = other

module _ (sight : Sight) (earlier : Readings) where
  abbrev steps : Rule Judgement → List Step
  steps r = (follow sight earlier r).steps

  -- A THING is come to, and things after things

  come-steps : (p : Place) (c : Thing) (k : Seen c → Rule Judgement) (rest : List Step)
      → ((s : Seen c) → sight c ≡ some s → steps (k s) ≡ rest)
      → steps (come p c k) ≡ step p c ∷ unless_newer (sight c) rest
  come-steps p c k rest h = go (sight c) refl
    where
      go : (o : Option (Seen c)) → sight c ≡ o → steps (come p c k) ≡ step p c ∷ unless_newer o rest
      go none q = rw (q, steps, follow)
      go (some s) q = rw (q, steps, follow) (ap (λ (l : List Step). step p c ∷ l) (h s q))

  join : (p : Place) (cs ds : List Thing) (rest : List Step)
      → thing_steps sight p cs (thing_steps sight p ds rest) ≡ thing_steps sight p (cs ++ ds) rest
  join p [] ds rest = refl
  join p (c ∷ cs) ds rest = ap (λ (l : List Step). step p c ∷ unless_newer (sight c) l) (join p cs ds rest)

  -- THE COMPARISON

  base-steps : (p : Place) (k : TypeInner → Rule Judgement) (rest : List Step) (x : Form)
      → ((u : TypeInner) → canonical_form sight (some x) ≡ some u → steps (k u) ≡ rest)
      → steps (in_form p k x.inner) ≡ thing_steps sight p (base_of (some x)) rest
  base-steps p k rest x =
      by-pointer (λ (r : Rule Judgement) (cs : List Thing) (o : Option TypeInner).
      ((u : TypeInner) → o ≡ some u → steps (k u) ≡ rest) → steps r ≡ thing_steps sight p cs rest) x.inner
      (λ b s h.
      come-steps p (form (number b)) (λ c. k (canonical x.inner s c.inner)) rest
      (λ c q. h (canonical x.inner s c.inner) (rw q)))
      (λ h. h x.inner refl)

  look-steps : (p : Place) (a : TypeAnswer) (k : TypeInner → Rule Judgement) (rest : List Step)
      → ((u : TypeInner) → canonical_form sight (sight (form a)) ≡ some u → steps (k u) ≡ rest)
      → steps (come p (form a) (λ x. in_form p k x.inner)) ≡ thing_steps sight p (with_base sight a) rest
  look-steps p a k rest h =
      come-steps p (form a) (λ x. in_form p k x.inner) (thing_steps sight p (base_of (sight (form a))) rest)
      (λ x q.
      base-steps p k rest x (λ u e. h u (ap (canonical_form sight) q ∙ e))
      ∙ ap (λ (o : Option Form). thing_steps sight p (base_of o) rest) (sym q))

  module _ (p : Place) (a b : TypeAnswer) (rest : Bool → Rule Judgement) where
    abbrev equal : Bool
    equal = equal_forms (canonical_form sight (sight (form a))) (canonical_form sight (sight (form b)))

    forms-steps : steps (in_forms p a b rest)
        ≡ thing_steps sight p (with_base sight a ++ with_base sight b) (steps (rest equal))
    forms-steps =
        look-steps p a (λ u. come p (form b) (λ y. in_form p (λ v. rest (equal_types u v)) y.inner))
        (thing_steps sight p (with_base sight b) (steps (rest equal)))
        (λ u e.
        look-steps p b (λ v. rest (equal_types u v)) (steps (rest equal))
        (λ v f. ap (λ (x : Bool). steps (rest x)) (known-forms _ _ u v e f)))
        ∙ join p (with_base sight a) (with_base sight b) (steps (rest equal))

    struct-steps : (e : Bool)
        → steps (by_struct p a b rest e)
        ≡ thing_steps sight p (cond e [] (with_base sight a ++ with_base sight b)) (steps (rest (not e && equal)))
    struct-steps true = refl
    struct-steps false = forms-steps

    identical-steps : (i : Bool)
        → steps (by_identical p a b rest i)
        ≡ thing_steps sight p
        (cond i [] (struct_number a ∷ struct_number b ∷ cond (either_struct sight a b) []
        (with_base sight a ++ with_base sight b)))
        (steps (rest (i || (not (either_struct sight a b) && equal))))
    identical-steps true = refl
    identical-steps false =
        come-steps p (struct_number a) (λ s. come p (struct_number b) (λ t. by_struct p a b rest (s || t))) _ (λ s q.
        come-steps p (struct_number b) (λ t. by_struct p a b rest (s || t))
        (thing_steps sight p (cond (either_struct sight a b) [] (with_base sight a ++ with_base sight b))
        (steps (rest (not (either_struct sight a b) && equal)))) (λ t w.
        rw (q, w) (struct-steps (s || t))))

    compare-steps : steps (compare p a b rest)
        ≡ thing_steps sight p (comparison sight a b) (steps (rest (are_same sight a b)))
    compare-steps = identical-steps (identical a b)

  -- COMPONENTS

  -- a component's row is read
  row-steps : (i : ℕ) (n : RowNumber) (k : TypeAnswer → Rule Judgement) (rest : TypeAnswer → List Step)
      → ((a : TypeAnswer) → steps (k a) ≡ rest a)
      → steps (come_to i n k) ≡ placed (λ p. component i) (earlier n).steps ++ unless_refused (earlier n).end rest
  row-steps i n k rest h = go (earlier n).end refl
    where
      go : (e : Option Typed) → (earlier n).end ≡ e
          → steps (come_to i n k) ≡ placed (λ p. component i) (earlier n).steps ++ unless_refused e rest
      go none q = rw (q, steps, follow) (sym (append-nil (placed (λ p. component i) (earlier n).steps)))
      go (some (given a)) q = rw (q, steps, follow)
          (ap (λ (l : List Step). placed (λ p. component i) (earlier n).steps ++ l) (h a))
      go (some (refused e)) q = rw (q, steps, follow)
      go (some (chosen_refusal f)) q = rw (q, steps, follow)

  or-part : (i : ℕ) (k : Rule Judgement) (rest : List Step) → steps k ≡ rest → (b : Bool) → steps (or_part i k b)
      ≡ cond b rest []
  or-part i k rest h true = h
  or-part i k rest h false = refl

  -- each component, where what the rule asks of it is what it is held against
  each-steps : (asked : ℕ → TypeAnswer → (Bool → Rule Judgement) → Rule Judgement) (each : ℕ → Against)
      → ((i : ℕ) (a : TypeAnswer) (k : Bool → Rule Judgement) → steps (asked i a k)
      ≡ thing_steps sight (component i) (comes_to sight (each i) a) (steps (k (is_as_asked sight (each i) a))))
      → (i : ℕ) (parts : List RowNumber) → steps (each_part asked i parts) ≡ part_steps sight earlier each i parts
  unfolding each_part part_steps
  each-steps asked each h i [] = refl
  each-steps asked each h i (n ∷ parts) =
      row-steps i n _ _ (λ a.
      h i a (or_part i (each_part asked (suc i) parts))
      ∙ ap (thing_steps sight (component i) (comes_to sight (each i) a))
      (or-part i (each_part asked (suc i) parts) _ (each-steps asked each h (suc i) parts)
      (is_as_asked sight (each i) a)))

  column-steps : (z : VectorSize) (k : Scalar) (i : ℕ) (a : TypeAnswer) (rest : Bool → Rule Judgement)
      → steps (column_is z k i a rest)
      ≡ thing_steps sight (component i) (form a ∷ []) (steps (rest (is_as_asked sight (column z k) a)))
  column-steps z k i a rest = come-steps (component i) (form a) (λ y. rest (equal_types y.inner (Ti.Vector z k))) _
      (λ y q. rw q)

  -- a part of a vector
  add-test : (i m : ℕ) (k : ℕ → Rule Judgement) (rest : List Step) → ((m : ℕ) → steps (k m) ≡ rest) → (b : Bool)
      → steps (add_part i k (cond b (some m) none)) ≡ cond b rest []
  add-test i m k rest h true = h m
  add-test i m k rest h false = refl

  add-steps : (i : ℕ) (s : Scalar) (k : ℕ → Rule Judgement) (rest : List Step) → ((m : ℕ) → steps (k m) ≡ rest)
      → (t : TypeInner)
      → steps (add_part i k (adds s t)) ≡ cond (is_part_of s t) rest []
  add-steps i s k rest h (Ti.Scalar j) = add-test i 1 k rest h (equal_scalars j s)
  add-steps i s k rest h (Ti.Vector z j) = add-test i _ k rest h (equal_scalars j s)
  add-steps i s k rest h (Ti.Matrix x0 x1 x2) = refl
  add-steps i s k rest h (Ti.CooperativeMatrix x0 x1 x2 x3) = refl
  add-steps i s k rest h (Ti.Atomic x0) = refl
  add-steps i s k rest h (Ti.Pointer x0 x1) = refl
  add-steps i s k rest h (Ti.ValuePointer x0 x1 x2) = refl
  add-steps i s k rest h (Ti.Array x0 x1 x2) = refl
  add-steps i s k rest h (Ti.Struct x0 x1 x2) = refl
  add-steps i s k rest h (Ti.Image x0 x1 x2) = refl
  add-steps i s k rest h (Ti.Sampler x0) = refl
  add-steps i s k rest h (Ti.AccelerationStructure x0) = refl
  add-steps i s k rest h (Ti.RayQuery x0) = refl
  add-steps i s k rest h (Ti.BindingArray x0 x1) = refl

  vector-steps : (z : VectorSize) (s : Scalar) (i total : ℕ) (parts : List RowNumber)
      → steps (vector_parts z s i total parts) ≡ part_steps sight earlier (λ (i : ℕ). part_of s) i parts
  unfolding vector_parts part_steps
  vector-steps z s i total [] = refl
  vector-steps z s i total (n ∷ parts) =
      row-steps i n _ _ (λ a.
      come-steps (component i) (form a)
      (λ y. add_part i (λ m. vector_parts z s (suc i) (total + m) parts) (adds s y.inner)) _ (λ y q.
      add-steps i s (λ m. vector_parts z s (suc i) (total + m) parts)
      (part_steps sight earlier (λ (i : ℕ). part_of s) (suc i) parts)
      (λ m. vector-steps z s (suc i) (total + m) parts) y.inner
      ∙ ap (λ (o : Option Form). cond (form_is (is_part_of s) o)
      (part_steps sight earlier (λ (i : ℕ). part_of s) (suc i) parts) []) (sym q)))

  -- the count
  counted-steps : (expected : ℕ) (parts : List RowNumber) (k : Rule Judgement) (rest : List Step) → steps k ≡ rest
      → steps (counted expected parts k) ≡ cond (eqb expected (length parts)) rest []
  counted-steps expected parts k rest h = go (eqb expected (length parts))
    where
      go : (b : Bool) → steps (cond b k (done (count expected (length parts)))) ≡ cond b rest []
      go true = h
      go false = refl

  array_steps : (base : TypeNumber) (z : ArraySize) (parts : List RowNumber)
      → steps (array_parts base z parts) ≡ line_steps sight earlier parts (array_line base z)
  array_steps base (As.Constant n) parts =
      counted-steps n parts _ _
      (each-steps (element_is base) (λ (i : ℕ). same_as base)
      (λ i a k. compare-steps (component i) (number base) a k) 0 parts)
  array_steps base (As.Pending o) parts = refl
  array_steps base As.Dynamic parts = refl

  -- BY THE COMPOSED TYPE
  line-steps : (parts : List RowNumber) (members : List TypeNumber) (t : TypeInner)
      → steps (by_form parts members t) ≡ line_steps sight earlier parts (read_line members t)
  line-steps parts ms (Ti.Vector z k) = vector-steps z k 0 0 parts
  line-steps parts ms (Ti.Matrix c r k) =
      counted-steps _ parts _ _ (each-steps (column_is r k) (λ (i : ℕ). column r k) (column-steps r k) 0 parts)
  line-steps parts ms (Ti.Array b z t) = array_steps b z parts
  line-steps parts ms (Ti.Struct m n t) =
      counted-steps (length ms) parts _ _
      (each-steps (member_is ms) (λ (i : ℕ). same_as (member_at ms i))
      (λ i a k. compare-steps (component i) (number (member_at ms i)) a k) 0 parts)
  line-steps parts ms (Ti.Scalar x0) = refl
  line-steps parts ms (Ti.CooperativeMatrix x0 x1 x2 x3) = refl
  line-steps parts ms (Ti.Atomic x0) = refl
  line-steps parts ms (Ti.Pointer x0 x1) = refl
  line-steps parts ms (Ti.ValuePointer x0 x1 x2) = refl
  line-steps parts ms (Ti.Image x0 x1 x2) = refl
  line-steps parts ms (Ti.Sampler x0) = refl
  line-steps parts ms (Ti.AccelerationStructure x0) = refl
  line-steps parts ms (Ti.RayQuery x0) = refl
  line-steps parts ms (Ti.BindingArray x0 x1) = refl

  -- THE READING of every verdict is the table's
  pub verdict-reads-are : (t : TypeNumber) (parts : List RowNumber)
      → (follow sight earlier (verdict t parts)).steps ≡ verdict_reading sight earlier t parts
  verdict-reads-are t parts =
      come-steps composed (form (number t)) (λ x. by_form parts x.members x.inner)
      (form_steps sight earlier parts (sight (form (number t))))
      (λ x q. line-steps parts x.members x.inner ∙ ap (form_steps sight earlier parts) (sym q))
      ∙ shown (sight (form (number t)))
    where
      shown : (o : Option Form)
          → step composed (form (number t)) ∷ unless_newer o (form_steps sight earlier parts o)
          ≡ step composed (form (number t)) ∷ form_steps sight earlier parts o
      shown (some x) = refl
      shown none = refl

-- and so of a row of a file: where it has a verdict it is a compose, and the verdict's reading is that of the type and
-- the rows it shows
pub record VerdictReads (pass : Pass) (fr : List ℕ) (n : ℕ) (rule : Rule Judgement) : Type 0 where
  pub row : Composes fr n
  pub reads : reading (see fr) (typing pass) n rule
      ≡ verdict_reading (see fr) (among_readings (readings (see fr) (typing pass) n)) row.ty row.parts

pub file-verdict-reads : (pass : Pass) (fr : List ℕ) (n : ℕ) (rule : Rule Judgement) → verdict_rule (see fr) n
    ≡ some rule
    → VerdictReads pass fr n rule
file-verdict-reads pass fr n rule h =
    let c = composes fr n rule h in
    record {
      row =
          c;
      reads = ap (reading (see fr) (typing pass) n) (rule-is fr n rule h c)
          ∙ verdict-reads-are (see fr) (among_readings (readings (see fr) (typing pass) n)) c.ty c.parts;
    }
