-- Every verdict of ours has one of the numbers 0, 22 and 30 to 33, in a frame of family 11, and names the composed type
-- or a component of its compose: each end of its rule does, and each place at which the rule comes to a thing or a row.
-- By the shapes of the rule.
use Prim.Native.Nat.{ℕ, zero, suc, ◌+◌, ◌≤◌, ◌<◌}
use native.Mathlib.Omega.{arith}
use mathlib.Core.Path.{◌≡◌, refl, sym, ap, ◌∙◌, subst}
use mathlib.Core.Bool.{Bool, true, false, cond, ◌||◌}
use mathlib.Core.List.{List, [], ◌∷◌}
use mathlib.Core.Logic.{◌↔◌}
use mathlib.Core.Option.{Option, none, some}
use lib.Dec.{eqb}
use lib.ListN.{length}
use borrow.Author.Tests.{eqb-false}
use Rattle.answers.specs.Limit.{max_frames}
use Rattle.ir.specs.declared.TypeNumber.{TypeNumber}
use Rattle.ir.specs.declared.RowNumber.{RowNumber}
use Rattle.ir.specs.declared.VectorSize.{VectorSize}
use Rattle.ir.specs.declared.Scalar.{Scalar}
use Rattle.ir.specs.declared.ArraySize.{ArraySize}
use Rattle.ir.specs.declared.ArraySize.TheVariants as As
use Rattle.ir.specs.declared.TypeInner.{TypeInner}
use Rattle.ir.specs.declared.TypeInner.TheVariants as Ti
use Rattle.ir.specs.Numbers.{vector_size_number}
use Rattle.frames.specs.Bytes.{byte, half, word, frame_count}
use Rattle.frames.proofs.ReadBack.{half_back, word_back}
use Rattle.archive.specs.Starts.{starts_of, row_count}
use Rattle.archive.specs.Access.{row_in}
use Rattle.rule.specs.Answers.{TypeAnswer, number, Typed, given, refused, chosen_refusal, Place, component, composed}
use Rattle.rule.specs.Answers.{Judgement, passes, count, Result, told, newer}
use Rattle.rule.specs.Things.{Thing, Seen, Sight, form, struct_number, listed, see}
use Rattle.rule.specs.Rule.{Rule, done, come, past, Answers, run}
use Rattle.rule.specs.InOrder.{ours, among, answers}
use Rattle.rule.proofs.Named.{listed-length}
use Rattle.rule_types.specs.Canonical.{canonical, equal_types, identical}
use Rattle.rule_types.specs.Comparison.{in_form, by_struct, by_identical, compare}
use Rattle.rule_types.proofs.Seen.{never}
use Rattle.rule_rows.specs.declared.Pass.{Pass}
use Rattle.rule_rows.specs.Typed.{typing}
use Rattle.law_rows.proofs.Good.{Good}
use Rattle.law_rows.proofs.Range.{row-there}
use Rattle.law_rows.proofs.ByBytes.{row_frame, row_named, row-by-bytes}
use Rattle.rule_compose.specs.Verdict.{or_broken, come_to, or_part, each_part, adds, add_part, vector_parts, column_is}
use Rattle.rule_compose.specs.Verdict.{element_is, member_is, array_parts, by_form, verdict}
use Rattle.rule_compose.specs.Rows.{of_shown, verdict_of}
use Rattle.law_answers.proofs.Room.{row-compose, row_is}
use Rattle.law_verdicts.specs.Numbers.{OurVerdict, it_passes, no_composed, other_count, other_part, broken_part}
use Rattle.law_verdicts.specs.Numbers.{newer_composed, newer_part}
use Rattle.law_verdicts.specs.Numbers.{number0, number30, number31, number32, number33, number22}
use Rattle.law_verdicts.specs.Numbers.{number22composed, frame_of, VerdictLaid}
use Rattle.law_verdicts.proofs.Composes.{Composes, composes, rule-is, has-rule}
use Rattle.law_verdicts.proofs.Reading.{by-pointer}

module _ (m : ℕ) where
  -- a rule whose ends are verdicts of ours on m components, and whose places are the composed type and those components
  pub data Keeps : Rule Judgement → Type 0 where
    ends : {j : Judgement} → OurVerdict m (told j) → Keeps (done j)
    comes : (p : Place) (c : Thing) {k : Seen c → Rule Judgement} → OurVerdict m (newer p)
        → ((s : Seen c) → Keeps (k s))
        → Keeps (come p c k)
    reads : (n : RowNumber) (at : Place → Place) {k : Typed → Rule Judgement}
        → ((p : Place) → OurVerdict m (newer (at p)))
        → ((t : Typed) → Keeps (k t)) → Keeps (past n at k)

  -- run over anything, it gives a verdict of ours
  runs : (sight : Sight) (earlier : Answers) {rule : Rule Judgement} → Keeps rule
      → OurVerdict m (run sight earlier newer rule)
  runs sight earlier (ends h) = h
  runs sight earlier (comes p c {k} place next) = go (sight c) refl (λ s. runs sight earlier (next s))
    where
      go : (o : Option (Seen c)) → sight c ≡ o → ((s : Seen c) → OurVerdict m (run sight earlier newer (k s)))
          → OurVerdict m (run sight earlier newer (come p c k))
      go none q ih = rw (q, run) place
      go (some s) q ih = rw (q, run) (ih s)
  runs sight earlier (reads n at {k} place next) = go (earlier n) refl (λ t. runs sight earlier (next t))
    where
      go : (o : Result Typed) → earlier n ≡ o → ((t : Typed) → OurVerdict m (run sight earlier newer (k t)))
          → OurVerdict m (run sight earlier newer (past n at k))
      go (told t) q ih = rw (q, run) (ih t)
      go (newer p) q ih = rw (q, run) (place p)

  -- COMPONENT i
  module _ (i : ℕ) (here : i < m) where
    form-keeps : (k : TypeInner → Rule Judgement) → ((u : TypeInner) → Keeps (k u)) → (t : TypeInner)
        → Keeps (in_form (component i) k t)
    form-keeps k h t =
        by-pointer (λ (r : Rule Judgement) (x y : Unit {0}). Keeps r) t {g = λ b s. tt} {h = λ b s. tt} {y = tt}
        {z = tt}
        (λ b s. comes (component i) (form (number b)) (newer_part i here) (λ x. h (canonical t s x.inner))) (h t)

    struct-keeps : (a b : TypeAnswer) (rest : Bool → Rule Judgement) → ((x : Bool) → Keeps (rest x)) → (e : Bool)
        → Keeps (by_struct (component i) a b rest e)
    struct-keeps a b rest h true = h false
    struct-keeps a b rest h false =
        comes (component i) (form a) (newer_part i here) (λ x. form-keeps _ (λ u.
        comes (component i) (form b) (newer_part i here) (λ y. form-keeps _ (λ v. h (equal_types u v)) y.inner))
        x.inner)

    compare-keeps : (a b : TypeAnswer) (rest : Bool → Rule Judgement) → ((x : Bool) → Keeps (rest x))
        → Keeps (compare (component i) a b rest)
    compare-keeps a b rest h = go (identical a b)
      where
        go : (e : Bool) → Keeps (by_identical (component i) a b rest e)
        go true = h true
        go false =
            comes (component i) (struct_number a) (newer_part i here) (λ s.
            comes (component i) (struct_number b) (newer_part i here) (λ t. struct-keeps a b rest h (s || t)))

    row_keeps : (n : RowNumber) (rest : TypeAnswer → Rule Judgement) → ((a : TypeAnswer) → Keeps (rest a))
        → Keeps (come_to i n rest)
    row_keeps n rest h = reads n (λ p. component i) (λ p. newer_part i here) go
      where
        go : (t : Typed) → Keeps (or_broken i rest t)
        go (given a) = h a
        go (refused e) = ends (broken_part i here)
        go (chosen_refusal f) = ends (broken_part i here)

    or-part : (rest : Rule Judgement) → Keeps rest → (b : Bool) → Keeps (or_part i rest b)
    or-part rest h true = h
    or-part rest h false = ends (other_part i here)

    or-add : (rest : ℕ → Rule Judgement) → ((j : ℕ) → Keeps (rest j)) → (o : Option ℕ) → Keeps (add_part i rest o)
    or-add rest h (some j) = h j
    or-add rest h none = ends (other_part i here)

  -- COMPONENTS from component i on, of m
  each_keeps : (asked : ℕ → TypeAnswer → (Bool → Rule Judgement) → Rule Judgement)
      → ((i : ℕ) → i < m → (a : TypeAnswer) (rest : Bool → Rule Judgement) → ((b : Bool) → Keeps (rest b))
      → Keeps (asked i a rest))
      → (i : ℕ) (parts : List RowNumber) → i + length parts ≤ m → Keeps (each_part asked i parts)
  unfolding each_part
  each_keeps asked h i [] l = ends it_passes
  each_keeps asked h i (n ∷ parts) l =
      let here : i < m = omega arith in
      row_keeps i here n _ (λ a. h i here a _ (or-part i here _ (each_keeps asked h (suc i) parts (omega arith))))

  -- a count that differs ends the rule with 31
  count-keeps : (expected total : ℕ) (rest : Rule Judgement) → Keeps rest
      → Keeps (cond (eqb expected total) rest (done (count expected total)))
  count-keeps expected total rest h = go (eqb expected total) refl
    where
      go : (b : Bool) → eqb expected total ≡ b → Keeps (cond b rest (done (count expected total)))
      go true q = h
      go false q = ends (other_count expected total (eqb-false expected total q))

  total-keeps : (expected total : ℕ) → Keeps (done (cond (eqb expected total) passes (count expected total)))
  total-keeps expected total = go (eqb expected total) refl
    where
      go : (b : Bool) → eqb expected total ≡ b → Keeps (done (cond b passes (count expected total)))
      go true q = ends it_passes
      go false q = ends (other_count expected total (eqb-false expected total q))

  vector-keeps : (z : VectorSize) (k : Scalar) (i total : ℕ) (parts : List RowNumber) → i + length parts ≤ m
      → Keeps (vector_parts z k i total parts)
  unfolding vector_parts
  vector-keeps z k i total [] l = total-keeps (vector_size_number z) total
  vector-keeps z k i total (n ∷ parts) l =
      let here : i < m = omega arith in
      row_keeps i here n _ (λ a.
      comes (component i) (form a) (newer_part i here)
      (λ y. or-add i here _ (λ j. vector-keeps z k (suc i) (total + j) parts (omega arith)) (adds k y.inner)))

  module _ (parts : List RowNumber) (l : length parts ≤ m) where
    array_keeps : (base : TypeNumber) (z : ArraySize) → Keeps (array_parts base z parts)
    array_keeps base (As.Constant n) =
        count-keeps n (length parts) _
        (each_keeps (element_is base) (λ i here a. compare-keeps i here (number base) a) 0 parts (omega arith))
    array_keeps base (As.Pending o) = ends no_composed
    array_keeps base As.Dynamic = ends no_composed

    -- BY THE COMPOSED TYPE
    form-rule-keeps : (ms : List TypeNumber) (t : TypeInner) → Keeps (by_form parts ms t)
    form-rule-keeps ms (Ti.Vector z k) = vector-keeps z k 0 0 parts (omega arith)
    form-rule-keeps ms (Ti.Matrix c r k) =
        count-keeps (vector_size_number c) (length parts) _
        (each_keeps (column_is r k)
        (λ i here a rest h. comes (component i) (form a) (newer_part i here) (λ y. h _)) 0 parts (omega arith))
    form-rule-keeps ms (Ti.Array b z t) = array_keeps b z
    form-rule-keeps ms (Ti.Struct m n t) =
        count-keeps (length ms) (length parts) _
        (each_keeps (member_is ms) (λ i here a. compare-keeps i here (number _) a) 0 parts (omega arith))
    form-rule-keeps ms (Ti.Scalar x0) = ends no_composed
    form-rule-keeps ms (Ti.CooperativeMatrix x0 x1 x2 x3) = ends no_composed
    form-rule-keeps ms (Ti.Atomic x0) = ends no_composed
    form-rule-keeps ms (Ti.Pointer x0 x1) = ends no_composed
    form-rule-keeps ms (Ti.ValuePointer x0 x1 x2) = ends no_composed
    form-rule-keeps ms (Ti.Image x0 x1 x2) = ends no_composed
    form-rule-keeps ms (Ti.Sampler x0) = ends no_composed
    form-rule-keeps ms (Ti.AccelerationStructure x0) = ends no_composed
    form-rule-keeps ms (Ti.RayQuery x0) = ends no_composed
    form-rule-keeps ms (Ti.BindingArray x0 x1) = ends no_composed

-- the rule of every verdict, over anything
pub verdict-ours : (sight : Sight) (earlier : Answers) (t : TypeNumber) (parts : List RowNumber)
    → OurVerdict (length parts) (run sight earlier newer (verdict t parts))
verdict-ours sight earlier t parts =
    runs (length parts) sight earlier
    (comes composed (form (number t)) newer_composed
    (λ x. form-rule-keeps (length parts) parts (omega arith) x.members x.inner))

-- THE FRAME of a verdict of ours
pub verdict-laid : (n m : ℕ) (v : Result Judgement) → OurVerdict m v → VerdictLaid n m v
verdict-laid n m v it_passes
    = record { family = refl; values = number0; row = half_back n; whole = λ l e. absurd (omega arith) }
verdict-laid n m v no_composed
    = record { family = refl; values = number30; row = half_back n; whole = λ l e. absurd (omega arith) }
verdict-laid n m v (other_count e g d) =
    record {
      family = refl;
      values = rw (word_back e, word_back g) (number31 e g d);
      row = half_back n;
      whole = λ l e. absurd
          (omega arith);
    }
verdict-laid n m v (other_part i h) =
    record {
      family = refl;
      values = rw (word_back i) (number32 i h);
      row = half_back n;
      whole = λ l e. absurd
          (omega arith);
    }
verdict-laid n m v (broken_part i h) =
    record {
      family = refl;
      values = rw (word_back i) (number33 i h);
      row = half_back n;
      whole = λ l e. absurd
          (omega arith);
    }
verdict-laid n m v newer_composed =
    record { family = refl; values = number22composed; row = half_back n; whole = λ l e. (λ q. refl, λ q. refl) }
verdict-laid n m v (newer_part i h) =
    record {
      family = refl;
      values = rw (word_back i) (number22 i h);
      row = half_back n;
      whole = λ l e. (λ q. absurd (omega (arith, sym (word_back i) ∙ q)), λ q. never (cc));
    }

-- OF A FILE, whatever its bytes: a row that has a verdict is a compose, and the verdict is one of ours on its
-- components
pub record JudgedOurs (fr : List ℕ) (n : ℕ) (v : Result Judgement) : Type 0 where
  pub row : Composes fr n
  pub is : OurVerdict (length row.parts) v
  pub laid : VerdictLaid n (length row.parts) v

pub verdict-numbers : (pass : Pass) (fr : List ℕ) (n : ℕ) (v : Result Judgement) → verdict_of pass (see fr) n ≡ some v
    → JudgedOurs fr n v
verdict-numbers pass fr n v h =
    let r = has-rule pass fr n v h in
    let c = composes fr n r.rule r.has in
    let o : OurVerdict (length c.parts) v =
    subst (λ (x : Result Judgement). OurVerdict (length c.parts) x)
    (ap (ours (see fr) (typing pass) n) (sym (rule-is fr n r.rule r.has c)) ∙ r.ours-is)
    (verdict-ours (see fr) (among (answers (see fr) (typing pass) (λ m. newer) n)) c.ty c.parts) in
    record { row = c; is = o; laid = verdict-laid n (length c.parts) v o }

-- OF AN ACCEPTED FILE: the range of components lies within the frames of the file
module _ (fr : List ℕ) (good : Good fr) (n : ℕ) (h : n < row_count (starts_of fr)) where
  abbrev row : RowNumber
  row = record { 0 = n }

  -- a compose is a row of kind 5
  pub compose-kind : Composes fr n → byte (row_frame fr row) 1 ≡ 5
  compose-kind c =
      row-compose fr (row_in fr (starts_of fr) row) (verdict c.ty c.parts) (row_frame fr row)
      (row_is fr row (row-there fr n h)) (ap of_shown c.shows)

  pub few-parts : (c : Composes fr n) → length c.parts ≤ frame_count fr
  few-parts c =
      let e = compose-kind c in
      let b = row-by-bytes fr good row (row-there fr n h) in
      let q : c.parts ≡ listed (λ (i : ℕ). row_named fr ((starts_of fr).components + word (row_frame fr row) 12 + i))
      (half (row_frame fr row) 4) =
      let s = b.composes e in cc c.shows in
      rw (
        q,
        listed-length (λ (i : ℕ). row_named fr ((starts_of fr).components + word (row_frame fr row) 12 + i))
            (half (row_frame fr row) 4),
      )
      (go (half (row_frame fr row) 4) (λ i l. (b.components e i l).frame.within))
    where
      go : (k : ℕ) → ((i : ℕ) → i < k → (starts_of fr).components + word (row_frame fr row) 12 + i < frame_count fr)
          → k ≤ frame_count fr
      go zero f = omega arith
      go (suc j) f = omega (arith, f j (omega arith))

  -- so b4-7 of a 22 are hex ffffffff exactly where the composed type itself is newer
  pub whole-composed : (pass : Pass) → frame_count fr ≤ max_frames → (v : Result Judgement) → verdict_of pass (see fr) n
      ≡ some v
      → byte (frame_of n v) 1 ≡ 22
      → (word (frame_of n v) 4 ≡ 0xffff_ffff) ↔ (v ≡ newer composed)
  whole-composed pass few v e b = let j = verdict-numbers pass fr n v e in
      j.laid.whole (omega (arith, few-parts j.row)) b
