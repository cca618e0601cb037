-- No default is a verdict or a comparison: in an accepted file no reading of one comes to a number out of range, a row
-- not yet typed or a malformed frame, and no component is held against a member that its struct does not have. Along
-- the shapes of the rules, over the readings of rows (law_rows/proofs/NoDefault.antt).
use Prim.Native.Nat.{ℕ, suc, ◌+◌, ◌≤◌, ◌<◌}
use native.Mathlib.Omega.{arith}
use mathlib.Core.Path.{◌≡◌, refl, sym, ap, ◌∙◌, subst}
use mathlib.Core.Bool.{Bool, true, false, cond, ◌||◌}
use mathlib.Core.List.{List, [], ◌∷◌}
use mathlib.Core.Logic.{◌⊎◌, inl, inr}
use mathlib.Core.Option.{Option, none, some}
use lib.Dec.{eqb}
use lib.ListN.{length, get_or}
use borrow.Author.Tests.{eqb-true}
use Rattle.ir.specs.declared.TypeNumber.{TypeNumber}
use Rattle.ir.specs.declared.RowNumber.{RowNumber}
use Rattle.ir.specs.declared.VectorSize.{VectorSize}
use Rattle.ir.specs.declared.Scalar.{Scalar}
use Rattle.ir.specs.declared.ArraySize.{ArraySize}
use Rattle.ir.specs.declared.ArraySize.TheVariants as As
use Rattle.ir.specs.declared.TypeInner.{TypeInner}
use Rattle.ir.specs.declared.TypeInner.TheVariants as Ti
use Rattle.ir.specs.Numbers.{vector_size_number}
use Rattle.archive.specs.Starts.{starts_of, row_count}
use Rattle.archive.specs.Names.{is_type, is_row}
use Rattle.rule.specs.declared.Fault.{Fault}
use Rattle.rule.specs.declared.Fault.TheVariants as Fa
use Rattle.rule.specs.Answers.{TypeAnswer, number, Typed, given, refused, chosen_refusal, Place, row, component}
use Rattle.rule.specs.Answers.{composed, nowhere, chosen, Judgement, count, Compared, Result, told, newer}
use Rattle.rule.specs.Things.{compose, Form, Thing, Seen, kind, form, texels, struct_number, fault, in_range, see}
use Rattle.rule.specs.Rule.{Rule, done, come, past, Answers, run, Step, step, Readings, placed, follow}
use Rattle.rule.specs.InOrder.{answers, among_readings, readings, ours, reading}
use Rattle.rule.proofs.InOrder.{at-within}
use Rattle.rule_types.specs.Canonical.{canonical, equal_types, identical}
use Rattle.rule_types.specs.Comparison.{in_form, by_struct, by_identical, compare, answered, Sound, tested}
use Rattle.rule_types.specs.Comparison.{right_tested}
use Rattle.rule_types.specs.Comparison.{handed}
use Rattle.rule_rows.specs.declared.Pass.{Pass}
use Rattle.rule_rows.specs.declared.Pass.TheVariants as Pa
use Rattle.rule_rows.specs.Typed.{typing}
use Rattle.law_rows.proofs.Good.{Good}
use Rattle.law_rows.proofs.Ranged.{TypeInRange, TypedInRange, InRange, There, StepInRange, Each, IfSome, BaseInRange}
use Rattle.law_rows.proofs.Ranged.{FormInRange}
use Rattle.law_rows.proofs.There.{ShownInRange}
use Rattle.law_rows.proofs.Selected.{by-pointer}
use Rattle.law_rows.proofs.Seen.{each_append, each_within, in-range-sound, row_seen, sound-seen}
use Rattle.law_rows.proofs.Range.{row-there, range}
use Rattle.law_rows.proofs.NoDefault.{ReadingInRange, Earlier, answer-there, earlier-in-range}
use Rattle.rule_compose.specs.Verdict.{or_broken, come_to, or_part, each_part, counted, adds, add_part, vector_parts}
use Rattle.rule_compose.specs.Verdict.{column_is, element_is, member_is, array_parts, struct_parts, by_form, verdict}
use Rattle.rule_compose.specs.Rows.{verdict_rule}
use Rattle.law_verdicts.proofs.Composes.{Composes, composes, rule-is}

-- WHAT A READING COMES TO

-- a type that a comparison gives neither 5 nor 6: a number of a type of the file, or such a value, and no malformed
-- frame
abbrev pub IsSound : List ℕ → TypeAnswer → Type 0
IsSound fr a = Sound (starts_of fr) a

-- a place in the verdict on a compose of m components: the composed type, or one of the components
abbrev pub PlaceInVerdict : ℕ → Place → Type 0
PlaceInVerdict m (row r) = ⊥
PlaceInVerdict m (component i) = i < m
PlaceInVerdict m composed = Unit {0}
PlaceInVerdict m nowhere = ⊥
PlaceInVerdict m (chosen f) = ⊥

-- a thing that the reading of a verdict comes to is there: a row of the file, a type of the file or a sound value, or
-- the class of an image; no frame is handed in
abbrev pub InVerdict : List ℕ → Thing → Type 0
InVerdict fr (kind r) = is_row (starts_of fr) r ≡ true
InVerdict fr (form a) = IsSound fr a
InVerdict fr (texels c) = Unit {0}
InVerdict fr (struct_number a) = IsSound fr a
InVerdict fr (fault a) = ⊥

-- a thing that the comparison of two answers comes to: one of the two, tested for 5 and 6; then types of the file and
-- sound values alone, and no row
abbrev pub InComparison : List ℕ → TypeAnswer → TypeAnswer → Thing → Type 0
InComparison fr a b (kind r) = ⊥
InComparison fr a b (form x) = IsSound fr x
InComparison fr a b (texels c) = ⊥
InComparison fr a b (struct_number x) = IsSound fr x
InComparison fr a b (fault x) = (x ≡ a) ⊎ (x ≡ b)

-- a step of the reading of a verdict, and of a comparison
abbrev pub VerdictStep : List ℕ → ℕ → Step → Type 0
VerdictStep fr m (step p c) = PlaceInVerdict m p × InVerdict fr c

abbrev pub ComparisonStep : List ℕ → TypeAnswer → TypeAnswer → Step → Type 0
ComparisonStep fr a b (step p c) = (p ≡ nowhere) × InComparison fr a b c

-- RULES

-- a rule over the first n rows, along what it sees in a file: each of its steps holds, it reads earlier rows only, and
-- the steps of their readings hold with the places that they have for it
pub data Within {A : Type 0} (pass : Pass) (fr : List ℕ) (n : ℕ) (P : Step → Type 0) : Rule A → Type 0 where
  ends : {a : A} → Within pass fr n P (done a)
  comes : (p : Place) (c : Thing) {k : Seen c → Rule A} → P (step p c)
      → ((s : Seen c) → see fr c ≡ some s → Within pass fr n P (k s))
      → Within pass fr n P (come p c k)
  reads : {r : RowNumber} {at : Place → Place} {k : Typed → Rule A} → r.0 < n
      → ((p : Place) (c : Thing) → There fr c → P (step (at p) c))
      → ((t : Typed) → TypedInRange pass (starts_of fr) t → Within pass fr n P (k t))
      → Within pass fr n P (past r at k)

module _ (pass : Pass) (fr : List ℕ) (n : ℕ) (P : Step → Type 0) where
  row-steps : (at : Place → Place) → ((p : Place) (c : Thing) → There fr c → P (step (at p) c)) → (l : List Step)
      → Each (StepInRange fr n) l
      → Each P (placed at l)
  row-steps at h [] e = tt
  row-steps at h (step p c ∷ l) e = (h p c e.0.1, row-steps at h l e.1)

  -- followed over readings of rows that are in range, each step holds
  follows : {A : Type 0} (earlier : Readings) → ((r : RowNumber) → r.0 < n → ReadingInRange pass fr n (earlier r))
      → {rule : Rule A}
      → Within pass fr n P rule → Each P (follow (see fr) earlier rule).steps
  follows earlier all ends = tt
  follows earlier all (comes p c {k} holds next) = go (see fr c) refl (λ s q. follows earlier all (next s q))
    where
      go : (o : Option (Seen c)) → see fr c ≡ o
          → ((s : Seen c) → see fr c ≡ some s → Each P (follow (see fr) earlier (k s)).steps)
          → Each P (follow (see fr) earlier (come p c k)).steps
      go none q ih = rw (q, follow) (holds, tt)
      go (some s) q ih = rw (q, follow) (holds, ih s q)
  follows earlier all (reads {r} {at} {k} l holds next) = go (earlier r).end refl (all r l).end
      (λ t h. follows earlier all (next t h))
    where
      own : Each P (placed at (earlier r).steps)
      own = row-steps at holds (earlier r).steps (all r l).steps

      go : (o : Option Typed) → (earlier r).end ≡ o → IfSome (TypedInRange pass (starts_of fr)) o
          → ((t : Typed) → TypedInRange pass (starts_of fr) t → Each P (follow (see fr) earlier (k t)).steps)
          → Each P (follow (see fr) earlier (past r at k)).steps
      go none q h ih = rw (q, follow) own
      go (some t) q h ih =
          rw (q, follow) (each_append P (placed at (earlier r).steps) (follow (see fr) earlier (k t)).steps own
          (ih t h))

  -- run over answers of earlier rows that are in range, it gives the same whatever stands for the other rows
  same-run : {A : Type 0} (one two : Answers) (new : Place → Result A) → ((r : RowNumber) → r.0 < n → one r ≡ two r)
      → ((r : RowNumber) → r.0 < n → InRange pass fr r.0 (two r)) → {rule : Rule A} → Within pass fr n P rule
      → run (see fr) one new rule ≡ run (see fr) two new rule
  same-run one two new same all ends = refl
  same-run one two new same all (comes p c {k} holds next) = go (see fr c) refl
      (λ s q. same-run one two new same all (next s q))
    where
      go : (o : Option (Seen c)) → see fr c ≡ o
          → ((s : Seen c) → see fr c ≡ some s → run (see fr) one new (k s) ≡ run (see fr) two new (k s))
          → run (see fr) one new (come p c k) ≡ run (see fr) two new (come p c k)
      go none q ih = rw (q, run)
      go (some s) q ih = rw (q, run) (ih s q)
  same-run one two new same all (reads {r} {at} {k} l holds next) = go (two r) refl (all r l)
      (λ t h. same-run one two new same all (next t h))
    where
      go : (o : Result Typed) → two r ≡ o → InRange pass fr r.0 o
          → ((t : Typed) → TypedInRange pass (starts_of fr) t → run (see fr) one new (k t) ≡ run (see fr) two new (k t))
          → run (see fr) one new (past r at k) ≡ run (see fr) two new (past r at k)
      go (told t) q h ih = rw (same r l, q, run) (ih t h)
      go (newer p) q h ih = rw (same r l, q, run)

-- THE COMPARISON at a place where every sound type may be looked into, and asked whether it is the number of a struct
module _ {A : Type 0} (pass : Pass) (fr : List ℕ) (good : Good fr) (n : ℕ) (P : Step → Type 0) (p : Place)
    (looked : (a : TypeAnswer) → IsSound fr a → P (step p (form a)))
    (asked : (a : TypeAnswer) → IsSound fr a → P (step p (struct_number a))) where
  abbrev Keeps : Rule A → Type 0
  Keeps = Within pass fr n P

  look-keeps : (a : TypeAnswer) → IsSound fr a → (k : TypeInner → Rule A) → ((u : TypeInner) → Keeps (k u))
      → Keeps (come p (form a) (λ x. in_form p k x.inner))
  look-keeps a i k h =
      comes p (form a) (looked a i) (λ x q.
      let j : FormInRange (starts_of fr) x = rw q at (sound-seen fr good a i) in
      by-pointer (starts_of fr) Keeps x.inner j.base
      (λ b s w. comes p (form (number b)) (looked (number b) (ap in_range w))
      (λ c e. h (canonical x.inner s c.inner))) (h x.inner))

  module _ (a b : TypeAnswer) (i : IsSound fr a) (j : IsSound fr b) (rest : Bool → Rule A)
      (h : (x : Bool) → Keeps (rest x)) where
    struct-keeps : (e : Bool) → Keeps (by_struct p a b rest e)
    struct-keeps true = h false
    struct-keeps false = look-keeps a i _ (λ u. look-keeps b j _ (λ v. h (equal_types u v)))

    identical-keeps : (e : Bool) → Keeps (by_identical p a b rest e)
    identical-keeps true = h true
    identical-keeps false =
        comes p (struct_number a) (asked a i)
        (λ s q. comes p (struct_number b) (asked b j) (λ t w. struct-keeps (s || t)))

    compare-keeps : Keeps (compare p a b rest)
    compare-keeps = identical-keeps (identical a b)

-- OF TWO ANSWERS HANDED IN
module _ (pass : Pass) (fr : List ℕ) (good : Good fr) (a b : TypeAnswer) where
  abbrev Handed : Rule Compared → Type 0
  Handed = Within pass fr 0 (ComparisonStep fr a b)

  answered-keeps : (x : Bool) → Handed (answered x)
  answered-keeps true = ends
  answered-keeps false = ends

  -- an answer is tested; the rule goes on only with one that gets neither 5 nor 6
  tested-keeps : (x : TypeAnswer) → (x ≡ a) ⊎ (x ≡ b) → (rest : Rule Compared) → (IsSound fr x → Handed rest)
      → Handed (come nowhere (fault x) (tested rest))
  tested-keeps x e rest h = comes nowhere (fault x) (refl, e) go
    where
      go : (v : Fault) → see fr (fault x) ≡ some v → Handed (tested rest v)
      go Fa.Sound q = h (cc)
      go Fa.Field q = ends
      go Fa.Index q = ends

  handed-keeps : Handed (handed a b)
  handed-keeps =
      tested-keeps a (inl refl) (right_tested a b) (λ i. tested-keeps b (inr refl) (compare nowhere a b answered) (λ j.
      compare-keeps pass fr good 0 (ComparisonStep fr a b) nowhere (λ x s. (refl, s))
      (λ x s. (refl, s)) a b i j answered answered-keeps))

-- NO COMPARISON COMES TO A DEFAULT: of any two answers, so of any two frames that are handed in, each step of the
-- reading is one of the two tests for 5 and 6, or comes to a type of the file or a sound value
pub comparison-no-default : (pass : Pass) (fr : List ℕ) → Good fr → (a b : TypeAnswer)
    → Each (ComparisonStep fr a b) (reading (see fr) (typing pass) 0 (handed a b))
comparison-no-default pass fr good a b =
    follows pass fr 0 (ComparisonStep fr a b) (among_readings (readings (see fr) (typing pass) 0))
    (λ r l. absurd (omega arith)) (handed-keeps pass fr good a b)

-- and it reads no row, so what stands for a row that is not there is never taken: over any answers it gives the same
pub comparison-reads-none : (fr : List ℕ) → Good fr
    → (a b : TypeAnswer) (one two : Answers) (new : Place → Result Compared)
    → run (see fr) one new (handed a b) ≡ run (see fr) two new (handed a b)
comparison-reads-none fr good a b one two new =
    same-run Pa.First fr 0 (ComparisonStep fr a b) one two new (λ r l. absurd (omega arith))
    (λ r l. absurd (omega arith)) (handed-keeps Pa.First fr good a b)

-- OF A COMPOSE, row n, with m components
module _ (pass : Pass) (fr : List ℕ) (good : Good fr) (n m : ℕ) where
  abbrev Judged : Rule Judgement → Type 0
  Judged = Within pass fr n (VerdictStep fr m)

  -- what a row's reading comes to
  of_row : (c : Thing) → There fr c → InVerdict fr c
  of_row (kind r) h = h
  of_row (form a) h = in-range-sound (starts_of fr) a h
  of_row (texels c) h = tt
  of_row (struct_number a) h = absurd h
  of_row (fault a) h = absurd h

  -- COMPONENT i
  module _ (i : ℕ) (here : i < m) where
    row_keeps : (r : RowNumber) (rest : TypeAnswer → Rule Judgement) → r.0 < n
        → ((a : TypeAnswer) → TypeInRange (starts_of fr) a → Judged (rest a)) → Judged (come_to i r rest)
    row_keeps r rest l h = reads l (λ p c t. (here, of_row c t)) go
      where
        go : (t : Typed) → TypedInRange pass (starts_of fr) t → Judged (or_broken i rest t)
        go (given a) j = h a j
        go (refused e) j = ends
        go (chosen_refusal f) j = ends

    or-part : (rest : Rule Judgement) → Judged rest → (b : Bool) → Judged (or_part i rest b)
    or-part rest h true = h
    or-part rest h false = ends

    or-add : (rest : ℕ → Rule Judgement) → ((j : ℕ) → Judged (rest j)) → (o : Option ℕ) → Judged (add_part i rest o)
    or-add rest h (some j) = h j
    or-add rest h none = ends

    -- held against a type of the file
    same-keeps : (t : TypeNumber) → is_type (starts_of fr) t ≡ true → (a : TypeAnswer) → TypeInRange (starts_of fr) a
        → (rest : Bool → Rule Judgement) → ((b : Bool) → Judged (rest b))
        → Judged (compare (component i) (number t) a rest)
    same-keeps t w a j rest h =
        compare-keeps pass fr good n (VerdictStep fr m) (component i) (λ x s. (here, s)) (λ x s. (here, s)) (number t) a
        (ap in_range w)
        (in-range-sound (starts_of fr) a j) rest h

  -- COMPONENTS from component i on, of m
  each_keeps : (asked : ℕ → TypeAnswer → (Bool → Rule Judgement) → Rule Judgement)
      → ((i : ℕ) → i < m → (a : TypeAnswer) → TypeInRange (starts_of fr) a → (rest : Bool → Rule Judgement)
      → ((b : Bool) → Judged (rest b)) → Judged (asked i a rest))
      → (i : ℕ) (parts : List RowNumber) → Earlier (record { 0 = n }) parts → i + length parts ≤ m
      → Judged (each_part asked i parts)
  unfolding each_part
  each_keeps asked h i [] e l = ends
  each_keeps asked h i (r ∷ parts) e l =
      let here : i < m = omega arith in
      row_keeps i here r _ e.0 (λ a j.
      h i here a j _ (or-part i here _ (each_keeps asked h (suc i) parts e.1 (omega arith))))

  vector-keeps : (z : VectorSize) (k : Scalar) (i total : ℕ) (parts : List RowNumber) → Earlier (record { 0 = n }) parts
      → i + length parts ≤ m
      → Judged (vector_parts z k i total parts)
  unfolding vector_parts
  vector-keeps z k i total [] e l = ends
  vector-keeps z k i total (r ∷ parts) e l =
      let here : i < m = omega arith in
      row_keeps i here r _ e.0 (λ a j.
      comes (component i) (form a) (here, in-range-sound (starts_of fr) a j) (λ y q.
      or-add i here _ (λ s. vector-keeps z k (suc i) (total + s) parts e.1 (omega arith)) (adds k y.inner)))

  -- BY THE COMPOSED TYPE, from all of the components
  module _ (parts : List RowNumber) (earlier : Earlier (record { 0 = n }) parts) (all : length parts ≡ m) where
    -- after the count there are as many components as asked for
    count-keeps : (expected : ℕ) (rest : Rule Judgement) → (expected ≡ m → Judged rest)
        → Judged (counted expected parts rest)
    count-keeps expected rest h = go (eqb expected (length parts)) refl
      where
        go : (b : Bool) → eqb expected (length parts) ≡ b → Judged (cond b rest (done (count expected (length parts))))
        go true q = h (eqb-true expected (length parts) q ∙ all)
        go false q = ends

    array_keeps : (base : TypeNumber) (z : ArraySize) → is_type (starts_of fr) base ≡ true
        → Judged (array_parts base z parts)
    array_keeps base (As.Constant k) w =
        count-keeps k _ (λ e. each_keeps (element_is base) (λ i here. same-keeps i here base w) 0 parts earlier
        (omega arith))
    array_keeps base (As.Pending o) w = ends
    array_keeps base As.Dynamic w = ends

    -- and so a member for each
    struct-parts-keep : (ms : List TypeNumber) → Each (λ t. is_type (starts_of fr) t ≡ true) ms
        → Judged (struct_parts ms parts)
    struct-parts-keep ms w =
        count-keeps (length ms) _ (λ e.
        each_keeps (member_is ms)
        (λ i here. same-keeps i here (get_or ms i _) (each_within _ ms i _ w (omega arith))) 0 parts earlier
        (omega arith))

    form-keeps : (x : Form) → FormInRange (starts_of fr) x → Judged (by_form parts x.members x.inner)
    form-keeps x j = go x.inner j.base
      where
        go : (t : TypeInner) → BaseInRange (starts_of fr) t → Judged (by_form parts x.members t)
        go (Ti.Vector z k) w = vector-keeps z k 0 0 parts earlier (omega arith)
        go (Ti.Matrix c r k) w =
            count-keeps (vector_size_number c) _ (λ e.
            each_keeps (column_is r k)
            (λ i here a v rest h. comes (component i) (form a) (here, in-range-sound (starts_of fr) a v)
            (λ y q. h _)) 0 parts earlier (omega arith))
        go (Ti.Array b z t) w = array_keeps b z w
        go (Ti.Struct f c t) w = struct-parts-keep x.members j.members
        go (Ti.Scalar x0) w = ends
        go (Ti.CooperativeMatrix x0 x1 x2 x3) w = ends
        go (Ti.Atomic x0) w = ends
        go (Ti.Pointer x0 x1) w = ends
        go (Ti.ValuePointer x0 x1 x2) w = ends
        go (Ti.Image x0 x1 x2) w = ends
        go (Ti.Sampler x0) w = ends
        go (Ti.AccelerationStructure x0) w = ends
        go (Ti.RayQuery x0) w = ends
        go (Ti.BindingArray x0 x1) w = ends

    verdict-keeps : (t : TypeNumber) → is_type (starts_of fr) t ≡ true → Judged (verdict t parts)
    verdict-keeps t w =
        comes composed (form (number t)) (tt, ap in_range w)
        (λ x q. form-keeps x (rw q at (sound-seen fr good (number t) (ap in_range w))))

-- OF A ROW THAT HAS A VERDICT: it is a compose, its components are earlier rows, and the rule of its verdict keeps
-- within the file
record KeepsWithin (pass : Pass) (fr : List ℕ) (n : ℕ) (rule : Rule Judgement) : Type 0 where
  pub row : Composes fr n
  pub earlier : Earlier (record { 0 = n }) row.parts
  pub keeps : Within pass fr n (VerdictStep fr (length row.parts)) rule

kept : (pass : Pass) (fr : List ℕ) → Good fr → (n : ℕ) → n < row_count (starts_of fr) → (rule : Rule Judgement)
    → verdict_rule (see fr) n ≡ some rule
    → KeepsWithin pass fr n rule
kept pass fr good n w rule h =
    let c = composes fr n rule h in
    let seen : ShownInRange (starts_of fr) (record { 0 = n }) (compose c.ty c.parts) =
    rw c.shows at (row_seen fr good (record { 0 = n }) (row-there fr n w)) in
    record {
      row = c;
      earlier = seen.1;
      keeps = subst (λ (r : Rule Judgement). Within pass fr n (VerdictStep fr (length c.parts)) r)
          (sym (rule-is fr n rule h c))
          (verdict-keeps pass fr good n (length c.parts) c.parts seen.1 refl c.ty seen.0);
    }

-- NO VERDICT COMES TO A DEFAULT: a row that has one is a compose; every component is an earlier row, so that its
-- reading is there (`reading-there`, law_rows/proofs/NoDefault.antt); and each step of the verdict's reading comes to a
-- thing that is there, at the composed type or a component
pub record VerdictInRange (pass : Pass) (fr : List ℕ) (n : ℕ) (rule : Rule Judgement) : Type 0 where
  pub row : Composes fr n
  pub earlier : Earlier (record { 0 = n }) row.parts
  pub steps : Each (VerdictStep fr (length row.parts)) (reading (see fr) (typing pass) n rule)

module _ (pass : Pass) (fr : List ℕ) (good : Good fr) (n : ℕ) (w : n < row_count (starts_of fr)) (rule : Rule Judgement)
    (has : verdict_rule (see fr) n ≡ some rule) where
  pub verdict-no-default : VerdictInRange pass fr n rule
  verdict-no-default =
      let k = kept pass fr good n w rule has in
      record {
        row = k.row;
        earlier = k.earlier;
        steps = follows pass fr n (VerdictStep fr (length k.row.parts))
            (among_readings (readings (see fr) (typing pass) n)) (earlier-in-range pass fr good n (omega arith))
            k.keeps;
      }

  -- and whatever stands for a row that is not typed yet, the verdict is ours
  pub verdict-rows-there : (d : Result Typed)
      → run (see fr) (λ r. get_or (answers (see fr) (typing pass) (λ m. newer) n) r.0 d) newer rule
      ≡ ours (see fr) (typing pass) n rule
  verdict-rows-there d =
      let k = kept pass fr good n w rule has in
      same-run pass fr n (VerdictStep fr (length k.row.parts)) _ _ newer (λ r l. sym (answer-there pass fr n r l d))
      (λ r l. range pass fr good n (omega arith) r.0 l) k.keeps

-- MEMBERS: a component is held against a member that is there, so what stands for a missing one does not matter

-- the rule of a struct with type d for a member that is missing; `struct_parts` has type 0
abbrev member_or : TypeNumber → List TypeNumber → ℕ → TypeAnswer → (Bool → Rule Judgement) → Rule Judgement
member_or d members i a rest = compare (component i) (number (get_or members i d)) a rest

abbrev pub struct_parts_or : TypeNumber → List TypeNumber → List RowNumber → Rule Judgement
struct_parts_or d members parts = counted (length members) parts (each_part (member_or d members) 0 parts)

each_member : (d : TypeNumber) (ms : List TypeNumber) (i : ℕ) (parts : List RowNumber) → i + length parts ≤ length ms
    → each_part (member_or d ms) i parts ≡ each_part (member_is ms) i parts
unfolding each_part
each_member d ms i [] l = refl
each_member d ms i (r ∷ parts) l =
    ap (λ (t : TypeNumber). come_to i r
    (λ a. compare (component i) (number t) a (or_part i (each_part (member_or d ms) (suc i) parts))))
    (at-within ms i d _ (omega arith))
    ∙ ap (λ (rest : Rule Judgement). come_to i r (λ a. member_is ms i a (or_part i rest)))
    (each_member d ms (suc i) parts (omega arith))

pub members-there : (d : TypeNumber) (members : List TypeNumber) (parts : List RowNumber)
    → struct_parts_or d members parts ≡ struct_parts members parts
members-there d members parts = go (eqb (length members) (length parts)) refl
  where
    other : Rule Judgement
    other = done (count (length members) (length parts))

    go : (b : Bool) → eqb (length members) (length parts) ≡ b
        → cond b (each_part (member_or d members) 0 parts) other ≡ cond b (each_part (member_is members) 0 parts) other
    go true q = each_member d members 0 parts (omega (arith, eqb-true (length members) (length parts) q))
    go false q = refl
