-- COMPARISONS AND VERDICTS of a file carried into another, where all rows are kept and moves can be undone: two answers
-- that get neither 5 nor 6 compare in the second as in the first, and a compose's verdict is what it was, in either
-- pass. Neither names a number, so nothing in them is moved.
use Prim.Native.Nat.{ℕ, ◌≤◌, ◌<◌}
use native.Mathlib.Decide.{dec_lt}
use native.Mathlib.Omega.{arith}
use mathlib.Core.Path.{◌≡◌, refl, sym, ap, ◌∙◌, subst}
use mathlib.Core.Logic.{⊎_elim}
use mathlib.Core.List.{List, [], map}
use mathlib.Core.Option.{Option, none, some}
use lib.ListN.{get_or-eq_default}
use Rattle.ir.specs.declared.TypeNumber.{TypeNumber}
use Rattle.ir.specs.declared.RowNumber.{RowNumber}
use Rattle.archive.specs.Starts.{starts_of, row_count}
use Rattle.rule.specs.declared.Fault.TheVariants as Fa
use Rattle.rule.specs.Answers.{TypeAnswer, number, value, malformed, told, newer, Judgement, Compared}
use Rattle.rule.specs.Things.{Thing, Shown, kind, form, texels, struct_number, fault, fault_of, see}
use Rattle.rule.specs.Things as Row
use Rattle.rule.specs.Rule.{run}
use Rattle.rule.specs.InOrder.{absent, among, among_readings, answers, readings, ours}
use Rattle.rule.proofs.InOrder.{in-order-length, in-order-at}
use Rattle.rule_types.specs.Comparison.{Sound, handed, given}
use Rattle.rule_rows.specs.declared.Pass.{Pass}
use Rattle.rule_rows.specs.declared.Pass.TheVariants as Pa
use Rattle.rule_rows.specs.Typed.{typing}
use Rattle.rule_compose.specs.Verdict.{verdict}
use Rattle.rule_compose.specs.Rows.{of_compose, of_shown, verdict_rule, judged, verdict_of}
use Rattle.law_rows.proofs.Good.{Good}
use Rattle.law_rows.proofs.Range.{row-there}
use Rattle.law_verdicts.proofs.NoDefault.{InVerdict, InComparison, ComparisonStep, comparison-no-default}
use Rattle.law_verdicts.proofs.NoDefault.{verdict-no-default}
use Rattle.law_moved.specs.Moves.{Moves, type_to, row_to, answer_to, typed_to, result_to, judged_to, shown_to, shows_to}
use Rattle.law_moved.proofs.Alike.{PlainType, PlainResult, Shows, Answers-alike, run-alike}
use Rattle.law_moved.proofs.Compared.{Undone, handed-alike}
use Rattle.law_moved.proofs.Verdicts.{verdict-alike}
use Rattle.law_moved.proofs.Carries.{Carries}
use Rattle.law_moved.proofs.CarriedTypes.{form-shows, struct-shows, fault-shows}
use Rattle.law_moved.proofs.Carried.{row_shows}
use Rattle.law_moved.proofs.Ranged.{along-weaken, along-reading, earlier-told, plain-ours}
use Rattle.law_moved.proofs.Rows.{all-along, rows-carried}

never : {X : Type 0} → ◌≡◌ {A = ℕ} 0 1 → X
never z = absurd (omega arith)

abbrev all : ℕ → Type 0
all k = Unit {0}

module _ (m i : Moves) (u : Undone m i) (fr gr : List ℕ) (good : Good fr) (to : Carries m (λ k. Unit {0}) fr gr) where
  -- COMPARISON

  sound-plain : (a : TypeAnswer) → fault_of (starts_of fr) a ≡ Fa.Sound → PlainType a
  sound-plain (number n) e = tt
  sound-plain (value t) e = tt
  sound-plain (malformed f) e = never (cc)

  module _ (a b : TypeAnswer) (sa : Sound (starts_of fr) a) (sb : Sound (starts_of fr) b) where
    compared-shows : (c : Thing) → InComparison fr a b c → Shows m (see fr) (see gr) c
    compared-shows (kind r) h = absurd h
    compared-shows (form x) h = form-shows m all fr gr good to x h
    compared-shows (texels c) h = absurd h
    compared-shows (struct_number x) h = struct-shows m all fr gr good to x h
    compared-shows (fault x) h =
        fault-shows m all fr gr good to x
        (⊎_elim (λ q. subst (λ (y : TypeAnswer). fault_of (starts_of fr) y ≡ Fa.Sound) (sym q) sa)
        (λ q. subst (λ (y : TypeAnswer). fault_of (starts_of fr) y ≡ Fa.Sound) (sym q) sb) h)

    -- no row is read, so what stands for one is as it is
    none_read : (r : RowNumber) → Answers-alike m (see fr) (see gr) (among []) (among []) r
    none_read r = record { is = refl; plain = tt }

    -- TWO ANSWERS of one kernel are the same type in the second exactly where they are in the first
    pub same-carried : given gr (starts_of gr) (handed (answer_to m a) (answer_to m b))
        ≡ result_to m (λ (c : Compared). c) (given fr (starts_of fr) (handed a b))
    same-carried =
        run-alike m (see fr) (see gr) (among []) (among []) (λ (c : Compared). c)
        (handed-alike m i u a b (sound-plain a sa) (sound-plain b sb))
        (along-weaken (λ c x. compared-shows c x.1.1) (λ r x. none_read r)
        (along-reading (see fr) (among []) (among_readings []) (ComparisonStep fr a b) (earlier-told Pa.First fr 0)
        (handed a b) (comparison-no-default Pa.First fr good a b)))

  -- VERDICTS

  module _ (pass : Pass) (rises : (k n : ℕ) → k < n → m.rows k < m.rows n)
      (renumbers : (l : List RowNumber) → m.parts l ≡ map (row_to m) l) where
    -- every row answers so
    pub all-carried : (n : ℕ) → n < row_count (starts_of fr)
        → ours (see gr) (typing pass) (m.rows n) (typing pass (m.rows n))
        ≡ result_to m (typed_to m) (ours (see fr) (typing pass) n (typing pass n))
    all-carried n l = rows-carried pass fr good m all gr to (λ k j a b c. rises k j c)
        (λ k h w. all-along pass fr good k) n tt l

    not-below : (k n : ℕ) → n ≤ k → m.rows n ≤ m.rows k
    not-below k n l = go (dec_lt n k)
      where
        go : Dec (n < k) → m.rows n ≤ m.rows k
        go (yes w) = let x = rises n k w in omega arith
        go (no w) = let e : k ≡ n = omega arith in rw e (omega arith)

    earlier-alike : (n : ℕ) → n < row_count (starts_of fr) → (r : RowNumber)
        → Answers-alike m (see fr) (see gr) (among (answers (see fr) (typing pass) (λ k. newer) n))
        (among (answers (see gr) (typing pass) (λ k. newer) (m.rows n))) r
    earlier-alike n l r = go (dec_lt r.0 n)
      where
        go : Dec (r.0 < n) → Answers-alike m (see fr) (see gr) (among (answers (see fr) (typing pass) (λ k. newer) n))
            (among (answers (see gr) (typing pass) (λ k. newer) (m.rows n))) r
        go (yes w) =
            let a = in-order-at (λ earlier k. run (see fr) (among earlier) newer (typing pass k)) (told absent) n
            r.0 w in
            let b = in-order-at (λ earlier k. run (see gr) (among earlier) newer (typing pass k)) (told absent)
            (m.rows n) (m.rows r.0) (rises r.0 n w) in
            record {
              is = b ∙ all-carried r.0 (omega arith) ∙ ap (result_to m (typed_to m)) (sym a);
              plain = subst PlainResult (sym a) (plain-ours pass fr good r.0 (omega arith));
            }
        go (no w) =
            let la = in-order-length (λ earlier k. run (see fr) (among earlier) newer (typing pass k)) n in
            let lb = in-order-length (λ earlier k. run (see gr) (among earlier) newer (typing pass k)) (m.rows n) in
            let v = not-below r.0 n (omega arith) in
            let a = get_or-eq_default (answers (see fr) (typing pass) (λ k. newer) n) (told absent) {n = r.0}
            (omega arith) in
            let b = get_or-eq_default (answers (see gr) (typing pass) (λ k. newer) (m.rows n))
            (told absent) {n = m.rows r.0} (omega arith) in
            record { is = b ∙ sym (ap (result_to m (typed_to m)) a); plain = subst PlainResult (sym a) tt }

    verdict-shows : (c : Thing) → InVerdict fr c → Shows m (see fr) (see gr) c
    verdict-shows (kind r) h = row_shows m all fr gr good to r tt h
    verdict-shows (form x) h = form-shows m all fr gr good to x h
    verdict-shows (texels c) h = refl
    verdict-shows (struct_number x) h = struct-shows m all fr gr good to x h
    verdict-shows (fault x) h = absurd h

    -- the verdict on a compose of type t from these rows
    compose-carried : (n : ℕ) → n < row_count (starts_of fr) → (t : TypeNumber) (parts : List RowNumber)
        → verdict_rule (see fr) n ≡ some (verdict t parts)
        → ours (see gr) (typing pass) (m.rows n) (verdict (type_to m t) (m.parts parts))
        ≡ result_to m (λ (c : Judgement). c) (ours (see fr) (typing pass) n (verdict t parts))
    compose-carried n l t parts h =
        ap (λ (x : List RowNumber). ours (see gr) (typing pass) (m.rows n) (verdict (type_to m t) x)) (renumbers parts)
        ∙ run-alike m (see fr) (see gr) (among (answers (see fr) (typing pass) (λ k. newer) n))
        (among (answers (see gr) (typing pass) (λ k. newer) (m.rows n))) (λ (c : Judgement). c)
        (verdict-alike m i u t parts)
        (along-weaken (λ c x. verdict-shows c x.1.1) (λ r x. earlier-alike n l r)
        (along-reading (see fr) (among (answers (see fr) (typing pass) (λ k. newer) n))
        (among_readings (readings (see fr) (typing pass) n)) _ (earlier-told pass fr n) (verdict t parts)
        (verdict-no-default pass fr good n l (verdict t parts) h).steps))

    shown-judged : (n : ℕ) → n < row_count (starts_of fr) → (x : Shown) → see fr (kind (record { 0 = n })) ≡ some x
        → judged pass (see gr) (m.rows n) (of_compose (shown_to m x))
        ≡ judged_to m (judged pass (see fr) n (of_compose x))
    shown-judged n l (Row.compose t parts) q = ap some (compose-carried n l t parts (ap of_shown q))
    shown-judged n l (Row.literal x) q = refl
    shown-judged n l (Row.constant x) q = refl
    shown-judged n l (Row.override x) q = refl
    shown-judged n l (Row.zero_value x) q = refl
    shown-judged n l (Row.access x) q = refl
    shown-judged n l (Row.access_index x y) q = refl
    shown-judged n l (Row.splat x y) q = refl
    shown-judged n l (Row.swizzle x y) q = refl
    shown-judged n l (Row.function_argument x y) q = refl
    shown-judged n l (Row.global_variable x y) q = refl
    shown-judged n l (Row.local_variable x) q = refl
    shown-judged n l (Row.load x) q = refl
    shown-judged n l (Row.image_sample x y) q = refl
    shown-judged n l (Row.image_load x) q = refl
    shown-judged n l (Row.image_query x y) q = refl
    shown-judged n l (Row.unary x) q = refl
    shown-judged n l (Row.binary x y z) q = refl
    shown-judged n l (Row.select x) q = refl
    shown-judged n l (Row.derivative x) q = refl
    shown-judged n l (Row.relational x y) q = refl
    shown-judged n l (Row.cast x y z) q = refl
    shown-judged n l (Row.call_result x) q = refl
    shown-judged n l (Row.atomic_result x) q = refl
    shown-judged n l (Row.work_group_uniform_load_result x) q = refl
    shown-judged n l Row.array_length q = refl
    shown-judged n l (Row.ray_query_vertex_positions x) q = refl
    shown-judged n l Row.ray_query_proceed_result q = refl
    shown-judged n l (Row.ray_query_get_intersection x) q = refl
    shown-judged n l Row.subgroup_ballot_result q = refl
    shown-judged n l (Row.subgroup_operation_result x) q = refl
    shown-judged n l (Row.cooperative_load x y z v) q = refl
    shown-judged n l (Row.cooperative_multiply_add x) q = refl

    option-judged : (n : ℕ) → n < row_count (starts_of fr) → (o : Option Shown) → see fr (kind (record { 0 = n })) ≡ o
        → judged pass (see gr) (m.rows n) (of_shown (shows_to m (kind (record { 0 = n })) o))
        ≡ judged_to m (judged pass (see fr) n (of_shown o))
    option-judged n l (some x) q = shown-judged n l x q
    option-judged n l none q = refl

    -- EVERY VERDICT is what it was, and a row without one has none
    pub verdict-carried : (n : ℕ) → n < row_count (starts_of fr) → verdict_of pass (see gr) (m.rows n)
        ≡ judged_to m (verdict_of pass (see fr) n)
    verdict-carried n l =
        ap (λ (o : Option Shown). judged pass (see gr) (m.rows n) (of_shown o))
        (row_shows m all fr gr good to (record { 0 = n }) tt (row-there fr n l))
        ∙ option-judged n l (see fr (kind (record { 0 = n }))) refl
