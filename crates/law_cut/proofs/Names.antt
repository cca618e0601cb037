-- A ROW THAT THE REFUSAL NAMES IS MARKED: a refusal of a rule's own names an operand that was read, and a newer thing's
-- place is the row that looks; one passed on stays as it was. Rule by rule.
use Prim.Native.Nat.{ℕ, zero, suc, ◌<◌, ◌≤◌}
use native.Mathlib.Omega.{arith}
use mathlib.Core.Path.{◌≡◌, refl, sym, subst}
use mathlib.Core.Bool.{Bool, true, false}
use mathlib.Core.List.{List}
use mathlib.Core.Option.{Option, none, some}
use Rattle.ir.specs.declared.TypeNumber.{TypeNumber}
use Rattle.ir.specs.declared.RowNumber.{RowNumber}
use Rattle.ir.specs.declared.AddressSpace.{AddressSpace}
use Rattle.ir.specs.declared.ImageQuery.{ImageQuery}
use Rattle.ir.specs.declared.ImageQuery.TheVariants as Iq
use Rattle.ir.specs.declared.BinaryOperator.{BinaryOperator}
use Rattle.ir.specs.declared.BinaryOperator.TheVariants as Bo
use Rattle.ir.specs.declared.RelationalFunction.{RelationalFunction}
use Rattle.ir.specs.declared.RelationalFunction.TheVariants as Rf
use Rattle.ir.specs.declared.TypeInner.{TypeInner}
use Rattle.ir.specs.TypeMethods.{scalar_in, pointer_base}
use Rattle.archive.specs.Starts.{starts_of, row_count}
use Rattle.rule.specs.Answers.{TypeAnswer, Typed, given, refused, chosen_refusal, Place, Result, told, newer}
use Rattle.rule.specs.Things.{Thing, Seen, Sight, Shown, Form, see}
use Rattle.rule.specs.Things as Row
use Rattle.rule.specs.Rule.{Rule, done, come, past, Answers, run}
use Rattle.rule.specs.InOrder.{absent, among, answers}
use Rattle.rule.proofs.InOrder.{in-order-at}
use Rattle.rule_rows.specs.declared.Pass.{Pass}
use Rattle.rule_rows.specs.declared.Pass.TheVariants as Pa
use Rattle.rule_rows.specs.Steps.{pass_on, operand, same_as, by_type, by_both, by_base}
use Rattle.rule_rows.specs.Images.{sampled, image_sample, image_query}
use Rattle.rule_rows.specs.Operators.{binary, binary_by, relational}
use Rattle.rule_rows.specs.Wgsl.{wgsl_result}
use Rattle.rule_rows.specs.Results.{base_scalar}
use Rattle.rule_rows.specs.Typed.{resolve, typing}
use Rattle.rule_answers.specs.Outputs.{row_answer}
use Rattle.law_rows.proofs.Good.{Good}
use Rattle.law_rows.proofs.Rules.{rule-keeps}
use Rattle.law_rows.proofs.Range.{range, row-there}
use Rattle.law_moved.proofs.Alike.{Along}
use Rattle.law_moved.proofs.Alike as L
use Rattle.law_moved.proofs.Ranged.{along-both, along-weaken, along-within, answer-later}
use Rattle.law_rows.proofs.Selected.{by_scalar, by-vector, by-atomic, by-image}
use Rattle.law_cut.specs.Marks.{max_marks, marks_of, is_marked}
use Rattle.law_cut.proofs.Follows.{named-marked}
use Rattle.law_cut.proofs.Refused.{kept-along}
use Rattle.law_cut.specs.Names.{TypedNames, PlaceNames, ResultNames}
use Rattle.law_cut.proofs.NamedParts.{any-pointer, access-into, access-through, index-into, index-through}
use Rattle.law_cut.proofs.NamedParts.{loaded-names, cooperative-names, variable-names, argument-names}
use Rattle.law_cut.proofs.NamedParts.{result-names, special-names, product-names, wgsl-names, bools-names}
use Rattle.law_cut.proofs.NamedParts.{logical-names, cast-names}

module _ (N : ℕ → Type 0) where
  -- a rule names only such rows, where the rows that it reads are such, and their answers name such
  data Names : Rule Typed → Type 0 where
    ends : {t : Typed} → TypedNames N t → Names (done t)
    comes : {p : Place} {c : Thing} {k : Seen c → Rule Typed} → PlaceNames N p → ((s : Seen c) → Names (k s))
        → Names (come p c k)
    reads : {n : RowNumber} {k : Typed → Rule Typed} → (N n.0 → (t : Typed) → TypedNames N t → Names (k t))
        → Names (past n (λ p. p) k)

  runs : (sight : Sight) (us : Answers) {r : Rule Typed} → Names r → {P : Thing → Type 0}
      → Along sight us P (λ n. N n.0 × ResultNames N (us n)) r → ResultNames N (run sight us newer r)
  runs sight us (ends h) a = h
  runs sight us (comes {p} {c} {k} h next) (L.comes x more) = go (sight c) refl
      (λ s q. runs sight us (next s) (more s q))
    where
      go : (o : Option (Seen c)) → sight c ≡ o
          → ((s : Seen c) → sight c ≡ some s → ResultNames N (run sight us newer (k s)))
          → ResultNames N (run sight us newer (come p c k))
      go none q ih = rw (q, run) h
      go (some s) q ih = rw (q, run) (ih s q)
  runs sight us (reads {n} {k} next) (L.reads x more) = go (us n) refl x.1
      (λ t w q. runs sight us (next x.0 t w) (more t q))
    where
      go : (o : Result Typed) → us n ≡ o → ResultNames N o
          → ((t : Typed) → TypedNames N t → us n ≡ told t → ResultNames N (run sight us newer (k t)))
          → ResultNames N (run sight us newer (past n (λ p. p) k))
      go (told t) q h ih = rw (q, run) (ih t h q)
      go (newer p) q h ih = rw (q, run) h

  -- RULES of the row `here`, which is such a row

  operand-names : (n : RowNumber) {k : TypeAnswer → Rule Typed} → ((a : TypeAnswer) → N n.0 → Names (k a))
      → Names (operand n k)
  operand-names n {k} h = reads go
    where
      go : N n.0 → (t : Typed) → TypedNames N t → Names (pass_on k t)
      go x (given a) w = h a x
      go x (refused e) w = ends w
      go x (chosen_refusal f) w = ends w

  same_names : (n : RowNumber) → Names (same_as n)
  same_names n = operand-names n (λ a x. ends tt)

  module _ (here : RowNumber) (own : N here.0) where
    type-names : (n : RowNumber) (f : TypeInner → Typed) → ((t : TypeInner) → N n.0 → TypedNames N (f t))
        → Names (by_type here n f)
    type-names n f h = operand-names n (λ a x. comes own (λ s. ends (h s.inner x)))

    both-names : (l r : RowNumber) (f : TypeAnswer → TypeAnswer → TypeInner → TypeInner → Typed)
        → ((a b : TypeAnswer) (x y : TypeInner) → TypedNames N (f a b x y)) → Names (by_both here l r f)
    both-names l r f h = operand-names l
        (λ a x. operand-names r (λ b y. comes own (λ s. comes own (λ t. ends (h a b s.inner t.inner)))))

    base-names : (n : RowNumber) (f : TypeNumber → AddressSpace → Form → Typed) (g : Form → Typed)
        → ((b : TypeNumber) (p : AddressSpace) (x : Form) → N n.0 → TypedNames N (f b p x))
        → ((x : Form) → N n.0 → TypedNames N (g x)) → Names (by_base here n f g)
    base-names n f g h i = operand-names n
        (λ a x. comes own (λ s. any-pointer Names s.inner (λ b p. comes own (λ c. ends (h b p c x))) (ends (i s x))))

    sampled-names : (n : RowNumber) → Names (sampled here n)
    sampled-names n = operand-names n
        (λ a x. comes own (λ s. by-image Names s.inner (λ d c. comes own (λ z. ends tt)) (ends x)))

    sample-names : (n : RowNumber) (g : Bool) → Names (image_sample here n g)
    sample-names n true = type-names n _ (λ t x. by-image (TypedNames N) t (λ d c. tt) x)
    sample-names n false = sampled-names n

    query-names : (n : RowNumber) (q : ImageQuery) → Names (image_query here n q)
    query-names n Iq.Size = type-names n _ (λ t x. by-image (TypedNames N) t (λ d c. tt) x)
    query-names n Iq.NumLevels = ends tt
    query-names n Iq.NumLayers = ends tt
    query-names n Iq.NumSamples = ends tt

    binary-names : (op : BinaryOperator) (l r : RowNumber) → Names (binary here op l r)
    binary-names Bo.Multiply l r = both-names l r _ (product-names N)
    binary-names Bo.Add l r = same_names l
    binary-names Bo.Subtract l r = same_names l
    binary-names Bo.Divide l r = same_names l
    binary-names Bo.Modulo l r = same_names l
    binary-names Bo.And l r = same_names l
    binary-names Bo.ExclusiveOr l r = same_names l
    binary-names Bo.InclusiveOr l r = same_names l
    binary-names Bo.ShiftLeft l r = same_names l
    binary-names Bo.ShiftRight l r = same_names l
    binary-names Bo.Equal l r = type-names l _ (λ t x. bools-names N t)
    binary-names Bo.NotEqual l r = type-names l _ (λ t x. bools-names N t)
    binary-names Bo.Less l r = type-names l _ (λ t x. bools-names N t)
    binary-names Bo.LessEqual l r = type-names l _ (λ t x. bools-names N t)
    binary-names Bo.Greater l r = type-names l _ (λ t x. bools-names N t)
    binary-names Bo.GreaterEqual l r = type-names l _ (λ t x. bools-names N t)
    binary-names Bo.LogicalAnd l r = type-names l _ (λ t x. logical-names N t)
    binary-names Bo.LogicalOr l r = type-names l _ (λ t x. logical-names N t)

    binary-by-names : (pass : Pass) (op : BinaryOperator) (l r : RowNumber) → Names (binary_by pass here op l r)
    binary-by-names Pa.First op l r = binary-names op l r
    binary-by-names Pa.Second op l r = both-names l r _ (λ a b x y. wgsl-names N (wgsl_result op x y))

    relational-names : (f : RelationalFunction) (n : RowNumber) → Names (relational here f n)
    relational-names Rf.All n = ends tt
    relational-names Rf.Any n = ends tt
    relational-names Rf.IsNan n = type-names n _ (λ t x. bools-names N t)
    relational-names Rf.IsInf n = type-names n _ (λ t x. bools-names N t)

    resolve-names : (pass : Pass) (x : Shown) → Names (resolve pass here x)
    resolve-names pass (Row.literal l) = ends tt
    resolve-names pass (Row.constant t) = ends tt
    resolve-names pass (Row.override t) = ends tt
    resolve-names pass (Row.zero_value t) = ends tt
    resolve-names pass (Row.compose t parts) = ends tt
    resolve-names pass (Row.access n) = base-names n _ _ (λ b p x h. access-through N b p x.inner)
        (λ x h. access-into N n x.inner h)
    resolve-names pass (Row.access_index n i) = base-names n _ _
        (λ b p x h. index-through N n i b p x.members x.inner h)
        (λ x h. index-into N n i x.members x.inner h)
    resolve-names pass (Row.splat z n) = type-names n _ (λ t h. by_scalar (TypedNames N) t (λ k. tt) h)
    resolve-names pass (Row.swizzle z n) = type-names n _ (λ t h. by-vector (TypedNames N) t (λ y k. tt) h)
    resolve-names pass (Row.function_argument i t) = ends (argument-names N i t)
    resolve-names pass (Row.global_variable t p) = ends (variable-names N t p)
    resolve-names pass (Row.local_variable t) = ends tt
    resolve-names pass (Row.load n) = base-names n _ _ (λ b p x h. by-atomic (TypedNames N) x.inner (λ k. tt) tt)
        (λ x h. loaded-names N n (pointer_base x.inner) h)
    resolve-names pass (Row.image_sample n g) = sample-names n g
    resolve-names pass (Row.image_load n) = sampled-names n
    resolve-names pass (Row.image_query n q) = query-names n q
    resolve-names pass (Row.unary n) = same_names n
    resolve-names pass (Row.binary op l r) = binary-by-names pass op l r
    resolve-names pass (Row.select n) = same_names n
    resolve-names pass (Row.derivative n) = same_names n
    resolve-names pass (Row.relational f n) = relational-names f n
    resolve-names pass (Row.cast n k w) = type-names n _ (λ t h. cast-names N k w t)
    resolve-names pass (Row.call_result r) = ends (result-names N r)
    resolve-names pass (Row.atomic_result t) = ends tt
    resolve-names pass (Row.work_group_uniform_load_result t) = ends tt
    resolve-names pass Row.array_length = ends tt
    resolve-names pass (Row.ray_query_vertex_positions t) = ends (special-names N t)
    resolve-names pass Row.ray_query_proceed_result = ends tt
    resolve-names pass (Row.ray_query_get_intersection t) = ends (special-names N t)
    resolve-names pass Row.subgroup_ballot_result = ends tt
    resolve-names pass (Row.subgroup_operation_result t) = ends tt
    resolve-names pass (Row.cooperative_load c r o n) =
        base-names n _ _ (λ b p x h. cooperative-names N c r o n (scalar_in x.inner) h)
        (λ x h. cooperative-names N c r o n (base_scalar (pointer_base x.inner)) h)
    resolve-names pass (Row.cooperative_multiply_add n) = same_names n

  typing-names : (pass : Pass) (n : ℕ) → N n → Names (typing pass n)
  typing-names pass n h = comes h (λ x. resolve-names (record { 0 = n }) h pass x)

module _ (pass : Pass) (fr : List ℕ) (good : Good fr) (n : ℕ) (there : n < row_count (starts_of fr))
    (few : row_count (starts_of fr) ≤ max_marks) where
  abbrev marked : ℕ → Type 0
  marked k = is_marked (marks_of pass fr n) k ≡ true

  named-below : (bound k : ℕ) → k < bound → marked k → k < row_count (starts_of fr)
      → ResultNames marked (row_answer pass (see fr) k)
  named-below zero k b h l = absurd (omega arith)
  named-below (suc bound) k b h l =
      let us = among (answers (see fr) (typing pass) (λ m. newer) k) in
      runs marked (see fr) us (typing-names marked pass k h)
      (along-weaken (λ c x. x)
      (λ r x. (
        x.1,
        subst (ResultNames marked)
            (sym (in-order-at (λ earlier m. run (see fr) (among earlier) newer (typing pass m)) (told absent) k r.0
            x.0))
            (named-below bound r.0 (let w = x.0 in omega arith) x.1 (let w = x.0 in omega arith)),
      ))
      (along-both
      (along-within pass fr k us
      (λ r q. answer-later pass fr r.0 k (omega arith) (us r) (range pass fr good k (omega arith) r.0 q))
      (rule-keeps pass fr good k (row-there fr k l)))
      (kept-along pass fr good n there few k h l)))

  -- EVERY ROW THAT A MARKED ROW'S ANSWER NAMES IS MARKED
  pub names_marked : (k : ℕ) → is_marked (marks_of pass fr n) k ≡ true → k < row_count (starts_of fr)
      → ResultNames (λ j. is_marked (marks_of pass fr n) j ≡ true) (row_answer pass (see fr) k)
  names_marked k h l = named-below (suc k) k (omega arith) h l

  -- so every row that the refusal names
  pub refusal-marked : ResultNames (λ j. is_marked (marks_of pass fr n) j ≡ true) (row_answer pass (see fr) n)
  refusal-marked = names_marked n (named-marked pass fr good n there few) there
