-- 19 AND 20 COME FROM A ROW THAT LACKS its own argument or special type: no other rule refuses with them, and an
-- operand's refusal is passed on unchanged. Rule by rule; then row by row, since rows read earlier ones only.
use Prim.Native.Nat.{ℕ, zero, suc, ◌<◌, ◌≤◌}
use native.Mathlib.Omega.{arith}
use mathlib.Core.Path.{◌≡◌, refl, sym, subst}
use mathlib.Core.Bool.{Bool, true, false}
use mathlib.Core.List.{List}
use mathlib.Core.Option.{Option, none, some}
use Rattle.ir.specs.declared.TypeNumber.{TypeNumber}
use Rattle.ir.specs.declared.RowNumber.{RowNumber}
use Rattle.ir.specs.declared.AddressSpace.{AddressSpace}
use Rattle.ir.specs.declared.ImageQuery.{ImageQuery}
use Rattle.ir.specs.declared.ImageQuery.TheVariants as Iq
use Rattle.ir.specs.declared.BinaryOperator.{BinaryOperator}
use Rattle.ir.specs.declared.BinaryOperator.TheVariants as Bo
use Rattle.ir.specs.declared.RelationalFunction.{RelationalFunction}
use Rattle.ir.specs.declared.RelationalFunction.TheVariants as Rf
use Rattle.ir.specs.declared.TypeInner.{TypeInner}
use Rattle.ir.specs.TypeMethods.{scalar_in, pointer_base}
use Rattle.answers.specs.declared.Refusal.{Refusal}
use Rattle.answers.specs.declared.Refusal.TheVariants as R
use Rattle.archive.specs.Starts.{starts_of, row_count}
use Rattle.rule.specs.Answers.{TypeAnswer, Typed, given, refused, chosen_refusal, Place, Result, told, newer}
use Rattle.rule.specs.Things.{Thing, Seen, Sight, Shown, Form, kind, see}
use Rattle.rule.specs.Things as Row
use Rattle.rule.specs.Rule.{Rule, done, come, past, Answers, run}
use Rattle.rule.specs.InOrder.{absent, among, answers}
use Rattle.rule.proofs.InOrder.{in-order-at}
use Rattle.rule_rows.specs.declared.Pass.{Pass}
use Rattle.rule_rows.specs.declared.Pass.TheVariants as Pa
use Rattle.rule_rows.specs.Steps.{pass_on, operand, same_as, by_type, by_both, by_base}
use Rattle.rule_rows.specs.Images.{sampled, image_sample, image_query}
use Rattle.rule_rows.specs.Operators.{binary, binary_by, relational}
use Rattle.rule_rows.specs.Wgsl.{wgsl_result}
use Rattle.rule_rows.specs.Variables.{variable}
use Rattle.rule_rows.specs.Results.{result_of, base_scalar}
use Rattle.rule_rows.specs.Typed.{resolve, typing}
use Rattle.rule_answers.specs.Outputs.{row_answer}
use Rattle.law_rows.proofs.Good.{Good}
use Rattle.law_rows.proofs.Rules.{rule-keeps}
use Rattle.law_rows.proofs.Range.{range, row-there}
use Rattle.law_rows.proofs.Selected.{by_scalar, by-vector, by-atomic, by-image}
use Rattle.law_moved.proofs.Alike.{Along}
use Rattle.law_moved.proofs.Alike as L
use Rattle.law_moved.proofs.Ranged.{along-weaken, along-within, answer-later}
use Rattle.law_join.proofs.Selected.{any-pointer}
use Rattle.law_join.proofs.Refusing.{RefusalApart, Apart, access-into, access-through, index-into, index-through}
use Rattle.law_join.proofs.Refusing.{loaded-apart, cooperative-apart, variable-apart, result-apart}
use Rattle.law_join.proofs.Refusing.{product-apart, wgsl-apart, bools-apart, logical-apart, cast-apart}

-- what a 19 with index i says is A i, and what a 20 says is B
module _ (A : ℕ → Type 0) (B : Type 0) where
  abbrev RefusalFrom : Refusal → Type 0
  RefusalFrom (R.OutOfBoundsIndex r i) = Unit {0}
  RefusalFrom (R.InvalidAccess r q) = Unit {0}
  RefusalFrom (R.InvalidSubAccess t q) = Unit {0}
  RefusalFrom (R.InvalidScalar r) = Unit {0}
  RefusalFrom (R.InvalidVector r) = Unit {0}
  RefusalFrom (R.InvalidPointer r) = Unit {0}
  RefusalFrom (R.InvalidImage r) = Unit {0}
  RefusalFrom R.FunctionReturnsVoid = Unit {0}
  RefusalFrom R.IncompatibleOperands = Unit {0}
  RefusalFrom (R.FunctionArgumentNotFound i) = A i
  RefusalFrom R.MissingSpecialType = B
  RefusalFrom R.Mismatch = Unit {0}

  abbrev TypedFrom : Typed → Type 0
  TypedFrom (given a) = Unit {0}
  TypedFrom (refused e) = RefusalFrom e
  TypedFrom (chosen_refusal f) = Unit {0}

  abbrev pub ResultFrom : Result Typed → Type 0
  ResultFrom (told t) = TypedFrom t
  ResultFrom (newer p) = Unit {0}

  -- a row that lacks says it
  pub record Lacks (x : Shown) : Type 0 where
    pub no-argument : (i : ℕ) → x ≡ Row.function_argument i none → A i
    pub no_return : x ≡ Row.ray_query_vertex_positions none → B
    pub no-intersection : x ≡ Row.ray_query_get_intersection none → B

  -- a rule ends so, where the rows that it reads do
  data From (sight : Sight) : Rule Typed → Type 0 where
    ends : {t : Typed} → TypedFrom t → From sight (done t)
    comes : {p : Place} {c : Thing} {k : Seen c → Rule Typed} → ((s : Seen c) → sight c ≡ some s → From sight (k s))
        → From sight (come p c k)
    reads : {n : RowNumber} {k : Typed → Rule Typed} → ((t : Typed) → TypedFrom t → From sight (k t))
        → From sight (past n (λ p. p) k)

  runs : (sight : Sight) (us : Answers) {r : Rule Typed} → From sight r → {P : Thing → Type 0}
      → Along sight us P (λ n. ResultFrom (us n)) r → ResultFrom (run sight us newer r)
  runs sight us (ends h) a = h
  runs sight us (comes {p} {c} {k} next) (L.comes x more) = go (sight c) refl
      (λ s q. runs sight us (next s q) (more s q))
    where
      go : (o : Option (Seen c)) → sight c ≡ o
          → ((s : Seen c) → sight c ≡ some s → ResultFrom (run sight us newer (k s)))
          → ResultFrom (run sight us newer (come p c k))
      go none q ih = rw (q, run) tt
      go (some s) q ih = rw (q, run) (ih s q)
  runs sight us (reads {n} {k} next) (L.reads x more) = go (us n) refl x
      (λ t w q. runs sight us (next t w) (more t q))
    where
      go : (o : Result Typed) → us n ≡ o → ResultFrom o
          → ((t : Typed) → TypedFrom t → us n ≡ told t → ResultFrom (run sight us newer (k t)))
          → ResultFrom (run sight us newer (past n (λ p. p) k))
      go (told t) q h ih = rw (q, run) (ih t h q)
      go (newer p) q h ih = rw (q, run) tt

  -- an answer that is neither says nothing
  refusal-apart : (e : Refusal) → RefusalApart e → RefusalFrom e
  refusal-apart (R.OutOfBoundsIndex r i) h = tt
  refusal-apart (R.InvalidAccess r q) h = tt
  refusal-apart (R.InvalidSubAccess t q) h = tt
  refusal-apart (R.InvalidScalar r) h = tt
  refusal-apart (R.InvalidVector r) h = tt
  refusal-apart (R.InvalidPointer r) h = tt
  refusal-apart (R.InvalidImage r) h = tt
  refusal-apart R.FunctionReturnsVoid h = tt
  refusal-apart R.IncompatibleOperands h = tt
  refusal-apart (R.FunctionArgumentNotFound i) h = absurd h
  refusal-apart R.MissingSpecialType h = absurd h
  refusal-apart R.Mismatch h = tt

  apart_from : (t : Typed) → Apart t → TypedFrom t
  apart_from (given a) h = tt
  apart_from (refused e) h = refusal-apart e h
  apart_from (chosen_refusal f) h = tt

  -- RULES of the row `here`

  module _ (sight : Sight) where
    abbrev Follows : Rule Typed → Type 0
    Follows = From sight

    operand-from : (n : RowNumber) {k : TypeAnswer → Rule Typed} → ((a : TypeAnswer) → Follows (k a))
        → Follows (operand n k)
    operand-from n {k} h = reads go
      where
        go : (t : Typed) → TypedFrom t → From sight (pass_on k t)
        go (given a) w = h a
        go (refused e) w = ends w
        go (chosen_refusal f) w = ends w

    same_from : (n : RowNumber) → Follows (same_as n)
    same_from n = operand-from n (λ a. ends tt)

    module _ (here : RowNumber) where
      type-from : (n : RowNumber) (f : TypeInner → Typed) → ((t : TypeInner) → Apart (f t))
          → Follows (by_type here n f)
      type-from n f h = operand-from n (λ a. comes (λ s q. ends (apart_from (f s.inner) (h s.inner))))

      both-from : (l r : RowNumber) (f : TypeAnswer → TypeAnswer → TypeInner → TypeInner → Typed)
          → ((a b : TypeAnswer) (x y : TypeInner) → Apart (f a b x y)) → Follows (by_both here l r f)
      both-from l r f h = operand-from l
          (λ a. operand-from r (λ b. comes (λ s q. comes (λ t w.
          ends (apart_from (f a b s.inner t.inner) (h a b s.inner t.inner))))))

      base-from : (n : RowNumber) (f : TypeNumber → AddressSpace → Form → Typed) (g : Form → Typed)
          → ((b : TypeNumber) (p : AddressSpace) (x : Form) → Apart (f b p x)) → ((x : Form) → Apart (g x))
          → Follows (by_base here n f g)
      base-from n f g h i = operand-from n
          (λ a. comes (λ s q. any-pointer Follows s.inner
          (λ b p. comes (λ c w. ends (apart_from (f b p c) (h b p c)))) (ends (apart_from (g s) (i s)))))

      sampled-from : (n : RowNumber) → Follows (sampled here n)
      sampled-from n = operand-from n
          (λ a. comes (λ s q. by-image Follows s.inner (λ d c. comes (λ z w. ends tt)) (ends tt)))

      sample-from : (n : RowNumber) (g : Bool) → Follows (image_sample here n g)
      sample-from n true = type-from n _ (λ t. by-image Apart t (λ d c. tt) tt)
      sample-from n false = sampled-from n

      query-from : (n : RowNumber) (q : ImageQuery) → Follows (image_query here n q)
      query-from n Iq.Size = type-from n _ (λ t. by-image Apart t (λ d c. tt) tt)
      query-from n Iq.NumLevels = ends tt
      query-from n Iq.NumLayers = ends tt
      query-from n Iq.NumSamples = ends tt

      binary-from : (op : BinaryOperator) (l r : RowNumber) → Follows (binary here op l r)
      binary-from Bo.Multiply l r = both-from l r _ product-apart
      binary-from Bo.Add l r = same_from l
      binary-from Bo.Subtract l r = same_from l
      binary-from Bo.Divide l r = same_from l
      binary-from Bo.Modulo l r = same_from l
      binary-from Bo.And l r = same_from l
      binary-from Bo.ExclusiveOr l r = same_from l
      binary-from Bo.InclusiveOr l r = same_from l
      binary-from Bo.ShiftLeft l r = same_from l
      binary-from Bo.ShiftRight l r = same_from l
      binary-from Bo.Equal l r = type-from l _ bools-apart
      binary-from Bo.NotEqual l r = type-from l _ bools-apart
      binary-from Bo.Less l r = type-from l _ bools-apart
      binary-from Bo.LessEqual l r = type-from l _ bools-apart
      binary-from Bo.Greater l r = type-from l _ bools-apart
      binary-from Bo.GreaterEqual l r = type-from l _ bools-apart
      binary-from Bo.LogicalAnd l r = type-from l _ logical-apart
      binary-from Bo.LogicalOr l r = type-from l _ logical-apart

      binary-by-from : (pass : Pass) (op : BinaryOperator) (l r : RowNumber) → Follows (binary_by pass here op l r)
      binary-by-from Pa.First op l r = binary-from op l r
      binary-by-from Pa.Second op l r = both-from l r _ (λ a b x y. wgsl-apart (wgsl_result op x y))

      relational-from : (f : RelationalFunction) (n : RowNumber) → Follows (relational here f n)
      relational-from Rf.All n = ends tt
      relational-from Rf.Any n = ends tt
      relational-from Rf.IsNan n = type-from n _ bools-apart
      relational-from Rf.IsInf n = type-from n _ bools-apart

      resolve-from : (pass : Pass) (x : Shown) → Lacks x → Follows (resolve pass here x)
      resolve-from pass (Row.literal l) h = ends tt
      resolve-from pass (Row.constant t) h = ends tt
      resolve-from pass (Row.override t) h = ends tt
      resolve-from pass (Row.zero_value t) h = ends tt
      resolve-from pass (Row.compose t parts) h = ends tt
      resolve-from pass (Row.access n) h = base-from n _ _ (λ b p x. access-through b p x.inner)
          (λ x. access-into n x.inner)
      resolve-from pass (Row.access_index n i) h = base-from n _ _
          (λ b p x. index-through n i b p x.members x.inner) (λ x. index-into n i x.members x.inner)
      resolve-from pass (Row.splat z n) h = type-from n _ (λ t. by_scalar Apart t (λ k. tt) tt)
      resolve-from pass (Row.swizzle z n) h = type-from n _ (λ t. by-vector Apart t (λ y k. tt) tt)
      resolve-from pass (Row.function_argument i (some t)) h = ends tt
      resolve-from pass (Row.function_argument i none) h = ends (h.no-argument i refl)
      resolve-from pass (Row.global_variable t p) h = ends (apart_from (variable t p) (variable-apart t p))
      resolve-from pass (Row.local_variable t) h = ends tt
      resolve-from pass (Row.load n) h = base-from n _ _ (λ b p x. by-atomic Apart x.inner (λ k. tt) tt)
          (λ x. loaded-apart n (pointer_base x.inner))
      resolve-from pass (Row.image_sample n g) h = sample-from n g
      resolve-from pass (Row.image_load n) h = sampled-from n
      resolve-from pass (Row.image_query n q) h = query-from n q
      resolve-from pass (Row.unary n) h = same_from n
      resolve-from pass (Row.binary op l r) h = binary-by-from pass op l r
      resolve-from pass (Row.select n) h = same_from n
      resolve-from pass (Row.derivative n) h = same_from n
      resolve-from pass (Row.relational f n) h = relational-from f n
      resolve-from pass (Row.cast n k w) h = type-from n _ (cast-apart k w)
      resolve-from pass (Row.call_result r) h = ends (apart_from (result_of r) (result-apart r))
      resolve-from pass (Row.atomic_result t) h = ends tt
      resolve-from pass (Row.work_group_uniform_load_result t) h = ends tt
      resolve-from pass Row.array_length h = ends tt
      resolve-from pass (Row.ray_query_vertex_positions (some t)) h = ends tt
      resolve-from pass (Row.ray_query_vertex_positions none) h = ends (h.no_return refl)
      resolve-from pass Row.ray_query_proceed_result h = ends tt
      resolve-from pass (Row.ray_query_get_intersection (some t)) h = ends tt
      resolve-from pass (Row.ray_query_get_intersection none) h = ends (h.no-intersection refl)
      resolve-from pass Row.subgroup_ballot_result h = ends tt
      resolve-from pass (Row.subgroup_operation_result t) h = ends tt
      resolve-from pass (Row.cooperative_load c r o n) h =
          base-from n _ _ (λ b p x. cooperative-apart c r o n (scalar_in x.inner))
          (λ x. cooperative-apart c r o n (base_scalar (pointer_base x.inner)))
      resolve-from pass (Row.cooperative_multiply_add n) h = same_from n

    typing-from : (pass : Pass) (n : ℕ)
        → ((x : Shown) → sight (kind (record { 0 = n })) ≡ some x → Lacks x) → Follows (typing pass n)
    typing-from pass n h = comes (λ x q. resolve-from (record { 0 = n }) pass x (h x q))

  -- ROWS: where every row up to row n that lacks says it, so does row n's answer
  module _ (pass : Pass) (fr : List ℕ) (good : Good fr) where
    from-below : (bound n : ℕ) → n < bound → n < row_count (starts_of fr)
        → ((k : ℕ) (x : Shown) → k ≤ n → see fr (kind (record { 0 = k })) ≡ some x → Lacks x)
        → ResultFrom (row_answer pass (see fr) n)
    from-below zero n b l h = absurd (omega arith)
    from-below (suc bound) n b l h =
        let us = among (answers (see fr) (typing pass) (λ m. newer) n) in
        runs (see fr) us (typing-from (see fr) pass n (λ x q. h n x (omega arith) q))
        (along-weaken (λ c x. x)
        (λ r x. subst ResultFrom
        (sym (in-order-at (λ earlier m. run (see fr) (among earlier) newer (typing pass m)) (told absent) n r.0 x))
        (from-below bound r.0 (omega arith) (omega arith) (λ k y w q. h k y (omega arith) q)))
        (along-within pass fr n us
        (λ r q. answer-later pass fr r.0 n (omega arith) (us r) (range pass fr good n (omega arith) r.0 q))
        (rule-keeps pass fr good n (row-there fr n l))))

    pub answer-from : (n : ℕ) → n < row_count (starts_of fr)
        → ((k : ℕ) (x : Shown) → k ≤ n → see fr (kind (record { 0 = k })) ≡ some x → Lacks x)
        → ResultFrom (row_answer pass (see fr) n)
    answer-from n l h = from-below (suc n) n (omega arith) l h

-- A ROW THAT LACKS is answered so, in either pass
module _ (pass : Pass) (sight : Sight) (n : ℕ) where
  pub argument-own : (i : ℕ) → sight (kind (record { 0 = n })) ≡ some (Row.function_argument i none)
      → row_answer pass sight n ≡ told (refused (R.FunctionArgumentNotFound i))
  argument-own i q = rw (q, run) refl

  pub return-own : sight (kind (record { 0 = n })) ≡ some (Row.ray_query_vertex_positions none)
      → row_answer pass sight n
      ≡ told (refused R.MissingSpecialType)
  return-own q = rw (q, run) refl

  pub intersection-own : sight (kind (record { 0 = n })) ≡ some (Row.ray_query_get_intersection none)
      → row_answer pass sight n ≡ told (refused R.MissingSpecialType)
  intersection-own q = rw (q, run) refl
