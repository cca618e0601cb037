-- The marks of the code are those of the definition, over an answer buffer that holds the answers of the rows before
-- the named one.
use Rattle.std.specs.Prelude.{Ok, Err, Option as CodeOption, Some, None}
use Rattle.answers.specs.declared.Unresolved.TheVariants as Un
use Prim.Native.Nat.{ℕ, zero, suc, ◌+◌, ◌-◌, ◌<◌}
use native.Mathlib.Omega.{arith}
use mathlib.Core.Path.{◌≡◌, refl, sym, ap, ◌∙◌}
use mathlib.Core.Bool.{Bool, true, false}
use mathlib.Core.List.{List, [], ◌∷◌}
use mathlib.Core.Option.{Option, none, some}
use lib.ListN.{set, get_or, replicate}
use lib.Seq.{get_or-set_other}
use Rattle.ir.specs.declared.RowNumber.{RowNumber}
use Rattle.ir.specs.declared.ImageQuery.{ImageQuery}
use Rattle.ir.specs.declared.ImageQuery.TheVariants as Iq
use Rattle.ir.specs.declared.BinaryOperator.{BinaryOperator}
use Rattle.ir.specs.declared.BinaryOperator.TheVariants as Bo
use Rattle.ir.specs.declared.RelationalFunction.{RelationalFunction}
use Rattle.ir.specs.declared.RelationalFunction.TheVariants as Rl
use Rattle.ir.specs.declared.Expression.{Expression}
use Rattle.ir.specs.declared.Expression.TheVariants as Ex
use Rattle.answers.specs.Answer.{Answer}
use Rattle.archive.specs.declared.Starts.{Starts}
use Rattle.archive.specs.Starts.{starts_of, row_count}
use Rattle.archive.specs.Access.{row_in}
use Rattle.rule.specs.Answers.{Typed, given, refused, chosen_refusal, Result, told, newer}
use Rattle.rule.specs.Things.{Shown, kind, shown, see_row, see}
use Rattle.rule.specs.Rule.{Answers}
use Rattle.law_rows.specs.Reads.{reads, sample_reads, query_reads, binary_reads, relational_reads}
use Rattle.rule_rows.specs.declared.Pass.TheVariants as Pa
use Rattle.rule_rows.specs.OverBuffer.{answer_in, past_in}
use Rattle.rule_answers.specs.Outputs.{row_answer}
use Rattle.law_rows.proofs.Good.{Good}
use Rattle.law_rows.proofs.Range.{row-there}
use Rattle.law_rows.proofs.NoDefault.{Earlier, operands-earlier}
use Rattle.law_cut.specs.Marks.{goes_on, read_to, operands_of, numbers, rows_read, spread, sweep, no_marks, marks_by}
use Rattle.law_cut.specs.Marks.{max_marks, marks_of}
use Rattle.row_marks.specs.declared.Operands.{Operands}
use Rattle.row_marks.specs.declared.Operands.TheVariants as Op
use Rattle.row_marks.specs.Reads.{of_binary, of_query, of_relational, of_expression, of_row, read_in, list_of}
use Rattle.row_marks.specs.Reads.{reads_in}

goes_none : (x : Result Typed) → goes_on x [] ≡ []
goes_none (told (given a)) = refl
goes_none (told (refused e)) = refl
goes_none (told (chosen_refusal f)) = refl
goes_none (newer p) = refl

module _ (answers places : List ℕ) where
  abbrev us : Answers
  us = past_in answers places

  abbrev Same : Operands → List RowNumber → Type 0
  Same o l = list_of (read_in answers places o) ≡ numbers (read_to us l)

  one : (n : RowNumber) → Same (Op.One n) (n ∷ [])
  one n = ap (λ (l : List RowNumber). n.0 ∷ numbers l) (sym (goes_none (us n)))

  two : (l r : RowNumber) → Same (Op.Two l r) (l ∷ r ∷ [])
  two l r = go (answer_in answers places l) refl
    where
      go : (a : Answer) → answer_in answers places l ≡ a → Same (Op.Two l r) (l ∷ r ∷ [])
      go (Ok t) q = rw q (ap (λ (x : List RowNumber). l.0 ∷ r.0 ∷ numbers x) (sym (goes_none (us r))))
      go (Err (Un.Refused e)) q = rw q refl
      go (Err (Un.Newer n)) q = rw q refl

  binary-same : (op : BinaryOperator) (l r : RowNumber) → Same (of_binary op l r) (binary_reads op l r).operands
  binary-same Bo.Add l r = one l
  binary-same Bo.Subtract l r = one l
  binary-same Bo.Multiply l r = two l r
  binary-same Bo.Divide l r = one l
  binary-same Bo.Modulo l r = one l
  binary-same Bo.Equal l r = one l
  binary-same Bo.NotEqual l r = one l
  binary-same Bo.Less l r = one l
  binary-same Bo.LessEqual l r = one l
  binary-same Bo.Greater l r = one l
  binary-same Bo.GreaterEqual l r = one l
  binary-same Bo.And l r = one l
  binary-same Bo.ExclusiveOr l r = one l
  binary-same Bo.InclusiveOr l r = one l
  binary-same Bo.LogicalAnd l r = one l
  binary-same Bo.LogicalOr l r = one l
  binary-same Bo.ShiftLeft l r = one l
  binary-same Bo.ShiftRight l r = one l

  query-same : (q : ImageQuery) (n : RowNumber) → Same (of_query q n) (query_reads n q).operands
  query-same Iq.Size n = one n
  query-same Iq.NumLevels n = refl
  query-same Iq.NumLayers n = refl
  query-same Iq.NumSamples n = refl

  relational-same : (f : RelationalFunction) (n : RowNumber) → Same (of_relational f n) (relational_reads f n).operands
  relational-same Rl.All n = refl
  relational-same Rl.Any n = refl
  relational-same Rl.IsNan n = one n
  relational-same Rl.IsInf n = one n

  sample-same : (g : Bool) (n : RowNumber) → Same (Op.One n) (sample_reads n g).operands
  sample-same true n = one n
  sample-same false n = one n

  module _ (fr : List ℕ) (s : Starts) where
    expression-same : (e : Expression) → Same (of_expression e) (operands_of Pa.First (shown fr s e))
    expression-same (Ex.Literal l) = refl
    expression-same (Ex.Constant i) = refl
    expression-same (Ex.Override i) = refl
    expression-same (Ex.ZeroValue t) = refl
    expression-same (Ex.Compose t n c) = refl
    expression-same (Ex.FunctionArgument i) = refl
    expression-same (Ex.GlobalVariable i) = refl
    expression-same (Ex.LocalVariable i) = refl
    expression-same Ex.Math = refl
    expression-same (Ex.CallResult i) = refl
    expression-same (Ex.AtomicResult t) = refl
    expression-same (Ex.WorkGroupUniformLoadResult t) = refl
    expression-same Ex.ArrayLength = refl
    expression-same Ex.RayQueryVertexPositions = refl
    expression-same Ex.RayQueryProceedResult = refl
    expression-same Ex.RayQueryGetIntersection = refl
    expression-same Ex.SubgroupBallotResult = refl
    expression-same (Ex.SubgroupOperationResult t) = refl
    expression-same (Ex.Access n) = one n
    expression-same (Ex.AccessIndex n i) = one n
    expression-same (Ex.Splat z n) = one n
    expression-same (Ex.Swizzle z n) = one n
    expression-same (Ex.Load n) = one n
    expression-same (Ex.ImageLoad n) = one n
    expression-same (Ex.Unary n) = one n
    expression-same (Ex.Select n) = one n
    expression-same (Ex.Derivative n) = one n
    expression-same (Ex.As n k w) = one n
    expression-same (Ex.CooperativeLoad c r o n) = one n
    expression-same (Ex.CooperativeMultiplyAdd n) = one n
    expression-same (Ex.ImageSample n g) = sample-same g n
    expression-same (Ex.ImageQuery n q) = query-same q n
    expression-same (Ex.Binary o l r) = binary-same o l r
    expression-same (Ex.Relational f n) = relational-same f n

    row_same : (r : CodeOption Expression) → Same (of_row r) (operands_of Pa.First (see_row fr s r))
    row_same (Some e) = expression-same e
    row_same None = refl

-- rows read over answers that agree on them
read-agree : (us they : Answers) (n : RowNumber) (l : List RowNumber) → Earlier n l
    → ((r : RowNumber) → r.0 < n.0 → us r ≡ they r) → read_to us l ≡ read_to they l
read-agree us they n [] h e = refl
read-agree us they n (r ∷ l) h e =
    ap (λ (x : Result Typed). r ∷ goes_on x (read_to us l)) (e r h.0)
    ∙ ap (λ (x : List RowNumber). r ∷ goes_on (they r) x) (read-agree us they n l h.1 e)

-- rows without a mark are passed over
sweep-above : (read : ℕ → List ℕ) (n d k : ℕ) (m : List Bool) → k ≡ n + 1 + d
    → ((i : ℕ) → n < i → get_or m i false ≡ false)
    → sweep read k m ≡ sweep read (n + 1) m
unfolding sweep
sweep-above read n zero k m e h = let q : k ≡ n + 1 = omega arith in ap (λ (x : ℕ). sweep read x m) q
sweep-above read n (suc d) zero m e h = absurd (omega arith)
sweep-above read n (suc d) (suc k) m e h = rw (h k (omega arith)) (sweep-above read n d k m (omega arith) h)

clear_at : (n i : ℕ) → get_or (replicate n false) i false ≡ false
clear_at zero i = refl
clear_at (suc n) zero = refl
clear_at (suc n) (suc i) = clear_at n i

clear_above : (n i : ℕ) → n < i → get_or (set no_marks n true) i false ≡ false
clear_above n i l = get_or-set_other no_marks n i true false (λ q. omega arith) ∙ clear_at max_marks i

-- marks over what is read alike: above row n no mark is set, so what is read there does not matter
module _ (read also : ℕ → List ℕ) where
  sweep-agree : (k : ℕ) (m : List Bool) → ((i : ℕ) → i < k → read i ≡ also i) → sweep read k m ≡ sweep also k m
  unfolding sweep
  sweep-agree zero m h = refl
  sweep-agree (suc k) m h = sweep-agree k (spread read k m) (λ i l. h i (omega arith))
      ∙ ap (λ (l : List ℕ). sweep also k (spread (λ (i : ℕ). l) k m)) (h k (omega arith))

  marks-agree : (n : ℕ) → n < max_marks → ((i : ℕ) → i < n + 1 → read i ≡ also i) → marks_by read n ≡ marks_by also n
  unfolding marks_by
  marks-agree n l h =
      sweep-above read n (max_marks - (n + 1)) max_marks (set no_marks n true) (omega arith) (clear_above n)
      ∙ sweep-agree (n + 1) (set no_marks n true) h
      ∙ sym (sweep-above also n (max_marks - (n + 1)) max_marks (set no_marks n true) (omega arith) (clear_above n))

-- THE MARKS OF A FILE, over a buffer that holds the answers of the rows before row n
pub marks-are : (fr : List ℕ) → Good fr → (answers places : List ℕ) (n : ℕ) → n < row_count (starts_of fr)
    → n < max_marks
    → ((r : RowNumber) → r.0 < n → past_in answers places r ≡ row_answer Pa.First (see fr) r.0)
    → marks_by (reads_in fr (starts_of fr) answers places) n ≡ marks_of Pa.First fr n
unfolding reads_in rows_read
marks-are fr good answers places n there small holds =
    marks-agree (reads_in fr (starts_of fr) answers places) (rows_read Pa.First fr) n small (λ i l.
    row_same answers places fr (starts_of fr) (row_in fr (starts_of fr) (record { 0 = i }))
    ∙ ap numbers (agree i l (see fr (kind (record { 0 = i }))) refl))
  where
    agree : (i : ℕ) → i < n + 1 → (o : Option Shown) → see fr (kind (record { 0 = i })) ≡ o
        → read_to (past_in answers places) (operands_of Pa.First o)
        ≡ read_to (λ (r : RowNumber). row_answer Pa.First (see fr) r.0) (operands_of Pa.First o)
    agree i l none q = refl
    agree i l (some x) q =
        read-agree (past_in answers places) (λ (r : RowNumber). row_answer Pa.First (see fr) r.0) (record { 0 = i })
        (reads Pa.First x).operands
        (operands-earlier Pa.First fr (record { 0 = i }) good (row-there fr i (omega arith)) x q)
        (λ r w. holds r (omega arith))
