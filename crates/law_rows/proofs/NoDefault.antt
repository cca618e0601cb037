-- No default is an answer: in an accepted file no reading comes to a number out of range, a row not yet typed or a
-- malformed frame. Row by row, since every rule keeps within the file; and the operands of the table are what check 6
-- has as earlier rows.
use Prim.Native.Nat.{ℕ, ◌≤◌, ◌<◌}
use native.Mathlib.Omega.{arith}
use mathlib.Core.Path.{◌≡◌, refl}
use mathlib.Core.Bool.{Bool, true, false}
use mathlib.Core.List.{List, [], ◌∷◌}
use mathlib.Core.Option.{Option, none, some}
use lib.ListN.{get_or}
use borrow.Author.Tests.{ltb-true}
use Rattle.ir.specs.declared.RowNumber.{RowNumber}
use Rattle.ir.specs.declared.ImageQuery.{ImageQuery}
use Rattle.ir.specs.declared.ImageQuery.TheVariants as Iq
use Rattle.ir.specs.declared.BinaryOperator.{BinaryOperator}
use Rattle.ir.specs.declared.BinaryOperator.TheVariants as Bo
use Rattle.ir.specs.declared.RelationalFunction.{RelationalFunction}
use Rattle.ir.specs.declared.RelationalFunction.TheVariants as Rf
use Rattle.archive.specs.Starts.{starts_of, row_count}
use Rattle.archive.specs.Names.{is_row, query_names, relational_names}
use Rattle.rule.specs.Answers.{Typed, Result, told, newer}
use Rattle.rule.specs.Things as Row
use Rattle.rule.specs.Things.{Shown, Seen, kind, see}
use Rattle.rule.specs.Rule.{Rule, come, past, Step, step, Reading, Readings, run, follow, placed}
use Rattle.rule.specs.InOrder.{absent, among, among_readings, answers, readings, reading}
use Rattle.law_rows.specs.Reads.{reads, sample_reads, query_reads, binary_reads, binary_reads_by, relational_reads}
use Rattle.rule_rows.specs.declared.Pass.{Pass}
use Rattle.rule_rows.specs.declared.Pass.TheVariants as Pa
use Rattle.rule_rows.specs.Typed.{typing}
use Rattle.law_rows.proofs.Good.{Good}
use Rattle.law_rows.proofs.Ranged as Ranged
use Rattle.law_rows.proofs.Ranged.{TypedInRange, StepInRange, Each, IfSome, Within, ends, comes}
use Rattle.law_rows.proofs.There.{ShownInRange}
use Rattle.law_rows.proofs.Seen.{each_append, row_seen}
use Rattle.law_rows.proofs.Rules.{rule-keeps}
use Rattle.rule.proofs.InOrder.{in-order-all, in-order-there}
use Rattle.law_rows.proofs.Range.{place-later, row-there}

-- READINGS

-- the reading of row m: every step comes to a thing that is there, at row m or an earlier one, and its end is in range
pub record ReadingInRange (pass : Pass) (fr : List ℕ) (m : ℕ) (r : Reading Typed) : Type 0 where
  pub steps : Each (StepInRange fr m) r.steps
  pub end : IfSome (TypedInRange pass (starts_of fr)) r.end

steps-later : (fr : List ℕ) (m n : ℕ) → m ≤ n → (l : List Step) → Each (StepInRange fr m) l → Each (StepInRange fr n) l
steps-later fr m n w [] h = tt
steps-later fr m n w (step p c ∷ l) h = ((place-later m n w p h.0.0, h.0.1), steps-later fr m n w l h.1)

reading-later : (pass : Pass) (fr : List ℕ) (m n : ℕ) → m ≤ n → (r : Reading Typed) → ReadingInRange pass fr m r
    → ReadingInRange pass fr n r
reading-later pass fr m n w r h = record { steps = steps-later fr m n w r.steps h.steps; end = h.end }

module _ (pass : Pass) (fr : List ℕ) (m : ℕ) where
  -- an operand's steps keep their places
  kept : (l : List Step) → Each (StepInRange fr m) l → Each (StepInRange fr m) (placed (λ p. p) l)
  kept [] h = tt
  kept (step p c ∷ l) h = (h.0, kept l h.1)

  -- followed over earlier readings that are in range, a rule that keeps within the file has a reading in range
  follows : (earlier : Readings) → ((n : RowNumber) → n.0 < m → ReadingInRange pass fr m (earlier n))
      → {rule : Rule Typed} → Within pass fr m rule
      → ReadingInRange pass fr m (follow (see fr) earlier rule)
  follows earlier all (ends h) = record { steps = tt; end = h }
  follows earlier all (comes p c {k} place there next) = go (see fr c) refl (λ s q. follows earlier all (next s q))
    where
      go : (o : Option (Seen c)) → see fr c ≡ o
          → ((s : Seen c) → see fr c ≡ some s → ReadingInRange pass fr m (follow (see fr) earlier (k s)))
          → ReadingInRange pass fr m (follow (see fr) earlier (come p c k))
      go none q ih = rw (q, follow) (record { steps = ((place, there), tt); end = tt })
      go (some s) q ih = rw (q, follow) (record { steps = ((place, there), (ih s q).steps); end = (ih s q).end })
  follows earlier all (Ranged.reads {n} {k} l next) = go (earlier n).end refl (all n l).end
      (λ t h. follows earlier all (next t h))
    where
      own : Each (StepInRange fr m) (placed (λ p. p) (earlier n).steps)
      own = kept (earlier n).steps (all n l).steps

      go : (o : Option Typed) → (earlier n).end ≡ o → IfSome (TypedInRange pass (starts_of fr)) o
          → ((t : Typed) → TypedInRange pass (starts_of fr) t
          → ReadingInRange pass fr m (follow (see fr) earlier (k t)))
          → ReadingInRange pass fr m (follow (see fr) earlier (past n (λ p. p) k))
      go none q h ih = rw (q, follow) (record { steps = own; end = tt })
      go (some t) q h ih =
          rw (q, follow)
          (record {
            steps = each_append (StepInRange fr m) (placed (λ p. p) (earlier n).steps)
                (follow (see fr) earlier (k t)).steps own (ih t h).steps;
            end = (ih t h).end;
          })

-- NO READING COMES TO A DEFAULT: the reading of every row is in range
pub no_default : (pass : Pass) (fr : List ℕ) → Good fr → (n : ℕ) → n ≤ row_count (starts_of fr) → (m : ℕ) → m < n
    → ReadingInRange pass fr m (get_or (readings (see fr) (typing pass) n) m (record { steps = []; end = some absent }))
no_default pass fr good =
    in-order-all (ReadingInRange pass fr) (λ earlier m. follow (see fr) (among_readings earlier) (typing pass m))
    (record {
      steps =
          [];
      end = some absent;
    }) (row_count (starts_of fr))
    (λ n l w all.
    follows pass fr n (among_readings l)
    (λ r q. reading-later pass fr r.0 n (omega arith) (among_readings l r) (all r.0 q))
    (rule-keeps pass fr good n (row-there fr n w)))

-- and so of the readings that a rule over the first n rows comes to
pub earlier-in-range : (pass : Pass) (fr : List ℕ) → Good fr → (n : ℕ) → n ≤ row_count (starts_of fr) → (r : RowNumber)
    → r.0 < n
    → ReadingInRange pass fr n (among_readings (readings (see fr) (typing pass) n) r)
earlier-in-range pass fr good n w r q =
    reading-later pass fr r.0 n (omega arith) (among_readings (readings (see fr) (typing pass) n) r)
    (no_default pass fr good n w r.0 q)

-- and of the reading that the claim on later readers speaks of
pub reading-in-range : (pass : Pass) (fr : List ℕ) → Good fr → (n : ℕ) → n < row_count (starts_of fr)
    → Each (StepInRange fr n) (reading (see fr) (typing pass) n (typing pass n))
reading-in-range pass fr good n w =
    (follows pass fr n (among_readings (readings (see fr) (typing pass) n))
    (earlier-in-range pass fr good n (omega arith))
    (rule-keeps pass fr good n (row-there fr n w))).steps

-- OPERANDS

-- every row that the table reads for row n is earlier
abbrev pub Earlier : RowNumber → List RowNumber → Type 0
Earlier n rows = Each (λ (k : RowNumber). k.0 < n.0) rows

sample-earlier : (n m : RowNumber) (g : Bool) → m.0 < n.0 → Earlier n (sample_reads m g).operands
sample-earlier n m true h = (h, tt)
sample-earlier n m false h = (h, tt)

query-earlier : (n m : RowNumber) (q : ImageQuery) → query_names n m q ≡ true → Earlier n (query_reads m q).operands
query-earlier n m Iq.Size h = (ltb-true _ _ h, tt)
query-earlier n m Iq.NumLevels h = tt
query-earlier n m Iq.NumLayers h = tt
query-earlier n m Iq.NumSamples h = tt

binary-earlier : (n : RowNumber) (op : BinaryOperator) (l r : RowNumber) → l.0 < n.0 → r.0 < n.0
    → Earlier n (binary_reads op l r).operands
binary-earlier n Bo.Add l r g h = (g, tt)
binary-earlier n Bo.Subtract l r g h = (g, tt)
binary-earlier n Bo.Multiply l r g h = (g, (h, tt))
binary-earlier n Bo.Divide l r g h = (g, tt)
binary-earlier n Bo.Modulo l r g h = (g, tt)
binary-earlier n Bo.Equal l r g h = (g, tt)
binary-earlier n Bo.NotEqual l r g h = (g, tt)
binary-earlier n Bo.Less l r g h = (g, tt)
binary-earlier n Bo.LessEqual l r g h = (g, tt)
binary-earlier n Bo.Greater l r g h = (g, tt)
binary-earlier n Bo.GreaterEqual l r g h = (g, tt)
binary-earlier n Bo.And l r g h = (g, tt)
binary-earlier n Bo.ExclusiveOr l r g h = (g, tt)
binary-earlier n Bo.InclusiveOr l r g h = (g, tt)
binary-earlier n Bo.LogicalAnd l r g h = (g, tt)
binary-earlier n Bo.LogicalOr l r g h = (g, tt)
binary-earlier n Bo.ShiftLeft l r g h = (g, tt)
binary-earlier n Bo.ShiftRight l r g h = (g, tt)

binary-by-earlier : (pass : Pass) (n : RowNumber) (op : BinaryOperator) (l r : RowNumber) → l.0 < n.0 → r.0 < n.0
    → Earlier n (binary_reads_by pass op l r).operands
binary-by-earlier Pa.First n op l r g h = binary-earlier n op l r g h
binary-by-earlier Pa.Second n op l r g h = (g, (h, tt))

relational-earlier : (n : RowNumber) (f : RelationalFunction) (m : RowNumber) → relational_names n f m ≡ true
    → Earlier n (relational_reads f m).operands
relational-earlier n Rf.All m h = tt
relational-earlier n Rf.Any m h = tt
relational-earlier n Rf.IsNan m h = (ltb-true _ _ h, tt)
relational-earlier n Rf.IsInf m h = (ltb-true _ _ h, tt)

module _ (pass : Pass) (fr : List ℕ) (n : RowNumber) where
  shown-earlier : (x : Shown) → ShownInRange (starts_of fr) n x → Earlier n (reads pass x).operands
  shown-earlier (Row.literal l) h = tt
  shown-earlier (Row.constant t) h = tt
  shown-earlier (Row.override t) h = tt
  shown-earlier (Row.zero_value t) h = tt
  shown-earlier (Row.compose t parts) h = tt
  shown-earlier (Row.access m) h = (h, tt)
  shown-earlier (Row.access_index m i) h = (h, tt)
  shown-earlier (Row.splat z m) h = (h, tt)
  shown-earlier (Row.swizzle z m) h = (h, tt)
  shown-earlier (Row.function_argument i t) h = tt
  shown-earlier (Row.global_variable t p) h = tt
  shown-earlier (Row.local_variable t) h = tt
  shown-earlier (Row.load m) h = (h, tt)
  shown-earlier (Row.image_sample m g) h = sample-earlier n m g h
  shown-earlier (Row.image_load m) h = (h, tt)
  shown-earlier (Row.image_query m q) h = query-earlier n m q h
  shown-earlier (Row.unary m) h = (h, tt)
  shown-earlier (Row.binary o l r) h = binary-by-earlier pass n o l r h.0 h.1
  shown-earlier (Row.select m) h = (h, tt)
  shown-earlier (Row.derivative m) h = (h, tt)
  shown-earlier (Row.relational f m) h = relational-earlier n f m h
  shown-earlier (Row.cast m k c) h = (h, tt)
  shown-earlier (Row.call_result r) h = tt
  shown-earlier (Row.atomic_result t) h = tt
  shown-earlier (Row.work_group_uniform_load_result t) h = tt
  shown-earlier Row.array_length h = tt
  shown-earlier (Row.ray_query_vertex_positions t) h = tt
  shown-earlier Row.ray_query_proceed_result h = tt
  shown-earlier (Row.ray_query_get_intersection t) h = tt
  shown-earlier Row.subgroup_ballot_result h = tt
  shown-earlier (Row.subgroup_operation_result t) h = tt
  shown-earlier (Row.cooperative_load c r o m) h = (h, tt)
  shown-earlier (Row.cooperative_multiply_add m) h = (h, tt)

  -- every operand that a row of the file reads is an earlier row; that the readings are the table's is `file-reads`
  -- (Reading.antt)
  pub operands-earlier : Good fr → is_row (starts_of fr) n ≡ true → (x : Shown) → see fr (kind n) ≡ some x
      → Earlier n (reads pass x).operands
  operands-earlier good here x q = shown-earlier x (rw q at (row_seen fr good n here))

-- so what stands for a row that is not there is never taken: an earlier row is among the answers, and among the
-- readings
pub answer-there : (pass : Pass) (fr : List ℕ) (n : ℕ) (k : RowNumber) → k.0 < n → (d : Result Typed)
    → among (answers (see fr) (typing pass) (λ m. newer) n) k
    ≡ get_or (answers (see fr) (typing pass) (λ m. newer) n) k.0 d
answer-there pass fr n k l d = in-order-there (λ earlier m. run (see fr) (among earlier) newer (typing pass m)) n
    k.0 l (told absent) d

pub reading-there : (pass : Pass) (fr : List ℕ) (n : ℕ) (k : RowNumber) → k.0 < n → (d : Reading Typed)
    → among_readings (readings (see fr) (typing pass) n) k ≡ get_or (readings (see fr) (typing pass) n) k.0 d
reading-there pass fr n k l d =
    in-order-there (λ earlier m. follow (see fr) (among_readings earlier) (typing pass m)) n k.0 l
    (record { steps = []; end = some absent }) d
