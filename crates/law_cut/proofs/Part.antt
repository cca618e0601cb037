-- THE SMALLEST PART of a file that shows a refusal (document 02, request 12), put together: the cut to the marks of a
-- row is accepted, and has no more frames than the file. A row that names rows reads one, so it is not the cut's first.
use Rattle.std.specs.Prelude.{Ok, Some, Option, None}
use Prim.Native.Nat.{ℕ, ◌+◌, ◌≤◌, ◌<◌}
use native.Mathlib.Omega.{arith}
use mathlib.Core.Path.{◌≡◌}
use mathlib.Core.Bool.{Bool, true, false}
use mathlib.Core.List.{List}
use Rattle.ir.specs.declared.RowNumber.{RowNumber}
use Rattle.ir.specs.declared.ImageQuery.{ImageQuery}
use Rattle.ir.specs.declared.ImageQuery.TheVariants as Iq
use Rattle.ir.specs.declared.BinaryOperator.{BinaryOperator}
use Rattle.ir.specs.declared.BinaryOperator.TheVariants as Bo
use Rattle.ir.specs.declared.RelationalFunction.{RelationalFunction}
use Rattle.ir.specs.declared.RelationalFunction.TheVariants as Rf
use Rattle.ir.specs.declared.Expression.{Expression}
use Rattle.ir.specs.declared.Expression.TheVariants as Ex
use Rattle.answers.specs.Limit.{max_frames}
use Rattle.frames.specs.Bytes.{frame_at, frame_count}
use Rattle.frames.specs.Forms.{row_of}
use Rattle.archive.specs.Starts.{starts_of, row_count}
use Rattle.archive.specs.Access.{row_in}
use Rattle.archive.specs.Checks.{check_frames}
use Rattle.archive.proofs.Ranks.{begins}
use Rattle.rule.specs.Things.{shown, see, see_row}
use Rattle.rule.specs.Rule.{Answers}
use Rattle.rule_rows.specs.declared.Pass.{Pass}
use Rattle.rule_rows.specs.declared.Pass.TheVariants as Pa
use Rattle.law_rows.specs.Reads.{sample_reads, query_reads, binary_reads, binary_reads_by, relational_reads}
use Rattle.rule_answers.specs.Outputs.{row_answer}
use Rattle.law_rows.proofs.Good.{Good, good-when}
use Rattle.law_rows.proofs.Range.{row-there}
use Rattle.law_moved.proofs.Files.{starts-ordered}
use Rattle.law_moved.proofs.Named.{NamesQueried, NamesRelated, NamesRow, FormNamesRow}
use Rattle.law_cut.specs.Marks.{read_to, operands_of, numbers, rows_read, max_marks, marks_of, is_marked}
use Rattle.law_cut.specs.Cut.{rank, cut_file}
use Rattle.law_cut.specs.Smallest.{In, first}
use Rattle.law_cut.proofs.Follows.{low, read-marked}
use Rattle.law_cut.proofs.Frames.{rank_most, rank_rises, gr-count}
use Rattle.law_cut.proofs.Accepted.{cut-good}

module _ (us : Answers) where
  -- there is a row among those that these operands lead to
  abbrev AnyRow : List RowNumber → Type 0
  AnyRow l = (r : ℕ) × In r (numbers (read_to us l))

  sample-some : (n : RowNumber) (g : Bool) → AnyRow (sample_reads n g).operands
  sample-some n true = (n.0, first)
  sample-some n false = (n.0, first)

  query-some : (n : RowNumber) (q : ImageQuery) → NamesQueried q → AnyRow (query_reads n q).operands
  query-some n Iq.Size h = (n.0, first)
  query-some n Iq.NumLevels h = absurd h
  query-some n Iq.NumLayers h = absurd h
  query-some n Iq.NumSamples h = absurd h

  relational-some : (f : RelationalFunction) (n : RowNumber) → NamesRelated f → AnyRow (relational_reads f n).operands
  relational-some Rf.All n h = absurd h
  relational-some Rf.Any n h = absurd h
  relational-some Rf.IsNan n h = (n.0, first)
  relational-some Rf.IsInf n h = (n.0, first)

  binary-some : (op : BinaryOperator) (l r : RowNumber) → AnyRow (binary_reads op l r).operands
  binary-some Bo.Add l r = (l.0, first)
  binary-some Bo.Subtract l r = (l.0, first)
  binary-some Bo.Multiply l r = (l.0, first)
  binary-some Bo.Divide l r = (l.0, first)
  binary-some Bo.Modulo l r = (l.0, first)
  binary-some Bo.Equal l r = (l.0, first)
  binary-some Bo.NotEqual l r = (l.0, first)
  binary-some Bo.Less l r = (l.0, first)
  binary-some Bo.LessEqual l r = (l.0, first)
  binary-some Bo.Greater l r = (l.0, first)
  binary-some Bo.GreaterEqual l r = (l.0, first)
  binary-some Bo.And l r = (l.0, first)
  binary-some Bo.ExclusiveOr l r = (l.0, first)
  binary-some Bo.InclusiveOr l r = (l.0, first)
  binary-some Bo.LogicalAnd l r = (l.0, first)
  binary-some Bo.LogicalOr l r = (l.0, first)
  binary-some Bo.ShiftLeft l r = (l.0, first)
  binary-some Bo.ShiftRight l r = (l.0, first)

  binary-by-some : (pass : Pass) (op : BinaryOperator) (l r : RowNumber) → AnyRow (binary_reads_by pass op l r).operands
  binary-by-some Pa.First op l r = binary-some op l r
  binary-by-some Pa.Second op l r = (l.0, first)

  module _ (pass : Pass) (fr : List ℕ) where
    -- a row that names rows reads one
    expression-some : (e : Expression) → NamesRow e → AnyRow (operands_of pass (shown fr (starts_of fr) e))
    expression-some (Ex.Literal l) h = absurd h
    expression-some (Ex.Constant i) h = absurd h
    expression-some (Ex.Override i) h = absurd h
    expression-some (Ex.ZeroValue t) h = absurd h
    expression-some (Ex.Compose t n c) h = absurd h
    expression-some (Ex.Access n) h = (n.0, first)
    expression-some (Ex.AccessIndex n i) h = (n.0, first)
    expression-some (Ex.Splat z n) h = (n.0, first)
    expression-some (Ex.Swizzle z n) h = (n.0, first)
    expression-some (Ex.FunctionArgument i) h = absurd h
    expression-some (Ex.GlobalVariable i) h = absurd h
    expression-some (Ex.LocalVariable i) h = absurd h
    expression-some (Ex.Load n) h = (n.0, first)
    expression-some (Ex.ImageSample n g) h = sample-some n g
    expression-some (Ex.ImageLoad n) h = (n.0, first)
    expression-some (Ex.ImageQuery n q) h = query-some n q h
    expression-some (Ex.Unary n) h = (n.0, first)
    expression-some (Ex.Binary o l r) h = binary-by-some pass o l r
    expression-some (Ex.Select n) h = (n.0, first)
    expression-some (Ex.Derivative n) h = (n.0, first)
    expression-some (Ex.Relational f n) h = relational-some f n h
    expression-some Ex.Math h = absurd h
    expression-some (Ex.As n k w) h = (n.0, first)
    expression-some (Ex.CallResult i) h = absurd h
    expression-some (Ex.AtomicResult t) h = absurd h
    expression-some (Ex.WorkGroupUniformLoadResult t) h = absurd h
    expression-some Ex.ArrayLength h = absurd h
    expression-some Ex.RayQueryVertexPositions h = absurd h
    expression-some Ex.RayQueryProceedResult h = absurd h
    expression-some Ex.RayQueryGetIntersection h = absurd h
    expression-some Ex.SubgroupBallotResult h = absurd h
    expression-some (Ex.SubgroupOperationResult t) h = absurd h
    expression-some (Ex.CooperativeLoad c r o n) h = (n.0, first)
    expression-some (Ex.CooperativeMultiplyAdd n) h = (n.0, first)

    form-some : (r : Option Expression) → FormNamesRow r → AnyRow (operands_of pass (see_row fr (starts_of fr) r))
    form-some (Some e) h = expression-some e h
    form-some None h = absurd h

module _ (pass : Pass) (fr : List ℕ) (good : Good fr) (n : ℕ) (there : n < row_count (starts_of fr))
    (few : row_count (starts_of fr) ≤ max_marks) where
  abbrev marks : List Bool
  marks = marks_of pass fr n

  reads-some : (r : ℕ) → r < row_count (starts_of fr) → FormNamesRow (row_of (frame_at fr ((starts_of fr).rows + r)))
      → (j : ℕ) × In j (rows_read pass fr r)
  unfolding rows_read row_in
  reads-some r l h = rw (row-there fr r l)
      (form-some (λ (x : RowNumber). row_answer pass (see fr) x.0) pass fr
      (row_of (frame_at fr ((starts_of fr).rows + r))) h)

  not_first : (r : ℕ) → r < row_count (starts_of fr) → is_marked marks r ≡ true
      → FormNamesRow (row_of (frame_at fr ((starts_of fr).rows + r))) → 0 < rank marks r
  not_first r l h w =
      let x = reads-some r l w in
      let a = low pass fr good r x.0 x.1 in
      let b = rank_rises marks x.0 r a (read-marked pass fr good n there few r x.0 h x.1) in
      omega arith

  -- THE CUT IS ACCEPTED
  pub part-good : Good (cut_file (marks_of pass fr n) fr)
  part-good = cut-good marks fr good not_first

  pub part-few : frame_count (cut_file (marks_of pass fr n) fr) ≤ frame_count fr
  unfolding starts_of
  part-few = let a = gr-count marks fr good in let b = rank_most marks (row_count (starts_of fr)) in
      let c = (starts-ordered fr).components in let d = (begins fr 1280).within in omega arith

  pub part-accepted : frame_count fr ≤ max_frames → check_frames (cut_file (marks_of pass fr n) fr)
      ≡ Ok (frame_count (cut_file (marks_of pass fr n) fr))
  part-accepted l = let a = part-few in (good-when (cut_file marks fr) (omega arith)).1 part-good
