-- Not part of any public statement: for proofs and code only. What the code of the marks goes by: the rows that a row
-- reads, as the code holds them.
use Rattle.answers.specs.declared.Unresolved.TheVariants as Un
use Rattle.std.specs.Prelude.{ℕ, List, [], ◌∷◌, Ok, Err, Option, Some, None}
use Rattle.ir.specs.declared.RowNumber.{RowNumber}
use Rattle.ir.specs.declared.ImageQuery.{ImageQuery}
use Rattle.ir.specs.declared.ImageQuery.TheVariants as Iq
use Rattle.ir.specs.declared.BinaryOperator.{BinaryOperator}
use Rattle.ir.specs.declared.BinaryOperator.TheVariants as Bo
use Rattle.ir.specs.declared.RelationalFunction.{RelationalFunction}
use Rattle.ir.specs.declared.RelationalFunction.TheVariants as Rl
use Rattle.ir.specs.declared.Expression.{Expression}
use Rattle.ir.specs.declared.Expression.TheVariants as Ex
use Rattle.answers.specs.Answer.{Answer}
use Rattle.archive.specs.declared.Starts.{Starts}
use Rattle.archive.specs.Access.{row_in}
use Rattle.rule_rows.specs.OverBuffer.{answer_in}
use Rattle.row_marks.specs.declared.Operands.{Operands}
use Rattle.row_marks.specs.declared.Operands.TheVariants as Op

abbrev pub of_binary : BinaryOperator → RowNumber → RowNumber → Operands
of_binary Bo.Add l r = Op.One l
of_binary Bo.Subtract l r = Op.One l
of_binary Bo.Multiply l r = Op.Two l r
of_binary Bo.Divide l r = Op.One l
of_binary Bo.Modulo l r = Op.One l
of_binary Bo.Equal l r = Op.One l
of_binary Bo.NotEqual l r = Op.One l
of_binary Bo.Less l r = Op.One l
of_binary Bo.LessEqual l r = Op.One l
of_binary Bo.Greater l r = Op.One l
of_binary Bo.GreaterEqual l r = Op.One l
of_binary Bo.And l r = Op.One l
of_binary Bo.ExclusiveOr l r = Op.One l
of_binary Bo.InclusiveOr l r = Op.One l
of_binary Bo.LogicalAnd l r = Op.One l
of_binary Bo.LogicalOr l r = Op.One l
of_binary Bo.ShiftLeft l r = Op.One l
of_binary Bo.ShiftRight l r = Op.One l

abbrev pub of_query : ImageQuery → RowNumber → Operands
of_query Iq.Size n = Op.One n
of_query Iq.NumLevels n = Op.Nothing
of_query Iq.NumLayers n = Op.Nothing
of_query Iq.NumSamples n = Op.Nothing

abbrev pub of_relational : RelationalFunction → RowNumber → Operands
of_relational Rl.All n = Op.Nothing
of_relational Rl.Any n = Op.Nothing
of_relational Rl.IsNan n = Op.One n
of_relational Rl.IsInf n = Op.One n

abbrev pub of_expression : Expression → Operands
of_expression (Ex.Literal l) = Op.Nothing
of_expression (Ex.Constant i) = Op.Nothing
of_expression (Ex.Override i) = Op.Nothing
of_expression (Ex.ZeroValue t) = Op.Nothing
of_expression (Ex.Compose t n c) = Op.Nothing
of_expression (Ex.Access n) = Op.One n
of_expression (Ex.AccessIndex n i) = Op.One n
of_expression (Ex.Splat z n) = Op.One n
of_expression (Ex.Swizzle z n) = Op.One n
of_expression (Ex.FunctionArgument i) = Op.Nothing
of_expression (Ex.GlobalVariable i) = Op.Nothing
of_expression (Ex.LocalVariable i) = Op.Nothing
of_expression (Ex.Load n) = Op.One n
of_expression (Ex.ImageSample n g) = Op.One n
of_expression (Ex.ImageLoad n) = Op.One n
of_expression (Ex.ImageQuery n q) = of_query q n
of_expression (Ex.Unary n) = Op.One n
of_expression (Ex.Binary o l r) = of_binary o l r
of_expression (Ex.Select n) = Op.One n
of_expression (Ex.Derivative n) = Op.One n
of_expression (Ex.Relational f n) = of_relational f n
of_expression Ex.Math = Op.Nothing
of_expression (Ex.As n k w) = Op.One n
of_expression (Ex.CallResult i) = Op.Nothing
of_expression (Ex.AtomicResult t) = Op.Nothing
of_expression (Ex.WorkGroupUniformLoadResult t) = Op.Nothing
of_expression Ex.ArrayLength = Op.Nothing
of_expression Ex.RayQueryVertexPositions = Op.Nothing
of_expression Ex.RayQueryProceedResult = Op.Nothing
of_expression Ex.RayQueryGetIntersection = Op.Nothing
of_expression Ex.SubgroupBallotResult = Op.Nothing
of_expression (Ex.SubgroupOperationResult t) = Op.Nothing
of_expression (Ex.CooperativeLoad c r o n) = Op.One n
of_expression (Ex.CooperativeMultiplyAdd n) = Op.One n

abbrev pub of_row : Option Expression → Operands
of_row (Some e) = of_expression e
of_row None = Op.Nothing

-- right is read where left has a type
abbrev pub after : Answer → RowNumber → RowNumber → Operands
after (Ok t) l r = Op.Two l r
after (Err (Un.Refused e)) l r = Op.One l
after (Err (Un.Newer n)) l r = Op.One l

abbrev pub read_in : List ℕ → List ℕ → Operands → Operands
read_in answers places Op.Nothing = Op.Nothing
read_in answers places (Op.One n) = Op.One n
read_in answers places (Op.Two l r) = after (answer_in answers places l) l r

abbrev pub list_of : Operands → List ℕ
list_of Op.Nothing = []
list_of (Op.One n) = n.0 ∷ []
list_of (Op.Two l r) = l.0 ∷ r.0 ∷ []

-- the rows that row k reads, over an answer buffer with its places
unfoldable pub reads_in : List ℕ → Starts → List ℕ → List ℕ → ℕ → List ℕ
reads_in fr s answers places k = list_of (read_in answers places (of_row (row_in fr s (record { 0 = k }))))
