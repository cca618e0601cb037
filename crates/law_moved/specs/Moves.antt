-- Numbers that change where a file is cut or joined (document 02, requests 12 and 14), and what an answer, a row and a
-- type become.
use Rattle.std.specs.Prelude.{ℕ, List, map, Option as CodeOption, Some, None}
use Rattle.std.proofs.Math.Option.{Option, none, some}
use Rattle.ir.specs.declared.TypeNumber.{TypeNumber}
use Rattle.ir.specs.declared.RowNumber.{RowNumber}
use Rattle.ir.specs.declared.ArraySize.{ArraySize}
use Rattle.ir.specs.declared.ArraySize.TheVariants as As
use Rattle.ir.specs.declared.TypeInner.{TypeInner}
use Rattle.ir.specs.declared.TypeInner.TheVariants as Ti
use Rattle.ir.specs.declared.StructMember.{StructMember}
use Rattle.ir.specs.declared.Item.{Item}
use Rattle.ir.specs.declared.Item.TheVariants as It
use Rattle.ir.specs.declared.ImageQuery.{ImageQuery}
use Rattle.ir.specs.declared.ImageQuery.TheVariants as Iq
use Rattle.ir.specs.declared.RelationalFunction.{RelationalFunction}
use Rattle.ir.specs.declared.RelationalFunction.TheVariants as Rl
use Rattle.ir.specs.declared.Expression.{Expression}
use Rattle.ir.specs.declared.Expression.TheVariants as Ex
use Rattle.answers.specs.declared.Refusal.{Refusal}
use Rattle.answers.specs.declared.Refusal.TheVariants as R
use Rattle.rule.specs.Answers.{TypeAnswer, number, value, malformed, Typed, given, refused, chosen_refusal, Place, row}
use Rattle.rule.specs.Answers.{component, composed, nowhere, chosen, Result, told, newer, Judgement}
use Rattle.rule.specs.Things.{Shown, Form, Thing, Seen, kind, form, texels, struct_number, fault}
use Rattle.rule.specs.Things as Row

-- what becomes of the numbers of each family, and of the items of each kind that numbers name
pub record Moves : Type 0 where
  pub types : ℕ → ℕ
  pub members : ℕ → ℕ
  pub constants : ℕ → ℕ
  pub overrides : ℕ → ℕ
  pub globals : ℕ → ℕ
  pub arguments : ℕ → ℕ
  pub locals : ℕ → ℕ
  pub functions : ℕ → ℕ
  pub rows : ℕ → ℕ
  -- a compose's first component, how many it has, and the rows that they name
  pub components : ℕ → ℕ
  pub counts : ℕ → ℕ
  pub parts : List RowNumber → List RowNumber

module _ (m : Moves) where
  abbrev pub type_to : TypeNumber → TypeNumber
  type_to t = record { 0 = m.types t.0 }

  abbrev pub row_to : RowNumber → RowNumber
  row_to r = record { 0 = m.rows r.0 }

  abbrev pub size_to : ArraySize → ArraySize
  size_to (As.Constant n) = As.Constant n
  size_to (As.Pending o) = As.Pending (record { 0 = m.overrides o.0 })
  size_to As.Dynamic = As.Dynamic

  abbrev pub inner_to : TypeInner → TypeInner
  inner_to (Ti.Scalar k) = Ti.Scalar k
  inner_to (Ti.Vector z k) = Ti.Vector z k
  inner_to (Ti.Matrix c r k) = Ti.Matrix c r k
  inner_to (Ti.CooperativeMatrix c r k o) = Ti.CooperativeMatrix c r k o
  inner_to (Ti.Atomic k) = Ti.Atomic k
  inner_to (Ti.Pointer b p) = Ti.Pointer (type_to b) p
  inner_to (Ti.ValuePointer z k p) = Ti.ValuePointer z k p
  inner_to (Ti.Array b z t) = Ti.Array (type_to b) (size_to z) t
  inner_to (Ti.Struct f n t) = Ti.Struct (record { 0 = m.members f.0 }) n t
  inner_to (Ti.Image d a c) = Ti.Image d a c
  inner_to (Ti.Sampler q) = Ti.Sampler q
  inner_to (Ti.AccelerationStructure q) = Ti.AccelerationStructure q
  inner_to (Ti.RayQuery q) = Ti.RayQuery q
  inner_to (Ti.BindingArray b z) = Ti.BindingArray (type_to b) (size_to z)

  abbrev pub answer_to : TypeAnswer → TypeAnswer
  answer_to (number n) = number (type_to n)
  answer_to (value t) = value (inner_to t)
  answer_to (malformed f) = malformed f

  abbrev pub refusal_to : Refusal → Refusal
  refusal_to (R.OutOfBoundsIndex r i) = R.OutOfBoundsIndex (row_to r) i
  refusal_to (R.InvalidAccess r q) = R.InvalidAccess (row_to r) q
  refusal_to (R.InvalidSubAccess t q) = R.InvalidSubAccess (type_to t) q
  refusal_to (R.InvalidScalar r) = R.InvalidScalar (row_to r)
  refusal_to (R.InvalidVector r) = R.InvalidVector (row_to r)
  refusal_to (R.InvalidPointer r) = R.InvalidPointer (row_to r)
  refusal_to (R.InvalidImage r) = R.InvalidImage (row_to r)
  refusal_to R.FunctionReturnsVoid = R.FunctionReturnsVoid
  refusal_to R.IncompatibleOperands = R.IncompatibleOperands
  refusal_to (R.FunctionArgumentNotFound i) = R.FunctionArgumentNotFound (m.arguments i)
  refusal_to R.MissingSpecialType = R.MissingSpecialType
  refusal_to R.Mismatch = R.Mismatch

  abbrev pub typed_to : Typed → Typed
  typed_to (given a) = given (answer_to a)
  typed_to (refused e) = refused (refusal_to e)
  typed_to (chosen_refusal f) = chosen_refusal f

  abbrev pub place_to : Place → Place
  place_to (row r) = row (row_to r)
  place_to (component i) = component i
  place_to composed = composed
  place_to nowhere = nowhere
  place_to (chosen f) = chosen f

  abbrev pub result_to : {A B : Type 0} → (A → B) → Result A → Result B
  result_to to (told a) = told (to a)
  result_to to (newer p) = newer (place_to p)

  -- a verdict, where there is one: only the place of a newer thing may name a row, and no verdict's does
  abbrev pub judged_to : Option (Result Judgement) → Option (Result Judgement)
  judged_to (some x) = some (result_to (λ (j : Judgement). j) x)
  judged_to none = none

  abbrev pub maybe_to : Option TypeNumber → Option TypeNumber
  maybe_to (some t) = some (type_to t)
  maybe_to none = none

  abbrev pub function_to : CodeOption TypeNumber → CodeOption TypeNumber
  function_to (Some t) = Some (type_to t)
  function_to None = None

  -- the operand of a query or a relational function, where it is read; else it is no number
  abbrev pub queried_to : ImageQuery → RowNumber → RowNumber
  queried_to Iq.Size r = row_to r
  queried_to Iq.NumLevels r = r
  queried_to Iq.NumLayers r = r
  queried_to Iq.NumSamples r = r

  abbrev pub related_to : RelationalFunction → RowNumber → RowNumber
  related_to Rl.All r = r
  related_to Rl.Any r = r
  related_to Rl.IsNan r = row_to r
  related_to Rl.IsInf r = row_to r

  abbrev pub shown_to : Shown → Shown
  shown_to (Row.literal l) = Row.literal l
  shown_to (Row.constant t) = Row.constant (type_to t)
  shown_to (Row.override t) = Row.override (type_to t)
  shown_to (Row.zero_value t) = Row.zero_value (type_to t)
  shown_to (Row.compose t parts) = Row.compose (type_to t) (m.parts parts)
  shown_to (Row.access n) = Row.access (row_to n)
  shown_to (Row.access_index n i) = Row.access_index (row_to n) i
  shown_to (Row.splat z n) = Row.splat z (row_to n)
  shown_to (Row.swizzle z n) = Row.swizzle z (row_to n)
  shown_to (Row.function_argument i t) = Row.function_argument (m.arguments i) (maybe_to t)
  shown_to (Row.global_variable t s) = Row.global_variable (type_to t) s
  shown_to (Row.local_variable t) = Row.local_variable (type_to t)
  shown_to (Row.load n) = Row.load (row_to n)
  shown_to (Row.image_sample n g) = Row.image_sample (row_to n) g
  shown_to (Row.image_load n) = Row.image_load (row_to n)
  shown_to (Row.image_query n q) = Row.image_query (queried_to q n) q
  shown_to (Row.unary n) = Row.unary (row_to n)
  shown_to (Row.binary o l r) = Row.binary o (row_to l) (row_to r)
  shown_to (Row.select n) = Row.select (row_to n)
  shown_to (Row.derivative n) = Row.derivative (row_to n)
  shown_to (Row.relational f n) = Row.relational f (related_to f n)
  shown_to (Row.cast n k w) = Row.cast (row_to n) k w
  shown_to (Row.call_result r) = Row.call_result (function_to r)
  shown_to (Row.atomic_result t) = Row.atomic_result (type_to t)
  shown_to (Row.work_group_uniform_load_result t) = Row.work_group_uniform_load_result (type_to t)
  shown_to Row.array_length = Row.array_length
  shown_to (Row.ray_query_vertex_positions t) = Row.ray_query_vertex_positions (maybe_to t)
  shown_to Row.ray_query_proceed_result = Row.ray_query_proceed_result
  shown_to (Row.ray_query_get_intersection t) = Row.ray_query_get_intersection (maybe_to t)
  shown_to Row.subgroup_ballot_result = Row.subgroup_ballot_result
  shown_to (Row.subgroup_operation_result t) = Row.subgroup_operation_result (type_to t)
  shown_to (Row.cooperative_load c r o n) = Row.cooperative_load c r o (row_to n)
  shown_to (Row.cooperative_multiply_add n) = Row.cooperative_multiply_add (row_to n)

  abbrev pub form_to : Form → Form
  form_to x = record { inner = inner_to x.inner; members = map type_to x.members }

  abbrev pub thing_to : Thing → Thing
  thing_to (kind n) = kind (row_to n)
  thing_to (form a) = form (answer_to a)
  thing_to (texels c) = texels c
  thing_to (struct_number a) = struct_number (answer_to a)
  thing_to (fault a) = fault (answer_to a)

  abbrev pub seen_to : (c : Thing) → Seen c → Seen (thing_to c)
  seen_to (kind n) x = shown_to x
  seen_to (form a) x = form_to x
  seen_to (texels c) x = x
  seen_to (struct_number a) x = x
  seen_to (fault a) x = x

  abbrev pub shows_to : (c : Thing) → Option (Seen c) → Option (Seen (thing_to c))
  shows_to c none = none
  shows_to c (some x) = some (seen_to c x)

  -- WHAT FRAMES READ AS

  abbrev pub type_form_to : CodeOption TypeInner → CodeOption TypeInner
  type_form_to (Some t) = Some (inner_to t)
  type_form_to None = None

  abbrev pub member_to : StructMember → StructMember
  member_to x = record { ty = type_to x.ty; offset = x.offset }

  abbrev pub item_to : Item → Item
  item_to (It.Constant t) = It.Constant (type_to t)
  item_to (It.Override t) = It.Override (type_to t)
  item_to (It.GlobalVariable t p) = It.GlobalVariable (type_to t) p
  item_to (It.FunctionArgument t) = It.FunctionArgument (type_to t)
  item_to (It.LocalVariable t) = It.LocalVariable (type_to t)
  item_to (It.Function r) = It.Function (function_to r)
  item_to (It.RayIntersection t) = It.RayIntersection (type_to t)
  item_to (It.RayVertexReturn t) = It.RayVertexReturn (type_to t)
  item_to It.Unknown = It.Unknown

  abbrev pub expression_to : Expression → Expression
  expression_to (Ex.Literal l) = Ex.Literal l
  expression_to (Ex.Constant i) = Ex.Constant (record { 0 = m.constants i.0 })
  expression_to (Ex.Override i) = Ex.Override (record { 0 = m.overrides i.0 })
  expression_to (Ex.ZeroValue t) = Ex.ZeroValue (type_to t)
  expression_to (Ex.Compose t n c) = Ex.Compose (type_to t) (m.counts n) (record { 0 = m.components c.0 })
  expression_to (Ex.Access r) = Ex.Access (row_to r)
  expression_to (Ex.AccessIndex r i) = Ex.AccessIndex (row_to r) i
  expression_to (Ex.Splat z r) = Ex.Splat z (row_to r)
  expression_to (Ex.Swizzle z r) = Ex.Swizzle z (row_to r)
  expression_to (Ex.FunctionArgument i) = Ex.FunctionArgument (m.arguments i)
  expression_to (Ex.GlobalVariable i) = Ex.GlobalVariable (record { 0 = m.globals i.0 })
  expression_to (Ex.LocalVariable i) = Ex.LocalVariable (record { 0 = m.locals i.0 })
  expression_to (Ex.Load r) = Ex.Load (row_to r)
  expression_to (Ex.ImageSample r g) = Ex.ImageSample (row_to r) g
  expression_to (Ex.ImageLoad r) = Ex.ImageLoad (row_to r)
  expression_to (Ex.ImageQuery r q) = Ex.ImageQuery (queried_to q r) q
  expression_to (Ex.Unary r) = Ex.Unary (row_to r)
  expression_to (Ex.Binary o l r) = Ex.Binary o (row_to l) (row_to r)
  expression_to (Ex.Select r) = Ex.Select (row_to r)
  expression_to (Ex.Derivative r) = Ex.Derivative (row_to r)
  expression_to (Ex.Relational f r) = Ex.Relational f (related_to f r)
  expression_to Ex.Math = Ex.Math
  expression_to (Ex.As r k w) = Ex.As (row_to r) k w
  expression_to (Ex.CallResult i) = Ex.CallResult (record { 0 = m.functions i.0 })
  expression_to (Ex.AtomicResult t) = Ex.AtomicResult (type_to t)
  expression_to (Ex.WorkGroupUniformLoadResult t) = Ex.WorkGroupUniformLoadResult (type_to t)
  expression_to Ex.ArrayLength = Ex.ArrayLength
  expression_to Ex.RayQueryVertexPositions = Ex.RayQueryVertexPositions
  expression_to Ex.RayQueryProceedResult = Ex.RayQueryProceedResult
  expression_to Ex.RayQueryGetIntersection = Ex.RayQueryGetIntersection
  expression_to Ex.SubgroupBallotResult = Ex.SubgroupBallotResult
  expression_to (Ex.SubgroupOperationResult t) = Ex.SubgroupOperationResult (type_to t)
  expression_to (Ex.CooperativeLoad c r o n) = Ex.CooperativeLoad c r o (row_to n)
  expression_to (Ex.CooperativeMultiplyAdd r) = Ex.CooperativeMultiplyAdd (row_to r)

  abbrev pub row_form_to : CodeOption Expression → CodeOption Expression
  row_form_to (Some e) = Some (expression_to e)
  row_form_to None = None
