-- Where the numbers of types, members and overrides stay, so do types, members and items, and what they show.
use Rattle.std.specs.Prelude.{Option as CodeOption, Some, None}
use Prim.Native.Nat.{ℕ}
use mathlib.Core.Path.{◌≡◌, refl, ap}
use mathlib.Core.Option.{Option, none, some}
use Rattle.ir.specs.declared.TypeNumber.{TypeNumber}
use Rattle.ir.specs.declared.ArraySize.{ArraySize}
use Rattle.ir.specs.declared.ArraySize.TheVariants as As
use Rattle.ir.specs.declared.TypeInner.{TypeInner}
use Rattle.ir.specs.declared.TypeInner.TheVariants as Ti
use Rattle.ir.specs.declared.StructMember.{StructMember}
use Rattle.ir.specs.declared.Item.{Item}
use Rattle.ir.specs.declared.Item.TheVariants as It
use Rattle.ir.specs.declared.RowNumber.{RowNumber}
use Rattle.ir.specs.declared.ImageQuery.{ImageQuery}
use Rattle.ir.specs.declared.ImageQuery.TheVariants as Iq
use Rattle.ir.specs.declared.RelationalFunction.{RelationalFunction}
use Rattle.ir.specs.declared.RelationalFunction.TheVariants as Rl
use Rattle.ir.specs.declared.Expression.{Expression}
use Rattle.ir.specs.declared.Expression.TheVariants as Ex
use Rattle.answers.specs.declared.Refusal.{Refusal}
use Rattle.answers.specs.declared.Refusal.TheVariants as R
use Rattle.rule.specs.Answers.{TypeAnswer, number, value, malformed, Typed, given, refused, chosen_refusal, Place, row}
use Rattle.rule.specs.Answers.{component, composed, nowhere, chosen, Result, told, newer}
use Rattle.law_moved.specs.Moves.{Moves, answer_to, refusal_to, typed_to, place_to, result_to, type_to, row_to, size_to}
use Rattle.law_moved.specs.Moves.{inner_to, maybe_to, function_to, queried_to, related_to, type_form_to, member_to}
use Rattle.law_moved.specs.Moves.{item_to, expression_to, row_form_to}

pub record Stay (m : Moves) : Type 0 where
  pub types : (n : ℕ) → m.types n ≡ n
  pub members : (n : ℕ) → m.members n ≡ n
  pub overrides : (n : ℕ) → m.overrides n ≡ n

module _ (m : Moves) (stay : Stay m) where
  pub type-stays : (t : TypeNumber) → type_to m t ≡ t
  type-stays t = ap (λ (n : ℕ). record { 0 = n }) (stay.types t.0)

  size-stays : (z : ArraySize) → size_to m z ≡ z
  size-stays (As.Constant n) = refl
  size-stays (As.Pending o) = ap (λ (n : ℕ). As.Pending (record { 0 = n })) (stay.overrides o.0)
  size-stays As.Dynamic = refl

  inner-stays : (t : TypeInner) → inner_to m t ≡ t
  inner-stays (Ti.Scalar k) = refl
  inner-stays (Ti.Vector z k) = refl
  inner-stays (Ti.Matrix c j k) = refl
  inner-stays (Ti.CooperativeMatrix c j k o) = refl
  inner-stays (Ti.Atomic k) = refl
  inner-stays (Ti.Pointer b p) = ap (λ (x : TypeNumber). Ti.Pointer x p) (type-stays b)
  inner-stays (Ti.ValuePointer z k p) = refl
  inner-stays (Ti.Array b z t) = rw (type-stays b, size-stays z)
  inner-stays (Ti.Struct f n t) = ap (λ (x : ℕ). Ti.Struct (record { 0 = x }) n t) (stay.members f.0)
  inner-stays (Ti.Image d a c) = refl
  inner-stays (Ti.Sampler q) = refl
  inner-stays (Ti.AccelerationStructure q) = refl
  inner-stays (Ti.RayQuery q) = refl
  inner-stays (Ti.BindingArray b z) = rw (type-stays b, size-stays z)

  pub form-stays : (t : CodeOption TypeInner) → type_form_to m t ≡ t
  form-stays (Some t) = ap Some (inner-stays t)
  form-stays None = refl

  pub member-stays : (x : StructMember) → member_to m x ≡ x
  member-stays x = ap (λ (t : TypeNumber). record { ty = t; offset = x.offset }) (type-stays x.ty)

  function-stays : (r : CodeOption TypeNumber) → function_to m r ≡ r
  function-stays (Some t) = ap Some (type-stays t)
  function-stays None = refl

  pub item-stays : (x : Item) → item_to m x ≡ x
  item-stays (It.Constant t) = ap It.Constant (type-stays t)
  item-stays (It.Override t) = ap It.Override (type-stays t)
  item-stays (It.GlobalVariable t p) = ap (λ (x : TypeNumber). It.GlobalVariable x p) (type-stays t)
  item-stays (It.FunctionArgument t) = ap It.FunctionArgument (type-stays t)
  item-stays (It.LocalVariable t) = ap It.LocalVariable (type-stays t)
  item-stays (It.Function r) = ap It.Function (function-stays r)
  item-stays (It.RayIntersection t) = ap It.RayIntersection (type-stays t)
  item-stays (It.RayVertexReturn t) = ap It.RayVertexReturn (type-stays t)
  item-stays It.Unknown = refl

  pub maybe_stays : (o : Option TypeNumber) → maybe_to m o ≡ o
  maybe_stays (some t) = ap some (type-stays t)
  maybe_stays none = refl

-- where every number stays, so do rows
pub record StayAll (m : Moves) : Type 0 where
  pub named : Stay m
  pub constants : (n : ℕ) → m.constants n ≡ n
  pub globals : (n : ℕ) → m.globals n ≡ n
  pub arguments : (n : ℕ) → m.arguments n ≡ n
  pub locals : (n : ℕ) → m.locals n ≡ n
  pub functions : (n : ℕ) → m.functions n ≡ n
  pub rows : (n : ℕ) → m.rows n ≡ n
  pub components : (n : ℕ) → m.components n ≡ n
  pub counts : (n : ℕ) → m.counts n ≡ n

module _ (m : Moves) (stay : StayAll m) where
  row_stays : (r : RowNumber) → row_to m r ≡ r
  row_stays r = ap (λ (n : ℕ). record { 0 = n }) (stay.rows r.0)

  ty : (t : TypeNumber) → type_to m t ≡ t
  ty = type-stays m stay.named

  query-stays : (q : ImageQuery) (r : RowNumber) → queried_to m q r ≡ r
  query-stays Iq.Size r = row_stays r
  query-stays Iq.NumLevels r = refl
  query-stays Iq.NumLayers r = refl
  query-stays Iq.NumSamples r = refl

  relational-stays : (f : RelationalFunction) (r : RowNumber) → related_to m f r ≡ r
  relational-stays Rl.All r = refl
  relational-stays Rl.Any r = refl
  relational-stays Rl.IsNan r = row_stays r
  relational-stays Rl.IsInf r = row_stays r

  expression-stays : (e : Expression) → expression_to m e ≡ e
  expression-stays (Ex.Literal l) = refl
  expression-stays (Ex.Constant i) = ap (λ (n : ℕ). Ex.Constant (record { 0 = n })) (stay.constants i.0)
  expression-stays (Ex.Override i) = ap (λ (n : ℕ). Ex.Override (record { 0 = n })) (stay.named.overrides i.0)
  expression-stays (Ex.ZeroValue t) = ap Ex.ZeroValue (ty t)
  expression-stays (Ex.Compose t n c) = rw (ty t, stay.counts n, stay.components c.0)
  expression-stays (Ex.Access r) = ap Ex.Access (row_stays r)
  expression-stays (Ex.AccessIndex r i) = ap (λ (x : RowNumber). Ex.AccessIndex x i) (row_stays r)
  expression-stays (Ex.Splat z r) = ap (Ex.Splat z) (row_stays r)
  expression-stays (Ex.Swizzle z r) = ap (Ex.Swizzle z) (row_stays r)
  expression-stays (Ex.FunctionArgument i) = ap Ex.FunctionArgument (stay.arguments i)
  expression-stays (Ex.GlobalVariable i) = ap (λ (n : ℕ). Ex.GlobalVariable (record { 0 = n })) (stay.globals i.0)
  expression-stays (Ex.LocalVariable i) = ap (λ (n : ℕ). Ex.LocalVariable (record { 0 = n })) (stay.locals i.0)
  expression-stays (Ex.Load r) = ap Ex.Load (row_stays r)
  expression-stays (Ex.ImageSample r g) = ap (λ (x : RowNumber). Ex.ImageSample x g) (row_stays r)
  expression-stays (Ex.ImageLoad r) = ap Ex.ImageLoad (row_stays r)
  expression-stays (Ex.ImageQuery r q) = ap (λ (x : RowNumber). Ex.ImageQuery x q) (query-stays q r)
  expression-stays (Ex.Unary r) = ap Ex.Unary (row_stays r)
  expression-stays (Ex.Binary o l r) = rw (row_stays l, row_stays r)
  expression-stays (Ex.Select r) = ap Ex.Select (row_stays r)
  expression-stays (Ex.Derivative r) = ap Ex.Derivative (row_stays r)
  expression-stays (Ex.Relational f r) = ap (Ex.Relational f) (relational-stays f r)
  expression-stays Ex.Math = refl
  expression-stays (Ex.As r k w) = ap (λ (x : RowNumber). Ex.As x k w) (row_stays r)
  expression-stays (Ex.CallResult i) = ap (λ (n : ℕ). Ex.CallResult (record { 0 = n })) (stay.functions i.0)
  expression-stays (Ex.AtomicResult t) = ap Ex.AtomicResult (ty t)
  expression-stays (Ex.WorkGroupUniformLoadResult t) = ap Ex.WorkGroupUniformLoadResult (ty t)
  expression-stays Ex.ArrayLength = refl
  expression-stays Ex.RayQueryVertexPositions = refl
  expression-stays Ex.RayQueryProceedResult = refl
  expression-stays Ex.RayQueryGetIntersection = refl
  expression-stays Ex.SubgroupBallotResult = refl
  expression-stays (Ex.SubgroupOperationResult t) = ap Ex.SubgroupOperationResult (ty t)
  expression-stays (Ex.CooperativeLoad c r o n) = ap (Ex.CooperativeLoad c r o) (row_stays n)
  expression-stays (Ex.CooperativeMultiplyAdd r) = ap Ex.CooperativeMultiplyAdd (row_stays r)

  pub row-form-stays : (r : CodeOption Expression) → row_form_to m r ≡ r
  row-form-stays (Some e) = ap Some (expression-stays e)
  row-form-stays None = refl

  -- and answers
  pub answer-stays : (a : TypeAnswer) → answer_to m a ≡ a
  answer-stays (number n) = ap number (ty n)
  answer-stays (value t) = ap value (inner-stays m stay.named t)
  answer-stays (malformed f) = refl

  refusal-stays : (e : Refusal) → refusal_to m e ≡ e
  refusal-stays (R.OutOfBoundsIndex r i) = ap (λ (x : RowNumber). R.OutOfBoundsIndex x i) (row_stays r)
  refusal-stays (R.InvalidAccess r q) = ap (λ (x : RowNumber). R.InvalidAccess x q) (row_stays r)
  refusal-stays (R.InvalidSubAccess t q) = ap (λ (x : TypeNumber). R.InvalidSubAccess x q) (ty t)
  refusal-stays (R.InvalidScalar r) = ap R.InvalidScalar (row_stays r)
  refusal-stays (R.InvalidVector r) = ap R.InvalidVector (row_stays r)
  refusal-stays (R.InvalidPointer r) = ap R.InvalidPointer (row_stays r)
  refusal-stays (R.InvalidImage r) = ap R.InvalidImage (row_stays r)
  refusal-stays R.FunctionReturnsVoid = refl
  refusal-stays R.IncompatibleOperands = refl
  refusal-stays (R.FunctionArgumentNotFound i) = ap R.FunctionArgumentNotFound (stay.arguments i)
  refusal-stays R.MissingSpecialType = refl
  refusal-stays R.Mismatch = refl

  typed_stays : (t : Typed) → typed_to m t ≡ t
  typed_stays (given a) = ap given (answer-stays a)
  typed_stays (refused e) = ap refused (refusal-stays e)
  typed_stays (chosen_refusal f) = refl

  place-stays : (p : Place) → place_to m p ≡ p
  place-stays (row r) = ap row (row_stays r)
  place-stays (component i) = refl
  place-stays composed = refl
  place-stays nowhere = refl
  place-stays (chosen f) = refl

  pub result-stays : (x : Result Typed) → result_to m (typed_to m) x ≡ x
  result-stays (told t) = ap told (typed_stays t)
  result-stays (newer p) = ap newer (place-stays p)

  pub outcome-stays : {A : Type 0} (x : Result A) → result_to m (λ (a : A). a) x ≡ x
  outcome-stays (told a) = refl
  outcome-stays (newer p) = ap newer (place-stays p)
