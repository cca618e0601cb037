-- NUMBER 6, of a moved frame: where each number that was in range is so when moved, and earlier ones stay earlier, a
-- frame that named what is there does so with its numbers moved.
use Rattle.std.specs.Prelude.{Option, Some, None}
use Prim.Native.Nat.{ℕ, ◌+◌, ◌≤◌, ◌<◌}
use mathlib.Core.Path.{◌≡◌, refl}
use mathlib.Core.Bool.{true, ◌&&◌}
use lib.Dec.{ltb}
use borrow.Author.Tests.{ltb-true, lt-ltb, leb-true, le-leb}
use Rattle.scan.proofs.Laws.{and_first, and_second}
use Rattle.ir.specs.declared.TypeNumber.{TypeNumber}
use Rattle.ir.specs.declared.RowNumber.{RowNumber}
use Rattle.ir.specs.declared.ArraySize.{ArraySize}
use Rattle.ir.specs.declared.ArraySize.TheVariants as As
use Rattle.ir.specs.declared.TypeInner.{TypeInner}
use Rattle.ir.specs.declared.TypeInner.TheVariants as Ti
use Rattle.ir.specs.declared.Item.{Item}
use Rattle.ir.specs.declared.Item.TheVariants as It
use Rattle.ir.specs.declared.ImageQuery.{ImageQuery}
use Rattle.ir.specs.declared.ImageQuery.TheVariants as Iq
use Rattle.ir.specs.declared.RelationalFunction.{RelationalFunction}
use Rattle.ir.specs.declared.RelationalFunction.TheVariants as Rl
use Rattle.ir.specs.declared.Expression.{Expression}
use Rattle.ir.specs.declared.Expression.TheVariants as Ex
use Rattle.archive.specs.declared.Starts.{Starts}
use Rattle.archive.specs.Starts.{type_count, member_count, constant_count, override_count, global_count, local_count}
use Rattle.archive.specs.Starts.{function_count, component_count}
use Rattle.archive.specs.Names.{is_type, size_names, type_names, type_form_names, result_names, item_names, is_earlier}
use Rattle.archive.specs.Names.{query_names, relational_names, row_names, row_form_names}
use Rattle.law_moved.specs.Moves.{Moves, type_to, row_to, size_to, inner_to, function_to, queried_to, related_to}
use Rattle.law_moved.specs.Moves.{type_form_to, item_to, expression_to, row_form_to}

-- moved numbers are in range: of a file whose families begin where s says, in one where they begin where t says
pub record InPlace (m : Moves) (s t : Starts) : Type 0 where
  pub type-in : (n : ℕ) → n < type_count s → m.types n < type_count t
  pub type-rises : (k n : ℕ) → k < n → m.types k < m.types n
  pub member-range : (n j : ℕ) → n + j ≤ member_count s → m.members n + j ≤ member_count t
  pub constant-in : (n : ℕ) → n < constant_count s → m.constants n < constant_count t
  pub override-in : (n : ℕ) → n < override_count s → m.overrides n < override_count t
  pub global-in : (n : ℕ) → n < global_count s → m.globals n < global_count t
  pub local-in : (n : ℕ) → n < local_count s → m.locals n < local_count t
  pub function-in : (n : ℕ) → n < function_count s → m.functions n < function_count t
  pub component-range : (n j : ℕ) → n + j ≤ component_count s → m.components n + m.counts j ≤ component_count t

-- a row that names another
abbrev pub NamesQueried : ImageQuery → Type 0
NamesQueried Iq.Size = Unit {0}
NamesQueried Iq.NumLevels = ⊥
NamesQueried Iq.NumLayers = ⊥
NamesQueried Iq.NumSamples = ⊥

abbrev pub NamesRelated : RelationalFunction → Type 0
NamesRelated Rl.All = ⊥
NamesRelated Rl.Any = ⊥
NamesRelated Rl.IsNan = Unit {0}
NamesRelated Rl.IsInf = Unit {0}

abbrev pub NamesRow : Expression → Type 0
NamesRow (Ex.Literal l) = ⊥
NamesRow (Ex.Constant i) = ⊥
NamesRow (Ex.Override i) = ⊥
NamesRow (Ex.ZeroValue t) = ⊥
NamesRow (Ex.Compose t n c) = ⊥
NamesRow (Ex.Access r) = Unit {0}
NamesRow (Ex.AccessIndex r i) = Unit {0}
NamesRow (Ex.Splat z r) = Unit {0}
NamesRow (Ex.Swizzle z r) = Unit {0}
NamesRow (Ex.FunctionArgument i) = ⊥
NamesRow (Ex.GlobalVariable i) = ⊥
NamesRow (Ex.LocalVariable i) = ⊥
NamesRow (Ex.Load r) = Unit {0}
NamesRow (Ex.ImageSample r g) = Unit {0}
NamesRow (Ex.ImageLoad r) = Unit {0}
NamesRow (Ex.ImageQuery r q) = NamesQueried q
NamesRow (Ex.Unary r) = Unit {0}
NamesRow (Ex.Binary o l r) = Unit {0}
NamesRow (Ex.Select r) = Unit {0}
NamesRow (Ex.Derivative r) = Unit {0}
NamesRow (Ex.Relational f r) = NamesRelated f
NamesRow Ex.Math = ⊥
NamesRow (Ex.As r k w) = Unit {0}
NamesRow (Ex.CallResult i) = ⊥
NamesRow (Ex.AtomicResult t) = ⊥
NamesRow (Ex.WorkGroupUniformLoadResult t) = ⊥
NamesRow Ex.ArrayLength = ⊥
NamesRow Ex.RayQueryVertexPositions = ⊥
NamesRow Ex.RayQueryProceedResult = ⊥
NamesRow Ex.RayQueryGetIntersection = ⊥
NamesRow Ex.SubgroupBallotResult = ⊥
NamesRow (Ex.SubgroupOperationResult t) = ⊥
NamesRow (Ex.CooperativeLoad c r o n) = Unit {0}
NamesRow (Ex.CooperativeMultiplyAdd r) = Unit {0}

abbrev pub FormNamesRow : Option Expression → Type 0
FormNamesRow (Some e) = NamesRow e
FormNamesRow None = ⊥

module _ (m : Moves) (s t : Starts) (to : InPlace m s t) where
  -- an earlier type and a type, in the second
  type-named : (b : TypeNumber) → is_type s b ≡ true → is_type t (type_to m b) ≡ true
  type-named b h = lt-ltb (m.types b.0) (type_count t) (to.type-in b.0 (ltb-true b.0 (type_count s) h))

  size-named : (z : ArraySize) → size_names s z ≡ true → size_names t (size_to m z) ≡ true
  size-named (As.Constant n) h = refl
  size-named (As.Pending o) h = lt-ltb (m.overrides o.0) (override_count t)
      (to.override-in o.0 (ltb-true o.0 (override_count s) h))
  size-named As.Dynamic h = refl

  module _ (n : TypeNumber) where
    earlier-named : (b : TypeNumber) → ltb b.0 n.0 ≡ true → ltb (m.types b.0) (m.types n.0) ≡ true
    earlier-named b h = lt-ltb (m.types b.0) (m.types n.0)
        (to.type-rises b.0 n.0 (ltb-true b.0 n.0 h))

    array-named : (b : TypeNumber) (z : ArraySize) → (ltb b.0 n.0 && size_names s z) ≡ true
        → (ltb (m.types b.0) (m.types n.0) && size_names t (size_to m z)) ≡ true
    array-named b z h = rw (earlier-named b (and_first (ltb b.0 n.0) (size_names s z) h))
        (size-named z (and_second (ltb b.0 n.0) (size_names s z) h))

    inner-named : (x : TypeInner) → type_names s n x ≡ true → type_names t (type_to m n) (inner_to m x) ≡ true
    inner-named (Ti.Scalar k) h = refl
    inner-named (Ti.Vector z k) h = refl
    inner-named (Ti.Matrix c j k) h = refl
    inner-named (Ti.CooperativeMatrix c j k o) h = refl
    inner-named (Ti.Atomic k) h = refl
    inner-named (Ti.Pointer b p) h = earlier-named b h
    inner-named (Ti.ValuePointer z k p) h = refl
    inner-named (Ti.Array b z x) h = array-named b z h
    inner-named (Ti.Struct f j x) h = le-leb (m.members f.0 + j) (member_count t)
        (to.member-range f.0 j (leb-true (f.0 + j) (member_count s) h))
    inner-named (Ti.Image d a c) h = refl
    inner-named (Ti.Sampler q) h = refl
    inner-named (Ti.AccelerationStructure q) h = refl
    inner-named (Ti.RayQuery q) h = refl
    inner-named (Ti.BindingArray b z) h = array-named b z h

    pub type-names-moved : (x : Option TypeInner) → type_form_names s n x ≡ true
        → type_form_names t (type_to m n) (type_form_to m x)
        ≡ true
    type-names-moved (Some x) h = inner-named x h
    type-names-moved None h = refl

  result-named : (r : Option TypeNumber) → result_names s r ≡ true → result_names t (function_to m r) ≡ true
  result-named (Some b) h = type-named b h
  result-named None h = refl

  pub item-names-moved : (x : Item) → item_names s x ≡ true → item_names t (item_to m x) ≡ true
  item-names-moved (It.Constant b) h = type-named b h
  item-names-moved (It.Override b) h = type-named b h
  item-names-moved (It.GlobalVariable b p) h = type-named b h
  item-names-moved (It.FunctionArgument b) h = type-named b h
  item-names-moved (It.LocalVariable b) h = type-named b h
  item-names-moved (It.Function r) h = result-named r h
  item-names-moved (It.RayIntersection b) h = type-named b h
  item-names-moved (It.RayVertexReturn b) h = type-named b h
  item-names-moved It.Unknown h = refl

  pub member-names-moved : (b : TypeNumber) → is_type s b ≡ true → is_type t (type_to m b) ≡ true
  member-names-moved b h = type-named b h

  module _ (n : RowNumber) where
    -- a row that n names is earlier in the second too
    abbrev Earlier : Type 0
    Earlier = (r : ℕ) → r < n.0 → m.rows r < m.rows n.0

    early : Earlier → (r : RowNumber) → is_earlier n r ≡ true → is_earlier (row_to m n) (row_to m r) ≡ true
    early e r h = lt-ltb (m.rows r.0) (m.rows n.0) (e r.0 (ltb-true r.0 n.0 h))

    query-named : (r : RowNumber) (q : ImageQuery) → (NamesQueried q → Earlier) → query_names n r q ≡ true
        → query_names (row_to m n) (queried_to m q r) q ≡ true
    query-named r Iq.Size e h = early (e tt) r h
    query-named r Iq.NumLevels e h = refl
    query-named r Iq.NumLayers e h = refl
    query-named r Iq.NumSamples e h = refl

    relational-named : (f : RelationalFunction) (r : RowNumber) → (NamesRelated f → Earlier) → relational_names n f r
        ≡ true → relational_names (row_to m n) f (related_to m f r) ≡ true
    relational-named Rl.All r e h = refl
    relational-named Rl.Any r e h = refl
    relational-named Rl.IsNan r e h = early (e tt) r h
    relational-named Rl.IsInf r e h = early (e tt) r h

    expression-named : (x : Expression) → (NamesRow x → Earlier) → row_names s n x ≡ true
        → row_names t (row_to m n) (expression_to m x) ≡ true
    expression-named (Ex.Literal l) e h = refl
    expression-named (Ex.Constant i) e h = lt-ltb _ _ (to.constant-in i.0 (ltb-true _ _ h))
    expression-named (Ex.Override i) e h = lt-ltb _ _ (to.override-in i.0 (ltb-true _ _ h))
    expression-named (Ex.ZeroValue b) e h = type-named b h
    expression-named (Ex.Compose b j c) e h =
        rw (type-named b (and_first (is_type s b) _ h))
        (le-leb _ _ (to.component-range c.0 j (leb-true _ _ (and_second (is_type s b) _ h))))
    expression-named (Ex.Access r) e h = early (e tt) r h
    expression-named (Ex.AccessIndex r i) e h = early (e tt) r h
    expression-named (Ex.Splat z r) e h = early (e tt) r h
    expression-named (Ex.Swizzle z r) e h = early (e tt) r h
    expression-named (Ex.FunctionArgument i) e h = refl
    expression-named (Ex.GlobalVariable i) e h = lt-ltb _ _ (to.global-in i.0 (ltb-true _ _ h))
    expression-named (Ex.LocalVariable i) e h = lt-ltb _ _ (to.local-in i.0 (ltb-true _ _ h))
    expression-named (Ex.Load r) e h = early (e tt) r h
    expression-named (Ex.ImageSample r g) e h = early (e tt) r h
    expression-named (Ex.ImageLoad r) e h = early (e tt) r h
    expression-named (Ex.ImageQuery r q) e h = query-named r q e h
    expression-named (Ex.Unary r) e h = early (e tt) r h
    expression-named (Ex.Binary o l r) e h = rw (early (e tt) l (and_first (is_earlier n l) _ h))
        (early (e tt) r (and_second (is_earlier n l) _ h))
    expression-named (Ex.Select r) e h = early (e tt) r h
    expression-named (Ex.Derivative r) e h = early (e tt) r h
    expression-named (Ex.Relational f r) e h = relational-named f r e h
    expression-named Ex.Math e h = refl
    expression-named (Ex.As r k w) e h = early (e tt) r h
    expression-named (Ex.CallResult i) e h = lt-ltb _ _ (to.function-in i.0 (ltb-true _ _ h))
    expression-named (Ex.AtomicResult b) e h = type-named b h
    expression-named (Ex.WorkGroupUniformLoadResult b) e h = type-named b h
    expression-named Ex.ArrayLength e h = refl
    expression-named Ex.RayQueryVertexPositions e h = refl
    expression-named Ex.RayQueryProceedResult e h = refl
    expression-named Ex.RayQueryGetIntersection e h = refl
    expression-named Ex.SubgroupBallotResult e h = refl
    expression-named (Ex.SubgroupOperationResult b) e h = type-named b h
    expression-named (Ex.CooperativeLoad c r o k) e h = early (e tt) k h
    expression-named (Ex.CooperativeMultiplyAdd r) e h = early (e tt) r h

    pub row-names-moved : (x : Option Expression) → (FormNamesRow x → Earlier) → row_form_names s n x ≡ true
        → row_form_names t (row_to m n) (row_form_to m x) ≡ true
    row-names-moved (Some x) e h = expression-named x e h
    row-names-moved None e h = refl
