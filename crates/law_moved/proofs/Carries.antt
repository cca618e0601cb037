-- A FILE CARRIED INTO ANOTHER: where each frame of the first stands in the second, and reads there with its numbers
-- moved. Asked of the types, members and items, and of the rows that are kept; so of a cut, and of both files of a
-- join. And what moving keeps of an item, of a type and of the tests on it.
use Rattle.std.specs.Prelude.{Option, Some, None}
use Prim.Native.Nat.{ℕ, zero, suc, ◌+◌, ◌≤◌, ◌<◌}
use native.Mathlib.Omega.{arith}
use mathlib.Core.Path.{◌≡◌, refl, sym, ap, ◌∙◌}
use mathlib.Core.Bool.{Bool, true, false}
use mathlib.Core.List.{List, [], ◌∷◌, ◌++◌, map}
use Rattle.ir.specs.declared.ArraySize.{ArraySize}
use Rattle.ir.specs.declared.ArraySize.TheVariants as As
use Rattle.ir.specs.declared.TypeInner.{TypeInner}
use Rattle.ir.specs.declared.TypeInner.TheVariants as Ti
use Rattle.ir.specs.declared.Item.{Item}
use Rattle.ir.specs.declared.Item.TheVariants as It
use Rattle.ir.specs.declared.Expression.TheVariants as Ex
use Rattle.frames.specs.declared.Frame.{Frame}
use Rattle.frames.specs.Bytes.{frame_at}
use Rattle.frames.specs.Forms.{type_of, item_of, row_of, member_of, component_of}
use Rattle.archive.specs.Starts.{starts_of, type_count, member_count, constant_count, override_count, global_count}
use Rattle.archive.specs.Starts.{local_count, function_count, row_count, component_count}
use Rattle.archive.specs.Access.{row_in}
use Rattle.rule.specs.declared.Fault.TheVariants as Fa
use Rattle.rule.specs.Things.{listed, item_type, item_space, item_result, maybe_item, is_count, in_range, array_fault}
use Rattle.rule.specs.Things.{is_struct_inner, is_struct_form}
use Rattle.law_moved.specs.Moves.{Moves, type_to, size_to, inner_to, maybe_to, function_to, type_form_to, member_to}
use Rattle.law_moved.specs.Moves.{item_to, row_form_to}

-- where the frames of a file stand in another, and what they read as there. `kept` are the rows that are carried.
pub record Carries (m : Moves) (kept : ℕ → Type 0) (fr gr : List ℕ) : Type 0 where
  pub type-in : (n : ℕ) → n < type_count (starts_of fr) → m.types n < type_count (starts_of gr)
  pub types : (n : ℕ) → n < type_count (starts_of fr) → type_of (frame_at gr (m.types n))
      ≡ type_form_to m (type_of (frame_at fr n))
  pub members : (n : ℕ) → n < member_count (starts_of fr)
      → member_of (frame_at gr ((starts_of gr).members + m.members n))
      ≡ member_to m (member_of (frame_at fr ((starts_of fr).members + n)))
  -- a struct's members stay together
  pub member-run : (n i : ℕ) → m.members (n + i) ≡ m.members n + i
  pub constants : (n : ℕ) → n < constant_count (starts_of fr)
      → item_of (frame_at gr ((starts_of gr).constants + m.constants n))
      ≡ item_to m (item_of (frame_at fr ((starts_of fr).constants + n)))
  pub override-in : (n : ℕ) → n < override_count (starts_of fr) → m.overrides n < override_count (starts_of gr)
  pub overrides : (n : ℕ) → n < override_count (starts_of fr)
      → item_of (frame_at gr ((starts_of gr).overrides + m.overrides n))
      ≡ item_to m (item_of (frame_at fr ((starts_of fr).overrides + n)))
  pub globals : (n : ℕ) → n < global_count (starts_of fr)
      → item_of (frame_at gr ((starts_of gr).globals + m.globals n))
      ≡ item_to m (item_of (frame_at fr ((starts_of fr).globals + n)))
  pub locals : (n : ℕ) → n < local_count (starts_of fr)
      → item_of (frame_at gr ((starts_of gr).locals + m.locals n))
      ≡ item_to m (item_of (frame_at fr ((starts_of fr).locals + n)))
  pub functions : (n : ℕ) → n < function_count (starts_of fr)
      → item_of (frame_at gr ((starts_of gr).functions + m.functions n))
      ≡ item_to m (item_of (frame_at fr ((starts_of fr).functions + n)))
  pub row-in : (n : ℕ) → kept n → n < row_count (starts_of fr) → m.rows n < row_count (starts_of gr)
  pub rows : (n : ℕ) → kept n → n < row_count (starts_of fr)
      → row_of (frame_at gr ((starts_of gr).rows + m.rows n))
      ≡ row_form_to m (row_of (frame_at fr ((starts_of fr).rows + n)))
  -- the argument that a kept row names, or that there is none
  pub arguments : (n i : ℕ) → kept n → row_in fr (starts_of fr) (record { 0 = n }) ≡ Some (Ex.FunctionArgument i)
      → maybe_item gr (starts_of gr).arguments (starts_of gr).locals (record { 0 = m.arguments i })
      ≡ maybe_to m (maybe_item fr (starts_of fr).arguments (starts_of fr).locals (record { 0 = i }))
  -- the special types
  pub intersection : maybe_item gr (starts_of gr).intersections (starts_of gr).vertex_returns (record { 0 = 0 })
      ≡ maybe_to m (maybe_item fr (starts_of fr).intersections (starts_of fr).vertex_returns (record { 0 = 0 }))
  pub vertex-return : maybe_item gr (starts_of gr).vertex_returns (starts_of gr).rows (record { 0 = 0 })
      ≡ maybe_to m (maybe_item fr (starts_of fr).vertex_returns (starts_of fr).rows (record { 0 = 0 }))
  -- the components of a compose of j of them from n on
  pub parts : (n j : ℕ) → n + j ≤ component_count (starts_of fr)
      → listed (λ (i : ℕ). component_of (frame_at gr ((starts_of gr).components + m.components n + i))) (m.counts j)
      ≡ m.parts (listed (λ (i : ℕ). component_of (frame_at fr ((starts_of fr).components + n + i))) j)

-- LISTS AND TESTS

pub map-append : {A B : Type 0} (f : A → B) (l k : List A) → map f (l ++ k) ≡ map f l ++ map f k
map-append f [] k = refl
map-append f (x ∷ l) k = ap (λ (z : List _). f x ∷ z) (map-append f l k)

pub listed-map : {A B : Type 0} (f : A → B) (a : ℕ → A) (b : ℕ → B) (n : ℕ) → ((i : ℕ) → i < n → b i ≡ f (a i))
    → listed b n ≡ map f (listed a n)
unfolding listed
listed-map f a b zero h = refl
listed-map f a b (suc n) h =
    ap (λ (z : List _). z ++ (b n ∷ [])) (listed-map f a b n (λ i l. h i (omega arith)))
    ∙ ap (λ (z : _). map f (listed a n) ++ (z ∷ [])) (h n (omega arith)) ∙ sym (map-append f (listed a n) (a n ∷ []))

pub never : {X : Type 0} → ◌≡◌ {A = ℕ} 0 1 → X
never z = absurd (omega arith)

pub range-sound : (b : Bool) → in_range b ≡ Fa.Sound → b ≡ true
range-sound true e = refl
range-sound false e = never (cc)

pub record ArraySound (a b c : Bool) : Type 0 where
  pub counted : a ≡ true
  pub based : b ≡ true
  pub sized : c ≡ true

pub array-sound : (a b c : Bool) → array_fault a b c ≡ Fa.Sound → ArraySound a b c
array-sound true true true e = record { counted = refl; based = refl; sized = refl }
array-sound true true false e = never (cc)
array-sound true false c e = never (cc)
array-sound false b c e = never (cc)

-- an item that names a type
abbrev pub HasType : Item → Type 0
HasType (It.Constant t) = Unit {0}
HasType (It.Override t) = Unit {0}
HasType (It.GlobalVariable t p) = Unit {0}
HasType (It.FunctionArgument t) = Unit {0}
HasType (It.LocalVariable t) = Unit {0}
HasType (It.RayIntersection t) = Unit {0}
HasType (It.RayVertexReturn t) = Unit {0}
HasType (It.Function r) = ⊥
HasType It.Unknown = ⊥

module _ (m : Moves) where
  type-to : (x : Item) → HasType x → item_type (item_to m x) ≡ type_to m (item_type x)
  type-to (It.Constant t) h = refl
  type-to (It.Override t) h = refl
  type-to (It.GlobalVariable t p) h = refl
  type-to (It.FunctionArgument t) h = refl
  type-to (It.LocalVariable t) h = refl
  type-to (It.RayIntersection t) h = refl
  type-to (It.RayVertexReturn t) h = refl
  type-to (It.Function r) h = absurd h
  type-to It.Unknown h = absurd h

  pub space-to : (x : Item) → item_space (item_to m x) ≡ item_space x
  space-to (It.Constant t) = refl
  space-to (It.Override t) = refl
  space-to (It.GlobalVariable t p) = refl
  space-to (It.FunctionArgument t) = refl
  space-to (It.LocalVariable t) = refl
  space-to (It.RayIntersection t) = refl
  space-to (It.RayVertexReturn t) = refl
  space-to (It.Function r) = refl
  space-to It.Unknown = refl

  pub result-to : (x : Item) → item_result (item_to m x) ≡ function_to m (item_result x)
  result-to (It.Constant t) = refl
  result-to (It.Override t) = refl
  result-to (It.GlobalVariable t p) = refl
  result-to (It.FunctionArgument t) = refl
  result-to (It.LocalVariable t) = refl
  result-to (It.RayIntersection t) = refl
  result-to (It.RayVertexReturn t) = refl
  result-to (It.Function r) = refl
  result-to It.Unknown = refl

  struct-to : (t : TypeInner) → is_struct_inner (inner_to m t) ≡ is_struct_inner t
  struct-to (Ti.Scalar k) = refl
  struct-to (Ti.Vector z k) = refl
  struct-to (Ti.Matrix c j k) = refl
  struct-to (Ti.CooperativeMatrix c j k o) = refl
  struct-to (Ti.Atomic k) = refl
  struct-to (Ti.Pointer b p) = refl
  struct-to (Ti.ValuePointer z k p) = refl
  struct-to (Ti.Array b z t) = refl
  struct-to (Ti.Struct f n t) = refl
  struct-to (Ti.Image d a c) = refl
  struct-to (Ti.Sampler q) = refl
  struct-to (Ti.AccelerationStructure q) = refl
  struct-to (Ti.RayQuery q) = refl
  struct-to (Ti.BindingArray b z) = refl

  pub struct-form-to : (t : Option TypeInner) → is_struct_form (type_form_to m t) ≡ is_struct_form t
  struct-form-to (Some t) = struct-to t
  struct-form-to None = refl

  pub count-to : (z : ArraySize) → is_count (size_to m z) ≡ is_count z
  count-to (As.Constant n) = refl
  count-to (As.Pending o) = refl
  count-to As.Dynamic = refl

  -- an item that names a type, with its type moved
  pub has-type : (f g : Frame) → HasType (item_of f) → item_of g ≡ item_to m (item_of f) → item_type (item_of g)
      ≡ type_to m (item_type (item_of f))
  has-type f g h e = ap item_type e ∙ type-to (item_of f) h
