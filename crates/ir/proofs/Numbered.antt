-- The rule of each table of numbers: the case at number k has number k again, by one computed test over the table; a
-- case's number gives the case again, case by case.
use Prim.Native.Nat.{ℕ, ◌+◌, ◌-◌, ◌≤◌, ◌<◌}
use native.Mathlib.Nat.{zero-add}
use native.Mathlib.Omega.{arith}
use mathlib.Core.Path.{◌≡◌, refl, sym, ap, ◌∙◌}
use mathlib.Core.Bool.{Bool, true, false, ◌||◌}
use mathlib.Core.List.{List, map}
use mathlib.Core.Logic.{◌⊎◌, inl, inr, ◌↔◌}
use native.Mathlib.Decide.{dec_le}
use lib.Dec.{eqb}
use borrow.Author.Tests.{eqb-true}
use lib.ListN.{length, get_or, get_or-eq_default}
use Rattle.ir.proofs.Tables.{up_from, at_place}
use Rattle.ir.specs.Numbers.{type_kinds, type_kind_of, type_kind_number, item_kinds, item_kind_of, row_kinds}
use Rattle.ir.specs.Numbers.{row_kind_of}
use Rattle.ir.specs.Numbers.{row_kind_number, vector_sizes, vector_size_of, vector_size_number, cooperative_roles}
use Rattle.ir.specs.Numbers.{cooperative_role_of, cooperative_role_number, scalar_kinds, scalar_kind_of}
use Rattle.ir.specs.Numbers.{scalar_kind_number, image_dimensions, image_dimension_of, image_dimension_number}
use Rattle.ir.specs.Numbers.{storage_formats, storage_format_of, storage_format_number, literals, literal_of}
use Rattle.ir.specs.Numbers.{literal_number, binary_operators, binary_operator_of, binary_operator_number}
use Rattle.ir.specs.Numbers.{relational_functions, relational_function_of, relational_function_number, image_queries}
use Rattle.ir.specs.Numbers.{image_query_of, image_query_number, cooperative_size_of, cooperative_size_number, is_width}
use Rattle.ir.specs.Numbers.{width_of, width_number, flag_of, flag_number, access_of, access_number, space_of}
use Rattle.ir.specs.Numbers.{space_number, space_access}
use Rattle.ir.specs.ForProofs.{item_kind_number}
use Rattle.ir.specs.declared.AddressSpace.{AddressSpace}
use Rattle.ir.specs.declared.BinaryOperator.{BinaryOperator}
use Rattle.ir.specs.declared.CooperativeRole.{CooperativeRole}
use Rattle.ir.specs.declared.CooperativeSize.{CooperativeSize}
use Rattle.ir.specs.declared.ImageDimension.{ImageDimension}
use Rattle.ir.specs.declared.ImageQuery.{ImageQuery}
use Rattle.ir.specs.declared.ItemKind.{ItemKind}
use Rattle.ir.specs.declared.Literal.{Literal}
use Rattle.ir.specs.declared.RelationalFunction.{RelationalFunction}
use Rattle.ir.specs.declared.RowKind.{RowKind}
use Rattle.ir.specs.declared.ScalarKind.{ScalarKind}
use Rattle.ir.specs.declared.StorageAccess.{StorageAccess}
use Rattle.ir.specs.declared.StorageFormat.{StorageFormat}
use Rattle.ir.specs.declared.TypeKind.{TypeKind}
use Rattle.ir.specs.declared.VectorSize.{VectorSize}
use Rattle.ir.specs.declared.Width.{Width}
use Rattle.ir.specs.declared.AddressSpace.TheVariants as AddressSpace'
use Rattle.ir.specs.declared.BinaryOperator.TheVariants as BinaryOperator'
use Rattle.ir.specs.declared.CooperativeRole.TheVariants as CooperativeRole'
use Rattle.ir.specs.declared.CooperativeSize.TheVariants as CooperativeSize'
use Rattle.ir.specs.declared.ImageDimension.TheVariants as ImageDimension'
use Rattle.ir.specs.declared.ImageQuery.TheVariants as ImageQuery'
use Rattle.ir.specs.declared.ItemKind.TheVariants as ItemKind'
use Rattle.ir.specs.declared.Literal.TheVariants as Literal'
use Rattle.ir.specs.declared.RelationalFunction.TheVariants as RelationalFunction'
use Rattle.ir.specs.declared.RowKind.TheVariants as RowKind'
use Rattle.ir.specs.declared.ScalarKind.TheVariants as ScalarKind'
use Rattle.ir.specs.declared.StorageFormat.TheVariants as StorageFormat'
use Rattle.ir.specs.declared.TypeKind.TheVariants as TypeKind'
use Rattle.ir.specs.declared.VectorSize.TheVariants as VectorSize'
use Rattle.ir.specs.declared.Width.TheVariants as Width'

-- the rule of a table whose cases are numbered from b on
numbered : {A : Type 0} (num : A → ℕ) (d : A) (l : List A) (b : ℕ) → map num l ≡ up_from b (length l) → (k : ℕ) → b ≤ k
    → k < b + length l
    → num (get_or l (k - b) d) ≡ k
numbered num d l b e k h g = at_place num d l b e (k - b) (omega arith) ∙ omega arith

numbered₀ : {A : Type 0} (num : A → ℕ) (d : A) (l : List A) → map num l ≡ up_from 0 (length l) → (k : ℕ) → k < length l
    → num (get_or l k d) ≡ k
numbered₀ num d l e k h = at_place num d l 0 e k h ∙ zero-add k

pub type_kind-number : (k : ℕ) → k < 15 → type_kind_number (type_kind_of k) ≡ k
type_kind-number k h = numbered₀ type_kind_number TypeKind'.Unknown type_kinds refl k h

pub item_kind-number : (k : ℕ) → k < 9 → item_kind_number (item_kind_of k) ≡ k
item_kind-number k h = numbered₀ item_kind_number ItemKind'.Unknown item_kinds refl k h

pub row_kind-number : (k : ℕ) → k < 35 → row_kind_number (row_kind_of k) ≡ k
row_kind-number k h = numbered₀ row_kind_number RowKind'.Unknown row_kinds refl k h

pub vector_size-number : (k : ℕ) → 2 ≤ k → k < 5 → vector_size_number (vector_size_of k) ≡ k
vector_size-number k h g = numbered vector_size_number VectorSize'.Bi vector_sizes 2 refl k h g

pub cooperative_role-number : (k : ℕ) → k < 3 → cooperative_role_number (cooperative_role_of k) ≡ k
cooperative_role-number k h = numbered₀ cooperative_role_number CooperativeRole'.A cooperative_roles refl k h

pub scalar_kind-number : (k : ℕ) → k < 6 → scalar_kind_number (scalar_kind_of k) ≡ k
scalar_kind-number k h = numbered₀ scalar_kind_number ScalarKind'.Sint scalar_kinds refl k h

pub image_dimension-number : (k : ℕ) → 1 ≤ k → k < 5 → image_dimension_number (image_dimension_of k) ≡ k
image_dimension-number k h g = numbered image_dimension_number ImageDimension'.D1 image_dimensions 1 refl k h g

pub storage_format-number : (k : ℕ) → k < 41 → storage_format_number (storage_format_of k) ≡ k
storage_format-number k h = numbered₀ storage_format_number StorageFormat'.R8Unorm storage_formats refl k h

pub literal-number : (k : ℕ) → k < 12 → literal_number (literal_of k) ≡ k
literal-number k h = numbered₀ literal_number Literal'.F64 literals refl k h

pub binary_operator-number : (k : ℕ) → k < 18 → binary_operator_number (binary_operator_of k) ≡ k
binary_operator-number k h = numbered₀ binary_operator_number BinaryOperator'.Add binary_operators refl k h

pub relational_function-number : (k : ℕ) → k < 4 → relational_function_number (relational_function_of k) ≡ k
relational_function-number k h =
    numbered₀ relational_function_number RelationalFunction'.All relational_functions refl k h

pub image_query-number : (k : ℕ) → k < 4 → image_query_number (image_query_of k) ≡ k
image_query-number k h = numbered₀ image_query_number ImageQuery'.Size image_queries refl k h

pub vector_size-back : (e : VectorSize) → vector_size_of (vector_size_number e) ≡ e
vector_size-back VectorSize'.Bi = refl
vector_size-back VectorSize'.Tri = refl
vector_size-back VectorSize'.Quad = refl

pub cooperative_role-back : (e : CooperativeRole) → cooperative_role_of (cooperative_role_number e) ≡ e
cooperative_role-back CooperativeRole'.A = refl
cooperative_role-back CooperativeRole'.B = refl
cooperative_role-back CooperativeRole'.C = refl

pub scalar_kind-back : (e : ScalarKind) → scalar_kind_of (scalar_kind_number e) ≡ e
scalar_kind-back ScalarKind'.Sint = refl
scalar_kind-back ScalarKind'.Uint = refl
scalar_kind-back ScalarKind'.Float = refl
scalar_kind-back ScalarKind'.Bool = refl
scalar_kind-back ScalarKind'.AbstractInt = refl
scalar_kind-back ScalarKind'.AbstractFloat = refl

pub image_dimension-back : (e : ImageDimension) → image_dimension_of (image_dimension_number e) ≡ e
image_dimension-back ImageDimension'.D1 = refl
image_dimension-back ImageDimension'.D2 = refl
image_dimension-back ImageDimension'.D3 = refl
image_dimension-back ImageDimension'.Cube = refl

pub storage_format-back : (e : StorageFormat) → storage_format_of (storage_format_number e) ≡ e
storage_format-back StorageFormat'.R8Unorm = refl
storage_format-back StorageFormat'.R8Snorm = refl
storage_format-back StorageFormat'.R8Uint = refl
storage_format-back StorageFormat'.R8Sint = refl
storage_format-back StorageFormat'.R16Uint = refl
storage_format-back StorageFormat'.R16Sint = refl
storage_format-back StorageFormat'.R16Float = refl
storage_format-back StorageFormat'.Rg8Unorm = refl
storage_format-back StorageFormat'.Rg8Snorm = refl
storage_format-back StorageFormat'.Rg8Uint = refl
storage_format-back StorageFormat'.Rg8Sint = refl
storage_format-back StorageFormat'.R32Uint = refl
storage_format-back StorageFormat'.R32Sint = refl
storage_format-back StorageFormat'.R32Float = refl
storage_format-back StorageFormat'.Rg16Uint = refl
storage_format-back StorageFormat'.Rg16Sint = refl
storage_format-back StorageFormat'.Rg16Float = refl
storage_format-back StorageFormat'.Rgba8Unorm = refl
storage_format-back StorageFormat'.Rgba8Snorm = refl
storage_format-back StorageFormat'.Rgba8Uint = refl
storage_format-back StorageFormat'.Rgba8Sint = refl
storage_format-back StorageFormat'.Bgra8Unorm = refl
storage_format-back StorageFormat'.Rgb10a2Uint = refl
storage_format-back StorageFormat'.Rgb10a2Unorm = refl
storage_format-back StorageFormat'.Rg11b10Ufloat = refl
storage_format-back StorageFormat'.R64Uint = refl
storage_format-back StorageFormat'.Rg32Uint = refl
storage_format-back StorageFormat'.Rg32Sint = refl
storage_format-back StorageFormat'.Rg32Float = refl
storage_format-back StorageFormat'.Rgba16Uint = refl
storage_format-back StorageFormat'.Rgba16Sint = refl
storage_format-back StorageFormat'.Rgba16Float = refl
storage_format-back StorageFormat'.Rgba32Uint = refl
storage_format-back StorageFormat'.Rgba32Sint = refl
storage_format-back StorageFormat'.Rgba32Float = refl
storage_format-back StorageFormat'.R16Unorm = refl
storage_format-back StorageFormat'.R16Snorm = refl
storage_format-back StorageFormat'.Rg16Unorm = refl
storage_format-back StorageFormat'.Rg16Snorm = refl
storage_format-back StorageFormat'.Rgba16Unorm = refl
storage_format-back StorageFormat'.Rgba16Snorm = refl

pub cooperative_size-back : (e : CooperativeSize) → cooperative_size_of (cooperative_size_number e) ≡ e
cooperative_size-back CooperativeSize'.Eight = refl
cooperative_size-back CooperativeSize'.Sixteen = refl

pub width_back : (e : Width) → width_of (width_number e) ≡ e
width_back Width'.One = refl
width_back Width'.Two = refl
width_back Width'.Four = refl
width_back Width'.Eight = refl

-- every width has a number that a width may have, and each of these is the number of the width that it is read as
pub width_one : (w : Width) → is_width (width_number w) ≡ true
width_one Width'.One = refl
width_one Width'.Two = refl
width_one Width'.Four = refl
width_one Width'.Eight = refl

pub width-number : (k : ℕ) → is_width k ≡ true → width_number (width_of k) ≡ k
width-number k h = first (eqb k 1) (eqb k 2) (eqb k 4) (eqb k 8) refl refl refl refl h
  where
    first : (p q r s : Bool) → eqb k 1 ≡ p → eqb k 2 ≡ q → eqb k 4 ≡ r → eqb k 8 ≡ s → (p || (q || (r || s))) ≡ true
        → width_number (width_of k) ≡ k
    first true q r s e1 e2 e4 e8 t = rw (eqb-true k 1 e1)
    first false true r s e1 e2 e4 e8 t = rw (eqb-true k 2 e2)
    first false false true s e1 e2 e4 e8 t = rw (eqb-true k 4 e4)
    first false false false true e1 e2 e4 e8 t = rw (eqb-true k 8 e8)
    first false false false false e1 e2 e4 e8 t = cc

pub flag-back : (q : Bool) → flag_of (flag_number q) ≡ q
flag-back true = refl
flag-back false = refl

access-of : (l s a : Bool)
    → access_of (access_number (record { load = l; store = s; atomic = a }))
    ≡ record { load = l; store = s; atomic = a }
access-of true true true = refl
access-of true true false = refl
access-of true false true = refl
access-of true false false = refl
access-of false true true = refl
access-of false true false = refl
access-of false false true = refl
access-of false false false = refl

pub access-back : (a : StorageAccess) → access_of (access_number a) ≡ a
access-back a = access-of a.load a.store a.atomic

pub space-back : (p : AddressSpace) → space_of (space_number p) (space_access p) ≡ p
space-back AddressSpace'.Function = refl
space-back AddressSpace'.Private = refl
space-back AddressSpace'.WorkGroup = refl
space-back AddressSpace'.Uniform = refl
space-back (AddressSpace'.Storage a) = ap AddressSpace'.Storage (access-back a)
space-back AddressSpace'.Handle = refl
space-back AddressSpace'.Immediate = refl
space-back AddressSpace'.TaskPayload = refl
space-back AddressSpace'.RayPayload = refl
space-back AddressSpace'.IncomingRayPayload = refl

-- the first case stands for the numbers outside 1 to n: it is given exactly there
first-case : {A : Type 0} (num : A → ℕ) (d : A) (l : List A) → map num l ≡ up_from 0 (length l) → num d ≡ 0 → (k : ℕ)
    → get_or l k d ≡ d
    → (k ≡ 0) ⊎ (length l ≤ k)
first-case num d l e z k h = go (dec_le (length l) k)
  where
    go : Dec (length l ≤ k) → (k ≡ 0) ⊎ (length l ≤ k)
    go (yes le) = inr le
    go (no nle) = inl (sym (numbered₀ num d l e k (omega arith)) ∙ ap num h ∙ z)

outside-cases : {A : Type 0} (d : A) (l : List A) → get_or l 0 d ≡ d → (k : ℕ) → (k ≡ 0) ⊎ (length l ≤ k)
    → get_or l k d ≡ d
outside-cases d l e k (inl z) = rw z e
outside-cases d l e k (inr le) = get_or-eq_default l d {n = k} le

-- a type's kind is unknown exactly when its number is outside 1 to 14
pub unknown-type : (k : ℕ) → (type_kind_of k ≡ TypeKind'.Unknown) ↔ ((k ≡ 0) ⊎ (15 ≤ k))
unknown-type k = (
  first-case type_kind_number TypeKind'.Unknown type_kinds refl refl k,
  outside-cases TypeKind'.Unknown type_kinds refl k,
)

-- an item's exactly when it is outside 1 to 8
pub unknown-item : (k : ℕ) → (item_kind_of k ≡ ItemKind'.Unknown) ↔ ((k ≡ 0) ⊎ (9 ≤ k))
unknown-item k = (
  first-case item_kind_number ItemKind'.Unknown item_kinds refl refl k,
  outside-cases ItemKind'.Unknown item_kinds refl k,
)

-- a row's exactly when it is outside 1 to 34
pub unknown-row : (k : ℕ) → (row_kind_of k ≡ RowKind'.Unknown) ↔ ((k ≡ 0) ⊎ (35 ≤ k))
unknown-row k = (
  first-case row_kind_number RowKind'.Unknown row_kinds refl refl k,
  outside-cases RowKind'.Unknown row_kinds refl k,
)
