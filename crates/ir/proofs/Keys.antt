-- An arm of a match that names several numbers, several cases, or `_`. There it is told that the number, or the tag of
-- the case, is one of a list; a function that has one value at each of the list has it there. Where the values compute,
-- `refl` shows that they are one.
use Prim.Native.Nat.{ℕ}
use mathlib.Core.Path.{◌≡◌, refl, sym, ap, ◌∙◌}
use mathlib.Core.List.{List, [], ◌∷◌, map}
use mathlib.Core.Logic.{◌⊎◌, inl, inr}
use types.Run.{OneOf}
use denote.Enum.Declared.{tag_of}
use Rattle.ir.specs.Numbers.{row_kind_of, type_kind_of, item_kind_of, relational_function_of, image_query_of}
use Rattle.ir.specs.Numbers.{storage_format_of}
use Rattle.ir.specs.declared.RowKind.{RowKind}
use Rattle.ir.specs.declared.RowKind.TheVariants as Rk
use Rattle.ir.specs.contracts.RowKind as RowKind'
use Rattle.ir.specs.declared.TypeKind.{TypeKind}
use Rattle.ir.specs.declared.TypeKind.TheVariants as Tk
use Rattle.ir.specs.contracts.TypeKind as TypeKind'
use Rattle.ir.specs.declared.ItemKind.{ItemKind}
use Rattle.ir.specs.declared.ItemKind.TheVariants as Ik
use Rattle.ir.specs.contracts.ItemKind as ItemKind'
use Rattle.ir.specs.declared.RelationalFunction.{RelationalFunction}
use Rattle.ir.specs.declared.RelationalFunction.TheVariants as Rf
use Rattle.ir.specs.contracts.RelationalFunction as RelationalFunction'
use Rattle.ir.specs.declared.StorageFormat.{StorageFormat}
use Rattle.ir.specs.declared.StorageFormat.TheVariants as Sf
use Rattle.ir.specs.contracts.StorageFormat as StorageFormat'
use Rattle.ir.specs.declared.ImageQuery.{ImageQuery}
use Rattle.ir.specs.declared.ImageQuery.TheVariants as Iq
use Rattle.ir.specs.contracts.ImageQuery as ImageQuery'

abbrev the : {B : Type 0} → B → List B → B
the d [] = d
the d (x ∷ xs) = x

abbrev rest : {B : Type 0} → List B → List B
rest [] = []
rest (x ∷ xs) = xs

-- a function that has one value at each number of the list has it at a number that is one of them
pub of-keys : {B : Type 0} (f : ℕ → B) {b : B} (ks : List ℕ) → map f ks ≡ map (λ (k : ℕ). b) ks → (x : ℕ) → OneOf ks x
    → b ≡ f x
of-keys f [] e x h = absurd h
of-keys f {b} (k ∷ []) e x h = ap (the b) (sym e) ∙ ap f (sym h)
of-keys f {b} (k ∷ k' ∷ ks) e x (inl h) = ap (the b) (sym e) ∙ ap f (sym h)
of-keys f (k ∷ k' ∷ ks) e x (inr h) = of-keys f (k' ∷ ks) (ap rest e) x h

-- the same of the cases of an enum, by their tags

row_kind-tag : (a : RowKind) → row_kind_of (tag_of RowKind'.the_type a) ≡ a
row_kind-tag Rk.Unknown = refl
row_kind-tag Rk.Literal = refl
row_kind-tag Rk.Constant = refl
row_kind-tag Rk.Override = refl
row_kind-tag Rk.ZeroValue = refl
row_kind-tag Rk.Compose = refl
row_kind-tag Rk.Access = refl
row_kind-tag Rk.AccessIndex = refl
row_kind-tag Rk.Splat = refl
row_kind-tag Rk.Swizzle = refl
row_kind-tag Rk.FunctionArgument = refl
row_kind-tag Rk.GlobalVariable = refl
row_kind-tag Rk.LocalVariable = refl
row_kind-tag Rk.Load = refl
row_kind-tag Rk.ImageSample = refl
row_kind-tag Rk.ImageLoad = refl
row_kind-tag Rk.ImageQuery = refl
row_kind-tag Rk.Unary = refl
row_kind-tag Rk.Binary = refl
row_kind-tag Rk.Select = refl
row_kind-tag Rk.Derivative = refl
row_kind-tag Rk.Relational = refl
row_kind-tag Rk.Math = refl
row_kind-tag Rk.As = refl
row_kind-tag Rk.CallResult = refl
row_kind-tag Rk.AtomicResult = refl
row_kind-tag Rk.WorkGroupUniformLoadResult = refl
row_kind-tag Rk.ArrayLength = refl
row_kind-tag Rk.RayQueryVertexPositions = refl
row_kind-tag Rk.RayQueryProceedResult = refl
row_kind-tag Rk.RayQueryGetIntersection = refl
row_kind-tag Rk.SubgroupBallotResult = refl
row_kind-tag Rk.SubgroupOperationResult = refl
row_kind-tag Rk.CooperativeLoad = refl
row_kind-tag Rk.CooperativeMultiplyAdd = refl

pub of-row-kinds : {B : Type 0} (f : RowKind → B) {b : B} (ks : List ℕ) → map (λ (k : ℕ). f (row_kind_of k)) ks
    ≡ map (λ (k : ℕ). b) ks
    → (a : RowKind) → OneOf ks (tag_of RowKind'.the_type a) → b ≡ f a
of-row-kinds f ks e a h =
    of-keys (λ (k : ℕ). f (row_kind_of k)) ks e (tag_of RowKind'.the_type a) h ∙ ap f (row_kind-tag a)

type_kind-tag : (a : TypeKind) → type_kind_of (tag_of TypeKind'.the_type a) ≡ a
type_kind-tag Tk.Unknown = refl
type_kind-tag Tk.Scalar = refl
type_kind-tag Tk.Vector = refl
type_kind-tag Tk.Matrix = refl
type_kind-tag Tk.CooperativeMatrix = refl
type_kind-tag Tk.Atomic = refl
type_kind-tag Tk.Pointer = refl
type_kind-tag Tk.ValuePointer = refl
type_kind-tag Tk.Array = refl
type_kind-tag Tk.Struct = refl
type_kind-tag Tk.Image = refl
type_kind-tag Tk.Sampler = refl
type_kind-tag Tk.AccelerationStructure = refl
type_kind-tag Tk.RayQuery = refl
type_kind-tag Tk.BindingArray = refl

pub of-type-kinds : {B : Type 0} (f : TypeKind → B) {b : B} (ks : List ℕ) → map (λ (k : ℕ). f (type_kind_of k)) ks
    ≡ map (λ (k : ℕ). b) ks
    → (a : TypeKind) → OneOf ks (tag_of TypeKind'.the_type a) → b ≡ f a
of-type-kinds f ks e a h = of-keys (λ (k : ℕ). f (type_kind_of k)) ks e (tag_of TypeKind'.the_type a) h
    ∙ ap f (type_kind-tag a)

item_kind-tag : (a : ItemKind) → item_kind_of (tag_of ItemKind'.the_type a) ≡ a
item_kind-tag Ik.Unknown = refl
item_kind-tag Ik.Constant = refl
item_kind-tag Ik.Override = refl
item_kind-tag Ik.GlobalVariable = refl
item_kind-tag Ik.FunctionArgument = refl
item_kind-tag Ik.LocalVariable = refl
item_kind-tag Ik.Function = refl
item_kind-tag Ik.RayIntersection = refl
item_kind-tag Ik.RayVertexReturn = refl

pub of-item-kinds : {B : Type 0} (f : ItemKind → B) {b : B} (ks : List ℕ) → map (λ (k : ℕ). f (item_kind_of k)) ks
    ≡ map (λ (k : ℕ). b) ks
    → (a : ItemKind) → OneOf ks (tag_of ItemKind'.the_type a) → b ≡ f a
of-item-kinds f ks e a h = of-keys (λ (k : ℕ). f (item_kind_of k)) ks e (tag_of ItemKind'.the_type a) h
    ∙ ap f (item_kind-tag a)

relational_function-tag : (a : RelationalFunction) → relational_function_of (tag_of RelationalFunction'.the_type a) ≡ a
relational_function-tag Rf.All = refl
relational_function-tag Rf.Any = refl
relational_function-tag Rf.IsNan = refl
relational_function-tag Rf.IsInf = refl

pub of-relational-functions : {B : Type 0} (f : RelationalFunction → B) {b : B} (ks : List ℕ)
    → map (λ (k : ℕ). f (relational_function_of k)) ks ≡ map (λ (k : ℕ). b) ks → (a : RelationalFunction)
    → OneOf ks (tag_of RelationalFunction'.the_type a) → b ≡ f a
of-relational-functions f ks e a h =
    of-keys (λ (k : ℕ). f (relational_function_of k)) ks e (tag_of RelationalFunction'.the_type a) h
    ∙ ap f (relational_function-tag a)

image_query-tag : (a : ImageQuery) → image_query_of (tag_of ImageQuery'.the_type a) ≡ a
image_query-tag Iq.Size = refl
image_query-tag Iq.NumLevels = refl
image_query-tag Iq.NumLayers = refl
image_query-tag Iq.NumSamples = refl

pub of-image-queries : {B : Type 0} (f : ImageQuery → B) {b : B} (ks : List ℕ)
    → map (λ (k : ℕ). f (image_query_of k)) ks ≡ map (λ (k : ℕ). b) ks → (a : ImageQuery)
    → OneOf ks (tag_of ImageQuery'.the_type a) → b ≡ f a
of-image-queries f ks e a h = of-keys (λ (k : ℕ). f (image_query_of k)) ks e (tag_of ImageQuery'.the_type a) h
    ∙ ap f (image_query-tag a)

format-tag : (a : StorageFormat) → storage_format_of (tag_of StorageFormat'.the_type a) ≡ a
format-tag Sf.R8Unorm = refl
format-tag Sf.R8Snorm = refl
format-tag Sf.R8Uint = refl
format-tag Sf.R8Sint = refl
format-tag Sf.R16Uint = refl
format-tag Sf.R16Sint = refl
format-tag Sf.R16Float = refl
format-tag Sf.Rg8Unorm = refl
format-tag Sf.Rg8Snorm = refl
format-tag Sf.Rg8Uint = refl
format-tag Sf.Rg8Sint = refl
format-tag Sf.R32Uint = refl
format-tag Sf.R32Sint = refl
format-tag Sf.R32Float = refl
format-tag Sf.Rg16Uint = refl
format-tag Sf.Rg16Sint = refl
format-tag Sf.Rg16Float = refl
format-tag Sf.Rgba8Unorm = refl
format-tag Sf.Rgba8Snorm = refl
format-tag Sf.Rgba8Uint = refl
format-tag Sf.Rgba8Sint = refl
format-tag Sf.Bgra8Unorm = refl
format-tag Sf.Rgb10a2Uint = refl
format-tag Sf.Rgb10a2Unorm = refl
format-tag Sf.Rg11b10Ufloat = refl
format-tag Sf.R64Uint = refl
format-tag Sf.Rg32Uint = refl
format-tag Sf.Rg32Sint = refl
format-tag Sf.Rg32Float = refl
format-tag Sf.Rgba16Uint = refl
format-tag Sf.Rgba16Sint = refl
format-tag Sf.Rgba16Float = refl
format-tag Sf.Rgba32Uint = refl
format-tag Sf.Rgba32Sint = refl
format-tag Sf.Rgba32Float = refl
format-tag Sf.R16Unorm = refl
format-tag Sf.R16Snorm = refl
format-tag Sf.Rg16Unorm = refl
format-tag Sf.Rg16Snorm = refl
format-tag Sf.Rgba16Unorm = refl
format-tag Sf.Rgba16Snorm = refl

pub of-formats : {B : Type 0} (f : StorageFormat → B) {b : B} (ks : List ℕ)
    → map (λ (k : ℕ). f (storage_format_of k)) ks ≡ map (λ (k : ℕ). b) ks → (a : StorageFormat)
    → OneOf ks (tag_of StorageFormat'.the_type a) → b ≡ f a
of-formats f ks e a h = of-keys (λ (k : ℕ). f (storage_format_of k)) ks e (tag_of StorageFormat'.the_type a) h
    ∙ ap f (format-tag a)
