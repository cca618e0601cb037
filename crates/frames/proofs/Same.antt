-- Two frames of one family that are within the values of their layouts, and that read as the same type, row, item,
-- member or component, are the same frame: what a frame reads as gives its kind and its layout's values again, and
-- these give the frame (FieldBack.antt).
use Rattle.ir.specs.declared.Expression.{Expression}
use Rattle.std.specs.Prelude.{Option, Some, None}
use Rattle.ir.specs.declared.TypeInner.{TypeInner}
use Prim.Native.Nat.{ℕ, ◌<◌}
use native.Mathlib.Decide.{dec_lt}
use native.Mathlib.Omega.{arith}
use mathlib.Core.Path.{◌≡◌, refl, sym, ap, ◌∙◌}
use mathlib.Core.Bool.{true}
use mathlib.Core.Logic.{inr}
use Rattle.ir.proofs.Numbered.{type_kind-number, item_kind-number, row_kind-number, unknown-type, unknown-item}
use Rattle.ir.proofs.Numbered.{unknown-row}
use Rattle.ir.specs.declared.TypeKind.{TypeKind}
use Rattle.ir.specs.declared.TypeKind.TheVariants as Tk
use Rattle.ir.specs.declared.ItemKind.{ItemKind}
use Rattle.ir.specs.declared.ItemKind.TheVariants as Ik
use Rattle.ir.specs.declared.RowKind.{RowKind}
use Rattle.ir.specs.declared.RowKind.TheVariants as Rk
use Rattle.ir.specs.Numbers.{type_kind_of, type_kind_number, item_kind_of, row_kind_of, row_kind_number}
use Rattle.ir.specs.ForProofs.{item_kind_number}
use Rattle.frames.specs.declared.Frame.{Frame}
use Rattle.frames.specs.Bytes.{byte, zero_frame}
use Rattle.frames.specs.Fields.{Layout, free, fields, Vals, read_all, fits_all, laid}
use Rattle.frames.specs.Layout.{type_layout, member_layout, item_layout, row_layout, component_layout}
use Rattle.frames.specs.Forms.{made_type, made_item, made_row, type_of, item_of, row_of, member_of, component_of}
use Rattle.frames.specs.Out.{type_frame}
use Rattle.frames.specs.ForProofs.{row_frame, item_frame, member_frame, component_frame}
use Rattle.frames.proofs.FieldBack.{Below, laid-back}

-- a layout that has fields
abbrev Fielded : Layout → Type 0
Fielded free = ⊥
Fielded (fields l) = Unit {0}

layout-back : (l : Layout) → Fielded l → (f : Frame) → Below f → fits_all l f ≡ true
    → laid (byte f 0) (byte f 1) l (read_all l f) ≡ f
layout-back free p f w h = absurd p
layout-back (fields l) p f w h = laid-back l f w h

-- TYPES

-- the frame that a known type is written as
abbrev pub form_frame : ℕ → Option TypeInner → Frame
form_frame family (Some t) = type_frame family t
form_frame family None = zero_frame

type-fielded : (k : TypeKind) → (k ≡ Tk.Unknown → ⊥) → Fielded (type_layout k)
type-fielded Tk.Unknown n = absurd (n refl)
type-fielded Tk.Scalar n = tt
type-fielded Tk.Vector n = tt
type-fielded Tk.Matrix n = tt
type-fielded Tk.CooperativeMatrix n = tt
type-fielded Tk.Atomic n = tt
type-fielded Tk.Pointer n = tt
type-fielded Tk.ValuePointer n = tt
type-fielded Tk.Array n = tt
type-fielded Tk.Struct n = tt
type-fielded Tk.Image n = tt
type-fielded Tk.Sampler n = tt
type-fielded Tk.AccelerationStructure n = tt
type-fielded Tk.RayQuery n = tt
type-fielded Tk.BindingArray n = tt

-- what a kind and its values make up gives them again
made-type : (k : TypeKind) → (k ≡ Tk.Unknown → ⊥) → (family : ℕ) (v : Vals (type_layout k))
    → form_frame family (made_type k v) ≡ laid family (type_kind_number k) (type_layout k) v
made-type Tk.Unknown n family v = absurd (n refl)
made-type Tk.Scalar n family v = refl
made-type Tk.Vector n family v = refl
made-type Tk.Matrix n family v = refl
made-type Tk.CooperativeMatrix n family v = refl
made-type Tk.Atomic n family v = refl
made-type Tk.Pointer n family v = refl
made-type Tk.ValuePointer n family v = refl
made-type Tk.Array n family v = refl
made-type Tk.Struct n family v = refl
made-type Tk.Image n family v = refl
made-type Tk.Sampler n family v = refl
made-type Tk.AccelerationStructure n family v = refl
made-type Tk.RayQuery n family v = refl
made-type Tk.BindingArray n family v = refl

type-below : (b : ℕ) → (type_kind_of b ≡ Tk.Unknown → ⊥) → b < 15
type-below b n = go (dec_lt b 15)
  where
    go : Dec (b < 15) → b < 15
    go (yes l) = l
    go (no l) = absurd (n ((unknown-type b).1 (inr (omega arith))))

-- a frame that fits, of a known kind, is what the type that it reads as is written as
pub type-again : (f : Frame) → Below f → (type_kind_of (byte f 1) ≡ Tk.Unknown → ⊥)
    → fits_all (type_layout (type_kind_of (byte f 1))) f ≡ true
    → form_frame (byte f 0) (type_of f) ≡ f
unfolding type_of
type-again f w n h =
    let k = type_kind_of (byte f 1) in
    made-type k n (byte f 0) (read_all (type_layout k) f)
    ∙ ap (λ (b : ℕ). laid (byte f 0) b (type_layout k) (read_all (type_layout k) f))
    (type_kind-number (byte f 1) (type-below (byte f 1) n))
    ∙ layout-back (type_layout k) (type-fielded k n) f w h

-- frames of one family that read as the same known type are the same
pub same-type : (f g : Frame) → Below f → Below g → byte f 0 ≡ byte g 0 → (type_kind_of (byte f 1) ≡ Tk.Unknown → ⊥)
    → (type_kind_of (byte g 1) ≡ Tk.Unknown → ⊥) → fits_all (type_layout (type_kind_of (byte f 1))) f ≡ true
    → fits_all (type_layout (type_kind_of (byte g 1))) g ≡ true → type_of f ≡ type_of g → f ≡ g
same-type f g v w e m n h q t =
    sym (type-again f v m h) ∙ ap (λ (b : ℕ). form_frame b (type_of f)) e ∙ ap (form_frame (byte g 0)) t
    ∙ type-again g w n q

-- ROWS

abbrev row_form_frame : ℕ → Option Expression → Frame
row_form_frame family (Some e) = row_frame family e
row_form_frame family None = zero_frame

-- a row's kind that has fields: neither unknown nor Math
abbrev pub Typed : RowKind → Type 0
Typed k = (k ≡ Rk.Unknown → ⊥) × (k ≡ Rk.Math → ⊥)

row-fielded : (k : RowKind) → Typed k → Fielded (row_layout k)
row-fielded Rk.Unknown n = absurd (n.0 refl)
row-fielded Rk.Math n = absurd (n.1 refl)
row-fielded Rk.Literal n = tt
row-fielded Rk.Constant n = tt
row-fielded Rk.Override n = tt
row-fielded Rk.ZeroValue n = tt
row-fielded Rk.Compose n = tt
row-fielded Rk.Access n = tt
row-fielded Rk.AccessIndex n = tt
row-fielded Rk.Splat n = tt
row-fielded Rk.Swizzle n = tt
row-fielded Rk.FunctionArgument n = tt
row-fielded Rk.GlobalVariable n = tt
row-fielded Rk.LocalVariable n = tt
row-fielded Rk.Load n = tt
row-fielded Rk.ImageSample n = tt
row-fielded Rk.ImageLoad n = tt
row-fielded Rk.ImageQuery n = tt
row-fielded Rk.Unary n = tt
row-fielded Rk.Binary n = tt
row-fielded Rk.Select n = tt
row-fielded Rk.Derivative n = tt
row-fielded Rk.Relational n = tt
row-fielded Rk.As n = tt
row-fielded Rk.CallResult n = tt
row-fielded Rk.AtomicResult n = tt
row-fielded Rk.WorkGroupUniformLoadResult n = tt
row-fielded Rk.ArrayLength n = tt
row-fielded Rk.RayQueryVertexPositions n = tt
row-fielded Rk.RayQueryProceedResult n = tt
row-fielded Rk.RayQueryGetIntersection n = tt
row-fielded Rk.SubgroupBallotResult n = tt
row-fielded Rk.SubgroupOperationResult n = tt
row-fielded Rk.CooperativeLoad n = tt
row-fielded Rk.CooperativeMultiplyAdd n = tt

made-row : (k : RowKind) → (k ≡ Rk.Unknown → ⊥) → (family : ℕ) (v : Vals (row_layout k))
    → row_form_frame family (made_row k v) ≡ laid family (row_kind_number k) (row_layout k) v
made-row Rk.Unknown n family v = absurd (n refl)
made-row Rk.Math n family v = refl
made-row Rk.Literal n family v = refl
made-row Rk.Constant n family v = refl
made-row Rk.Override n family v = refl
made-row Rk.ZeroValue n family v = refl
made-row Rk.Compose n family v = refl
made-row Rk.Access n family v = refl
made-row Rk.AccessIndex n family v = refl
made-row Rk.Splat n family v = refl
made-row Rk.Swizzle n family v = refl
made-row Rk.FunctionArgument n family v = refl
made-row Rk.GlobalVariable n family v = refl
made-row Rk.LocalVariable n family v = refl
made-row Rk.Load n family v = refl
made-row Rk.ImageSample n family v = refl
made-row Rk.ImageLoad n family v = refl
made-row Rk.ImageQuery n family v = refl
made-row Rk.Unary n family v = refl
made-row Rk.Binary n family v = refl
made-row Rk.Select n family v = refl
made-row Rk.Derivative n family v = refl
made-row Rk.Relational n family v = refl
made-row Rk.As n family v = refl
made-row Rk.CallResult n family v = refl
made-row Rk.AtomicResult n family v = refl
made-row Rk.WorkGroupUniformLoadResult n family v = refl
made-row Rk.ArrayLength n family v = refl
made-row Rk.RayQueryVertexPositions n family v = refl
made-row Rk.RayQueryProceedResult n family v = refl
made-row Rk.RayQueryGetIntersection n family v = refl
made-row Rk.SubgroupBallotResult n family v = refl
made-row Rk.SubgroupOperationResult n family v = refl
made-row Rk.CooperativeLoad n family v = refl
made-row Rk.CooperativeMultiplyAdd n family v = refl

row_below : (b : ℕ) → (row_kind_of b ≡ Rk.Unknown → ⊥) → b < 35
row_below b n = go (dec_lt b 35)
  where
    go : Dec (b < 35) → b < 35
    go (yes l) = l
    go (no l) = absurd (n ((unknown-row b).1 (inr (omega arith))))

row-again : (f : Frame) → Below f → Typed (row_kind_of (byte f 1))
    → fits_all (row_layout (row_kind_of (byte f 1))) f ≡ true
    → row_form_frame (byte f 0) (row_of f) ≡ f
unfolding row_of
row-again f w n h =
    let k = row_kind_of (byte f 1) in
    made-row k n.0 (byte f 0) (read_all (row_layout k) f)
    ∙ ap (λ (b : ℕ). laid (byte f 0) b (row_layout k) (read_all (row_layout k) f))
    (row_kind-number (byte f 1) (row_below (byte f 1) n.0))
    ∙ layout-back (row_layout k) (row-fielded k n) f w h

-- frames of one family that read as the same row, known and not Math, are the same
pub same_row : (f g : Frame) → Below f → Below g → byte f 0 ≡ byte g 0 → Typed (row_kind_of (byte f 1))
    → Typed (row_kind_of (byte g 1))
    → fits_all (row_layout (row_kind_of (byte f 1))) f ≡ true → fits_all (row_layout (row_kind_of (byte g 1))) g ≡ true
    → row_of f ≡ row_of g → f ≡ g
same_row f g v w e m n h q t =
    sym (row-again f v m h) ∙ ap (λ (b : ℕ). row_form_frame b (row_of f)) e ∙ ap (row_form_frame (byte g 0)) t
    ∙ row-again g w n q

-- ITEMS

item-fielded : (k : ItemKind) → (k ≡ Ik.Unknown → ⊥) → Fielded (item_layout k)
item-fielded Ik.Unknown n = absurd (n refl)
item-fielded Ik.Constant n = tt
item-fielded Ik.Override n = tt
item-fielded Ik.GlobalVariable n = tt
item-fielded Ik.FunctionArgument n = tt
item-fielded Ik.LocalVariable n = tt
item-fielded Ik.Function n = tt
item-fielded Ik.RayIntersection n = tt
item-fielded Ik.RayVertexReturn n = tt

made-item : (k : ItemKind) (family : ℕ) (v : Vals (item_layout k))
    → item_frame family (made_item k v) ≡ laid family (item_kind_number k) (item_layout k) v
made-item Ik.Unknown family v = refl
made-item Ik.Constant family v = refl
made-item Ik.Override family v = refl
made-item Ik.GlobalVariable family v = refl
made-item Ik.FunctionArgument family v = refl
made-item Ik.LocalVariable family v = refl
made-item Ik.Function family v = refl
made-item Ik.RayIntersection family v = refl
made-item Ik.RayVertexReturn family v = refl

item-below : (b : ℕ) → (item_kind_of b ≡ Ik.Unknown → ⊥) → b < 9
item-below b n = go (dec_lt b 9)
  where
    go : Dec (b < 9) → b < 9
    go (yes l) = l
    go (no l) = absurd (n ((unknown-item b).1 (inr (omega arith))))

item-again : (f : Frame) → Below f → (item_kind_of (byte f 1) ≡ Ik.Unknown → ⊥)
    → fits_all (item_layout (item_kind_of (byte f 1))) f ≡ true
    → item_frame (byte f 0) (item_of f) ≡ f
unfolding item_of
item-again f w n h =
    let k = item_kind_of (byte f 1) in
    made-item k (byte f 0) (read_all (item_layout k) f)
    ∙ ap (λ (b : ℕ). laid (byte f 0) b (item_layout k) (read_all (item_layout k) f))
    (item_kind-number (byte f 1) (item-below (byte f 1) n))
    ∙ layout-back (item_layout k) (item-fielded k n) f w h

-- frames of one family that read as the same item of a known kind are the same
pub same_item : (f g : Frame) → Below f → Below g → byte f 0 ≡ byte g 0 → (item_kind_of (byte f 1) ≡ Ik.Unknown → ⊥)
    → (item_kind_of (byte g 1) ≡ Ik.Unknown → ⊥) → fits_all (item_layout (item_kind_of (byte f 1))) f ≡ true
    → fits_all (item_layout (item_kind_of (byte g 1))) g ≡ true → item_of f ≡ item_of g → f ≡ g
same_item f g v w e m n h q t =
    sym (item-again f v m h) ∙ ap (λ (b : ℕ). item_frame b (item_of f)) e ∙ ap (item_frame (byte g 0)) t
    ∙ item-again g w n q

-- MEMBERS AND COMPONENTS

member-again : (f : Frame) → Below f → fits_all member_layout f ≡ true
    → member_frame (byte f 0) (byte f 1) (member_of f)
    ≡ f
unfolding member_of
member-again f w h = layout-back member_layout tt f w h

-- frames of one family and one kind that read as the same member are the same
pub same-member : (f g : Frame) → Below f → Below g → byte f 0 ≡ byte g 0 → byte f 1 ≡ byte g 1
    → fits_all member_layout f
    ≡ true
    → fits_all member_layout g ≡ true → member_of f ≡ member_of g → f ≡ g
same-member f g v w e k h q t =
    sym (member-again f v h) ∙ ap (λ (b : ℕ). member_frame b (byte f 1) (member_of f)) e
    ∙ ap (λ (b : ℕ). member_frame (byte g 0) b (member_of f)) k
    ∙ ap (member_frame (byte g 0) (byte g 1)) t
    ∙ member-again g w q

component-again : (f : Frame) → Below f → fits_all component_layout f ≡ true
    → component_frame (byte f 0) (byte f 1) (component_of f) ≡ f
unfolding component_of
component-again f w h = layout-back component_layout tt f w h

-- frames of one family and one kind that read as the same component are the same
pub same-component : (f g : Frame) → Below f → Below g → byte f 0 ≡ byte g 0 → byte f 1 ≡ byte g 1
    → fits_all component_layout f ≡ true
    → fits_all component_layout g ≡ true → component_of f ≡ component_of g → f ≡ g
same-component f g v w e k h q t =
    sym (component-again f v h) ∙ ap (λ (b : ℕ). component_frame b (byte f 1) (component_of f)) e
    ∙ ap (λ (b : ℕ). component_frame (byte g 0) b (component_of f)) k
    ∙ ap (component_frame (byte g 0) (byte g 1)) t
    ∙ component-again g w q
