-- What a reading comes to, and what each thing shows in a file (document 01, "A row's type"). Newer are exactly a row
-- of unknown kind, a Math row and a type of unknown kind (document 02, request 1).
use Rattle.ir.specs.declared.Width.{Width}
use Rattle.std.specs.Prelude.{ℕ, zero, suc, ◌+◌, ◌-◌, Bool, true, false, cond, not, List, [], ◌∷◌, ◌++◌, ltb, eqb}
use Rattle.std.specs.Prelude.{Option as CodeOption, Some, None}
use Rattle.std.specs.Prelude.{Option as CodeOption, Some, None}
use Rattle.std.proofs.Math.Option.{Option, none, some}
use Rattle.ir.specs.declared.TypeNumber.{TypeNumber}
use Rattle.ir.specs.declared.ItemNumber.{ItemNumber}
use Rattle.ir.specs.declared.RowNumber.{RowNumber}
use Rattle.ir.specs.declared.VectorSize.{VectorSize}
use Rattle.ir.specs.declared.ScalarKind.{ScalarKind}
use Rattle.ir.specs.declared.CooperativeSize.{CooperativeSize}
use Rattle.ir.specs.declared.CooperativeRole.{CooperativeRole}
use Rattle.ir.specs.declared.AddressSpace.{AddressSpace}
use Rattle.ir.specs.declared.AddressSpace.TheVariants as Sp
use Rattle.ir.specs.declared.ArraySize.{ArraySize}
use Rattle.ir.specs.declared.ArraySize.TheVariants as As
use Rattle.ir.specs.declared.ImageClass.{ImageClass}
use Rattle.ir.specs.declared.ImageClass.TheVariants as Ic
use Rattle.ir.specs.declared.Literal.{Literal}
use Rattle.ir.specs.declared.BinaryOperator.{BinaryOperator}
use Rattle.ir.specs.declared.RelationalFunction.{RelationalFunction}
use Rattle.ir.specs.declared.ImageQuery.{ImageQuery}
use Rattle.ir.specs.declared.TypeInner.{TypeInner}
use Rattle.ir.specs.declared.TypeInner.TheVariants as Ti
use Rattle.ir.specs.declared.Item.{Item}
use Rattle.ir.specs.declared.Item.TheVariants as It
use Rattle.ir.specs.declared.Expression.{Expression}
use Rattle.ir.specs.declared.Expression.TheVariants as Ex
use Rattle.frames.specs.Bytes.{frame_at}
use Rattle.frames.specs.Forms.{member_of, item_of, component_of}
use Rattle.archive.specs.declared.Starts.{Starts}
use Rattle.archive.specs.Starts.{starts_of}
use Rattle.archive.specs.Names.{is_type, size_names}
use Rattle.archive.specs.Access.{type_in, row_in}
use Rattle.rule.specs.declared.Fault.{Fault}
use Rattle.rule.specs.declared.Fault.TheVariants as Fa
use Rattle.rule.specs.Answers.{TypeAnswer, number, value, malformed}

-- WHAT A FILE HOLDS, by its frames

-- f 0, f 1, .. up to f (n - 1)
unfoldable pub listed : {A : Type 0} → (ℕ → A) → ℕ → List A
listed f zero = []
listed f (suc n) = listed f n ++ (f n ∷ [])

-- the item at a frame
abbrev item_at : List ℕ → ℕ → Item
item_at fr k = item_of (frame_at fr k)

-- an item's type; no accepted file comes to the last two lines' number 0
abbrev pub item_type : Item → TypeNumber
item_type (It.Constant t) = t
item_type (It.Override t) = t
item_type (It.GlobalVariable t p) = t
item_type (It.FunctionArgument t) = t
item_type (It.LocalVariable t) = t
item_type (It.RayIntersection t) = t
item_type (It.RayVertexReturn t) = t
item_type (It.Function r) = record { 0 = 0 }
item_type It.Unknown = record { 0 = 0 }

-- a global's address space
abbrev pub item_space : Item → AddressSpace
item_space (It.GlobalVariable t p) = p
item_space (It.Constant t) = Sp.Function
item_space (It.Override t) = Sp.Function
item_space (It.FunctionArgument t) = Sp.Function
item_space (It.LocalVariable t) = Sp.Function
item_space (It.RayIntersection t) = Sp.Function
item_space (It.RayVertexReturn t) = Sp.Function
item_space (It.Function r) = Sp.Function
item_space It.Unknown = Sp.Function

-- a function's result
abbrev pub item_result : Item → CodeOption TypeNumber
item_result (It.Function r) = r
item_result (It.GlobalVariable t p) = None
item_result (It.Constant t) = None
item_result (It.Override t) = None
item_result (It.FunctionArgument t) = None
item_result (It.LocalVariable t) = None
item_result (It.RayIntersection t) = None
item_result (It.RayVertexReturn t) = None
item_result It.Unknown = None

-- the type of an item that may be missing: item n of those from frame `first` up to frame `last`
abbrev pub maybe_item : List ℕ → ℕ → ℕ → ItemNumber → Option TypeNumber
maybe_item fr first last n = cond (ltb n.0 (last - first)) (some (item_type (item_at fr (first + n.0)))) none

-- WHAT A ROW SHOWS, with what it names: items by their types, an argument and a special type where there is one,
-- components by their rows

pub data Shown : Type 0 where
  literal : Literal → Shown
  constant override zero_value : TypeNumber → Shown
  compose : TypeNumber → List RowNumber → Shown
  access : RowNumber → Shown
  access_index : RowNumber → ℕ → Shown
  splat swizzle : VectorSize → RowNumber → Shown
  function_argument : ℕ → Option TypeNumber → Shown
  global_variable : TypeNumber → AddressSpace → Shown
  local_variable : TypeNumber → Shown
  load : RowNumber → Shown
  image_sample : RowNumber → Bool → Shown
  image_load : RowNumber → Shown
  image_query : RowNumber → ImageQuery → Shown
  unary : RowNumber → Shown
  binary : BinaryOperator → RowNumber → RowNumber → Shown
  select derivative : RowNumber → Shown
  relational : RelationalFunction → RowNumber → Shown
  cast : RowNumber → ScalarKind → CodeOption Width → Shown
  call_result : CodeOption TypeNumber → Shown
  atomic_result work_group_uniform_load_result : TypeNumber → Shown
  array_length : Shown
  ray_query_vertex_positions : Option TypeNumber → Shown
  ray_query_proceed_result : Shown
  ray_query_get_intersection : Option TypeNumber → Shown
  subgroup_ballot_result : Shown
  subgroup_operation_result : TypeNumber → Shown
  cooperative_load : CooperativeSize → CooperativeSize → CooperativeRole → RowNumber → Shown
  cooperative_multiply_add : RowNumber → Shown

-- what an expression shows in a file; a Math row shows nothing
abbrev pub shown : List ℕ → Starts → Expression → Option Shown
shown fr s (Ex.Literal l) = some (literal l)
shown fr s (Ex.Constant i) = some (constant (item_type (item_at fr (s.constants + i.0))))
shown fr s (Ex.Override i) = some (override (item_type (item_at fr (s.overrides + i.0))))
shown fr s (Ex.ZeroValue t) = some (zero_value t)
shown fr s (Ex.Compose t n c) = some
    (compose t (listed (λ (i : ℕ). component_of (frame_at fr (s.components + c.0 + i))) n))
shown fr s (Ex.Access m) = some (access m)
shown fr s (Ex.AccessIndex m i) = some (access_index m i)
shown fr s (Ex.Splat z m) = some (splat z m)
shown fr s (Ex.Swizzle z m) = some (swizzle z m)
shown fr s (Ex.FunctionArgument i) = some
    (function_argument i (maybe_item fr s.arguments s.locals (record { 0 = i })))
shown fr s (Ex.GlobalVariable i) = let g = item_at fr (s.globals + i.0) in
    some (global_variable (item_type g) (item_space g))
shown fr s (Ex.LocalVariable i) = some (local_variable (item_type (item_at fr (s.locals + i.0))))
shown fr s (Ex.Load m) = some (load m)
shown fr s (Ex.ImageSample m g) = some (image_sample m g)
shown fr s (Ex.ImageLoad m) = some (image_load m)
shown fr s (Ex.ImageQuery m q) = some (image_query m q)
shown fr s (Ex.Unary m) = some (unary m)
shown fr s (Ex.Binary o l r) = some (binary o l r)
shown fr s (Ex.Select m) = some (select m)
shown fr s (Ex.Derivative m) = some (derivative m)
shown fr s (Ex.Relational f m) = some (relational f m)
shown fr s Ex.Math = none
shown fr s (Ex.As m k c) = some (cast m k c)
shown fr s (Ex.CallResult i) = some (call_result (item_result (item_at fr (s.functions + i.0))))
shown fr s (Ex.AtomicResult t) = some (atomic_result t)
shown fr s (Ex.WorkGroupUniformLoadResult t) = some (work_group_uniform_load_result t)
shown fr s Ex.ArrayLength = some array_length
shown fr s Ex.RayQueryVertexPositions = some
    (ray_query_vertex_positions (maybe_item fr s.vertex_returns s.rows (record { 0 = 0 })))
shown fr s Ex.RayQueryProceedResult = some ray_query_proceed_result
shown fr s Ex.RayQueryGetIntersection = some
    (ray_query_get_intersection (maybe_item fr s.intersections s.vertex_returns (record { 0 = 0 })))
shown fr s Ex.SubgroupBallotResult = some subgroup_ballot_result
shown fr s (Ex.SubgroupOperationResult t) = some (subgroup_operation_result t)
shown fr s (Ex.CooperativeLoad c r o m) = some (cooperative_load c r o m)
shown fr s (Ex.CooperativeMultiplyAdd m) = some (cooperative_multiply_add m)

-- WHAT A TYPE SHOWS: its inner form, and of a struct its members' types

pub record Form : Type 0 where
  pub inner : TypeInner
  pub members : List TypeNumber

abbrev pub member_types : List ℕ → Starts → TypeInner → List TypeNumber
member_types fr s (Ti.Struct m n t) = listed (λ (i : ℕ). (member_of (frame_at fr (s.members + m.0 + i))).ty) n
member_types fr s (Ti.Scalar k) = []
member_types fr s (Ti.Vector z k) = []
member_types fr s (Ti.Matrix c r k) = []
member_types fr s (Ti.CooperativeMatrix c r k o) = []
member_types fr s (Ti.Atomic k) = []
member_types fr s (Ti.Pointer b p) = []
member_types fr s (Ti.ValuePointer z k p) = []
member_types fr s (Ti.Array b z t) = []
member_types fr s (Ti.Image d a c) = []
member_types fr s (Ti.Sampler q) = []
member_types fr s (Ti.AccelerationStructure q) = []
member_types fr s (Ti.RayQuery q) = []
member_types fr s (Ti.BindingArray b z) = []

-- THINGS

-- a row's own kind; a type looked into; the class of an image sampled or loaded; and two that are never newer: whether
-- an answer is the number of a struct, and whether a comparison would answer it with 5 or 6
pub data Thing : Type 0 where
  kind : RowNumber → Thing
  form : TypeAnswer → Thing
  texels : ImageClass → Thing
  struct_number : TypeAnswer → Thing
  fault : TypeAnswer → Thing

-- what is learnt from a thing that is not newer
abbrev pub Seen : Thing → Type 0
Seen (kind n) = Shown
Seen (form t) = Form
Seen (texels c) = ImageClass
Seen (struct_number t) = Bool
Seen (fault t) = Fault

-- what each thing shows; nothing for a thing that is newer
abbrev pub Sight : Type 0
Sight = (c : Thing) → Option (Seen c)

-- a constant count is at least 1
abbrev pub is_count : ArraySize → Bool
is_count (As.Constant n) = not (eqb n 0)
is_count (As.Pending o) = true
is_count As.Dynamic = true

-- WHAT A COMPARISON WOULD ANSWER with before any look: nothing, 5 or 6 (document 01, "Numbers handed back", last
-- paragraph). `Fault` is the code's.

-- 6 unless it holds
abbrev pub in_range : Bool → Fault
in_range true = Fa.Sound
in_range false = Fa.Index

-- of an array: a count of 0 is a 5; a base or an override out of range is a 6
abbrev pub array_fault : Bool → Bool → Bool → Fault
array_fault counted based sized = cond counted (cond based (in_range sized) Fa.Index) Fa.Field

-- a value: a struct is a 5, and so is a count of 0; a base or an override out of range is a 6
abbrev pub value_fault : Starts → TypeInner → Fault
value_fault s (Ti.Scalar k) = Fa.Sound
value_fault s (Ti.Vector z k) = Fa.Sound
value_fault s (Ti.Matrix c r k) = Fa.Sound
value_fault s (Ti.CooperativeMatrix c r k o) = Fa.Sound
value_fault s (Ti.Atomic k) = Fa.Sound
value_fault s (Ti.Pointer b p) = in_range (is_type s b)
value_fault s (Ti.ValuePointer z k p) = Fa.Sound
value_fault s (Ti.Array b z t) = array_fault (is_count z) (is_type s b) (size_names s z)
value_fault s (Ti.Struct m n t) = Fa.Field
value_fault s (Ti.Image d a c) = Fa.Sound
value_fault s (Ti.Sampler q) = Fa.Sound
value_fault s (Ti.AccelerationStructure q) = Fa.Sound
value_fault s (Ti.RayQuery q) = Fa.Sound
value_fault s (Ti.BindingArray b z) = array_fault (is_count z) (is_type s b) (size_names s z)

abbrev pub fault_of : Starts → TypeAnswer → Fault
fault_of s (number n) = in_range (is_type s n)
fault_of s (value t) = value_fault s t
fault_of s (malformed f) = Fa.Field

-- WHAT EACH THING SHOWS

-- a value is of unknown kind where a comparison would answer it with 5 or 6
abbrev pub sound_form : TypeInner → Fault → CodeOption TypeInner
sound_form t Fa.Sound = Some t
sound_form t Fa.Field = None
sound_form t Fa.Index = None

-- the form of an answer that is looked into. A type that a comparison would answer with 5 or 6 counts as one of unknown
-- kind.
abbrev pub form_in : List ℕ → Starts → TypeAnswer → CodeOption TypeInner
form_in fr s (number n) = type_in fr s n
form_in fr s (value t) = sound_form t (value_fault s t)
form_in fr s (malformed f) = None

-- a form is shown with its members, unless its kind is unknown
abbrev pub see_form : List ℕ → Starts → CodeOption TypeInner → Option Form
see_form fr s (Some t) = some (record { inner = t; members = member_types fr s t })
see_form fr s None = none

abbrev pub see_row : List ℕ → Starts → CodeOption Expression → Option Shown
see_row fr s (Some e) = shown fr s e
see_row fr s None = none

-- an image's class by document 01's first rules: a storage image shows nothing
abbrev first_texels : ImageClass → Option ImageClass
first_texels (Ic.Sampled k m) = some (Ic.Sampled k m)
first_texels (Ic.Depth m) = some (Ic.Depth m)
first_texels Ic.External = some Ic.External
first_texels (Ic.Storage f a) = none

abbrev pub is_struct_inner : TypeInner → Bool
is_struct_inner (Ti.Scalar k) = false
is_struct_inner (Ti.Vector z k) = false
is_struct_inner (Ti.Matrix c r k) = false
is_struct_inner (Ti.CooperativeMatrix c r k o) = false
is_struct_inner (Ti.Atomic k) = false
is_struct_inner (Ti.Pointer b p) = false
is_struct_inner (Ti.ValuePointer z k p) = false
is_struct_inner (Ti.Array b z t) = false
is_struct_inner (Ti.Struct m n t) = true
is_struct_inner (Ti.Image d a c) = false
is_struct_inner (Ti.Sampler q) = false
is_struct_inner (Ti.AccelerationStructure q) = false
is_struct_inner (Ti.RayQuery q) = false
is_struct_inner (Ti.BindingArray b z) = false

abbrev pub is_struct_form : CodeOption TypeInner → Bool
is_struct_form (Some t) = is_struct_inner t
is_struct_form None = false

-- whether an answer is the number of a struct
abbrev pub is_struct : List ℕ → Starts → TypeAnswer → Bool
is_struct fr s (number n) = is_struct_form (type_in fr s n)
is_struct fr s (value t) = false
is_struct fr s (malformed f) = false

-- what each thing shows, over frames and where their families begin; an image's class always shows itself
abbrev pub see_in : List ℕ → Starts → Sight
see_in fr s (kind n) = see_row fr s (row_in fr s n)
see_in fr s (form a) = see_form fr s (form_in fr s a)
see_in fr s (texels c) = some c
see_in fr s (struct_number a) = some (is_struct fr s a)
see_in fr s (fault a) = some (fault_of s a)

-- what each thing shows in a file, whose frames these are
abbrev pub see : List ℕ → Sight
see fr = see_in fr (starts_of fr)

-- what each thing showed by document 01's first rules, in which a storage image sampled without gather, or loaded, was
-- newer: the same otherwise (document 02, requests 1 and 8)
abbrev pub first_see : List ℕ → Sight
first_see fr (kind n) = see fr (kind n)
first_see fr (form a) = see fr (form a)
first_see fr (texels c) = first_texels c
first_see fr (struct_number a) = see fr (struct_number a)
first_see fr (fault a) = see fr (fault a)
