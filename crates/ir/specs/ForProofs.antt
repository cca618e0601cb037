-- Not part of any public statement: for proofs and code only. The number of an item's kind, and a method of a type's
-- inner form.
use Rattle.ir.specs.declared.AddressSpace.{AddressSpace}
use Rattle.std.specs.Prelude.{ℕ, Option, Some, None}
use Rattle.ir.specs.declared.ItemKind.{ItemKind}
use Rattle.ir.specs.declared.ItemKind.TheVariants as ItemKind'
use Rattle.ir.specs.declared.TypeInner.{TypeInner}
use Rattle.ir.specs.declared.TypeInner.TheVariants as Ti

-- items, kinds 1 to 8 (document 01, "The file", 3): the number that `item_kind_of` (Numbers.antt) reads
abbrev pub item_kind_number : ItemKind → ℕ
item_kind_number ItemKind'.Unknown = 0
item_kind_number ItemKind'.Constant = 1
item_kind_number ItemKind'.Override = 2
item_kind_number ItemKind'.GlobalVariable = 3
item_kind_number ItemKind'.FunctionArgument = 4
item_kind_number ItemKind'.LocalVariable = 5
item_kind_number ItemKind'.Function = 6
item_kind_number ItemKind'.RayIntersection = 7
item_kind_number ItemKind'.RayVertexReturn = 8

-- the source's `pointer_space`
abbrev pub pointer_space : TypeInner → Option AddressSpace
pointer_space (Ti.Scalar k) = None
pointer_space (Ti.Vector z k) = None
pointer_space (Ti.Matrix c r k) = None
pointer_space (Ti.CooperativeMatrix c r k o) = None
pointer_space (Ti.Atomic k) = None
pointer_space (Ti.Pointer b p) = Some p
pointer_space (Ti.ValuePointer z k p) = Some p
pointer_space (Ti.Array b z t) = None
pointer_space (Ti.Struct m n t) = None
pointer_space (Ti.Image d a c) = None
pointer_space (Ti.Sampler q) = None
pointer_space (Ti.AccelerationStructure q) = None
pointer_space (Ti.RayQuery q) = None
pointer_space (Ti.BindingArray b z) = None
