-- What holds of the outcome of a selector that names a type, whatever the type: by the cases of a type. (Of a type of
-- the file: law_rows, proofs/Selected.)
use Rattle.ir.specs.declared.TypeNumber.{TypeNumber}
use Rattle.ir.specs.declared.Scalar.{Scalar}
use Rattle.ir.specs.declared.AddressSpace.{AddressSpace}
use Rattle.ir.specs.declared.TypeInner.{TypeInner}
use Rattle.ir.specs.declared.TypeInner.TheVariants as Ti
use Rattle.rule_types.specs.Canonical.{if_pointer}
use Rattle.rule_rows.specs.Selectors.{if_array, if_binding_array}

module _ {X : Type 0} (P : X → Type 0) where
  pub any_array : (t : TypeInner) {f : TypeNumber → X} {rest : X} → ((b : TypeNumber) → P (f b)) → P rest
      → P (if_array t f rest)
  any_array (Ti.Scalar k) h r = r
  any_array (Ti.Vector z k) h r = r
  any_array (Ti.Matrix c j k) h r = r
  any_array (Ti.CooperativeMatrix c j k o) h r = r
  any_array (Ti.Atomic k) h r = r
  any_array (Ti.Pointer b p) h r = r
  any_array (Ti.ValuePointer z k p) h r = r
  any_array (Ti.Array b z t) h r = h b
  any_array (Ti.Struct f n t) h r = r
  any_array (Ti.Image d a c) h r = r
  any_array (Ti.Sampler q) h r = r
  any_array (Ti.AccelerationStructure q) h r = r
  any_array (Ti.RayQuery q) h r = r
  any_array (Ti.BindingArray b z) h r = r

  pub any-binding : (t : TypeInner) {f : TypeNumber → X} {rest : X} → ((b : TypeNumber) → P (f b)) → P rest
      → P (if_binding_array t f rest)
  any-binding (Ti.Scalar k) h r = r
  any-binding (Ti.Vector z k) h r = r
  any-binding (Ti.Matrix c j k) h r = r
  any-binding (Ti.CooperativeMatrix c j k o) h r = r
  any-binding (Ti.Atomic k) h r = r
  any-binding (Ti.Pointer b p) h r = r
  any-binding (Ti.ValuePointer z k p) h r = r
  any-binding (Ti.Array b z t) h r = r
  any-binding (Ti.Struct f n t) h r = r
  any-binding (Ti.Image d a c) h r = r
  any-binding (Ti.Sampler q) h r = r
  any-binding (Ti.AccelerationStructure q) h r = r
  any-binding (Ti.RayQuery q) h r = r
  any-binding (Ti.BindingArray b z) h r = h b

  pub any-pointer : (t : TypeInner) {f : TypeNumber → AddressSpace → X} {rest : X}
      → ((b : TypeNumber) (p : AddressSpace) → P (f b p)) → P rest → P (if_pointer t f rest)
  any-pointer (Ti.Scalar k) h r = r
  any-pointer (Ti.Vector z k) h r = r
  any-pointer (Ti.Matrix c j k) h r = r
  any-pointer (Ti.CooperativeMatrix c j k o) h r = r
  any-pointer (Ti.Atomic k) h r = r
  any-pointer (Ti.Pointer b p) h r = h b p
  any-pointer (Ti.ValuePointer z k p) h r = r
  any-pointer (Ti.Array b z t) h r = r
  any-pointer (Ti.Struct f n t) h r = r
  any-pointer (Ti.Image d a c) h r = r
  any-pointer (Ti.Sampler q) h r = r
  any-pointer (Ti.AccelerationStructure q) h r = r
  any-pointer (Ti.RayQuery q) h r = r
  any-pointer (Ti.BindingArray b z) h r = r
