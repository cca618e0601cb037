-- `==` at types, as the derive writes it, holds of equal types alone: field by field.
use mathlib.Core.Path.{◌≡◌, refl}
use Rattle.std.specs.Prelude.{Option}
use mathlib.Core.Bool.{Bool, true, false, ◌&&◌}
use Rattle.std.proofs.Common.{rules, arith}
use Rattle.std.specs.Bool.{beq}
use Rattle.std.specs.Option.{option_eq}
use Rattle.ir.specs.declared.TypeInner.TheVariants as Ti
use Rattle.ir.specs.declared.ImageClass.TheVariants as Ic
use denote.Enum.Bare.{sameb, same_true}
use Rattle.ir.specs.contracts.StorageFormat as format
use Rattle.ir.specs.contracts.VectorSize as vector
use Rattle.ir.specs.contracts.ImageDimension as dimension
use Rattle.ir.specs.contracts.CooperativeSize as cooperative
use Rattle.ir.specs.contracts.CooperativeRole as role
use Rattle.ir.specs.contracts.TypeInnerEq.TheImpl.Laws as laws
use Rattle.ir.specs.declared.TypeInner.{TypeInner}
use Rattle.ir.specs.declared.Scalar.{Scalar}
use Rattle.ir.specs.declared.StorageAccess.{StorageAccess}
use Rattle.ir.specs.declared.AddressSpace.{AddressSpace}
use Rattle.ir.specs.declared.ArraySize.{ArraySize}
use Rattle.ir.specs.declared.ImageClass.{ImageClass}
use Rattle.ir.specs.declared.VectorSize.{VectorSize}
use Rattle.ir.specs.contracts.ScalarPartialEq.TheImpl as scalar
use Rattle.ir.specs.contracts.TypeInnerPartialEq.TheImpl as inner
use Rattle.ir.specs.contracts.StorageAccessPartialEq.TheImpl as access
use Rattle.ir.specs.contracts.AddressSpacePartialEq.TheImpl as space
use Rattle.ir.specs.contracts.ArraySizePartialEq.TheImpl as array
use Rattle.ir.specs.contracts.ImageClassPartialEq.TheImpl as class
use Rattle.ir.specs.contracts.VectorSizePartialEq.TheImpl as size

both : (x y : Bool) → (x && y) ≡ true → (x ≡ true) × (y ≡ true)
both true true e = (e, e)
both true false e = cc
both false y e = cc

flags : (q r : Bool) → beq q r ≡ true → q ≡ r
flags q r e = search rules

pub same_scalar : (k j : Scalar) → scalar.ghosts.eq k j ≡ true → k ≡ j
same_scalar k j e = search rules

pub same_access : (k j : StorageAccess) → access.ghosts.eq k j ≡ true → k ≡ j
same_access k j e = search rules

pub same_space : (k j : AddressSpace) → space.ghosts.eq k j ≡ true → k ≡ j
same_space k j e = search rules

pub same_array : (k j : ArraySize) → array.ghosts.eq k j ≡ true → k ≡ j
same_array k j e = search rules

same_size : (y z : Option VectorSize) → option_eq size.ghosts.eq y z ≡ true → y ≡ z
same_size y z e = search rules

pub same_class : (k j : ImageClass) → class.ghosts.eq k j ≡ true → k ≡ j
same_class (Ic.Sampled a b) (Ic.Sampled c d) e = search rules
same_class (Ic.Depth a) (Ic.Depth b) e = search rules
same_class Ic.External Ic.External e = refl
same_class (Ic.Storage f a) (Ic.Storage g b) e =
    let h = both (sameb format.the_type f g) _ e in
    let p : f ≡ g = same_true format.the_type tt f g h.0 in
    let q : a ≡ b = same_access a b h.1 in cc
same_class _ _ e = cc

pub same_type : (k j : TypeInner) → inner.ghosts.eq k j ≡ true → k ≡ j
same_type (Ti.Scalar k) (Ti.Scalar j) e = grind (arith, same_scalar)
same_type (Ti.Vector y k) (Ti.Vector z j) e = grind (arith, same_scalar)
same_type (Ti.Matrix a b k) (Ti.Matrix c d j) e =
    let h = both (sameb vector.the_type a c) _ e in
    let p : a ≡ c = same_true vector.the_type tt a c h.0 in
    let g = both (sameb vector.the_type b d) _ h.1 in
    let q : b ≡ d = same_true vector.the_type tt b d g.0 in
    let r : k ≡ j = same_scalar k j g.1 in cc
same_type (Ti.CooperativeMatrix a b k r) (Ti.CooperativeMatrix c d j q) e =
    let h = both (sameb cooperative.the_type a c) _ e in
    let p : a ≡ c = same_true cooperative.the_type tt a c h.0 in
    let g = both (sameb cooperative.the_type b d) _ h.1 in
    let o : b ≡ d = same_true cooperative.the_type tt b d g.0 in
    let f = both (scalar.ghosts.eq k j) _ g.1 in
    let m : k ≡ j = same_scalar k j f.0 in
    let n : r ≡ q = same_true role.the_type tt r q f.1 in cc
same_type (Ti.Atomic k) (Ti.Atomic j) e = grind (arith, same_scalar)
same_type (Ti.Pointer b p) (Ti.Pointer c q) e = grind (arith, same_space)
same_type (Ti.ValuePointer y k p) (Ti.ValuePointer z j q) e =
    let h = both (option_eq size.ghosts.eq y z) _ e in
    let a : y ≡ z = same_size y z h.0 in
    let g = both (scalar.ghosts.eq k j) _ h.1 in
    let b : k ≡ j = same_scalar k j g.0 in
    let c : p ≡ q = same_space p q g.1 in cc
same_type (Ti.Array b y s) (Ti.Array c z t) e = grind (arith, same_array)
same_type (Ti.Struct m n s) (Ti.Struct l o t) e = search rules
same_type (Ti.Image d q c) (Ti.Image f r b) e =
    let h = both (sameb dimension.the_type d f) _ e in
    let p : d ≡ f = same_true dimension.the_type tt d f h.0 in
    let g = both _ (class.ghosts.eq c b) h.1 in
    let m : c ≡ b = same_class c b g.1 in
    let n : q ≡ r = flags q r g.0 in cc
same_type (Ti.Sampler q) (Ti.Sampler r) e = search rules
same_type (Ti.AccelerationStructure q) (Ti.AccelerationStructure r) e = search rules
same_type (Ti.RayQuery q) (Ti.RayQuery r) e = search rules
same_type (Ti.BindingArray b y) (Ti.BindingArray c z) e = grind (arith, same_array)
same_type _ _ e = cc

pub type_same : (k : TypeInner) → inner.ghosts.eq k k ≡ true
type_same k = laws.laws-law.refl k
