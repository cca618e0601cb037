-- A TYPE of a file that is carried into another shows there what it shows, with its numbers moved: a type of the
-- file, or a value that a comparison gives neither 5 nor 6. Its members stay together.
use Rattle.std.specs.Prelude.{Option, Some, None}
use Prim.Native.Nat.{ℕ, ◌+◌, ◌≤◌}
use native.Mathlib.Omega.{arith}
use mathlib.Core.Path.{◌≡◌, refl, sym, ap, ◌∙◌}
use mathlib.Core.Bool.{true}
use mathlib.Core.List.{List, map}
use mathlib.Core.Option.{some}
use borrow.Author.Tests.{ltb-true, lt-ltb, leb-true}
use Rattle.ir.specs.declared.TypeNumber.{TypeNumber}
use Rattle.ir.specs.declared.ArraySize.{ArraySize}
use Rattle.ir.specs.declared.ArraySize.TheVariants as As
use Rattle.ir.specs.declared.TypeInner.{TypeInner}
use Rattle.ir.specs.declared.TypeInner.TheVariants as Ti
use Rattle.ir.specs.declared.StructMember.{StructMember}
use Rattle.frames.specs.Bytes.{frame_at}
use Rattle.frames.specs.Forms.{member_of}
use Rattle.archive.specs.declared.Starts.{Starts}
use Rattle.archive.specs.Starts.{starts_of, type_count, member_count, override_count}
use Rattle.archive.specs.Names.{is_type, size_names, type_names, type_form_names}
use Rattle.archive.specs.Access.{type_in}
use Rattle.archive.proofs.Files.{type-names}
use Rattle.rule.specs.declared.Fault.{Fault}
use Rattle.rule.specs.declared.Fault.TheVariants as Fa
use Rattle.rule.specs.Answers.{TypeAnswer, number, value, malformed}
use Rattle.rule.specs.Things.{member_types, form, struct_number, fault, is_count, in_range, array_fault, value_fault}
use Rattle.rule.specs.Things.{fault_of}
use Rattle.rule.specs.Things.{sound_form, see_form, is_struct_form, see}
use Rattle.law_rows.proofs.Good.{Good, type-at}
use Rattle.law_moved.specs.Moves.{Moves, type_to, size_to, inner_to, answer_to, shows_to, type_form_to}
use Rattle.law_moved.proofs.Alike.{Shows}
use Rattle.law_moved.proofs.Carries.{Carries, listed-map, never, range-sound, array-sound, struct-form-to}
use Rattle.law_moved.proofs.Carries.{count-to}

module _ (m : Moves) (kept : ℕ → Type 0) (fr gr : List ℕ) (good : Good fr) (to : Carries m kept fr gr) where
  abbrev s : Starts
  s = starts_of fr

  abbrev t : Starts
  t = starts_of gr

  type-there : (n : TypeNumber) → is_type s n ≡ true → is_type t (type_to m n) ≡ true
  type-there n h = lt-ltb (m.types n.0) (type_count t) (to.type-in n.0 (ltb-true n.0 (type_count s) h))

  pub type-carried : (n : TypeNumber) → is_type s n ≡ true
      → type_in gr t (type_to m n) ≡ type_form_to m (type_in fr s n)
  unfolding type_in
  type-carried n h =
      rw (h, type-there n h)
      (to.types n.0 (ltb-true n.0 (type_count s) h))

  size-there : (z : ArraySize) → size_names s z ≡ true → size_names t (size_to m z) ≡ true
  size-there (As.Constant n) h = refl
  size-there (As.Pending o) h = lt-ltb (m.overrides o.0) (override_count t)
      (to.override-in o.0 (ltb-true o.0 (override_count s) h))
  size-there As.Dynamic h = refl

  array-there : (b : TypeNumber) (z : ArraySize) → array_fault (is_count z) (is_type s b) (size_names s z) ≡ Fa.Sound
      → array_fault (is_count (size_to m z)) (is_type t (type_to m b)) (size_names t (size_to m z)) ≡ Fa.Sound
  array-there b z e =
      let a = array-sound (is_count z) (is_type s b) (size_names s z) e in
      rw (count-to m z, a.counted, type-there b a.based, size-there z a.sized)

  -- a value that a comparison gives neither 5 nor 6
  value_there : (x : TypeInner) → value_fault s x ≡ Fa.Sound → value_fault t (inner_to m x) ≡ Fa.Sound
  value_there (Ti.Scalar k) e = refl
  value_there (Ti.Vector z k) e = refl
  value_there (Ti.Matrix c j k) e = refl
  value_there (Ti.CooperativeMatrix c j k o) e = refl
  value_there (Ti.Atomic k) e = refl
  value_there (Ti.Pointer b p) e = ap in_range (type-there b (range-sound (is_type s b) e))
  value_there (Ti.ValuePointer z k p) e = refl
  value_there (Ti.Array b z x) e = array-there b z e
  value_there (Ti.Struct f n x) e = never (cc)
  value_there (Ti.Image d a c) e = refl
  value_there (Ti.Sampler q) e = refl
  value_there (Ti.AccelerationStructure q) e = refl
  value_there (Ti.RayQuery q) e = refl
  value_there (Ti.BindingArray b z) e = array-there b z e

  pub fault-there : (a : TypeAnswer) → fault_of s a ≡ Fa.Sound → fault_of t (answer_to m a) ≡ Fa.Sound
  fault-there (number n) e = ap in_range (type-there n (range-sound (is_type s n) e))
  fault-there (value x) e = value_there x e
  fault-there (malformed f) e = never (cc)

  -- the members of a struct, and of every other type none
  members-carried : (n : TypeNumber) (x : TypeInner) → type_names s n x ≡ true → member_types gr t (inner_to m x)
      ≡ map (type_to m) (member_types fr s x)
  members-carried n (Ti.Scalar k) h = refl
  members-carried n (Ti.Vector z k) h = refl
  members-carried n (Ti.Matrix c j k) h = refl
  members-carried n (Ti.CooperativeMatrix c j k o) h = refl
  members-carried n (Ti.Atomic k) h = refl
  members-carried n (Ti.Pointer b p) h = refl
  members-carried n (Ti.ValuePointer z k p) h = refl
  members-carried n (Ti.Array b z x) h = refl
  members-carried n (Ti.Struct f j x) h =
      listed-map (type_to m) (λ (i : ℕ). (member_of (frame_at fr (s.members + f.0 + i))).ty)
      (λ (i : ℕ). (member_of (frame_at gr (t.members + m.members f.0 + i))).ty) j
      (λ i l.
      let w : f.0 + j ≤ member_count s = leb-true (f.0 + j) (member_count s) h in
      let a : t.members + m.members f.0 + i
      ≡ t.members + m.members (f.0 + i) = omega (arith, to.member-run f.0 i) in
      let b : s.members + (f.0 + i) ≡ s.members + f.0 + i = omega arith in
      ap (λ (k : ℕ). (member_of (frame_at gr k)).ty) a
      ∙ ap (λ (y : StructMember). y.ty) (to.members (f.0 + i) (omega arith))
      ∙ ap (λ (k : ℕ). type_to m (member_of (frame_at fr k)).ty) b)
  members-carried n (Ti.Image d a c) h = refl
  members-carried n (Ti.Sampler q) h = refl
  members-carried n (Ti.AccelerationStructure q) h = refl
  members-carried n (Ti.RayQuery q) h = refl
  members-carried n (Ti.BindingArray b z) h = refl

  form-carried : (n : TypeNumber) (x : Option TypeInner) → type_form_names s n x ≡ true
      → see_form gr t (type_form_to m x)
      ≡ shows_to m (form (number n)) (see_form fr s x)
  form-carried n (Some x) h = ap (λ (l : List TypeNumber). some (record { inner = inner_to m x; members = l }))
      (members-carried n x h)
  form-carried n None h = refl

  no-members : (x : TypeInner) → value_fault s x ≡ Fa.Sound → member_types gr t (inner_to m x)
      ≡ map (type_to m) (member_types fr s x)
  no-members (Ti.Scalar k) e = refl
  no-members (Ti.Vector z k) e = refl
  no-members (Ti.Matrix c j k) e = refl
  no-members (Ti.CooperativeMatrix c j k o) e = refl
  no-members (Ti.Atomic k) e = refl
  no-members (Ti.Pointer b p) e = refl
  no-members (Ti.ValuePointer z k p) e = refl
  no-members (Ti.Array b z x) e = refl
  no-members (Ti.Struct f j x) e = never (cc)
  no-members (Ti.Image d a c) e = refl
  no-members (Ti.Sampler q) e = refl
  no-members (Ti.AccelerationStructure q) e = refl
  no-members (Ti.RayQuery q) e = refl
  no-members (Ti.BindingArray b z) e = refl

  pub type-named : (n : TypeNumber) → is_type s n ≡ true → type_form_names s n (type_in fr s n) ≡ true
  unfolding type_in starts_of
  type-named n h =
      let is = type-at fr good n.0 (ltb-true _ _ h) in
      rw h (type-names fr good.index n.0 is.within is.family-is)

  -- a type that a comparison gives neither 5 nor 6, looked into
  pub form-shows : (a : TypeAnswer) → fault_of s a ≡ Fa.Sound → Shows m (see fr) (see gr) (form a)
  form-shows (number n) e =
      let h = range-sound (is_type s n) e in
      ap (see_form gr t) (type-carried n h) ∙ form-carried n (type_in fr s n) (type-named n h)
  form-shows (value x) e =
      ap (λ (f : Fault). see_form gr t (sound_form (inner_to m x) f)) (value_there x e)
      ∙ ap (λ (l : List TypeNumber). some (record { inner = inner_to m x; members = l })) (no-members x e)
      ∙ sym (ap (λ (f : Fault). shows_to m (form (value x)) (see_form fr s (sound_form x f))) e)
  form-shows (malformed f) e = never (cc)

  pub struct-shows : (a : TypeAnswer) → fault_of s a ≡ Fa.Sound → Shows m (see fr) (see gr) (struct_number a)
  struct-shows (number n) e =
      let h = range-sound (is_type s n) e in
      ap (λ (x : Option TypeInner). some (is_struct_form x)) (type-carried n h)
      ∙ ap some (struct-form-to m (type_in fr s n))
  struct-shows (value x) e = refl
  struct-shows (malformed f) e = never (cc)

  pub fault-shows : (a : TypeAnswer) → fault_of s a ≡ Fa.Sound → Shows m (see fr) (see gr) (fault a)
  fault-shows a e = ap some (fault-there a e) ∙ sym (ap some e)
