-- What `see` shows nothing of, by the bytes of a file: exactly a type of unknown kind, a row of unknown kind and row
-- kind 22; and how `first_see` parts from it, at the class of a storage image. By the cases of what a frame reads as.
use Rattle.std.specs.Prelude.{Option, Some, None}
use Prim.Native.Nat.{ℕ, ◌+◌, ◌≤◌, ◌<◌}
use native.Mathlib.Decide.{dec_lt}
use native.Mathlib.Omega.{arith}
use mathlib.Core.Path.{◌≡◌, refl, sym, ap, ◌∙◌}
use mathlib.Core.Bool.{Bool, true, false}
use mathlib.Core.List.{List, []}
use mathlib.Core.Logic.{◌⊎◌, inl, inr, ◌↔◌}
use mathlib.Core.Option.{none, some}
use Rattle.ir.specs.declared.TypeNumber.{TypeNumber}
use Rattle.ir.specs.declared.RowNumber.{RowNumber}
use Rattle.ir.specs.declared.StorageFormat.{StorageFormat}
use Rattle.ir.specs.declared.StorageAccess.{StorageAccess}
use Rattle.ir.specs.declared.ArraySize.TheVariants as As
use Rattle.ir.specs.declared.ImageClass.{ImageClass}
use Rattle.ir.specs.declared.ImageClass.TheVariants as Ic
use Rattle.ir.specs.declared.TypeInner.{TypeInner}
use Rattle.ir.specs.declared.TypeInner.TheVariants as Ti
use Rattle.ir.specs.declared.RowKind.{RowKind}
use Rattle.ir.specs.declared.RowKind.TheVariants as Rk
use Rattle.ir.specs.declared.Expression.{Expression}
use Rattle.ir.specs.declared.Expression.TheVariants as Ex
use Rattle.ir.specs.Numbers.{row_kind_of, row_kind_number}
use Rattle.ir.proofs.Numbered.{row_kind-number, unknown-row}
use Rattle.frames.specs.declared.Frame.{Frame}
use Rattle.frames.specs.Bytes.{byte, frame_at}
use Rattle.frames.specs.Forms.{type_of, row_as, row_of}
use Rattle.frames.proofs.Unknown.{unknown-type-frame, unknown-row-frame}
use Rattle.archive.specs.declared.Starts.{Starts}
use Rattle.archive.specs.Starts.{starts_of}
use Rattle.archive.specs.Names.{is_type, is_row}
use Rattle.rule.specs.Answers.{TypeAnswer, number, value, malformed}
use Rattle.archive.specs.Access.{type_in, type_at, row_in}
use Rattle.archive.specs.ForProofs.{row_at}
use Rattle.rule.specs.declared.Fault.{Fault}
use Rattle.rule.specs.declared.Fault.TheVariants as Fa
use Rattle.rule.specs.Things.{Thing, Seen, first_see, struct_number, fault, shown, kind, form, texels, in_range}
use Rattle.rule.specs.Things.{value_fault, fault_of, sound_form, see_form, see}

never : {X : Type 0} → ◌≡◌ {A = ℕ} 0 1 → X
never z = absurd (omega arith)

module _ (fr : List ℕ) where
  -- TYPES

  type-none : (n : TypeNumber) (t : Option TypeInner) → type_at fr n ≡ t
      → (see fr (form (number n)) ≡ none) ↔ (t ≡ None)
  type-none n (Some t) e = (λ h. never (let q = rw e at h in cc), λ h. never (cc))
  type-none n None e = (λ h. refl, λ h. rw e)

  -- a type of the file shows nothing exactly when byte 1 is outside 1 to 14
  pub type-newer : (n : TypeNumber) → is_type (starts_of fr) n ≡ true
      → (see fr (form (number n)) ≡ none) ↔ ((byte (frame_at fr n.0) 1 ≡ 0) ⊎ (15 ≤ byte (frame_at fr n.0) 1))
  unfolding type_in
  type-newer n i =
      let f = frame_at fr n.0 in
      let e : type_at fr n ≡ type_of f = rw i in (
        λ h. (unknown-type-frame f).0 ((type-none n (type_of f) e).0 h),
        λ h. (type-none n (type_of f) e).1 ((unknown-type-frame f).1 h),
      )

  -- a type that a comparison would answer with 5 or 6 shows nothing, so it counts as one of unknown kind

  number-faulty : (n : TypeNumber) (b : Bool) → is_type (starts_of fr) n ≡ b → (in_range b ≡ Fa.Sound → ⊥)
      → see fr (form (number n)) ≡ none
  unfolding type_in
  number-faulty n true e d = absurd (d refl)
  number-faulty n false e d = rw e

  value-faulty : (t : TypeInner) (v : Fault) → (v ≡ Fa.Sound → ⊥) → see_form fr (starts_of fr) (sound_form t v) ≡ none
  value-faulty t Fa.Sound d = absurd (d refl)
  value-faulty t Fa.Field d = refl
  value-faulty t Fa.Index d = refl

  pub faulty-newer : (a : TypeAnswer) → (fault_of (starts_of fr) a ≡ Fa.Sound → ⊥) → see fr (form a) ≡ none
  faulty-newer (number n) d = number-faulty n (is_type (starts_of fr) n) refl d
  faulty-newer (value t) d = value-faulty t (value_fault (starts_of fr) t) d
  faulty-newer (malformed f) d = refl

  -- 5 comes before 6: a count of 0 is number 5, whatever the base names
  pub count-first : (b : TypeNumber) (stride : ℕ) → fault_of (starts_of fr) (value (Ti.Array b (As.Constant 0) stride))
      ≡ Fa.Field
  count-first b stride = refl

  pub binding-count-first : (b : TypeNumber) → fault_of (starts_of fr) (value (Ti.BindingArray b (As.Constant 0)))
      ≡ Fa.Field
  binding-count-first b = refl

  -- and a value that gets neither shows itself
  pub value-shows : (t : TypeInner) → value_fault (starts_of fr) t ≡ Fa.Sound
      → see fr (form (value t)) ≡ some (record { inner = t; members = [] })
  value-shows (Ti.Scalar x0) e = refl
  value-shows (Ti.Vector x0 x1) e = refl
  value-shows (Ti.Matrix x0 x1 x2) e = refl
  value-shows (Ti.CooperativeMatrix x0 x1 x2 x3) e = refl
  value-shows (Ti.Atomic x0) e = refl
  value-shows (Ti.Pointer x0 x1) e = ap (λ (v : Fault). see_form fr (starts_of fr) (sound_form (Ti.Pointer x0 x1) v)) e
  value-shows (Ti.ValuePointer x0 x1 x2) e = refl
  value-shows (Ti.Array x0 x1 x2) e =
      ap (λ (v : Fault). see_form fr (starts_of fr) (sound_form (Ti.Array x0 x1 x2) v)) e
  value-shows (Ti.Struct x0 x1 x2) e = never (cc)
  value-shows (Ti.Image x0 x1 x2) e = refl
  value-shows (Ti.Sampler x0) e = refl
  value-shows (Ti.AccelerationStructure x0) e = refl
  value-shows (Ti.RayQuery x0) e = refl
  value-shows (Ti.BindingArray x0 x1) e
      = ap (λ (v : Fault). see_form fr (starts_of fr) (sound_form (Ti.BindingArray x0 x1) v)) e

  -- ROWS

  shown-none : (s : Starts) (e : Expression) → shown fr s e ≡ none → e ≡ Ex.Math
  shown-none s (Ex.Literal x0) h = never (cc)
  shown-none s (Ex.Constant x0) h = never (cc)
  shown-none s (Ex.Override x0) h = never (cc)
  shown-none s (Ex.ZeroValue x0) h = never (cc)
  shown-none s (Ex.Compose x0 x1 x2) h = never (cc)
  shown-none s (Ex.Access x0) h = never (cc)
  shown-none s (Ex.AccessIndex x0 x1) h = never (cc)
  shown-none s (Ex.Splat x0 x1) h = never (cc)
  shown-none s (Ex.Swizzle x0 x1) h = never (cc)
  shown-none s (Ex.FunctionArgument x0) h = never (cc)
  shown-none s (Ex.GlobalVariable x0) h = never (cc)
  shown-none s (Ex.LocalVariable x0) h = never (cc)
  shown-none s (Ex.Load x0) h = never (cc)
  shown-none s (Ex.ImageSample x0 x1) h = never (cc)
  shown-none s (Ex.ImageLoad x0) h = never (cc)
  shown-none s (Ex.ImageQuery x0 x1) h = never (cc)
  shown-none s (Ex.Unary x0) h = never (cc)
  shown-none s (Ex.Binary x0 x1 x2) h = never (cc)
  shown-none s (Ex.Select x0) h = never (cc)
  shown-none s (Ex.Derivative x0) h = never (cc)
  shown-none s (Ex.Relational x0 x1) h = never (cc)
  shown-none s Ex.Math h = refl
  shown-none s (Ex.As x0 x1 x2) h = never (cc)
  shown-none s (Ex.CallResult x0) h = never (cc)
  shown-none s (Ex.AtomicResult x0) h = never (cc)
  shown-none s (Ex.WorkGroupUniformLoadResult x0) h = never (cc)
  shown-none s Ex.ArrayLength h = never (cc)
  shown-none s Ex.RayQueryVertexPositions h = never (cc)
  shown-none s Ex.RayQueryProceedResult h = never (cc)
  shown-none s Ex.RayQueryGetIntersection h = never (cc)
  shown-none s Ex.SubgroupBallotResult h = never (cc)
  shown-none s (Ex.SubgroupOperationResult x0) h = never (cc)
  shown-none s (Ex.CooperativeLoad x0 x1 x2 x3) h = never (cc)
  shown-none s (Ex.CooperativeMultiplyAdd x0) h = never (cc)

  only-math : (k : RowKind) (f : Frame) → row_as k f ≡ Some Ex.Math → k ≡ Rk.Math
  only-math Rk.Unknown f e = never (cc)
  only-math Rk.Literal f e = never (cc)
  only-math Rk.Constant f e = never (cc)
  only-math Rk.Override f e = never (cc)
  only-math Rk.ZeroValue f e = never (cc)
  only-math Rk.Compose f e = never (cc)
  only-math Rk.Access f e = never (cc)
  only-math Rk.AccessIndex f e = never (cc)
  only-math Rk.Splat f e = never (cc)
  only-math Rk.Swizzle f e = never (cc)
  only-math Rk.FunctionArgument f e = never (cc)
  only-math Rk.GlobalVariable f e = never (cc)
  only-math Rk.LocalVariable f e = never (cc)
  only-math Rk.Load f e = never (cc)
  only-math Rk.ImageSample f e = never (cc)
  only-math Rk.ImageLoad f e = never (cc)
  only-math Rk.ImageQuery f e = never (cc)
  only-math Rk.Unary f e = never (cc)
  only-math Rk.Binary f e = never (cc)
  only-math Rk.Select f e = never (cc)
  only-math Rk.Derivative f e = never (cc)
  only-math Rk.Relational f e = never (cc)
  only-math Rk.Math f e = refl
  only-math Rk.As f e = never (cc)
  only-math Rk.CallResult f e = never (cc)
  only-math Rk.AtomicResult f e = never (cc)
  only-math Rk.WorkGroupUniformLoadResult f e = never (cc)
  only-math Rk.ArrayLength f e = never (cc)
  only-math Rk.RayQueryVertexPositions f e = never (cc)
  only-math Rk.RayQueryProceedResult f e = never (cc)
  only-math Rk.RayQueryGetIntersection f e = never (cc)
  only-math Rk.SubgroupBallotResult f e = never (cc)
  only-math Rk.SubgroupOperationResult f e = never (cc)
  only-math Rk.CooperativeLoad f e = never (cc)
  only-math Rk.CooperativeMultiplyAdd f e = never (cc)

  -- a row is a Math row exactly when byte 1 is 22
  pub math-frame : (f : Frame) → (row_of f ≡ Some Ex.Math) ↔ (byte f 1 ≡ 22)
  unfolding row_of
  math-frame f = (
    λ e. go (only-math (row_kind_of (byte f 1)) f e) (dec_lt (byte f 1) 35),
    λ e. ap (λ (b : ℕ). row_as (row_kind_of b) f) e,
  )
    where
      go : row_kind_of (byte f 1) ≡ Rk.Math → Dec (byte f 1 < 35) → byte f 1 ≡ 22
      go m (yes l) = sym (row_kind-number (byte f 1) l) ∙ ap row_kind_number m
      go m (no l) = never (let u : row_kind_of (byte f 1) ≡ Rk.Unknown =
          (unknown-row (byte f 1)).1 (inr (omega arith)) in
          cc)

  row-none : (n : RowNumber) (r : Option Expression) → row_at fr n ≡ r
      → (see fr (kind n) ≡ none) ↔ ((r ≡ None) ⊎ (r ≡ Some Ex.Math))
  row-none n (Some e) q = (λ h. inr (ap Some (shown-none (starts_of fr) e (rw q at h))), back)
    where
      back : (Some e ≡ None) ⊎ (Some e ≡ Some Ex.Math) → see fr (kind n) ≡ none
      back (inl h) = never (cc)
      back (inr h) = let m : e ≡ Ex.Math = cc in rw (q, m)
  row-none n None q = (λ h. inl refl, λ h. rw q)

  -- a row of the file shows nothing exactly when byte 1 is outside 1 to 34, or 22
  pub row-newer : (n : RowNumber) → is_row (starts_of fr) n ≡ true
      → let b = byte (frame_at fr ((starts_of fr).rows + n.0)) 1 in
      (see fr (kind n) ≡ none) ↔ (((b ≡ 0) ⊎ (35 ≤ b)) ⊎ (b ≡ 22))
  unfolding row_in
  row-newer n i =
      let f = frame_at fr ((starts_of fr).rows + n.0) in
      let e : row_at fr n ≡ row_of f = rw i in
      (λ h. there f ((row-none n (row_of f) e).0 h), λ h. (row-none n (row_of f) e).1 (back f h))
    where
      there : (f : Frame) → (row_of f ≡ None) ⊎ (row_of f ≡ Some Ex.Math) → ((byte f 1 ≡ 0) ⊎ (35 ≤ byte f 1))
          ⊎ (byte f 1 ≡ 22)
      there f (inl h) = inl ((unknown-row-frame f).0 h)
      there f (inr h) = inr ((math-frame f).0 h)

      back : (f : Frame) → ((byte f 1 ≡ 0) ⊎ (35 ≤ byte f 1)) ⊎ (byte f 1 ≡ 22) → (row_of f ≡ None)
          ⊎ (row_of f ≡ Some Ex.Math)
      back f (inl h) = inl ((unknown-row-frame f).1 h)
      back f (inr h) = inr ((math-frame f).1 h)

  -- IMAGES: every class shows itself

  pub texels-shown : (c : ImageClass) → see fr (texels c) ≡ some c
  texels-shown c = refl

  -- THE FIRST RULES

  -- the class of a storage image shows nothing
  pub first-storage : (f : StorageFormat) (a : StorageAccess) → first_see fr (texels (Ic.Storage f a)) ≡ none
  first-storage f a = refl

  -- what `first_see` shows, `see` shows alike
  pub sees_more : (c : Thing) (s : Seen c) → first_see fr c ≡ some s → see fr c ≡ some s
  sees_more (kind n) s e = e
  sees_more (form a) s e = e
  sees_more (texels (Ic.Sampled k m)) s e = e
  sees_more (texels (Ic.Depth m)) s e = e
  sees_more (texels Ic.External) s e = e
  sees_more (texels (Ic.Storage f a)) s e = never (cc)
  sees_more (struct_number a) s e = e
  sees_more (fault a) s e = e
