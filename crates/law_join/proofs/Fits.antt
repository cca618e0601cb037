-- THE NUMBERS OF A MOVED FRAME FIT THEIR BYTES: what a frame of the second file names is one of at most 1,024, and so
-- is what it is moved past. Kind by kind; an argument index, which is free, fits where it is found.
use Prim.Native.Nat.{ℕ, ◌+◌, ◌-◌, ◌≤◌, ◌<◌}
use native.Mathlib.Omega.{arith}
use mathlib.Core.Path.{◌≡◌, refl, sym, ap, ◌∙◌}
use mathlib.Core.Bool.{Bool, true, false, ◌&&◌}
use mathlib.Core.List.{[], ◌∷◌}
use lib.Dec.{ltb, eqb}
use borrow.Author.Tests.{ltb-true, leb-true}
use Rattle.scan.proofs.Laws.{and_first, and_second}
use Rattle.ir.specs.declared.TypeKind.{TypeKind}
use Rattle.ir.specs.declared.TypeKind.TheVariants as Tk
use Rattle.ir.specs.declared.ItemKind.{ItemKind}
use Rattle.ir.specs.declared.ItemKind.TheVariants as Ik
use Rattle.ir.specs.declared.RowKind.{RowKind}
use Rattle.ir.specs.declared.RowKind.TheVariants as Rk
use Rattle.ir.specs.declared.ArraySize.{ArraySize}
use Rattle.ir.specs.declared.ArraySize.TheVariants as As
use Rattle.ir.specs.declared.ImageQuery.{ImageQuery}
use Rattle.ir.specs.declared.ImageQuery.TheVariants as Iq
use Rattle.ir.specs.declared.RelationalFunction.{RelationalFunction}
use Rattle.ir.specs.declared.RelationalFunction.TheVariants as Rl
use Rattle.ir.specs.Numbers.{image_query_of, relational_function_of, flag_of}
use Rattle.frames.specs.declared.Frame.{Frame}
use Rattle.frames.specs.Bytes.{byte, half, word}
use Rattle.frames.specs.Fields.{array_size_of}
use Rattle.frames.specs.Forms.{type_as, item_as, row_as}
use Rattle.frames.proofs.FieldBack.{Below}
use Rattle.archive.specs.declared.Starts.{Starts}
use Rattle.archive.specs.Starts.{type_count, member_count, constant_count, override_count, global_count, local_count}
use Rattle.archive.specs.Starts.{function_count, row_count, component_count}
use Rattle.archive.specs.Names.{size_names, type_form_names, item_names, row_form_names, query_names, relational_names}
use Rattle.law_moved.specs.Moves.{Moves}
use Rattle.law_moved.specs.Frames.{two, types, size_numbers, type_numbers, result_numbers, item_numbers, query_numbers}
use Rattle.law_moved.specs.Frames.{relational_numbers, row_numbers, moved_in}
use Rattle.law_moved.proofs.Files.{Ordered}
use Rattle.law_moved.proofs.Written.{AllFit}
use Rattle.law_join.specs.Join.{join_moves}

-- the counts of a file's families are small
pub record Few (s : Starts) : Type 0 where
  pub ordered : Ordered s
  pub few : s.end ≤ 1024

module _ (s t : Starts) (fs : Few s) (ft : Few t) where
  abbrev m : Moves
  m = join_moves s

  -- each count is at most 1,024
  record Small (x : Starts) : Type 0 where
    pub types : type_count x ≤ 1024
    pub members : member_count x ≤ 1024
    pub constants : constant_count x ≤ 1024
    pub overrides : override_count x ≤ 1024
    pub globals : global_count x ≤ 1024
    pub arguments : x.locals - x.arguments ≤ 1024
    pub locals : local_count x ≤ 1024
    pub functions : function_count x ≤ 1024
    pub rows : row_count x ≤ 1024
    pub components : component_count x ≤ 1024

  small : (x : Starts) → Few x → Small x
  small x f =
      let o = f.ordered in let e = f.few in
      let a1 = o.constants in let a2 = o.overrides in let a3 = o.globals in let a4 = o.arguments in
      let a5 = o.locals in let a6 = o.functions in let a7 = o.intersections in
      let a8 = o.vertex-returns in let a9 = o.rows in let a10 = o.components in let a11 = o.end in
      record {
        types = omega arith;
        members = omega arith;
        constants = omega arith;
        overrides = omega arith;
        globals = omega arith;
        arguments = omega arith;
        locals = omega arith;
        functions = omega arith;
        rows = omega arith;
        components = omega arith;
      }

  a : Small s
  a = small s fs

  b : Small t
  b = small t ft

  pub type-fit : (n : ℕ) → ltb n (type_count t) ≡ true → n + type_count s < 65536
  type-fit n h = let x = a.types in let y = b.types in let l = ltb-true n (type_count t) h in omega arith

  row-fit : (n k : ℕ) → k < 1024 → ltb n k ≡ true → n + row_count s < 65536
  row-fit n k w h = let x = a.rows in let l = ltb-true n k h in omega arith

  pub own-row-fit : (n : ℕ) → ltb n (row_count t) ≡ true → n + row_count s < 65536
  own-row-fit n h = let x = a.rows in let y = b.rows in let l = ltb-true n (row_count t) h in omega arith

  -- TYPES

  size-fit : (f : Frame) (n : ℕ) → n < 1024 → (z : ArraySize) → array_size_of (byte f 4) (word f 8) ≡ z
      → (ltb (half f 2) n && size_names t (array_size_of (byte f 4) (word f 8))) ≡ true
      → AllFit (join_moves s) (two types 2 ∷ size_numbers z) f
  size-fit f n w z e h = (
    let x = a.types in let l = ltb-true (half f 2) n (and_first (ltb (half f 2) n) _ h) in
        omega arith,
    rest z e (and_second (ltb (half f 2) n) _ h),
  )
    where
      rest : (z : ArraySize) → array_size_of (byte f 4) (word f 8) ≡ z
          → size_names t (array_size_of (byte f 4) (word f 8))
          ≡ true → AllFit (join_moves s) (size_numbers z) (moved_in m (two types 2 ∷ []) f)
      rest (As.Constant k) e h = tt
      rest (As.Pending o) e h =
          let g : ltb o.0 (override_count t) ≡ true = sym (ap (size_names t) e) ∙ h in
          let l = ltb-true o.0 (override_count t) g in
          let x = a.overrides in let y = b.overrides in
          let i : word f 8 ≡ o.0 = pending (eqb (byte f 4) 0) (eqb (byte f 4) 1) refl refl in
          (omega arith, tt)
        where
          pending : (p q : Bool) → eqb (byte f 4) 0 ≡ p → eqb (byte f 4) 1 ≡ q → word f 8 ≡ o.0
          pending true q u v = let z : As.Constant (word f 8) ≡ As.Pending o = sym (rw u) ∙ e in
              let y : ◌≡◌ {A = ℕ} 0 1 = cc in absurd (omega arith)
          pending false true u v = let z : As.Pending (record { 0 = word f 8 }) ≡ As.Pending o = sym (rw (u, v)) ∙ e in
              cc
          pending false false u v = let z : As.Dynamic ≡ As.Pending o = sym (rw (u, v)) ∙ e in
              let y : ◌≡◌ {A = ℕ} 0 1 = cc in absurd (omega arith)
      rest As.Dynamic e h = tt

  pub type-fits : (k : TypeKind) (f : Frame) (n : ℕ) → n < 1024
      → type_form_names t (record { 0 = n }) (type_as k f) ≡ true
      → AllFit (join_moves s) (type_numbers k f) f
  type-fits Tk.Unknown f n w h = tt
  type-fits Tk.Scalar f n w h = tt
  type-fits Tk.Vector f n w h = tt
  type-fits Tk.Matrix f n w h = tt
  type-fits Tk.CooperativeMatrix f n w h = tt
  type-fits Tk.Atomic f n w h = tt
  type-fits Tk.Pointer f n w h = (let x = a.types in let l = ltb-true (half f 2) n h in omega arith, tt)
  type-fits Tk.ValuePointer f n w h = tt
  type-fits Tk.Array f n w h = size-fit f n w (array_size_of (byte f 4) (word f 8)) refl h
  type-fits Tk.Struct f n w h = (
    let x = a.members in let y = b.members in
        let l = leb-true (half f 2 + half f 4) (member_count t) h in omega arith,
    tt,
  )
  type-fits Tk.Image f n w h = tt
  type-fits Tk.Sampler f n w h = tt
  type-fits Tk.AccelerationStructure f n w h = tt
  type-fits Tk.RayQuery f n w h = tt
  type-fits Tk.BindingArray f n w h = size-fit f n w (array_size_of (byte f 4) (word f 8)) refl h

  -- ITEMS

  result_fits : (f : Frame) (q : Bool) → flag_of (byte f 4) ≡ q → item_names t (item_as Ik.Function f) ≡ true
      → AllFit (join_moves s) (result_numbers q) f
  result_fits f true e h = (type-fit (half f 2) (rw e at h), tt)
  result_fits f false e h = tt

  pub item-fits : (k : ItemKind) (f : Frame) → item_names t (item_as k f) ≡ true
      → AllFit (join_moves s) (item_numbers k f) f
  item-fits Ik.Unknown f h = tt
  item-fits Ik.Constant f h = (type-fit (half f 2) h, tt)
  item-fits Ik.Override f h = (type-fit (half f 2) h, tt)
  item-fits Ik.GlobalVariable f h = (type-fit (half f 2) h, tt)
  item-fits Ik.FunctionArgument f h = (type-fit (half f 2) h, tt)
  item-fits Ik.LocalVariable f h = (type-fit (half f 2) h, tt)
  item-fits Ik.Function f h = result_fits f (flag_of (byte f 4)) refl h
  item-fits Ik.RayIntersection f h = (type-fit (half f 2) h, tt)
  item-fits Ik.RayVertexReturn f h = (type-fit (half f 2) h, tt)

  -- ROWS

  query-fits : (f : Frame) (n : ℕ) → n < 1024 → (q : ImageQuery)
      → query_names (record { 0 = n }) (record { 0 = half f 2 }) q ≡ true → AllFit (join_moves s) (query_numbers q) f
  query-fits f n w Iq.Size h = (row-fit (half f 2) n w h, tt)
  query-fits f n w Iq.NumLevels h = tt
  query-fits f n w Iq.NumLayers h = tt
  query-fits f n w Iq.NumSamples h = tt

  relational-fits : (f : Frame) (n : ℕ) → n < 1024 → (q : RelationalFunction)
      → relational_names (record { 0 = n }) q (record { 0 = half f 2 }) ≡ true
      → AllFit (join_moves s) (relational_numbers q) f
  relational-fits f n w Rl.All h = tt
  relational-fits f n w Rl.Any h = tt
  relational-fits f n w Rl.IsNan h = (row-fit (half f 2) n w h, tt)
  relational-fits f n w Rl.IsInf h = (row-fit (half f 2) n w h, tt)

  pub row_fits : (k : RowKind) (f : Frame) → Below f → (n : ℕ) → n < 1024
      → row_form_names t (record { 0 = n }) (row_as k f) ≡ true
      → (k ≡ Rk.FunctionArgument → word f 12 < t.locals - t.arguments)
      → AllFit (join_moves s) (row_numbers k f) f
  row_fits Rk.Unknown f e n w h q = tt
  row_fits Rk.Literal f e n w h q = tt
  row_fits Rk.Constant f e n w h q = (
    let x = a.constants in let y = b.constants in
        let l = ltb-true (half f 2) (constant_count t) h in omega arith,
    tt,
  )
  row_fits Rk.Override f e n w h q = (
    let x = a.overrides in let y = b.overrides in
        let l = ltb-true (half f 2) (override_count t) h in omega arith,
    tt,
  )
  row_fits Rk.ZeroValue f e n w h q = (type-fit (half f 2) h, tt)
  row_fits Rk.Compose f e n w h q = (
    type-fit (half f 2) (and_first (ltb (half f 2) (type_count t)) _ h),
    (
      let c = e 4 in let d = e 5 in
          omega arith,
      (
        let x = a.components in let y = b.components in
            let l = leb-true (word f 12 + half f 4) (component_count t)
            (and_second (ltb (half f 2) (type_count t)) _ h) in omega arith,
        tt,
      ),
    ),
  )
  row_fits Rk.Access f e n w h q = (row-fit (half f 2) n w h, tt)
  row_fits Rk.AccessIndex f e n w h q = (row-fit (half f 2) n w h, tt)
  row_fits Rk.Splat f e n w h q = (row-fit (half f 2) n w h, tt)
  row_fits Rk.Swizzle f e n w h q = (row-fit (half f 2) n w h, tt)
  row_fits Rk.FunctionArgument f e n w h q = (
    let x = a.arguments in let y = b.arguments in let l = q refl in
        omega arith,
    tt,
  )
  row_fits Rk.GlobalVariable f e n w h q = (
    let x = a.globals in let y = b.globals in
        let l = ltb-true (half f 2) (global_count t) h in omega arith,
    tt,
  )
  row_fits Rk.LocalVariable f e n w h q = (
    let x = a.locals in let y = b.locals in
        let l = ltb-true (half f 2) (local_count t) h in omega arith,
    tt,
  )
  row_fits Rk.Load f e n w h q = (row-fit (half f 2) n w h, tt)
  row_fits Rk.ImageSample f e n w h q = (row-fit (half f 2) n w h, tt)
  row_fits Rk.ImageLoad f e n w h q = (row-fit (half f 2) n w h, tt)
  row_fits Rk.ImageQuery f e n w h q = query-fits f n w (image_query_of (byte f 6)) h
  row_fits Rk.Unary f e n w h q = (row-fit (half f 2) n w h, tt)
  row_fits Rk.Binary f e n w h q = (
    row-fit (half f 2) n w (and_first (ltb (half f 2) n) _ h),
    (row-fit (half f 4) n w (and_second (ltb (half f 2) n) _ h), tt),
  )
  row_fits Rk.Select f e n w h q = (row-fit (half f 2) n w h, tt)
  row_fits Rk.Derivative f e n w h q = (row-fit (half f 2) n w h, tt)
  row_fits Rk.Relational f e n w h q = relational-fits f n w (relational_function_of (byte f 6)) h
  row_fits Rk.Math f e n w h q = tt
  row_fits Rk.As f e n w h q = (row-fit (half f 2) n w h, tt)
  row_fits Rk.CallResult f e n w h q = (
    let x = a.functions in let y = b.functions in
        let l = ltb-true (half f 2) (function_count t) h in omega arith,
    tt,
  )
  row_fits Rk.AtomicResult f e n w h q = (type-fit (half f 2) h, tt)
  row_fits Rk.WorkGroupUniformLoadResult f e n w h q = (type-fit (half f 2) h, tt)
  row_fits Rk.ArrayLength f e n w h q = tt
  row_fits Rk.RayQueryVertexPositions f e n w h q = tt
  row_fits Rk.RayQueryProceedResult f e n w h q = tt
  row_fits Rk.RayQueryGetIntersection f e n w h q = tt
  row_fits Rk.SubgroupBallotResult f e n w h q = tt
  row_fits Rk.SubgroupOperationResult f e n w h q = (type-fit (half f 2) h, tt)
  row_fits Rk.CooperativeLoad f e n w h q = (row-fit (half f 2) n w h, tt)
  row_fits Rk.CooperativeMultiplyAdd f e n w h q = (row-fit (half f 2) n w h, tt)
