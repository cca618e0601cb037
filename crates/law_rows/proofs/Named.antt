-- In an accepted file what each row and each type names is there: check 6 has the numbers and the ranges, and the
-- starts have the families. By the kinds of rows and types.
use Prim.Native.Nat.{ℕ, ◌+◌, ◌-◌, ◌≤◌, ◌<◌}
use native.Mathlib.Decide.{dec_lt}
use native.Mathlib.Omega.{arith}
use mathlib.Core.Path.{◌≡◌, refl, sym, ap, ◌∙◌}
use mathlib.Core.Bool.{Bool, true, cond, ◌&&◌}
use mathlib.Core.List.{List}
use mathlib.Core.Logic.{inr}
use lib.Dec.{ltb}
use borrow.Author.Tests.{eq-eqb, ltb-true, leb-true}
use Rattle.scan.proofs.Laws.{and_first, and_second}
use Rattle.ir.specs.declared.TypeNumber.{TypeNumber}
use Rattle.ir.specs.declared.RowNumber.{RowNumber}
use Rattle.ir.specs.declared.TypeKind.{TypeKind}
use Rattle.ir.specs.declared.TypeKind.TheVariants as Tk
use Rattle.ir.specs.declared.RowKind.{RowKind}
use Rattle.ir.specs.declared.RowKind.TheVariants as Rk
use Rattle.ir.specs.Numbers.{type_kind_of, type_kind_number, row_kind_of, row_kind_number}
use Rattle.ir.proofs.Numbered.{type_kind-number, row_kind-number, unknown-type, unknown-row}
use Rattle.frames.specs.declared.Frame.{Frame}
use Rattle.frames.specs.Bytes.{byte, half, word, frame_at, frame_count}
use Rattle.frames.specs.Forms.{type_as, type_of, row_as, row_of, member_of, component_of}
use Rattle.archive.specs.declared.Starts.{Starts}
use Rattle.archive.specs.declared.Owner.TheVariants as Ow
use Rattle.archive.specs.declared.Held.TheVariants as He
use Rattle.archive.specs.Starts.{start, starts_of}
use Rattle.archive.specs.Names.{is_type, is_row, type_form_names, row_form_names}
use Rattle.archive.specs.Parts.{is_compose, held_by, members_of, components_of}
use Rattle.archive.specs.Access.{type_in, row_in}
use Rattle.archive.proofs.Files.{type-names, row-names, part-early}
use Rattle.law_rows.proofs.Good.{Good, OfFamily, IsItem, type-at, member-at, item-at, last-item-at, row-at}
use Rattle.law_rows.proofs.Good.{component-at}
use Rattle.law_rows.proofs.There.{IsMember, IsComponent, TypeThere, RowThere}

never : {X : Type 0} → ◌≡◌ {A = ℕ} 0 1 → X
never z = absurd (omega arith)

-- a kind's number stands in byte 1
struct-byte : (b : ℕ) → type_kind_of b ≡ Tk.Struct → b ≡ 9
struct-byte b e = go (dec_lt b 15)
  where
    go : Dec (b < 15) → b ≡ 9
    go (yes l) = sym (type_kind-number b l) ∙ ap type_kind_number e
    go (no l) = never (let u : type_kind_of b ≡ Tk.Unknown = (unknown-type b).1 (inr (omega arith)) in cc)

compose-byte : (b : ℕ) → row_kind_of b ≡ Rk.Compose → b ≡ 5
compose-byte b e = go (dec_lt b 35)
  where
    go : Dec (b < 35) → b ≡ 5
    go (yes l) = sym (row_kind-number b l) ∙ ap row_kind_number e
    go (no l) = never (let u : row_kind_of b ≡ Rk.Unknown = (unknown-row b).1 (inr (omega arith)) in cc)

both : (a b : Bool) → a ≡ true → b ≡ true → (a && b) ≡ true
both a b p q = rw (p, q)

-- a struct holds its members, and a compose its components
struct_holds : (s : Starts) (o : ℕ) (f : Frame) → f.b0 ≡ 1 → f.b1 ≡ 9 → held_by s o f
    ≡ members_of s (record { 0 = o }) f
struct_holds s o f a b =
    ap (λ (c : Bool). cond c (members_of s (record { 0 = o }) f)
    (cond (is_compose f) (components_of s (record { 0 = o - s.rows }) f) He.Nothing))
    (both _ _ (eq-eqb _ _ a) (eq-eqb _ _ b))

compose-holds : (s : Starts) (o : ℕ) (f : Frame) → f.b0 ≡ 4 → f.b1 ≡ 5 → held_by s o f
    ≡ components_of s (record { 0 = o - s.rows }) f
compose-holds s o f a b = rw (a, b)

module _ (fr : List ℕ) (good : Good fr) where
  -- TYPES
  module _ (n : TypeNumber) (is : OfFamily fr 1 n.0) where
    abbrev of-type : Frame
    of-type = frame_at fr n.0

    member-there : type_kind_of (byte of-type 1) ≡ Tk.Struct
        → half of-type 2 + half of-type 4 ≤ (starts_of fr).constants - (starts_of fr).members
        → (i : ℕ) → i < half of-type 4 → IsMember fr n ((starts_of fr).members + half of-type 2 + i)
    unfolding starts_of
    member-there e fits i l =
        let k = (starts_of fr).members + half of-type 2 + i in
        let frame = member-at fr good k (omega arith) (omega arith) in
        record {
          frame = frame;
          early = ltb-true _ _ (part-early fr good.index k frame.within n.0 _ _ (Ow.Struct n) is.within
              (struct_holds (starts_of fr) n.0 of-type is.family-is (struct-byte _ e)) (omega arith)
              (omega arith));
        }

    type-there : (k : TypeKind) → type_kind_of (byte of-type 1) ≡ k
        → type_form_names (starts_of fr) n (type_as k of-type)
        ≡ true
        → TypeThere fr n (type_as k of-type)
    type-there Tk.Unknown e h = tt
    type-there Tk.Scalar e h = tt
    type-there Tk.Vector e h = tt
    type-there Tk.Matrix e h = tt
    type-there Tk.CooperativeMatrix e h = tt
    type-there Tk.Atomic e h = tt
    type-there Tk.Pointer e h = ltb-true _ _ h
    type-there Tk.ValuePointer e h = tt
    type-there Tk.Array e h = (ltb-true _ _ (and_first _ _ h), and_second (ltb (half of-type 2) n.0) _ h)
    type-there Tk.Struct e h = member-there e (leb-true _ _ h)
    type-there Tk.Image e h = tt
    type-there Tk.Sampler e h = tt
    type-there Tk.AccelerationStructure e h = tt
    type-there Tk.RayQuery e h = tt
    type-there Tk.BindingArray e h = (ltb-true _ _ (and_first _ _ h), and_second (ltb (half of-type 2) n.0) _ h)

  -- every type of the file: what it names is there
  pub type-named : (n : TypeNumber) → is_type (starts_of fr) n ≡ true → TypeThere fr n (type_in fr (starts_of fr) n)
  unfolding type_in type_of starts_of
  type-named n here =
      let is = type-at fr good n.0 (ltb-true _ _ here) in
      let f = frame_at fr n.0 in
      let q : type_in fr (starts_of fr) n ≡ type_of f = rw here in
      rw q (type-there n is (type_kind_of (byte f 1)) refl
      (type-names fr good.index n.0 is.within is.family-is))

  -- ROWS
  module _ (n : RowNumber) (is : OfFamily fr 4 ((starts_of fr).rows + n.0)) where
    abbrev of_row : Frame
    of_row = frame_at fr ((starts_of fr).rows + n.0)

    component-there : row_kind_of (byte of_row 1) ≡ Rk.Compose
        → word of_row 12 + half of_row 4 ≤ (starts_of fr).end - (starts_of fr).components
        → (i : ℕ) → i < half of_row 4 → IsComponent fr n ((starts_of fr).components + word of_row 12 + i)
    unfolding starts_of
    component-there e fits i l =
        let k = (starts_of fr).components + word of_row 12 + i in
        let frame = component-at fr good k (omega arith) (omega arith) in
        let o = (starts_of fr).rows + n.0 in
        let early : (component_of (frame_at fr k)).0 < o - (starts_of fr).rows = ltb-true _ _
        (part-early fr good.index k frame.within o _ _ (Ow.Compose (record { 0 = o - (starts_of fr).rows }))
        is.within
        (compose-holds (starts_of fr) o of_row is.family-is (compose-byte _ e)) (omega arith) (omega arith)) in
        record { frame = frame; early = omega arith }

    -- item i of kind j, whose family begins at its own start and ends at the next one
    item-there : (j i : ℕ) → 1 ≤ j → j ≤ 7 → i < start fr (769 + j) - start fr (768 + j)
        → IsItem fr j (start fr (768 + j) + i)
    item-there j i a b l = item-at fr good j _ a b (omega arith) (omega arith)

    row-there : (k : RowKind) → row_kind_of (byte of_row 1) ≡ k
        → row_form_names (starts_of fr) n (row_as k of_row) ≡ true
        → RowThere fr n (row_as k of_row)
    unfolding starts_of
    row-there Rk.Unknown e h = tt
    row-there Rk.Literal e h = tt
    row-there Rk.Constant e h = item-there 1 _ (omega arith) (omega arith) (ltb-true _ _ h)
    row-there Rk.Override e h = item-there 2 _ (omega arith) (omega arith) (ltb-true _ _ h)
    row-there Rk.ZeroValue e h = h
    row-there Rk.Compose e h = (
      and_first _ _ h,
      component-there e
          (leb-true _ _ (and_second (is_type (starts_of fr) (record { 0 = half of_row 2 })) _ h)),
    )
    row-there Rk.Access e h = ltb-true _ _ h
    row-there Rk.AccessIndex e h = ltb-true _ _ h
    row-there Rk.Splat e h = ltb-true _ _ h
    row-there Rk.Swizzle e h = ltb-true _ _ h
    row-there Rk.FunctionArgument e h = λ l. item-there 4 _ (omega arith) (omega arith) l
    row-there Rk.GlobalVariable e h = item-there 3 _ (omega arith) (omega arith) (ltb-true _ _ h)
    row-there Rk.LocalVariable e h = item-there 5 _ (omega arith) (omega arith) (ltb-true _ _ h)
    row-there Rk.Load e h = ltb-true _ _ h
    row-there Rk.ImageSample e h = ltb-true _ _ h
    row-there Rk.ImageLoad e h = ltb-true _ _ h
    row-there Rk.ImageQuery e h = h
    row-there Rk.Unary e h = ltb-true _ _ h
    row-there Rk.Binary e h =
        (ltb-true _ _ (and_first _ _ h), ltb-true _ _ (and_second (ltb (half of_row 2) n.0) _ h))
    row-there Rk.Select e h = ltb-true _ _ h
    row-there Rk.Derivative e h = ltb-true _ _ h
    row-there Rk.Relational e h = h
    row-there Rk.Math e h = tt
    row-there Rk.As e h = ltb-true _ _ h
    row-there Rk.CallResult e h = item-there 6 _ (omega arith) (omega arith) (ltb-true _ _ h)
    row-there Rk.AtomicResult e h = h
    row-there Rk.WorkGroupUniformLoadResult e h = h
    row-there Rk.ArrayLength e h = tt
    row-there Rk.RayQueryVertexPositions e h = λ l. last-item-at fr good _ (omega arith) (omega arith)
    row-there Rk.RayQueryProceedResult e h = tt
    row-there Rk.RayQueryGetIntersection e h = λ l. item-there 7 0 (omega arith) (omega arith) l
    row-there Rk.SubgroupBallotResult e h = tt
    row-there Rk.SubgroupOperationResult e h = h
    row-there Rk.CooperativeLoad e h = ltb-true _ _ h
    row-there Rk.CooperativeMultiplyAdd e h = ltb-true _ _ h

  -- row n is frame n of the rows
  pub row-frame : (n : RowNumber) → is_row (starts_of fr) n ≡ true → OfFamily fr 4 ((starts_of fr).rows + n.0)
  unfolding starts_of
  row-frame n here =
      let l : n.0 < (starts_of fr).components - (starts_of fr).rows = ltb-true _ _ here in
      row-at fr good _ (omega arith) (omega arith)

  -- every row of the file: what it names is there
  pub row-named : (n : RowNumber) → is_row (starts_of fr) n ≡ true → RowThere fr n (row_in fr (starts_of fr) n)
  unfolding row_in row_of
  row-named n here =
      let is = row-frame n here in
      let k = (starts_of fr).rows + n.0 in
      let f = frame_at fr k in
      let q : row_in fr (starts_of fr) n ≡ row_of f = rw here in
      let i : k - (starts_of fr).rows ≡ n.0 = omega arith in
      rw q (row-there n is (row_kind_of (byte f 1)) refl
      (ap (λ (x : ℕ). row_form_names (starts_of fr) (record { 0 = x }) (row_of f)) (sym i)
      ∙ row-names fr good.index k is.within is.family-is))
