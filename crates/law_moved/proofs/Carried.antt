-- A ROW, AND EACH THING THAT A READING COMES TO, of a file that is carried into another shows there what it shows, with
-- its numbers moved: by the items that a row names, then expression by expression.
use Rattle.std.specs.Prelude.{Option as CodeOption, Some, None}
use Prim.Native.Nat.{ℕ, ◌+◌, ◌-◌, ◌≤◌, ◌<◌}
use native.Mathlib.Omega.{arith}
use mathlib.Core.Path.{◌≡◌, refl, ap, ◌∙◌}
use mathlib.Core.Bool.{true}
use mathlib.Core.List.{List}
use mathlib.Core.Option.{Option, some}
use borrow.Author.Tests.{ltb-true, lt-ltb, leb-true}
use Rattle.scan.proofs.Laws.{and_second}
use Rattle.ir.specs.declared.TypeNumber.{TypeNumber}
use Rattle.ir.specs.declared.RowNumber.{RowNumber}
use Rattle.ir.specs.declared.Expression.{Expression}
use Rattle.ir.specs.declared.Expression.TheVariants as Ex
use Rattle.frames.specs.declared.Frame.{Frame}
use Rattle.frames.specs.Bytes.{byte, frame_at}
use Rattle.frames.specs.Forms.{item_of}
use Rattle.archive.specs.declared.Starts.{Starts}
use Rattle.archive.specs.Starts.{start, starts_of, constant_count, override_count, global_count, local_count}
use Rattle.archive.specs.Starts.{function_count}
use Rattle.archive.specs.Starts.{row_count}
use Rattle.archive.specs.Names.{is_type, is_row, row_names, row_form_names}
use Rattle.archive.specs.Access.{row_in}
use Rattle.archive.proofs.Files.{row-names}
use Rattle.rule.specs.Things.{item_type, item_space, item_result, shown, Thing, kind, form, texels, struct_number}
use Rattle.rule.specs.Things.{fault}
use Rattle.rule.specs.Things.{see_row, see}
use Rattle.rule.specs.Things as Row
use Rattle.law_rows.proofs.Good.{Good, IsItem, item-at}
use Rattle.law_rows.proofs.Named.{row-frame}
use Rattle.law_rows.proofs.Ranged.{There}
use Rattle.law_rows.proofs.Seen.{in-range-sound}
use Rattle.law_moved.specs.Moves.{Moves, type_to, row_to, function_to, shows_to, expression_to, row_form_to}
use Rattle.law_moved.proofs.Alike.{Shows}
use Rattle.law_moved.proofs.Carries.{Carries, HasType, has-type, space-to, result-to}
use Rattle.law_moved.proofs.CarriedTypes.{form-shows}

module _ (m : Moves) (kept : ℕ → Type 0) (fr gr : List ℕ) (good : Good fr) (to : Carries m kept fr gr) where
  abbrev s : Starts
  s = starts_of fr

  abbrev t : Starts
  t = starts_of gr

  -- ITEMS

  constant-has : (f : Frame) → byte f 1 ≡ 1 → HasType (item_of f)
  unfolding item_of
  constant-has f e = rw e tt

  override-has : (f : Frame) → byte f 1 ≡ 2 → HasType (item_of f)
  unfolding item_of
  override-has f e = rw e tt

  global-has : (f : Frame) → byte f 1 ≡ 3 → HasType (item_of f)
  unfolding item_of
  global-has f e = rw e tt

  local_has : (f : Frame) → byte f 1 ≡ 5 → HasType (item_of f)
  unfolding item_of
  local_has f e = rw e tt

  -- item i of kind j is there
  item-there : (j i : ℕ) → 1 ≤ j → j ≤ 7 → i < start fr (769 + j) - start fr (768 + j)
      → IsItem fr j (start fr (768 + j) + i)
  item-there j i a b l = item-at fr good j _ a b (omega arith) (omega arith)

  constant-there : (i : ℕ) → i < constant_count s → IsItem fr 1 (s.constants + i)
  unfolding starts_of
  constant-there i l = item-there 1 i (omega arith) (omega arith) l

  constant-type : (i : ℕ) → i < constant_count s → item_type (item_of (frame_at gr (t.constants + m.constants i)))
      ≡ type_to m (item_type (item_of (frame_at fr (s.constants + i))))
  constant-type i l = let is = constant-there i l in has-type m _ _ (constant-has _ is.kind-is) (to.constants i l)

  override-there : (i : ℕ) → i < override_count s → IsItem fr 2 (s.overrides + i)
  unfolding starts_of
  override-there i l = item-there 2 i (omega arith) (omega arith) l

  override-type : (i : ℕ) → i < override_count s → item_type (item_of (frame_at gr (t.overrides + m.overrides i)))
      ≡ type_to m (item_type (item_of (frame_at fr (s.overrides + i))))
  override-type i l = let is = override-there i l in has-type m _ _ (override-has _ is.kind-is) (to.overrides i l)

  global-there : (i : ℕ) → i < global_count s → IsItem fr 3 (s.globals + i)
  unfolding starts_of
  global-there i l = item-there 3 i (omega arith) (omega arith) l

  global-type : (i : ℕ) → i < global_count s → item_type (item_of (frame_at gr (t.globals + m.globals i)))
      ≡ type_to m (item_type (item_of (frame_at fr (s.globals + i))))
  global-type i l = let is = global-there i l in has-type m _ _ (global-has _ is.kind-is) (to.globals i l)

  global-space : (i : ℕ) → i < global_count s → item_space (item_of (frame_at gr (t.globals + m.globals i)))
      ≡ item_space (item_of (frame_at fr (s.globals + i)))
  global-space i l =
      ap item_space (to.globals i l) ∙ space-to m (item_of (frame_at fr (s.globals + i)))

  local-there : (i : ℕ) → i < local_count s → IsItem fr 5 (s.locals + i)
  unfolding starts_of
  local-there i l = item-there 5 i (omega arith) (omega arith) l

  local-type : (i : ℕ) → i < local_count s → item_type (item_of (frame_at gr (t.locals + m.locals i)))
      ≡ type_to m (item_type (item_of (frame_at fr (s.locals + i))))
  local-type i l = let is = local-there i l in has-type m _ _ (local_has _ is.kind-is) (to.locals i l)

  function-result : (i : ℕ) → i < function_count s → item_result (item_of (frame_at gr (t.functions + m.functions i)))
      ≡ function_to m (item_result (item_of (frame_at fr (s.functions + i))))
  function-result i l =
      ap item_result (to.functions i l) ∙ result-to m (item_of (frame_at fr (s.functions + i)))

  -- ROWS

  module _ (n : RowNumber) (here : kept n.0) where
    abbrev Alike-shown : Expression → Type 0
    Alike-shown e = shown gr t (expression_to m e) ≡ shows_to m (kind n) (shown fr s e)

    expression-carried : (e : Expression) → row_in fr s n ≡ Some e → row_names s n e ≡ true → Alike-shown e
    expression-carried (Ex.Literal l) q h = refl
    expression-carried (Ex.Constant i) q h = ap (λ (x : TypeNumber). some (Row.constant x))
        (constant-type i.0 (ltb-true _ _ h))
    expression-carried (Ex.Override i) q h = ap (λ (x : TypeNumber). some (Row.override x))
        (override-type i.0 (ltb-true _ _ h))
    expression-carried (Ex.ZeroValue x) q h = refl
    expression-carried (Ex.Compose x j c) q h = ap (λ (l : List RowNumber). some (Row.compose (type_to m x) l))
        (to.parts c.0 j (leb-true _ _ (and_second (is_type s x) _ h)))
    expression-carried (Ex.Access r) q h = refl
    expression-carried (Ex.AccessIndex r i) q h = refl
    expression-carried (Ex.Splat z r) q h = refl
    expression-carried (Ex.Swizzle z r) q h = refl
    expression-carried (Ex.FunctionArgument i) q h
        = ap (λ (x : Option TypeNumber). some (Row.function_argument (m.arguments i) x))
        (to.arguments n.0 i here q)
    expression-carried (Ex.GlobalVariable i) q h
        = rw (global-type i.0 (ltb-true _ _ h), global-space i.0 (ltb-true _ _ h))
    expression-carried (Ex.LocalVariable i) q h = ap (λ (x : TypeNumber). some (Row.local_variable x))
        (local-type i.0 (ltb-true _ _ h))
    expression-carried (Ex.Load r) q h = refl
    expression-carried (Ex.ImageSample r g) q h = refl
    expression-carried (Ex.ImageLoad r) q h = refl
    expression-carried (Ex.ImageQuery r f) q h = refl
    expression-carried (Ex.Unary r) q h = refl
    expression-carried (Ex.Binary o l r) q h = refl
    expression-carried (Ex.Select r) q h = refl
    expression-carried (Ex.Derivative r) q h = refl
    expression-carried (Ex.Relational f r) q h = refl
    expression-carried Ex.Math q h = refl
    expression-carried (Ex.As r k w) q h = refl
    expression-carried (Ex.CallResult i) q h = ap (λ (x : CodeOption TypeNumber). some (Row.call_result x))
        (function-result i.0 (ltb-true _ _ h))
    expression-carried (Ex.AtomicResult x) q h = refl
    expression-carried (Ex.WorkGroupUniformLoadResult x) q h = refl
    expression-carried Ex.ArrayLength q h = refl
    expression-carried Ex.RayQueryVertexPositions q h
        = ap (λ (x : Option TypeNumber). some (Row.ray_query_vertex_positions x)) to.vertex-return
    expression-carried Ex.RayQueryProceedResult q h = refl
    expression-carried Ex.RayQueryGetIntersection q h
        = ap (λ (x : Option TypeNumber). some (Row.ray_query_get_intersection x)) to.intersection
    expression-carried Ex.SubgroupBallotResult q h = refl
    expression-carried (Ex.SubgroupOperationResult x) q h = refl
    expression-carried (Ex.CooperativeLoad c r o k) q h = refl
    expression-carried (Ex.CooperativeMultiplyAdd r) q h = refl

    row-form-carried : (r : CodeOption Expression) → row_in fr s n ≡ r → row_form_names s n r ≡ true
        → see_row gr t (row_form_to m r)
        ≡ shows_to m (kind n) (see_row fr s r)
    row-form-carried (Some e) q h = expression-carried e q h
    row-form-carried None q h = refl

    row_carried : is_row s n ≡ true → row_in gr t (row_to m n) ≡ row_form_to m (row_in fr s n)
    unfolding row_in
    row_carried h =
        let l = ltb-true n.0 (row_count s) h in
        let w : is_row t (row_to m n) ≡ true = lt-ltb (m.rows n.0) (row_count t) (to.row-in n.0 here l) in
        rw (h, w) (to.rows n.0 here l)

    row-named : is_row s n ≡ true → row_form_names s n (row_in fr s n) ≡ true
    unfolding row_in
    row-named h =
        let is = row-frame fr good n h in
        let i : s.rows + n.0 - s.rows ≡ n.0 = omega arith in
        rw h (rw i at (row-names fr good.index (s.rows + n.0) is.within is.family-is))

    pub row_shows : is_row s n ≡ true → Shows m (see fr) (see gr) (kind n)
    row_shows h = ap (see_row gr t) (row_carried h) ∙ row-form-carried (row_in fr s n) refl (row-named h)

  -- WHAT A KEPT ROW'S READING COMES TO shows the same in the second, with its numbers moved
  pub shows-there : (c : Thing) → There fr c → ((n : RowNumber) → c ≡ kind n → kept n.0)
      → Shows m (see fr) (see gr) c
  shows-there (kind n) h k = row_shows n (k n refl) h
  shows-there (form a) h k = form-shows m kept fr gr good to a (in-range-sound s a h)
  shows-there (texels c) h k = refl
  shows-there (struct_number a) h k = absurd h
  shows-there (fault a) h k = absurd h
