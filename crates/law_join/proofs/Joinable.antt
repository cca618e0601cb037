-- THE TEST OF 49 IS ITS MEANING (document 02, request 14): an accepted file passes the test exactly where it holds no
-- unknown kind, no Math row, no special type item and no row answered 19 or 20. A frame of a kind that shows something
-- shows it; and 19 and 20 come from a row that lacks its own argument or special type.
use Rattle.std.specs.Prelude.{None}
use Prim.Native.Nat.{ℕ, ◌+◌, ◌-◌, ◌<◌, ◌≤◌}
use native.Mathlib.Decide.{dec_lt}
use native.Mathlib.Omega.{arith}
use mathlib.Core.Path.{◌≡◌, refl, sym, ap, ◌∙◌, subst}
use mathlib.Core.Bool.{Bool, true, false}
use mathlib.Core.List.{List}
use mathlib.Core.Logic.{◌↔◌}
use mathlib.Core.Option.{Option, none, some}
use lib.Dec.{ltb}
use borrow.Author.Tests.{ltb-true, lt-ltb, le-ltb}
use Rattle.scan.proofs.Laws.{all-each, each_all}
use Rattle.ir.specs.declared.TypeNumber.{TypeNumber}
use Rattle.ir.specs.declared.RowNumber.{RowNumber}
use Rattle.ir.specs.declared.RowKind.{RowKind}
use Rattle.ir.specs.declared.RowKind.TheVariants as Rk
use Rattle.ir.specs.Numbers.{type_kind_of, item_kind_of, row_kind_of}
use Rattle.answers.specs.declared.Refusal.TheVariants as R
use Rattle.frames.specs.declared.Frame.{Frame}
use Rattle.frames.specs.Bytes.{byte, word, frame_at, frame_count}
use Rattle.frames.specs.Forms.{type_of, row_as}
use Rattle.archive.specs.declared.Starts.{Starts}
use Rattle.archive.specs.Starts.{starts_of, row_count}
use Rattle.archive.specs.Names.{is_type, is_row}
use Rattle.archive.specs.Access.{type_in, type_at}
use Rattle.rule.specs.Answers.{refused, told}
use Rattle.rule.specs.Things.{Shown, kind, maybe_item, see, see_row}
use Rattle.rule.specs.Things as Row
use Rattle.rule_rows.specs.declared.Pass.{Pass}
use Rattle.rule_rows.specs.declared.Pass.TheVariants as Pa
use Rattle.rule_answers.specs.Outputs.{row_answer}
use Rattle.law_rows.proofs.Good.{Good, OfFamily, IsItem, type-at, member-at, item-at, last-item-at, component-at}
use Rattle.law_rows.proofs.Named.{row-frame}
use Rattle.law_rows.proofs.Range.{row-there}
use Rattle.law_moved.proofs.Files.{starts-ordered}
use Rattle.law_join.specs.Joinable.{Joinable, item_joins, row_joins, joins_by, frame_joins, joinable}
use Rattle.law_join.proofs.Lacking.{Lacks, ResultFrom, answer-from, argument-own, return-own, intersection-own}
use Rattle.law_join.proofs.Whole.{type-known, type-joins, Shows, lacks-nothing, row-whole, shows-frame}

never : {X : Type 0} → ◌≡◌ {A = ℕ} 0 1 → X
never z = absurd (omega arith)

module _ (fr : List ℕ) (good : Good fr) where
  abbrev s : Starts
  s = starts_of fr

  -- THE TEST GIVES THE MEANING
  module _ (passes : joinable fr ≡ true) where
    at-frame : (k : ℕ) → k < frame_count fr → frame_joins (starts_of fr) (frame_at fr k) ≡ true
    unfolding joinable
    at-frame k l = all-each (λ (k : ℕ). frame_joins (starts_of fr) (frame_at fr k)) (frame_count fr) k passes l

    of-family : (family k : ℕ) → OfFamily fr family k → joins_by family (starts_of fr) (frame_at fr k) ≡ true
    of-family family k is = ap (λ (b : ℕ). joins_by b (starts_of fr) (frame_at fr k)) (sym is.family-is)
        ∙ at-frame k is.within

    known-types : (n : TypeNumber) → is_type (starts_of fr) n ≡ true → type_at fr n ≡ None → ⊥
    unfolding type_in type_of starts_of
    known-types n here e =
        let f = frame_at fr n.0 in
        let q : type_at fr n ≡ type_of f = rw here in
        type-known (type_kind_of (byte f 1)) f (of-family 1 n.0 (type-at fr good n.0 (ltb-true _ _ here)))
        (sym q ∙ e)

    all_whole : (n : RowNumber) → is_row (starts_of fr) n ≡ true → Shows (see fr (kind n))
    all_whole n here =
        let f = frame_at fr (s.rows + n.0) in
        subst Shows (sym (shows-frame fr n here))
        (row-whole fr (row_kind_of (byte f 1)) f (of-family 4 (s.rows + n.0) (row-frame fr good n here)))

    known-rows : (n : RowNumber) → is_row (starts_of fr) n ≡ true → see fr (kind n) ≡ none → ⊥
    known-rows n here e = subst Shows e (all_whole n here)

    -- an item of kind 7 or 8 does not pass
    not-item : (j k : ℕ) → item_joins (item_kind_of j) ≡ false → IsItem fr j k → ⊥
    not-item j k e is =
        let f = frame_at fr k in
        let a = of-family 3 k (record { within = is.within; family-is = is.family-is }) in
        let b : item_joins (item_kind_of j) ≡ true = ap (λ (b : ℕ). item_joins (item_kind_of b)) (sym is.kind-is) ∙ a in
        never (cc)

    no-specials : (starts_of fr).intersections ≡ (starts_of fr).rows
    unfolding starts_of
    no-specials = go (dec_lt (starts_of fr).intersections (starts_of fr).vertex_returns)
        (dec_lt (starts_of fr).vertex_returns (starts_of fr).rows)
      where
        go : Dec ((starts_of fr).intersections < (starts_of fr).vertex_returns)
            → Dec ((starts_of fr).vertex_returns < (starts_of fr).rows)
            → (starts_of fr).intersections ≡ (starts_of fr).rows
        go (yes l) d = absurd (not-item 7 _ refl (item-at fr good 7 (starts_of fr).intersections (omega arith)
            (omega arith) (omega arith) l))
        go (no l) (yes d) = absurd (not-item 8 _ refl
            (last-item-at fr good (starts_of fr).vertex_returns (omega arith) d))
        go (no l) (no d) = let a = (starts-ordered fr).vertex-returns in let b = (starts-ordered fr).rows in omega arith

    whole-lacks : (k : ℕ) (x : Shown) → k < row_count (starts_of fr) → see fr (kind (record { 0 = k })) ≡ some x
        → Lacks (λ i. ⊥) ⊥ x
    whole-lacks k x l q = lacks-nothing x (subst Shows q (all_whole (record { 0 = k }) (row-there fr k l)))

    no-lack : (pass : Pass) (n : RowNumber) → is_row (starts_of fr) n ≡ true
        → ResultFrom (λ i. ⊥) ⊥ (row_answer pass (see fr) n.0)
    no-lack pass n here =
        let l : n.0 < row_count (starts_of fr) = ltb-true _ _ here in
        answer-from (λ i. ⊥) ⊥ pass fr good n.0 l (λ k x w q. whole-lacks k x (omega arith) q)

    pub test-joinable : Joinable fr
    test-joinable =
        record {
          types = known-types;
          rows = known-rows;
          specials = no-specials;
          arguments = λ pass n i here e. subst (ResultFrom (λ i. ⊥) ⊥) e (no-lack pass n here);
          special-types = λ pass n here e. subst (ResultFrom (λ i. ⊥) ⊥) e (no-lack pass n here);
        }

  -- THE MEANING GIVES THE TEST
  module _ (j : Joinable fr) where
    type-passes : (k : ℕ) → k < (starts_of fr).members → frame_joins (starts_of fr) (frame_at fr k) ≡ true
    unfolding type_in type_of starts_of
    type-passes k l =
        let f = frame_at fr k in
        let here : is_type (starts_of fr) (record { 0 = k }) ≡ true = lt-ltb k (starts_of fr).members l in
        let q : type_at fr (record { 0 = k }) ≡ type_of f = rw here in
        ap (λ (b : ℕ). joins_by b (starts_of fr) f) (type-at fr good k l).family-is
        ∙ type-joins (type_kind_of (byte f 1)) f (λ e. j.types (record { 0 = k }) here (q ∙ e))

    item-passes : (i k : ℕ) → item_joins (item_kind_of i) ≡ true → IsItem fr i k
        → frame_joins (starts_of fr) (frame_at fr k) ≡ true
    item-passes i k e is =
        ap (λ (b : ℕ). joins_by b (starts_of fr) (frame_at fr k)) is.family-is
        ∙ ap (λ (b : ℕ). item_joins (item_kind_of b)) is.kind-is ∙ e

    module _ (n : RowNumber) (here : is_row (starts_of fr) n ≡ true) where
      -- an argument that is not there would be answered 19
      argument-there : (f : Frame) → see fr (kind n) ≡ see_row fr (starts_of fr) (row_as Rk.FunctionArgument f)
          → ltb (word f 12) ((starts_of fr).locals - (starts_of fr).arguments) ≡ true
      argument-there f q = go (ltb (word f 12) ((starts_of fr).locals - (starts_of fr).arguments)) refl
        where
          go : (b : Bool) → ltb (word f 12) ((starts_of fr).locals - (starts_of fr).arguments) ≡ b → b ≡ true
          go true e = refl
          go false e = absurd (j.arguments Pa.First n (word f 12) here
              (argument-own Pa.First (see fr) n.0 (word f 12) (q ∙ rw e)))

      -- a special type is never there, and a row that needs it would be answered 20
      nothing-there : (first last : ℕ) → last ≤ first → maybe_item fr first last (record { 0 = 0 }) ≡ none
      nothing-there first last l = rw (le-ltb 0 (last - first) (omega arith))

      no_return : see fr (kind n)
          ≡ some (Row.ray_query_vertex_positions (maybe_item fr s.vertex_returns s.rows (record { 0 = 0 })))
          → row_answer Pa.First (see fr) n.0 ≡ told (refused R.MissingSpecialType)
      no_return q =
          let a = (starts-ordered fr).vertex-returns in let b = j.specials in
          return-own Pa.First (see fr) n.0
          (q ∙ ap (λ (o : Option TypeNumber). some (Row.ray_query_vertex_positions o))
          (nothing-there s.vertex_returns s.rows (omega arith)))

      no-intersection : see fr (kind n)
          ≡ some (Row.ray_query_get_intersection
          (maybe_item fr s.intersections s.vertex_returns (record { 0 = 0 })))
          → row_answer Pa.First (see fr) n.0 ≡ told (refused R.MissingSpecialType)
      no-intersection q =
          let a = (starts-ordered fr).rows in let b = j.specials in
          intersection-own Pa.First (see fr) n.0
          (q ∙ ap (λ (o : Option TypeNumber). some (Row.ray_query_get_intersection o))
          (nothing-there s.intersections s.vertex_returns (omega arith)))

      row-joins : (k : RowKind) (f : Frame) → see fr (kind n) ≡ see_row fr (starts_of fr) (row_as k f)
          → row_joins (starts_of fr) k f ≡ true
      row-joins Rk.Unknown f q = absurd (j.rows n here q)
      row-joins Rk.Literal f q = refl
      row-joins Rk.Constant f q = refl
      row-joins Rk.Override f q = refl
      row-joins Rk.ZeroValue f q = refl
      row-joins Rk.Compose f q = refl
      row-joins Rk.Access f q = refl
      row-joins Rk.AccessIndex f q = refl
      row-joins Rk.Splat f q = refl
      row-joins Rk.Swizzle f q = refl
      row-joins Rk.FunctionArgument f q = argument-there f q
      row-joins Rk.GlobalVariable f q = refl
      row-joins Rk.LocalVariable f q = refl
      row-joins Rk.Load f q = refl
      row-joins Rk.ImageSample f q = refl
      row-joins Rk.ImageLoad f q = refl
      row-joins Rk.ImageQuery f q = refl
      row-joins Rk.Unary f q = refl
      row-joins Rk.Binary f q = refl
      row-joins Rk.Select f q = refl
      row-joins Rk.Derivative f q = refl
      row-joins Rk.Relational f q = refl
      row-joins Rk.Math f q = absurd (j.rows n here q)
      row-joins Rk.As f q = refl
      row-joins Rk.CallResult f q = refl
      row-joins Rk.AtomicResult f q = refl
      row-joins Rk.WorkGroupUniformLoadResult f q = refl
      row-joins Rk.ArrayLength f q = refl
      row-joins Rk.RayQueryVertexPositions f q = absurd (j.special-types Pa.First n here (no_return q))
      row-joins Rk.RayQueryProceedResult f q = refl
      row-joins Rk.RayQueryGetIntersection f q = absurd (j.special-types Pa.First n here (no-intersection q))
      row-joins Rk.SubgroupBallotResult f q = refl
      row-joins Rk.SubgroupOperationResult f q = refl
      row-joins Rk.CooperativeLoad f q = refl
      row-joins Rk.CooperativeMultiplyAdd f q = refl

      row-passes : frame_joins (starts_of fr) (frame_at fr ((starts_of fr).rows + n.0)) ≡ true
      row-passes =
          let f = frame_at fr ((starts_of fr).rows + n.0) in
          ap (λ (b : ℕ). joins_by b (starts_of fr) f) (row-frame fr good n here).family-is
          ∙ row-joins (row_kind_of (byte f 1)) f (shows-frame fr n here)

    -- every frame, by the family that it stands in
    frame-passes : (k : ℕ) → k < frame_count fr → frame_joins (starts_of fr) (frame_at fr k) ≡ true
    unfolding starts_of
    frame-passes k l =
        by-start k s.members (λ h. type-passes k h) (λ a.
        by-start k s.constants (λ h. other 2 (member-at fr good k a h) refl) (λ a.
        by-start k s.overrides (λ h. item-passes 1 k refl (item-at fr good 1 k (omega arith) (omega arith) a h))
        (λ a.
        by-start k s.globals (λ h. item-passes 2 k refl (item-at fr good 2 k (omega arith) (omega arith) a h))
        (λ a.
        by-start k s.arguments (λ h. item-passes 3 k refl (item-at fr good 3 k (omega arith) (omega arith) a h))
        (λ a.
        by-start k s.locals (λ h. item-passes 4 k refl (item-at fr good 4 k (omega arith) (omega arith) a h))
        (λ a.
        by-start k s.functions (λ h. item-passes 5 k refl (item-at fr good 5 k (omega arith) (omega arith) a h))
        (λ a.
        by-start k s.intersections (λ h. item-passes 6 k refl (item-at fr good 6 k (omega arith) (omega arith) a h))
        (λ a. by-start k s.rows (λ h. absurd (let e = j.specials in omega arith)) (λ a.
        by-start k s.components (λ h. row-at-frame a h)
        (λ a. other 5 (component-at fr good k a l) refl))))))))))
      where
        by-start : {P : Type 0} (k b : ℕ) → (k < b → P) → (b ≤ k → P) → P
        by-start {P} k b f g = go (dec_lt k b)
          where
            go : Dec (k < b) → P
            go (yes h) = f h
            go (no h) = g (omega arith)

        other : (family : ℕ) → OfFamily fr family k → joins_by family (starts_of fr) (frame_at fr k) ≡ true
            → frame_joins (starts_of fr) (frame_at fr k) ≡ true
        other family is e = ap (λ (b : ℕ). joins_by b (starts_of fr) (frame_at fr k)) is.family-is ∙ e

        row-at-frame : (starts_of fr).rows ≤ k → k < (starts_of fr).components
            → frame_joins (starts_of fr) (frame_at fr k) ≡ true
        row-at-frame a h =
            let n = k - (starts_of fr).rows in
            let e : (starts_of fr).rows + n ≡ k = omega arith in
            subst (λ (k : ℕ). frame_joins (starts_of fr) (frame_at fr k) ≡ true) e
            (row-passes (record { 0 = n }) (lt-ltb n (row_count (starts_of fr)) (omega arith)))

    pub joinable-test : joinable fr ≡ true
    unfolding joinable
    joinable-test = each_all (λ (k : ℕ). frame_joins (starts_of fr) (frame_at fr k)) (frame_count fr) frame-passes

  -- THE TEST IS THE MEANING
  pub joinable-when : (joinable fr ≡ true) ↔ Joinable fr
  joinable-when = (test-joinable, joinable-test)
