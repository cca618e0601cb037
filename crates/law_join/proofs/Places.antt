-- CHECK 6 of a frame of either file, moved into the join: what it names is there, and earlier where that is asked,
-- since each family of the join has room for both files' numbers and moved numbers rise.
use Prim.Native.Nat.{ℕ, ◌+◌, ◌-◌, ◌<◌}
use native.Mathlib.Omega.{arith}
use mathlib.Core.Path.{◌≡◌, sym, ap, ◌∙◌}
use mathlib.Core.Bool.{true}
use mathlib.Core.List.{List}
use borrow.Author.Tests.{ltb-true, lt-ltb}
use Rattle.scan.proofs.Laws.{and_first}
use Rattle.ir.specs.declared.StructMember.{StructMember}
use Rattle.frames.specs.declared.Frame.{Frame}
use Rattle.frames.specs.Bytes.{byte, frame_at, frame_count}
use Rattle.frames.specs.Forms.{type_of, member_of, item_of, row_of, component_of}
use Rattle.archive.specs.declared.Starts.{Starts}
use Rattle.archive.specs.Starts.{starts_of, row_count}
use Rattle.archive.specs.Names.{is_type, is_row, type_form_names, item_names, row_form_names, names_by, names_of}
use Rattle.archive.specs.Names.{names_ok}
use Rattle.archive.specs.Parts.{early_ok}
use Rattle.archive.specs.Checks.{index_ok}
use Rattle.law_rows.proofs.Good.{Good}
use Rattle.law_moved.specs.Moves.{Moves, row_to, type_form_to, member_to, item_to, row_form_to}
use Rattle.law_moved.proofs.Files.{starts-ordered}
use Rattle.law_moved.proofs.Named.{InPlace, type-names-moved, item-names-moved, member-names-moved, row-names-moved}
use Rattle.law_join.specs.Join.{join_moves, first_moves, join_file}
use Rattle.law_join.proofs.Frames.{join-starts}

-- CHECK 6 of a frame of either file, moved into the join
module _ (mm : Moves) (x J : List ℕ) (good : Good x) (in_place : InPlace mm (starts_of x) (starts_of J)) where
  named-one : (k : ℕ) → k < frame_count x → names_of (starts_of x) k (frame_at x k) ≡ true
  unfolding index_ok names_ok
  named-one k l = and_first (names_of (starts_of x) k (frame_at x k)) (early_ok x k) (good.index k l)

  named_by : (b k : ℕ) → k < frame_count x → byte (frame_at x k) 0 ≡ b
      → names_by b (starts_of x) k (frame_at x k) ≡ true
  named_by b k l e = ap (λ (z : ℕ). names_by z (starts_of x) k (frame_at x k)) (sym e) ∙ named-one k l

  pub type-names : (n k : ℕ) (g : Frame) → n < frame_count x → byte (frame_at x n) 0 ≡ 1 → byte g 0 ≡ 1 → type_of g
      ≡ type_form_to mm (type_of (frame_at x n)) → k ≡ mm.types n → names_of (starts_of J) k g ≡ true
  type-names n k g l a b e q =
      ap (λ (z : ℕ). names_by z (starts_of J) k g) b ∙ ap (type_form_names (starts_of J) (record { 0 = k })) e
      ∙ ap (λ (z : ℕ). type_form_names (starts_of J) (record { 0 = z }) (type_form_to mm (type_of (frame_at x n)))) q
      ∙ type-names-moved mm (starts_of x) (starts_of J) in_place (record { 0 = n }) (type_of (frame_at x n))
      (named_by 1 n l a)

  pub member-names : (n k : ℕ) (g : Frame) → n < frame_count x → byte (frame_at x n) 0 ≡ 2 → byte g 0 ≡ 2 → member_of g
      ≡ member_to mm (member_of (frame_at x n)) → names_of (starts_of J) k g ≡ true
  member-names n k g l a b e =
      ap (λ (z : ℕ). names_by z (starts_of J) k g) b ∙ ap (λ (z : StructMember). is_type (starts_of J) z.ty) e
      ∙ member-names-moved mm (starts_of x) (starts_of J) in_place (member_of (frame_at x n)).ty (named_by 2 n l a)

  pub item-names : (n k : ℕ) (g : Frame) → n < frame_count x → byte (frame_at x n) 0 ≡ 3 → byte g 0 ≡ 3 → item_of g
      ≡ item_to mm (item_of (frame_at x n)) → names_of (starts_of J) k g ≡ true
  item-names n k g l a b e =
      ap (λ (z : ℕ). names_by z (starts_of J) k g) b ∙ ap (item_names (starts_of J)) e
      ∙ item-names-moved mm (starts_of x) (starts_of J) in_place (item_of (frame_at x n)) (named_by 3 n l a)

  pub row-names : (rises : (k n : ℕ) → k < n → mm.rows k < mm.rows n) → (n k : ℕ) (g : Frame)
      → (starts_of x).rows + n < frame_count x → byte (frame_at x ((starts_of x).rows + n)) 0 ≡ 4 → byte g 0 ≡ 4
      → row_of g ≡ row_form_to mm (row_of (frame_at x ((starts_of x).rows + n))) → k - (starts_of J).rows ≡ mm.rows n
      → names_of (starts_of J) k g ≡ true
  row-names rises n k g l a b e q =
      let i : (starts_of x).rows + n - (starts_of x).rows ≡ n = omega arith in
      ap (λ (z : ℕ). names_by z (starts_of J) k g) b
      ∙ ap (row_form_names (starts_of J) (record { 0 = k - (starts_of J).rows })) e
      ∙ ap (λ (z : ℕ). row_form_names (starts_of J) (record { 0 = z })
      (row_form_to mm (row_of (frame_at x ((starts_of x).rows + n))))) q
      ∙ row-names-moved mm (starts_of x) (starts_of J) in_place (record { 0 = n })
      (row_of (frame_at x ((starts_of x).rows + n))) (λ w r z. rises r n z)
      (ap (λ (z : ℕ). row_form_names (starts_of x) (record { 0 = z }) (row_of (frame_at x ((starts_of x).rows + n))))
      (sym i)
      ∙ named_by 4 ((starts_of x).rows + n) l a)

  pub component-names : (row_in : (n : ℕ) → n < row_count (starts_of x) → mm.rows n < row_count (starts_of J))
      → (n k : ℕ) (g : Frame) → n < frame_count x → byte (frame_at x n) 0 ≡ 5 → byte g 0 ≡ 5
      → component_of g ≡ row_to mm (component_of (frame_at x n)) → names_of (starts_of J) k g ≡ true
  component-names row_in n k g l a b e =
      ap (λ (z : ℕ). names_by z (starts_of J) k g) b ∙ ap (is_row (starts_of J)) e
      ∙ lt-ltb (mm.rows (component_of (frame_at x n)).0) (row_count (starts_of J))
      (row_in (component_of (frame_at x n)).0
      (ltb-true (component_of (frame_at x n)).0 (row_count (starts_of x)) (named_by 5 n l a)))

module _ (fr gr : List ℕ) (good : Good fr) (also : Good gr) where
  abbrev s : Starts
  s = starts_of fr

  abbrev t : Starts
  t = starts_of gr

  abbrev J : List ℕ
  J = join_file fr gr

  abbrev m : Moves
  m = join_moves s

  pub first-place : InPlace first_moves (starts_of fr) (starts_of (join_file fr gr))
  first-place =
      let o = starts-ordered fr in let p = starts-ordered gr in
      let a1 = o.constants in let a2 = o.overrides in let a3 = o.globals in let a4 = o.arguments in
      let a5 = o.locals in let a6 = o.functions in let a7 = o.intersections in let a11 = o.end in
      let b1 = p.constants in let b2 = p.overrides in let b3 = p.globals in let b4 = p.arguments in
      let b5 = p.locals in let b6 = p.functions in let b7 = p.intersections in let b11 = p.end in
      record {
        type-in = λ n l. rw (join-starts fr gr good also) (omega arith);
        type-rises = λ k n l. l;
        member-range = λ n j l. rw (join-starts fr gr good also) (omega arith);
        constant-in = λ n l. rw (join-starts fr gr good also) (omega arith);
        override-in = λ n l. rw (join-starts fr gr good also) (omega arith);
        global-in = λ n l. rw (join-starts fr gr good also) (omega arith);
        local-in = λ n l. rw (join-starts fr gr good also) (omega arith);
        function-in = λ n l. rw (join-starts fr gr good also) (omega arith);
        component-range = λ n j l. rw (join-starts fr gr good also) (omega arith);
      }

  pub second-place : InPlace (join_moves (starts_of fr)) (starts_of gr) (starts_of (join_file fr gr))
  second-place =
      let o = starts-ordered fr in let p = starts-ordered gr in
      let a1 = o.constants in let a2 = o.overrides in let a3 = o.globals in let a4 = o.arguments in
      let a5 = o.locals in let a6 = o.functions in let a7 = o.intersections in let a11 = o.end in
      let b1 = p.constants in let b2 = p.overrides in let b3 = p.globals in let b4 = p.arguments in
      let b5 = p.locals in let b6 = p.functions in let b7 = p.intersections in let b11 = p.end in
      record {
        type-in = λ n l. rw (join-starts fr gr good also) (omega arith);
        type-rises = λ k n l. omega arith;
        member-range = λ n j l. rw (join-starts fr gr good also) (omega arith);
        constant-in = λ n l. rw (join-starts fr gr good also) (omega arith);
        override-in = λ n l. rw (join-starts fr gr good also) (omega arith);
        global-in = λ n l. rw (join-starts fr gr good also) (omega arith);
        local-in = λ n l. rw (join-starts fr gr good also) (omega arith);
        function-in = λ n l. rw (join-starts fr gr good also) (omega arith);
        component-range = λ n j l. rw (join-starts fr gr good also) (omega arith);
      }

  pub rows-begin : (starts_of (join_file fr gr)).rows ≡ (starts_of fr).rows + (starts_of gr).rows
  rows-begin = ap (λ (z : Starts). z.rows) (join-starts fr gr good also)

  rows-count : row_count (starts_of J) ≡ row_count s + row_count t
  rows-count = ap row_count (join-starts fr gr good also)
      ∙ (let a = (starts-ordered fr).components in let b = (starts-ordered gr).components in omega arith)

  pub first-row-in : (n : ℕ) → n < row_count (starts_of fr) → n < row_count (starts_of (join_file fr gr))
  first-row-in n l = let a = rows-count in omega arith

  pub second-row-in : (n : ℕ) → n < row_count (starts_of gr)
      → n + row_count (starts_of fr) < row_count (starts_of (join_file fr gr))
  second-row-in n l = let a = rows-count in omega arith
