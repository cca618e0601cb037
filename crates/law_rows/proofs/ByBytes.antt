-- What a row of an accepted file shows, and a struct of it, by the bytes: the laws of rule/proofs/Named.antt with no
-- range left to assume, and the family and kind of each frame that is named. The ranges are what check 6 has of the
-- row.
use Rattle.ir.specs.declared.Expression.{Expression}
use Rattle.std.specs.Prelude.{Option}
use Rattle.ir.specs.declared.TypeInner.{TypeInner}
use Prim.Native.Nat.{ℕ, ◌+◌, ◌-◌, ◌≤◌, ◌<◌}
use native.Mathlib.Omega.{arith}
use mathlib.Core.Path.{◌≡◌, sym, ap, ◌∙◌, subst}
use mathlib.Core.Bool.{true}
use mathlib.Core.List.{List}
use mathlib.Core.Option.{none, some}
use borrow.Author.Tests.{ltb-true}
use Rattle.ir.specs.declared.TypeNumber.{TypeNumber}
use Rattle.ir.specs.declared.RowNumber.{RowNumber}
use Rattle.ir.specs.declared.TypeInner.TheVariants as Ti
use Rattle.ir.specs.Numbers.{type_kind_of, row_kind_of, space_of}
use Rattle.frames.specs.declared.Frame.{Frame}
use Rattle.frames.specs.Bytes.{byte, half, word, frame_at}
use Rattle.frames.specs.Fields.{result_of}
use Rattle.frames.specs.Forms.{type_as, type_of, row_as, row_of}
use Rattle.archive.specs.Starts.{starts_of}
use Rattle.archive.specs.Names.{is_type, is_row, row_form_names}
use Rattle.archive.specs.Access.{type_in, row_in}
use Rattle.archive.proofs.Files.{row-names}
use Rattle.rule.specs.Answers.{number}
use Rattle.rule.specs.Things.{listed, Shown, constant, override, compose, function_argument, global_variable}
use Rattle.rule.specs.Things.{local_variable, call_result, ray_query_vertex_positions, ray_query_get_intersection, kind}
use Rattle.rule.specs.Things.{form}
use Rattle.rule.specs.Things.{see}
use Rattle.rule.proofs.Named.{constant-named, override-named, global-named, local-named, function-named, argument-named}
use Rattle.rule.proofs.Named.{no-argument, intersection-named, no-intersection}
use Rattle.rule.proofs.Named.{vertex-return-named, no-vertex-return, components-named, members-named}
use Rattle.law_rows.proofs.Good.{Good, IsItem}
use Rattle.law_rows.proofs.There.{IsMember, IsComponent, RowThere, TypeThere}
use Rattle.law_rows.proofs.Named.{row-frame, row-named, type-named}

-- the frame of row n
abbrev pub row_frame : List ℕ → RowNumber → Frame
row_frame fr n = frame_at fr ((starts_of fr).rows + n.0)

-- the type, and the row, in b2-3 of frame k
abbrev pub type_named : List ℕ → ℕ → TypeNumber
type_named fr k = record { 0 = half (frame_at fr k) 2 }

abbrev pub row_named : List ℕ → ℕ → RowNumber
row_named fr k = record { 0 = half (frame_at fr k) 2 }

-- row n shows x, which is made from frame k, an item of a kind
pub record ShowsItem (fr : List ℕ) (n : RowNumber) (item k : ℕ) (x : Shown) : Type 0 where
  pub there : IsItem fr item k
  pub shows : see fr (kind n) ≡ some x

-- what row n shows where it names items or components, by its kind in byte 1
pub record RowByBytes (fr : List ℕ) (n : RowNumber) : Type 0 where
  pub constants : byte (row_frame fr n) 1 ≡ 2
      → let k = (starts_of fr).constants + half (row_frame fr n) 2 in ShowsItem fr n 1 k (constant (type_named fr k))
  pub overrides : byte (row_frame fr n) 1 ≡ 3
      → let k = (starts_of fr).overrides + half (row_frame fr n) 2 in ShowsItem fr n 2 k (override (type_named fr k))
  pub globals : byte (row_frame fr n) 1 ≡ 11
      → let k = (starts_of fr).globals + half (row_frame fr n) 2 in
      ShowsItem fr n 3 k (global_variable (type_named fr k)
      (space_of (byte (frame_at fr k) 6) (byte (frame_at fr k) 7)))
  pub locals : byte (row_frame fr n) 1 ≡ 12
      → let k = (starts_of fr).locals + half (row_frame fr n) 2 in ShowsItem fr n 5 k (local_variable (type_named fr k))
  pub functions : byte (row_frame fr n) 1 ≡ 24
      → let k =
      (starts_of fr).functions + half (row_frame fr n) 2 in
      ShowsItem fr n 6 k (call_result (result_of (byte (frame_at fr k) 4) (record { 0 = half (frame_at fr k) 2 })))
  -- an argument index is free: an argument where there is one, else none
  pub arguments : byte (row_frame fr n) 1 ≡ 10
      → word (row_frame fr n) 12 < (starts_of fr).locals - (starts_of fr).arguments
      → let k =
      (starts_of fr).arguments + word (row_frame fr n) 12 in
      ShowsItem fr n 4 k (function_argument (word (row_frame fr n) 12) (some (type_named fr k)))
  pub no_arguments : byte (row_frame fr n) 1 ≡ 10
      → (starts_of fr).locals - (starts_of fr).arguments ≤ word (row_frame fr n) 12
      → see fr (kind n) ≡ some (function_argument (word (row_frame fr n) 12) none)
  -- a special type where there is one, else none
  pub intersections : byte (row_frame fr n) 1 ≡ 30 → 0 < (starts_of fr).vertex_returns - (starts_of fr).intersections
      → let k = (starts_of fr).intersections + 0 in
      ShowsItem fr n 7 k (ray_query_get_intersection (some (type_named fr k)))
  pub no-intersections : byte (row_frame fr n) 1 ≡ 30 → (starts_of fr).vertex_returns - (starts_of fr).intersections ≤ 0
      → see fr (kind n) ≡ some (ray_query_get_intersection none)
  pub vertex-returns : byte (row_frame fr n) 1 ≡ 28 → 0 < (starts_of fr).rows - (starts_of fr).vertex_returns
      → let k = (starts_of fr).vertex_returns + 0 in
      ShowsItem fr n 8 k (ray_query_vertex_positions (some (type_named fr k)))
  pub no-vertex-returns : byte (row_frame fr n) 1 ≡ 28 → (starts_of fr).rows - (starts_of fr).vertex_returns ≤ 0
      → see fr (kind n) ≡ some (ray_query_vertex_positions none)
  -- the components of a compose, each an earlier row's
  pub composes : byte (row_frame fr n) 1 ≡ 5
      → see fr (kind n) ≡ some (compose (record {
        0 =
            half (row_frame fr n) 2;
      }) (listed (λ (i : ℕ). row_named fr ((starts_of fr).components + word (row_frame fr n) 12 + i)) (half
      (row_frame fr n) 4)))
  pub components : byte (row_frame fr n) 1 ≡ 5
      → (i : ℕ) → i < half (row_frame fr n) 4
      → IsComponent fr n ((starts_of fr).components + word (row_frame fr n) 12 + i)

-- what type n shows where it is a struct, kind 9: its members, each of an earlier type
pub record StructByBytes (fr : List ℕ) (n : TypeNumber) : Type 0 where
  pub shows : byte (frame_at fr n.0) 1 ≡ 9 → let f = frame_at fr n.0 in
      see fr (form (number n)) ≡ some (record {
        inner = Ti.Struct (record { 0 = half f 2 }) (half f 4) (word f 12);
        members = listed (λ (i : ℕ). type_named fr ((starts_of fr).members + half f 2 + i)) (half f 4);
      })
  pub members : byte (frame_at fr n.0) 1 ≡ 9 → let f = frame_at fr n.0 in
      (i : ℕ) → i < half f 4 → IsMember fr n ((starts_of fr).members + half f 2 + i)

module _ (fr : List ℕ) (good : Good fr) where
  module _ (n : RowNumber) (here : is_row (starts_of fr) n ≡ true) where
    names_at : (b : ℕ) → byte (row_frame fr n) 1 ≡ b
        → row_form_names (starts_of fr) n (row_as (row_kind_of b) (row_frame fr n))
        ≡ true
    unfolding row_of
    names_at b e =
        let is = row-frame fr good n here in
        let i : n.0 ≡ ((starts_of fr).rows + n.0) - (starts_of fr).rows = omega arith in
        ap (λ (x : ℕ). row_form_names (starts_of fr) n (row_as (row_kind_of x) (row_frame fr n))) (sym e)
        ∙ ap (λ (x : ℕ). row_form_names (starts_of fr) (record { 0 = x }) (row_of (row_frame fr n))) i
        ∙ row-names fr good.index ((starts_of fr).rows + n.0) is.within is.family-is

    there-at : (b : ℕ) → byte (row_frame fr n) 1 ≡ b → RowThere fr n (row_as (row_kind_of b) (row_frame fr n))
    unfolding row_in row_of
    there-at b e =
        let q : row_in fr (starts_of fr) n ≡ row_of (row_frame fr n) = rw here in
        subst (λ (x : Option Expression). RowThere fr n x) (q
        ∙ ap (λ (x : ℕ). row_as (row_kind_of x) (row_frame fr n)) e)
        (row-named fr good n here)

    -- ROWS
    pub row-by-bytes : RowByBytes fr n
    row-by-bytes =
        record {
          constants = λ e. record {
            there = there-at 2 e;
            shows = constant-named fr good.order n here e
                (ltb-true _ _ (names_at 2 e));
          };
          overrides = λ e. record {
            there = there-at 3 e;
            shows = override-named fr good.order n here e
                (ltb-true _ _ (names_at 3 e));
          };
          globals = λ e. record {
            there = there-at 11 e;
            shows = global-named fr good.order n here e
                (ltb-true _ _ (names_at 11 e));
          };
          locals = λ e. record {
            there = there-at 12 e;
            shows = local-named fr good.order n here e
                (ltb-true _ _ (names_at 12 e));
          };
          functions =
              λ e. record {
                there = there-at 24 e;
                shows = function-named fr good.order n here e
                    (ltb-true _ _ (names_at 24 e));
              };
          arguments = λ e l. record { there = there-at 10 e l; shows = argument-named fr good.order n here e l };
          no_arguments = λ e l. no-argument fr good.order n here e l;
          intersections = λ e l.
              record { there = there-at 30 e l; shows = intersection-named fr good.order n here e l };
          no-intersections = λ e l. no-intersection fr good.order n here e l;
          vertex-returns = λ e l.
              record { there = there-at 28 e l; shows = vertex-return-named fr good.order n here e l };
          no-vertex-returns = λ e l. no-vertex-return fr good.order n here e l;
          composes = λ e. components-named fr good.order n here e;
          components = λ e. (there-at 5 e).1;
        }

  -- STRUCTS
  pub struct-by-bytes : (n : TypeNumber) → is_type (starts_of fr) n ≡ true → StructByBytes fr n
  unfolding type_in type_of
  struct-by-bytes n here =
      let f = frame_at fr n.0 in
      let q : type_in fr (starts_of fr) n ≡ type_of f = rw here in
      record {
        shows = λ e. members-named fr good.order n here e;
        members =
            λ e. subst (λ (x : Option TypeInner). TypeThere fr n x) (q ∙ ap (λ (x : ℕ). type_as (type_kind_of x) f) e)
            (type-named fr good n here);
      }

-- ONE LAW of every accepted file: what its rows and types name is there, and shown by the bytes
pub record AllNamed (fr : List ℕ) : Type 0 where
  pub types : (n : TypeNumber) → is_type (starts_of fr) n ≡ true → TypeThere fr n (type_in fr (starts_of fr) n)
  pub structs : (n : TypeNumber) → is_type (starts_of fr) n ≡ true → StructByBytes fr n
  pub rows : (n : RowNumber) → is_row (starts_of fr) n ≡ true → RowThere fr n (row_in fr (starts_of fr) n)
  pub bytes : (n : RowNumber) → is_row (starts_of fr) n ≡ true → RowByBytes fr n

pub all_named : (fr : List ℕ) → Good fr → AllNamed fr
all_named fr good =
    record {
      types = type-named fr good;
      structs = struct-by-bytes fr good;
      rows = row-named fr good;
      bytes
          = row-by-bytes fr good;
    }
