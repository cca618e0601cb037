-- What a row names, and a struct's members, by the bytes of a file whose frames are in order: an item's number leads to
-- the item of its kind, and its type stands in that item's b2-3; a compose's components and a struct's members are the
-- frames of its range. That the numbers are in range is
-- `row-names` and `type-names` of crate archive.
use Prim.Native.Nat.{ℕ, zero, suc, ◌+◌, ◌*◌, ◌-◌, ◌≤◌, ◌<◌}
use native.Mathlib.Omega.{arith}
use native.Mathlib.Decide.{dec_lt}
use mathlib.Core.Path.{◌≡◌, refl, sym, ap, ◌∙◌}
use mathlib.Core.Bool.{Bool, true, false, cond, not, ◌&&◌, ◌||◌}
use mathlib.Core.List.{List, [], ◌∷◌, ◌++◌}
use mathlib.Core.Option.{Option, none, some}
use lib.Dec.{leb, ltb, eqb}
use borrow.Author.Tests.{eqb-true, ltb-true, lt-ltb, le-ltb}
use lib.ListN.{length, get_or, length-append, get_or-append}
use lib.Seq.{get_or-append_seam}
use Rattle.ir.specs.declared.TypeNumber.{TypeNumber}
use Rattle.ir.specs.declared.RowNumber.{RowNumber}
use Rattle.ir.specs.declared.Item.{Item}
use Rattle.ir.specs.declared.TypeInner.TheVariants as Ti
use Rattle.ir.specs.Numbers.{type_kind_of, item_kind_of, row_kind_of, space_of}
use Rattle.scan.proofs.Laws.{and_first, and_second}
use Rattle.frames.specs.declared.Frame.{Frame}
use Rattle.frames.specs.Bytes.{byte, half, word, frame_at, frame_count}
use Rattle.frames.specs.Fields.{result_of}
use Rattle.frames.specs.Forms.{type_as, type_of, item_as, item_of, row_as, row_of, member_of, component_of}
use Rattle.archive.specs.declared.Starts.{Starts}
use Rattle.archive.specs.Order.{rank_of, rank_at, is_known, order_ok}
use Rattle.archive.specs.Starts.{start, starts_of}
use Rattle.archive.specs.Names.{is_type, is_row}
use Rattle.archive.proofs.Checked.{Holds}
use Rattle.archive.proofs.Ranks.{begins}
use Rattle.archive.proofs.Files.{from_start}
use Rattle.rule.specs.Answers.{number}
use Rattle.archive.specs.Access.{type_in, type_at, row_in}
use Rattle.archive.specs.ForProofs.{row_at}
use Rattle.rule.specs.Things.{listed, item_type, item_space, item_result, maybe_item, Shown, constant, override}
use Rattle.rule.specs.Things.{compose, function_argument, global_variable, local_variable, call_result}
use Rattle.rule.specs.Things.{ray_query_vertex_positions, ray_query_get_intersection, kind, form, Form, see_form}
use Rattle.rule.specs.Things.{see_row}
use Rattle.rule.specs.Things.{see}

-- an item of a rank between two kinds is of the first
kind-of : (j : ℕ) (f : Frame) → 1 ≤ j → j ≤ 8 → 768 + j ≤ rank_of f → rank_of f < 769 + j → f.b1 ≡ j
kind-of j f l h a b = go (eqb f.b0 3) a b
  where
    go : (e : Bool) → 768 + j ≤ cond e (768 + f.b1) (256 * f.b0) → cond e (768 + f.b1) (256 * f.b0) < 769 + j
        → f.b1 ≡ j
    go true a b = omega arith
    go false a b = absurd (omega arith)

-- the last kind of items is 8
last-kind : (f : Frame) → is_known f ≡ true → 776 ≤ rank_of f → rank_of f < 1024 → f.b1 ≡ 8
last-kind f k a b = go (eqb f.b0 3) a b (and_second (leb 1 f.b0 && ltb f.b0 6) _ k)
  where
    go : (e : Bool) → 776 ≤ cond e (768 + f.b1) (256 * f.b0) → cond e (768 + f.b1) (256 * f.b0) < 1024
        → (not e || (leb 1 f.b1 && ltb f.b1 9)) ≡ true → f.b1 ≡ 8
    go true a b k = omega (arith, ltb-true f.b1 9 (and_second (leb 1 f.b1) _ k))
    go false a b k = absurd (omega arith)

module _ (fr : List ℕ) (ordered : Holds order_ok fr) where
  -- the frame k of the items of kind j, which are followed by those of the next rank
  item-at : (j k : ℕ) → 1 ≤ j → j ≤ 8 → start fr (768 + j) ≤ k → k < start fr (769 + j)
      → item_of (frame_at fr k) ≡ item_as (item_kind_of j) (frame_at fr k)
  unfolding item_of
  item-at j k l h a b =
      let w : k < frame_count fr = omega (arith, (begins fr (769 + j)).within) in
      ap (λ (x : ℕ). item_as (item_kind_of x) (frame_at fr k))
      (kind-of j (frame_at fr k) l h ((from_start fr ordered (768 + j) k w).0 a) ((begins fr (769 + j)).lower k b))

  last-item : (k : ℕ) → start fr 776 ≤ k → k < start fr 1024 → item_of (frame_at fr k)
      ≡ item_as (item_kind_of 8) (frame_at fr k)
  unfolding item_of order_ok
  last-item k a b =
      let w : k < frame_count fr = omega (arith, (begins fr 1024).within) in
      ap (λ (x : ℕ). item_as (item_kind_of x) (frame_at fr k))
      (last-kind (frame_at fr k) (and_first (is_known (frame_at fr k)) _ (ordered k w))
      ((from_start fr ordered 776 k w).0 a)
      ((begins fr 1024).lower k b))

  module _ (n : RowNumber) (here : is_row (starts_of fr) n ≡ true) where
    -- the frame of the row
    abbrev at : Frame
    at = frame_at fr ((starts_of fr).rows + n.0)

    row-at : (k : ℕ) → byte at 1 ≡ k → see fr (kind n) ≡ see_row fr (starts_of fr) (row_as (row_kind_of k) at)
    unfolding row_in row_of
    row-at k e =
        let q : row_at fr n ≡ row_of at = rw here in
        ap (see_row fr (starts_of fr)) q ∙ ap (λ (x : ℕ). see_row fr (starts_of fr) (row_as (row_kind_of x) at)) e

    -- AN ITEM'S TYPE stands in the item's b2-3

    pub constant-named : byte at 1 ≡ 2 → half at 2 < (starts_of fr).overrides - (starts_of fr).constants
        → let g = frame_at fr ((starts_of fr).constants + half at 2) in
        see fr (kind n) ≡ some (constant (record { 0 = half g 2 }))
    unfolding starts_of
    constant-named e h =
        row-at 2 e ∙ ap (λ (x : Item). some (constant (item_type x)))
        (item-at 1 _ (omega arith) (omega arith) (omega arith) (omega arith))

    pub override-named : byte at 1 ≡ 3 → half at 2 < (starts_of fr).globals - (starts_of fr).overrides
        → let g = frame_at fr ((starts_of fr).overrides + half at 2) in
        see fr (kind n) ≡ some (override (record { 0 = half g 2 }))
    unfolding starts_of
    override-named e h =
        row-at 3 e ∙ ap (λ (x : Item). some (override (item_type x)))
        (item-at 2 _ (omega arith) (omega arith) (omega arith) (omega arith))

    pub global-named : byte at 1 ≡ 11 → half at 2 < (starts_of fr).arguments - (starts_of fr).globals
        → let g =
        frame_at fr ((starts_of fr).globals + half at 2) in
        see fr (kind n) ≡ some (global_variable (record { 0 = half g 2 }) (space_of (byte g 6) (byte g 7)))
    unfolding starts_of
    global-named e h =
        row-at 11 e
        ∙ ap (λ (x : Item). some (global_variable (item_type x) (item_space x)))
        (item-at 3 _ (omega arith) (omega arith) (omega arith) (omega arith))

    pub local-named : byte at 1 ≡ 12 → half at 2 < (starts_of fr).functions - (starts_of fr).locals
        → let g = frame_at fr ((starts_of fr).locals + half at 2) in
        see fr (kind n) ≡ some (local_variable (record { 0 = half g 2 }))
    unfolding starts_of
    local-named e h =
        row-at 12 e
        ∙ ap (λ (x : Item). some (local_variable (item_type x)))
        (item-at 5 _ (omega arith) (omega arith) (omega arith) (omega arith))

    pub function-named : byte at 1 ≡ 24 → half at 2 < (starts_of fr).intersections - (starts_of fr).functions
        → let g =
        frame_at fr ((starts_of fr).functions + half at 2) in
        see fr (kind n) ≡ some (call_result (result_of (byte g 4) (record { 0 = half g 2 })))
    unfolding starts_of
    function-named e h =
        row-at 24 e
        ∙ ap (λ (x : Item). some (call_result (item_result x)))
        (item-at 6 _ (omega arith) (omega arith) (omega arith) (omega arith))

    -- AN ARGUMENT, where there is one of that number
    pub argument-named : byte at 1 ≡ 10 → word at 12 < (starts_of fr).locals - (starts_of fr).arguments
        → let g =
        frame_at fr ((starts_of fr).arguments + word at 12) in
        see fr (kind n) ≡ some (function_argument (word at 12) (some (record { 0 = half g 2 })))
    unfolding starts_of
    argument-named e h =
        row-at 10 e
        ∙ ap
        (λ (b : Bool).
        some (function_argument (word at 12)
        (cond b (some (item_type (item_of (frame_at fr ((starts_of fr).arguments + word at 12))))) none)))
        (lt-ltb _ _ h)
        ∙ ap (λ (x : Item). some (function_argument (word at 12) (some (item_type x))))
        (item-at 4 _ (omega arith) (omega arith) (omega arith) (omega arith))

    pub no-argument : byte at 1 ≡ 10 → (starts_of fr).locals - (starts_of fr).arguments ≤ word at 12
        → see fr (kind n) ≡ some (function_argument (word at 12) none)
    no-argument e h =
        row-at 10 e
        ∙ ap
        (λ (b : Bool).
        some (function_argument (word at 12)
        (cond b (some (item_type (item_of (frame_at fr ((starts_of fr).arguments + word at 12))))) none)))
        (le-ltb _ _ h)

    -- A SPECIAL TYPE, where there is one
    pub intersection-named : byte at 1 ≡ 30 → 0 < (starts_of fr).vertex_returns - (starts_of fr).intersections
        → let g =
        frame_at fr ((starts_of fr).intersections + 0) in
        see fr (kind n) ≡ some (ray_query_get_intersection (some (record { 0 = half g 2 })))
    unfolding starts_of
    intersection-named e h =
        row-at 30 e ∙ ap (λ (b : Bool). some
        (ray_query_get_intersection
        (cond b (some (item_type (item_of (frame_at fr ((starts_of fr).intersections + 0))))) none))) (lt-ltb _ _ h)
        ∙ ap (λ (x : Item). some (ray_query_get_intersection (some (item_type x))))
        (item-at 7 _ (omega arith) (omega arith) (omega arith) (omega arith))

    pub no-intersection : byte at 1 ≡ 30 → (starts_of fr).vertex_returns - (starts_of fr).intersections ≤ 0
        → see fr (kind n) ≡ some (ray_query_get_intersection none)
    no-intersection e h =
        row-at 30 e ∙ ap (λ (b : Bool). some
        (ray_query_get_intersection
        (cond b (some (item_type (item_of (frame_at fr ((starts_of fr).intersections + 0))))) none))) (le-ltb _ _ h)

    pub vertex-return-named : byte at 1 ≡ 28 → 0 < (starts_of fr).rows - (starts_of fr).vertex_returns
        → let g =
        frame_at fr ((starts_of fr).vertex_returns + 0) in
        see fr (kind n) ≡ some (ray_query_vertex_positions (some (record { 0 = half g 2 })))
    unfolding starts_of
    vertex-return-named e h =
        row-at 28 e ∙ ap (λ (b : Bool). some
        (ray_query_vertex_positions
        (cond b (some (item_type (item_of (frame_at fr ((starts_of fr).vertex_returns + 0))))) none)))
        (lt-ltb _ _ h)
        ∙ ap (λ (x : Item). some (ray_query_vertex_positions (some (item_type x))))
        (last-item _ (omega arith) (omega arith))

    pub no-vertex-return : byte at 1 ≡ 28 → (starts_of fr).rows - (starts_of fr).vertex_returns ≤ 0
        → see fr (kind n) ≡ some (ray_query_vertex_positions none)
    no-vertex-return e h =
        row-at 28 e ∙ ap (λ (b : Bool). some
        (ray_query_vertex_positions
        (cond b (some (item_type (item_of (frame_at fr ((starts_of fr).vertex_returns + 0))))) none)))
        (le-ltb _ _ h)

    -- COMPONENTS: the rows in b2-3 of the frames of the range
    pub components-named : byte at 1 ≡ 5
        → see fr (kind n) ≡ some (compose (record {
          0 =
              half at 2;
        }) (listed (λ (i : ℕ). record { 0 = half (frame_at fr ((starts_of fr).components + word at 12 + i)) 2 })
        (half at 4)))
    unfolding component_of
    components-named e = row-at 5 e

  -- MEMBERS: the types in b2-3 of the frames of the range
  pub members-named : (n : TypeNumber) → is_type (starts_of fr) n ≡ true → let f = frame_at fr n.0 in byte f 1 ≡ 9
      → see fr (form (number n)) ≡ some (record {
        inner = Ti.Struct (record { 0 = half f 2 }) (half f 4) (word f 12);
        members = listed (λ (i : ℕ). record { 0 = half (frame_at fr ((starts_of fr).members + half f 2 + i)) 2 })
            (half f 4);
      })
  unfolding type_in type_of member_of
  members-named n here e =
      let f = frame_at fr n.0 in
      let q : type_at fr n ≡ type_of f = rw here in
      ap (see_form fr (starts_of fr)) q ∙ ap (λ (x : ℕ). see_form fr (starts_of fr) (type_as (type_kind_of x) f)) e

-- A LIST OF n has n items, the i-th where it should be
pub listed-length : {A : Type 0} (f : ℕ → A) (n : ℕ) → length (listed f n) ≡ n
unfolding listed
listed-length f zero = refl
listed-length f (suc n) = length-append (listed f n) (f n ∷ []) ∙ ap (λ (k : ℕ). k + 1) (listed-length f n)
    ∙ omega arith

pub listed_at : {A : Type 0} (f : ℕ → A) (d : A) (n i : ℕ) → i < n → get_or (listed f n) i d ≡ f i
unfolding listed
listed_at f d zero i h = absurd (omega arith)
listed_at f d (suc n) i h = go (dec_lt i n) (λ l. listed_at f d n i l)
  where
    go : Dec (i < n) → (i < n → get_or (listed f n) i d ≡ f i) → get_or (listed f n ++ (f n ∷ [])) i d ≡ f i
    go (yes l) ih = get_or-append (listed f n) (f n ∷ []) d i (rw (listed-length f n) l) ∙ ih l
    go (no l) ih =
        let e : i ≡ n = omega arith in
        rw e (ap (λ (k : ℕ). get_or (listed f n ++ (f n ∷ [])) k d) (sym (listed-length f n))
        ∙ get_or-append_seam (listed f n) (f n) [] d)
