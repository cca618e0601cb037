-- NUMBER 6, parts and owners, of a moved struct or compose: where its members or components stand together in the
-- second file, each is earlier than it there too.
use Rattle.ir.specs.declared.Expression.{Expression}
use Rattle.std.specs.Prelude.{Option, Some}
use Rattle.ir.specs.declared.TypeInner.{TypeInner}
use Prim.Native.Nat.{ℕ, ◌+◌, ◌-◌, ◌≤◌, ◌<◌, min}
use native.Mathlib.Decide.{dec_lt}
use native.Mathlib.Omega.{arith}
use mathlib.Core.Path.{◌≡◌, refl, sym, ap, ◌∙◌, subst}
use mathlib.Core.Bool.{Bool, true, false}
use mathlib.Core.Logic.{inl, inr}
use mathlib.Core.List.{List}
use lib.Dec.{eqb}
use borrow.Author.Tests.{lt-ltb, leb-true, eqb-true}
use Rattle.scan.proofs.Laws.{and_second}
use Rattle.ir.specs.declared.RowNumber.{RowNumber}
use Rattle.ir.specs.declared.StructMember.{StructMember}
use Rattle.ir.specs.declared.TypeInner.TheVariants as Ti
use Rattle.ir.specs.declared.Expression.TheVariants as Ex
use Rattle.frames.specs.declared.Frame.{Frame}
use Rattle.frames.specs.Bytes.{byte, half, word, frame_at}
use Rattle.frames.specs.Forms.{type_of, member_of, row_of, component_of}
use Rattle.archive.specs.declared.Starts.{Starts}
use Rattle.archive.specs.declared.Owner.TheVariants as Ow
use Rattle.archive.specs.Starts.{starts_of, type_count, member_count, row_count, component_count}
use Rattle.archive.specs.Names.{is_type, is_row, type_form_names, row_form_names}
use Rattle.archive.specs.Access.{type_in, row_in}
use Rattle.archive.specs.Parts.{members_of, components_of, held_by, is_early, early_in}
use Rattle.archive.proofs.Files.{type-names, row-names}
use Rattle.archive.proofs.Owners.{inside, outside}
use Rattle.law_rows.proofs.Good.{Good, type-at}
use Rattle.law_rows.proofs.There.{TypeThere, RowThere}
use Rattle.law_rows.proofs.Named.{type-named, row-frame, row-named}
use Rattle.law_rows.proofs.Range.{row-there}
use Rattle.law_moved.specs.Moves.{Moves, row_to, member_to}

cases : (b : Bool) {P : Type 0} → (b ≡ true → P) → (b ≡ false → P) → P
cases true f g = f refl
cases false f g = g refl

-- what a struct's and a compose's frame read as
struct-reads : (f : Frame) → byte f 1 ≡ 9 → type_of f
    ≡ Some (Ti.Struct (record { 0 = half f 2 }) (half f 4) (word f 12))
unfolding type_of
struct-reads f e = rw e

compose-reads : (f : Frame) → byte f 1 ≡ 5 → row_of f
    ≡ Some (Ex.Compose (record { 0 = half f 2 }) (half f 4) (record { 0 = word f 12 }))
unfolding row_of
compose-reads f e = rw e

module _ (fr : List ℕ) (good : Good fr) where
  abbrev s : Starts
  s = starts_of fr

  -- a struct's members are within their family, and earlier
  struct-names : (n : ℕ) → n < type_count s → byte (frame_at fr n) 1 ≡ 9
      → half (frame_at fr n) 2 + half (frame_at fr n) 4 ≤ member_count s
  unfolding starts_of
  struct-names n l e =
      let is = type-at fr good n l in
      let h : type_form_names (starts_of fr) (record { 0 = n }) (type_of (frame_at fr n))
      ≡ true = type-names fr good.index n is.within is.family-is in
      leb-true (half (frame_at fr n) 2 + half (frame_at fr n) 4) (member_count (starts_of fr))
      (sym (ap (type_form_names (starts_of fr) (record { 0 = n })) (struct-reads (frame_at fr n) e)) ∙ h)

  member-early : (n : ℕ) → n < type_count s → byte (frame_at fr n) 1 ≡ 9 → (y : ℕ) → y < half (frame_at fr n) 4
      → (member_of (frame_at fr (s.members + half (frame_at fr n) 2 + y))).ty.0 < n
  unfolding type_in
  member-early n l e y w =
      let h : is_type s (record { 0 = n }) ≡ true = lt-ltb n (type_count s) l in
      let q : type_in fr s (record { 0 = n })
      ≡ Some (Ti.Struct (record { 0 = half (frame_at fr n) 2 }) (half (frame_at fr n) 4) (word (frame_at fr n) 12))
      = rw h (struct-reads (frame_at fr n) e) in
      ((subst (λ (x : Option TypeInner). TypeThere fr (record { 0 = n }) x) q (type-named fr good
      (record { 0 = n }) h)) y
      w).early

  compose-names : (n : ℕ) → n < row_count s → byte (frame_at fr (s.rows + n)) 1 ≡ 5
      → word (frame_at fr (s.rows + n)) 12 + half (frame_at fr (s.rows + n)) 4 ≤ component_count s
  compose-names n l e =
      let is = row-frame fr good (record { 0 = n }) (row-there fr n l) in
      let f = frame_at fr (s.rows + n) in
      let h = row-names fr good.index (s.rows + n) is.within is.family-is in
      leb-true (word f 12 + half f 4) (component_count s)
      (and_second (is_type s (record { 0 = half f 2 })) _
      (sym (ap (row_form_names s (record { 0 = s.rows + n - s.rows })) (compose-reads f e)) ∙ h))

  component-early : (n : ℕ) → n < row_count s → byte (frame_at fr (s.rows + n)) 1 ≡ 5 → (y : ℕ)
      → y < half (frame_at fr (s.rows + n)) 4
      → (component_of (frame_at fr (s.components + word (frame_at fr (s.rows + n)) 12 + y))).0 < n
  unfolding row_in
  component-early n l e y w =
      let f = frame_at fr (s.rows + n) in
      let h : is_row s (record { 0 = n }) ≡ true = row-there fr n l in
      let q : row_in fr s (record { 0 = n })
      ≡ Some (Ex.Compose (record { 0 = half f 2 }) (half f 4) (record { 0 = word f 12 })) = rw h
      (compose-reads f e) in
      ((subst (λ (x : Option Expression). RowThere fr (record { 0 = n }) x) q (row-named fr good
      (record { 0 = n }) h)).1 y
      w).early

  module _ (m : Moves) (gr : List ℕ) where
    abbrev t : Starts
    t = starts_of gr

    -- A STRUCT, type n, as frame g of the second
    pub struct-early : (members : (k : ℕ) → k < member_count (starts_of fr)
        → member_of (frame_at gr ((starts_of gr).members + m.members k))
        ≡ member_to m (member_of (frame_at fr ((starts_of fr).members + k))))
        → (run : (k i : ℕ) → m.members (k + i) ≡ m.members k + i)
        → (rises : (k n : ℕ) → k < n → m.types k < m.types n)
        → (n : ℕ) → n < type_count (starts_of fr) → (g : Frame) → byte g 0 ≡ 1 → byte g 1 ≡ byte (frame_at fr n) 1
        → (byte (frame_at fr n) 1 ≡ 9 → half g 2 ≡ m.members (half (frame_at fr n) 2))
        → (byte (frame_at fr n) 1 ≡ 9 → half g 4 ≡ half (frame_at fr n) 4)
        → (k : ℕ) → early_in gr (held_by (starts_of gr) (m.types n) g) k ≡ true
    struct-early members run rises n l g family same first count k = cases (eqb (byte g 1) 9) held
        (λ e. rw (family, e) refl)
      where
        from : ℕ
        from = t.members + half g 2

        last : ℕ
        last = min (t.members + half g 2 + half g 4) t.constants

        part : byte (frame_at fr n) 1 ≡ 9 → t.members + half g 2 ≤ k
            → k < min (t.members + half g 2 + half g 4) t.constants
            → is_early (Ow.Struct (record { 0 = m.types n })) (frame_at gr k) ≡ true
        part e a b =
            let f = frame_at fr n in
            let x = first e in
            let z = count e in
            let y = k - (t.members + half g 2) in
            let w : y < half f 4 = omega arith in
            let c = struct-names n l e in
            let r = run (half f 2) y in
            let i : k ≡ t.members + m.members (half f 2 + y) = omega arith in
            let j : s.members + half f 2 + y ≡ s.members + (half f 2 + y) = omega arith in
            let u : (member_of (frame_at gr k)).ty.0
            ≡ m.types (member_of (frame_at fr (s.members + half f 2 + y))).ty.0 =
            ap (λ (q : ℕ). (member_of (frame_at gr q)).ty.0) i
            ∙ ap (λ (q : StructMember). q.ty.0) (members (half f 2 + y) (omega arith))
            ∙ ap (λ (q : ℕ). m.types (member_of (frame_at fr q)).ty.0) (sym j) in
            let v = rises (member_of (frame_at fr (s.members + half f 2 + y))).ty.0 n (member-early n l e y w) in
            lt-ltb (member_of (frame_at gr k)).ty.0 (m.types n) (omega arith)

        held : eqb (byte g 1) 9 ≡ true → early_in gr (held_by (starts_of gr) (m.types n) g) k ≡ true
        held h = rw (family, h)
            (go (dec_lt k (t.members + half g 2)) (dec_lt k (min (t.members + half g 2 + half g 4) t.constants)))
          where
            go : Dec (k < t.members + half g 2) → Dec (k < min (t.members + half g 2 + half g 4) t.constants)
                → early_in gr (members_of (starts_of gr) (record { 0 = m.types n }) g) k ≡ true
            go (yes a) b = outside gr (t.members + half g 2) (min (t.members + half g 2 + half g 4) t.constants)
                (Ow.Struct (record { 0 = m.types n })) k (inl a)
            go (no a) (no b) = outside gr (t.members + half g 2)
                (min (t.members + half g 2 + half g 4) t.constants) (Ow.Struct (record { 0 = m.types n })) k
                (inr (omega arith))
            go (no a) (yes b) =
                inside gr (t.members + half g 2) (min (t.members + half g 2 + half g 4) t.constants)
                (Ow.Struct (record { 0 = m.types n })) k (omega arith) b
                ∙ part (sym same ∙ eqb-true (byte g 1) 9 h) (omega arith) b

    -- A COMPOSE, row n, as frame g of the second, which is its frame o
    pub compose-early : (components : (k : ℕ) → k < component_count (starts_of fr)
        → component_of (frame_at gr ((starts_of gr).components + m.components k))
        ≡ row_to m (component_of (frame_at fr ((starts_of fr).components + k))))
        → (run : (k i : ℕ) → m.components (k + i) ≡ m.components k + i)
        → (rises : (k n : ℕ) → k < n → m.rows k < m.rows n)
        → (n : ℕ) → n < row_count (starts_of fr) → (o : ℕ) (g : Frame) → o - (starts_of gr).rows ≡ m.rows n
        → byte g 0 ≡ 4
        → byte g 1 ≡ byte (frame_at fr ((starts_of fr).rows + n)) 1
        → (byte (frame_at fr ((starts_of fr).rows + n)) 1 ≡ 5 → word g 12
        ≡ m.components (word (frame_at fr ((starts_of fr).rows + n)) 12))
        → (byte (frame_at fr ((starts_of fr).rows + n)) 1 ≡ 5
        → half g 4 ≡ half (frame_at fr ((starts_of fr).rows + n)) 4)
        → (k : ℕ) → early_in gr (held_by (starts_of gr) o g) k ≡ true
    compose-early components run rises n l o g number family same first count k = cases (eqb (byte g 1) 5) held
        (λ e. rw (family, e) refl)
      where
        part : byte (frame_at fr (s.rows + n)) 1 ≡ 5 → t.components + word g 12 ≤ k
            → k < min (t.components + word g 12 + half g 4) t.end
            → is_early (Ow.Compose (record { 0 = o - t.rows })) (frame_at gr k) ≡ true
        part e a b =
            let f = frame_at fr (s.rows + n) in
            let x = first e in
            let z = count e in
            let y = k - (t.components + word g 12) in
            let w : y < half f 4 = omega arith in
            let c = compose-names n l e in
            let r = run (word f 12) y in
            let i : k ≡ t.components + m.components (word f 12 + y) = omega arith in
            let j : s.components + word f 12 + y ≡ s.components + (word f 12 + y) = omega arith in
            let u : (component_of (frame_at gr k)).0
            ≡ m.rows (component_of (frame_at fr (s.components + word f 12 + y))).0 =
            ap (λ (q : ℕ). (component_of (frame_at gr q)).0) i
            ∙ ap (λ (q : RowNumber). q.0) (components (word f 12 + y) (omega arith))
            ∙ ap (λ (q : ℕ). m.rows (component_of (frame_at fr q)).0) (sym j) in
            let v = rises (component_of (frame_at fr (s.components + word f 12 + y))).0 n (component-early n l e y w) in
            lt-ltb (component_of (frame_at gr k)).0 (o - t.rows) (omega arith)

        held : eqb (byte g 1) 5 ≡ true → early_in gr (held_by (starts_of gr) o g) k ≡ true
        held h = rw (family, h)
            (go (dec_lt k (t.components + word g 12)) (dec_lt k (min (t.components + word g 12 + half g 4) t.end)))
          where
            go : Dec (k < t.components + word g 12) → Dec (k < min (t.components + word g 12 + half g 4) t.end)
                → early_in gr (components_of (starts_of gr) (record { 0 = o - t.rows }) g) k ≡ true
            go (yes a) b = outside gr (t.components + word g 12) (min (t.components + word g 12 + half g 4) t.end)
                (Ow.Compose (record { 0 = o - t.rows })) k (inl a)
            go (no a) (no b) = outside gr (t.components + word g 12)
                (min (t.components + word g 12 + half g 4) t.end) (Ow.Compose (record { 0 = o - t.rows })) k
                (inr (omega arith))
            go (no a) (yes b) =
                inside gr (t.components + word g 12) (min (t.components + word g 12 + half g 4) t.end)
                (Ow.Compose (record { 0 = o - t.rows })) k (omega arith) b
                ∙ part (sym same ∙ eqb-true (byte g 1) 5 h) (omega arith) b

-- any other frame holds nothing
pub none-early : (gr : List ℕ) (s : Starts) (o : ℕ) (g : Frame) → eqb (byte g 0) 1 ≡ false → eqb (byte g 0) 4 ≡ false
    → (k : ℕ) → early_in gr (held_by s o g) k ≡ true
none-early gr s o g a b k = rw (a, b) refl
