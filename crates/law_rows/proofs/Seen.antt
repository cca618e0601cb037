-- In an accepted file what a row shows, and what a type that is looked into shows, is in range: the items, members and
-- components that they name are there, and these name types and rows of the file. By the cases of rows and types.
use Rattle.std.specs.Prelude.{Option, Some, None}
use Prim.Native.Nat.{ℕ, zero, suc, ◌+◌, ◌-◌, ◌<◌}
use native.Mathlib.Omega.{arith}
use mathlib.Core.Path.{◌≡◌, refl, sym, ap, ◌∙◌}
use mathlib.Core.Bool.{Bool, true, false}
use mathlib.Core.List.{List, [], ◌∷◌, ◌++◌}
use lib.Dec.{ltb}
use lib.ListN.{length, get_or, get_elem?}
use borrow.Author.Tests.{ltb-true, lt-ltb}
use Rattle.scan.proofs.Laws.{by-test}
use Rattle.ir.specs.declared.TypeNumber.{TypeNumber}
use Rattle.ir.specs.declared.RowNumber.{RowNumber}
use Rattle.ir.specs.declared.Item.{Item}
use Rattle.ir.specs.declared.TypeInner.{TypeInner}
use Rattle.ir.specs.declared.TypeInner.TheVariants as Ti
use Rattle.ir.specs.declared.Expression.{Expression}
use Rattle.ir.specs.declared.Expression.TheVariants as Ex
use Rattle.ir.specs.Numbers.{item_kind_of}
use Rattle.frames.specs.Bytes.{frame_at}
use Rattle.frames.specs.Forms.{item_as, item_of}
use Rattle.archive.specs.declared.Starts.{Starts}
use Rattle.archive.specs.Starts.{starts_of, type_count}
use Rattle.archive.specs.Names.{is_type, is_row, size_names, item_names, result_names}
use Rattle.archive.specs.Access.{type_in, row_in}
use Rattle.archive.proofs.Files.{item-names}
use Rattle.rule.specs.declared.Fault.TheVariants as Fa
use Rattle.rule.specs.Answers.{TypeAnswer, number, value, malformed}
use Rattle.rule.specs.Things.{listed, item_type, item_result, maybe_item, shown, kind, form, is_count, in_range}
use Rattle.rule.specs.Things.{array_fault}
use Rattle.rule.specs.Things.{value_fault, fault_of, see_form, see_row, see}
use Rattle.rule.proofs.Shows.{value-shows}
use Rattle.law_rows.proofs.Good.{Good, IsItem}
use Rattle.law_rows.proofs.There.{TypeThere, RowThere, InnerThere, ExpressionThere, ShownInRange}
use Rattle.law_rows.proofs.Ranged.{Each, IfSome, TypeInRange, BaseInRange, FormInRange}
use Rattle.law_rows.proofs.Named.{type-named, row-named}

never : {X : Type 0} → ◌≡◌ {A = ℕ} 0 1 → X
never z = absurd (omega arith)

-- LISTS

module _ {A : Type 0} (P : A → Type 0) where
  pub each_append : (l k : List A) → Each P l → Each P k → Each P (l ++ k)
  each_append [] k a b = b
  each_append (x ∷ l) k a b = (a.0, each_append l k a.1 b)

  pub each-listed : (f : ℕ → A) (n : ℕ) → ((i : ℕ) → i < n → P (f i)) → Each P (listed f n)
  unfolding listed
  each-listed f zero h = tt
  each-listed f (suc n) h = each_append (listed f n) (f n ∷ []) (each-listed f n (λ i l. h i (omega arith)))
      (h n (omega arith), tt)

  -- an item by its place, where there is one; with what stands for one that is not there
  pub each_at : (l : List A) (i : ℕ) → Each P l → IfSome P (get_elem? l i)
  each_at [] i a = tt
  each_at (x ∷ l) zero a = a.0
  each_at (x ∷ l) (suc i) a = each_at l i a.1

  pub each_within : (l : List A) (i : ℕ) (d : A) → Each P l → i < length l → P (get_or l i d)
  each_within [] i d a h = absurd (omega arith)
  each_within (x ∷ l) zero d a h = a.0
  each_within (x ∷ l) (suc i) d a h = each_within l i d a.1 (omega arith)

-- a value's base is a type of the file where a comparison gives it neither 5 nor 6
range-sound : (b : Bool) → in_range b ≡ Fa.Sound → b ≡ true
range-sound true e = refl
range-sound false e = never (cc)

array-sound : (a b c : Bool) → array_fault a b c ≡ Fa.Sound → b ≡ true
array-sound true true c e = refl
array-sound true false c e = never (cc)
array-sound false b c e = never (cc)

value-base : (s : Starts) (t : TypeInner) → value_fault s t ≡ Fa.Sound → BaseInRange s t
value-base s (Ti.Scalar k) e = tt
value-base s (Ti.Vector z k) e = tt
value-base s (Ti.Matrix c r k) e = tt
value-base s (Ti.CooperativeMatrix c r k o) e = tt
value-base s (Ti.Atomic k) e = tt
value-base s (Ti.Pointer b p) e = range-sound _ e
value-base s (Ti.ValuePointer z k p) e = tt
value-base s (Ti.Array b z t) e = array-sound (is_count z) (is_type s b) (size_names s z) e
value-base s (Ti.Struct m n t) e = tt
value-base s (Ti.Image d a c) e = tt
value-base s (Ti.Sampler q) e = tt
value-base s (Ti.AccelerationStructure q) e = tt
value-base s (Ti.RayQuery q) e = tt
value-base s (Ti.BindingArray b z) e = array-sound (is_count z) (is_type s b) (size_names s z) e

-- what is in range a comparison gives neither 5 nor 6
pub in-range-sound : (s : Starts) (a : TypeAnswer) → TypeInRange s a → fault_of s a ≡ Fa.Sound
in-range-sound s (number t) h = ap in_range h
in-range-sound s (value t) h = h.0
in-range-sound s (malformed f) h = absurd h

module _ (fr : List ℕ) (good : Good fr) where
  -- ITEMS: one of kind j reads as such, and names a type of the file
  item-is : (j k : ℕ) → IsItem fr j k → item_of (frame_at fr k) ≡ item_as (item_kind_of j) (frame_at fr k)
  unfolding item_of
  item-is j k i = ap (λ (b : ℕ). item_as (item_kind_of b) (frame_at fr k)) i.kind-is

  item_in : (j k : ℕ) → IsItem fr j k → item_names (starts_of fr) (item_as (item_kind_of j) (frame_at fr k)) ≡ true
  item_in j k i = ap (item_names (starts_of fr)) (sym (item-is j k i))
      ∙ item-names fr good.index k i.within i.family-is

  -- its type, by the law for its kind
  typed-item : (j k : ℕ) (i : IsItem fr j k)
      → is_type (starts_of fr) (item_type (item_as (item_kind_of j) (frame_at fr k)))
      ≡ true
      → is_type (starts_of fr) (item_type (item_of (frame_at fr k))) ≡ true
  typed-item j k i h = ap (λ (x : Item). is_type (starts_of fr) (item_type x)) (item-is j k i) ∙ h

  maybe-item : (first last n : ℕ)
      → (n < last - first → is_type (starts_of fr) (item_type (item_of (frame_at fr (first + n)))) ≡ true)
      → IfSome (λ t. is_type (starts_of fr) t ≡ true) (maybe_item fr first last (record { 0 = n }))
  maybe-item first last n h =
      by-test (IfSome (λ t. is_type (starts_of fr) t ≡ true)) (ltb n (last - first)) (λ q. h (ltb-true _ _ q)) (λ q. tt)

  -- ROWS
  expression-shows : (n : RowNumber) (e : Expression) → ExpressionThere fr n e
      → IfSome (ShownInRange (starts_of fr) n) (shown fr (starts_of fr) e)
  expression-shows n (Ex.Literal l) h = tt
  expression-shows n (Ex.Constant i) h = typed-item 1 _ h (item_in 1 _ h)
  expression-shows n (Ex.Override i) h = typed-item 2 _ h (item_in 2 _ h)
  expression-shows n (Ex.ZeroValue t) h = h
  expression-shows n (Ex.Compose t j c) h = (h.0, each-listed _ _ j (λ i l. (h.1 i l).early))
  expression-shows n (Ex.Access m) h = h
  expression-shows n (Ex.AccessIndex m i) h = h
  expression-shows n (Ex.Splat z m) h = h
  expression-shows n (Ex.Swizzle z m) h = h
  expression-shows n (Ex.FunctionArgument i) h = maybe-item _ _ i (λ l. typed-item 4 _ (h l) (item_in 4 _ (h l)))
  expression-shows n (Ex.GlobalVariable i) h = typed-item 3 _ h (item_in 3 _ h)
  expression-shows n (Ex.LocalVariable i) h = typed-item 5 _ h (item_in 5 _ h)
  expression-shows n (Ex.Load m) h = h
  expression-shows n (Ex.ImageSample m g) h = h
  expression-shows n (Ex.ImageLoad m) h = h
  expression-shows n (Ex.ImageQuery m q) h = h
  expression-shows n (Ex.Unary m) h = h
  expression-shows n (Ex.Binary o l r) h = h
  expression-shows n (Ex.Select m) h = h
  expression-shows n (Ex.Derivative m) h = h
  expression-shows n (Ex.Relational f m) h = h
  expression-shows n Ex.Math h = tt
  expression-shows n (Ex.As m k c) h = h
  expression-shows n (Ex.CallResult i) h =
      ap (λ (x : Item). result_names (starts_of fr) (item_result x)) (item-is 6 _ h)
      ∙ item_in 6 _ h
  expression-shows n (Ex.AtomicResult t) h = h
  expression-shows n (Ex.WorkGroupUniformLoadResult t) h = h
  expression-shows n Ex.ArrayLength h = tt
  expression-shows n Ex.RayQueryVertexPositions h = maybe-item _ _ 0 (λ l. typed-item 8 _ (h l) (item_in 8 _ (h l)))
  expression-shows n Ex.RayQueryProceedResult h = tt
  expression-shows n Ex.RayQueryGetIntersection h = maybe-item _ _ 0 (λ l. typed-item 7 _ (h l) (item_in 7 _ (h l)))
  expression-shows n Ex.SubgroupBallotResult h = tt
  expression-shows n (Ex.SubgroupOperationResult t) h = h
  expression-shows n (Ex.CooperativeLoad c r o m) h = h
  expression-shows n (Ex.CooperativeMultiplyAdd m) h = h

  row_shows : (n : RowNumber) (r : Option Expression) → RowThere fr n r
      → IfSome (ShownInRange (starts_of fr) n) (see_row fr (starts_of fr) r)
  row_shows n (Some e) h = expression-shows n e h
  row_shows n None h = tt

  -- what a row of the file shows is in range
  pub row_seen : (n : RowNumber) → is_row (starts_of fr) n ≡ true
      → IfSome (ShownInRange (starts_of fr) n) (see fr (kind n))
  row_seen n here = row_shows n (row_in fr (starts_of fr) n) (row-named fr good n here)

  -- TYPES
  module _ (n : TypeNumber) (here : is_type (starts_of fr) n ≡ true) where
    earlier-type : (b : TypeNumber) → b.0 < n.0 → is_type (starts_of fr) b ≡ true
    earlier-type b l = lt-ltb b.0 (type_count (starts_of fr))
        (omega (arith, ltb-true n.0 (type_count (starts_of fr)) here))

    inner-shows : (t : TypeInner) → InnerThere fr n t
        → IfSome (FormInRange (starts_of fr)) (see_form fr (starts_of fr) (Some t))
    inner-shows (Ti.Scalar k) h = record { base = tt; members = tt }
    inner-shows (Ti.Vector z k) h = record { base = tt; members = tt }
    inner-shows (Ti.Matrix c r k) h = record { base = tt; members = tt }
    inner-shows (Ti.CooperativeMatrix c r k o) h = record { base = tt; members = tt }
    inner-shows (Ti.Atomic k) h = record { base = tt; members = tt }
    inner-shows (Ti.Pointer b p) h = record { base = earlier-type b h; members = tt }
    inner-shows (Ti.ValuePointer z k p) h = record { base = tt; members = tt }
    inner-shows (Ti.Array b z t) h = record { base = earlier-type b h.0; members = tt }
    inner-shows (Ti.Struct m j t) h
        = record { base = tt; members = each-listed _ _ j (λ i l. earlier-type _ (h i l).early) }
    inner-shows (Ti.Image d a c) h = record { base = tt; members = tt }
    inner-shows (Ti.Sampler q) h = record { base = tt; members = tt }
    inner-shows (Ti.AccelerationStructure q) h = record { base = tt; members = tt }
    inner-shows (Ti.RayQuery q) h = record { base = tt; members = tt }
    inner-shows (Ti.BindingArray b z) h = record { base = earlier-type b h.0; members = tt }

    form-shows : (t : Option TypeInner) → TypeThere fr n t → IfSome (FormInRange (starts_of fr)) (see_form fr
        (starts_of fr) t)
    form-shows (Some t) h = inner-shows t h
    form-shows None h = tt

  -- what a type that a comparison gives neither 5 nor 6 shows is in range
  pub sound-seen : (a : TypeAnswer) → fault_of (starts_of fr) a ≡ Fa.Sound
      → IfSome (FormInRange (starts_of fr)) (see fr (form a))
  sound-seen (number n) e =
      let here = range-sound (is_type (starts_of fr) n) e in
      form-shows n here (type_in fr (starts_of fr) n) (type-named fr good n here)
  sound-seen (value t) e = rw (value-shows fr t e) (record { base = value-base (starts_of fr) t e; members = tt })
  sound-seen (malformed f) e = never (cc)

  -- and so what a type in range shows
  pub form-seen : (a : TypeAnswer) → TypeInRange (starts_of fr) a
      → IfSome (FormInRange (starts_of fr)) (see fr (form a))
  form-seen a h = sound-seen a (in-range-sound (starts_of fr) a h)
