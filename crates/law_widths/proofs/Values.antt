-- A type that is written has one of the four widths, since a width has no other number; so has a frame that fits the
-- layout of its kind, by the test of its scalar. Case by case of the kind.
use Rattle.std.specs.Prelude.{Ok, Err}
use Rattle.answers.specs.declared.Unresolved.TheVariants as Un
use Prim.Native.Nat.{ℕ}
use native.Mathlib.Omega.{arith}
use mathlib.Core.Path.{◌≡◌, refl, sym, ap, ◌∙◌}
use mathlib.Core.Bool.{Bool, true, false, cond, ◌&&◌, ◌||◌}
use lib.Dec.{ltb, eqb}
use borrow.Author.Tests.{ltb-true, eqb-true}
use Rattle.scan.proofs.Laws.{and_first, and_second}
use Rattle.ir.specs.declared.TypeInner.{TypeInner}
use Rattle.ir.specs.declared.TypeInner.TheVariants as Ti
use Rattle.ir.specs.declared.TypeResolution.{TypeResolution}
use Rattle.ir.specs.declared.TypeResolution.TheVariants as Tr
use Rattle.ir.specs.Numbers.{type_kind_of, row_kind_of, scalar_kind_number, is_width, width_number}
use Rattle.ir.proofs.Numbered.{scalar_kind-number, width_one, width-number}
use Rattle.answers.specs.Answer.{Answer}
use Rattle.answers.specs.Numbers.{SaidOf, type, no_pointer, refused}
use Rattle.frames.specs.declared.Frame.{Frame}
use Rattle.frames.specs.Bytes.{byte}
use Rattle.frames.specs.Fields.{read, fits, fits_all, is_convert, vector_size, option_size, cooperative_size, scalar}
use Rattle.frames.specs.Fields.{scalar_kind, convert}
use Rattle.frames.specs.Layout.{type_layout, row_layout}
use Rattle.frames.specs.Out.{type_frame, resolution_frame, answer_frame}
use Rattle.rule_types.proofs.Seen.{never}
use Rattle.rule_file.specs.Exported.{type_said_frame}
use Rattle.law_widths.specs.Widths.{holds_scalar, RealWidth, AsWidth, ValueWidth}

-- WHAT IS WRITTEN

-- every type, written in any family
pub value-width : (family : ℕ) (t : TypeInner) → RealWidth (type_frame family t)
value-width family (Ti.Scalar s) h = width_one s.width
value-width family (Ti.Vector n s) h = width_one s.width
value-width family (Ti.Matrix c r s) h = width_one s.width
value-width family (Ti.CooperativeMatrix c r s o) h = width_one s.width
value-width family (Ti.Atomic s) h = width_one s.width
value-width family (Ti.Pointer b p) h = never (cc)
value-width family (Ti.ValuePointer n s p) h = width_one s.width
value-width family (Ti.Array b z t) h = never (cc)
value-width family (Ti.Struct m n t) h = never (cc)
value-width family (Ti.Image d a c) h = never (cc)
value-width family (Ti.Sampler q) h = never (cc)
value-width family (Ti.AccelerationStructure q) h = never (cc)
value-width family (Ti.RayQuery q) h = never (cc)
value-width family (Ti.BindingArray b z) h = never (cc)

-- every type that a function hands back: a row's, a canonical form, the base of a pointer
pub resolution-width : (r : TypeResolution) → ValueWidth (resolution_frame r)
resolution-width (Tr.Handle n) e = let z : ◌≡◌ {A = ℕ} 8 9 = e in absurd (omega arith)
resolution-width (Tr.Value t) e = value-width 9 t

-- every answer of the code
pub answer-width : (a : Answer) → ValueWidth (answer_frame a)
answer-width (Ok r) z = resolution-width r z
answer-width (Err (Un.Refused e)) z = let q : ◌≡◌ {A = ℕ} 10 9 = z in absurd (omega arith)
answer-width (Err (Un.Newer r)) z = let q : ◌≡◌ {A = ℕ} 10 9 = z in absurd (omega arith)

-- what the exported functions write for a canonical form or a base
pub said-width : (s : SaidOf) → ValueWidth (type_said_frame s)
said-width (type t) z = resolution-width t z
said-width no_pointer z = let q : ◌≡◌ {A = ℕ} 10 9 = z in absurd (omega arith)
said-width (refused r) z = let q : ◌≡◌ {A = ℕ} 10 9 = z in absurd (omega arith)

-- WHAT IS READ

-- a scalar that fits is written back as the same two bytes
pub scalar-back : (f : Frame) → fits scalar f ≡ true
    → (scalar_kind_number (read scalar f).kind ≡ byte f 4) × (width_number (read scalar f).width ≡ byte f 5)
scalar-back f h = (
  scalar_kind-number (byte f 4) (ltb-true (byte f 4) 6 (and_first (ltb (byte f 4) 6) (is_width (byte f 5)) h)),
  width-number (byte f 5) (and_second (ltb (byte f 4) 6) (is_width (byte f 5)) h),
)

-- what holds of a kind holds of its number
moved : (f : Frame) (k n : ℕ) → eqb k n ≡ true → fits_all (type_layout (type_kind_of k)) f ≡ true
    → fits_all (type_layout (type_kind_of n)) f ≡ true
moved f k n p t = ap (λ (j : ℕ). fits_all (type_layout (type_kind_of j)) f) (sym (eqb-true k n p)) ∙ t

-- the scalar of a frame that fits its kind's layout fits
holds : (f : Frame) (k : ℕ) → holds_scalar k ≡ true → fits_all (type_layout (type_kind_of k)) f ≡ true
    → fits scalar f ≡ true
holds f k h t = go (eqb k 1) (eqb k 2) (eqb k 3) (eqb k 4) (eqb k 5) (eqb k 7) refl refl refl refl refl refl h
  where
    go : (a b c d e g : Bool) → eqb k 1 ≡ a → eqb k 2 ≡ b → eqb k 3 ≡ c → eqb k 4 ≡ d → eqb k 5 ≡ e → eqb k 7 ≡ g
        → (a || (b || (c || (d || (e || g))))) ≡ true → fits scalar f ≡ true
    go true b c d e g p1 p2 p3 p4 p5 p7 q = and_first (fits scalar f) _ (moved f k 1 p1 t)
    go false true c d e g p1 p2 p3 p4 p5 p7 q = and_first (fits scalar f) _
        (and_second (fits (vector_size 2) f) _ (moved f k 2 p2 t))
    go false false true d e g p1 p2 p3 p4 p5 p7 q =
        and_first (fits scalar f) _
        (and_second (fits (vector_size 3) f) _ (and_second (fits (vector_size 2) f) _ (moved f k 3 p3 t)))
    go false false false true e g p1 p2 p3 p4 p5 p7 q =
        and_first (fits scalar f) _
        (and_second (fits (cooperative_size 3) f) _ (and_second (fits (cooperative_size 2) f) _ (moved f k 4 p4 t)))
    go false false false false true g p1 p2 p3 p4 p5 p7 q = and_first (fits scalar f) _ (moved f k 5 p5 t)
    go false false false false false true p1 p2 p3 p4 p5 p7 q =
        and_first (fits scalar f) _ (and_second (fits (option_size 2) f) _ (moved f k 7 p7 t))
    go false false false false false false p1 p2 p3 p4 p5 p7 q = never (cc)

-- a frame that fits the layout of its kind has one of the four widths
pub fitting-width : (f : Frame) → fits_all (type_layout (type_kind_of (byte f 1))) f ≡ true → RealWidth f
fitting-width f t h = and_second (ltb (byte f 4) 6) (is_width (byte f 5)) (holds f (byte f 1) h t)

-- a flag and a width that fit
converts : (f : Frame) → is_convert (byte f 7) (byte f 8) ≡ true → AsWidth f
converts f h =
    let t : cond (eqb (byte f 7) 1) (is_width (byte f 8)) (eqb (byte f 8) 0)
    ≡ true = and_second (ltb (byte f 7) 2) _ h in
    record {
      flag = ltb-true (byte f 7) 2 (and_first (ltb (byte f 7) 2) _ h);
      set = λ e. sym (ap (λ (b : ℕ). cond (eqb b 1) (is_width (byte f 8)) (eqb (byte f 8) 0)) e) ∙ t;
      clear =
          λ e. eqb-true (byte f 8) 0
          (sym (ap (λ (b : ℕ). cond (eqb b 1) (is_width (byte f 8)) (eqb (byte f 8) 0)) e) ∙ t);
    }

-- an As row that fits its layout
pub as-width : (f : Frame) → byte f 1 ≡ 23 → fits_all (row_layout (row_kind_of (byte f 1))) f ≡ true → AsWidth f
as-width f e t =
    let u : fits_all (row_layout (row_kind_of 23)) f ≡ true =
    ap (λ (k : ℕ). fits_all (row_layout (row_kind_of k)) f) (sym e)
    ∙ t in
    converts f (and_first (fits convert f) _ (and_second (fits (scalar_kind 6) f) _ u))
