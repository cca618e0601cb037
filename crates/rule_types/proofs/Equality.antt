-- Two types are equal exactly when their frames are, byte by byte: a type is read back from its frame.
use Rattle.std.specs.Prelude.{Some}
use Prim.Native.Nat.{ℕ}
use native.Mathlib.Omega.{arith}
use mathlib.Core.Path.{◌≡◌, refl, sym, ap, ◌∙◌}
use mathlib.Core.Bool.{Bool, true, false, ◌&&◌}
use mathlib.Core.List.{List, [], ◌∷◌}
use mathlib.Core.Logic.{◌↔◌}
use lib.Dec.{eqb}
use lib.ListN.{get_or}
use borrow.Author.Tests.{eqb-true, eq-eqb}
use Rattle.ir.specs.declared.TypeInner.{TypeInner}
use Rattle.scan.proofs.Laws.{and_first, and_second}
use Rattle.frames.specs.declared.Frame.{Frame}
use Rattle.frames.specs.Bytes.{bytes_of, framed}
use Rattle.frames.specs.Forms.{type_of}
use Rattle.frames.specs.Out.{type_frame}
use Rattle.frames.proofs.ReadBack.{type-back}
use Rattle.rule.specs.Answers.{TypeAnswer, type_answer_frame}
use Rattle.rule_types.specs.Canonical.{alike_bytes, equal_types, identical}

alike_same : (xs : List ℕ) → alike_bytes xs xs ≡ true
alike_same [] = refl
alike_same (x ∷ xs) = rw (eq-eqb x x refl) (alike_same xs)

same_alike : (xs ys : List ℕ) → alike_bytes xs ys ≡ true → xs ≡ ys
same_alike [] [] e = refl
same_alike [] (y ∷ ys) e = absurd (let z : ◌≡◌ {A = ℕ} 0 1 = cc in omega arith)
same_alike (x ∷ xs) [] e = absurd (let z : ◌≡◌ {A = ℕ} 0 1 = cc in omega arith)
same_alike (x ∷ xs) (y ∷ ys) e =
    let h : x ≡ y = eqb-true x y (and_first _ (alike_bytes xs ys) e) in
    let t : xs ≡ ys = same_alike xs ys (and_second (eqb x y) _ e) in
    cc

pub both_true : (a b : Bool) → (a ≡ true → b ≡ true) → (b ≡ true → a ≡ true) → a ≡ b
both_true true b f g = sym (f refl)
both_true false true f g = g refl
both_true false false f g = refl

alike-sym : (xs ys : List ℕ) → alike_bytes xs ys ≡ alike_bytes ys xs
alike-sym xs ys = both_true _ _ (turned xs ys) (turned ys xs)
  where
    turned : (xs ys : List ℕ) → alike_bytes xs ys ≡ true → alike_bytes ys xs ≡ true
    turned xs ys e = rw (same_alike xs ys e) (alike_same ys)

-- a frame is its bytes
frame_same : (f g : Frame) → alike_bytes (bytes_of f) (bytes_of g) ≡ true → f ≡ g
frame_same f g e = ap (λ (l : List ℕ). framed (λ i. get_or l i 0)) (same_alike (bytes_of f) (bytes_of g) e)

-- the test for equal types holds exactly of equal types
pub equal-types : (s t : TypeInner) → (equal_types s t ≡ true) ↔ (s ≡ t)
unfolding equal_types
equal-types s t = (
  λ e. (let h : Some s ≡ Some t = sym (type-back s 9)
      ∙ ap type_of (frame_same (type_frame 9 s) (type_frame 9 t) e)
      ∙ type-back t 9 in cc),
  λ e. ap (λ (u : TypeInner). alike_bytes (bytes_of (type_frame 9 s)) (bytes_of (type_frame 9 u))) (sym e)
      ∙ alike_same (bytes_of (type_frame 9 s)),
)

pub equal-sym : (s t : TypeInner) → equal_types s t ≡ equal_types t s
unfolding equal_types
equal-sym s t = alike-sym (bytes_of (type_frame 9 s)) (bytes_of (type_frame 9 t))

-- answers are identical exactly when their frames are
pub identical-frames : (a b : TypeAnswer) → (identical a b ≡ true) ↔ (type_answer_frame a ≡ type_answer_frame b)
unfolding identical
identical-frames a b = (
  λ e. frame_same (type_answer_frame a) (type_answer_frame b) e,
  λ e. ap (λ (f : Frame). alike_bytes (bytes_of (type_answer_frame a)) (bytes_of f)) (sym e)
      ∙ alike_same (bytes_of (type_answer_frame a)),
)

pub identical-self : (a : TypeAnswer) → identical a a ≡ true
identical-self a = (identical-frames a a).1 refl

pub identical-sym : (a b : TypeAnswer) → identical a b ≡ identical b a
unfolding identical
identical-sym a b = alike-sym (bytes_of (type_answer_frame a)) (bytes_of (type_answer_frame b))
