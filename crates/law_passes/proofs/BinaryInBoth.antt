-- `binary-in-both`: a Binary row that the second pass types is typed by the first, where the passes are alike at its
-- operands: what a line of WGSL's tables takes, the first pass's rule types, line by line.
use Rattle.std.specs.Prelude.{Option as CodeOption, Some, None}
use Rattle.ir.specs.declared.VectorSize.{VectorSize}
use Prim.Native.Nat.{ℕ, ◌<◌}
use mathlib.Core.Path.{◌≡◌, refl, sym, ap, ◌∙◌}
use mathlib.Core.List.{List}
use mathlib.Core.Option.{Option, none, some}
use Rattle.ir.specs.declared.RowNumber.{RowNumber}
use Rattle.ir.specs.declared.Scalar.{Scalar}
use Rattle.ir.specs.declared.BinaryOperator.{BinaryOperator}
use Rattle.ir.specs.declared.BinaryOperator.TheVariants as Bo
use Rattle.ir.specs.declared.TypeInner.{TypeInner}
use Rattle.archive.specs.Starts.{starts_of, row_count}
use Rattle.rule.specs.Answers.{TypeAnswer, Typed, given, refused, chosen_refusal, Place, Result, told, newer}
use Rattle.rule.specs.Things.{Form, form, Sight, see}
use Rattle.rule.specs.Rule.{Rule, Answers, run}
use Rattle.rule.specs.InOrder.{absent, among, answers}
use Rattle.rule.proofs.InOrder.{in-order-at}
use Rattle.rule_types.proofs.Seen.{never}
use Rattle.rule_rows.specs.declared.Pass.TheVariants as Pa
use Rattle.rule_rows.specs.WgslTables.{plain, Wgsl}
use Rattle.rule_rows.specs.WgslTables as W
use Rattle.rule_rows.specs.Wgsl.{wgsl_result}
use Rattle.rule_rows.specs.Operators.{product, bools_of, logical_of, binary, or_mismatch, wgsl_binary}
use Rattle.rule_rows.specs.Typed.{typing}
use Rattle.rule_rows.proofs.Wgsl.{wgsl-is}
use Rattle.rule_answers.specs.Outputs.{row_answer}
use Rattle.law_rows.proofs.Good.{Good}
use Rattle.law_passes.specs.Passes.{IsBinary, operator_at, left_at, right_at}
use Rattle.law_passes.specs.InBoth.{IsType, ShowsAs, AlikeAt}
use Rattle.law_passes.proofs.Judged.{binary-shown, earlier, among-rows}

data IsGiven : Typed → Type 0 where
  is-given : (a : TypeAnswer) → IsGiven (given a)

is-type : {w : Typed} {r : Result Typed} → IsGiven w → r ≡ told w → IsType r
is-type (is-given a) e = record { type = a; typed = e }

-- THE FIRST PASS over two typed operands of known kinds
abbrev first_of : BinaryOperator → TypeAnswer → TypeAnswer → TypeInner → TypeInner → Typed
first_of Bo.Add a b x y = given a
first_of Bo.Subtract a b x y = given a
first_of Bo.Divide a b x y = given a
first_of Bo.Modulo a b x y = given a
first_of Bo.Multiply a b x y = product a b x y
first_of Bo.Equal a b x y = bools_of x
first_of Bo.NotEqual a b x y = bools_of x
first_of Bo.Less a b x y = bools_of x
first_of Bo.LessEqual a b x y = bools_of x
first_of Bo.Greater a b x y = bools_of x
first_of Bo.GreaterEqual a b x y = bools_of x
first_of Bo.LogicalAnd a b x y = logical_of x
first_of Bo.LogicalOr a b x y = logical_of x
first_of Bo.And a b x y = given a
first_of Bo.ExclusiveOr a b x y = given a
first_of Bo.InclusiveOr a b x y = given a
first_of Bo.ShiftLeft a b x y = given a
first_of Bo.ShiftRight a b x y = given a

bools-given : (n : CodeOption VectorSize) (s : Scalar) → IsGiven (bools_of (plain n s))
bools-given None s = is-given _
bools-given (Some z) s = is-given _

products-given : (a b : TypeAnswer) (n : CodeOption VectorSize) (s : Scalar)
    → IsGiven (product a b (plain n s) (plain n s))
products-given a b None s = is-given _
products-given a b (Some z) s = is-given _

line-given : (a b : TypeAnswer) {op : BinaryOperator} {x y t : TypeInner} → Wgsl op x y t
    → IsGiven (first_of op a b x y)
line-given a b W.logical-or = is-given _
line-given a b W.logical-and = is-given _
line-given a b (W.or-bools n) = is-given _
line-given a b (W.and-bools n) = is-given _
line-given a b (W.add n s h) = is-given _
line-given a b (W.subtract n s h) = is-given _
line-given a b (W.multiply n s h) = products-given a b n s
line-given a b (W.divide n s h) = is-given _
line-given a b (W.modulo n s h) = is-given _
line-given a b (W.add-vector-scalar n s h) = is-given _
line-given a b (W.add-scalar-vector n s h) = is-given _
line-given a b (W.subtract-vector-scalar n s h) = is-given _
line-given a b (W.subtract-scalar-vector n s h) = is-given _
line-given a b (W.multiply-vector-scalar n s h) = is-given _
line-given a b (W.multiply-scalar-vector n s h) = is-given _
line-given a b (W.divide-vector-scalar n s h) = is-given _
line-given a b (W.divide-scalar-vector n s h) = is-given _
line-given a b (W.modulo-vector-scalar n s h) = is-given _
line-given a b (W.modulo-scalar-vector n s h) = is-given _
line-given a b (W.add-matrices c r t h) = is-given _
line-given a b (W.subtract-matrices c r t h) = is-given _
line-given a b (W.matrix-scalar c r t h) = is-given _
line-given a b (W.scalar-matrix c r t h) = is-given _
line-given a b (W.matrix-vector c r t h) = is-given _
line-given a b (W.vector-matrix c r t h) = is-given _
line-given a b (W.matrix-matrix c k r t h) = is-given _
line-given a b (W.equal n s h) = bools-given n s
line-given a b (W.not_equal n s h) = bools-given n s
line-given a b (W.less n s h) = bools-given n s
line-given a b (W.less_equal n s h) = bools-given n s
line-given a b (W.greater n s h) = bools-given n s
line-given a b (W.greater-equal n s h) = bools-given n s
line-given a b (W.or-bits n s h) = is-given _
line-given a b (W.and-bits n s h) = is-given _
line-given a b (W.xor-bits n s h) = is-given _
line-given a b (W.shift-left n s h) = is-given _
line-given a b (W.shift-right n s h) = is-given _

module _ (sight : Sight) (past : Answers) (here l r : RowNumber) {a b : TypeAnswer} (x z : Form)
    (p : past l ≡ told (given a)) (q : past r ≡ told (given b)) (u : sight (form a) ≡ some x)
    (v : sight (form b) ≡ some z) where
  first_run : (op : BinaryOperator)
      → run sight past newer (binary here op l r) ≡ told (first_of op a b x.inner z.inner)
  first_run Bo.Add = rw (p, run)
  first_run Bo.Subtract = rw (p, run)
  first_run Bo.Divide = rw (p, run)
  first_run Bo.Modulo = rw (p, run)
  first_run Bo.Multiply = rw (p, q, u, v, run)
  first_run Bo.Equal = rw (p, u, run)
  first_run Bo.NotEqual = rw (p, u, run)
  first_run Bo.Less = rw (p, u, run)
  first_run Bo.LessEqual = rw (p, u, run)
  first_run Bo.Greater = rw (p, u, run)
  first_run Bo.GreaterEqual = rw (p, u, run)
  first_run Bo.LogicalAnd = rw (p, u, run)
  first_run Bo.LogicalOr = rw (p, u, run)
  first_run Bo.And = rw (p, run)
  first_run Bo.ExclusiveOr = rw (p, run)
  first_run Bo.InclusiveOr = rw (p, run)
  first_run Bo.ShiftLeft = rw (p, run)
  first_run Bo.ShiftRight = rw (p, run)

-- THE SECOND PASS gives a type only where a line of the tables takes its operands
record Taken (sight : Sight) (past : Answers) (op : BinaryOperator) (l r : RowNumber) : Type 0 where
  left : TypeAnswer
  right : TypeAnswer
  left_is : past l ≡ told (given left)
  right_is : past r ≡ told (given right)
  x : Form
  z : Form
  x-is : sight (form left) ≡ some x
  z-is : sight (form right) ≡ some z
  result : TypeInner
  line : Wgsl op x.inner z.inner result

module _ (sight : Sight) (past : Answers) (here l r : RowNumber) (op : BinaryOperator) (y : TypeAnswer)
    (h : run sight past newer (wgsl_binary here op l r) ≡ told (given y)) where
  abbrev Never : Result Typed → Type 0
  Never o = o ≡ told (given y)

  by-forms : (a b : TypeAnswer) → past l ≡ told (given a) → past r ≡ told (given b) → (o w : Option Form)
      → sight (form a) ≡ o → sight (form b) ≡ w → Taken sight past op l r
  by-forms a b p q none w u v = let z : Never (newer _) = rw (p, q, u, run) at h in never (cc)
  by-forms a b p q (some x) none u v = let z : Never (newer _) = rw (p, q, u, v, run) at h in never (cc)
  by-forms a b p q (some x) (some z) u v = go (wgsl_result op x.inner z.inner) refl (rw (p, q, u, v, run) at h)
    where
      go : (o : Option TypeInner) → wgsl_result op x.inner z.inner ≡ o → told (or_mismatch o) ≡ told (given y)
          → Taken sight past op l r
      go none e g = never (cc)
      go (some t) e g = record {
        left = a;
        right = b;
        left_is = p;
        right_is = q;
        x = x;
        z = z;
        x-is = u;
        z-is = v;
        result = t;
        line = (wgsl-is op x.inner z.inner t).0 e;
      }

  by_right : (a : TypeAnswer) → past l ≡ told (given a) → (o : Result Typed) → past r ≡ o → Taken sight past op l r
  by_right a p (told (given b)) q = by-forms a b p q _ _ refl refl
  by_right a p (told (refused e)) q = let z : Never (told (refused e)) = rw (p, q, run) at h in never (cc)
  by_right a p (told (chosen_refusal f)) q = let z : Never (told (chosen_refusal f)) = rw (p, q, run) at h in never (cc)
  by_right a p (newer w) q = let z : Never (newer w) = rw (p, q, run) at h in never (cc)

  by_left : (o : Result Typed) → past l ≡ o → Taken sight past op l r
  by_left (told (given a)) p = by_right a p _ refl
  by_left (told (refused e)) p = let z : Never (told (refused e)) = rw (p, run) at h in never (cc)
  by_left (told (chosen_refusal f)) p = let z : Never (told (chosen_refusal f)) = rw (p, run) at h in never (cc)
  by_left (newer w) p = let z : Never (newer w) = rw (p, run) at h in never (cc)

  taken : Taken sight past op l r
  taken = by_left _ refl

-- A BINARY ROW of frames that pass checks 4 to 6
module _ (fr : List ℕ) (good : Good fr) (n : ℕ) (here : n < row_count (starts_of fr)) (is : IsBinary fr n)
    (left : AlikeAt fr (left_at fr n)) (right : AlikeAt fr (right_at fr n)) where
  abbrev own : RowNumber
  own = record { 0 = n }

  abbrev op : BinaryOperator
  op = operator_at fr n

  abbrev l : RowNumber
  l = record { 0 = left_at fr n }

  abbrev r : RowNumber
  r = record { 0 = right_at fr n }

  abbrev one : Answers
  one = among (answers (see fr) (typing Pa.First) (λ k. newer) n)

  abbrev two : Answers
  two = among (answers (see fr) (typing Pa.Second) (λ k. newer) n)

  first-is : row_answer Pa.First (see fr) n ≡ run (see fr) one newer (binary own op l r)
  first-is = rw (binary-shown fr good n here is, run)

  second_is : row_answer Pa.Second (see fr) n ≡ run (see fr) two newer (wgsl_binary own op l r)
  second_is = rw (binary-shown fr good n here is, run)

  first-row : (m : ℕ) → m < n → one (record { 0 = m }) ≡ row_answer Pa.First (see fr) m
  first-row m h = in-order-at _ (told absent) n m h

  pub binary-in-both : (y : TypeAnswer) → row_answer Pa.Second (see fr) n ≡ told (given y)
      → IsType (row_answer Pa.First (see fr) n)
  binary-in-both y e =
      let k = earlier fr good n here is in
      let t = taken (see fr) two own l r op y (sym second_is ∙ e) in
      let a = left t.left (sym (among-rows fr good n here is (left_at fr n) k.0) ∙ t.left_is) in
      let b = right t.right (sym (among-rows fr good n here is (right_at fr n) k.1) ∙ t.right_is) in
      is-type (line-given a.type b.type t.line)
      (first-is
      ∙ first_run (see fr) one own l r t.x t.z (first-row (left_at fr n) k.0 ∙ a.typed)
      (first-row (right_at fr n) k.1 ∙ b.typed) (a.shows ∙ t.x-is) (b.shows ∙ t.z-is) op)
