-- What one component decides, for the code: by a look, by an answer without a type, by the struct's member of its
-- index; and that in a vector it adds at most four. By the cases of its answer and of its form.
use Rattle.std.specs.Prelude.{Option as CodeOption, Some, None, Ok, Err}
use Prim.Native.Nat.{ℕ, zero, suc, ◌≤◌, ◌<◌}
use native.Mathlib.Omega.{arith}
use mathlib.Core.Path.{◌≡◌, refl, sym, ap, ◌∙◌}
use mathlib.Core.Bool.{Bool, true, false, cond}
use mathlib.Core.List.{List, [], ◌∷◌}
use mathlib.Core.Option.{Option, none, some}
use borrow.Author.Tests.{ne_eqb}
use lib.ListN.{length, get_or}
use Rattle.ir.specs.declared.RowNumber.{RowNumber}
use Rattle.ir.specs.declared.MemberNumber.{MemberNumber}
use Rattle.ir.specs.declared.VectorSize.{VectorSize}
use Rattle.ir.specs.declared.VectorSize.TheVariants as Vs
use Rattle.ir.specs.Numbers.{vector_size_number}
use Rattle.ir.specs.declared.Scalar.{Scalar}
use Rattle.ir.specs.declared.TypeInner.{TypeInner}
use Rattle.ir.specs.declared.TypeInner.TheVariants as Ti
use Rattle.ir.specs.declared.TypeResolution.{TypeResolution}
use Rattle.answers.specs.Answer.{Answer}
use Rattle.answers.specs.declared.Unresolved.{Unresolved}
use Rattle.answers.specs.declared.Unresolved.TheVariants as Un
use Rattle.answers.specs.ForProofs.{answered}
use Rattle.frames.specs.declared.Frame.{Frame}
use Rattle.frames.specs.Bytes.{byte}
use Rattle.frames.specs.ForProofs.{unresolved_of, answer_of}
use Rattle.archive.specs.declared.Starts.{Starts}
use Rattle.archive.specs.Access.{member_in}
use Rattle.rule.proofs.Named.{listed-length, listed_at}
use Rattle.rule.specs.Answers.{resolved}
use Rattle.rule.specs.Things.{form_in}
use Rattle.rule_types.specs.ForProofs.{found}
use Rattle.ir.specs.Scalars.{equal_scalars}
use Rattle.rule_rows.specs.ForProofs.{members_in}
use Rattle.row_operands.specs.Looked.{Looked}
use Rattle.row_operands.specs.Past.{looked_at, looked_by, looked_in}
use Rattle.row_operands.specs.Plain.{past_frame}
use Rattle.row_operands.proofs.ByFrame.{past-frame}
use Rattle.rule_rows.specs.OverBuffer.{answer_in}
use Rattle.rule_compose.specs.Verdict.{adds}
use Rattle.verdict_compose.specs.Decided.{Decided}
use Rattle.verdict_compose.specs.Decided.{member_type, count_decides, end_decides, answer_decides}
use Rattle.verdict_compose.specs.Decided.{form_decides, like_decides, like_said, added_by}

-- A COMPONENT ADDS AT MOST FOUR

size_small : (z : VectorSize) → vector_size_number z ≤ 4
size_small Vs.Bi = omega arith
size_small Vs.Tri = omega arith
size_small Vs.Quad = omega arith

test-small : (b : Bool) (m n : ℕ) → cond b (some m) none ≡ some n → m ≤ 4 → n ≤ 4
test-small true m n e h = let q : m ≡ n = cc in omega arith
test-small false m n e h = absurd (let z : ◌≡◌ {A = ℕ} 0 1 = cc in omega arith)

adds-small : (k : Scalar) (t : TypeInner) (m : ℕ) → adds k t ≡ some m → m ≤ 4
adds-small k (Ti.Scalar j) m e = test-small (equal_scalars j k) 1 m e (omega arith)
adds-small k (Ti.Vector z j) m e = test-small (equal_scalars j k) (vector_size_number z) m e (size_small z)
adds-small k (Ti.Matrix c r j) m e = absurd (let z : ◌≡◌ {A = ℕ} 0 1 = cc in omega arith)
adds-small k (Ti.CooperativeMatrix c r j o) m e = absurd (let z : ◌≡◌ {A = ℕ} 0 1 = cc in omega arith)
adds-small k (Ti.Atomic j) m e = absurd (let z : ◌≡◌ {A = ℕ} 0 1 = cc in omega arith)
adds-small k (Ti.Pointer b p) m e = absurd (let z : ◌≡◌ {A = ℕ} 0 1 = cc in omega arith)
adds-small k (Ti.ValuePointer y j p) m e = absurd (let z : ◌≡◌ {A = ℕ} 0 1 = cc in omega arith)
adds-small k (Ti.Array b y t) m e = absurd (let z : ◌≡◌ {A = ℕ} 0 1 = cc in omega arith)
adds-small k (Ti.Struct f n t) m e = absurd (let z : ◌≡◌ {A = ℕ} 0 1 = cc in omega arith)
adds-small k (Ti.Image d a c) m e = absurd (let z : ◌≡◌ {A = ℕ} 0 1 = cc in omega arith)
adds-small k (Ti.Sampler q) m e = absurd (let z : ◌≡◌ {A = ℕ} 0 1 = cc in omega arith)
adds-small k (Ti.AccelerationStructure q) m e = absurd (let z : ◌≡◌ {A = ℕ} 0 1 = cc in omega arith)
adds-small k (Ti.RayQuery q) m e = absurd (let z : ◌≡◌ {A = ℕ} 0 1 = cc in omega arith)
adds-small k (Ti.BindingArray b y) m e = absurd (let z : ◌≡◌ {A = ℕ} 0 1 = cc in omega arith)

count_small : (i : ℕ) (o : Option ℕ) (m : ℕ) → count_decides i o ≡ Ok m → o ≡ some m
count_small i (some n) m e = let q : n ≡ m = cc in ap some q
count_small i none m e = absurd (let z : ◌≡◌ {A = ℕ} 0 1 = cc in omega arith)

form_small : (i : ℕ) (k : Scalar) (f : CodeOption TypeInner) (m : ℕ)
    → form_decides i (λ t. count_decides i (adds k t)) f ≡ Ok m
    → m ≤ 4
form_small i k (Some t) m e = adds-small k t m (count_small i (adds k t) m e)
form_small i k None m e = absurd (let z : ◌≡◌ {A = ℕ} 0 1 = cc in omega arith)

pub added-small : (fr : List ℕ) (s : Starts) (k : Scalar) (i : ℕ) (a : Answer) (m : ℕ) → added_by fr s k i a ≡ Ok m
    → m ≤ 4
added-small fr s k i (Ok t) m e = form_small i k (form_in fr s (resolved t)) m e
added-small fr s k i (Err (Un.Refused x)) m e = absurd (let z : ◌≡◌ {A = ℕ} 0 1 = cc in omega arith)
added-small fr s k i (Err (Un.Newer r)) m e = absurd (let z : ◌≡◌ {A = ℕ} 0 1 = cc in omega arith)

-- A COMPONENT LOOKED INTO, or without a type: the same as by its answer

abbrev pub on_looked : {X : Type 0} → Looked → (TypeInner → X) → (Unresolved → X) → X
on_looked (Ok t) f g = f t
on_looked (Err u) f g = g u

module _ (fr : List ℕ) (s : Starts) (here : RowNumber) (i : ℕ) (by : TypeInner → Decided) where
  form-looked : (f : CodeOption TypeInner) → on_looked (looked_at here f) by (end_decides i) ≡ form_decides i by f
  form-looked (Some t) = refl
  form-looked None = refl

  answer-looked : (a : Answer)
      → on_looked (looked_by fr s here a) by (end_decides i)
      ≡ answer_decides i (λ t. form_decides i by (form_in fr s (resolved t))) a
  answer-looked (Ok t) = form-looked (form_in fr s (resolved t))
  answer-looked (Err (Un.Refused e)) = refl
  answer-looked (Err (Un.Newer r)) = refl

  pub looked-is : (an pl : List ℕ) (n : RowNumber) {l : Looked} → looked_in fr s an pl here n ≡ l
      → on_looked l by (end_decides i)
      ≡ answer_decides i (λ t. form_decides i by (form_in fr s (resolved t))) (answer_in an pl n)
  unfolding looked_in
  looked-is an pl n e = ap (λ (x : Looked). on_looked x by (end_decides i)) (sym e) ∙ answer-looked (answer_in an pl n)

ended_by : (i : ℕ) (by : TypeResolution → Decided) (u : Unresolved) → end_decides i u ≡ answer_decides i by (answered u)
ended_by i by (Un.Refused e) = refl
ended_by i by (Un.Newer r) = refl

-- a frame of a family that is neither 8 nor 9
pub no-type : (i : ℕ) (by : TypeResolution → Decided) (f : Frame) → (byte f 0 ≡ 8 → ⊥) → (byte f 0 ≡ 9 → ⊥)
    → end_decides i (unresolved_of f) ≡ answer_decides i by (answer_of f)
unfolding answer_of
no-type i by f p q = rw (ne_eqb (byte f 0) 8 p, ne_eqb (byte f 0) 9 q) (ended_by i by (unresolved_of f))

-- as that of row n, a refusal
pub refused-is : (i : ℕ) (by : TypeResolution → Decided) (an pl : List ℕ) (n : RowNumber) {f : Frame}
    → f ≡ past_frame an pl n → byte f 0 ≡ 10
    → end_decides i (unresolved_of f) ≡ answer_decides i by (answer_in an pl n)
refused-is i by an pl n {f} q e =
    no-type i by f (λ h. omega (arith, e, h)) (λ h. omega (arith, e, h))
    ∙ ap (answer_decides i by) (ap answer_of q ∙ sym (past-frame an pl n))

-- FOR THE SMALLER FUNCTIONS

pub like-said : (i : ℕ) (o : Option Bool) → like_said i (found o) ≡ like_decides i o
like-said i (some b) = refl
like-said i none = refl

past_end : {A : Type 0} (l : List A) (i : ℕ) (d : A) → length l ≤ i → get_or l i d ≡ d
past_end [] i d h = refl
past_end (x ∷ l) zero d h = absurd (omega arith)
past_end (x ∷ l) (suc i) d h = past_end l i d (omega arith)

pub member-within : (fr : List ℕ) (s : Starts) (first : MemberNumber) (n i : ℕ) → i < n
    → member_type fr s first n i ≡ (member_in fr s first i).ty
member-within fr s first n i h = listed_at (λ (j : ℕ). (member_in fr s first j).ty) (record { 0 = 0 }) n i h

pub member-past : (fr : List ℕ) (s : Starts) (first : MemberNumber) (n i : ℕ) → n ≤ i → member_type fr s first n i
    ≡ record { 0 = 0 }
member-past fr s first n i h =
    past_end (members_in fr s first n) i (record { 0 = 0 })
    (rw (listed-length (λ (j : ℕ). (member_in fr s first j).ty) n) h)
