-- Lines written one after the other into a buffer with room for them. By induction on the lines.
use Prim.Native.Nat.{ℕ, zero, suc, ◌+◌, ◌*◌, ◌-◌, ◌≤◌}
use native.Mathlib.Numerals.{add-one}
use native.Mathlib.Omega.{arith}
use mathlib.Core.Path.{◌≡◌, refl, sym, ap, ◌∙◌}
use mathlib.Core.List.{List, ◌++◌}
use lib.ListN.{length, take, drop, length-append}
use lib.Seq.{take_at, drop-append-add, drop-drop}
use borrow.Author.Tests.{le-ltb}
use mathlib.Core.Bool.{Bool, true, false, cond}
use lib.Dec.{eqb}
use Rattle.ir.specs.declared.RowNumber.{RowNumber}
use Rattle.frames.specs.declared.Frame.{Frame}
use Rattle.frames.specs.Bytes.{frame_at}
use Rattle.explain_words.specs.ForProofs.{written}
use Rattle.explain_words.proofs.Writing.{written-long}
use Rattle.rule_explain.specs.Answers.{line_of}
use Rattle.explain_lines.specs.LinesForProofs.{made_in, made_long}
use Rattle.rule_explain.specs.Explained.{Lines, joined, all_of, next_row, row_at, line_at}
use Rattle.explain_file.specs.ForProofs.{Shown}

-- n lines of at most m bytes
pub joined-long : (f : ℕ → List ℕ) (m n : ℕ) → ((k : ℕ) → length (f k) ≤ m) → length (joined f n) ≤ m * n
unfolding joined
joined-long f m zero h = omega arith
joined-long f m (suc n) h = omega (arith, length-append (joined f n) (f n), joined-long f m n h, h n)

-- what is written after k lines
abbrev pub After : (ℕ → List ℕ) → ℕ → List ℕ → ℕ → List ℕ → Type 0
After f k o at last = (at ≡ length (joined f k)) × (at ≤ length o) × (last ≡ joined f k ++ drop at o)

pub shown-all : (l : Lines) (o last : List ℕ) (k at : ℕ) → k ≡ l.count → After l.line k o at last
    → Shown l o at last
shown-all l o last k at h a = (
  a.0 ∙ ap (λ (n : ℕ). length (joined l.line n)) h,
  a.2 ∙ ap (λ (n : ℕ). joined l.line n ++ drop at o) h,
)

-- before any
pub before : (f : ℕ → List ℕ) (o : List ℕ) → After f 0 o 0 o
unfolding joined
before f o = (refl, omega arith, refl)

-- one line more, copied to where the lines end
pub turn : (f : ℕ → List ℕ) (k : ℕ) (o d last x : List ℕ) (at m : ℕ) → After f k o at d → x ≡ f k → m ≡ length (f k)
    → m ≤ length o - at
    → last ≡ written d at x
    → After f (k + 1) o (at + m) last
unfolding joined
turn f k o d last x at m a ex em h el =
    let j = joined f k in
    let r = drop at o in
    let e : length j ≡ at = sym a.0 in
    let mx : m ≡ length x = em ∙ ap length (sym ex) in
    let fore : take at d ≡ j = ap (take at) a.2 ∙ take_at j r at e in
    let aft : drop (at + length x) d ≡ drop (at + m) o =
    ap (drop (at + length x)) a.2 ∙ ap (λ (n : ℕ). drop (n + length x) (j ++ r)) (sym e)
    ∙ drop-append-add j r (length x) ∙ drop-drop (length x) at o
    ∙ ap (λ (n : ℕ). drop (at + n) o) (sym mx) in
    rw add-one (
      omega (arith, length-append j (f k)),
      omega arith,
      el ∙ ap (λ (y : List ℕ). y ++ x ++ drop (at + length x) d) fore ∙ ap (λ (y : List ℕ). j ++ x ++ y) aft
          ∙ ap (λ (y : List ℕ). j ++ y ++ drop (at + m) o) ex,
    )

-- the line made at the front of its buffer
pub made : (l₀ l x : List ℕ) (m : ℕ) → l ≡ written l₀ 0 x → m ≡ length x → take m l ≡ x
made l₀ l x m e em = ap (take m) e ∙ take_at x (drop (0 + length x) l₀) m (sym em)

-- a line is that of its place
pub at_place : (fr an : List ℕ) (k : ℕ) (row : RowNumber) (f : Frame) → row ≡ row_at an k → f ≡ frame_at an k
    → line_of fr row f ≡ line_at fr an k
at_place fr an k row f er ef = ap (λ (r : RowNumber). line_of fr r f) er ∙ ap (line_of fr (row_at an k)) ef

-- the next row
pub row_on : (an : List ℕ) (k : ℕ) (row r : RowNumber) (f : Frame) → row ≡ row_at an k → f ≡ frame_at an k → r
    ≡ next_row row f
    → r ≡ row_at an (k + 1)
unfolding row_at
row_on an k row r f er ef e = rw add-one (e ∙ ap (λ (x : RowNumber). next_row x f) er ∙ ap (next_row (row_at an k)) ef)

pub row_small : (k : ℕ) (row r : RowNumber) (f : Frame) → r ≡ next_row row f → row.0 ≤ k → r.0 ≤ k + 1
unfolding next_row
row_small k row r f e h = rw e (either (eqb f.b0 11))
  where
    either : (b : Bool) → (cond b row (record { 0 = row.0 + 1 })).0 ≤ k + 1
    either true = omega arith
    either false = omega arith

-- its buffer's length stays, and it is as long as the part lent on
pub made-long : (l₀ l x : List ℕ) (m : ℕ) → l ≡ written l₀ 0 x → m ≡ length x → m ≤ 1296 → length l₀ ≡ 1296
    → (length l ≡ 1296) × (m ≡ length (take m l))
made-long l₀ l x m e em h hl =
    (ap length e ∙ written-long l₀ x 0 (omega arith) ∙ hl, em ∙ ap length (sym (made l₀ l x m e em)))

-- a line's buffer is large enough
pub made_at : (l₀ l x : List ℕ) (m : ℕ) → length l₀ ≡ 1296 → m ≡ made_long l₀ x → l ≡ made_in l₀ x → (m ≡ length x)
    × (l ≡ written l₀ 0 x)
unfolding made_long made_in
made_at l₀ l x m h em e =
    let n : 1296 ≤ length l₀ = omega arith in
    (em ∙ rw (le-ltb _ _ n), e ∙ rw (le-ltb _ _ n))

-- lines that stand at the front of their buffer
module _ (l : Lines) (o last : List ℕ) (m : ℕ) (h : Shown l o m last) where
  pub inside : m ≤ length last
  inside = omega (arith, h.0, ap length h.1 ∙ length-append (all_of l) (drop m o))

  pub lines_are : take m last ≡ all_of l
  lines_are = ap (take m) h.1 ∙ take_at (all_of l) (drop m o) m (sym h.0)
