-- Types marked in order: a mark is made from those before it, so with n types marked the table says of them what
-- `holds_pending` says, and of no other type.
use Rattle.std.specs.Prelude.{Option, Some}
use Rattle.ir.specs.declared.TypeInner.{TypeInner}
use Prim.Native.Nat.{ℕ, zero, suc, ◌+◌, ◌≤◌, ◌<◌}
use native.Mathlib.Decide.{dec_lt}
use native.Mathlib.Omega.{arith}
use mathlib.Core.Path.{◌≡◌, refl, sym, ap, subst, ◌∙◌}
use mathlib.Core.Bool.{Bool, false, ◌&&◌}
use mathlib.Core.List.{List}
use lib.Dec.{ltb}
use lib.ListN.{length, get_or, set, replicate, get_or-eq_default}
use lib.Seq.{get_or-set_same, get_or-set_other}
use borrow.Author.Tests.{lt-ltb, le-ltb}
use Rattle.scan.proofs.Laws.{found_at}
use Rattle.ir.specs.declared.TypeNumber.{TypeNumber}
use Rattle.answers.specs.Limit.{max_frames}
use Rattle.archive.specs.declared.Starts.{Starts}
use Rattle.archive.specs.Starts.{type_count, override_count}
use Rattle.archive.specs.Access.{type_in}
use Rattle.rule.proofs.InOrder.{in-order-length}
use Rattle.rule_ranges.specs.Pending.{form_holds, next_holds, look_holds, holding, holds_pending}
use Rattle.rule_ranges.specs.Counts.{Counts, measure_by}
use Rattle.rule_ranges.specs.Ranges.{counts_of, range_of, range_in, span_ok, faulty_span}
use Rattle.rule_ranges.specs.Ranges.{measure_marked}
use Rattle.rule_ranges.proofs.Laws.{holds-earlier}

-- the first n types are marked
abbrev pub Marked : List ℕ → Starts → List Bool → ℕ → Type 0
Marked fr s marks n = (b : TypeNumber) → look_holds marks b ≡ (ltb b.0 n && holds_pending fr s b)

none-marked : (n i : ℕ) → get_or (replicate n false) i false ≡ false
none-marked zero i = refl
none-marked (suc n) zero = refl
none-marked (suc n) (suc i) = none-marked n i

pub marks-none : (fr : List ℕ) (s : Starts) (n : ℕ) → Marked fr s (replicate n false) 0
marks-none fr s n b = none-marked n b.0 ∙ rw (le-ltb b.0 0 (omega arith))

module _ (fr : List ℕ) (s : Starts) (marks : List Bool) (n : ℕ) (is : Marked fr s marks n) where
  -- what is looked up among the marks is what is looked up among the first n types
  looked : (b : TypeNumber) → look_holds marks b ≡ look_holds (holding fr s n) b
  unfolding holding
  looked b = go (dec_lt b.0 n)
    where
      go : Dec (b.0 < n) → look_holds marks b ≡ look_holds (holding fr s n) b
      go (yes l) = is b ∙ rw (lt-ltb b.0 n l) (sym (holds-earlier fr s (record { 0 = n }) b l))
      go (no l) =
          let k : n ≤ b.0 = omega arith in
          is b
          ∙ rw (le-ltb b.0 n k)
          (sym (get_or-eq_default (holding fr s n) false {n = b.0} (rw (in-order-length (next_holds fr s) n) k)))

  next-mark : (one : Bool) (t : Option TypeInner) → one ≡ form_holds fr s (look_holds marks) t → t
      ≡ type_in fr s (record { 0 = n })
      → one ≡ holds_pending fr s (record { 0 = n })
  unfolding holds_pending
  next-mark one t e h =
      e ∙ ap (λ (x : TypeNumber → Bool). form_holds fr s x t) (λ j b. looked b j)
      ∙ ap (form_holds fr s (look_holds (holding fr s n))) h

  -- one type more
  pub marks-more : (one : Bool) (t : Option TypeInner) → n < length marks → one ≡ form_holds fr s (look_holds marks) t
      → t ≡ type_in fr s (record { 0 = n }) → Marked fr s (set marks n one) (n + 1)
  marks-more one t l e h b = go (dec_lt b.0 n) (dec_lt n b.0)
    where
      go : Dec (b.0 < n) → Dec (n < b.0) → look_holds (set marks n one) b ≡ (ltb b.0 (n + 1) && holds_pending fr s b)
      go (yes k) r =
          get_or-set_other marks n b.0 one false (λ q. omega arith) ∙ is b
          ∙ rw (lt-ltb b.0 n k, lt-ltb b.0 (n + 1) (omega arith))
      go (no k) (yes r) =
          get_or-set_other marks n b.0 one false (λ q. omega arith) ∙ is b
          ∙ rw (le-ltb b.0 n (omega arith), le-ltb b.0 (n + 1) (omega arith))
      go (no k) (no r) =
          let q : n ≡ b.0 = omega arith in
          subst
          (λ (x : ℕ). get_or (set marks n one) x false ≡ (ltb x (n + 1) && holds_pending fr s (record { 0 = x })))
          q
          (rw (lt-ltb n (n + 1) (omega arith)) (get_or-set_same marks n one false l ∙ next-mark one t e h))

-- all are marked
pub marks-end : (fr : List ℕ) (s : Starts) (marks : List Bool) (n m : ℕ) → Marked fr s marks n → n ≡ m
    → look_holds marks ≡ (λ (b : TypeNumber). ltb b.0 m && holds_pending fr s b)
marks-end fr s marks n m is e j b = subst (λ (x : ℕ). look_holds marks b ≡ (ltb b.0 x && holds_pending fr s b)) e
    (is b) j

-- MARKS OF 1,024 TYPES say of every number what `holds_pending` says, where there are no more

-- no other type holds a pending array
none-past : (fr : List ℕ) (s : Starts) (b : TypeNumber) → type_count s ≤ b.0 → false ≡ holds_pending fr s b
unfolding holds_pending type_in
none-past fr s b l = rw (le-ltb b.0 (type_count s) l)

all-marked : (fr : List ℕ) (s : Starts) → type_count s ≤ 1024 → (b : TypeNumber)
    → (ltb b.0 max_frames && holds_pending fr s b) ≡ holds_pending fr s b
all-marked fr s h b = go (dec_lt b.0 1024)
  where
    go : Dec (b.0 < 1024) → (ltb b.0 1024 && holds_pending fr s b) ≡ holds_pending fr s b
    go (yes l) = rw (lt-ltb b.0 1024 l)
    go (no l) = rw (le-ltb b.0 1024 (omega arith)) (none-past fr s b (omega arith))

-- the range by such marks
pub range_all : (fr : List ℕ) (s : Starts) (marks : List Bool) (least greatest : List ℕ) (n : TypeNumber)
    → type_count s ≤ 1024 → look_holds marks ≡ (λ (b : TypeNumber). ltb b.0 max_frames && holds_pending fr s b)
    → range_of (measure_marked fr s marks least n) (measure_marked fr s marks greatest n)
    ≡ range_in fr s (counts_of least) (counts_of greatest) n
unfolding range_in
range_all fr s marks least greatest n h e =
    ap (λ (x : TypeNumber → Bool). range_of (measure_by fr s x (counts_of least) n)
    (measure_by fr s x (counts_of greatest) n))
    (e ∙ (λ j b. all-marked fr s h b j))

-- the override at fault is one of the file's
pub span-within : (s : Starts) (least greatest : Counts) (o : ℕ) → faulty_span s least greatest ≡ Some o
    → o < override_count s
unfolding faulty_span
span-within s least greatest o e =
    (found_at (λ (k : ℕ). span_ok least greatest (record { 0 = k })) (override_count s) o e).inside
