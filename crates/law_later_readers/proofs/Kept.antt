-- What the claim gives to who reads the answers of a reader that has it: where they do not say newer, every byte is the
-- later reader's, and they say newer only where the reading meets something newer. And what a later reader is: it reads
-- its own earlier answers, and where its rule itself comes to a newer thing its outcome is the chosen one. By the
-- definitions.
use Prim.Native.Nat.{ℕ, ◌<◌}
use native.Mathlib.Omega.{arith}
use mathlib.Core.Path.{◌≡◌, refl}
use mathlib.Core.List.{List}
use mathlib.Core.Option.{Option, none, some}
use Rattle.frames.specs.declared.Frame.{Frame}
use Rattle.archive.specs.Starts.{starts_of, row_count}
use Rattle.rule.specs.Answers.{Typed, Judgement, Place, Result, newer, type_answer_of, row_answer_of, chosen_judgement}
use Rattle.rule.specs.Things.{Thing, Seen, see}
use Rattle.rule.specs.Rule.{Rule, come, past}
use Rattle.rule.proofs.LaterIs.{on_result, later-newer, later-past}
use Rattle.rule_types.specs.Comparison.{handed}
use Rattle.rule_rows.specs.declared.Pass.{Pass}
use Rattle.rule_rows.specs.Typed.{typing}
use Rattle.rule_compose.specs.Rows.{verdict_rule}
use Rattle.law_later_readers.specs.Reader.{Reader, Choice, SaysNewer, Kept, Keeps, row_bytes, verdict_bytes}
use Rattle.law_later_readers.specs.Reader.{compared_bytes, theirs, meets}

-- ONE OUTCOME

pub kept-equal : {family : ℕ} {at : Place → List ℕ} {met : Option Place} {mine other : List ℕ}
    → Kept family at met mine other
    → (SaysNewer family mine → ⊥) → mine ≡ other
kept-equal {met = none} k h = k.equal refl
kept-equal {met = some p} k h = absurd (h (k.exactly.1 (λ e. let z : ◌≡◌ {A = ℕ} 0 1 = cc in omega arith)))

pub newer-only : {family : ℕ} {at : Place → List ℕ} {met : Option Place} {mine other : List ℕ}
    → Kept family at met mine other
    → SaysNewer family mine → met ≡ none → ⊥
newer-only k s = k.exactly.0 s

-- A WHOLE FILE: every row, every compose and every two frames handed in

module _ {pass : Pass} {r : Reader} {t fr : List ℕ} {choice : Choice} (k : Keeps pass r t fr choice) where
  pub row_kept : (m : ℕ) → m < row_count (starts_of fr) → (SaysNewer 10 (r.row t m) → ⊥)
      → r.row t m ≡ row_bytes (theirs pass fr choice m (row_answer_of (choice.rows m)) (typing pass m))
  row_kept m h s = kept-equal (k.rows m h) s

  pub verdict-kept : (m : ℕ) → m < row_count (starts_of fr) → (rule : Rule Judgement)
      → verdict_rule (see fr) m ≡ some rule
      → (SaysNewer 11 (r.verdict t m) → ⊥)
      → r.verdict t m ≡ verdict_bytes m (theirs pass fr choice m (chosen_judgement (choice.verdicts m)) rule)
  verdict-kept m h rule e s = kept-equal (k.verdicts m h rule e) s

  pub same_kept : (a b : Frame) → (SaysNewer 10 (r.same t a b) → ⊥)
      → r.same t a b ≡ compared_bytes
      (theirs pass fr choice 0 (choice.same a b) (handed (type_answer_of a) (type_answer_of b)))
  same_kept a b s = kept-equal (k.same a b) s

-- A LATER READER of a file, by a choice

module _ (pass : Pass) (fr : List ℕ) (choice : Choice) {A : Type 0} (n : ℕ) (c : Result A) where
  pub theirs-newer : (p : Place) (x : Thing) (k : Seen x → Rule A) → see fr x ≡ none
      → theirs pass fr choice n c (come p x k) ≡ c
  theirs-newer p x k q = later-newer (see fr) (typing pass) (λ j. row_answer_of (choice.rows j)) n c p x k q

  pub theirs-past : (m : ℕ) (at : Place → Place) (k : Typed → Rule A) → m < n
      → theirs pass fr choice n c (past (record { 0 = m }) at k)
      ≡ on_result (theirs pass fr choice m (row_answer_of (choice.rows m)) (typing pass m))
      (λ t. theirs pass fr choice n c (k t)) (λ p. newer (at p))
  theirs-past m at k h = later-past (see fr) (typing pass) (λ j. row_answer_of (choice.rows j)) n c m at k h
