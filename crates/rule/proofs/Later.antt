-- The claim about a later reader, proved once for any rules: a reading, our outcome and a later reader's fit together,
-- step by step of a rule and row by row of a file.
use Prim.Native.Nat.{ℕ, zero, suc}
use mathlib.Core.Path.{◌≡◌, refl, sym, ◌∙◌, ap}
use mathlib.Core.List.{List, [], ◌∷◌, ◌++◌}
use mathlib.Core.Option.{Option, none, some}
use native.Mathlib.Omega.{arith}
use lib.ListN.{get_or}
use Rattle.ir.specs.declared.RowNumber.{RowNumber}
use Rattle.rule.specs.Answers.{Typed, Place, Result, told, newer}
use Rattle.rule.specs.Things.{Thing, Seen, Sight}
use Rattle.rule.specs.Rule.{Rule, done, come, past, Answers, Step, step, Reading, Readings, run, follow, met}
use Rattle.rule.specs.Rule.{placed, after, stop}
use Rattle.rule.specs.InOrder.{in_order, absent, among, among_readings, answers, readings, ours, later, reading}
use Rattle.rule.specs.ForProofs.{Right, outcome_of}

module _ (sight : Sight) where
  -- a reading, our outcome and a later reader's fit together
  data Fit {A : Type 0} (xs : List Step) : Option A → Result A → Result A → Type 0 where
    ends : (a : A) → met sight xs ≡ none → Fit xs (some a) (told a) (told a)
    stops : (p : Place) (l : Result A) → met sight xs ≡ some p → Fit xs none (newer p) l

  -- what is met at the first step, and after it
  met-newer : (p : Place) (c : Thing) (xs : List Step) → sight c ≡ none → met sight (step p c ∷ xs) ≡ some p
  met-newer p c xs q = rw (q, met)

  met-known : (p : Place) (c : Thing) (xs : List Step) (s : Seen c) → sight c ≡ some s → met sight (step p c ∷ xs)
      ≡ met sight xs
  met-known p c xs s q = rw (q, met)

  met-first : (xs ys : List Step) → met sight xs ≡ none → met sight (xs ++ ys) ≡ met sight ys
  met-first [] ys e = refl
  met-first (step p c ∷ xs) ys e = go (sight c) refl (met-first xs ys)
    where
      go : (s : Option (Seen c)) → sight c ≡ s → (met sight xs ≡ none → met sight (xs ++ ys) ≡ met sight ys)
          → met sight ((step p c ∷ xs) ++ ys) ≡ met sight ys
      go none q h = absurd (let z : ◌≡◌ {A = ℕ} 0 1 = cc (met-newer p c xs q) in omega arith)
      go (some s) q h = met-known p c (xs ++ ys) s q ∙ h (sym (met-known p c xs s q) ∙ e)

  -- a step's place is changed, and not what it comes to
  abbrev moved : (Place → Place) → Option Place → Option Place
  moved at none = none
  moved at (some p) = some (at p)

  met-placed : (at : Place → Place) (xs : List Step) → met sight (placed at xs) ≡ moved at (met sight xs)
  met-placed at [] = refl
  met-placed at (step p c ∷ xs) = go (sight c) refl (met-placed at xs)
    where
      go : (s : Option (Seen c)) → sight c ≡ s → met sight (placed at xs) ≡ moved at (met sight xs)
          → met sight (placed at (step p c ∷ xs)) ≡ moved at (met sight (step p c ∷ xs))
      go none q h = rw (q, met)
      go (some s) q h = rw (q, met) h

  -- a rule goes on after a part of its reading that meets nothing
  longer : {A : Type 0} (xs : List Step) {ys : List Step} {e : Option A} {o l : Result A} → met sight xs ≡ none
      → Fit ys e o l
      → Fit (xs ++ ys) e o l
  longer xs {ys} z (ends a h) = ends a (met-first xs ys z ∙ h)
  longer xs {ys} z (stops p l h) = stops p l (met-first xs ys z ∙ h)

  -- one rule, over earlier rows whose answers fit their readings
  module _ (rd : Readings) (us they : Answers)
      (earlier : (n : RowNumber) → Fit (rd n).steps (rd n).end (us n) (they n)) where
    abbrev Fits : {A : Type 0} → Result A → Rule A → Type 0
    Fits c rule = Fit (follow sight rd rule).steps (follow sight rd rule).end (run sight us newer rule)
        (run sight they (λ p. c) rule)

    fits : {A : Type 0} (c : Result A) (rule : Rule A) → Fits c rule
    fits c (done a) = ends a refl
    fits c (come p t k) = go (sight t) refl (λ s. fits c (k s))
      where
        go : (s : Option (Seen t)) → sight t ≡ s → ((s : Seen t) → Fits c (k s)) → Fits c (come p t k)
        go none q h = rw (q, run, follow) (stops p c (met-newer p t [] q))
        go (some s) q h = rw (q, run, follow) (longer (step p t ∷ []) (met-known p t [] s q) (h s))
    fits c (past n at k) = go (rd n).end (us n) (they n) refl refl refl (earlier n) (λ t. fits c (k t))
      where
        go : (e : Option Typed) (o l : Result Typed) → (rd n).end ≡ e → us n ≡ o → they n ≡ l → Fit (rd n).steps e o l
            → ((t : Typed) → Fits c (k t)) → Fits c (past n at k)
        go e o l qe qo ql (ends a h) ih =
            rw (qe, qo, ql, run, follow)
            (longer (placed at (rd n).steps) (met-placed at (rd n).steps ∙ ap (moved at) h) (ih a))
        go e o l qe qo ql (stops p m h) ih =
            rw (qe, qo, run, follow) (stops (at p) _ (met-placed at (rd n).steps ∙ ap (moved at) h))

  -- the rows of a file, in order
  data Together : List (Reading Typed) → List (Result Typed) → List (Result Typed) → Type 0 where
    none_yet : Together [] [] []
    one_more : {r : Reading Typed} {u t : Result Typed} {rs : List (Reading Typed)} {us ts : List (Result Typed)}
        → Fit r.steps r.end u t → Together rs us ts → Together (r ∷ rs) (u ∷ us) (t ∷ ts)

  next_row : {rs : List (Reading Typed)} {us ts : List (Result Typed)} (r : Reading Typed) (u t : Result Typed)
      → Together rs us ts → Fit r.steps r.end u t → Together (rs ++ (r ∷ [])) (us ++ (u ∷ [])) (ts ++ (t ∷ []))
  next_row r u t none_yet h = one_more h none_yet
  next_row r u t (one_more g all) h = one_more g (next_row r u t all h)

  at_row : {rs : List (Reading Typed)} {us ts : List (Result Typed)} → Together rs us ts
      → (n : ℕ) → let r : RowNumber = record { 0 = n } in
      Fit (among_readings rs r).steps (among_readings rs r).end (among us r) (among ts r)
  at_row none_yet n = ends absent refl
  at_row (one_more g all) zero = g
  at_row (one_more g all) (suc n) = at_row all n

  right : {A : Type 0} (xs : List Step) (e : Option A) (o l : Result A) → Fit xs e o l → Right sight xs o l
  right xs e o l (ends a h) = record {
    same = λ z. refl;
    exactly = λ p. (
      λ w. absurd (let z : ◌≡◌ {A = ℕ} 0 1 = cc in omega arith),
      λ w. absurd (let z : ◌≡◌ {A = ℕ} 0 1 = cc in omega arith),
    );
  }
  right xs e o l (stops p m h) = record {
    same = λ w. absurd (let z : ◌≡◌ {A = ℕ} 0 1 = cc in omega arith);
    exactly = λ q. (λ w. cc, λ w. cc);
  }

  told-by : {A : Type 0} (r : Reading A) (o : Result A) {l : Result A} → Fit r.steps r.end o l → o
      ≡ outcome_of sight r
  told-by {A = A} r o h = go r.end o h refl
    where
      go : (e : Option A) (o : Result A) {l : Result A} → Fit r.steps e o l → r.end ≡ e → o ≡ outcome_of sight r
      go e o (ends a h) q = rw q
      go e o (stops p m h) q = rw (q, h)

  module _ (rules : ℕ → Rule Typed) (choice : ℕ → Result Typed) where
    rows : (n : ℕ) → Together (readings sight rules n) (answers sight rules (λ m. newer) n)
        (answers sight rules (λ m p. choice m) n)
    rows zero = none_yet
    rows (suc n) = next_row _ _ _ (rows n) (fits _ _ _ (λ r. at_row (rows n) r.0) (choice n) (rules n))

    -- THE CLAIM: of every rule over the rows of a file, for every choice
    pub claim : (n : ℕ) {A : Type 0} (c : Result A) (rule : Rule A)
        → Right sight (reading sight rules n rule) (ours sight rules n rule) (later sight rules choice n c rule)
    claim n c rule = right _ _ _ _ (fits _ _ _ (λ r. at_row (rows n) r.0) c rule)

    -- our outcome is told by the reading: its end, or a newer thing at the place where it was met
    pub determined : (n : ℕ) {A : Type 0} (rule : Rule A)
        → ours sight rules n rule ≡ outcome_of sight (follow sight (among_readings (readings sight rules n)) rule)
    determined n rule = told-by _ _ (fits _ _ _ (λ r. at_row (rows n) r.0) (ours sight rules n rule) rule)
