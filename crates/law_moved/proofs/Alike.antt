-- THE TRANSPORT: a rule run over one sight and the rule with its numbers moved, run over another, that shows the same
-- with its numbers moved, give the same outcome with its numbers moved. Asked only along the run: of the things come
-- to, and the rows read.
use Prim.Native.Nat.{ℕ, zero, suc, ◌<◌}
use native.Mathlib.Omega.{arith}
use mathlib.Core.Path.{◌≡◌, refl, sym, ap, ◌∙◌}
use mathlib.Core.Option.{Option, none, some}
use Rattle.ir.specs.declared.RowNumber.{RowNumber}
use Rattle.rule.specs.Answers.{TypeAnswer, number, value, malformed, Typed, given, refused, chosen_refusal, Place}
use Rattle.rule.specs.Answers.{Result, told, newer}
use Rattle.rule.specs.Things.{Thing, Seen, Sight}
use Rattle.rule.specs.Rule.{Rule, done, come, past, Answers, run}
use Rattle.rule.specs.InOrder.{absent, among, answers, ours}
use Rattle.rule.proofs.InOrder.{in-order-at}
use Rattle.law_moved.specs.Moves.{Moves, row_to, typed_to, place_to, result_to, thing_to, seen_to, shows_to}

-- an answer that rules of ours give: no malformed frame, no chosen one
abbrev pub PlainType : TypeAnswer → Type 0
PlainType (number n) = Unit {0}
PlainType (value t) = Unit {0}
PlainType (malformed f) = ⊥

abbrev pub Plain : Typed → Type 0
Plain (given a) = PlainType a
Plain (refused e) = Unit {0}
Plain (chosen_refusal f) = ⊥

-- two rules take the same steps, with the numbers of the second moved
pub data Alike (m : Moves) {A B : Type 0} (to : A → B) : Rule A → Rule B → Type 0 where
  ends : {a : A} {b : B} → b ≡ to a → Alike m to (done a) (done b)
  comes : {p : Place} {c : Thing} {k : Seen c → Rule A} {j : Seen (thing_to m c) → Rule B}
      → ((s : Seen c) → Alike m to (k s) (j (seen_to m c s)))
      → Alike m to (come p c k) (come (place_to m p) (thing_to m c) j)
  reads : {n : RowNumber} {at up : Place → Place} {k : Typed → Rule A} {j : Typed → Rule B}
      → ((p : Place) → up (place_to m p) ≡ place_to m (at p))
      → ((t : Typed) → Plain t → Alike m to (k t) (j (typed_to m t)))
      → Alike m to (past n at k) (past (row_to m n) up j)

-- along a run: what holds of every thing come to and of every row read
pub data Along (sight : Sight) (us : Answers) (P : Thing → Type 0) (Q : RowNumber → Type 0) {A : Type 0} : Rule A
    → Type 0 where
  ends : {a : A} → Along sight us P Q (done a)
  comes : {p : Place} {c : Thing} {k : Seen c → Rule A} → P c
      → ((s : Seen c) → sight c ≡ some s → Along sight us P Q (k s)) → Along sight us P Q (come p c k)
  reads : {n : RowNumber} {at : Place → Place} {k : Typed → Rule A} → Q n
      → ((t : Typed) → us n ≡ told t → Along sight us P Q (k t)) → Along sight us P Q (past n at k)

abbrev pub PlainResult : Result Typed → Type 0
PlainResult (told t) = Plain t
PlainResult (newer p) = Unit {0}

module _ (m : Moves) (one two : Sight) where
  -- a thing shows the same in the second, with its numbers moved
  abbrev pub Shows : Thing → Type 0
  Shows c = two (thing_to m c) ≡ shows_to m c (one c)

  module _ (us they : Answers) where
    -- a row's answer is the same in the second, with its numbers moved
    pub record Answers-alike (n : RowNumber) : Type 0 where
      pub is : they (row_to m n) ≡ result_to m (typed_to m) (us n)
      pub plain : PlainResult (us n)

    pub run-alike : {A B : Type 0} (to : A → B) {r : Rule A} {q : Rule B} → Alike m to r q
        → Along one us Shows Answers-alike r → run two they newer q ≡ result_to m to (run one us newer r)
    run-alike to (ends e) w = ap told e
    run-alike to (comes {p} {c} {k} {j} h) (comes sh next) = go (one c) refl sh (λ s e. run-alike to (h s) (next s e))
      where
        go : (o : Option (Seen c)) → one c ≡ o → two (thing_to m c) ≡ shows_to m c (one c)
            → ((s : Seen c) → one c ≡ some s → run two they newer (j (seen_to m c s))
            ≡ result_to m to (run one us newer (k s)))
            → run two they newer (come (place_to m p) (thing_to m c) j) ≡ result_to m to (run one us newer (come p c k))
        go none q sh ih = let z : two (thing_to m c) ≡ none = sh ∙ ap (shows_to m c) q in rw (z, q, run)
        go (some s) q sh ih = let z : two (thing_to m c) ≡ some (seen_to m c s) = sh ∙ ap (shows_to m c) q in
            rw (z, q, run) (ih s q)
    run-alike to (reads {n} {at} {up} {k} {j} e h) (reads al next) = go (us n) refl al.is al.plain
        (λ t w x. run-alike to (h t w) (next t x))
      where
        go : (o : Result Typed) → us n ≡ o → they (row_to m n) ≡ result_to m (typed_to m) (us n) → PlainResult (us n)
            → ((t : Typed) → Plain t → us n ≡ told t → run two they newer (j (typed_to m t))
            ≡ result_to m to (run one us newer (k t)))
            → run two they newer (past (row_to m n) up j) ≡ result_to m to (run one us newer (past n at k))
        go (told t) q al pl ih =
            let z : they (row_to m n) ≡ told (typed_to m t) = al ∙ ap (result_to m (typed_to m)) q in
            rw (z, q, run) (ih t (rw q at pl) q)
        go (newer p) q al pl ih =
            let z : they (row_to m n) ≡ newer (place_to m p) = al ∙ ap (result_to m (typed_to m)) q in
            rw (z, q, run) (ap newer (e p))

-- ROWS IN ORDER

module _ (m : Moves) (one two : Sight) (rules : ℕ → Rule Typed) (kept : ℕ → Type 0)
    -- moved rows rise
    (rises : (k n : ℕ) → kept k → kept n → k < n → m.rows k < m.rows n)
    -- the rules take the same steps
    (alike : (n : ℕ) → Alike m (typed_to m) (rules n) (rules (m.rows n)))
    -- along a kept row's run every thing shows the same, and every row read is kept and earlier
    (along : (n : ℕ) → kept n
    → Along one (among (answers one rules (λ m. newer) n)) (Shows m one two) (λ r. kept r.0 × (r.0 < n))
    (rules n))
    (plain : (n : ℕ) → kept n → PlainResult (ours one rules n (rules n))) where
  -- the answer of row n
  abbrev own : Sight → ℕ → Result Typed
  own sight n = ours sight rules n (rules n)

  earlier-is : (sight : Sight) (n k : ℕ) → k < n → among (answers sight rules (λ m. newer) n) (record { 0 = k })
      ≡ own sight k
  earlier-is sight n k l = in-order-at (λ earlier m. run sight (among earlier) newer (rules m)) (told absent) n k l

  weaken : {sight : Sight} {us : Answers} {P : Thing → Type 0} {Q S : RowNumber → Type 0} {A : Type 0} {r : Rule A}
      → ((n : RowNumber) → Q n → S n) → Along sight us P Q r → Along sight us P S r
  weaken f ends = ends
  weaken f (comes p next) = comes p (λ s e. weaken f (next s e))
  weaken f (reads q next) = reads (f _ q) (λ t e. weaken f (next t e))

  -- the first `bound` rows
  rows-below : (bound n : ℕ) → n < bound → kept n → own two (m.rows n) ≡ result_to m (typed_to m) (own one n)
  rows-below zero n l h = absurd (omega arith)
  rows-below (suc bound) n l h =
      run-alike m one two (among (answers one rules (λ m. newer) n))
      (among (answers two rules (λ m. newer) (m.rows n))) (typed_to m) (alike n)
      (weaken (λ r w. record {
        is = earlier-is two (m.rows n) (m.rows r.0) (rises r.0 n w.0 h w.1)
            ∙ rows-below bound r.0 (omega (arith, w.1)) w.0
            ∙ ap (result_to m (typed_to m)) (sym (earlier-is one n r.0 w.1));
        plain = rw (earlier-is one n r.0 w.1) (plain r.0 w.0);
      }) (along n h))

  -- THE ROWS: every kept row answers in the second as in the first, with its numbers moved
  pub rows_alike : (n : ℕ) → kept n → own two (m.rows n) ≡ result_to m (typed_to m) (own one n)
  rows_alike n h = rows-below (suc n) n (omega arith) h
