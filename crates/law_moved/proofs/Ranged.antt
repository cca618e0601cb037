-- Along the run of a rule: what holds of every thing come to and of every row read, put together from what is known of
-- each. A rule that keeps within a file comes to things that are there, and reads earlier rows.
use Prim.Native.Nat.{ℕ, ◌<◌, ◌≤◌}
use native.Mathlib.Decide.{dec_lt}
use native.Mathlib.Omega.{arith}
use mathlib.Core.Path.{◌≡◌, refl, sym, ap, ◌∙◌, subst}
use mathlib.Core.List.{List, [], ◌∷◌, ◌++◌}
use mathlib.Core.Option.{Option, none, some}
use lib.ListN.{get_or-eq_default}
use Rattle.ir.specs.declared.RowNumber.{RowNumber}
use Rattle.archive.specs.Starts.{starts_of, row_count}
use Rattle.rule.specs.Answers.{number, value, malformed, Typed, given, refused, chosen_refusal, Place, Result, told}
use Rattle.rule.specs.Answers.{newer}
use Rattle.rule.specs.Things.{Thing, Seen, Sight, see}
use Rattle.rule.specs.Rule.{Rule, done, come, past, Answers, Step, step, Readings, run, placed, follow, met}
use Rattle.rule.specs.InOrder.{absent, among, among_readings, answers, readings, ours}
use Rattle.rule.specs.ForProofs.{end_or, outcome_of}
use Rattle.rule.proofs.InOrder.{in-order-length, in-order-at}
use Rattle.rule.proofs.Later.{determined}
use Rattle.rule_rows.specs.declared.Pass.{Pass}
use Rattle.rule_rows.specs.Typed.{typing}
use Rattle.law_rows.proofs.Good.{Good}
use Rattle.law_rows.proofs.Ranged.{InRange, There, Within, Each}
use Rattle.law_rows.proofs.Ranged as W
use Rattle.law_rows.proofs.Range.{place-later, ours-in-range}
use Rattle.law_moved.proofs.Alike.{PlainResult, Along}
use Rattle.law_moved.proofs.Alike as L

module _ {sight : Sight} {us : Answers} where
  -- what is known of all
  pub along-all : {P : Thing → Type 0} {Q : RowNumber → Type 0} {A : Type 0} → ((c : Thing) → P c)
      → ((n : RowNumber) → Q n) → (r : Rule A) → Along sight us P Q r
  along-all p q (done a) = L.ends
  along-all p q (come at c k) = L.comes (p c) (λ s e. along-all p q (k s))
  along-all p q (past n at k) = L.reads (q n) (λ t e. along-all p q (k t))

  pub along-both : {P R : Thing → Type 0} {Q S : RowNumber → Type 0} {A : Type 0} {r : Rule A} → Along sight us P Q r
      → Along sight us R S r
      → Along sight us (λ c. P c × R c) (λ n. Q n × S n) r
  along-both L.ends y = L.ends
  along-both (L.comes p next) (L.comes r more) = L.comes (p, r) (λ s e. along-both (next s e) (more s e))
  along-both (L.reads q next) (L.reads v more) = L.reads (q, v) (λ t e. along-both (next t e) (more t e))

  pub along-weaken : {P R : Thing → Type 0} {Q S : RowNumber → Type 0} {A : Type 0} {r : Rule A}
      → ((c : Thing) → P c → R c) → ((n : RowNumber) → Q n → S n)
      → Along sight us P Q r → Along sight us R S r
  along-weaken f g L.ends = L.ends
  along-weaken f g (L.comes p next) = L.comes (f _ p) (λ s e. along-weaken f g (next s e))
  along-weaken f g (L.reads q next) = L.reads (g _ q) (λ t e. along-weaken f g (next t e))

module _ (pass : Pass) (fr : List ℕ) (m : ℕ) (us : Answers)
    (all : (n : RowNumber) → n.0 < m → InRange pass fr m (us n)) where
  pub along-within : {r : Rule Typed} → Within pass fr m r → Along (see fr) us (There fr) (λ n. n.0 < m) r
  along-within (W.ends h) = L.ends
  along-within (W.comes p c {k} place there next) = L.comes there (λ s q. along-within {r = k s} (next s q))
  along-within (W.reads {n} {k} l next) = L.reads l
      (λ t q. along-within {r = k t} (next t (subst (λ (x : Result Typed). InRange pass fr m x) q (all n l))))

-- an answer of an earlier row
pub answer-later : (pass : Pass) (fr : List ℕ) (m n : ℕ) → m ≤ n → (a : Result Typed) → InRange pass fr m a
    → InRange pass fr n a
answer-later pass fr m n l (told t) h = h
answer-later pass fr m n l (newer p) h = place-later m n l p h

plain_in : (pass : Pass) (fr : List ℕ) (m : ℕ) (r : Result Typed) → InRange pass fr m r → PlainResult r
plain_in pass fr m (told (given (number n))) h = tt
plain_in pass fr m (told (given (value t))) h = tt
plain_in pass fr m (told (given (malformed f))) h = absurd h
plain_in pass fr m (told (refused e)) h = tt
plain_in pass fr m (told (chosen_refusal f)) h = absurd h
plain_in pass fr m (newer p) h = tt

pub plain-ours : (pass : Pass) (fr : List ℕ) → Good fr → (n : ℕ) → n < row_count (starts_of fr)
    → PlainResult (ours (see fr) (typing pass) n (typing pass n))
plain-ours pass fr good n l = plain_in pass fr n (ours (see fr) (typing pass) n (typing pass n))
    (ours-in-range pass fr good n l)

-- ALONG A READING: what holds of every step of a rule's reading holds of every thing come to, and of every step of the
-- readings of the rows read
module _ (sight : Sight) (us : Answers) (earlier : Readings) (K : Step → Type 0)
    (ends-told : (n : RowNumber) (t : Typed) → us n ≡ told t → (earlier n).end ≡ some t) where
  abbrev Reached : Thing → Type 0
  Reached c = (p : Place) × K (step p c)

  abbrev Through : RowNumber → Type 0
  Through n = (at : Place → Place) × Each K (placed at (earlier n).steps)

  split : (l k : List Step) → Each K (l ++ k) → Each K l × Each K k
  split [] k h = (tt, h)
  split (x ∷ l) k h = let r = split l k h.1 in ((h.0, r.0), r.1)

  pub along-reading : {A : Type 0} (r : Rule A) → Each K (follow sight earlier r).steps
      → Along sight us Reached Through r
  along-reading (done a) h = L.ends
  along-reading (come p c k) h = L.comes (p, first (sight c) refl h) (λ s e. along-reading (k s) (rest s e h))
    where
      first : (o : Option (Seen c)) → sight c ≡ o → Each K (follow sight earlier (come p c k)).steps → K (step p c)
      first none q e = (rw (q, follow) at e).0
      first (some s) q e = (rw (q, follow) at e).0

      rest : (s : Seen c) → sight c ≡ some s → Each K (follow sight earlier (come p c k)).steps
          → Each K (follow sight earlier (k s)).steps
      rest s q e = (rw (q, follow) at e).1
  along-reading (past n at k) h = L.reads (at, own (earlier n).end refl h)
      (λ t e. along-reading (k t) (rest t (ends-told n t e) h))
    where
      own : (o : Option Typed) → (earlier n).end ≡ o → Each K (follow sight earlier (past n at k)).steps
          → Each K (placed at (earlier n).steps)
      own none q e = rw (q, follow) at e
      own (some t) q e = (split (placed at (earlier n).steps) (follow sight earlier (k t)).steps
          (rw (q, follow) at e)).0

      rest : (t : Typed) → (earlier n).end ≡ some t → Each K (follow sight earlier (past n at k)).steps
          → Each K (follow sight earlier (k t)).steps
      rest t q e = (split (placed at (earlier n).steps) (follow sight earlier (k t)).steps (rw (q, follow) at e)).1

-- THE ROWS OF A FILE: an answer that is told ends the reading
module _ (pass : Pass) (fr : List ℕ) where
  -- an answer that is told ends the reading
  end-told : (n : ℕ) (t : Typed) → ours (see fr) (typing pass) n (typing pass n) ≡ told t
      → (follow (see fr) (among_readings (readings (see fr) (typing pass) n)) (typing pass n)).end ≡ some t
  end-told n t e = go (follow (see fr) (among_readings (readings (see fr) (typing pass) n)) (typing pass n)).end refl
      (sym (determined (see fr) (typing pass) (λ m. told absent) n (typing pass n)) ∙ e)
    where
      newer-told : (o : Option Place) {P : Type 0} → end_or {A = Typed} o none ≡ told t → P
      newer-told (some p) q = absurd (let z : ◌≡◌ {A = ℕ} 0 1 = cc in omega arith)
      newer-told none q = absurd (let z : ◌≡◌ {A = ℕ} 0 1 = cc in omega arith)

      go : (o : Option Typed)
          → (follow (see fr) (among_readings (readings (see fr) (typing pass) n)) (typing pass n)).end
          ≡ o
          → outcome_of (see fr) (follow (see fr) (among_readings (readings (see fr) (typing pass) n)) (typing pass n))
          ≡ told t → o ≡ some t
      go (some u) q w = let z : told u
          ≡ told t = sym (ap (end_or
          (met (see fr) (follow (see fr) (among_readings (readings (see fr) (typing pass) n))
          (typing pass n)).steps)) q) ∙ w in cc
      go none q w = newer-told
          (met (see fr) (follow (see fr) (among_readings (readings (see fr) (typing pass) n)) (typing pass n)).steps)
          (sym (ap (end_or (met (see fr)
          (follow (see fr) (among_readings (readings (see fr) (typing pass) n)) (typing pass n)).steps)) q) ∙ w)

  pub earlier-told : (k : ℕ) (r : RowNumber) (t : Typed) → among (answers (see fr) (typing pass) (λ m. newer) k) r
      ≡ told t → (among_readings (readings (see fr) (typing pass) k) r).end ≡ some t
  earlier-told k r t e = go (dec_lt r.0 k)
    where
      go : Dec (r.0 < k) → (among_readings (readings (see fr) (typing pass) k) r).end ≡ some t
      go (yes l) =
          let a = in-order-at (λ earlier m. run (see fr) (among earlier) newer (typing pass m)) (told absent) k
          r.0 l in
          let b = in-order-at (λ earlier m. follow (see fr) (among_readings earlier) (typing pass m))
          (record { steps = []; end = some absent }) k r.0 l in
          ap (λ (x : _). x.end) b ∙ end-told r.0 t (sym a ∙ e)
      go (no l) =
          let a = in-order-length (λ earlier m. run (see fr) (among earlier) newer (typing pass m)) k in
          let b = in-order-length (λ earlier m. follow (see fr) (among_readings earlier) (typing pass m)) k in
          let c = get_or-eq_default (answers (see fr) (typing pass) (λ m. newer) k) (told absent) {n = r.0}
          (omega arith) in
          let d = get_or-eq_default (readings (see fr) (typing pass) k)
          (record { steps = []; end = some absent }) {n = r.0} (omega arith) in
          let z : told absent ≡ told t = sym c ∙ e in
          let y : absent ≡ t = cc in
          ap (λ (x : _). x.end) d ∙ ap some y
