-- A mark stands on a row exactly where the row is reached from the first by what rows read, where each row reads
-- earlier rows.
use mathlib.Core.Path.{◌≡◌, refl, sym, ◌∙◌, subst}
use mathlib.Core.Logic.{◌⊎◌, inl, inr, ⊎_elim}
use Prim.Native.Nat.{ℕ, zero, suc, ◌<◌, ◌≤◌}
use native.Mathlib.Nat.{eq-or-lt_of_le, le_of_suc-le-suc}
use native.Mathlib.Omega.{arith}
use mathlib.Core.Bool.{Bool, true, false}
use mathlib.Core.List.{List, [], ◌∷◌}
use lib.Dec.{ltb, eqb}
use lib.ListN.{length, get_or, set, replicate, length-set, length-replicate, get_or-eq_default}
use lib.Seq.{get_or-set_same, get_or-set_other}
use borrow.Author.Tests.{ltb-true, ltb-false, eqb-true, eqb-false}
use Rattle.law_cut.specs.Marks.{set_each, spread, sweep, max_marks, no_marks, marks_by, is_marked}
use Rattle.law_cut.specs.Smallest.{In, first, next}

-- worked: of four rows, where 3 reads 1 and 1 reads 0, row 3 marks 0, 1 and itself
abbrev worked-reads : ℕ → List ℕ
worked-reads k = get_or ([] ∷ (0 ∷ []) ∷ [] ∷ (1 ∷ []) ∷ []) k []

worked : sweep worked-reads 4 (false ∷ false ∷ false ∷ true ∷ []) ≡ true ∷ true ∷ false ∷ true ∷ []
unfolding sweep
worked = refl

-- a test holds or not
pub cases : (b : Bool) {P : Type 0} → (b ≡ true → P) → (b ≡ false → P) → P
cases true f g = f refl
cases false f g = g refl

-- a mark after another was set: it is that one, or it was there
which : (m : List Bool) (i j : ℕ) → is_marked (set m i true) j ≡ true → (j ≡ i) ⊎ (is_marked m j ≡ true)
which m i j h = cases (eqb j i) (λ e. inl (eqb-true j i e))
    (λ e. inr (sym (get_or-set_other m i j true false (eqb-false j i e)) ∙ h))

-- a mark is within the table
pub marked-in : (m : List Bool) (i : ℕ) → is_marked m i ≡ true → i < length m
marked-in m i h =
    cases (ltb i (length m)) (ltb-true i (length m))
    (λ e. absurd (let z : ◌≡◌ {A = ℕ} 0 1 = cc (get_or-eq_default m false {n = i} (ltb-false i (length m) e)) in
    let y : ⊥ = omega arith in y))

clear : (n k : ℕ) → is_marked (replicate n false) k ≡ true → ⊥
clear zero k u = let z : ◌≡◌ {A = ℕ} 0 1 = cc in omega arith
clear (suc n) zero u = let z : ◌≡◌ {A = ℕ} 0 1 = cc in omega arith
clear (suc n) (suc k) u = clear n k u

-- SEVERAL MARKS SET

which-each : (m : List Bool) (l : List ℕ) (j : ℕ) → is_marked (set_each m l) j ≡ true → In j l ⊎ (is_marked m j ≡ true)
which-each m [] j h = inr h
which-each m (i ∷ l) j h =
    ⊎_elim (λ x. inl (next x))
    (λ e. ⊎_elim (λ q. inl (subst (λ (x : ℕ). In j (x ∷ l)) q first)) (λ q. inr q) (which m i j e))
    (which-each (set m i true) l j h)

kept_set : (m : List Bool) (i k : ℕ) → is_marked m k ≡ true → is_marked (set m i true) k ≡ true
kept_set m i k h =
    cases (eqb k i) (λ e. rw (eqb-true k i e)
    (get_or-set_same m i true false (marked-in m i (rw (eqb-true k i e) at h))))
    (λ e. get_or-set_other m i k true false (eqb-false k i e) ∙ h)

kept-each : (m : List Bool) (l : List ℕ) (k : ℕ) → is_marked m k ≡ true → is_marked (set_each m l) k ≡ true
kept-each m [] k h = h
kept-each m (i ∷ l) k h = kept-each (set m i true) l k (kept_set m i k h)

set-each : (m : List Bool) (l : List ℕ) (k : ℕ) → In k l → k < length m → is_marked (set_each m l) k ≡ true
set-each m [] k x h = elim x [ ]
set-each m (i ∷ l) k first h = kept-each (set m k true) l k (get_or-set_same m k true false h)
set-each m (i ∷ l) k (next x) h = set-each (set m i true) l k x (rw (length-set m i true) h)

other-each : (m : List Bool) (l : List ℕ) (k : ℕ) → ((j : ℕ) → In j l → j < k)
    → is_marked (set_each m l) k ≡ is_marked m k
other-each m [] k h = refl
other-each m (i ∷ l) k h =
    other-each (set m i true) l k (λ j x. h j (next x))
    ∙ get_or-set_other m i k true false (λ q. let w = h i first in omega arith)

length-each : (m : List Bool) (l : List ℕ) → length (set_each m l) ≡ length m
length-each m [] = refl
length-each m (i ∷ l) = length-each (set m i true) l ∙ length-set m i true

-- row k is reached from row n: n itself, and what a row that is reached reads
pub data Reached (read : ℕ → List ℕ) (n : ℕ) : ℕ → Type 0 where
  self : Reached read n n
  read : {k j : ℕ} → Reached read n k → In j (read k) → Reached read n j

module _ (reads : ℕ → List ℕ) (n : ℕ) where
  abbrev Sound : List Bool → Type 0
  Sound m = (k : ℕ) → is_marked m k ≡ true → Reached reads n k

  sound-spread : (k : ℕ) (m : List Bool) → Sound m → Sound (spread reads k m)
  sound-spread k m s j h = cases (is_marked m k)
      (λ e. ⊎_elim (λ x. read (s k e) x) (s j) (which-each m (reads k) j (rw (e, spread) at h)))
      (λ e. s j (rw (e, spread) at h))

  sound-sweep : (k : ℕ) (m : List Bool) → Sound m → Sound (sweep reads k m)
  unfolding sweep
  sound-sweep zero m s = s
  sound-sweep (suc k) m s = sound-sweep k (spread reads k m) (sound-spread k m s)

module _ (reads : ℕ → List ℕ) (low : (k j : ℕ) → In j (reads k) → j < k) where
  kept-spread : (n : ℕ) (m : List Bool) (k : ℕ) → is_marked m k ≡ true → is_marked (spread reads n m) k ≡ true
  kept-spread n m k h = cases (is_marked m n) (λ e. rw (e, spread) (kept-each m (reads n) k h)) (λ e. rw (e, spread) h)

  kept-sweep : (n : ℕ) (m : List Bool) (k : ℕ) → is_marked m k ≡ true → is_marked (sweep reads n m) k ≡ true
  unfolding sweep
  kept-sweep zero m k h = h
  kept-sweep (suc n) m k h = kept-sweep n (spread reads n m) k (kept-spread n m k h)

  -- from row n on nothing changes in the sweep below n
  above-spread : (n : ℕ) (m : List Bool) (k : ℕ) → n ≤ k → is_marked (spread reads n m) k ≡ is_marked m k
  above-spread n m k h =
      cases (is_marked m n) (λ e. rw (e, spread) (other-each m (reads n) k (λ j x. let w = low n j x in omega arith)))
      (λ e. rw (e, spread))

  above-sweep : (n : ℕ) (m : List Bool) (k : ℕ) → n ≤ k → is_marked (sweep reads n m) k ≡ is_marked m k
  unfolding sweep
  above-sweep zero m k h = refl
  above-sweep (suc n) m k h = above-sweep n (spread reads n m) k (omega arith) ∙ above-spread n m k (omega arith)

  length-spread : (n : ℕ) (m : List Bool) → length (spread reads n m) ≡ length m
  length-spread n m = cases (is_marked m n) (λ e. rw (e, spread) (length-each m (reads n))) (λ e. rw (e, spread))

  pub length-sweep : (n : ℕ) (m : List Bool) → length (sweep reads n m) ≡ length m
  unfolding sweep
  length-sweep zero m = refl
  length-sweep (suc n) m = length-sweep n (spread reads n m) ∙ length-spread n m

  -- where a row is marked, so is what it reads
  closed-sweep : (n : ℕ) (m : List Bool) (k j : ℕ) → k < n → is_marked (sweep reads n m) k ≡ true → In j (reads k)
      → is_marked (sweep reads n m) j ≡ true
  unfolding sweep
  closed-sweep zero m k j h t x = absurd (omega arith)
  closed-sweep (suc n) m k j h t x =
      ⊎_elim
      (λ e.
      let y : In j (reads n) = subst (λ (z : ℕ). In j (reads z)) e x in
      let u : is_marked (sweep reads n (spread reads n m)) n ≡ true = rw e at t in
      let v : is_marked m n ≡ true = sym (above-spread n m n (omega arith))
      ∙ sym (above-sweep n (spread reads n m) n (omega arith)) ∙ u in
      let w : is_marked (spread reads n m) j
      ≡ true = rw (v, spread)
      (set-each m (reads n) j y (let a = low n j y in let b = marked-in m n v in omega arith)) in
      kept-sweep n (spread reads n m) j w)
      (λ l. closed-sweep n (spread reads n m) k j l t x) (eq-or-lt_of_le (le_of_suc-le-suc h))

  pub reached-le : (n : ℕ) {k : ℕ} → Reached reads n k → k ≤ n
  reached-le n self = omega arith
  reached-le n (read {k} {j} h x) = let w = low k j x in let v = reached-le n h in omega arith

  module _ (n : ℕ) (small : n < max_marks) where
    -- MARKED EXACTLY WHERE REACHED
    pub marks-sound : (k : ℕ) → is_marked (marks_by reads n) k ≡ true → Reached reads n k
    unfolding marks_by
    marks-sound =
        sound-sweep reads n max_marks (set no_marks n true)
        (λ k t. ⊎_elim (λ e. subst (λ (x : ℕ). Reached reads n x) (sym e) self) (λ u. absurd (clear max_marks k u))
        (which no_marks n k t))

    pub marks-complete : {k : ℕ} → Reached reads n k → is_marked (marks_by reads n) k ≡ true
    unfolding marks_by
    marks-complete self = kept-sweep max_marks (set no_marks n true) n
        (get_or-set_same no_marks n true false (rw (length-replicate max_marks false) small))
    marks-complete (read {k} {j} h x) = let w = reached-le n h in
        closed-sweep max_marks (set no_marks n true) k j (omega arith) (marks-complete h) x

    -- 1,024 of them
    pub marks-length : length (marks_by reads n) ≡ max_marks
    unfolding marks_by
    marks-length = length-sweep max_marks (set no_marks n true) ∙ length-set no_marks n true
        ∙ length-replicate max_marks false

-- a row that a reached row reaches is reached
pub reached-through : {reads : ℕ → List ℕ} {n k j : ℕ} → Reached reads n k → Reached reads k j → Reached reads n j
reached-through h self = h
reached-through h (read g x) = read (reached-through h g) x
