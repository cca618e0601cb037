-- MARKED EXACTLY WHERE FOLLOWED: a row is marked exactly where its own kind stands in the reading of the named row,
-- and every marked row but the named one is read by a marked row. Followed is reached by what rows read, both ways,
-- and the sweep marks what is reached.
use Prim.Native.Nat.{ℕ, zero, suc, ◌<◌, ◌≤◌}
use native.Mathlib.Decide.{dec_lt}
use native.Mathlib.Omega.{arith}
use mathlib.Core.Path.{◌≡◌, refl, sym, subst}
use mathlib.Core.Bool.{true}
use mathlib.Core.Logic.{◌⊎◌, inl, inr, ⊎_elim, ◌↔◌}
use mathlib.Core.List.{List, [], ◌∷◌}
use mathlib.Core.Option.{Option, none, some}
use Rattle.ir.specs.declared.RowNumber.{RowNumber}
use borrow.Author.Tests.{le-ltb}
use Rattle.archive.specs.Starts.{starts_of, row_count}
use Rattle.archive.specs.Access.{row_in}
use Rattle.rule.specs.Answers.{Typed, given, refused, chosen_refusal, Result, told, newer}
use Rattle.rule.specs.Things.{Shown, kind, see}
use Rattle.rule.specs.InOrder.{reading}
use Rattle.rule_rows.specs.declared.Pass.{Pass}
use Rattle.rule_rows.specs.Typed.{typing}
use Rattle.law_rows.specs.Reads.{reads}
use Rattle.law_rows.proofs.Good.{Good}
use Rattle.law_rows.proofs.Range.{row-there}
use Rattle.law_rows.proofs.NoDefault.{Earlier, operands-earlier}
use Rattle.law_cut.specs.Marks.{Stands, Follows, goes_on, read_to, operands_of, numbers, rows_read, max_marks, marks_of}
use Rattle.law_cut.specs.Marks.{is_marked}
use Rattle.law_cut.specs.Smallest.{In, first, next, ReadBy}
use Rattle.law_cut.proofs.Sweep.{Reached, self, read, marks-sound, marks-complete, reached-through, reached-le}
use Rattle.law_cut.proofs.Steps.{none_in}
use Rattle.law_cut.proofs.Reading.{read_of, answer-of, split, own-stands, read-stands}

module _ (pass : Pass) (fr : List ℕ) (good : Good fr) where
  abbrev count : ℕ
  count = row_count (starts_of fr)

  numbers-earlier : (n : ℕ) (l : List RowNumber) (j : ℕ) → Earlier (record { 0 = n }) l
      → In j (numbers (read_to (answer-of pass fr) l)) → j < n
  numbers-earlier n [] j h x = elim x [ ]
  numbers-earlier n (r ∷ l) j h first = h.0
  numbers-earlier n (r ∷ l) j h (next x) = more (answer-of pass fr r) x (numbers-earlier n l j h.1)
    where
      more : (o : Result Typed) → In j (numbers (goes_on o (read_to (answer-of pass fr) l)))
          → (In j (numbers (read_to (answer-of pass fr) l)) → j < n) → j < n
      more (told (given a)) z ih = ih z
      more (told (refused e)) z ih = none_in z
      more (told (chosen_refusal f)) z ih = none_in z
      more (newer p) z ih = none_in z

  -- a row of the file reads earlier rows
  reads-low : (n : ℕ) → n < count → (j : ℕ) → In j (rows_read pass fr n) → j < n
  unfolding rows_read
  reads-low n l j x = go (see fr (kind (record { 0 = n }))) refl (x)
    where
      go : (o : Option Shown) → see fr (kind (record { 0 = n })) ≡ o
          → In j (numbers (read_to (answer-of pass fr) (operands_of pass o))) → j < n
      go none q z = none_in z
      go (some s) q z = numbers-earlier n (reads pass s).operands j
          (operands-earlier pass fr (record { 0 = n }) good (row-there fr n l) s q) z

  -- FOLLOWED IS REACHED, both ways: by what rows read

  followed-below : (bound n : ℕ) (k : RowNumber) → n < bound → n < count → Stands k (read_of pass fr n).steps
      → Reached (rows_read pass fr) n k.0
  followed-below zero n k b l y = absurd (omega arith)
  followed-below (suc bound) n k b l y =
      ⊎_elim (λ q. subst (λ (x : ℕ). Reached (rows_read pass fr) n x) (sym q) self)
      (λ w. let r = w.0 in let low = reads-low n l r w.1.0 in
      reached-through (read self w.1.0) (followed-below bound r k (omega arith) (omega arith) w.1.1))
      (split pass fr good n k l y)

  -- what stands in the reading of a row that is read stands in the reading
  through-below : (bound n : ℕ) (k j : RowNumber) → n < bound → n < count → Stands k (read_of pass fr n).steps
      → Stands j (read_of pass fr k.0).steps → Stands j (read_of pass fr n).steps
  through-below zero n k j b l y z = absurd (omega arith)
  through-below (suc bound) n k j b l y z =
      ⊎_elim (λ q. subst (λ (x : ℕ). Stands j (read_of pass fr x).steps) q z)
      (λ w. let r = w.0 in let low = reads-low n l r w.1.0 in
      read-stands pass fr good n j l (r, (w.1.0, through-below bound r k j (omega arith) (omega arith) w.1.1 z)))
      (split pass fr good n k l y)

  reached-count : (n : ℕ) → n < count → {k : ℕ} → Reached (rows_read pass fr) n k → k ≤ n
  reached-count n l self = omega arith
  reached-count n l (read {k} {j} h x) = let w = reached-count n l h in let v = reads-low k (omega arith) j x in
      omega arith

  followed : (n : ℕ) → n < count → {k : ℕ} → Reached (rows_read pass fr) n k → Follows pass fr n k
  followed n l self = own-stands pass fr good n
  followed n l (read {k} {j} h x) =
      let w = reached-count n l h in
      through-below (suc n) n (record { 0 = k }) (record { 0 = j }) (omega arith) l (followed n l h)
      (read-stands pass fr good k (record { 0 = j }) (omega arith) (j, (x, own-stands pass fr good j)))

  pub reached-when : (n : ℕ) → n < count → (k : ℕ) → Follows pass fr n k ↔ Reached (rows_read pass fr) n k
  reached-when n l k = (λ y. followed-below (suc n) n (record { 0 = k }) (omega arith) l y, λ h. followed n l h)

  -- a row that is not there reads nothing
  not_there : (n : ℕ) → count ≤ n → see fr (kind (record { 0 = n })) ≡ none
  unfolding row_in
  not_there n l = rw (le-ltb n count l)

  no_reads : (n : ℕ) → count ≤ n → rows_read pass fr n ≡ []
  unfolding rows_read
  no_reads n l = rw (not_there n l)

  pub low : (n j : ℕ) → In j (rows_read pass fr n) → j < n
  low n j x = go (dec_lt n count)
    where
      go : Dec (n < count) → j < n
      go (yes l) = reads-low n l j x
      go (no l) = none_in (subst (λ (z : List ℕ). In j z) (no_reads n (omega arith)) x)

  module _ (n : ℕ) (there : n < count) (few : count ≤ max_marks) where
    -- A ROW IS MARKED EXACTLY WHERE THE READING FOLLOWS IT
    pub marked-when : (k : ℕ) → (is_marked (marks_of pass fr n) k ≡ true) ↔ Follows pass fr n k
    marked-when k = (
      λ h. (reached-when n there k).1 (marks-sound (rows_read pass fr) low n (omega arith) k h),
      λ y. marks-complete (rows_read pass fr) low n (omega arith) ((reached-when n there k).0 y),
    )

    reached-by : {k : ℕ} → Reached (rows_read pass fr) n k → (k ≡ n) ⊎ ReadBy pass fr (marks_of pass fr n) k
    reached-by self = inl refl
    reached-by (read {k} {j} h x) = inr
        (record { by = k; marked = marks-complete (rows_read pass fr) low n (omega arith) h; reads = x })

    -- EVERY MARK BUT THE NAMED ROW'S is on a row that a marked row reads
    pub marked_by : (k : ℕ) → is_marked (marks_of pass fr n) k ≡ true → (k ≡ n) ⊎ ReadBy pass fr (marks_of pass fr n) k
    marked_by k h = reached-by (marks-sound (rows_read pass fr) low n (omega arith) k h)

    -- the named row is marked, and no later one
    pub named-marked : is_marked (marks_of pass fr n) n ≡ true
    named-marked = marks-complete (rows_read pass fr) low n (omega arith) self

    pub marked-le : (k : ℕ) → is_marked (marks_of pass fr n) k ≡ true → k ≤ n
    marked-le k h = reached-le (rows_read pass fr) low n (marks-sound (rows_read pass fr) low n (omega arith) k h)

    -- what a marked row reads is marked
    pub read-marked : (k j : ℕ) → is_marked (marks_of pass fr n) k ≡ true → In j (rows_read pass fr k)
        → is_marked (marks_of pass fr n) j ≡ true
    read-marked k j h x = marks-complete (rows_read pass fr) low n (omega arith)
        (read (marks-sound (rows_read pass fr) low n (omega arith) k h) x)

    -- a row that stands in the reading of a marked row is marked
    pub stands-marked : (k : ℕ) (j : RowNumber) → is_marked (marks_of pass fr n) k ≡ true
        → Stands j (reading (see fr) (typing pass) k (typing pass k)) → is_marked (marks_of pass fr n) j.0 ≡ true
    stands-marked k j h y =
        (marked-when j.0).1
        (through-below (suc n) n (record { 0 = k }) j (omega arith) there ((marked-when k).0 h) y)
