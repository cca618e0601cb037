-- THE READING OF A ROW by what it reads: a row stands in it exactly where it is the row itself, or stands in the
-- reading of a row that it reads. By the table of readings (`file-reads`): a row's reading is its own kind, then the
-- readings of the rows that it reads; what it looks into is no row.
use Prim.Native.Nat.{ℕ, ◌<◌}
use mathlib.Core.Path.{◌≡◌, refl, sym, ap, ◌∙◌, subst}
use mathlib.Core.Logic.{◌⊎◌, inl, inr, ⊎_elim}
use mathlib.Core.List.{List, [], ◌∷◌}
use mathlib.Core.Option.{Option, none, some}
use Rattle.ir.specs.declared.RowNumber.{RowNumber}
use Rattle.archive.specs.Starts.{starts_of, row_count}
use Rattle.rule.specs.Answers.{TypeAnswer, Typed, given, refused, chosen_refusal, Place, row, Result, told, newer}
use Rattle.rule.specs.Things.{Shown, kind, see}
use Rattle.rule.specs.Rule.{Step, Reading, Readings, follow}
use Rattle.rule.specs.InOrder.{absent, among_readings, readings}
use Rattle.rule.specs.ForProofs.{end_or}
use Rattle.rule.specs.Rule.{met}
use Rattle.rule.proofs.InOrder.{in-order-at}
use Rattle.rule.proofs.Later.{determined}
use Rattle.rule_rows.specs.declared.Pass.{Pass}
use Rattle.rule_rows.specs.Typed.{typing}
use Rattle.law_rows.specs.Reads.{reads, unless_refused, operand_steps, look_steps, shown_steps}
use Rattle.law_rows.proofs.Reading.{file-reads}
use Rattle.rule_answers.specs.Outputs.{row_answer}
use Rattle.law_rows.proofs.Good.{Good}
use Rattle.law_rows.proofs.Ranged.{Each}
use Rattle.law_rows.proofs.Range.{row-there}
use Rattle.law_rows.proofs.NoDefault.{Earlier, operands-earlier}
use Rattle.law_cut.specs.Marks.{Stands, here, later, goes_on, read_to, numbers, rows_read}
use Rattle.law_cut.specs.Smallest.{In, first, next}
use Rattle.law_cut.proofs.Steps.{stands-in, stands-left, stands-right, at_first, none-stands, none_in}
use Rattle.law_cut.proofs.Steps.{looks-stand}

module _ (pass : Pass) (fr : List ℕ) where
  -- the reading of row n
  abbrev pub read_of : ℕ → Reading Typed
  read_of n = follow (see fr) (among_readings (readings (see fr) (typing pass) n)) (typing pass n)

  abbrev pub answer-of : RowNumber → Result Typed
  answer-of r = row_answer pass (see fr) r.0

  earlier-is : (n : ℕ) (r : RowNumber) → r.0 < n → among_readings (readings (see fr) (typing pass) n) r ≡ read_of r.0
  earlier-is n r l =
      in-order-at (λ earlier m. follow (see fr) (among_readings earlier) (typing pass m))
      (record { steps = []; end = some absent }) n r.0 l

  -- a row's answer is told by its reading's end
  told-end : (n : ℕ) (t : Typed) → (read_of n).end ≡ some t → row_answer pass (see fr) n ≡ told t
  told-end n t e = determined (see fr) (typing pass) (λ m. told absent) n (typing pass n) ∙ rw e

  newer-end : (n : ℕ) {A : Type 0} (P : Result Typed → A) (d : A) → ((p : Place) → P (newer p) ≡ d) → (read_of n).end
      ≡ none → P (row_answer pass (see fr) n) ≡ d
  newer-end n P d h e = ap P (determined (see fr) (typing pass) (λ m. told absent) n (typing pass n))
      ∙ rw e (go (met (see fr) (read_of n).steps))
    where
      go : (o : Option Place) → P (end_or o none) ≡ d
      go (some p) = h p
      go none = h _

  module _ (k : RowNumber) (earlier : Readings) where
    -- OPERANDS, each of which has its own reading
    abbrev Own : List RowNumber → Type 0
    Own l = Each (λ (r : RowNumber). earlier r ≡ read_of r.0) l

    abbrev Through : List RowNumber → Type 0
    Through l = (r : ℕ) × (In r (numbers (read_to answer-of l)) × Stands k (read_of r).steps)

    push : (n : RowNumber) (ns : List RowNumber) (a : TypeAnswer) → answer-of n ≡ told (given a) → Through ns
        → Through (n ∷ ns)
    push n ns a q (r, (x, y)) = (r, (rw (q, read_to, goes_on) (next x), y))

    operands-split : (l : List RowNumber) (rest : List TypeAnswer → List Step)
        → ((ts : List TypeAnswer) → Stands k (rest ts) → ⊥)
        → Own l → Stands k (operand_steps earlier l rest) → Through l
    operands-split [] rest h own y = absurd (h [] y)
    operands-split (n ∷ ns) rest h own y =
        ⊎_elim (λ x. (n.0, (first, subst (λ (z : Reading Typed). Stands k z.steps) own.0 x)))
        (more (earlier n).end refl (λ a z. operands-split ns (λ ts. rest (a ∷ ts)) (λ ts. h (a ∷ ts)) own.1 z))
        (stands-in (earlier n).steps _ y)
      where
        more : (o : Option Typed) → (earlier n).end ≡ o
            → ((a : TypeAnswer) → Stands k (operand_steps earlier ns (λ ts. rest (a ∷ ts))) → Through ns)
            → Stands k (unless_refused (earlier n).end (λ a. operand_steps earlier ns (λ ts. rest (a ∷ ts))))
            → Through (n ∷ ns)
        more none q ih z = none-stands (rw (q, unless_refused) at z)
        more (some (given a)) q ih z =
            push n ns a (told-end n.0 (given a) (ap (λ (w : Reading Typed). w.end) (sym own.0) ∙ q))
            (ih a (rw (q, unless_refused) at z))
        more (some (refused e)) q ih z = none-stands (rw (q, unless_refused) at z)
        more (some (chosen_refusal f)) q ih z = none-stands (rw (q, unless_refused) at z)

    operands-stand : (l : List RowNumber) (rest : List TypeAnswer → List Step) → Own l → (r : ℕ)
        → In r (numbers (read_to answer-of l)) → Stands k (read_of r).steps
        → Stands k (operand_steps earlier l rest)
    operands-stand [] rest own r x y = elim x [ ]
    operands-stand (n ∷ ns) rest own r first y = stands-left (earlier n).steps _
        (subst (λ (z : Reading Typed). Stands k z.steps) (sym own.0) y)
    operands-stand (n ∷ ns) rest own r (next x) y = stands-right (earlier n).steps _
        (more (earlier n).end refl x (λ a z. operands-stand ns (λ ts. rest (a ∷ ts)) own.1 r z y))
      where
        ended : (t : Typed) → (earlier n).end ≡ some t → answer-of n ≡ told t
        ended t q = told-end n.0 t (ap (λ (w : Reading Typed). w.end) (sym own.0) ∙ q)

        more : (o : Option Typed) → (earlier n).end ≡ o → In r (numbers (goes_on (answer-of n) (read_to answer-of ns)))
            → ((a : TypeAnswer) → In r (numbers (read_to answer-of ns))
            → Stands k (operand_steps earlier ns (λ ts. rest (a ∷ ts))))
            → Stands k (unless_refused (earlier n).end (λ a. operand_steps earlier ns (λ ts. rest (a ∷ ts))))
        more none q z ih =
            let w : numbers (goes_on (answer-of n) (read_to answer-of ns)) ≡ [] =
            newer-end n.0 (λ (x : Result Typed). numbers (goes_on x (read_to answer-of ns))) [] (λ p. refl)
            (ap (λ (w : Reading Typed). w.end) (sym own.0) ∙ q) in
            none_in (subst (λ (l : List ℕ). In r l) w z)
        more (some (given a)) q z ih = rw (q, unless_refused) (ih a (rw (ended (given a) q, goes_on) at z))
        more (some (refused e)) q z ih = none_in (rw (ended (refused e) q, goes_on) at z)
        more (some (chosen_refusal f)) q z ih = none_in (rw (ended (chosen_refusal f) q, goes_on) at z)

  module _ (good : Good fr) where
    abbrev count : ℕ
    count = row_count (starts_of fr)

    -- the rows that row n reads are earlier
    own-each : (n : ℕ) (l : List RowNumber) → Earlier (record { 0 = n }) l
        → Own (record { 0 = 0 }) (among_readings (readings (see fr) (typing pass) n)) l
    own-each n [] h = tt
    own-each n (r ∷ l) h = (earlier-is n r h.0, own-each n l h.1)

    abbrev Read : ℕ → RowNumber → Type 0
    Read n k = (r : ℕ) × (In r (rows_read pass fr n) × Stands k (read_of r).steps)

    shown-split : (n : ℕ) (k : RowNumber) → n < count → (o : Option Shown) → see fr (kind (record { 0 = n })) ≡ o
        → Stands k (shown_steps pass (see fr) (among_readings (readings (see fr) (typing pass) n)) (record { 0 = n }) o)
        → Read n k
    unfolding rows_read
    shown-split n k l none q y = none-stands y
    shown-split n k l (some x) q y =
        let t = operands-split k (among_readings (readings (see fr) (typing pass) n)) (reads pass x).operands
        (λ ts. look_steps (see fr) (row (record { 0 = n })) ts (reads pass x).looks)
        (λ ts z. looks-stand (see fr) (row (record { 0 = n })) ts (reads pass x).looks z)
        (own-each n (reads pass x).operands (operands-earlier pass fr (record { 0 = n }) good (row-there fr n l) x q))
        y in
        rw q t

    shown-stands : (n : ℕ) (k : RowNumber) → n < count → (o : Option Shown) → see fr (kind (record { 0 = n })) ≡ o
        → Read n k
        → Stands k (shown_steps pass (see fr) (among_readings (readings (see fr) (typing pass) n)) (record { 0 = n }) o)
    unfolding rows_read
    shown-stands n k l none q (r, (x, y)) = let z : In r [] = rw q at x in none_in z
    shown-stands n k l (some s) q (r, (x, y)) =
        operands-stand k (among_readings (readings (see fr) (typing pass) n)) (reads pass s).operands
        (λ ts. look_steps (see fr) (row (record { 0 = n })) ts (reads pass s).looks)
        (own-each n (reads pass s).operands (operands-earlier pass fr (record { 0 = n }) good (row-there fr n l) s q))
        r (rw q at x) y

    -- a row stands in the reading of row n: it is n, or stands in the reading of a row that n reads
    pub split : (n : ℕ) (k : RowNumber) → n < count → Stands k (read_of n).steps → (k.0 ≡ n) ⊎ Read n k
    split n k l y =
        ⊎_elim (λ q. inl (ap (λ (r : RowNumber). r.0) q))
        (λ z. inr (shown-split n k l (see fr (kind (record { 0 = n }))) refl z))
        (at_first k (record { 0 = n }) (row (record { 0 = n })) _
        (subst (λ (z : List Step). Stands k z) (file-reads pass fr n) y))

    pub own-stands : (n : ℕ) → Stands (record { 0 = n }) (read_of n).steps
    own-stands n = subst (λ (z : List Step). Stands (record { 0 = n }) z) (sym (file-reads pass fr n)) here

    pub read-stands : (n : ℕ) (k : RowNumber) → n < count → Read n k → Stands k (read_of n).steps
    read-stands n k l y =
        subst (λ (z : List Step). Stands k z) (sym (file-reads pass fr n))
        (later (shown-stands n k l (see fr (kind (record { 0 = n }))) refl y))
