-- What it is to be the smallest part (document 02, request 12): of all sets of rows that hold the named row and, with
-- each row, every row that this reads, the one that lies in all of them.
use Rattle.std.specs.Prelude.{ℕ, ◌<◌, ◌≡◌, Bool, true, List, ◌∷◌}
use Rattle.archive.specs.Starts.{starts_of, row_count}
use Rattle.rule_rows.specs.declared.Pass.{Pass}
use Rattle.law_cut.specs.Marks.{rows_read, is_marked}

-- row x is one of these
pub data In (x : ℕ) : List ℕ → Type 0 where
  first : {l : List ℕ} → In x (x ∷ l)
  next : {y : ℕ} {l : List ℕ} → In x l → In x (y ∷ l)

-- a marked row reads row k
pub record ReadBy (pass : Pass) (fr : List ℕ) (marks : List Bool) (k : ℕ) : Type 0 where
  pub by : ℕ
  pub marked : is_marked marks by ≡ true
  pub reads : In k (rows_read pass fr by)

-- marks that row n has, and with every marked row of the file the rows that it reads
pub record Closed (pass : Pass) (fr : List ℕ) (n : ℕ) (marks : List Bool) : Type 0 where
  pub named : is_marked marks n ≡ true
  pub reads : (k j : ℕ) → is_marked marks k ≡ true → k < row_count (starts_of fr) → In j (rows_read pass fr k)
      → is_marked marks j ≡ true

-- the least of these: each mark of it stands in each of them
pub record Least (pass : Pass) (fr : List ℕ) (n : ℕ) (marks : List Bool) : Type 0 where
  pub closed : Closed pass fr n marks
  pub least : (other : List Bool) → Closed pass fr n other → (k : ℕ) → is_marked marks k ≡ true
      → is_marked other k ≡ true
