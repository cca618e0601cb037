-- Four readers that the claim shuts out. Document 01, "A row's type": the claim shuts out the reader that calls
-- everything newer or says so before reading. "Likely errors": refusing a Load because another row is newer. "Numbers
-- handed back", 22: the row where it was met. The last three go wrong where any reader r, ours for one, is right.
use Rattle.std.specs.Prelude.{ℕ, zero, suc, Bool, cond, not, ◌&&◌, ◌||◌, List, eqb, ltb, get_or}
use Rattle.scan.specs.Lowest.{all_below}
use Rattle.text.specs.Lines.{line_count, decoded}
use Rattle.frames.specs.declared.Frame.{Frame}
use Rattle.frames.specs.Bytes.{byte, frame_at}
use Rattle.rule.specs.Answers.{row, composed, nowhere, newer}
use Rattle.law_later_readers.specs.Reader.{Reader, row_bytes, verdict_bytes, compared_bytes}

-- a row's number 22 at row m
abbrev pub newer_at_row : ℕ → List ℕ
newer_at_row m = row_bytes (newer (row (record { 0 = m })))

-- EVERYTHING IS NEWER: every row, at itself; every verdict, at the composed type; every comparison
abbrev pub all_newer : Reader
all_newer =
    record {
      row = λ t m. newer_at_row m;
      verdict = λ t m. verdict_bytes m (newer composed);
      same = λ t a b. compared_bytes (newer nowhere);
    }

-- NEWER BEFORE READING: every row, at itself, as soon as the file has a newer kind anywhere

-- a number is outside 1 to n
abbrev pub outside : ℕ → ℕ → Bool
outside n k = eqb k 0 || ltb n k

-- a type of unknown kind, a row of unknown kind or a Math row, by the bytes of its frame
abbrev pub has_newer_kind : Frame → Bool
has_newer_kind f = (eqb (byte f 0) 1 && outside 14 (byte f 1)) ||
    (eqb (byte f 0) 4 && (outside 34 (byte f 1) || eqb (byte f 1) 22))

abbrev pub holds_newer : List ℕ → Bool
holds_newer t = not (all_below (λ (k : ℕ). not (has_newer_kind (frame_at (decoded t (line_count t)) k))) (line_count t))

abbrev pub newer_before_reading : Reader → Reader
newer_before_reading r =
    record { row = λ t m. cond (holds_newer t) (newer_at_row m) (r.row t m); verdict = r.verdict; same = r.same }

-- NEWER BECAUSE ANOTHER ROW IS: a row passes on the first 22 of all earlier rows, whether it reads them or not

-- a row's bytes are a 22
abbrev pub is_newer : List ℕ → Bool
is_newer b = eqb (get_or b 0 0) 10 && eqb (get_or b 1 0) 22

-- the first of rows 0 to m - 1 that is 22, else the bytes given
abbrev pub first_newer : (ℕ → List ℕ) → ℕ → List ℕ → List ℕ
first_newer rows zero b = b
first_newer rows (suc m) b = first_newer rows m (cond (is_newer (rows m)) (rows m) b)

abbrev pub newer_as_another : Reader → Reader
newer_as_another r = record { row = λ t m. first_newer (r.row t) m (r.row t m); verdict = r.verdict; same = r.same }

-- THE PLACE ITS OWN ROW: every row's 22 names that row, and not where it was met
abbrev pub newer_at_itself : Reader → Reader
newer_at_itself r = record {
  row = λ t m. cond (is_newer (r.row t m)) (newer_at_row m) (r.row t m);
  verdict = r.verdict;
  same = r.same;
}
