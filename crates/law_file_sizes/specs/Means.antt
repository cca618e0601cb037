-- What alignments, sizes and numbers say of a text, in the words of document 02's requests 5 and 6.
use Rattle.std.specs.Prelude.{ℕ, ◌≡◌, true, false, List}
use Rattle.ir.specs.declared.TypeNumber.{TypeNumber}
use Rattle.text.specs.declared.AnswerRoom.TheVariants.{NotLent}
use Rattle.text.specs.Lines.{decoded}
use Rattle.archive.specs.Starts.{starts_of}
use Rattle.archive.specs.Names.{is_type}
use Rattle.rule_sizes.specs.declared.Alignment.{Alignment}
use Rattle.rule_sizes.specs.declared.SizeFault.{SizeFault}
use Rattle.rule_ranges.specs.Counts.{Counts}
use Rattle.rule_ranges.specs.Meaning.{AllSpan}
use Rattle.rule_ranges.specs.MeaningAt.{HasAt, LowestFaultAt}
use Rattle.rule_file_sizes.specs.Ranges.{tables_short}
use Rattle.law_file.proofs.Laws.{Accepts}

-- the text is accepted, with a frame buffer of f bytes; it has type n; and this holds of its frames
pub record Of (limit : ℕ) (t : List ℕ) (f : ℕ) (n : TypeNumber) (P : List ℕ → Type 0) : Type 0 where
  pub frames : ℕ
  pub accepted : Accepts limit t f NotLent frames
  pub there : is_type (starts_of (decoded t frames)) n ≡ true
  pub holds : P (decoded t frames)

-- both tables have 1,024 counts or more, the text is accepted, and this holds of its frames
pub record Read (limit : ℕ) (t : List ℕ) (f : ℕ) (least greatest : List ℕ) (P : List ℕ → Type 0) : Type 0 where
  pub tables : tables_short least greatest ≡ false
  pub frames : ℕ
  pub accepted : Accepts limit t f NotLent frames
  pub holds : P (decoded t frames)

-- a range: the type is there, each override has a good span, and the type has size y at the least counts and size z
-- at the greatest, with one alignment
pub record Ranges (least greatest : Counts) (n : TypeNumber) (a : Alignment) (y z : ℕ) (fr : List ℕ) : Type 0 where
  pub there : is_type (starts_of fr) n ≡ true
  pub spans : AllSpan fr least greatest
  pub low : HasAt fr least n a y
  pub high : HasAt fr greatest n a z

-- a refusal: the type is there, each override has a good span, and m is the lowest faulty type at the greatest counts
pub record Refuses (least greatest : Counts) (n : TypeNumber) (k : SizeFault) (m : TypeNumber) (fr : List ℕ)
    : Type 0 where
  pub there : is_type (starts_of fr) n ≡ true
  pub spans : AllSpan fr least greatest
  pub lowest : LowestFaultAt fr greatest n m k
