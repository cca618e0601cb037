-- What the laws on the two passes speak of (document 02, request 3): Binary rows by their bytes, and Binary rows of
-- typed and known operands.
use Rattle.std.specs.Prelude.{ℕ, ◌+◌, ◌<◌, ◌≡◌, List, [], ◌∷◌, ◌↔◌}
use Rattle.std.proofs.Math.Option.{some}
use Rattle.ir.specs.declared.RowNumber.{RowNumber}
use Rattle.ir.specs.declared.BinaryOperator.{BinaryOperator}
use Rattle.ir.specs.declared.TypeInner.{TypeInner}
use Rattle.ir.specs.Numbers.{binary_operator_of}
use Rattle.answers.specs.declared.Refusal.TheVariants.{Mismatch}
use Rattle.frames.specs.Bytes.{byte, half, frame_at}
use Rattle.archive.specs.Starts.{starts_of, row_count}
use Rattle.rule.specs.Answers.{TypeAnswer, value, given, refused, told}
use Rattle.rule.specs.Things.{Form, kind, form, texels, struct_number, fault, see}
use Rattle.rule.specs.Rule.{Step, step}
use Rattle.rule_rows.specs.declared.Pass.TheVariants.{Second}
use Rattle.rule_rows.specs.WgslTables.{Wgsl}
use Rattle.rule_answers.specs.Outputs.{row_answer}
use Rattle.law_verdicts.specs.Each.{row_kind}

-- row n of a file, whose frames these are, is a Binary row: kind 18 in byte 1 of its frame (document 01, "The file")
abbrev pub IsBinary : List ℕ → ℕ → Type 0
IsBinary fr n = row_kind fr n ≡ 18

-- a step of a reading comes to no Binary row
abbrev pub NotToBinary : List ℕ → Step → Type 0
NotToBinary fr (step p (kind r)) = IsBinary fr r.0 → ⊥
NotToBinary fr (step p (form a)) = Unit {0}
NotToBinary fr (step p (texels c)) = Unit {0}
NotToBinary fr (step p (struct_number a)) = Unit {0}
NotToBinary fr (step p (fault a)) = Unit {0}

-- a reading comes to none
abbrev pub ComesToNoBinary : List ℕ → List Step → Type 0
ComesToNoBinary fr [] = Unit {0}
ComesToNoBinary fr (x ∷ xs) = NotToBinary fr x × ComesToNoBinary fr xs

-- a file has none
abbrev pub HasNoBinary : List ℕ → Type 0
HasNoBinary fr = (n : ℕ) → n < row_count (starts_of fr) → IsBinary fr n → ⊥

-- what a Binary row holds: its operator in b6, its left operand in b2-3, its right in b4-5
abbrev pub operator_at : List ℕ → ℕ → BinaryOperator
operator_at fr n = binary_operator_of (byte (frame_at fr ((starts_of fr).rows + n)) 6)

abbrev pub left_at : List ℕ → ℕ → ℕ
left_at fr n = half (frame_at fr ((starts_of fr).rows + n)) 2

abbrev pub right_at : List ℕ → ℕ → ℕ
right_at fr n = half (frame_at fr ((starts_of fr).rows + n)) 4

-- operand m is typed in the second pass, and its type is of known kind: the answer, and the form that it shows
pub record Known (fr : List ℕ) (m : ℕ) : Type 0 where
  pub answer : TypeAnswer
  pub typed : row_answer Second (see fr) m ≡ told (given answer)
  pub shows : Form
  pub known : see fr (form answer) ≡ some shows

-- what the second pass gives for a Binary row of two typed and known operands: the value t exactly where a line of
-- WGSL's tables gives t, and number 41 exactly where none does
pub record Judged (fr : List ℕ) (n : ℕ) (left : Known fr (left_at fr n)) (right : Known fr (right_at fr n)) : Type
    0 where
  pub gives : (t : TypeInner)
      → (row_answer Second (see fr) n ≡ told (given (value t))) ↔ Wgsl (operator_at fr n) left.shows.inner
      right.shows.inner t
  pub mismatch : (row_answer Second (see fr) n ≡ told (refused Mismatch))
      ↔ ((t : TypeInner) → Wgsl (operator_at fr n) left.shows.inner right.shows.inner t → ⊥)
