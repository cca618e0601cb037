-- Not part of any public statement: for proofs and code only. An answer that holds no type ends each row that reads it
-- (document 01, "A row's type": an operand's refusal passes on unchanged).
use Rattle.std.specs.Prelude.{Err}
use Rattle.answers.specs.Answer.{Answer}
use Rattle.answers.specs.declared.Unresolved.{Unresolved}

-- the answer that it is
abbrev pub answered : Unresolved → Answer
answered e = Err e
