-- What a look at an operand gives: the inner form of its type, or what ends the row that reads it (document 01, "A
-- row's
-- type": an operand's refusal passes on unchanged).
use Rattle.std.specs.Prelude.{Result}
use Rattle.ir.specs.declared.TypeInner.{TypeInner}
use Rattle.answers.specs.declared.Unresolved.{Unresolved}

abbrev pub Looked : Type 0
Looked = Result TypeInner Unresolved
