-- A row's answer (document 01, "A row's type"): its type, by number or by value, or why it has none.
use Rattle.std.specs.Prelude.{Result}
use Rattle.ir.specs.declared.TypeResolution.{TypeResolution}
use Rattle.answers.specs.declared.Unresolved.{Unresolved}

abbrev pub Answer : Type 0
Answer = Result TypeResolution Unresolved
