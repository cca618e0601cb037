-- Not part of any public statement: for proofs and code only. What the code of a row's rule goes by: earlier answers as
-- they stand in the answer buffer, and the forms of its operands' types (document 01, "What must change shape": the
-- `past` closure is a part of the answer buffer).
use Rattle.std.specs.Prelude.{ℕ, List, Option as CodeOption, Some, None, Ok, Err}
use Rattle.std.proofs.Math.Option.{Option, none, some}
use Rattle.ir.specs.declared.RowNumber.{RowNumber}
use Rattle.ir.specs.declared.TypeInner.{TypeInner}
use Rattle.answers.specs.Answer.{Answer}
use Rattle.answers.specs.declared.Refusal.TheVariants.{MissingSpecialType}
use Rattle.archive.specs.declared.Starts.{Starts}
use Rattle.rule.specs.Answers.{TypeAnswer, resolved, Typed, refused, row, Result, told, newer}
use Rattle.rule.specs.Things.{Form, member_types, sound_form, value_fault, form_in, Shown}
use Rattle.answers.specs.declared.Unresolved.{Unresolved}
use Rattle.answers.specs.declared.Unresolved.TheVariants as Un
use Rattle.row_operands.specs.Looked.{Looked}
use Rattle.rule_rows.specs.declared.Pass.{Pass}
use Rattle.rule_rows.specs.Typed.{resolve}
use Rattle.rule_rows.specs.OverBuffer.{answer_in, ruled}

-- and by the rule of row `here`, whose kind shows this, or nothing
abbrev pub ruled_shown : Pass → List ℕ → Starts → List ℕ → List ℕ → RowNumber → Option Shown → Result Typed
ruled_shown pass fr s answers places here (some x) = ruled fr s answers places (resolve pass here x)
ruled_shown pass fr s answers places here none = newer (row here)

-- a form as it is shown
abbrev pub formed : List ℕ → Starts → TypeInner → Form
formed fr s t = record { inner = t; members = member_types fr s t }

-- a row that ends with an operand's answer, which holds no type
abbrev pub ended_by : Unresolved → Result Typed
ended_by (Un.Refused e) = told (refused e)
ended_by (Un.Newer r) = newer (row r)

-- AN OPERAND IS READ AND ITS TYPE LOOKED INTO: the form, or the answer that the row ends with

abbrev pub looked_at : RowNumber → CodeOption TypeInner → Looked
looked_at here (Some i) = Ok i
looked_at here None = Err (Un.Newer here)

-- a value that an answer's frame holds
abbrev pub seen_by : Starts → RowNumber → CodeOption TypeInner → Looked
seen_by s here (Some t) = looked_at here (sound_form t (value_fault s t))
seen_by s here None = Err (Un.Refused MissingSpecialType)

abbrev pub looked_by : List ℕ → Starts → RowNumber → Answer → Looked
looked_by fr s here (Ok t) = looked_at here (form_in fr s (resolved t))
looked_by fr s here (Err (Un.Refused e)) = Err (Un.Refused e)
looked_by fr s here (Err (Un.Newer r)) = Err (Un.Newer r)

unfoldable pub looked_in : List ℕ → Starts → List ℕ → List ℕ → RowNumber → RowNumber → Looked
looked_in fr s answers places here n = looked_by fr s here (answer_in answers places n)

-- what a look goes by of the places where families begin: up to where types stand, and from where to where overrides
abbrev pub look_starts : ℕ → ℕ → ℕ → Starts
look_starts types overrides globals =
    record {
      members = types;
      constants = 0;
      overrides = overrides;
      globals = globals;
      arguments = 0;
      locals = 0;
      functions = 0;
      intersections = 0;
      vertex_returns = 0;
      rows = 0;
      components = 0;
      end = 0;
    }

-- TWO OPERANDS: left is read, then right, then left is looked into, then right; the answer f follows from both answers
-- and both forms

abbrev pub OfBoth : Type 0
OfBoth = TypeAnswer → TypeAnswer → TypeInner → TypeInner → Typed

abbrev pub right_by : OfBoth → RowNumber → TypeAnswer → TypeInner → TypeAnswer → CodeOption TypeInner → Result Typed
right_by f here a x b (Some y) = told (f a b x y)
right_by f here a x b None = newer (row here)

abbrev pub left_by : OfBoth → List ℕ → Starts → RowNumber → TypeAnswer → TypeAnswer → CodeOption TypeInner
    → Result Typed
left_by f fr s here a b (Some x) = right_by f here a x b (form_in fr s b)
left_by f fr s here a b None = newer (row here)

abbrev pub right_read : OfBoth → List ℕ → Starts → RowNumber → TypeAnswer → Answer → Result Typed
right_read f fr s here a (Ok b) = left_by f fr s here a (resolved b) (form_in fr s a)
right_read f fr s here a (Err (Un.Refused e)) = told (refused e)
right_read f fr s here a (Err (Un.Newer r)) = newer (row r)

abbrev pub left_read : OfBoth → List ℕ → Starts → RowNumber → Answer → Answer → Result Typed
left_read f fr s here right (Ok a) = right_read f fr s here (resolved a) right
left_read f fr s here right (Err (Un.Refused e)) = told (refused e)
left_read f fr s here right (Err (Un.Newer r)) = newer (row r)

-- the left type is of unknown kind: the right answer where it holds no type, or a newer thing here
abbrev pub right_end : RowNumber → Answer → Result Typed
right_end here (Ok b) = newer (row here)
right_end here (Err (Un.Refused e)) = told (refused e)
right_end here (Err (Un.Newer r)) = newer (row r)

-- the left shows no form: its answer where it holds no type, else by the right answer
abbrev pub left_end : RowNumber → Answer → Answer → Result Typed
left_end here right (Ok a) = right_end here right
left_end here right (Err (Un.Refused e)) = told (refused e)
left_end here right (Err (Un.Newer r)) = newer (row r)
