-- Which rows have a verdict (document 01, "A compose's verdict"): each compose has one, after its answer, and no other
-- row.
use Rattle.std.specs.Prelude.{ℕ, List}
use Rattle.std.proofs.Math.Option.{Option, none, some}
use Rattle.ir.specs.declared.RowNumber.{RowNumber}
use Rattle.rule.specs.Answers.{Judgement, Result, newer}
use Rattle.rule.specs.Things.{Shown, Sight, kind}
use Rattle.rule.specs.Things as Row
use Rattle.rule.specs.Rule.{Rule}
use Rattle.rule.specs.InOrder.{ours}
use Rattle.rule_rows.specs.declared.Pass.{Pass}
use Rattle.rule_rows.specs.Typed.{typing}
use Rattle.rule_compose.specs.Verdict.{verdict}

-- the rule of a row's verdict, by what the row shows
abbrev pub of_compose : Shown → Option (Rule Judgement)
of_compose (Row.literal x) = none
of_compose (Row.constant x) = none
of_compose (Row.override x) = none
of_compose (Row.zero_value x) = none
of_compose (Row.compose t parts) = some (verdict t parts)
of_compose (Row.access x) = none
of_compose (Row.access_index x y) = none
of_compose (Row.splat x y) = none
of_compose (Row.swizzle x y) = none
of_compose (Row.function_argument x y) = none
of_compose (Row.global_variable x y) = none
of_compose (Row.local_variable x) = none
of_compose (Row.load x) = none
of_compose (Row.image_sample x y) = none
of_compose (Row.image_load x) = none
of_compose (Row.image_query x y) = none
of_compose (Row.unary x) = none
of_compose (Row.binary x y z) = none
of_compose (Row.select x) = none
of_compose (Row.derivative x) = none
of_compose (Row.relational x y) = none
of_compose (Row.cast x y z) = none
of_compose (Row.call_result x) = none
of_compose (Row.atomic_result x) = none
of_compose (Row.work_group_uniform_load_result x) = none
of_compose Row.array_length = none
of_compose (Row.ray_query_vertex_positions x) = none
of_compose Row.ray_query_proceed_result = none
of_compose (Row.ray_query_get_intersection x) = none
of_compose Row.subgroup_ballot_result = none
of_compose (Row.subgroup_operation_result x) = none
of_compose (Row.cooperative_load x y z u) = none
of_compose (Row.cooperative_multiply_add x) = none

abbrev pub of_shown : Option Shown → Option (Rule Judgement)
of_shown (some x) = of_compose x
of_shown none = none

-- the rule of row n's verdict, where row n is a compose
abbrev pub verdict_rule : Sight → ℕ → Option (Rule Judgement)
verdict_rule sight n = of_shown (sight (kind (record { 0 = n })))

-- our verdict on row n, over the answers of the rows before it
abbrev pub judged : Pass → Sight → ℕ → Option (Rule Judgement) → Option (Result Judgement)
judged pass sight n (some rule) = some (ours sight (typing pass) n rule)
judged pass sight n none = none

abbrev pub verdict_of : Pass → Sight → ℕ → Option (Result Judgement)
verdict_of pass sight n = judged pass sight n (verdict_rule sight n)
