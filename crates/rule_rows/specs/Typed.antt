-- The rule of every row: the source's ResolveContext::resolve (document 01, "A row's type"). A row's own kind is come
-- to first; an unknown kind and a Math row show nothing, and are newer.
use Rattle.std.specs.Prelude.{ℕ}
use Rattle.ir.specs.declared.RowNumber.{RowNumber}
use Rattle.rule.specs.Answers.{Typed, row}
use Rattle.rule.specs.Things.{Shown, kind}
use Rattle.rule.specs.Things as Row
use Rattle.rule.specs.Rule.{Rule, come}
use Rattle.rule_rows.specs.declared.Pass.{Pass}
use Rattle.rule_rows.specs.Access.{access, access_index, splat, swizzle}
use Rattle.rule_rows.specs.Variables.{literal, constant, override, zero_value, compose, function_argument}
use Rattle.rule_rows.specs.Variables.{global_variable, local_variable, load}
use Rattle.rule_rows.specs.Images.{image_sample, image_load, image_query}
use Rattle.rule_rows.specs.Operators.{unary, binary_by, select, derivative, relational, cast}
use Rattle.rule_rows.specs.Results.{atomic_result, subgroup_operation_result, work_group_uniform_load_result}
use Rattle.rule_rows.specs.Results.{call_result}
use Rattle.rule_rows.specs.Results.{array_length, ray_query_proceed_result}
use Rattle.rule_rows.specs.Results.{ray_query_get_intersection, ray_query_vertex_positions, subgroup_ballot_result}
use Rattle.rule_rows.specs.Results.{cooperative_load, cooperative_multiply_add}

-- by what the row `here` shows, in the order of the source's arms; the pass matters to Binary rows alone
abbrev pub resolve : Pass → RowNumber → Shown → Rule Typed
resolve pass here (Row.access base) = access here base
resolve pass here (Row.access_index base i) = access_index here base i
resolve pass here (Row.splat size n) = splat here size n
resolve pass here (Row.swizzle size n) = swizzle here size n
resolve pass here (Row.literal l) = literal l
resolve pass here (Row.constant t) = constant t
resolve pass here (Row.override t) = override t
resolve pass here (Row.zero_value t) = zero_value t
resolve pass here (Row.compose t parts) = compose t parts
resolve pass here (Row.function_argument i t) = function_argument i t
resolve pass here (Row.global_variable t s) = global_variable t s
resolve pass here (Row.local_variable t) = local_variable t
resolve pass here (Row.load pointer) = load here pointer
resolve pass here (Row.image_sample image gather) = image_sample here image gather
resolve pass here (Row.image_load image) = image_load here image
resolve pass here (Row.image_query image query) = image_query here image query
resolve pass here (Row.unary n) = unary n
resolve pass here (Row.binary op left right) = binary_by pass here op left right
resolve pass here (Row.atomic_result t) = atomic_result t
resolve pass here (Row.subgroup_operation_result t) = subgroup_operation_result t
resolve pass here (Row.work_group_uniform_load_result t) = work_group_uniform_load_result t
resolve pass here (Row.select accept) = select accept
resolve pass here (Row.derivative n) = derivative n
resolve pass here (Row.relational fun argument) = relational here fun argument
resolve pass here (Row.cast n to convert) = cast here n to convert
resolve pass here (Row.call_result r) = call_result r
resolve pass here Row.array_length = array_length
resolve pass here Row.ray_query_proceed_result = ray_query_proceed_result
resolve pass here (Row.ray_query_get_intersection t) = ray_query_get_intersection t
resolve pass here (Row.ray_query_vertex_positions t) = ray_query_vertex_positions t
resolve pass here Row.subgroup_ballot_result = subgroup_ballot_result
resolve pass here (Row.cooperative_load columns rows role pointer) = cooperative_load here columns rows role pointer
resolve pass here (Row.cooperative_multiply_add c) = cooperative_multiply_add c

-- the rule of row r
abbrev pub typed : Pass → RowNumber → Rule Typed
typed pass r = come (row r) (kind r) (resolve pass r)

-- the rules of a file's rows, by their numbers
abbrev pub typing : Pass → ℕ → Rule Typed
typing pass n = typed pass (record { 0 = n })
