-- What is handed back of the small file is what stands beside it: both sides compute to the same.
use mathlib.Core.Path.{◌≡◌, refl}
use Rattle.scan.specs.Lowest.{lowest, all_below}
use Rattle.scan.specs.Lists.{build, sum_below}
use Rattle.frames.specs.Bytes.{frame_at}
use Rattle.frames.specs.Forms.{type_of, item_of, row_of, member_of, component_of}
use Rattle.archive.specs.Starts.{start, starts_of}
use Rattle.archive.specs.Access.{type_in, row_in}
use Rattle.rule.specs.Things.{listed}
use Rattle.rule_rows.specs.declared.Pass.TheVariants.{First}
use Rattle.rule_compose.specs.Verdict.{vector_parts}
use Rattle.rule_answers.specs.Outputs.{outputs, frames_bytes, output_bytes}
use Rattle.rule_answers.specs.Cases.{composed_file, handed_back}

pub worked : output_bytes First composed_file ≡ handed_back
unfolding lowest all_below build sum_below frame_at type_of item_of row_of member_of component_of start starts_of
    listed type_in row_in vector_parts outputs frames_bytes
worked = refl
